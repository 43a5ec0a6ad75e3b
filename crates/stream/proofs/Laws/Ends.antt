-- Where the text ends: the jobs that are done there, and those that are not.
use Rattle.std.specs.Prelude.{◌≡◌, Bool, leb, length}
use Rattle.std.proofs.Math.Path.{refl}
use Rattle.std.proofs.Common.{◌∙◌}
use mathlib.Core.List.{List, [], ◌∷◌, ◌++◌}
use Prim.Native.Nat.{ℕ, zero, suc}
use Rattle.std.proofs.Math.Bool.{true, false, cond}
use Rattle.grammar.specs.Bytes.{ascii, name_start, letter, name_byte, begins}
use Rattle.grammar.specs.Read.{fail, bind, test, mark, byte, span, alt}
use Rattle.grammar.specs.Parser.{stands_for, name_at, gap_at, equals_at, value_at, reference_at, line_end_at, remark_at, plain_at, dashed_at}
use Rattle.grammar.specs.Parser.{literal_at, space_at, value_character_at, data_character_at, skipped_at, comment_at, look, at_close}
use Rattle.grammar.specs.Parser.{at_comment, at_element, look_if, look_by, look₂, look₃, declaration_at, declaration_if, end_at, element_at}
use Rattle.grammar.specs.Parser.{contents_by, encoding_if_lem, setting_at, ends}
use Rattle.steps.proofs.Laws.Until.{until_go}
use Rattle.steps.proofs.Laws.Data.{data_nil}
use Rattle.steps.specs.Leaves.{comment_rest_at, value_rest_at, data_rest_at, doctype_rest_at}
use Rattle.steps.proofs.Laws.Leaves.{remark_eats, value_character_eats, data_character_eats, skipped_eats}
use Rattle.steps.specs.Tags.{close_at}
use Rattle.steps.specs.Prologue.{quoted_at, encoding_at}
use Rattle.stream.specs.Jobs
use Rattle.stream.specs.Jobs.{Job, idle, quote_of}
use Rattle.stream.proofs.Laws.Meets.{Passing, leads, meets, enclosed, attributed, key_valued, key_named, root, typing, rooted, encoded}
use Rattle.stream.proofs.Laws.Meets.{leads_fail}
use Rattle.stream.proofs.Laws.Remarks.{plain_dash, raw_reads}
use Rattle.stream.proofs.Laws.Tags.{attributed_step}
use Rattle.stream.proofs.Laws.Contents.{looked, bracket_reads}
use Rattle.stream.proofs.Laws.Round.{asides_end, angle_end, mark_end, untyped}

-- COMMENTS, CDATA, A DOCTYPE, VALUES
no_remark : remark_at [] ≡ fail
unfolding remark_at plain_at dashed_at literal_at byte mark bind alt
no_remark = refl

no_comment : comment_rest_at [] ≡ fail
unfolding comment_rest_at begins bind
no_comment = until_go (begins (ascii "--")) remark_at (mark (ascii "-->")) remark_eats [] refl ∙ rw no_remark

one_dash : remark_at (45 ∷ []) ≡ fail
unfolding remark_at dashed_at plain_at literal_at byte bind alt mark test
one_dash = rw (plain_dash [])

no_comment_dash : comment_rest_at (45 ∷ []) ≡ fail
unfolding comment_rest_at begins bind
no_comment_dash = until_go (begins (ascii "--")) remark_at (mark (ascii "-->")) remark_eats (45 ∷ []) refl ∙ rw one_dash

no_data : data_rest_at [] ≡ fail
unfolding data_rest_at begins bind
no_data = until_go (begins (ascii "]]>")) data_character_at (mark (ascii "]]>")) data_character_eats [] refl ∙ rw data_nil

no_skipped : skipped_at [] ≡ fail
unfolding skipped_at literal_at byte bind
no_skipped = refl

no_doctype : doctype_rest_at [] ≡ fail
unfolding doctype_rest_at begins bind
no_doctype = until_go (begins (ascii ">")) skipped_at (mark (ascii ">")) skipped_eats [] refl ∙ rw no_skipped

no_character : (q : ℕ) → value_character_at q [] ≡ fail
unfolding value_character_at reference_at stands_for line_end_at space_at literal_at byte mark bind alt
no_character q = refl

no_value : (q : ℕ) → value_rest_at q [] ≡ fail
unfolding value_rest_at begins bind
no_value q = until_go (begins (q ∷ [])) (value_character_at q) (mark (q ∷ [])) (value_character_eats q) [] refl ∙ rw (no_character q)

module _ (k : Passing) where
  raw_open : meets Jobs.raw k [] ≡ false
  unfolding meets
  raw_open = leads_fail _ _ no_data

  raw_bracket_open : meets Jobs.raw k (93 ∷ []) ≡ false
  unfolding begins
  raw_bracket_open = raw_reads k [] refl ∙ raw_open

  raw_brackets_open : meets Jobs.raw k (93 ∷ 93 ∷ []) ≡ false
  unfolding begins
  raw_brackets_open = raw_reads k (93 ∷ []) refl ∙ raw_bracket_open

  -- TAGS AND CONTENTS
  no_tag : (d : ℕ) (n : List ℕ) (l : List (List ℕ)) → attributed d n l k [] ≡ false
  unfolding ends gap_at byte bind leads
  no_tag d n l = attributed_step d n l k []

  name_cut : (n : List ℕ) (f : List ℕ → Passing) → f (n ++ []) [] ≡ false
      → leads (span name_byte []) (λ w r. cond (leb (length (n ++ w)) 64) (f (n ++ w) r) false) ≡ false
  unfolding span leads
  name_cut n f e = go (leb (length (n ++ [])) 64)
    where
      go : (t : Bool) → cond t (f (n ++ []) []) false ≡ false
      go true = e
      go false = refl

  no_equals : (d : ℕ) (n : List ℕ) (l : List (List ℕ)) (m : List ℕ) → key_valued d n l m k [] ≡ false
  unfolding key_valued equals_at span mark bind leads
  no_equals d n l m = refl

  no_key : (d : ℕ) (n : List ℕ) (l : List (List ℕ)) → meets (Jobs.gapped d n l) k [] ≡ false
  unfolding meets ends span key_named name_at byte bind leads
  no_key d n l = refl

  no_close : (n : List ℕ) → close_at n [] ≡ fail
  unfolding close_at mark bind
  no_close n = refl

  unended : (d : ℕ) (n : List ℕ) → enclosed d n k [] ≡ false
  unfolding look contents_by leads
  unended d n = looked d n k [] at_close refl ∙ leads_fail _ _ (no_close n)

  bracket_open : (d : ℕ) (n : List ℕ) → enclosed d n k (93 ∷ []) ≡ false
  unfolding begins
  bracket_open d n = bracket_reads d n k [] refl ∙ unended d n

  brackets_open : (d : ℕ) (n : List ℕ) → enclosed d n k (93 ∷ 93 ∷ []) ≡ false
  unfolding begins
  brackets_open d n = bracket_reads d n k (93 ∷ []) refl ∙ bracket_open d n

  angle_open : (d : ℕ) (n : List ℕ) → enclosed d n k (60 ∷ []) ≡ false
  unfolding look look_if look₂ contents_by element_at name_at byte mark test bind leads
  angle_open zero n = looked zero n k (60 ∷ []) at_element refl
  angle_open (suc d) n = looked (suc d) n k (60 ∷ []) at_element refl

  angle_mark_open : (d : ℕ) (n : List ℕ) → enclosed d n k (60 ∷ 33 ∷ []) ≡ false
  unfolding look look_if look₂ look_by look₃ contents_by comment_at mark test bind leads
  angle_mark_open d n = looked d n k (60 ∷ 33 ∷ []) at_comment refl

  -- ROUND THE ROOT
  unrooted : (t : Bool) → rooted t k [] ≡ false
  unfolding rooted root element_at mark bind leads begins
  unrooted t = asides_end (typing t k) ∙ untyped k t [] refl

  unrooted_angle : (t : Bool) → rooted t k (60 ∷ []) ≡ false
  unfolding rooted root element_at mark test bind leads name_at byte begins
  unrooted_angle t = angle_end (typing t k) ∙ untyped k t (60 ∷ []) refl

  unrooted_mark : (t : Bool) → rooted t k (60 ∷ 33 ∷ []) ≡ false
  unfolding rooted root element_at mark test bind leads name_at byte name_start letter begins
  unrooted_mark t = mark_end (typing t k) ∙ untyped k t (60 ∷ 33 ∷ []) refl

  all_done : meets Jobs.trailing k [] ≡ k []
  unfolding meets end_at leads
  all_done = asides_end (λ r. leads (end_at r) (λ _ r₁. k r₁))

  no_start : meets Jobs.starting k [] ≡ false
  unfolding meets declaration_at declaration_if begins leads
  no_start = unrooted true

  no_start_angle : meets Jobs.starting_angle k [] ≡ false
  unfolding meets declaration_at declaration_if begins leads
  no_start_angle = unrooted_angle true

  -- REFERENCES, AND IN THE DECLARATION
  no_reference : meets Jobs.ampersand k [] ≡ false
  unfolding meets reference_at stands_for mark test bind alt leads
  no_reference = refl

  no_reference_a : meets Jobs.ampersand_a k [] ≡ false
  unfolding meets reference_at stands_for mark test bind alt leads
  no_reference_a = refl

  no_quote : meets Jobs.quoted k [] ≡ false
  unfolding meets value_at byte bind leads
  no_quote = refl

  no_gap : meets Jobs.some_blanks k [] ≡ false
  unfolding meets gap_at byte bind leads
  no_gap = refl

  no_saying : (v : List ℕ) → meets (Jobs.saying v) k [] ≡ false
  unfolding meets quoted_at byte bind leads
  no_saying v = refl

  no_version : meets Jobs.versioned k [] ≡ false
  unfolding meets encoding_at encoding_if_lem setting_at ends gap_at byte bind leads
  no_version = refl

  no_encoding : meets Jobs.versioned_blank k [] ≡ false
  unfolding meets ends span encoded mark leads
  no_encoding = refl

  -- THE LAW OF THE END
  pub end_law : (j : Job) → meets j k [] ≡ cond (idle j) (k []) false
  unfolding meets idle leads mark span byte
  end_law (Jobs.fixed []) = refl
  end_law (Jobs.fixed (b ∷ w)) = refl
  end_law Jobs.blanks = refl
  end_law Jobs.some_blanks = no_gap
  end_law Jobs.tail = refl
  end_law (Jobs.second_of_three a) = refl
  end_law (Jobs.third_of_three a b) = refl
  end_law (Jobs.second_of_four a) = refl
  end_law Jobs.ampersand = no_reference
  end_law Jobs.ampersand_a = no_reference_a
  end_law Jobs.remarks = leads_fail _ _ no_comment
  end_law Jobs.remarks_dash = leads_fail _ _ no_comment_dash
  end_law Jobs.raw = raw_open
  end_law Jobs.raw_bracket = raw_bracket_open
  end_law Jobs.raw_brackets = raw_brackets_open
  end_law Jobs.skipping = leads_fail _ _ no_doctype
  end_law Jobs.quoted = no_quote
  end_law (Jobs.valuing b) = leads_fail _ _ (no_value (quote_of b))
  end_law (Jobs.naming d n) = name_cut n (λ m r. attributed d m [] k r) (no_tag d (n ++ []) [])
  end_law (Jobs.tagging d n l) = no_tag d n l
  end_law (Jobs.gapped d n l) = no_key d n l
  end_law (Jobs.keying d n l m) = name_cut m (λ m r. key_valued d n l m k r) (no_equals d n l (m ++ []))
  end_law (Jobs.enclosing d n) = unended d n
  end_law (Jobs.bracket d n) = bracket_open d n
  end_law (Jobs.brackets d n) = brackets_open d n
  end_law (Jobs.angle d n) = angle_open d n
  end_law (Jobs.angle_mark d n) = angle_mark_open d n
  end_law Jobs.trailing = all_done
  end_law (Jobs.prologue t) = unrooted t
  end_law (Jobs.prologue_angle t) = unrooted_angle t
  end_law (Jobs.prologue_mark t) = unrooted_mark t
  end_law Jobs.starting = no_start
  end_law Jobs.starting_angle = no_start_angle
  end_law (Jobs.saying v) = no_saying v
  end_law Jobs.versioned = no_version
  end_law Jobs.versioned_blank = no_encoding
