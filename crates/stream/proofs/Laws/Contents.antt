-- Contents: characters, `]]>`, comments, CDATA, elements and the end tag. An element in contents is a job more, done before they go on.
use Rattle.std.specs.Prelude.{◌≡◌, Bool, not, eqb}
use Rattle.std.proofs.Math.Path.{refl, ap, sym}
use Rattle.std.proofs.Common.{◌∙◌}
use mathlib.Core.List.{List, [], ◌∷◌}
use Prim.Native.Nat.{ℕ, zero, suc}
use Rattle.std.proofs.Math.Bool.{true, false, cond}
use borrow.Author.Tests.{eqb-true}
use Rattle.grammar.specs.Bytes.{ascii, blank, name_start, special, begins}
use Rattle.grammar.specs.Characters.{lead1}
use Rattle.grammar.specs.Document.{together}
use Rattle.grammar.specs.Read.{test, mark, span}
use Rattle.grammar.proofs.Laws.Tokens.{reference_other, line_end_other}
use Rattle.grammar.proofs.Laws.Read.{mark_other}
use Rattle.grammar.specs.Parser.{reference_at, text_byte, text_at, comment_at, data_at_lem, look, look_if, look₂, look₃, look_third, look_by}
use Rattle.grammar.specs.Parser.{Look, at_close, at_comment, at_data, at_element, at_text, width, width_by, element_at, contents_by}
use Rattle.grammar.specs.Unfuelled.{contents}
use Rattle.grammar.proofs.Laws.Unfuelled.{contents_step}
use Rattle.steps.specs.Until.{until}
use Rattle.steps.proofs.Laws.Feeds.{left_by, fed, feed_got}
use Rattle.steps.proofs.Laws.Pieces.{return_text}
use Rattle.steps.specs.Leaves.{comment_rest_at, data_rest_at}
use Rattle.steps.proofs.Laws.Leaves.{literal_not}
use Rattle.steps.specs.Tags.{close_at}
use Rattle.stream.specs.Jobs.{fixed, blanks, ampersand, remarks, raw, naming, enclosing, bracket, brackets, angle, angle_mark, dead}
use Rattle.stream.specs.Jobs.{turn, lead_by, lead, change_enclosing, change_bracket, change_brackets, deeper, change_angle}
use Rattle.stream.specs.Jobs.{change_angle_mark}
use Rattle.stream.proofs.Laws.Meets.{Passing, leads, meets, meets_all, changed, enclosed, leads_bind, leads_same, leads_value}
use Rattle.stream.proofs.Laws.Meets.{leads_test, leads_fail, leads_got, leads_first, alt_second, by_test}
use Rattle.stream.proofs.Laws.Leaves.{leads_mark, leads_one, literal_law, lead_blank}
use Rattle.stream.proofs.Laws.Remarks.{begins_other, begins_bracket, begins_brackets}
use Rattle.stream.proofs.Laws.Elements.{element_law}

-- CHARACTERS
module _ (d : ℕ) (n : List ℕ) (k : Passing) where
  pub looked : (s : List ℕ) (l : Look) → look s ≡ l
      → enclosed d n k s ≡ leads (contents_by contents d l s) (λ _ r. leads (close_at n r) (λ _ r₁. k r₁))
  unfolding enclosed
  looked s l e = rw (contents_step d s, e)

  text_step : (s : List ℕ) → look s ≡ at_text
      → enclosed d n k s ≡ cond (not (begins (ascii "]]>") s)) (leads (text_at s) (λ _ r. enclosed d n k r)) false
  unfolding contents_by enclosed leads
  text_step s e =
      looked s at_text e ∙ leads_bind (test (not (begins (ascii "]]>") s)) s) _ _ ∙ leads_test (not (begins (ascii "]]>") s)) s _
      ∙ ap (λ x. cond (not (begins (ascii "]]>") s)) x false)
      (leads_bind (text_at s) _ _ ∙ leads_same (text_at s) _ _ λ b r. leads_bind (contents d r) _ _)

  looks_text : (a : ℕ) (s : List ℕ) → eqb a 60 ≡ false → look (a ∷ s) ≡ at_text
  unfolding look look_if
  looks_text a s e = rw e

  text_reads : (a : ℕ) (s : List ℕ) → eqb a 60 ≡ false → begins (ascii "]]>") (a ∷ s) ≡ false
      → enclosed d n k (a ∷ s) ≡ leads (text_at (a ∷ s)) (λ _ r. enclosed d n k r)
  text_reads a s e f =
      text_step (a ∷ s) (looks_text a s e) ∙ ap (λ t. cond (not t) (leads (text_at (a ∷ s)) (λ _ r. enclosed d n k r)) false) f

  literal_reads : (a : ℕ) (s : List ℕ) → eqb a 60 ≡ false → eqb a 38 ≡ false → eqb a 13 ≡ false → begins (ascii "]]>") (a ∷ s) ≡ false
      → enclosed d n k (a ∷ s) ≡ changed (lead a (enclosing d n ∷ [])) k a s
  unfolding text_at text_byte special meets meets_all
  literal_reads a s e₁ e₂ e₃ f =
      let free : text_byte a ≡ true = rw (e₁, e₂, e₃) in
      text_reads a s e₁ f
      ∙ ap (λ m. leads m (λ _ r. enclosed d n k r))
      (alt_second _ _ (reference_other a e₂ s) ∙ alt_second _ _ (line_end_other (ascii "\n") a e₃ s))
      ∙ literal_law text_byte (enclosing d n ∷ []) k a s free

  -- a line feed right behind a carriage return is a character too
  text_feed : (s : List ℕ) → enclosed d n k (fed s) ≡ enclosed d n k s
  unfolding fed left_by changed meets meets_all blank
  text_feed [] = refl
  text_feed (b ∷ s) = go (eqb b 10) refl
    where
      fed_ten : enclosed d n k (10 ∷ s) ≡ enclosed d n k s
      fed_ten =
          literal_reads 10 s refl refl refl (begins_other 93 (ascii "]>") 10 s refl)
          ∙ ap (λ c. changed c k 10 s) (lead_blank 10 (enclosing d n ∷ []) refl)

      go : (t : Bool) → eqb b 10 ≡ t → enclosed d n k (left_by t b s) ≡ enclosed d n k (b ∷ s)
      go true e = let q = eqb-true b 10 e in rw q (sym fed_ten)
      go false e = refl

  line_reads : (s : List ℕ) → enclosed d n k (13 ∷ s) ≡ changed (lead 13 (enclosing d n ∷ [])) k 13 s
  unfolding changed meets meets_all blank
  line_reads s =
      text_reads 13 s refl (begins_other 93 (ascii "]>") 13 s refl) ∙ leads_got _ _ (return_text s ∙ feed_got (ascii "\n") s) ∙ text_feed s
      ∙ sym (ap (λ c. changed c k 13 s) (lead_blank 13 (enclosing d n ∷ []) refl))

  -- a `]` that begins no `]]>`
  pub bracket_reads : (s : List ℕ) → begins (ascii "]]>") (93 ∷ s) ≡ false → enclosed d n k (93 ∷ s) ≡ enclosed d n k s
  unfolding changed meets meets_all lead lead_by width width_by lead1 blank
  bracket_reads s e = literal_reads 93 s refl refl refl e

  refers : (s : List ℕ) → enclosed d n k (38 ∷ s) ≡ meets ampersand (enclosed d n k) s
  unfolding text_at text_byte special meets
  refers s =
      text_reads 38 s refl (begins_other 93 (ascii "]>") 38 s refl)
      ∙ leads_first (reference_at (38 ∷ s)) _ _ (alt_second _ _ (line_end_other (ascii "\n") 38 refl s) ∙ literal_not text_byte 38 s refl)

  plain_reads : (a : ℕ) (s : List ℕ) → eqb a 60 ≡ false → eqb a 38 ≡ false → eqb a 93 ≡ false
      → enclosed d n k (a ∷ s) ≡ changed (lead a (enclosing d n ∷ [])) k a s
  plain_reads a s e₁ e₂ e₃ = go (eqb a 13) refl
    where
      go : (t : Bool) → eqb a 13 ≡ t → enclosed d n k (a ∷ s) ≡ changed (lead a (enclosing d n ∷ [])) k a s
      go true e = let q = eqb-true a 13 e in rw q (line_reads s)
      go false e = literal_reads a s e₁ e₂ e (begins_other 93 (ascii "]>") a s e₃)

  pub enclosing_law : (a : ℕ) (s : List ℕ) → enclosed d n k (a ∷ s) ≡ changed (change_enclosing d n a) k a s
  unfolding change_enclosing changed meets_all meets
  enclosing_law a s =
      by_test (eqb a 60) _ _ k a s (λ e. let z = eqb-true a 60 e in rw z) λ e₁.
      by_test (eqb a 38) _ _ k a s (λ e. let z = eqb-true a 38 e in rw z (refers s)) λ e₂.
      by_test (eqb a 93) _ _ k a s (λ e. let z = eqb-true a 93 e in rw z) λ e₃. plain_reads a s e₁ e₂ e₃

  pub bracket_law : (a : ℕ) (s : List ℕ) → meets (bracket d n) k (a ∷ s) ≡ changed (change_bracket d n a) k a s
  unfolding change_bracket changed meets_all meets
  bracket_law a s =
      by_test (eqb a 93) _ _ k a s (λ e. let z = eqb-true a 93 e in rw z) λ e.
      bracket_reads (a ∷ s) (begins_bracket a s e) ∙ enclosing_law a s

  closed_here : (s : List ℕ) → enclosed d n k (93 ∷ 93 ∷ 62 ∷ s) ≡ false
  unfolding begins
  closed_here s = text_step (93 ∷ 93 ∷ 62 ∷ s) (looks_text 93 (93 ∷ 62 ∷ s) refl)

  pub brackets_law : (a : ℕ) (s : List ℕ) → meets (brackets d n) k (a ∷ s) ≡ changed (change_brackets d n a) k a s
  unfolding change_brackets changed meets_all meets
  brackets_law a s =
      by_test (eqb a 62) _ _ k a s (λ e. let z = eqb-true a 62 e in rw z (closed_here s)) λ e₁.
      bracket_reads (93 ∷ a ∷ s) (begins_brackets a s e₁)
      ∙ by_test (eqb a 93) _ _ k a s (λ e. let z = eqb-true a 93 e in rw z) λ e₂.
      bracket_reads (a ∷ s) (begins_bracket a s e₂) ∙ enclosing_law a s

-- CDATA
data_jobs : (k : Passing) (s : List ℕ) → leads (data_at_lem (60 ∷ 33 ∷ 91 ∷ s)) (λ _ r. k r) ≡ meets (fixed (ascii "CDATA[")) (meets raw k) s
unfolding data_at_lem meets data_rest_at until
data_jobs k s =
    leads_bind (mark (ascii "<![CDATA[") (60 ∷ 33 ∷ 91 ∷ s)) _ _
    ∙ leads_mark 60 (ascii "![CDATA[") (33 ∷ 91 ∷ s) _ ∙ leads_mark 33 (ascii "[CDATA[") (91 ∷ s) _ ∙ leads_mark 91 (ascii "CDATA[") s _
    ∙ leads_same (mark (ascii "CDATA[") s) _ _ λ _ r.
    leads_bind _ _ _ ∙ leads_same _ _ _ (λ bs r₁. leads_value (mark (ascii "]]>") r₁) (λ _. together bs) k) ∙ sym (leads_bind _ _ _)

-- BEHIND `<`
module _ (d : ℕ) (n : List ℕ) (k : Passing) where
  looks_second : (a : ℕ) (s : List ℕ) (t u : Bool) → eqb a 47 ≡ t → eqb a 33 ≡ u → look (60 ∷ a ∷ s) ≡ look_by t u (look₃ s)
  unfolding look look_if look₂
  looks_second a s t u e h = rw (e, h)

  ends_here : (s : List ℕ) → enclosed d n k (60 ∷ 47 ∷ s) ≡ meets (fixed n) (meets blanks (meets (fixed (ascii ">")) k)) s
  unfolding contents_by close_at look_by meets leads mark
  ends_here s =
      looked d n k (60 ∷ 47 ∷ s) at_close (looks_second 47 s true false refl refl)
      ∙ leads_bind (mark (ascii "</") (60 ∷ 47 ∷ s)) _ _ ∙ leads_mark 60 (47 ∷ []) (47 ∷ s) _ ∙ leads_one 47 s _
      ∙ leads_bind (mark n s) _ _ ∙ leads_same (mark n s) _ _ λ _ r. leads_bind (span blank r) _ _

  childed : (e : ℕ) (a : ℕ) (s : List ℕ) → eqb a 47 ≡ false → eqb a 33 ≡ false
      → enclosed e n k (60 ∷ a ∷ s) ≡ leads (element_at contents e (60 ∷ a ∷ s)) (λ _ r. enclosed e n k r)
  unfolding contents_by look_by enclosed leads
  childed e a s h₁ h₂ =
      looked e n k (60 ∷ a ∷ s) at_element (looks_second a s false false h₁ h₂)
      ∙ leads_bind (element_at contents e (60 ∷ a ∷ s)) _ _
      ∙ leads_same (element_at contents e (60 ∷ a ∷ s)) _ _ λ x r. leads_bind (contents e r) _ _

  child_law : (e : ℕ) (a : ℕ) (s : List ℕ) → eqb a 47 ≡ false → eqb a 33 ≡ false
      → enclosed e n k (60 ∷ a ∷ s) ≡ changed (cond (name_start a) (deeper e n a) dead) k a s
  unfolding element_at deeper changed meets_all meets leads
  child_law zero a s h₁ h₂ = childed zero a s h₁ h₂ ∙ go (name_start a)
    where
      go : (t : Bool) → false ≡ changed (cond t dead dead) k a s
      go true = refl
      go false = refl
  child_law (suc e) a s h₁ h₂ = childed (suc e) a s h₁ h₂ ∙ element_law e (enclosed (suc e) n k) a s ∙ go (name_start a)
    where
      go : (t : Bool)
          → changed (cond t (turn (naming e (a ∷ []) ∷ [])) dead) (enclosed (suc e) n k) a s
          ≡ changed (cond t (turn (naming e (a ∷ []) ∷ enclosing (suc e) n ∷ [])) dead) k a s
      go true = refl
      go false = refl

  pub angle_law : (a : ℕ) (s : List ℕ) → meets (angle d n) k (a ∷ s) ≡ changed (change_angle d n a) k a s
  unfolding change_angle changed meets_all meets
  angle_law a s =
      by_test (eqb a 47) _ _ k a s (λ e. let z = eqb-true a 47 e in rw z (ends_here s)) λ e₁.
      by_test (eqb a 33) _ _ k a s (λ e. let z = eqb-true a 33 e in rw z) λ e₂. child_law d a s e₁ e₂

  -- behind `<!`
  looks_third : (a : ℕ) (s : List ℕ) (t : Bool) → eqb a 91 ≡ t → look (60 ∷ 33 ∷ a ∷ s) ≡ look_third t
  unfolding look look_if look₂ look_by look₃
  looks_third a s t e = rw e

  data_here : (s : List ℕ) → enclosed d n k (60 ∷ 33 ∷ 91 ∷ s) ≡ meets (fixed (ascii "CDATA[")) (meets raw (enclosed d n k)) s
  unfolding contents_by look_third enclosed leads
  data_here s =
      looked d n k (60 ∷ 33 ∷ 91 ∷ s) at_data (looks_third 91 s true refl)
      ∙ leads_bind (data_at_lem (60 ∷ 33 ∷ 91 ∷ s)) _ _ ∙ leads_same (data_at_lem (60 ∷ 33 ∷ 91 ∷ s)) _ _ (λ b r. leads_bind (contents d r) _ _)
      ∙ data_jobs (enclosed d n k) s

  marked : (a : ℕ) (s : List ℕ) → eqb a 91 ≡ false
      → enclosed d n k (60 ∷ 33 ∷ a ∷ s) ≡ leads (mark (ascii "--") (a ∷ s)) (λ _ r. meets remarks (enclosed d n k) r)
  unfolding contents_by look_third meets enclosed comment_at comment_rest_at until
  marked a s e =
      looked d n k (60 ∷ 33 ∷ a ∷ s) at_comment (looks_third a s false e)
      ∙ leads_bind (comment_at (60 ∷ 33 ∷ a ∷ s)) _ _ ∙ leads_bind (mark (ascii "<!--") (60 ∷ 33 ∷ a ∷ s)) _ _
      ∙ leads_mark 60 (ascii "!--") (33 ∷ a ∷ s) _ ∙ leads_mark 33 (ascii "--") (a ∷ s) _

  pub angle_mark_law : (a : ℕ) (s : List ℕ) → meets (angle_mark d n) k (a ∷ s) ≡ changed (change_angle_mark d n a) k a s
  unfolding change_angle_mark changed meets_all meets
  angle_mark_law a s =
      by_test (eqb a 91) _ _ k a s (λ e. let z = eqb-true a 91 e in rw z (data_here s)) λ e₁.
      marked a s e₁
      ∙ by_test (eqb a 45) _ _ k a s (λ e. let z = eqb-true a 45 e in rw z (leads_mark 45 (ascii "-") s _)) λ e₂.
      leads_fail _ _ (mark_other 45 a (ascii "-") s e₂)
