-- Comments, CDATA and a DOCTYPE: what a byte makes of each.
use Rattle.std.specs.Prelude.{◌≡◌, ℕ, Bool, ◌&&◌}
use Rattle.std.proofs.Math.Path.{refl, ap, sym}
use Rattle.std.proofs.Common.{◌∙◌}
use mathlib.Core.List.{List, [], ◌∷◌}
use Rattle.std.proofs.Math.Bool.{true, false}
use Rattle.std.proofs.Math.Dec.{eqb}
use borrow.Author.Tests.{eqb-true}
use Rattle.lists.proofs.Laws.Booleans.{not_so}
use Rattle.grammar.specs.Bytes.{ascii, blank, begins, skipped}
use Rattle.grammar.specs.Characters.{lead1}
use Rattle.grammar.specs.Read.{fail, bind, mark}
use Rattle.grammar.proofs.Laws.Read.{mark_other, mark_complete}
use Rattle.grammar.proofs.Laws.Tokens.{line_end_other}
use Rattle.grammar.specs.Parser.{width, width_by, literal_at, no_dash, plain_at, dashed_at, remark_at, data_byte, data_character_at}
use Rattle.grammar.specs.Parser.{skipped_at}
use Rattle.steps.proofs.Laws.Until.{until_stop, until_go}
use Rattle.steps.proofs.Laws.Feeds.{left_by, fed, feed_got}
use Rattle.steps.proofs.Laws.Data.{data_return}
use Rattle.steps.specs.Leaves.{comment_rest_at, data_rest_at, doctype_rest_at}
use Rattle.steps.proofs.Laws.Leaves.{literal_not, remark_eats, data_character_eats, skipped_eats}
use Rattle.stream.specs.Jobs.{remarks, remarks_dash, raw, raw_bracket, raw_brackets, skipping, lead_by, lead, change_remarks}
use Rattle.stream.specs.Jobs.{change_remarks_dash, change_raw, change_raw_bracket, change_raw_brackets, change_skipping}
use Rattle.stream.proofs.Laws.Meets.{Passing, leads, meets, meets_all, changed, leads_bind, leads_value, leads_fail, leads_got}
use Rattle.stream.proofs.Laws.Meets.{leads_first, alt_second, by_test}
use Rattle.stream.proofs.Laws.Leaves.{mark_first, mark_by, literal_law, lead_blank}

-- the text goes on with the first byte of a mark
pub begins_other : (b : ℕ) (w : List ℕ) (a : ℕ) (s : List ℕ) → eqb a b ≡ false → begins (b ∷ w) (a ∷ s) ≡ false
unfolding begins
begins_other b w a s e = rw e

pub begins_one : (b a : ℕ) (s : List ℕ) → begins (b ∷ []) (a ∷ s) ≡ eqb a b
unfolding begins
begins_one b a s = go (eqb a b)
  where
    go : (t : Bool) → (t && true) ≡ t
    go true = refl
    go false = refl

-- COMMENTS
begins_dash : (a : ℕ) (s : List ℕ) → begins (ascii "--") (45 ∷ a ∷ s) ≡ eqb a 45
unfolding begins
begins_dash a s = begins_one 45 a s

module _ (k : Passing) where
  -- behind a character of a comment
  plain_law : (a : ℕ) (s : List ℕ) → eqb a 45 ≡ false
      → leads (plain_at (a ∷ s)) (λ _ r. meets remarks k r) ≡ changed (lead a (remarks ∷ [])) k a s
  unfolding plain_at meets_all no_dash
  plain_law a s e =
      leads_value (literal_at no_dash (a ∷ s)) (λ _. []) (meets remarks k) ∙ literal_law no_dash (remarks ∷ []) k a s (not_so e)

  remark_goes : (s : List ℕ) → begins (ascii "--") s ≡ false → meets remarks k s ≡ leads (remark_at s) (λ _ r. meets remarks k r)
  unfolding meets comment_rest_at
  remark_goes s e =
      ap (λ m. leads m (λ _ r. k r)) (until_go (begins (ascii "--")) remark_at (mark (ascii "-->")) remark_eats s e)
      ∙ leads_bind (remark_at s) _ _

  remark_stops : (s : List ℕ) → begins (ascii "--") s ≡ true → meets remarks k s ≡ leads (mark (ascii "-->") s) (λ _ r. k r)
  unfolding meets comment_rest_at
  remark_stops s e =
      ap (λ m. leads m (λ _ r. k r)) (until_stop (begins (ascii "--")) remark_at (mark (ascii "-->")) remark_eats s e)

dash_other : (a : ℕ) (s : List ℕ) → eqb a 45 ≡ false → dashed_at (a ∷ s) ≡ fail
unfolding dashed_at bind
dash_other a s e = rw (mark_other 45 a [] s e)

pub plain_dash : (s : List ℕ) → plain_at (45 ∷ s) ≡ fail
unfolding plain_at bind no_dash
plain_dash s = rw (literal_not no_dash 45 s refl)

dash_first : (s : List ℕ) → dashed_at (45 ∷ s) ≡ plain_at s
unfolding dashed_at bind mark
dash_first s = rw (mark_first 45 [] s)

module _ (k : Passing) (a : ℕ) (s : List ℕ) where
  remark_other : eqb a 45 ≡ false → meets remarks k (a ∷ s) ≡ changed (lead a (remarks ∷ [])) k a s
  unfolding remark_at
  remark_other e =
      remark_goes k (a ∷ s) (begins_other 45 (ascii "-") a s e)
      ∙ leads_first (plain_at (a ∷ s)) (dashed_at (a ∷ s)) _ (dash_other a s e) ∙ plain_law k a s e

  pub remarks_law : meets remarks k (a ∷ s) ≡ changed (change_remarks a) k a s
  unfolding meets meets_all changed change_remarks
  remarks_law = by_test (eqb a 45) _ _ k a s (λ e. let q = eqb-true a 45 e in rw q) λ e. remark_other e

  dashed_other : eqb a 45 ≡ false → meets remarks k (45 ∷ a ∷ s) ≡ changed (lead a (remarks ∷ [])) k a s
  unfolding remark_at
  dashed_other e =
      remark_goes k (45 ∷ a ∷ s) (begins_dash a s ∙ e)
      ∙ ap (λ m. leads m (λ _ r. meets remarks k r))
      (alt_second (plain_at (45 ∷ a ∷ s)) (dashed_at (45 ∷ a ∷ s)) (plain_dash (a ∷ s)) ∙ dash_first (a ∷ s))
      ∙ plain_law k a s e

dashed_twice : (k : Passing) (s : List ℕ) → meets remarks k (45 ∷ 45 ∷ s) ≡ leads (mark (ascii ">") s) (λ _ r. k r)
dashed_twice k s =
    remark_stops k (45 ∷ 45 ∷ s) (begins_dash 45 s)
    ∙ ap (λ m. leads m (λ _ r. k r)) (mark_first 45 (ascii "->") (45 ∷ s) ∙ mark_first 45 (ascii ">") s)

pub remarks_dash_law : (k : Passing) (a : ℕ) (s : List ℕ) → meets remarks_dash k (a ∷ s) ≡ changed (change_remarks_dash a) k a s
unfolding meets meets_all changed change_remarks_dash
remarks_dash_law k a s =
    by_test (eqb a 45) _ _ k a s (λ e. let q = eqb-true a 45 e in rw q (dashed_twice k s)) λ e. dashed_other k a s e

-- CDATA
pub begins_bracket : (a : ℕ) (s : List ℕ) → eqb a 93 ≡ false → begins (ascii "]]>") (93 ∷ a ∷ s) ≡ false
unfolding begins
begins_bracket a s e = rw e

pub begins_brackets : (a : ℕ) (s : List ℕ) → eqb a 62 ≡ false → begins (ascii "]]>") (93 ∷ 93 ∷ a ∷ s) ≡ false
unfolding begins
begins_brackets a s e = rw e

literal_data : (a : ℕ) (s : List ℕ) → eqb a 13 ≡ false → data_character_at (a ∷ s) ≡ literal_at data_byte (a ∷ s)
unfolding data_character_at
literal_data a s e = alt_second _ _ (line_end_other (ascii "\n") a e s)

module _ (k : Passing) where
  data_goes : (s : List ℕ) → begins (ascii "]]>") s ≡ false → meets raw k s ≡ leads (data_character_at s) (λ _ r. meets raw k r)
  unfolding meets data_rest_at
  data_goes s e =
      ap (λ m. leads m (λ _ r. k r)) (until_go (begins (ascii "]]>")) data_character_at (mark (ascii "]]>")) data_character_eats s e)
      ∙ leads_bind (data_character_at s) _ _

  data_plain : (a : ℕ) (s : List ℕ) → eqb a 13 ≡ false → begins (ascii "]]>") (a ∷ s) ≡ false
      → meets raw k (a ∷ s) ≡ changed (lead a (raw ∷ [])) k a s
  unfolding meets_all data_byte
  data_plain a s e f =
      data_goes (a ∷ s) f ∙ ap (λ m. leads m (λ _ r. meets raw k r)) (literal_data a s e)
      ∙ literal_law data_byte (raw ∷ []) k a s (not_so e)

  -- a line feed right behind a carriage return is a character too
  data_feed : (s : List ℕ) → meets raw k (fed s) ≡ meets raw k s
  unfolding fed left_by changed meets_all blank
  data_feed [] = refl
  data_feed (b ∷ s) = go (eqb b 10) refl
    where
      fed_ten : meets raw k (10 ∷ s) ≡ meets raw k s
      fed_ten = data_plain 10 s refl (begins_other 93 (ascii "]>") 10 s refl) ∙ ap (λ c. changed c k 10 s) (lead_blank 10 (raw ∷ []) refl)

      go : (t : Bool) → eqb b 10 ≡ t → meets raw k (left_by t b s) ≡ meets raw k (b ∷ s)
      go true e = let q = eqb-true b 10 e in rw q (sym fed_ten)
      go false e = refl

  data_line : (s : List ℕ) → meets raw k (13 ∷ s) ≡ changed (lead 13 (raw ∷ [])) k 13 s
  unfolding changed meets_all blank
  data_line s =
      data_goes (13 ∷ s) (begins_other 93 (ascii "]>") 13 s refl) ∙ leads_got _ _ (data_return s ∙ feed_got (ascii "\n") s) ∙ data_feed s
      ∙ sym (ap (λ c. changed c k 13 s) (lead_blank 13 (raw ∷ []) refl))

  pub raw_law : (a : ℕ) (s : List ℕ) → meets raw k (a ∷ s) ≡ changed (change_raw a) k a s
  unfolding meets meets_all changed change_raw
  raw_law a s = by_test (eqb a 93) _ _ k a s (λ e. let q = eqb-true a 93 e in rw q) λ e. go (eqb a 13) refl e
    where
      go : (t : Bool) → eqb a 13 ≡ t → eqb a 93 ≡ false → meets raw k (a ∷ s) ≡ changed (lead a (raw ∷ [])) k a s
      go true h e = let q = eqb-true a 13 h in rw q (data_line s)
      go false h e = data_plain a s h (begins_other 93 (ascii "]>") a s e)

  -- a `]` that begins no `]]>`
  pub raw_reads : (s : List ℕ) → begins (ascii "]]>") (93 ∷ s) ≡ false → meets raw k (93 ∷ s) ≡ meets raw k s
  unfolding changed meets_all lead lead_by width width_by lead1 blank
  raw_reads s e = data_plain 93 s refl e

  raw_done : (s : List ℕ) → meets raw k (93 ∷ 93 ∷ 62 ∷ s) ≡ k s
  unfolding meets data_rest_at begins
  raw_done s =
      leads_got _ _ (until_stop (begins (ascii "]]>")) data_character_at (mark (ascii "]]>")) data_character_eats (93 ∷ 93 ∷ 62 ∷ s) refl
      ∙ mark_complete (ascii "]]>") s)

  pub raw_bracket_law : (a : ℕ) (s : List ℕ) → meets raw_bracket k (a ∷ s) ≡ changed (change_raw_bracket a) k a s
  unfolding meets meets_all changed change_raw_bracket
  raw_bracket_law a s =
      by_test (eqb a 93) _ _ k a s (λ e. let q = eqb-true a 93 e in rw q) λ e. raw_reads (a ∷ s) (begins_bracket a s e) ∙ raw_law a s

  pub raw_brackets_law : (a : ℕ) (s : List ℕ) → meets raw_brackets k (a ∷ s) ≡ changed (change_raw_brackets a) k a s
  unfolding meets meets_all changed change_raw_brackets
  raw_brackets_law a s =
      by_test (eqb a 62) _ _ k a s (λ e. let q = eqb-true a 62 e in rw q (raw_done s)) λ e₁.
      raw_reads (93 ∷ a ∷ s) (begins_brackets a s e₁)
      ∙ by_test (eqb a 93) _ _ k a s (λ e. let q = eqb-true a 93 e in rw q) λ e₂.
      raw_reads (a ∷ s) (begins_bracket a s e₂) ∙ raw_law a s

-- A DOCTYPE
skip_other : (a : ℕ) (s : List ℕ) → skipped a ≡ false → skipped_at (a ∷ s) ≡ fail
unfolding skipped_at bind
skip_other a s e = rw (literal_not skipped a s e)

module _ (k : Passing) (a : ℕ) (s : List ℕ) where
  skipping_goes : eqb a 62 ≡ false → meets skipping k (a ∷ s) ≡ leads (skipped_at (a ∷ s)) (λ _ r. meets skipping k r)
  unfolding meets doctype_rest_at
  skipping_goes e =
      ap (λ m. leads m (λ _ r. k r))
      (until_go (begins (ascii ">")) skipped_at (mark (ascii ">")) skipped_eats (a ∷ s) (begins_other 62 [] a s e))
      ∙ leads_bind (skipped_at (a ∷ s)) _ _

  skipping_done : eqb a 62 ≡ true → meets skipping k (a ∷ s) ≡ k s
  unfolding meets doctype_rest_at mark
  skipping_done e =
      leads_got _ _
      (until_stop (begins (ascii ">")) skipped_at (mark (ascii ">")) skipped_eats (a ∷ s) (begins_one 62 a s ∙ e) ∙ mark_by 62 a [] s e)

  skipping_on : skipped a ≡ true → leads (skipped_at (a ∷ s)) (λ _ r. meets skipping k r) ≡ changed (lead a (skipping ∷ [])) k a s
  unfolding skipped_at meets_all
  skipping_on e =
      leads_value (literal_at skipped (a ∷ s)) (λ _. []) (meets skipping k) ∙ literal_law skipped (skipping ∷ []) k a s e

  pub skipping_law : meets skipping k (a ∷ s) ≡ changed (change_skipping a) k a s
  unfolding meets_all changed change_skipping
  skipping_law =
      by_test (eqb a 62) _ _ k a s skipping_done λ e₁.
      skipping_goes e₁ ∙ by_test (skipped a) _ _ k a s skipping_on λ e₂. leads_fail _ _ (skip_other a s e₂)
