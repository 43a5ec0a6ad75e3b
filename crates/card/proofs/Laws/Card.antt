-- The lines of dimensions and then of records; the card as a whole.
use Rattle.std.specs.Prelude.{◌≡◌, List, [], ◌∷◌, ◌++◌, Bool, true, false, cond, eqb, ℕ, suc, ◌+◌, ◌-◌, ◌≤◌, ◌<◌, drop}
use Rattle.std.proofs.Math.Path.{refl, sym, ap}
use Rattle.std.proofs.Common.{◌∙◌, append_assoc, arith, rules}
use Rattle.std.proofs.Math.Numerals.{add-one}
use Rattle.std.proofs.Math.ListN.{length, get_or, get_or-append}
use Rattle.cifti.specs.Maps.{kind_number}
use Rattle.cifti.specs.Answer.{unused}
use Rattle.cifti.specs.declared.answer.Dimension.{Dimension}
use Rattle.cifti.specs.declared.answer.Answer.{Answer}
use Rattle.card.specs.declared.line.Line.{Line}
use Rattle.card.specs.declared.line.Line.TheVariants.{Accepted, Refused, End}
use Rattle.card.proofs.Laws.Theorems.{one_most}
use Rattle.card.specs.Card.{map_line, dimension_line, dimension_lines, record_lines, card_by, answer_dimensions, card}
use Rattle.card.proofs.Laws.Line.{from_each, none_left}
use Rattle.card.proofs.Laws.Records.{past_front}

pub same_count : (d : ℕ) (x : Dimension) → length (dimension_line d x) ≡ length (dimension_line 0 x)
unfolding dimension_line
same_count d x = go (eqb (kind_number x.kind) 0)
  where
    go : (b : Bool) → length (cond b [] (map_line d x ∷ [])) ≡ length (cond b [] (map_line 0 x ∷ []))
    go true = refl
    go false = refl

-- the line of a dimension that has one
its_line : (d : ℕ) (x : Dimension) → 0 < length (dimension_line d x) → map_line d x ≡ get_or (dimension_line d x) 0 End
unfolding dimension_line
its_line d x = go (eqb (kind_number x.kind) 0)
  where
    go : (b : Bool) → 0 < length (cond b [] (map_line d x ∷ [])) → map_line d x ≡ get_or (cond b [] (map_line d x ∷ [])) 0 End
    go true h = absurd (omega arith)
    go false h = refl

abbrev pub rest : Answer → List ℕ → List Line
rest a records = record_lines 3 0 (answer_dimensions a) records

-- the line asked is the one at `left` of what is listed from dimension d on
pub record Passing (a : Answer) (records : List ℕ) (n left d : ℕ) : Type 0 where
  pub dimensions : d ≤ 3
  pub same : get_or (dimension_lines 0 (answer_dimensions a) ++ rest a records) n End
      ≡ get_or (dimension_lines d (drop d (answer_dimensions a)) ++ rest a records) left End

module _ (a : Answer) (records : List ℕ) (n : ℕ) where
  pub pass_start : Passing a records n n 0
  pass_start = record { dimensions = omega arith; same = refl }

  module _ {left d : ℕ} (passing : Passing a records n left d) where
    pub pass_done : 3 ≤ d → {l : Line} → l ≡ get_or (rest a records) left End
        → l ≡ get_or (dimension_lines 0 (answer_dimensions a) ++ rest a records) n End
    unfolding dimension_lines
    pass_done h e = e ∙ sym (passing.same ∙ rw (none_left a d h) refl)

    module _ (more : d < 3) {lines : ℕ} (counted : lines ≡ length (dimension_line 0 (get_or a.dimensions d unused))) where
      these : List Line
      these = dimension_line d (get_or a.dimensions d unused)

      later : List Line
      later = dimension_lines (d + 1) (drop (d + 1) (answer_dimensions a)) ++ rest a records

      these_count : length these ≡ lines
      unfolding these
      these_count = same_count d (get_or a.dimensions d unused) ∙ sym counted

      opened : get_or (dimension_lines 0 (answer_dimensions a) ++ rest a records) n End ≡ get_or (these ++ later) left End
      unfolding these later dimension_lines
      opened =
          passing.same
          ∙ rw (from_each a d more, add-one d)
          (ap (λ z. get_or z left End) (append_assoc (dimension_line d (get_or a.dimensions d unused))
          (dimension_lines (suc d) (drop (suc d) (answer_dimensions a))) (rest a records)))

      pub pass_here : left < lines → {l : Line} → l ≡ map_line d (get_or a.dimensions d unused)
          → l ≡ get_or (dimension_lines 0 (answer_dimensions a) ++ rest a records) n End
      unfolding these
      pass_here h e =
          let z : left ≡ 0 = omega (arith, these_count, one_most d (get_or a.dimensions d unused)) in
          let u : left < length these = omega (arith, these_count) in
          e
          ∙ its_line d (get_or a.dimensions d unused) (omega (arith, these_count))
          ∙ sym (opened ∙ get_or-append these later End left u ∙ ap (λ i. get_or these i End) z)

      pub pass_later : lines ≤ left → Passing a records n (left - lines) (d + 1)
      unfolding later
      pass_later h = record { dimensions = omega arith; same = opened ∙ past_front End these later left lines these_count h }

pub ruleset passSteps = (pass_start, pass_done, pass_here, pass_later, rules)

-- ---- The card.

module _ (a : Answer) (records : List ℕ) where
  suc_of : (m : ℕ) → (m ≡ 0 → ⊥) → m ≡ suc (m - 1)
  suc_of m h = omega arith

  pub refused_card : (a.number ≡ 0 → ⊥) → card a records ≡ Refused a.number ∷ []
  unfolding card card_by
  refused_card h = rw (suc_of a.number h) refl

  pub accepted_card : a.number ≡ 0 → card a records ≡ Accepted ∷ (dimension_lines 0 (answer_dimensions a) ++ rest a records)
  unfolding card card_by
  accepted_card e = rw e refl

  module _ {n : ℕ} where
    pub card_refused : (a.number ≡ 0 → ⊥) → n ≡ 0 → Refused a.number ≡ get_or (card a records) n End
    card_refused h z = sym (rw (refused_card h, z) refl)

    pub card_past : (a.number ≡ 0 → ⊥) → (n ≡ 0 → ⊥) → End ≡ get_or (card a records) n End
    card_past h z = sym (rw (refused_card h, suc_of n z) refl)

    pub card_ok : a.number ≡ 0 → n ≡ 0 → Accepted ≡ get_or (card a records) n End
    card_ok h z = sym (rw (accepted_card h, z) refl)

    pub card_behind : a.number ≡ 0 → (n ≡ 0 → ⊥) → {l : Line}
        → l ≡ get_or (dimension_lines 0 (answer_dimensions a) ++ rest a records) (n - 1) End → l ≡ get_or (card a records) n End
    card_behind h z e = e ∙ sym (rw (accepted_card h)
        (ap (λ i. get_or (Accepted ∷ (dimension_lines 0 (answer_dimensions a) ++ rest a records)) i End) (suc_of n z)))

pub ruleset cardSteps = (card_refused, card_past, card_ok, card_behind, rules)
