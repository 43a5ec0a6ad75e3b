-- The turns of the opening: of the root, and of the whole.
use Rattle.std.specs.Prelude.{◌≡◌, List, [], ◌∷◌, Bool, true, false, cond, ℕ, ◌≤◌, ◌<◌, length, Some, None}
use Rattle.std.proofs.Math.Path.{sym}
use Rattle.std.proofs.Common.{ap, ◌∙◌, arith, rules, lt-ltb, le-ltb}
use Rattle.lists.specs.Lists.{there, is_some}
use Rattle.lists.specs.Refusals.{Refusal, ◌when◌, first}
use Rattle.lists.proofs.Laws.Refusals.{first_row}
use Rattle.grammar.specs.Document.{Element}
use Rattle.grammar.specs.Parser.{parse}
use Rattle.nodes.specs.Places.{Stands, the}
use Rattle.cifti.specs.Conditions.{text_too_long, no_document}
use Rattle.gifti.specs.Conditions.{root_wrong, shape_wrong, array_not_read, number_wrong, conditions_of_file}
use Rattle.numbered_rows.specs.Checks.{gifti_fault, JudgedGifti, ChecksGifti}
use Rattle.numbered_rows.proofs.Laws.Checks.{not_three, shape_by, shaped_by, numbers_by_lem, number_by, not_written, open_judged}
use Rattle.schema.specs.declared.Checked.{Checked}
use Rattle.gifti_opening.specs.Opening.{file_number, OpensGifti, root_number, OpensRoot}
use Rattle.gifti_opening.specs.declared.GiftiOpening.{GiftiOpening}

-- ---- The root.

refuses : {text : List ℕ} {at : ℕ} (o : GiftiOpening) → (o.number ≡ 0 → ⊥) → o.root ≡ 0 → o.number ≡ root_number (the text at)
    → OpensRoot text at o
refuses o k m h = record { number_is = h; here = λ z. absurd (k z); nowhere = λ _. m }

module _ {text : List ℕ} {at n : ℕ} (j : JudgedGifti text at n) where
  abbrev e : Element
  e = the text at

  fault_so : n ≡ cond (shape_wrong e) 6 (cond (number_wrong e) 7 0)
  unfolding gifti_fault
  fault_so = j.fault_is

  pub root_stands : Stands text at
  root_stands = j.stands

  module _ {b : Bool} (p : b ≡ root_wrong e) where
    pub root_wrong_lem : b ≡ true → (o : GiftiOpening) → o.number ≡ 4 → o.root ≡ 0 → OpensRoot text at o
    unfolding root_number
    root_wrong_lem t o q m = refuses o (λ z. omega arith) m (rw (sym p ∙ t) q)

    module _ (f : b ≡ false) where
      pub root_shape : n ≡ 6 → (o : GiftiOpening) → o.number ≡ 6 → o.root ≡ 0 → OpensRoot text at o
      unfolding root_number
      root_shape s o q m = refuses o (λ z. omega arith) m (rw (sym p ∙ f, shape_by (shape_wrong e) (number_wrong e) fault_so s) q)

      module _ (s : n ≡ 6 → ⊥) {c : Bool} (r : c ≡ array_not_read e) where
        shaped : shape_wrong e ≡ false
        shaped = shaped_by (shape_wrong e) (number_wrong e) fault_so s

        pub root_unread : c ≡ true → (o : GiftiOpening) → o.number ≡ 29 → o.root ≡ 0 → OpensRoot text at o
        unfolding root_number
        root_unread t o q m = refuses o (λ z. omega arith) m (rw (sym p ∙ f, shaped, sym r ∙ t) q)

        module _ (d : c ≡ false) where
          pub root_passes : n ≡ 0 → (o : GiftiOpening) → o.number ≡ 0 → o.root ≡ at → OpensRoot text at o
          unfolding root_number
          root_passes z o q m = record {
            number_is = rw (sym p ∙ f, shaped, sym r ∙ d, numbers_by_lem (shape_wrong e) (number_wrong e) fault_so z) q;
            here = λ _. m;
            nowhere = λ k. absurd (k q);
          }

          pub root_number_lem : (n ≡ 0 → ⊥) → (o : GiftiOpening) → o.number ≡ 7 → o.root ≡ 0 → OpensRoot text at o
          unfolding root_number
          root_number_lem z o q m =
              refuses o (λ x. omega arith) m
              (rw (sym p ∙ f, shaped, sym r ∙ d, number_by (shape_wrong e) (number_wrong e) fault_so s z) q)

pub ruleset rooted = (root_stands, root_wrong_lem, root_shape, root_unread, root_passes, root_number_lem, rules)

-- ---- The conditions, row by row.

root_rows_lem : (a b c d : Bool) (l : List Refusal)
    → first (4 when a ∷ 6 when b ∷ 29 when c ∷ 7 when d ∷ l) ≡ cond a 4 (cond b 6 (cond c 29 (cond d 7 (first l))))
root_rows_lem a b c d l =
    first_row 4 a _ ∙ ap (cond a 4) (first_row 6 b _ ∙ ap (cond b 6) (first_row 29 c _ ∙ ap (cond c 29) (first_row 7 d l)))

module _ (text : List ℕ) where
  pub number_long : 16777216 < length text → file_number text ≡ 2
  unfolding conditions_of_file first text_too_long
  number_long h = rw (lt-ltb 16777216 (length text) h)

  module _ (short : length text ≤ 16777216) where
    pub number_unwritten : parse text ≡ None → file_number text ≡ 3
    unfolding conditions_of_file first text_too_long no_document is_some
    number_unwritten h = rw (le-ltb 16777216 (length text) short, h)

    pub number_written_lem : (d : Element) → parse text ≡ Some d → file_number text ≡ root_number d
    unfolding conditions_of_file first text_too_long no_document is_some there root_number
    number_written_lem d h = rw (le-ltb 16777216 (length text) short, h)
        (root_rows_lem (root_wrong d) (shape_wrong d) (array_not_read d) (number_wrong d) [])

-- ---- The whole.

refused_as : {text : List ℕ} (n : ℕ) → (n ≡ 0 → ⊥) → file_number text ≡ n → (o : GiftiOpening) → o.number ≡ n → o.root ≡ 0
    → OpensGifti text o
refused_as n k h o q m = record { number_is = q ∙ sym h; placed = λ z. absurd (k (sym q ∙ z)); nowhere = λ _. m }

module _ {text : List ℕ} where
  pub open_long : 16777216 < length text → (o : GiftiOpening) → o.number ≡ 2 → o.root ≡ 0 → OpensGifti text o
  open_long h o = refused_as 2 (λ z. omega arith) (number_long text h) o

  module _ (short : length text ≤ 16777216) {c : Checked} (w : ChecksGifti text c) where
    pub open_unwritten : c.number ≡ 3 → (o : GiftiOpening) → o.number ≡ 3 → o.root ≡ 0 → OpensGifti text o
    unfolding gifti_fault
    open_unwritten g o =
        refused_as 3 (λ z. omega arith) (number_unwritten text short (not_written w (λ e. not_three (shape_wrong e) (number_wrong e)) g)) o

    pub open_document : (c.number ≡ 3 → ⊥) → {o : GiftiOpening} → OpensRoot text c.root o → OpensGifti text o
    open_document t {o} d =
        let j = open_judged w t in
        record {
          number_is = d.number_is ∙ sym (number_written_lem text short (the text c.root) j.parsed);
          placed = λ z. rw (d.here z) j.placed;
          nowhere = d.nowhere;
        }

pub ruleset opening = (open_long, open_unwritten, open_judged, open_document, rules)
