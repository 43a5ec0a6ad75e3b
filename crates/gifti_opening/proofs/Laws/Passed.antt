-- ONLY ONE ANSWER of `gifti_opened`; what it says of a call's number: refused, it is that number, and else it is the first of the
-- conditions of arrays.
use Rattle.std.specs.Prelude.{◌≡◌, List, ℕ, length, Some, Option, None}
use Rattle.std.proofs.Math.Path.{refl, sym, ap, subst}
use Rattle.std.proofs.Common.{◌∙◌}
use Rattle.std.proofs.Math.Decide.{ℕ_discrete}
use borrow.Author.Tests.{ltb-false}
use Rattle.lists.specs.Lists.{there, is_some}
use Rattle.lists.proofs.Laws.Booleans.{both_ways}
use Rattle.lists.specs.Refusals.{first, positive, NoneApplies}
use Rattle.lists.proofs.Laws.Refusals.{given_none, row_fails, rows_past, first_none, first_kept}
use Rattle.grammar.specs.Document.{Element}
use Rattle.grammar.specs.Parser.{parse}
use Rattle.nodes.specs.Places.{Stands, the}
use Rattle.nodes.proofs.Laws.Root.{root_law}
use Rattle.cifti.specs.Conditions.{text_too_long, no_document}
use Rattle.gifti.specs.Conditions.{shape_wrong, array_not_read, number_wrong, conditions_of_file, conditions_of_arrays, gifti_refusals, gifti_refusal}
use Rattle.gifti.proofs.Laws.Held.{good_root, said_in_form, good_table, good_arrays}
use Rattle.gifti_opening.specs.Opening.{OpensGifti}
use Rattle.gifti_opening.specs.Passed.{FileHere}
use Rattle.gifti_opening.specs.declared.GiftiOpening.{GiftiOpening}

same_child : (m n : ℕ) → Some m ≡ Some n → m ≡ n
same_child m n h = cc

-- ---- Behind the opening.

module _ {text : List ℕ} {r : GiftiOpening} (o : OpensGifti text r) (z : r.number ≡ 0) where
  none_of : NoneApplies (conditions_of_file (length text) (parse text))
  unfolding conditions_of_file positive
  none_of = given_none (conditions_of_file (length text) (parse text)) refl (sym o.number_is ∙ z)

  here_by : (d : Option Element) → parse text ≡ d → NoneApplies (conditions_of_file (length text) d) → FileHere text r.root
  unfolding conditions_of_file no_document text_too_long is_some there
  here_by None p h = both_ways refl (row_fails (rows_past 1 h))
  here_by (Some e) p h =
      let w = root_law text e p in
      let q : w.place ≡ r.root = same_child w.place r.root (sym w.found ∙ o.placed z) in
      let here : the text r.root ≡ e = subst (λ (n : ℕ). the text n ≡ e) q w.is in
      let good = good_root (the text r.root) (ap shape_wrong here ∙ row_fails (rows_past 3 h))
      (ap number_wrong here ∙ row_fails (rows_past 5 h)) in
      let t = good_table good in
      record {
        arrays = record {
          stands = subst (λ (n : ℕ). Stands text n) q w.stands;
          small = ltb-false 16777216 (length text) (row_fails h);
          good = good_arrays good (ap array_not_read here ∙ row_fails (rows_past 4 h));
        };
        parsed = p ∙ ap Some (sym here);
        none_before = sym o.number_is ∙ z;
        arrays_said_lem = said_in_form good;
        table = t.table;
        one_table = t.one_table;
        keys_right_lem = t.keys_right_lem;
      }

  pub file_here : FileHere text r.root
  file_here = here_by (parse text) refl none_of

-- ---- The number of a call.

module _ {text : List ℕ} (i room : ℕ) where
  pub opens_refused : {r : GiftiOpening} → OpensGifti text r → (r.number ≡ 0 → ⊥)
      → r.number ≡ gifti_refusal (length text) i room (parse text)
  unfolding gifti_refusal gifti_refusals
  opens_refused {r} o k =
      sym (first_kept (conditions_of_file (length text) (parse text)) (conditions_of_arrays i room (parse text)) r.number k
      (sym o.number_is))

  pub number_here : {root : ℕ} → FileHere text root
      → gifti_refusal (length text) i room (parse text) ≡ first (conditions_of_arrays i room (Some (the text root)))
  unfolding gifti_refusal gifti_refusals conditions_of_file positive
  number_here {root} f =
      first_none (given_none (conditions_of_file (length text) (parse text)) refl f.none_before) (conditions_of_arrays i room (parse text))
      ∙ ap (λ d. first (conditions_of_arrays i room d)) f.parsed

-- ---- Unique.

abbrev opening_of : ℕ → ℕ → GiftiOpening
opening_of n m = record { number = n; root = m }

pub opens_unique : {text : List ℕ} {a b : GiftiOpening} → OpensGifti text a → OpensGifti text b → a ≡ b
opens_unique {text} {a} {b} x y = ap (λ n. opening_of n a.root) same ∙ ap (opening_of b.number) (go (ℕ_discrete a.number 0))
  where
    same : a.number ≡ b.number
    same = x.number_is ∙ sym y.number_is

    go : Dec (a.number ≡ 0) → a.root ≡ b.root
    go (yes p) = same_child a.root b.root (sym (x.placed p) ∙ y.placed (sym same ∙ p))
    go (no p) = x.nowhere p ∙ sym (y.nowhere (λ z. p (same ∙ z)))
