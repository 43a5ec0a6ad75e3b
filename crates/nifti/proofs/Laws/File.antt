-- ONE LIST AND ONE FRONT FOR EVERY FILE, and there is one. Assumes nothing.
use Rattle.std.specs.Prelude.{◌≡◌, Bool, ℕ, ℤ, pos, negsuc, length, take, Option, Some, None}
use Rattle.std.proofs.Math.Path.{refl}
use Rattle.std.proofs.Common.{sym, ap, ◌∙◌, arith, eqb-true, leb-true, le-leb, eq-eqb, ne_eqb}
use mathlib.Core.List.{List, []}
use Rattle.std.proofs.Math.Bool.{true, false, cond}
use Rattle.std.proofs.Math.Dec.{eqb, leb}
use Rattle.std.proofs.Math.Seq.{slice}
use Rattle.std.proofs.lemmas.Bool.{eqb-false}
use Rattle.lists.proofs.Laws.Booleans.{never_some}
use Rattle.records.specs.Bytes.{Below}
use Rattle.records.proofs.Laws.Bytes.{take_below, drop_below}
use Rattle.nifti.specs.Extensions.{Extension}
use Rattle.nifti.specs.File.{order_of, offset, extender, list_start, HasList, empty, listed, ListOf, list, unlisted, front_to}
use Rattle.nifti.specs.File.{Fronts, FrontPart, part_of}
use Rattle.nifti.specs.Model.{cut, cut_to, list_in, front_of}
use Rattle.nifti.proofs.Laws.Lists.{list_found, listed_iff}
use Rattle.nifti.specs.declared.Front.{Front}

-- ---- What the model finds is the list.

-- of what has a list, it is found
pub has_found : {file : List ℕ} {es : List Extension} → HasList file es → list_in file ≡ Some es
unfolding list_in cut_to
has_found {file} (empty z) = rw (eq-eqb (extender file) 0 z)
has_found {file} (listed {end} z e i l) = rw (ne_eqb (extender file) 0 z, e, le-leb end (length file) i) (list_found l)

-- LIST-UNIQUE, of a file
pub has_unique : {file : List ℕ} {es fs : List Extension} → HasList file es → HasList file fs → es ≡ fs
has_unique h k = let p = has_found h in let q = has_found k in cc

module _ (file : List ℕ) (b : Below 256 file) where
  slice_below : (f t : ℕ) → Below 256 (slice f t file)
  slice_below f t = drop_below 256 f (take t file) (take_below 256 t file (omega arith) b)

  to_has : (es : List Extension) → (extender file ≡ 0 → ⊥) → (z : ℤ) → offset file ≡ z → cut_to z file ≡ Some es → HasList file es
  unfolding cut_to
  to_has es x (pos end) o h = go (leb end (length file)) refl h
    where
      go : (t : Bool) → leb end (length file) ≡ t → cond t (cut (order_of file) (slice list_start end file)) None ≡ Some es
          → HasList file es
      go true e q = listed x o (leb-true end (length file) e)
          ((listed_iff (order_of file) (slice list_start end file) es (slice_below list_start end)).0 q)
      go false e q = never_some q
  to_has es x (negsuc n) o h = never_some h

  found_has : (es : List Extension) → list_in file ≡ Some es → HasList file es
  unfolding list_in
  found_has es h = go (eqb (extender file) 0) refl h
    where
      go : (t : Bool) → eqb (extender file) 0 ≡ t → cond t (Some []) (cut_to (offset file) file) ≡ Some es → HasList file es
      go true e q = let z : es ≡ [] = cc in rw z (empty (eqb-true (extender file) 0 e))
      go false e q = to_has es (eqb-false (extender file) 0 e) (offset file) refl q

  pub listing : ListOf file (list_in file)
  listing = go (list_in file) refl
    where
      go : (l : Option (List Extension)) → list_in file ≡ l → ListOf file l
      go None h = unlisted (λ es k. never_some (sym h ∙ has_found k))
      go (Some es) h = list (found_has es h)

  -- ---- THERE IS A FRONT, and what equals it is promised.
  pub fronts_by : {f : Front} → f ≡ front_of file → Fronts file f
  unfolding front_of
  fronts_by h = record { extensions = list_in file; of = listing; answered = h }

-- ---- THERE IS ONLY ONE.

pub list_of_unique : {file : List ℕ} {k l : Option (List Extension)} → ListOf file k → ListOf file l → k ≡ l
list_of_unique (list h) (list g) = ap Some (has_unique h g)
list_of_unique (list h) (unlisted g) = absurd (g _ h)
list_of_unique (unlisted h) (list g) = absurd (h _ g)
list_of_unique (unlisted h) (unlisted g) = refl

pub front_unique : {file : List ℕ} {f g : Front} → Fronts file f → Fronts file g → f ≡ g
front_unique {file} r q = r.answered ∙ ap (front_to file) (list_of_unique r.of q.of) ∙ sym q.answered

pub front_part_unique : {file s t : List ℕ} → FrontPart file s → FrontPart file t → s ≡ t
front_part_unique {file} r q = r.cut ∙ ap (part_of file) (front_unique r.fronts q.fronts) ∙ sym q.cut
