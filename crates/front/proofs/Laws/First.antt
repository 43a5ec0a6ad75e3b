-- FIRST-32: the body taken is that of an extension of code 32, no extension before it has that code, and it begins behind their bytes.
use Rattle.std.specs.Prelude.{◌≡◌, refl, List, [], ◌∷◌, ◌++◌, Bool, true, false, not, cond, ℕ, ◌+◌, eqb, Some}
use Rattle.std.proofs.Common.{sym, ap, ◌∙◌, arith, eqb-true}
use Rattle.lists.specs.Lists.{total, all}
use Rattle.lists.proofs.Laws.Booleans.{never_some}
use Rattle.nifti.specs.Extensions.{Extension, size_of, Body, first_text}

pub data FirstText (at : ℕ) (es : List Extension) (b : Body) : Type 0 where
  found : (before : List Extension) (e : Extension) (after : List Extension) → es ≡ before ++ (e ∷ after)
      → all (λ x. not (eqb x.code 32)) before ≡ true → e.code ≡ 32 → b.bytes ≡ e.body → b.start ≡ at + total size_of before + 8
      → FirstText at es b

pub first_32 : (at : ℕ) (es : List Extension) (b : Body) → first_text at es ≡ Some b → FirstText at es b
unfolding first_text all total
first_32 at [] b h = never_some h
first_32 at (e ∷ es) b h = go (eqb e.code 32) refl h (first_32 (at + size_of e) es b)
  where
    later : eqb e.code 32 ≡ false → FirstText (at + size_of e) es b → FirstText at (e ∷ es) b
    later q (found before x after p n c w s) =
        found (e ∷ before) x after (ap (λ l. e ∷ l) p) (rw q n) c w (s ∙ omega arith)

    go : (t : Bool) → eqb e.code 32 ≡ t
        → cond t (Some (record { start = at + 8; bytes = e.body })) (first_text (at + size_of e) es) ≡ Some b
        → (first_text (at + size_of e) es ≡ Some b → FirstText (at + size_of e) es b) → FirstText at (e ∷ es) b
    go true q k ih =
        let z : record { start = at + 8; bytes = e.body } ≡ b = cc in
        found [] e es refl refl (eqb-true e.code 32 q) (sym (ap (λ (x : Body). x.bytes) z))
        (sym (ap (λ (x : Body). x.start) z) ∙ omega arith)
    go false q k ih = later q (ih k)
