-- THE LIST IS FOUND WHERE ONE IS WRITTEN, and no two are written alike. Assumes nothing.
use Rattle.std.specs.Prelude.{◌≡◌, refl, Bool, true, false, cond, eqb, leb, ltb, drop, ◌↔◌, Option, Some, None}
use Rattle.std.proofs.Math.Path.{sym, ap}
use Rattle.std.proofs.Common.{◌∙◌, subst, take-append-drop, drop-drop, length-take-le, ltb-true, leb-true, eqb-true, lt-ltb, le-leb, eq-eqb, ne_eqb}
use mathlib.Core.List.{List, [], ◌∷◌, ◌++◌, append_assoc}
use Prim.Native.Nat.{ℕ, zero, suc, ◌+◌, ◌-◌, ◌%◌, ◌^◌, ◌≤◌, ◌<◌}
use native.Mathlib.Omega.{arith}
use Rattle.std.proofs.Math.ListN.{length, take, length-append, length-drop}
use Rattle.std.proofs.Math.Seq.{drop_at, take-add, take-append_seam}
use Rattle.lists.proofs.Laws.Booleans.{and_left, and_right, and_both, never_some}
use Rattle.records.specs.Bytes.{Below}
use Rattle.records.proofs.Laws.Bytes.{drop_below}
use Rattle.nifti.specs.Fields.{field, number_at}
use Rattle.nifti.specs.Extensions.{Extension, size_of, written, GoodExtension, ExtensionList, nothing, next}
use Rattle.nifti.specs.Model.{good_size, extension_in, one_more_if, cut_by, cut}
use Rattle.nifti.proofs.Laws.Fields.{length_field, number_first, number_past, number_drop, field_of, number_below}
use Rattle.nifti.specs.declared.Order.{Order}

-- ---- A good size.

pub record Fits (size left : ℕ) : Type 0 where
  pub low : 16 ≤ size
  pub inside : size ≤ left
  pub high : size < 2 ^ 31
  pub whole : size % 16 ≡ 0

pub size_fits : (size left : ℕ) → good_size size left ≡ true → Fits size left
unfolding good_size
size_fits size left h =
    let h₁ = and_right (leb 16 size) _ h in
    let h₂ = and_right (leb size left) _ h₁ in
    record {
      low = leb-true 16 size (and_left (leb 16 size) _ h);
      inside = leb-true size left (and_left (leb size left) _ h₁);
      high = ltb-true size (2 ^ 31) (and_left (ltb size (2 ^ 31)) _ h₂);
      whole = eqb-true (size % 16) 0 (and_right (ltb size (2 ^ 31)) _ h₂);
    }

pub fits_size : {size left : ℕ} → Fits size left → good_size size left ≡ true
unfolding good_size
fits_size {size} {left} f =
    and_both (le-leb 16 size f.low)
    (and_both (le-leb size left f.inside) (and_both (lt-ltb size (2 ^ 31) f.high) (eq-eqb (size % 16) 0 f.whole)))

-- ---- Fuel: as much as there are bytes is enough.

enough : (o : Order) (m n : ℕ) (s : List ℕ) → length s ≤ m → length s ≤ n → cut_by m o s ≡ cut_by n o s
unfolding cut_by one_more_if
enough o zero zero s h k = refl
enough o zero (suc n) s h k = let e : length s ≡ 0 = omega arith in rw (eq-eqb (length s) 0 e)
enough o (suc m) zero s h k = let e : length s ≡ 0 = omega arith in rw (eq-eqb (length s) 0 e)
enough o (suc m) (suc n) s h k = go (good_size (number_at o 4 0 s) (length s)) refl (enough o m n (drop (number_at o 4 0 s) s))
  where
    go : (t : Bool) → good_size (number_at o 4 0 s) (length s) ≡ t
        → (length (drop (number_at o 4 0 s) s) ≤ m → length (drop (number_at o 4 0 s) s) ≤ n
        → cut_by m o (drop (number_at o 4 0 s) s) ≡ cut_by n o (drop (number_at o 4 0 s) s))
        → cond (eqb (length s) 0) (Some []) (one_more_if t (extension_in o s) (cut_by m o (drop (number_at o 4 0 s) s)))
        ≡ cond (eqb (length s) 0) (Some []) (one_more_if t (extension_in o s) (cut_by n o (drop (number_at o 4 0 s) s)))
    go false e ih = refl
    go true e ih =
        let f = size_fits (number_at o 4 0 s) (length s) e in
        let l = f.low in
        let u = length-drop (number_at o 4 0 s) s in
        ap (λ r. cond (eqb (length s) 0) (Some []) (one_more_if true (extension_in o s) r)) (ih (omega arith) (omega arith))

-- ---- One step.

pub cut_none : (o : Order) (s : List ℕ) → length s ≡ 0 → cut o s ≡ Some []
unfolding cut cut_by
cut_none o [] e = refl
cut_none o (x ∷ s) e = absurd (omega arith)

cut_step : (o : Order) (s : List ℕ) → (length s ≡ 0 → ⊥) → cut o s ≡ cut_by (suc (length s)) o s
unfolding cut
cut_step o s h = enough o (length s) (suc (length s)) s (omega arith) (omega arith)

pub cut_bad : (o : Order) (s : List ℕ) → (length s ≡ 0 → ⊥) → good_size (number_at o 4 0 s) (length s) ≡ false → cut o s ≡ None
unfolding cut_by one_more_if
cut_bad o s h e = cut_step o s h ∙ rw (ne_eqb (length s) 0 h, e)

pub cut_good : (o : Order) (s : List ℕ) → good_size (number_at o 4 0 s) (length s) ≡ true
    → cut o s ≡ one_more_if true (extension_in o s) (cut o (drop (number_at o 4 0 s) s))
unfolding cut_by cut
cut_good o s e =
    let f = size_fits (number_at o 4 0 s) (length s) e in
    let l = f.low in
    let i = f.inside in
    let u = length-drop (number_at o 4 0 s) s in
    let z : length s ≡ 0 → ⊥ = λ q. omega arith in
    cut_step o s z
    ∙ rw (ne_eqb (length s) 0 z, e)
    (ap (one_more_if true (extension_in o s))
    (enough o (length s) (length (drop (number_at o 4 0 s) s)) (drop (number_at o 4 0 s) s) (omega arith) (omega arith)))

-- ---- What is written is found.

module _ (o : Order) (e : Extension) (g : GoodExtension e) (t : List ℕ) where
  size_below : size_of e < 2 ^ 32
  size_below = let h = g.high in omega arith

  pub written_size : length (written o e) ≡ size_of e
  unfolding written size_of
  written_size =
      let a = length_field o 4 (size_of e) in
      let b = length_field o 4 e.code in
      let c = length-append (field o 4 (size_of e)) (field o 4 e.code ++ e.body) in
      let d = length-append (field o 4 e.code) e.body in
      omega arith

  size_read : number_at o 4 0 (written o e ++ t) ≡ size_of e
  unfolding written
  size_read = rw append_assoc (number_first o 4 (size_of e) ((field o 4 e.code ++ e.body) ++ t) size_below)

  code_read : number_at o 4 4 (written o e ++ t) ≡ e.code
  unfolding written
  code_read =
      let l = length_field o 4 (size_of e) in
      let p : 4 ≡ length (field o 4 (size_of e)) + 0 = omega arith in
      ap (λ n. number_at o 4 n (written o e ++ t)) p
      ∙ ap (number_at o 4 (length (field o 4 (size_of e)) + 0)) (append_assoc (field o 4 (size_of e)) (field o 4 e.code ++ e.body) t)
      ∙ number_past o 4 0 (field o 4 (size_of e)) ((field o 4 e.code ++ e.body) ++ t)
      ∙ rw append_assoc (number_first o 4 e.code (e.body ++ t) g.coded)

  pub behind_eight : drop 8 (written o e ++ t) ≡ e.body ++ t
  unfolding written
  behind_eight =
      let a = length_field o 4 (size_of e) in
      let b = length_field o 4 e.code in
      let c = length-append (field o 4 (size_of e)) (field o 4 e.code) in
      let r : written o e ++ t ≡ (field o 4 (size_of e) ++ field o 4 e.code) ++ (e.body ++ t) = simp append_assoc in
      ap (drop 8) r ∙ drop_at (field o 4 (size_of e) ++ field o 4 e.code) (e.body ++ t) 8 (omega arith)

  body_read : take (number_at o 4 0 (written o e ++ t) - 8) (drop 8 (written o e ++ t)) ≡ e.body
  unfolding size_of
  body_read =
      let p : size_of e - 8 ≡ length e.body = omega arith in
      rw (size_read, behind_eight, p) (take-append_seam e.body t)

  pub read_back : extension_in o (written o e ++ t) ≡ e
  unfolding extension_in
  read_back = λ k. record { code = code_read k; body = body_read k }

  good_read : good_size (number_at o 4 0 (written o e ++ t)) (length (written o e ++ t)) ≡ true
  good_read =
      let a = length-append (written o e) t in
      let b = written_size in
      rw size_read (fits_size (record { low = g.low; inside = omega arith; high = g.high; whole = g.whole }))

  pub found_next : cut o (written o e ++ t) ≡ one_more_if true e (cut o t)
  found_next =
      cut_good o (written o e ++ t) good_read
      ∙ rw (read_back, size_read) (ap (λ l. one_more_if true e (cut o l)) (drop_at (written o e) t (size_of e) written_size))

pub list_found : {o : Order} {es : List Extension} {s : List ℕ} → ExtensionList o es s → cut o s ≡ Some es
unfolding one_more_if
list_found {o} nothing = cut_none o [] refl
list_found {o} (next {e} {es} {s} g l) = found_next o e g s ∙ ap (one_more_if true e) (list_found l)

-- ---- LIST-UNIQUE: no two lists of extensions are written alike.
pub list_unique : {o : Order} {es fs : List Extension} {s : List ℕ} → ExtensionList o es s → ExtensionList o fs s → es ≡ fs
list_unique h k = let p = list_found h in let q = list_found k in cc

-- ---- What is found is written.

module _ (o : Order) (s : List ℕ) (f : Fits (number_at o 4 0 s) (length s)) where
  long : 16 ≤ length s
  long = let l = f.low in let i = f.inside in omega arith

  pub body_length : length (take (number_at o 4 0 s - 8) (drop 8 s)) ≡ number_at o 4 0 s - 8
  body_length =
      let u = length-drop 8 s in
      let i = f.inside in
      let l = f.low in
      length-take-le (number_at o 4 0 s - 8) (drop 8 s) (omega arith)

  pub size_is : size_of (extension_in o s) ≡ number_at o 4 0 s
  unfolding size_of extension_in
  size_is = let e = body_length in let l = f.low in omega arith

module _ (o : Order) (s : List ℕ) (b : Below 256 s) (f : Fits (number_at o 4 0 s) (length s)) where
  pub found_good : GoodExtension (extension_in o s)
  unfolding extension_in
  found_good =
      let e = size_is o s f in
      let l = f.low in
      let h = f.high in
      let u = length-drop 4 s in
      let k = long o s f in
      record {
        whole = rw e f.whole;
        low = omega arith;
        high = omega arith;
        coded = rw (number_drop o 4 4 s) (number_below o 4 (drop 4 s) (drop_below 256 4 s b) (omega arith));
      }

  found_bytes : written o (extension_in o s) ≡ take (number_at o 4 0 s) s
  unfolding written extension_in
  found_bytes =
      let u = length-drop 4 s in
      let k = long o s f in
      let l = f.low in
      let n : ℕ = number_at o 4 0 s in
      let p : 4 + (4 + (n - 8)) ≡ n = omega arith in
      let size : field o 4 (size_of (extension_in o s)) ≡ take 4 s = ap (field o 4) (size_is o s f) ∙ field_of o 4 s b (omega arith) in
      let code : field o 4 (number_at o 4 4 s) ≡ take 4 (drop 4 s) =
      ap (field o 4) (number_drop o 4 4 s) ∙ field_of o 4 (drop 4 s) (drop_below 256 4 s b) (omega arith) in
      let whole : take 4 s ++ (take 4 (drop 4 s) ++ take (n - 8) (drop 8 s)) ≡ take n s =
      sym (ap (λ m. take m s) (sym p) ∙ take-add 4 (4 + (n - 8)) s
      ∙ ap (λ r. take 4 s ++ r) (take-add 4 (n - 8) (drop 4 s) ∙ ap (λ r. take 4 (drop 4 s) ++ take (n - 8) r) (drop-drop 4 4 s))) in
      rw (size, code) whole

  pub found_joined : written o (extension_in o s) ++ drop (number_at o 4 0 s) s ≡ s
  found_joined = ap (λ r. r ++ drop (number_at o 4 0 s) s) found_bytes ∙ take-append-drop (number_at o 4 0 s) s

-- one more in front, taken apart
record Onward (t : Bool) (e : Extension) (l : Option (List Extension)) (es : List Extension) : Type 0 where
  good : t ≡ true
  rest : List Extension
  is : l ≡ Some rest
  joined : es ≡ e ∷ rest

onward_some : (t : Bool) (e : Extension) (l : Option (List Extension)) {es : List Extension} → one_more_if t e l ≡ Some es → Onward t e l es
unfolding one_more_if
onward_some false e l h = never_some h
onward_some true e None h = never_some h
onward_some true e (Some fs) h = record { good = refl; rest = fs; is = refl; joined = cc }

nothing_listed : (o : Order) (s : List ℕ) {es : List Extension} → length s ≡ 0 → Some [] ≡ Some es → ExtensionList o es s
nothing_listed o [] {es} e q = let z : es ≡ [] = cc in rw z nothing
nothing_listed o (x ∷ s) e q = absurd (omega arith)

next_listed : (o : Order) (s : List ℕ) {es : List Extension} {l : Option (List Extension)} → Below 256 s
    → ((fs : List Extension) → Below 256 (drop (number_at o 4 0 s) s) → l ≡ Some fs → ExtensionList o fs (drop (number_at o 4 0 s) s))
    → Onward (good_size (number_at o 4 0 s) (length s)) (extension_in o s) l es → ExtensionList o es s
next_listed o s {es} b ih w =
    let f = size_fits (number_at o 4 0 s) (length s) w.good in
    let r : ExtensionList o (extension_in o s ∷ w.rest) (written o (extension_in o s) ++ drop (number_at o 4 0 s) s) =
    next (found_good o s b f) (ih w.rest (drop_below 256 (number_at o 4 0 s) s b) w.is) in
    rw w.joined (subst (ExtensionList o (extension_in o s ∷ w.rest)) (found_joined o s b f) r)

found_by : (o : Order) (n : ℕ) (s : List ℕ) {es : List Extension} → Below 256 s → cut_by n o s ≡ Some es → ExtensionList o es s
unfolding cut_by
found_by o zero s {es} b h = go (eqb (length s) 0) refl h
  where
    go : (t : Bool) → eqb (length s) 0 ≡ t → cond t (Some []) None ≡ Some es → ExtensionList o es s
    go true e q = nothing_listed o s (eqb-true _ _ e) q
    go false e q = never_some q
found_by o (suc n) s {es} b h = go (eqb (length s) 0) refl (λ fs. found_by o n (drop (number_at o 4 0 s) s) {es = fs}) h
  where
    go : (t : Bool) → eqb (length s) 0 ≡ t
        → ((fs : List Extension) → Below 256 (drop (number_at o 4 0 s) s) → cut_by n o (drop (number_at o 4 0 s) s) ≡ Some fs
        → ExtensionList o fs (drop (number_at o 4 0 s) s))
        → cond t (Some []) (one_more_if (good_size (number_at o 4 0 s) (length s)) (extension_in o s) (cut_by n o (drop (number_at o 4 0 s) s)))
        ≡ Some es
        → ExtensionList o es s
    go true e ih q = nothing_listed o s (eqb-true _ _ e) q
    go false e ih q = next_listed o s b ih (onward_some _ (extension_in o s) (cut_by n o (drop (number_at o 4 0 s) s)) q)

-- ---- LISTED-IFF: what is found is that a list is written.
pub listed_iff : (o : Order) (s : List ℕ) (es : List Extension) → Below 256 s → (cut o s ≡ Some es) ↔ ExtensionList o es s
unfolding cut
listed_iff o s es b = (found_by o (length s) s b, list_found)
