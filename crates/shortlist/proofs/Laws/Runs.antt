-- RUNS AS A LOOP MEETS THEM: a run from where it begins to where it ends, and then the runs behind it. Assumes nothing.
use Rattle.std.specs.Prelude.{◌≡◌, refl, Bool, true, false, cond, leb, length, get_or}
use Rattle.std.proofs.Common.{sym, ◌∙◌, mod-lt, pow_pos, le-leb, leb-true, leb-false, eq-eqb, ne_eqb}
use Rattle.std.proofs.Math.Path.{ap}
use mathlib.Core.List.{List, [], ◌∷◌, ◌++◌}
use Prim.Native.Nat.{ℕ, zero, suc, ◌+◌, ◌-◌, ◌%◌, ◌<◌, ◌≤◌}
use native.Mathlib.Omega.{arith}
use Rattle.std.proofs.Math.Decide.{dec_lt}
use Rattle.std.proofs.Math.ListN.{drop}
use Rattle.std.proofs.Math.Seq.{drop-cons}
use Rattle.std.proofs.lemmas.Bool.{lt-leb}
use Rattle.lists.specs.Lists.{tabulated, count_up}
use Rattle.records.specs.Fields.{bits, parts_of}
use Rattle.records.specs.Record.{is_voxel, structure_of, structure_in}
use Rattle.shortlist.specs.Runs.{most_structure, structure_kind, kind_of, kind_in, alone, runs_on, runs_from}
use Rattle.shortlist.specs.declared.answer.Model.{Model}

-- ---- A kind and its parts.

pub kind_parts : (v : Bool) (s : ℕ) → s ≤ most_structure → (leb 32 (structure_kind v s) ≡ v) × (structure_kind v s % 32 ≡ s)
unfolding structure_kind
kind_parts true s h = (le-leb 32 (32 + s) (omega arith), omega arith)
kind_parts false s h = (lt-leb 32 (0 + s) (omega arith), omega arith)

pub kind_below : (v : Bool) (s : ℕ) → s ≤ most_structure → structure_kind v s < 64
unfolding structure_kind
kind_below true s h = omega arith
kind_below false s h = omega arith

pub kind_again : (k : ℕ) → k < 64 → structure_kind (leb 32 k) (k % 32) ≡ k
unfolding structure_kind
kind_again k h = by (leb 32 k) refl
  where
    by : (b : Bool) → leb 32 k ≡ b → cond b 32 0 + k % 32 ≡ k
    by true e = let u = leb-true 32 k e in omega arith
    by false e = let u = leb-false 32 k e in omega arith

pub structure_small : (r : ℕ) → structure_of r ≤ most_structure
unfolding structure_in bits parts_of
structure_small r = let h : structure_of r < 32 = mod-lt _ (pow_pos 5) in omega arith

pub kind_small : (r : ℕ) → kind_of r < 64
unfolding kind_of
kind_small r = kind_below (is_voxel r) (structure_of r) (structure_small r)

-- the kind of a record, as code finds it
pub voxel_kind : (n s : ℕ) (b : Bool) → s ≡ structure_of n → b ≡ is_voxel n → b ≡ true → (32 + s ≡ kind_of n) × (32 + s < 64)
unfolding kind_of structure_kind
voxel_kind n s b p q e =
    let k : 32 + s ≡ kind_of n = ap (λ t. 32 + t) p ∙ sym (ap (λ t. cond t 32 0 + structure_of n) (sym q ∙ e)) in
    (k, omega (arith, p, structure_small n))

pub surface_kind : (n s : ℕ) (b : Bool) → s ≡ structure_of n → b ≡ is_voxel n → b ≡ false → (s ≡ kind_of n) × (s < 64)
unfolding kind_of structure_kind
surface_kind n s b p q e =
    let z : 0 + structure_of n ≡ structure_of n = omega arith in
    let k : s ≡ kind_of n = p ∙ sym z ∙ sym (ap (λ t. cond t 32 0 + structure_of n) (sym q ∙ e)) in
    (k, omega (arith, p, structure_small n))

-- ---- A run by its kind.

abbrev pub piece : (at count kind : ℕ) → Model
piece at n k = record { first = record { 0 = at }; count = n; voxels = leb 32 k; structure = k % 32 }

pub piece_of : (at n r : ℕ) → piece at n (kind_of r)
    ≡ record { first = record { 0 = at }; count = n; voxels = is_voxel r; structure = structure_of r }
unfolding kind_of
piece_of at n r =
    let (v, s) = kind_parts (is_voxel r) (structure_of r) (structure_small r) in
    λ i. record { first = record { 0 = at }; count = n; voxels = v i; structure = s i }

pub alone_is : (at r : ℕ) → alone at r ≡ piece at 1 (kind_of r)
alone_is at r = sym (piece_of at 1 r)

pub piece_kind : (at n k : ℕ) → k < 64 → kind_in (piece at n k) ≡ k
unfolding kind_in
piece_kind at n k h = kind_again k h

on_same : (at n k r : ℕ) (rs : List ℕ) → k < 64 → kind_of r ≡ k → runs_on (piece at n k) (r ∷ rs) ≡ runs_on (piece at (n + 1) k) rs
unfolding runs_on
on_same at n k r rs h e = rw (e, piece_kind at n k h, eq-eqb k k refl)

on_other : (at n k r : ℕ) (rs : List ℕ) → k < 64 → (kind_of r ≡ k → ⊥)
    → runs_on (piece at n k) (r ∷ rs) ≡ piece at n k ∷ runs_from (at + n) (r ∷ rs)
unfolding runs_on runs_from
on_other at n k r rs h e = rw (piece_kind at n k h, ne_eqb (kind_of r) k e)

-- ---- Lists.

up_snoc : (f : ℕ → Model) (i c : ℕ) → count_up f i (suc c) ≡ count_up f i c ++ (f (i + c) ∷ [])
unfolding count_up
up_snoc f i zero = let e : i ≡ i + 0 = omega arith in ap (λ j. f j ∷ []) e
up_snoc f i (suc c) =
    let e : suc i + c ≡ i + suc c = omega arith in
    ap (λ l. f i ∷ l) (up_snoc f (suc i) c) ∙ ap (λ j. f i ∷ (count_up f (suc i) c ++ (f j ∷ []))) e

-- one entry more at the end of a table
pub table_snoc : (f : ℕ → Model) (c : ℕ) → tabulated (suc c) f ≡ tabulated c f ++ (f c ∷ [])
unfolding tabulated
table_snoc f c = let e : 0 + c ≡ c = omega arith in up_snoc f 0 c ∙ ap (λ j. count_up f 0 c ++ (f j ∷ [])) e

-- nothing lies past the end
pub drop_all : (l : List ℕ) (i : ℕ) → length l ≤ i → drop i l ≡ []
drop_all [] zero h = refl
drop_all [] (suc i) h = refl
drop_all (x ∷ l) zero h = absurd (omega arith)
drop_all (x ∷ l) (suc i) h = drop_all l i (omega arith)

-- ---- A run and what comes behind it.

module _ (rs : List ℕ) (at k : ℕ) (small : k < 64) where
  -- all records from i on, d of them, are of the kind
  on_through : (d i n : ℕ) → i + d ≤ length rs → ((j : ℕ) → i ≤ j → j < i + d → kind_of (get_or rs j 0) ≡ k)
      → runs_on (piece at n k) (drop i rs) ≡ runs_on (piece at (n + d) k) (drop (i + d) rs)
  on_through zero i n h f = let a : i + 0 ≡ i = omega arith in let b : n + 0 ≡ n = omega arith in rw (a, b)
  on_through (suc d) i n h f =
      let c = drop-cons rs i 0 (omega arith) in
      let a : i + suc d ≡ suc i + d = omega arith in
      let b : n + suc d ≡ n + 1 + d = omega arith in
      let one = on_same at n k (get_or rs i 0) (drop (suc i) rs) small (f i (omega arith) (omega arith)) in
      let more = on_through d (suc i) (n + 1) (omega arith) (λ j u v. f j (omega arith) (omega arith)) in
      rw (c, a, b) (one ∙ more)

  -- the run from `at` to `to`, and the runs from there on
  pub run_through : (to : ℕ) → at < to → to ≤ length rs → ((j : ℕ) → at ≤ j → j < to → kind_of (get_or rs j 0) ≡ k)
      → (to < length rs → kind_of (get_or rs to 0) ≡ k → ⊥)
      → runs_from at (drop at rs) ≡ piece at (to - at) k ∷ runs_from to (drop to rs)
  unfolding runs_from runs_on
  run_through to h u f g =
      let d : ℕ = to - suc at in
      let c = drop-cons rs at 0 (omega arith) in
      let e : suc at + d ≡ to = omega arith in
      let n : 1 + d ≡ to - at = omega arith in
      let k₀ = f at (omega arith) h in
      begins (get_or rs at 0) (drop (suc at) rs) c k₀
      ∙ on_through d (suc at) 1 (omega arith) (λ j v w. f j (omega arith) (omega arith))
      ∙ ap (λ i. runs_on (piece at (1 + d) k) (drop i rs)) e
      ∙ ap (λ i. runs_on (piece at i k) (drop to rs)) n
      ∙ ends (dec_lt to (length rs))
    where
      begins : (r : ℕ) (rest : List ℕ) → drop at rs ≡ r ∷ rest → kind_of r ≡ k → runs_from at (drop at rs) ≡ runs_on (piece at 1 k) rest
      begins r rest c k₀ = rw c (ap (λ m. runs_on m rest) (alone_is at r ∙ ap (piece at 1) k₀))

      ends : Dec (to < length rs) → runs_on (piece at (to - at) k) (drop to rs) ≡ piece at (to - at) k ∷ runs_from to (drop to rs)
      ends (yes v) =
          let c = drop-cons rs to 0 v in
          let e : at + (to - at) ≡ to = omega arith in
          ap (runs_on (piece at (to - at) k)) c
          ∙ on_other at (to - at) k (get_or rs to 0) (drop (suc to) rs) small (g v)
          ∙ ap (λ i. piece at (to - at) k ∷ runs_from i (get_or rs to 0 ∷ drop (suc to) rs)) e
          ∙ ap (λ l. piece at (to - at) k ∷ runs_from to l) (sym c)
      ends (no v) = none (drop to rs) (drop_all rs to (omega arith))
        where
          none : (l : List ℕ) → l ≡ [] → runs_on (piece at (to - at) k) l ≡ piece at (to - at) k ∷ runs_from to l
          none l e = rw e
