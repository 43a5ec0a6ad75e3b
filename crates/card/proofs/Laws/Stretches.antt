-- The lines of records, stretch by stretch: of dimensions as maps tell them they are the lines of each brain map's stretch, in text
-- order of maps, each counted from 0.
use Rattle.std.specs.Prelude.{◌≡◌, List, [], ◌∷◌, ◌++◌, Bool, ◌&&◌, ℕ, zero, suc, ◌+◌, ◌≤◌, ◌<◌, eqb}
use Rattle.std.proofs.Math.Path.{refl, ap}
use Rattle.std.proofs.Common.{sym, ◌∙◌, append_assoc, le_of_suc-le-suc, not-suc-le-zero, arith}
use Rattle.std.proofs.Math.Bool.{true, false, cond}
use borrow.Author.Tests.{ne_eqb, eq-eqb}
use Rattle.std.proofs.Math.ListN.{length}
use Rattle.std.proofs.Math.Seq.{take-append_seam, drop-append_seam}
use Rattle.lists.specs.Lists.{any, those, each_in}
use Rattle.lists.proofs.Laws.Booleans.{or_left, or_right, both_ways}
use Rattle.cifti.specs.Maps.{Map, is_brain, length_of, brain_maps}
use Rattle.cifti.specs.Answer.{unused, stretch, stretches, described, reach, dimension_at}
use Rattle.cifti.proofs.Laws.Said.{stretch_length}
use Rattle.cifti.specs.declared.answer.Dimension.{Dimension}
use Rattle.card.specs.declared.line.Line.{Line}
use Rattle.card.specs.Card.{numbered, stretch_begins, length_from, record_lines}

abbrev pub applies : (d : ℕ) → Map → Bool
applies d m = any (eqb d) m.dimensions

-- what is told of the three dimensions by maps the first of which begins its stretch at `at`
abbrev pub told_by : (at : ℕ) → List Map → List Dimension
told_by at l = dimension_at at l 0 ∷ dimension_at at l 1 ∷ dimension_at at l 2 ∷ []

-- ---- Which stretch begins at a place.

-- two dimensions that tell the same of the stretch at a place
record Alike (p : ℕ) (x y : Dimension) : Type 0 where
  pub alike : (rest : ℕ) → cond (stretch_begins p x) x.length rest ≡ cond (stretch_begins p y) y.length rest

neither : (p : ℕ) (x y : Dimension) → stretch_begins p x ≡ false → stretch_begins p y ≡ false → Alike p x y
neither p x y h k = record { alike = λ rest. rw (h, k) refl }

from_cons : (p : ℕ) (x y : Dimension) (l k : List Dimension) → Alike p x y → length_from p l ≡ length_from p k
    → length_from p (x ∷ l) ≡ length_from p (y ∷ k)
unfolding length_from
from_cons p x y l k h e = h.alike (length_from p l) ∙ ap (λ rest. cond (stretch_begins p y) y.length rest) e

unused_begins : (p : ℕ) → stretch_begins p unused ≡ false
unfolding stretch_begins
unused_begins p = refl

described_begins : (p at : ℕ) (m : Map) → stretch_begins p (described at m) ≡ (is_brain m.kind && eqb at p)
unfolding stretch_begins described
described_begins p at m = go (is_brain m.kind)
  where
    go : (b : Bool) → (b && eqb (cond b at 0) p) ≡ (b && eqb at p)
    go true = refl
    go false = refl

elsewhere : (p at : ℕ) (m : Map) → (is_brain m.kind ≡ true → at ≡ p → ⊥) → stretch_begins p (described at m) ≡ false
elsewhere p at m h = described_begins p at m ∙ go (is_brain m.kind) refl
  where
    go : (b : Bool) → is_brain m.kind ≡ b → (b && eqb at p) ≡ false
    go true e = ne_eqb at p (h e)
    go false e = refl

-- none begins before the first
begins_later : (p at : ℕ) (l : List Map) (d : ℕ) → p < at → stretch_begins p (dimension_at at l d) ≡ false
unfolding dimension_at
begins_later p at [] d h = unused_begins p
begins_later p at (m ∷ l) d h = go (applies d m) (begins_later p (at + reach m) l d (omega arith))
  where
    go : (b : Bool) → stretch_begins p (dimension_at (at + reach m) l d) ≡ false
        → stretch_begins p (cond b (described at m) (dimension_at (at + reach m) l d)) ≡ false
    go true f = elsewhere p at m (λ e q. omega arith)
    go false f = f

untold : (at : ℕ) (l : List Map) (d : ℕ) → any (applies d) l ≡ false → dimension_at at l d ≡ unused
unfolding dimension_at any
untold at [] d h = refl
untold at (m ∷ l) d h =
    rw (or_left (applies d m) (any (applies d) l) h) (untold (at + reach m) l d (or_right (applies d m) (any (applies d) l) h))

-- ---- A map in front.

pub record InFront (x : Map) (l : List Map) : Type 0 where
  pub long : is_brain x.kind ≡ true → 0 < length_of x
  pub some : ℕ
  pub exists : some < 3
  pub listed : applies some x ≡ true
  pub alone : (d : ℕ) → applies d x ≡ true → any (applies d) l ≡ false

module _ (at : ℕ) (x : Map) (l : List Map) (front : InFront x l) where
  passed : (p d : ℕ) → (is_brain x.kind ≡ true → at < p) → Alike p (dimension_at at (x ∷ l) d) (dimension_at (at + reach x) l d)
  unfolding dimension_at
  passed p d far = go (applies d x) refl
    where
      go : (b : Bool) → applies d x ≡ b
          → Alike p (cond b (described at x) (dimension_at (at + reach x) l d)) (dimension_at (at + reach x) l d)
      go true e =
          neither p (described at x) (dimension_at (at + reach x) l d) (elsewhere p at x (λ b q. let f : at < p = far b in omega arith))
          (rw (untold (at + reach x) l d (front.alone d e)) (unused_begins p))
      go false e = record { alike = λ rest. refl }

  -- the stretches behind it are as the maps behind it tell them
  from_behind : (p : ℕ) → (is_brain x.kind ≡ true → at < p) → length_from p (told_by at (x ∷ l)) ≡ length_from p (told_by (at + reach x) l)
  from_behind p far =
      from_cons p _ _ _ _ (passed p 0 far) (from_cons p _ _ _ _ (passed p 1 far) (from_cons p _ _ [] [] (passed p 2 far) refl))

  module _ (brain : is_brain x.kind ≡ true) where
    brain_reach : reach x ≡ length_of x
    unfolding reach
    brain_reach = rw brain refl

    here : (d rest : ℕ) → cond (stretch_begins at (dimension_at at (x ∷ l) d)) (dimension_at at (x ∷ l) d).length rest
        ≡ cond (applies d x) (length_of x) rest
    unfolding dimension_at described
    here d rest = go (applies d x)
      where
        go : (b : Bool) → cond (stretch_begins at (cond b (described at x) (dimension_at (at + reach x) l d)))
            (cond b (described at x) (dimension_at (at + reach x) l d)).length rest ≡ cond b (length_of x) rest
        go true = rw (described_begins at at x, brain, eq-eqb at at refl) refl
        go false =
            let long : 0 < length_of x = front.long brain in
            rw (begins_later at (at + reach x) l d (omega (arith, brain_reach))) refl

    pick : (d : ℕ) → d < 3 → applies d x ≡ true
        → cond (applies 0 x) (length_of x) (cond (applies 1 x) (length_of x) (cond (applies 2 x) (length_of x) 0)) ≡ length_of x
    pick zero h e = rw e refl
    pick (suc zero) h e = rw e (same (applies 0 x))
      where
        same : (b : Bool) → cond b (length_of x) (length_of x) ≡ length_of x
        same true = refl
        same false = refl
    pick (suc (suc zero)) h e = rw e (same (applies 0 x) (applies 1 x))
      where
        same : (b c : Bool) → cond b (length_of x) (cond c (length_of x) (length_of x)) ≡ length_of x
        same true c = refl
        same false true = refl
        same false false = refl
    pick (suc (suc (suc d))) h e = absurd (omega arith)

    -- its own begins at `at`
    from_front : length_from at (told_by at (x ∷ l)) ≡ length_of x
    unfolding length_from
    from_front =
        here 0 _
        ∙ ap (λ n. cond (applies 0 x) (length_of x) n)
        (here 1 _ ∙ ap (λ n. cond (applies 1 x) (length_of x) n) (here 2 0))
        ∙ pick front.some front.exists front.listed

-- ---- All maps.

pub data Fronts : List Map → Type 0 where
  none : Fronts []
  more : {x : Map} {l : List Map} → InFront x l → Fronts l → Fronts (x ∷ l)

none_more : (n at : ℕ) (dims : List Dimension) (records : List ℕ) → length_from at dims ≡ 0 → record_lines n at dims records ≡ []
unfolding record_lines numbered
none_more zero at dims records h = refl
none_more (suc n) at dims records h = let z : at + 0 ≡ at = omega arith in rw (h, z) (none_more n at dims records h)

one_more : (n at : ℕ) (dims : List Dimension) (u v : List ℕ) → length_from at dims ≡ length u
    → record_lines (suc n) at dims (u ++ v) ≡ numbered 0 u ++ record_lines n (at + length u) dims v
unfolding record_lines
one_more n at dims u v h = rw (h, take-append_seam u v, drop-append_seam u v) refl

no_reach : (x : Map) → is_brain x.kind ≡ false → reach x ≡ 0
unfolding reach
no_reach x h = rw h refl

nothing_told : (at : ℕ) → length_from at (told_by at []) ≡ 0
unfolding length_from dimension_at stretch_begins
nothing_told at = refl

abbrev pub stretch_lines : List Map → List Line
stretch_lines l = each_in (λ m. numbered 0 (stretch m)) (brain_maps l)

module _ (at : ℕ) (x : Map) (l : List Map) (dims : List Dimension) (rest : List ℕ) (front : InFront x l)
    (same : (p : ℕ) → at ≤ p → length_from p dims ≡ length_from p (told_by at (x ∷ l)))
    (behind : (m : ℕ) → length (brain_maps l) ≤ m
    → ((p : ℕ) → at + reach x ≤ p → length_from p dims ≡ length_from p (told_by (at + reach x) l))
    → record_lines m (at + reach x) dims (stretches l ++ rest) ≡ stretch_lines l) where
  next : (m : ℕ) → length (brain_maps l) ≤ m → (is_brain x.kind ≡ true → at < at + reach x)
      → record_lines m (at + reach x) dims (stretches l ++ rest) ≡ stretch_lines l
  next m h far = behind m h
      (λ p q. same p (omega arith) ∙ from_behind at x l front p (λ b. let f : at < at + reach x = far b in omega arith))

  its_own : (m : ℕ) → is_brain x.kind ≡ true → suc (length (brain_maps l)) ≤ m
      → record_lines m at dims ((stretch x ++ stretches l) ++ rest) ≡ numbered 0 (stretch x) ++ stretch_lines l
  its_own zero b h = absurd (not-suc-le-zero h)
  its_own (suc m) b h =
      let long : 0 < length_of x = front.long b in
      let reached : length (stretch x) ≡ reach x = stretch_length x ∙ sym (brain_reach at x l front b) in
      rw (append_assoc (stretch x) (stretches l) rest)
      (one_more m at dims (stretch x) (stretches l ++ rest)
      (same at (omega arith) ∙ from_front at x l front b ∙ sym (stretch_length x))
      ∙ rw reached (ap (λ k. numbered 0 (stretch x) ++ k)
      (next m (le_of_suc-le-suc h) (λ e. omega (arith, brain_reach at x l front b)))))

  no_own : (n : ℕ) → is_brain x.kind ≡ false → length (brain_maps l) ≤ n → record_lines n at dims (stretches l ++ rest) ≡ stretch_lines l
  no_own n b h =
      let z : at + reach x ≡ at = omega (arith, no_reach x b) in
      ap (λ k. record_lines n k dims (stretches l ++ rest)) (sym z) ∙ next n h (λ e. both_ways e b)

  one_map : (n : ℕ) → length (brain_maps (x ∷ l)) ≤ n → record_lines n at dims (stretches (x ∷ l) ++ rest) ≡ stretch_lines (x ∷ l)
  unfolding stretches brain_maps those each_in
  one_map n few = go (is_brain x.kind) refl few
    where
      go : (b : Bool) → is_brain x.kind ≡ b → length (cond b (x ∷ brain_maps l) (brain_maps l)) ≤ n
          → record_lines n at dims (each_in stretch (cond b (x ∷ brain_maps l) (brain_maps l)) ++ rest)
          ≡ each_in (λ m. numbered 0 (stretch m)) (cond b (x ∷ brain_maps l) (brain_maps l))
      go true b h = its_own n b h
      go false b h = no_own n b h

pub in_text_order : (n at : ℕ) (l : List Map) (dims : List Dimension) (rest : List ℕ) → Fronts l → length (brain_maps l) ≤ n
    → ((p : ℕ) → at ≤ p → length_from p dims ≡ length_from p (told_by at l)) → record_lines n at dims (stretches l ++ rest) ≡ stretch_lines l
unfolding stretches brain_maps those each_in
in_text_order n at [] dims rest none few same = none_more n at dims rest (same at (omega arith) ∙ nothing_told at)
in_text_order n at (x ∷ l) dims rest (more front fronts) few same =
    one_map at x l dims rest front same (λ m h q. in_text_order m (at + reach x) l dims rest fronts h q) n few
