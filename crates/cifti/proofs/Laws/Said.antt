-- WHAT AN ANSWER SAYS, in the paper's terms; and that it says so of the maps: where a stretch begins, and what stands in it.
use Rattle.std.specs.Prelude.{◌≡◌, refl, List, [], ◌∷◌, ◌++◌, Bool, true, false, ◌||◌, cond, ℕ, zero, suc, ◌+◌, ◌<◌, eqb, length, get_or, Option, Some, None}
use Rattle.std.proofs.Common.{ap, ◌∙◌, true≢false, le_of_suc-le-suc, not-suc-le-zero, arith, get_or-append-add}
use Rattle.std.proofs.Math.ListN.{get_or-append}
use Rattle.lists.specs.Lists.{any, total, each_in, those, count_up, tabulated}
use Rattle.cifti.specs.Maps.{Map, brain_maps, length_of, is_brain, is_series}
use Rattle.cifti.specs.Answer.{record_at, stretch, stretches, no_series, as_series, described, reach, dimension_at}
use Rattle.cifti.specs.declared.answer.Kind.{Kind}
use Rattle.cifti.specs.declared.answer.Series as S
use Rattle.cifti.specs.declared.answer.Dimension.{Dimension}

-- kind, length, for brain maps stretch start, and for series start, step, exponent and unit
pub record Says : Type 0 where
  pub kind : Kind
  pub length : ℕ
  pub start : Option ℕ
  pub series : Option S.Series

abbrev given : {A : Type 0} → Bool → A → Option A
given b a = cond b (Some a) None

unfoldable pub said : Dimension → Says
said d = record {
  kind = d.kind;
  length = d.length;
  start = given (is_brain d.kind) d.start.0;
  series = given (is_series d.kind) d.series;
}

-- ---- Of a map whose stretch begins at `at`.

unfoldable pub says_of : (at : ℕ) → Map → Says
says_of at m = record {
  kind = m.kind;
  length = length_of m;
  start = given (is_brain m.kind) at;
  series = given (is_series m.kind) (as_series m.series);
}

pub said_of : (at : ℕ) (m : Map) → said (described at m) ≡ says_of at m
unfolding said described says_of
said_of at m = go (is_brain m.kind) (is_series m.kind)
  where
    go : (b s : Bool) → ◌≡◌ {A = Says} (record {
      kind = m.kind;
      length = length_of m;
      start = given b (cond b at 0);
      series = given s (cond s (as_series m.series) no_series);
    }) (record { kind = m.kind; length = length_of m; start = given b at; series = given s (as_series m.series) })
    go true true = refl
    go true false = refl
    go false true = refl
    go false false = refl

-- ---- Of the first map that lists the dimension: it begins where the stretches of the maps before it end.

pub dimension_of : (k : List Map) (m : Map) (l : List Map) (at d : ℕ) → any (λ x. any (eqb d) x.dimensions) k ≡ false
    → any (eqb d) m.dimensions ≡ true
    → dimension_at at (k ++ (m ∷ l)) d ≡ described (at + total reach k) m
unfolding dimension_at any total
dimension_of [] m l at d h t = let e : at + 0 ≡ at = omega arith in rw (t, e) refl
dimension_of (x ∷ k) m l at d h t = go (any (eqb d) x.dimensions) refl h (λ f. dimension_of k m l (at + reach x) d f t)
  where
    go : (b : Bool) → any (eqb d) x.dimensions ≡ b → (b || any (λ y. any (eqb d) y.dimensions) k) ≡ false
        → (any (λ y. any (eqb d) y.dimensions) k ≡ false
        → dimension_at (at + reach x) (k ++ (m ∷ l)) d ≡ described (at + reach x + total reach k) m)
        → cond b (described at x) (dimension_at (at + reach x) (k ++ (m ∷ l)) d) ≡ described (at + (reach x + total reach k)) m
    go true e f g = absurd (true≢false f)
    go false e f g =
        let s : at + reach x + total reach k ≡ at + (reach x + total reach k) = omega arith in
        g f ∙ ap (λ p. described p m) s

-- ---- INDEX n OF THE MAP AT ITS n-TH PLACE of the stretch.

up_length : (f : ℕ → ℕ) (i n : ℕ) → length (count_up f i n) ≡ n
unfolding count_up
up_length f i zero = refl
up_length f i (suc n) = ap suc (up_length f (suc i) n)

up_at : (f : ℕ → ℕ) (i n j : ℕ) → j < n → get_or (count_up f i n) j 0 ≡ f (i + j)
unfolding count_up
up_at f i zero j u = absurd (not-suc-le-zero u)
up_at f i (suc n) zero u = ap f (omega arith)
up_at f i (suc n) (suc j) u = let e : suc i + j ≡ i + suc j = omega arith in up_at f (suc i) n j (le_of_suc-le-suc u) ∙ ap f e

pub stretch_length : (m : Map) → length (stretch m) ≡ length_of m
unfolding stretch tabulated
stretch_length m = up_length (record_at m.models) 0 (length_of m)

pub stretch_at : (m : Map) (n : ℕ) → n < length_of m → get_or (stretch m) n 0 ≡ record_at m.models n
unfolding stretch tabulated
stretch_at m n u = let e : 0 + n ≡ n = omega arith in up_at (record_at m.models) 0 (length_of m) n u ∙ ap (record_at m.models) e

-- the stretch of a brain map stands where the answer says, among all stretches
pub placed : (k : List Map) (m : Map) (l : List Map) (n : ℕ) → is_brain m.kind ≡ true → n < length_of m
    → get_or (stretches (k ++ (m ∷ l))) (total reach k + n) 0 ≡ record_at m.models n
unfolding stretches brain_maps those each_in total reach
placed [] m l n h u =
    let e : 0 + n ≡ n = omega arith in
    rw (h, e) (get_or-append (stretch m) (stretches l) 0 n (rw (stretch_length m) u) ∙ stretch_at m n u)
placed (x ∷ k) m l n h u = go (is_brain x.kind) (placed k m l n h u)
  where
    rest : List ℕ
    rest = stretches (k ++ (m ∷ l))

    before : ℕ
    before = total reach k

    go : (b : Bool) → get_or rest (before + n) 0 ≡ record_at m.models n
        → get_or (each_in stretch (cond b (x ∷ brain_maps (k ++ (m ∷ l))) (brain_maps (k ++ (m ∷ l))))) (cond b (length_of x) 0 + before + n) 0
        ≡ record_at m.models n
    go true f =
        let t : length_of x + before + n ≡ length (stretch x) + (before + n) = omega (arith, stretch_length x) in
        rw t (get_or-append-add (stretch x) rest (before + n) 0 ∙ f)
    go false f = let t : 0 + before + n ≡ before + n = omega arith in rw t f
