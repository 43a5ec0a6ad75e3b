-- ONE ANSWER, and one content of the list lent, for every input; and each name is told as it is told alone.
use Rattle.std.specs.Prelude.{◌≡◌, List, ℕ, ◌+◌, ◌-◌, ◌*◌, ◌/◌, ◌%◌, ◌<◌, length, get_or, drop}
use Rattle.std.proofs.Common.{sym, ap, ◌∙◌, subst, arith, ext_get_or, get_or-drop}
use Rattle.std.proofs.Math.Decide.{ℕ_discrete, dec_lt}
use Rattle.records.specs.declared.outcome.Outcome.{Outcome}
use Rattle.cifti.proofs.Laws.Text.{answers_unique}
use Rattle.map_names.specs.Placed.{NamePlaced}
use Rattle.map_names.proofs.Laws.Placed.{place_unique}
use Rattle.map_names.specs.declared.NamePlace.{NamePlace}
use Rattle.all_names.specs.Names.{MapNamesPlaced}

module _ {text lengths : List ℕ} {d : ℕ} {before : List ℕ} where
  -- EACH NAME: the n-th two numbers are what `map_name_place` answers for n
  pub each_name : {r : Outcome} {after : List ℕ} → MapNamesPlaced text lengths d before r after → (n : ℕ) → n < r.value → {p : NamePlace}
      → NamePlaced text lengths d n p
      → (p.number ≡ 0) × (p.start ≡ get_or after (2 * n) 0) × (p.length ≡ get_or after (2 * n + 1) 0)
  each_name a n u {p} q =
      let e = place_unique q (a.each n u) in (
        ap (λ (x : NamePlace). x.number) e,
        ap (λ (x : NamePlace). x.start) e,
        ap (λ (x : NamePlace). x.length) e,
      )

  module _ {r q : Outcome} {s t : List ℕ} (a : MapNamesPlaced text lengths d before r s)
      (b : MapNamesPlaced text lengths d before q t) where
    answer_same : r ≡ q
    answer_same = answers_unique a.answered b.answered

    value_same : r.value ≡ q.value
    value_same = ap (λ (x : Outcome). x.value) answer_same

    -- an even place, and the one behind it
    pair_same : (n : ℕ) → n < r.value
        → (get_or s (2 * n) 0 ≡ get_or t (2 * n) 0) × (get_or s (2 * n + 1) 0 ≡ get_or t (2 * n + 1) 0)
    pair_same n u = let v = value_same in
        let (z, x, y) = each_name b n (omega arith) (a.each n u) in
        (x, y)

    below_same : (i : ℕ) → i < 2 * r.value → get_or s i 0 ≡ get_or t i 0
    below_same i u = by (ℕ_discrete (i % 2) 0)
      where
        by : Dec (i % 2 ≡ 0) → get_or s i 0 ≡ get_or t i 0
        by (yes z) =
            let e : 2 * (i / 2) ≡ i = omega arith in
            subst (λ (j : ℕ). get_or s j 0 ≡ get_or t j 0) e (pair_same (i / 2) (omega arith)).0
        by (no z) =
            let e : 2 * (i / 2) + 1 ≡ i = omega arith in
            subst (λ (j : ℕ). get_or s j 0 ≡ get_or t j 0) e (pair_same (i / 2) (omega arith)).1

    past_same : (i : ℕ) → get_or s (2 * r.value + i) 0 ≡ get_or t (2 * r.value + i) 0
    past_same i =
        sym (get_or-drop (2 * r.value) s i 0)
        ∙ ap (λ l. get_or l i 0) (a.past ∙ sym (subst (λ (v : ℕ). drop (2 * v) t ≡ drop (2 * v) before) (sym value_same) b.past))
        ∙ get_or-drop (2 * r.value) t i 0

    list_same : s ≡ t
    list_same = ext_get_or 0 s t (a.long ∙ sym b.long) (λ i u. by i (dec_lt i (2 * r.value)))
      where
        by : (i : ℕ) → Dec (i < 2 * r.value) → get_or s i 0 ≡ get_or t i 0
        by i (yes u) = below_same i u
        by i (no u) =
            let e : 2 * r.value + (i - 2 * r.value) ≡ i = omega arith in
            subst (λ (j : ℕ). get_or s j 0 ≡ get_or t j 0) e (past_same (i - 2 * r.value))

    -- ONE ANSWER
    pub map_names_unique : (r ≡ q) × (s ≡ t)
    map_names_unique = (answer_same, list_same)
