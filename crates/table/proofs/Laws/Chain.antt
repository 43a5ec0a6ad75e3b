-- MODELS IN ORDER, AND THE RUNS OF RECORDS: where each index from one on lies in exactly one range, and each record is of the kind of the
-- model whose range its index is in, the runs from there on are the models.
use Rattle.std.proofs.Math.Path.{◌≡◌, sym, ap}
use Rattle.std.proofs.Common.{◌∙◌}
use mathlib.Core.List.{List, [], ◌∷◌}
use Rattle.std.specs.Prelude.{Bool, true, false, cond, not, ◌&&◌, ◌||◌, eqb, leb, ltb, drop}
use Prim.Native.Nat.{ℕ, zero, suc, ◌+◌, ◌-◌, ◌<◌, ◌≤◌}
use native.Mathlib.Omega.{arith}
use Rattle.std.proofs.Math.Decide.{dec_lt}
use Rattle.std.proofs.Math.ListN.{length, get_or}
use borrow.Author.Tests.{leb-true, le-leb, ltb-true, eqb-true, eq-eqb}
use Rattle.lists.specs.Lists.{all, any, count, two_of, each}
use Rattle.lists.proofs.Laws.Quantifiers.{all_iff, any_iff, count_one_iff}
use Rattle.lists.proofs.Laws.Booleans.{and_left, and_right, or_left, or_right, both_ways, refute}
use Rattle.cifti.specs.Maps.{Model, covers}
use Rattle.cifti.specs.Conditions.{alike}
use Rattle.cifti.proofs.Laws.Meaning.{covers_iff}
use Rattle.models.specs.Kind.{type_and_structure}
use Rattle.models.proofs.Laws.Kind.{alike_number}
use Rattle.table.proofs.Laws.Ready.{nobody}
use Rattle.shortlist.specs.Runs.{kind_of, kind_in, runs_from}
use Rattle.shortlist.proofs.Laws.Runs.{kind_parts, kind_below, piece, drop_all, run_through}
use Rattle.table.specs.ByOffset.{of_voxels, entry_of}
use Rattle.table.proofs.Laws.ByOffset.{from, in_order}
use Rattle.table.proofs.Laws.Kinds.{kind_entry}

-- a range of one index at least, that ends by n, and a structure
unfoldable pub whole : ℕ → Model → Bool
whole n m = ltb 0 m.count && (ltb m.structure 32 && leb (m.offset + m.count) n)

pub record Whole (n : ℕ) (m : Model) : Type 0 where
  pub some : 1 ≤ m.count
  pub structure : m.structure < 32
  pub inside : m.offset + m.count ≤ n

pub whole_is : (n : ℕ) (m : Model) → whole n m ≡ true → Whole n m
unfolding whole
whole_is n m h =
    let r = and_right (ltb 0 m.count) _ h in
    record {
      some = ltb-true 0 m.count (and_left (ltb 0 m.count) _ h);
      structure = ltb-true m.structure 32 (and_left (ltb m.structure 32) _ r);
      inside = leb-true (m.offset + m.count) n (and_right (ltb m.structure 32) _ r);
    }

-- where the index lies in the model's range, its record is of the model's kind
unfoldable pub says : List ℕ → ℕ → Model → Bool
says rs i m = not (covers i m) || eqb (kind_of (get_or rs i 0)) (kind_in (entry_of m))

says_kind : (rs : List ℕ) (i : ℕ) (m : Model) → says rs i m ≡ true → covers i m ≡ true → kind_of (get_or rs i 0) ≡ kind_in (entry_of m)
unfolding says
says_kind rs i m h c = eqb-true _ _ (rw c at h)

-- ---- One model more.

count_past : (p : Model → Bool) (m : Model) (l : List Model) → count p (m ∷ l) ≡ 1 → p m ≡ false → count p l ≡ 1
unfolding count
count_past p m l h e = let k : cond (p m) 1 0 + count p l ≡ 1 = h in let j : 0 + count p l ≡ 1 = rw e at k in omega arith

count_only : (p : Model → Bool) (m : Model) (l : List Model) → count p (m ∷ l) ≡ 1 → p m ≡ true → (j : ℕ) → j < length l
    → p (get_or l j nobody) ≡ true → ⊥
count_only p m l h e j u v =
    let (i, a, b, c) = (count_one_iff nobody p (m ∷ l)).0 h in
    let x = c 0 (omega arith) e in
    let y = c (suc j) (omega arith) v in
    omega arith

not_covers : (i : ℕ) (m : Model) → m.offset + m.count ≤ i → covers i m ≡ false
not_covers i m u = refute (covers i m) (λ h. (let (a, b) = (covers_iff i m).0 h in omega arith))

module _ (rs : List ℕ) where
  -- what holds of the models from an index on
  pub record Ahead (at : ℕ) (l : List Model) : Type 0 where
    pub once : (i : ℕ) → at ≤ i → i < length rs → count (covers i) l ≡ 1
    pub begins : all (from at) l ≡ true
    pub ordered : in_order l ≡ true
    pub wholes : all (whole (length rs)) l ≡ true
    pub apart : two_of alike l ≡ false
    pub kinds : (i : ℕ) → i < length rs → all (says rs i) l ≡ true

  -- the model in front, and those behind it
  module _ {at : ℕ} {m : Model} {l : List Model} (h : Ahead at (m ∷ l)) where
    front : Whole (length rs) m
    unfolding all
    front = whole_is (length rs) m (and_left (whole (length rs) m) _ h.wholes)

    wholes_behind : all (whole (length rs)) l ≡ true
    unfolding all
    wholes_behind = and_right (whole (length rs) m) _ h.wholes

    behind : (j : ℕ) → j < length l → Whole (length rs) (get_or l j nobody)
    behind j u = whole_is (length rs) (get_or l j nobody) ((all_iff nobody (whole (length rs)) l).0 wholes_behind j u)

    begins_front : at ≤ m.offset
    unfolding all from
    begins_front = leb-true at m.offset (and_left (leb at m.offset) _ h.begins)

    begins_behind : (j : ℕ) → j < length l → at ≤ (get_or l j nobody).offset
    unfolding all from
    begins_behind j u = leb-true at _ ((all_iff nobody (from at) l).0 (and_right (leb at m.offset) _ h.begins) j u)

    later : (j : ℕ) → j < length l → m.offset ≤ (get_or l j nobody).offset
    unfolding in_order from
    later j u =
        leb-true m.offset _ ((all_iff nobody (from m.offset) l).0 (and_left (all (from m.offset) l) (in_order l) h.ordered) j u)

    -- it begins there: the model that holds the index begins no sooner, and no later
    front_at : m.offset ≡ at
    front_at =
        let w = front in
        let u = w.some in
        let v = w.inside in
        let b = begins_front in
        let (i, p, q, r) = (count_one_iff nobody (covers at) (m ∷ l)).0 (h.once at (omega arith) (omega arith)) in
        go i p q
      where
        go : (i : ℕ) → i < length (m ∷ l) → covers at (get_or (m ∷ l) i nobody) ≡ true → m.offset ≡ at
        go zero p q = let (x, y) = (covers_iff at m).0 q in let b = begins_front in omega arith
        go (suc j) p q =
            let (x, y) = (covers_iff at (get_or l j nobody)).0 q in
            let b = begins_front in
            let c = later j (omega arith) in
            omega arith

    end : ℕ
    end = at + m.count

    end_is : m.offset + m.count ≡ end
    unfolding end
    end_is = ap (λ n. n + m.count) front_at

    once_behind : (i : ℕ) → end ≤ i → i < length rs → count (covers i) l ≡ 1
    unfolding end
    once_behind i u v =
        let e = end_is in
        count_past (covers i) m l (h.once i (omega arith) v) (not_covers i m (omega arith))

    begins_next : all (from end) l ≡ true
    unfolding from
    begins_next = (all_iff nobody (from end) l).1
        (λ j u. le-leb end (get_or l j nobody).offset (at_least j u (dec_lt (get_or l j nobody).offset end)))
      where
        at_least : (j : ℕ) → j < length l → Dec ((get_or l j nobody).offset < end) → end ≤ (get_or l j nobody).offset
        at_least j u (no f) = omega arith
        at_least j u (yes f) =
            let n : ℕ = (get_or l j nobody).offset in
            let w = behind j u in
            let x = w.some in
            let y = w.inside in
            let b = later j u in
            let e = end_is in
            let a = begins_behind j u in
            let c = (covers_iff n m).1 (omega arith, omega arith) in
            let d = (covers_iff n (get_or l j nobody)).1 (omega arith, omega arith) in
            absurd (count_only (covers n) m l (h.once n (omega arith) (omega arith)) c j u d)

    next_ahead : Ahead end l
    unfolding all in_order two_of
    next_ahead = record {
      once = once_behind;
      begins = begins_next;
      ordered = and_right (all (from m.offset) l) (in_order l) h.ordered;
      wholes = wholes_behind;
      apart = or_right (any (alike m) l) (two_of alike l) h.apart;
      kinds = λ i u. and_right (says rs i m) _ (h.kinds i u);
    }

    kind : ℕ
    kind = kind_in (entry_of m)

    kind_small : kind < 64
    unfolding kind kind_in
    kind_small = let s = front.structure in kind_below (of_voxels m.listed) m.structure (omega arith)

    within : (i : ℕ) → at ≤ i → i < end → kind_of (get_or rs i 0) ≡ kind
    unfolding kind all
    within i u v =
        let o = front_at in
        let e = end_is in
        let w = front.inside in
        says_kind rs i m (and_left (says rs i m) _ (h.kinds i (omega arith))) ((covers_iff i m).1 (omega arith, omega arith))

    -- behind its end stands a record of another kind: that of another model
    stops : end < length rs → kind_of (get_or rs end 0) ≡ kind → ⊥
    unfolding kind all two_of
    stops u e =
        let (j, a, b, c) = (count_one_iff nobody (covers end) l).0 (once_behind end (omega arith) u) in
        let n : Model = get_or l j nobody in
        let Says-All = and_right (says rs end m) (all (says rs end) l) (h.kinds end u) in
        let k = says_kind rs end n ((all_iff nobody (says rs end) l).0 Says-All j a) b in
        let same : type_and_structure m ≡ type_and_structure n = sym (kind_entry m) ∙ sym e ∙ k ∙ kind_entry n in
        let alike_is = alike_number m n front.structure (behind j a).structure ∙ eq-eqb _ _ same in
        both_ways ((any_iff nobody (alike m) l).1 (j, a, alike_is)) (or_left (any (alike m) l) (two_of alike l) h.apart)

    piece_is : piece at (end - at) kind ≡ entry_of m
    unfolding kind kind_in end
    piece_is =
        let s = front.structure in
        let (v, t) = kind_parts (of_voxels m.listed) m.structure (omega arith) in
        let c : at + m.count - at ≡ m.count = omega arith in
        let o = sym front_at in
        λ i. record { first = record { 0 = o i }; count = c i; voxels = v i; structure = t i }

    step : runs_from at (drop at rs) ≡ entry_of m ∷ runs_from end (drop end rs)
    step =
        let w = front in
        let x = w.some in
        let y = w.inside in
        let e = end_is in
        let o = front_at in
        run_through rs at kind kind_small end (omega arith) (omega arith) within stops ∙ ap (λ p. p ∷ runs_from end (drop end rs)) piece_is

  -- THE RUNS ARE THE MODELS
  pub chain : (l : List Model) (at : ℕ) → Ahead at l → runs_from at (drop at rs) ≡ each entry_of l
  unfolding each count runs_from
  chain [] at h = go (dec_lt at (length rs))
    where
      go : Dec (at < length rs) → runs_from at (drop at rs) ≡ []
      go (yes u) = let z : ◌≡◌ {A = ℕ} 0 1 = h.once at (omega arith) u in absurd (omega arith)
      go (no u) = ap (runs_from at) (drop_all rs at (omega arith))
  chain (m ∷ l) at h = step h ∙ ap (λ r. entry_of m ∷ r) (chain l (end h) (next_ahead h))
