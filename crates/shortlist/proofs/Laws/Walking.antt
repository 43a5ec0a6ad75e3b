-- THE WALK OVER THE RECORDS, run after run: what holds at the beginning of each, and at the end. Assumes nothing.
use Rattle.std.specs.Prelude.{◌≡◌, refl, List, [], ◌∷◌, ◌++◌, Bool, false, cond, not, ◌&&◌, eqb, length, set, take, drop, replicate}
use Rattle.std.specs.Prelude.{Result, Ok, Err}
use Rattle.std.proofs.Math.Path.{sym, ap}
use Rattle.std.specs.List.{list_all}
use Rattle.std.proofs.Common.{◌∙◌, subst, append_assoc, append-nil, ⊎_elim, add-one, drop-cons, eq-eqb, eqb-true}
use Rattle.std.proofs.Math.Bool.{true}
use Prim.Native.Nat.{ℕ, zero, suc, ◌+◌, ◌-◌, ◌<◌, ◌≤◌}
use native.Mathlib.Omega.{arith}
use Rattle.std.proofs.Math.ListN.{get_or, length-set, length-map}
use Rattle.std.proofs.Math.Seq.{take-suc-set}
use Rattle.std.proofs.lemmas.Bool.{not-true, not-false}
use Rattle.std.proofs.lemmas.List.{take_rest}
use Rattle.lists.specs.Lists.{all}
use Rattle.lists.specs.Refusals.{◌when◌, first}
use Rattle.lists.proofs.Laws.Booleans.{and_left, and_right, and_both, both_ways}
use Rattle.lists.proofs.Laws.Quantifiers.{all_iff}
use Rattle.records.specs.Outcome.{ends, applies, passes, gives_first}
use Rattle.records.specs.Record.{legal_record, is_voxel, structure_of}
use Rattle.lists.proofs.Laws.Numbers.{eq?}
use Rattle.shortlist.specs.Runs.{kind_of, kind_in, alone, longer, runs_on, runs_from, runs, comes_back}
use Rattle.shortlist.specs.Asking.{no_model}
use Rattle.shortlist.specs.Faults.{list_fault_number}
use Rattle.shortlist.specs.Made.{made_models, made_number, made_count, with_run, MadeSized, HoldsRuns, RunEnd, RunsOf}
use Rattle.shortlist.proofs.Laws.Named.{again, again_new, again_old, again_done, again_first, flagged, flag_adds, flags_empty}
use Rattle.shortlist.proofs.Laws.Named.{flags, flags_more, flags_left, flags_none, flags_most}
use Rattle.shortlist.proofs.Laws.Runs.{kind_small, piece, piece_of, piece_kind, run_through, drop_all}
use Rattle.shortlist.specs.declared.answer.Model.{Model}
use Rattle.shortlist.specs.declared.answer.ListFault.{ListFault}
use Rattle.shortlist.specs.declared.state.Made.{Made}

-- the runs before `at` are in the array, and their kinds are named; what is told of all is told of the rest
pub record Walked (rs : List ℕ) (at : ℕ) (seen : List Bool) (made : Made) : Type 0 where
  pub inside : at ≤ length rs
  pub legal_is : all legal_record rs ≡ all legal_record (drop at rs)
  pub runs_are : all legal_record rs ≡ true → runs rs ≡ made_models made ++ runs_from at (drop at rs)
  pub back_is : all legal_record rs ≡ true → comes_back rs ≡ again (flagged seen) (runs_from at (drop at rs))
  pub counted : flags seen ≡ made.count
  pub seen_64 : length seen ≡ 64
  pub array_64 : length made.models ≡ 64

module _ {rs : List ℕ} {at : ℕ} {seen : List Bool} {made : Made} (w : Walked rs at seen made) where
  pub sized : MadeSized made
  sized = record {
    first_64 = length-map made.models (λ m. m.first.0) ∙ w.array_64;
    length_64 = length-map made.models (λ m. m.count) ∙ w.array_64;
    kind_64 = length-map made.models kind_in ∙ w.array_64;
  }

  pub not_refused : made_number (Ok made) ≡ 0
  not_refused = refl

-- ---- Where it begins.

no_runs : runs_from 0 [] ≡ []
unfolding runs_from
no_runs = refl

pub walked_first : (rs : List ℕ) → Walked rs 0 (replicate 64 false) (record { count = 0; models = replicate 64 no_model })
unfolding runs comes_back
walked_first rs = record {
  inside = omega arith;
  legal_is = refl;
  runs_are = λ h. refl;
  back_is = λ h. sym (again_first (flagged (replicate 64 false)) (runs_from 0 rs) (flags_empty 64));
  counted = flags_none 64;
  seen_64 = refl;
  array_64 = refl;
}

pub starts : {rs : List ℕ} {made : Made} → made ≡ record { count = 0; models = replicate 64 no_model }
    → Walked rs 0 (replicate 64 false) made
starts {rs} e = subst (λ (m : Made). Walked rs 0 (replicate 64 false) m) (sym e) (walked_first rs)

-- ---- Its refusals.

-- of what is refused there are no runs
pub none : (answer : Result Made ListFault) → (made_number answer ≡ 0 → ⊥) → made_count answer ≡ 0
none (Ok made) z = absurd (z refl)
none (Err e) z = refl

-- one record's legality
pub legal_cons : (rs : List ℕ) (at : ℕ) → at < length rs
    → all legal_record (drop at rs) ≡ (legal_record (get_or rs at 0) && all legal_record (drop (suc at) rs))
unfolding all
legal_cons rs at h = rw (drop-cons rs at 0 h)

refused : {rs : List ℕ} (e : ListFault) → list_fault_number e ≡ first (16 when not (all legal_record rs) ∷ 26 when comes_back rs ∷ [])
    → RunsOf rs (Err e)
refused e h = record { numbered = h; holding = λ m q. absurd (let z : ⊥ = cc in z) }

pub illegal : {rs : List ℕ} → all legal_record rs ≡ false → RunsOf rs (Err ListFault.BadRecord)
illegal h = refused ListFault.BadRecord (sym (gives_first (applies (ap not h))))

pub illegal_here : {rs : List ℕ} {at : ℕ} {seen : List Bool} {made : Made} → Walked rs at seen made → at < length rs
    → legal_record (get_or rs at 0) ≡ false → RunsOf rs (Err ListFault.BadRecord)
illegal_here {rs} {at} w h e =
    illegal (w.legal_is ∙ legal_cons rs at h ∙ ap (λ b. b && all legal_record (drop (suc at) rs)) e)

pub back : {rs : List ℕ} → all legal_record rs ≡ true → comes_back rs ≡ true → RunsOf rs (Err ListFault.Parted)
back h k = refused ListFault.Parted (sym (gives_first (passes (ap not h) (applies k))))

-- the kind of the first run has been named
again_run : (seen : ℕ → Bool) (rs : List ℕ) (m : Model) → seen (kind_in m) ≡ true → again seen (runs_on m rs) ≡ true
unfolding runs_on kind_in
again_run seen [] m e = again_old seen m [] e
again_run seen (r ∷ rs) m e =
    by (eqb (kind_of r) (kind_in m)) _ _ (again_run seen rs (longer m) e)
    (again_old seen m (runs_on (alone (m.first.0 + m.count) r) rs) e)
  where
    by : (b : Bool) (x y : List Model) → again seen x ≡ true → again seen y ≡ true → again seen (cond b x y) ≡ true
    by true x y p q = p
    by false x y p q = q

pub named_here : {rs : List ℕ} {at : ℕ} {seen : List Bool} {made : Made} → Walked rs at seen made → at < length rs
    → get_or seen (kind_of (get_or rs at 0)) false ≡ true → all legal_record (drop at rs) ≡ true → RunsOf rs (Err ListFault.Parted)
unfolding runs_from kind_in kind_of
named_here {rs} {at} {seen} w h e k =
    let good = w.legal_is ∙ k in
    let l = ap (runs_from at) (drop-cons rs at 0 h) in
    back good (w.back_is good ∙ ap (again (flagged seen)) l ∙ again_run (flagged seen) (drop (suc at) rs) (alone at (get_or rs at 0)) e)

pub illegal_behind : {rs : List ℕ} {at : ℕ} {seen : List Bool} {made : Made} → Walked rs at seen made
    → all legal_record (drop at rs) ≡ false → RunsOf rs (Err ListFault.BadRecord)
illegal_behind w k = illegal (w.legal_is ∙ k)

-- whether all are legal, as a loop finds it
pub legal_no : (rs : List ℕ) (at i : ℕ) (b : Bool) → all legal_record (drop at rs) ≡ all legal_record (drop i rs) → i < length rs
    → b ≡ legal_record (get_or rs i 0) → not b ≡ true → false ≡ all legal_record (drop at rs)
legal_no rs at i b e h p q =
    sym (e ∙ legal_cons rs i h ∙ ap (λ t. t && all legal_record (drop (suc i) rs)) (sym p ∙ not-true b q))

pub legal_on : (rs : List ℕ) (at i : ℕ) (b : Bool) → all legal_record (drop at rs) ≡ all legal_record (drop i rs) → i < length rs
    → b ≡ legal_record (get_or rs i 0) → not b ≡ false → all legal_record (drop at rs) ≡ all legal_record (drop (i + 1) rs)
legal_on rs at i b e h p q =
    e ∙ legal_cons rs i h ∙ ap (λ t. t && all legal_record (drop (suc i) rs)) (sym p ∙ not-false b q)
    ∙ ap (λ n. all legal_record (drop n rs)) (sym (add-one i))

pub legal_all : (rs : List ℕ) (at i : ℕ) → all legal_record (drop at rs) ≡ all legal_record (drop i rs) → length rs ≤ i
    → true ≡ all legal_record (drop at rs)
unfolding all
legal_all rs at i e h = sym (e ∙ ap (all legal_record) (drop_all rs i h))

pub ruleset legality = (legal_no, legal_on, legal_all)

-- whether all are legal, as code finds it
pub list_all_is : (rs : List ℕ) → list_all legal_record rs ≡ all legal_record rs
unfolding all
list_all_is [] = refl
list_all_is (r ∷ rs) = ap (λ b. legal_record r && b) (list_all_is rs)

-- ---- The end of a run, as a loop finds it.

-- the records from a place on are legal and of the kind so far
pub record OfKind (rs : List ℕ) (from kind i : ℕ) : Type 0 where
  pub behind : from ≤ i
  pub inside : from ≤ length rs → i ≤ length rs
  pub legal : (j : ℕ) → from ≤ j → j < i → legal_record (get_or rs j 0) ≡ true
  pub same : (j : ℕ) → from ≤ j → j < i → kind_of (get_or rs j 0) ≡ kind

pub of_kind_first : (rs : List ℕ) (from kind : ℕ) → OfKind rs from kind from
of_kind_first rs from kind = record {
  behind = omega arith;
  inside = λ h. h;
  legal = λ j u v. absurd (omega arith);
  same = λ j u v. absurd (omega arith);
}

module _ {rs : List ℕ} {from kind i : ℕ} (o : OfKind rs from kind i) where
  pub of_kind_more : (b : Bool) (k : ℕ) → i < length rs → b ≡ legal_record (get_or rs i 0) → k ≡ kind_of (get_or rs i 0)
      → not (b && eqb k kind) ≡ false → OfKind rs from kind (i + 1)
  of_kind_more b k h p q f = let e = not-false (b && eqb k kind) f in record {
    behind = omega (arith, o.behind);
    inside = λ z. omega arith;
    legal = λ j u v. ⊎_elim (λ (z : j ≡ i). ap (λ n. legal_record (get_or rs n 0)) z ∙ sym p ∙ and_left b (eqb k kind) e)
        (λ (z : j ≡ i → ⊥). o.legal j u (omega arith)) (eq? j i);
    same = λ j u v. ⊎_elim (λ (z : j ≡ i). ap (λ n. kind_of (get_or rs n 0)) z ∙ sym q ∙ eqb-true k kind (and_right b (eqb k kind) e))
        (λ (z : j ≡ i → ⊥). o.same j u (omega arith)) (eq? j i);
  }

  pub of_kind_stops : (b : Bool) (k : ℕ) → i < length rs → b ≡ legal_record (get_or rs i 0) → k ≡ kind_of (get_or rs i 0)
      → not (b && eqb k kind) ≡ true → RunEnd rs from kind i
  of_kind_stops b k h p q f = let e = not-true (b && eqb k kind) f in record {
    behind = o.behind;
    inside = o.inside;
    legal = o.legal;
    same = o.same;
    stops = λ z. sym (ap (λ n. b && eqb n kind) q ∙ ap (λ t. t && eqb (kind_of (get_or rs i 0)) kind) p) ∙ e;
  }

  pub of_kind_all : length rs ≤ i → RunEnd rs from kind i
  of_kind_all h = record { behind = o.behind; inside = o.inside; legal = o.legal; same = o.same; stops = λ z. absurd (omega arith) }

pub ruleset ending = (of_kind_more, of_kind_stops, of_kind_all)

-- ---- One run more.

-- it stands behind those before it
more_models : (made more : Made) (m : Model) → more ≡ record { count = made.count + 1; models = set made.models made.count m }
    → made.count < length made.models → made_models more ≡ made_models made ++ (m ∷ [])
more_models made more m e few =
    ap made_models e ∙ ap (λ n. take n (set made.models made.count m)) (add-one made.count) ∙ take-suc-set made.models made.count m few

legal_through : (rs : List ℕ) (d i : ℕ) → i + d ≤ length rs → ((j : ℕ) → i ≤ j → j < i + d → legal_record (get_or rs j 0) ≡ true)
    → all legal_record (drop i rs) ≡ all legal_record (drop (i + d) rs)
legal_through rs zero i h f = let e : i + 0 ≡ i = omega arith in rw e
legal_through rs (suc d) i h f =
    let e : i + suc d ≡ suc i + d = omega arith in
    rw e (legal_cons rs i (omega arith) ∙ ap (λ b. b && all legal_record (drop (suc i) rs)) (f i (omega arith) (omega arith))
    ∙ legal_through rs d (suc i) (omega arith) (λ j u v. f j (omega arith) (omega arith)))

module _ {rs : List ℕ} {at to : ℕ} {seen : List Bool} {made : Made} (w : Walked rs at seen made) (h : at < length rs)
    (good : legal_record (get_or rs at 0) ≡ true) (fresh : get_or seen (kind_of (get_or rs at 0)) false ≡ false)
    (run : RunEnd rs (at + 1) (kind_of (get_or rs at 0)) to) where
  k : ℕ
  k = kind_of (get_or rs at 0)

  small : k < 64
  unfolding k
  small = kind_small (get_or rs at 0)

  far : to ≤ length rs
  far = run.inside (omega arith)

  room : made.count < 64
  unfolding k
  room = omega (arith, flags_left seen k (omega (arith, small, w.seen_64)) fresh, w.counted, w.seen_64)

  each_legal : (j : ℕ) → at ≤ j → j < to → legal_record (get_or rs j 0) ≡ true
  each_legal j u v = ⊎_elim (λ (e : j ≡ at). ap (λ i. legal_record (get_or rs i 0)) e ∙ good)
      (λ (e : j ≡ at → ⊥). run.legal j (omega arith) v) (eq? j at)

  each_same : (j : ℕ) → at ≤ j → j < to → kind_of (get_or rs j 0) ≡ k
  unfolding k
  each_same j u v = ⊎_elim (λ (e : j ≡ at). ap (λ i. kind_of (get_or rs i 0)) e)
      (λ (e : j ≡ at → ⊥). run.same j (omega arith) v) (eq? j at)

  another : all legal_record rs ≡ true → to < length rs → kind_of (get_or rs to 0) ≡ k → ⊥
  unfolding k
  another g u e = both_ways (and_both ((all_iff 0 legal_record rs).0 g to u) (eq-eqb (kind_of (get_or rs to 0)) k e)) (run.stops u)

  rest : all legal_record rs ≡ true → runs_from at (drop at rs) ≡ piece at (to - at) k ∷ runs_from to (drop to rs)
  rest g = run_through rs at k small to (omega (arith, run.behind)) far each_same (another g)

  -- the run has been added, and its kind is named
  pub walked_on : (more : Made)
      → more ≡ with_run made at (to - at) (kind_of (get_or rs at 0))
      → Walked rs to (set seen (kind_of (get_or rs at 0)) true) more
  unfolding k
  walked_on more m = record {
    inside = far;
    legal_is =
        let d : ℕ = to - at in
        let e : at + d ≡ to = omega (arith, run.behind) in
        w.legal_is ∙ legal_through rs d at (omega (arith, far)) (λ j u v. each_legal j u (omega arith))
        ∙ ap (λ i. all legal_record (drop i rs)) e;
    runs_are = λ g.
        w.runs_are g ∙ ap (λ l. made_models made ++ l) (rest g)
        ∙ sym (append_assoc (made_models made) (piece at (to - at) k ∷ []) (runs_from to (drop to rs)))
        ∙ ap (λ l. l ++ runs_from to (drop to rs)) (sym (more_models made more (piece at (to - at) k) m (omega (arith, room, w.array_64))));
    back_is = λ g.
        let p = piece_kind at (to - at) k small in
        let l = runs_from to (drop to rs) in
        let m : Model = piece at (to - at) k in
        let new : again (flagged seen) (m ∷ l) ≡ again (flagged (set seen (kind_in m) true)) l =
        again_new (flagged seen) (flagged (set seen (kind_in m) true)) m l (flag_adds seen (kind_in m) (omega (arith, p, small, w.seen_64)))
        (ap (λ i. get_or seen i false) p ∙ fresh) in
        w.back_is g ∙ ap (again (flagged seen)) (rest g) ∙ new ∙ ap (λ i. again (flagged (set seen i true)) l) p;
    counted = flags_more seen k (omega (arith, small, w.seen_64)) fresh ∙ ap (λ n. n + 1) w.counted ∙ sym (ap (λ (x : Made). x.count) m);
    seen_64 = length-set seen k true ∙ w.seen_64;
    array_64 = ap (λ (x : Made). length x.models) m ∙ length-set made.models made.count (piece at (to - at) k) ∙ w.array_64;
  }

  pub walked_room : made.count < 64
  walked_room = room

-- ---- Where it ends.

pub walked_last : {rs : List ℕ} {at : ℕ} {seen : List Bool} {made : Made} → Walked rs at seen made → length rs ≤ at → RunsOf rs (Ok made)
unfolding runs_from all
walked_last {rs} {at} {seen} {made} w h =
    let none : drop at rs ≡ [] = drop_all rs at h in
    let good : all legal_record rs ≡ true = w.legal_is ∙ ap (all legal_record) none ∙ all_none in
    let runs_are : runs rs ≡ made_models made =
    w.runs_are good ∙ ap (λ l. made_models made ++ runs_from at l) none ∙ append-nil (made_models made) in
    let back_is : comes_back rs ≡ false =
    w.back_is good ∙ ap (λ l. again (flagged seen) (runs_from at l)) none ∙ again_done (flagged seen) in
    let few : made.count ≤ 64 = omega (arith, flags_most seen, w.counted, w.seen_64) in
    let holds : HoldsRuns rs made = record { holding = sym runs_are; few = few; array_64 = w.array_64 } in
    record {
      numbered = sym (gives_first (passes (ap not good) (passes back_is ends)));
      holding = λ m e. let same : made ≡ m = cc in subst (HoldsRuns rs) same holds;
    }
  where
    all_none : all legal_record [] ≡ true
    all_none = refl

-- ---- The same, as code meets it.

module _ {rs : List ℕ} {at : ℕ} {seen : List Bool} {made : Made} (w : Walked rs at seen made) where
  pub stops_illegal : (b : Bool) → at < length rs → b ≡ legal_record (get_or rs at 0) → not b ≡ true → RunsOf rs (Err ListFault.BadRecord)
  stops_illegal b h p q = illegal_here w h (sym p ∙ not-true b q)

  -- the rest is a part of the records
  pub stops_named : (b : Bool) (k : ℕ) → at < length rs → k ≡ kind_of (get_or rs at 0) → get_or seen k false ≡ true
      → b ≡ all legal_record (take (length rs - at) (drop at rs)) → b ≡ true → RunsOf rs (Err ListFault.Parted)
  stops_named b k h q s p z =
      named_here w h (ap (λ i. get_or seen i false) (sym q) ∙ s) (ap (all legal_record) (sym (take_rest rs at)) ∙ sym p ∙ z)

  pub stops_behind : (b : Bool) → b ≡ all legal_record (take (length rs - at) (drop at rs)) → b ≡ false
      → RunsOf rs (Err ListFault.BadRecord)
  stops_behind b p z = illegal_behind w (ap (all legal_record) (sym (take_rest rs at)) ∙ sym p ∙ z)

module _ {rs : List ℕ} {at : ℕ} {seen : List Bool} {made : Made} (w : Walked rs at seen made) (b : Bool) (k to : ℕ)
    (h : at < length rs) (p : b ≡ legal_record (get_or rs at 0)) (z : not b ≡ false) (q : k ≡ kind_of (get_or rs at 0))
    (s : get_or seen k false ≡ false) (e : RunEnd rs (at + 1) k to) where
  fresh : get_or seen (kind_of (get_or rs at 0)) false ≡ false
  fresh = ap (λ i. get_or seen i false) (sym q) ∙ s

  run : RunEnd rs (at + 1) (kind_of (get_or rs at 0)) to
  run = subst (λ (i : ℕ). RunEnd rs (at + 1) i to) q e

  pub goes_room : made.count < 64
  goes_room = walked_room w h (sym p ∙ not-false b z) fresh run

  pub goes_on : (v : Bool) (t : ℕ) → v ≡ is_voxel (get_or rs at 0) → t ≡ structure_of (get_or rs at 0)
      → let m : Model = record { first = record { 0 = at }; count = to - at; voxels = v; structure = t } in
      Walked rs to (set seen k true) (record { count = made.count + 1; models = set made.models made.count m })
  goes_on v t i j =
      let m : Model = record { first = record { 0 = at }; count = to - at; voxels = v; structure = t } in
      let more : Made = record { count = made.count + 1; models = set made.models made.count m } in
      let same : m ≡ piece at (to - at) (kind_of (get_or rs at 0)) = (let e = piece_of at (to - at) (get_or rs at 0) in cc) in
      let on = walked_on w h (sym p ∙ not-false b z) fresh run more
      (ap (λ (x : Model). record { count = made.count + 1; models = set made.models made.count x }) same) in
      subst (λ (n : ℕ). Walked rs to (set seen n true) more) (sym q) on

pub ruleset walking = (walked_first, starts, stops_illegal, stops_named, stops_behind, goes_room, goes_on, walked_last)
