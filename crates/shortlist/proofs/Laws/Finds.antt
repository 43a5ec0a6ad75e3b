-- LIST-FINDS: with a list that was made of the records, the index of a record is the place that `find` gives, for any number.
-- Assumes nothing.
use Rattle.std.specs.Prelude.{◌≡◌, refl, List, [], ◌∷◌, Bool, false, cond, ◌&&◌, ◌||◌, ℕ, ◌+◌, ◌-◌, ◌<◌, ◌≤◌, eqb, leb, ltb, length, get_or, drop}
use Rattle.std.proofs.Common.{sym, ◌∙◌, ⊎_elim}
use Rattle.std.proofs.Math.Path.{ap}
use Rattle.std.proofs.Math.Bool.{true, not}
use native.Mathlib.Omega.{arith}
use Rattle.std.proofs.Math.ListN.{length-drop}
use Rattle.std.proofs.Math.Seq.{length-take-le, get_or-take, get_or-drop}
use borrow.Author.Tests.{eqb-true, eq-eqb, ltb-true, ltb-false, leb-true}
use Rattle.lists.specs.Lists.{any, two_of}
use Rattle.lists.proofs.Laws.Quantifiers.{any_iff, all_iff}
use Rattle.lists.specs.Refusals.{◌when◌, first}
use Rattle.lists.proofs.Laws.Booleans.{or_left, or_right, or_first, or_second, or_neither, and_both, and_left, and_right, both_ways}
use Rattle.lists.proofs.Laws.Booleans.{refute}
use Rattle.records.specs.Record.{is_voxel, structure_of, legal_record}
use Rattle.records.specs.Find.{FirstPlace, Finds, find_refusal}
use Rattle.lists.proofs.Laws.Numbers.{eq?}
use Rattle.records.specs.declared.search.RecordFound.{RecordFound}
use Rattle.shortlist.specs.Runs.{structure_kind, kind_of, kind_in, of_one_kind, runs, comes_back}
use Rattle.shortlist.specs.Asking.{past_end, holds_index, of_kind, the_model, records_in_range, is_record, own_stretch}
use Rattle.shortlist.specs.Asking.{sought_number, sought_index, seek_refusal, Seeks}
use Rattle.shortlist.proofs.Laws.Location.{legal_is_record}
use Rattle.shortlist.proofs.Laws.Search.{the_cons, the_has_not}
use Rattle.shortlist.proofs.Laws.Answers.{none_past}
use Rattle.records.proofs.Laws.Unique.{same_place}
use Rattle.shortlist.proofs.Laws.Theorems.{WasMade, HeldAs, list_good, held_as}
use Rattle.shortlist.specs.declared.answer.Model.{Model}
use Rattle.shortlist.specs.declared.answer.SearchFault.{SearchFault}
use Rattle.records.specs.declared.counters.Index.{Index}
use Rattle.std.specs.Prelude.{Result}

-- ---- The entry that holds an index of a kind is the entry of the kind, where no kind comes twice.

-- the entry that is found is one of the list
the_among : (p q : Model → Bool) (l : List Model) → any p l ≡ true → q (the_model p l) ≡ true → any q l ≡ true
unfolding any
the_among p q [] h k = both_ways h refl
the_among p q (m ∷ l) h k = by (p m) refl h (the_among p q l)
  where
    by : (b : Bool) → p m ≡ b → (b || any p l) ≡ true → (any p l ≡ true → q (the_model p l) ≡ true → any q l ≡ true)
        → (q m || any q l) ≡ true
    by true e u ih = or_first (q m) (any q l) (sym (ap q (the_cons p m l ∙ ap (λ b. cond b m (the_model p l)) e)) ∙ k)
    by false e u ih = or_second (q m) (ih u (sym (ap q (the_cons p m l ∙ ap (λ b. cond b m (the_model p l)) e)) ∙ k))

own_is : (n k : ℕ) (l : List Model) → two_of of_one_kind l ≡ false → any (holds_index n) l ≡ true → kind_in (the_model (holds_index n) l) ≡ k
    → the_model (of_kind k) l ≡ the_model (holds_index n) l
unfolding any two_of of_one_kind
own_is n k [] a h e = both_ways h refl
own_is n k (m ∷ l) a h e = by (holds_index n m) refl h (own_is n k l (or_right (any (of_one_kind m) l) (two_of of_one_kind l) a))
  where
    t : (b : Bool) → holds_index n m ≡ b → the_model (holds_index n) (m ∷ l) ≡ cond b m (the_model (holds_index n) l)
    t b q = the_cons (holds_index n) m l ∙ ap (λ b. cond b m (the_model (holds_index n) l)) q

    o : (b : Bool) → eqb (kind_in m) k ≡ b → the_model (of_kind k) (m ∷ l) ≡ cond b m (the_model (of_kind k) l)
    o b q = the_cons (of_kind k) m l ∙ ap (λ b. cond b m (the_model (of_kind k) l)) q

    other : kind_in (the_model (holds_index n) l) ≡ k → any (holds_index n) l ≡ true → eqb (kind_in m) k ≡ false
    other f u =
        refute (eqb (kind_in m) k)
        (λ s. both_ways
        (the_among (holds_index n) (of_one_kind m) l u
        (eq-eqb (kind_in m) (kind_in (the_model (holds_index n) l)) (eqb-true (kind_in m) k s ∙ sym f)))
        (or_left (any (of_one_kind m) l) (two_of of_one_kind l) a))

    by : (b : Bool) → holds_index n m ≡ b → (b || any (holds_index n) l) ≡ true
        → (any (holds_index n) l ≡ true → kind_in (the_model (holds_index n) l) ≡ k → the_model (of_kind k) l ≡ the_model (holds_index n) l)
        → the_model (of_kind k) (m ∷ l) ≡ the_model (holds_index n) (m ∷ l)
    by true q u ih =
        let f : kind_in m ≡ k = ap kind_in (sym (t true q)) ∙ e in
        o true (eq-eqb (kind_in m) k f) ∙ sym (t true q)
    by false q u ih =
        let f : kind_in (the_model (holds_index n) l) ≡ k = ap kind_in (sym (t false q)) ∙ e in
        o false (other f u) ∙ ih u f ∙ sym (t false q)

-- ---- In the records.

module _ (rs : List ℕ) (made : WasMade rs) (x : ℕ) where
  own : Model
  own = the_model (of_kind (kind_of x)) (runs rs)

  -- the stretch lies among the records
  own_inside : own.first.0 + own.count ≤ length rs
  unfolding own past_end
  own_inside =
      ltb-false (length rs) (own.first.0 + own.count)
      (the_has_not (of_kind (kind_of x)) (past_end (length rs)) (runs rs) (list_good rs made).not_past (none_past (length rs)))

  long : length (own_stretch (runs rs) rs x) ≡ own.count
  unfolding own_stretch records_in_range own
  long = length-take-le own.count (drop own.first.0 rs) (omega (arith, length-drop own.first.0 rs, own_inside))

  at : (i : ℕ) → i < own.count → get_or (own_stretch (runs rs) rs x) i 0 ≡ get_or rs (own.first.0 + i) 0
  unfolding own_stretch records_in_range own
  at i h = get_or-take own.count (drop own.first.0 rs) i 0 h ∙ get_or-drop own.first.0 rs i 0

  -- where the record stands, its own stretch holds it
  held : (p : ℕ) → p < length rs → get_or rs p 0 ≡ x → (own.first.0 ≤ p) × (p < own.first.0 + own.count)
  unfolding own holds_index comes_back kind_in kind_of
  held p h e =
      let k = held_as rs p h in
      let same : kind_in (the_model (holds_index p) (runs rs)) ≡ kind_of x = kinds k ∙ ap kind_of e in
      let o = own_is p (kind_of x) (runs rs) made.apart k.there same in
      let t : holds_index p own ≡ true = ap (holds_index p) o ∙ k.holds in (
        leb-true own.first.0 p (and_left (leb own.first.0 p) (ltb p (own.first.0 + own.count)) t),
        ltb-true p (own.first.0 + own.count) (and_right (leb own.first.0 p) (ltb p (own.first.0 + own.count)) t),
      )
    where
      kinds : HeldAs p (is_voxel (get_or rs p 0)) (structure_of (get_or rs p 0)) (runs rs) → kind_in (the_model (holds_index p) (runs rs)) ≡ kind_of
          (get_or rs p 0)
      kinds k = ap (λ v. structure_kind v (the_model (holds_index p) (runs rs)).structure) k.voxels
          ∙ ap (structure_kind (is_voxel (get_or rs p 0)))
          k.structure

  -- the first place among the records is the first place in the stretch
  first_in : (p : ℕ) → FirstPlace rs x p → FirstPlace (own_stretch (runs rs) rs x) x (p - own.first.0)
  first_in p f =
      let (a, b) = held p f.inside f.stands in
      let i : own.first.0 + (p - own.first.0) ≡ p = omega arith in
      record {
        inside = omega (arith, long);
        stands = at (p - own.first.0) (omega arith) ∙ ap (λ n. get_or rs n 0) i ∙ f.stands;
        absent = λ k h e. f.absent (own.first.0 + k) (omega arith) (sym (at k (omega arith)) ∙ e);
      }

  -- a place in the stretch is a place among the records
  among : any (eqb x) (own_stretch (runs rs) rs x) ≡ true → any (eqb x) rs ≡ true
  among h = from ((any_iff 0 (eqb x) (own_stretch (runs rs) rs x)).0 h)
    where
      from : (i : ℕ) × (i < length (own_stretch (runs rs) rs x)) × (eqb x (get_or (own_stretch (runs rs) rs x) i 0) ≡ true)
          → any (eqb x) rs ≡ true
      from (i, u, v) =
          (any_iff 0 (eqb x) rs).1 (own.first.0 + i, omega (arith, long, own_inside), ap (eqb x) (sym (at i (omega (arith, long)))) ∙ v)

  back : any (eqb x) rs ≡ true → (is_record x && any (eqb x) (own_stretch (runs rs) rs x)) ≡ true
  back h = from ((any_iff 0 (eqb x) rs).0 h)
    where
      from : (i : ℕ) × (i < length rs) × (eqb x (get_or rs i 0) ≡ true) → (is_record x && any (eqb x) (own_stretch (runs rs) rs x)) ≡ true
      from (i, u, v) =
          let e : get_or rs i 0 ≡ x = sym (eqb-true x (get_or rs i 0) v) in
          let (a, b) = held i u e in
          let s : own.first.0 + (i - own.first.0) ≡ i = omega arith in
          and_both (legal_is_record x (ap legal_record (sym e) ∙ (all_iff 0 legal_record rs).0 made.legal i u))
          ((any_iff 0 (eqb x) (own_stretch (runs rs) rs x)).1
          (i - own.first.0, omega (arith, long), ap (eqb x) (at (i - own.first.0) (omega arith) ∙ ap (λ n. get_or rs n 0) s) ∙ v))

  same_test : (is_record x && any (eqb x) (own_stretch (runs rs) rs x)) ≡ any (eqb x) rs
  same_test = by (any (eqb x) rs) refl
    where
      by : (b : Bool) → any (eqb x) rs ≡ b → (is_record x && any (eqb x) (own_stretch (runs rs) rs x)) ≡ b
      by true e = back e
      by false e = refute _ (λ t. both_ways (among (and_right (is_record x) (any (eqb x) (own_stretch (runs rs) rs x)) t)) e)

  pub finds_number : seek_refusal (runs rs) rs x ≡ find_refusal rs x
  unfolding seek_refusal find_refusal first
  finds_number =
      let g = list_good rs made in
      ap (λ b. first (26 when b ∷ 19 when not (is_record x && any (eqb x) (own_stretch (runs rs) rs x)) ∷ [])) (or_neither g.not_bad g.not_past)
      ∙ ap (λ b. first (19 when not b ∷ [])) same_test

  place_is : (answer : Result Index SearchFault) (p : ℕ) → Seeks (runs rs) rs x answer → FirstPlace rs x p → sought_number answer ≡ 0
      → sought_index answer ≡ p
  unfolding own
  place_is answer p s f z =
      let w = s.found z in
      let (a, b) = held p f.inside f.stands in
      let e = same_place (own_stretch (runs rs) rs x) x w.place (p - own.first.0) w.first_place (first_in p f) in
      let i : own.first.0 + (p - own.first.0) ≡ p = omega arith in
      w.index_is ∙ ap (λ n. own.first.0 + n) e ∙ i

  -- number and place, of any answer that is allowed
  pub list_finds : (answer : Result Index SearchFault) (f : RecordFound) → Seeks (runs rs) rs x answer → Finds rs x f
      → (sought_number answer ≡ f.number) × (sought_index answer ≡ f.place.0)
  list_finds answer f s h =
      let n : sought_number answer ≡ f.number = s.numbered ∙ finds_number ∙ sym h.numbered in (
        n,
        ⊎_elim (λ (z : sought_number answer ≡ 0). place_is answer f.place.0 s (h.found (sym n ∙ z)) z)
            (λ (z : sought_number answer ≡ 0 → ⊥). s.refused z ∙ sym (h.refused (λ y. z (n ∙ y)))) (eq? (sought_number answer) 0),
      )
