-- ONE ENTRY, and the end of the list, as code finds them. Assumes nothing.
use Rattle.std.specs.Prelude.{◌≡◌, Bool, ◌&&◌, ◌||◌, ℕ, ◌+◌, ◌-◌, ◌^◌, ◌<◌, ◌≤◌, length, take, drop}
use Rattle.std.specs.Prelude.{Option, Some, None, Result, Ok, Err}
use Rattle.std.specs.Option.{ok_or}
use Rattle.std.specs.Result.{is_err}
use Rattle.std.proofs.Math.Path.{refl, sym, ap, subst}
use Rattle.std.proofs.Common.{◌∙◌, length-drop, length-take-le}
use mathlib.Core.List.{List, [], ◌∷◌}
use Rattle.std.proofs.Math.Bool.{true, false, cond, not}
use native.Mathlib.Omega.{arith}
use Rattle.std.proofs.Math.Dec.{eqb, ltb}
use borrow.Author.Tests.{ltb-true, ltb-false, lt-ltb, le-ltb, le-leb, lt-leb, not-true, not-false}
use Rattle.lists.specs.Lists.{any}
use Rattle.lists.specs.Refusals.{◌when◌, first}
use Rattle.lists.proofs.Laws.Booleans.{or_left, or_right, or_first, or_second}
use Rattle.records.specs.Outcome.{ends, applies, passes, gives_first}
use Rattle.records.specs.Find.{FirstPlace, Finds, find_refusal}
use Rattle.records.specs.declared.search.RecordFound.{RecordFound}
use Rattle.shortlist.specs.Runs.{structure_kind, kind_in}
use Rattle.shortlist.specs.Asking.{empty, no_structure, holds_index, of_kind, is_record, told_in}
use Rattle.shortlist.specs.Search.{bit_set, follows, bad_entry, spoilt, with_entry, next_of, at_ok, told_of, own_records, list_outside, Finding}
use Rattle.shortlist.proofs.Laws.Runs.{kind_below}
use Rattle.shortlist.proofs.Laws.Bits.{bit_fits}
use Rattle.shortlist.specs.declared.answer.Model.{Model}
use Rattle.shortlist.specs.declared.answer.Told.{Told}
use Rattle.shortlist.specs.declared.answer.SearchFault.{SearchFault}
use Rattle.shortlist.specs.declared.state.Search.{Search}

-- ---- Ranges, without a sum that could wrap.

-- a number is below a sum exactly where their difference is below the rest
below_sum : (n a c : ℕ) → a ≤ n → ltb (n - a) c ≡ ltb n (a + c)
below_sum n a c h = by (ltb (n - a) c) refl
  where
    by : (t : Bool) → ltb (n - a) c ≡ t → t ≡ ltb n (a + c)
    by true e = let u = ltb-true (n - a) c e in sym (lt-ltb n (a + c) (omega arith))
    by false e = let u = ltb-false (n - a) c e in sym (le-ltb n (a + c) (omega arith))

-- a range reaches past so many
module _ (n a c : ℕ) where
  pub past_yes : n < a → true ≡ ltb n (a + c)
  past_yes h = sym (lt-ltb n (a + c) (omega arith))

  pub past_test : a ≤ n → ltb (n - a) c ≡ ltb n (a + c)
  past_test h = below_sum n a c h

module _ (n : ℕ) (m : Model) where
  pub holds_no : n < m.first.0 → false ≡ holds_index n m
  unfolding holds_index
  holds_no h = sym (rw (lt-leb m.first.0 n h))

  pub holds_test : m.first.0 ≤ n → ltb (n - m.first.0) m.count ≡ holds_index n m
  unfolding holds_index
  holds_test h = below_sum n m.first.0 m.count h ∙ sym (ap (λ t. t && ltb n (m.first.0 + m.count)) (le-leb m.first.0 n h))

-- ---- The kind.

module _ (m : Model) where
  pub kind_voxels : m.voxels ≡ true → 32 + m.structure ≡ kind_in m
  unfolding kind_in structure_kind
  kind_voxels h = sym (ap (λ t. cond t 32 0 + m.structure) h)

  pub kind_surface : m.voxels ≡ false → m.structure ≡ kind_in m
  unfolding kind_in structure_kind
  kind_surface h = let z : 0 + m.structure ≡ m.structure = omega arith in sym z ∙ sym (ap (λ t. cond t 32 0 + m.structure) h)

  pub kind_place_lem : (k : ℕ) → m.structure ≤ 31 → k ≡ kind_in m → k < 64
  unfolding kind_in
  kind_place_lem k h e = omega (arith, e, kind_below m.voxels m.structure h)

-- ---- A bad entry.

module _ (s : Search) (m : Model) where
  pub follows_no : m.first.0 < s.first → false ≡ follows s m
  unfolding follows
  follows_no h = sym (rw (lt-ltb m.first.0 s.first h))

  pub follows_test : s.first ≤ m.first.0 → eqb (m.first.0 - s.first) s.count ≡ follows s m
  unfolding follows
  follows_test h = sym (rw (le-ltb m.first.0 s.first h))

  pub bad_alone : (ltb 31 m.structure || eqb m.count 0) ≡ true → true ≡ bad_entry s m
  unfolding bad_entry no_structure empty
  bad_alone h = sym (by (ltb 31 m.structure) h)
    where
      by : (b : Bool) → (b || eqb m.count 0) ≡ true
          → (b || (eqb m.count 0 || (not (follows s m) || bit_set s.named (kind_in m)))) ≡ true
      by true e = refl
      by false e = or_first (eqb m.count 0) _ e

  pub bad_gap : (b : Bool) → b ≡ follows s m → not b ≡ true → true ≡ bad_entry s m
  unfolding bad_entry
  bad_gap b p q = sym (or_second (no_structure m) (or_second (empty m) (or_first (not (follows s m)) _ (ap not (sym p) ∙ q))))

  pub good_alone : (ltb 31 m.structure || eqb m.count 0) ≡ false → m.structure ≤ 31
  good_alone h = ltb-false 31 m.structure (or_left (ltb 31 m.structure) _ h)

  pub bad_named : (b t : Bool) (k : ℕ) → (ltb 31 m.structure || eqb m.count 0) ≡ false → b ≡ follows s m → not b ≡ false
      → k ≡ kind_in m → t ≡ bit_set s.named k → t ≡ bad_entry s m
  unfolding bad_entry no_structure empty
  bad_named b t k h p q e f =
      f ∙ ap (bit_set s.named) e
      ∙ sym (ap (λ t. t || (empty m || (not (follows s m) || bit_set s.named (kind_in m)))) (or_left (ltb 31 m.structure) _ h)
      ∙ ap (λ t. t || (not (follows s m) || bit_set s.named (kind_in m))) (or_right (ltb 31 m.structure) _ h)
      ∙ ap (λ t. t || bit_set s.named (kind_in m)) (ap not (sym p) ∙ q))

  -- ---- The next state.

  pub good_structure : bad_entry s m ≡ false → m.structure ≤ 31
  unfolding bad_entry no_structure
  good_structure h = ltb-false 31 m.structure (or_left (ltb 31 m.structure) _ h)

  pub good_fresh : bad_entry s m ≡ false → bit_set s.named (kind_in m) ≡ false
  unfolding bad_entry
  good_fresh h = or_right (not (follows s m)) _ (or_right (empty m) _ (or_right (no_structure m) _ h))

  -- the bit of a new kind can be added
  pub named_fits : (k p : ℕ) → bad_entry s m ≡ false → s.named < 2 ^ 64 → k ≡ kind_in m → p ≡ 2 ^ k → s.named + p < 2 ^ 64
  unfolding kind_in
  named_fits k p h v e f =
      bit_fits {w = s.named} {s = kind_in m} (good_fresh h) (kind_below m.voxels m.structure (good_structure h)) v (f ∙ ap (λ i. 2 ^ i) e)

  pub good_entry : (b : Bool) → b ≡ bad_entry s m → b ≡ false → bad_entry s m ≡ false
  good_entry b p q = sym p ∙ q

  -- a bad list stays as it is
  pub next_stays : (r : Result Search SearchFault) → is_err r ≡ true → r ≡ at_ok r (λ t. next_of t m)
  next_stays (Ok t) h = absurd (let z : ⊥ = cc in z)
  next_stays (Err e) h = refl

  pub next_spoils : (b : Bool) → b ≡ bad_entry s m → b ≡ true → spoilt s ≡ next_of s m
  unfolding next_of
  next_spoils b p q = sym (ap (λ t. cond t (spoilt s) (Ok (with_entry s m))) (sym p ∙ q))

  pub next_takes : (b : Bool) (t : Search) → b ≡ bad_entry s m → b ≡ false → t ≡ with_entry s m → Ok t ≡ next_of s m
  unfolding next_of
  next_takes b t p q e =
      ap (λ (x : Search). Ok x) e ∙ sym (ap (λ t. cond t (spoilt s) (Ok (with_entry s m))) (sym p ∙ q))

  -- all that is noted of an entry
  pub taken_is : (k b : ℕ) (t : Option Told) (f z : ℕ) (here : Bool) → k ≡ kind_in m → b ≡ 2 ^ k → here ≡ holds_index s.index.0 m
      → t ≡ cond here (Some (told_in m)) s.tells → f ≡ cond (eqb k s.kind) m.first.0 s.from
      → z ≡ cond (eqb k s.kind) m.count s.size
      → record {
        index = s.index;
        kind = s.kind;
        most = s.most;
        first = m.first.0;
        count = m.count;
        named = s.named + b;
        tells = t;
        from = f;
        size = z;
      } ≡ with_entry s m
  unfolding with_entry of_kind
  taken_is k b t f z here pk pb ph pt pf pz = λ i. record {
    index = s.index;
    kind = s.kind;
    most = s.most;
    first = m.first.0;
    count = m.count;
    named = s.named + (pb ∙ ap (λ x. 2 ^ x) pk) i;
    tells = (pt ∙ ap (λ x. cond x (Some (told_in m)) s.tells) ph) i;
    from = (pf ∙ ap (λ x. cond (eqb x s.kind) m.first.0 s.from) pk) i;
    size = (pz ∙ ap (λ x. cond (eqb x s.kind) m.count s.size) pk) i;
  }

-- ---- What is told.

pub told_bad : (r : Result Search SearchFault) → r ≡ Err SearchFault.BadList → Err SearchFault.BadList ≡ at_ok r told_of
told_bad r h = sym (ap (λ (x : Result Search SearchFault). at_ok x told_of) h)

module _ (s : Search) where
  pub told_held : (t : Told) → s.tells ≡ Some t → Ok t ≡ told_of s
  told_held t h = sym (ap (λ (x : Option Told). ok_or x SearchFault.NotFound) h)

  pub told_none : s.tells ≡ None → Err SearchFault.NotFound ≡ told_of s
  told_none h = sym (ap (λ (x : Option Told). ok_or x SearchFault.NotFound) h)

  -- ---- What is sought.

  pub outside_is : (n : ℕ) (a b : Bool) → a ≡ ltb s.most (s.first + s.count) → b ≡ ltb n (s.from + s.size)
      → (a || b) ≡ list_outside s n
  unfolding list_outside
  outside_is n a b p q = ap (λ t. t || b) p ∙ ap (λ t. ltb s.most (s.first + s.count) || t) q

  pub inside : (n : ℕ) (b : Bool) → b ≡ list_outside s n → b ≡ false → s.from + s.size ≤ n
  unfolding list_outside
  inside n b p q = ltb-false n (s.from + s.size) (or_right (ltb s.most (s.first + s.count)) _ (sym p ∙ q))

module _ (rs : List ℕ) (s : Search) (x : ℕ) where
  pub sought_outside : (b : Bool) → b ≡ list_outside s (length rs) → b ≡ true → Finding rs s x (Err SearchFault.BadList)
  sought_outside b p q = record {
    numbered = sym (gives_first (applies (sym p ∙ q)));
    place = 0;
    found = λ z. absurd (omega arith);
    index_is = λ z. absurd (omega arith);
    refused = λ z. refl;
  }

  nowhere : list_outside s (length rs) ≡ false → (is_record x && any (eqb x) (own_records s rs)) ≡ false
      → Finding rs s x (Err SearchFault.NotFound)
  nowhere p q = record {
    numbered = sym (gives_first (passes p (applies (ap not q))));
    place = 0;
    found = λ z. absurd (omega arith);
    index_is = λ z. absurd (omega arith);
    refused = λ z. refl;
  }

  pub sought_no_record : (a b : Bool) → a ≡ list_outside s (length rs) → a ≡ false → b ≡ is_record x → not b ≡ true
      → Finding rs s x (Err SearchFault.NotFound)
  sought_no_record a b p q u v =
      nowhere (sym p ∙ q) (ap (λ t. t && any (eqb x) (own_records s rs)) (sym u ∙ not-true b v))

  -- the part of the records that is searched
  part_is : take (s.from + s.size - s.from) (drop s.from rs) ≡ own_records s rs
  part_is = let e : s.from + s.size - s.from ≡ s.size = omega arith in ap (λ n. take n (drop s.from rs)) e

  -- a number is found where it is among the records
  among : (l : List ℕ) (f : RecordFound) → Finds l x f → f.number ≡ 0 → any (eqb x) l ≡ true
  unfolding find_refusal first
  among l f h z = by (any (eqb x) l) refl (sym h.numbered ∙ z)
    where
      by : (b : Bool) → any (eqb x) l ≡ b → first (19 when not b ∷ []) ≡ 0 → any (eqb x) l ≡ true
      by true e k = e
      by false e k = absurd (omega arith)

  not_among : (l : List ℕ) (f : RecordFound) → Finds l x f → (f.number ≡ 0 → ⊥) → any (eqb x) l ≡ false
  unfolding find_refusal first
  not_among l f h z = by (any (eqb x) l) refl h.numbered
    where
      by : (b : Bool) → any (eqb x) l ≡ b → f.number ≡ first (19 when not b ∷ []) → any (eqb x) l ≡ false
      by true e k = absurd (z k)
      by false e k = e

  module _ (a b : Bool) (f : RecordFound) (p : a ≡ list_outside s (length rs)) (q : a ≡ false) (u : b ≡ is_record x) (v : not b ≡ false)
      (h : Finds (take (s.from + s.size - s.from) (drop s.from rs)) x f) where
    pub sought_found : f.number ≡ 0 → Finding rs s x (Ok (record { 0 = s.from + f.place.0 }))
    sought_found z = record {
      numbered =
          sym (gives_first (passes (sym p ∙ q) (passes
          (ap not (ap (λ t. t && any (eqb x) (own_records s rs)) (sym u ∙ not-false b v)
          ∙ ap (any (eqb x)) (sym part_is) ∙ among _ f h z)) ends)));
      place = f.place.0;
      found = λ _. subst (λ (l : List ℕ). FirstPlace l x f.place.0) part_is (h.found z);
      index_is = λ _. refl;
      refused = λ k. absurd (k refl);
    }

    -- the place that is found lies among the records
    pub found_inside : f.number ≡ 0 → s.from + f.place.0 < length rs
    found_inside z =
        let u = (h.found z).inside in
        let e = ap length part_is in
        let n = length-take-le s.size (drop s.from rs) (omega (arith, length-drop s.from rs, inside s (length rs) a p q)) in
        let k = inside s (length rs) a p q in
        omega arith

    pub sought_nowhere : (f.number ≡ 0 → ⊥) → Finding rs s x (Err SearchFault.NotFound)
    sought_nowhere z =
        nowhere (sym p ∙ q)
        (ap (λ t. t && any (eqb x) (own_records s rs)) (sym u ∙ not-false b v) ∙ ap (any (eqb x)) (sym part_is) ∙ not_among _ f h z)

pub ruleset entering = (holds_no, holds_test, kind_voxels, kind_surface, follows_no, follows_test)

pub ruleset reaching = (past_yes, past_test)

pub ruleset judging = (bad_alone, good_alone, bad_gap, bad_named, kind_place_lem)

pub ruleset stepping = (good_entry, next_stays, next_spoils, next_takes)

pub ruleset telling = (told_bad, told_held, told_none, outside_is)

pub ruleset naming = (good_structure, kind_place_lem, named_fits)

pub ruleset seeking = (sought_outside, sought_no_record, sought_found, sought_nowhere)
