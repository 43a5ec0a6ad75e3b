-- AN ACCEPTED STRETCH ALWAYS MAKES A LIST, its map's models by offset.
use Rattle.std.specs.Prelude.{◌≡◌, List, [], ◌∷◌, Bool, false, cond, not, ◌&&◌, ◌||◌, ℕ, zero, suc, ◌<◌, ◌≤◌, ltb, drop}
use Rattle.std.proofs.Math.Path.{refl, sym, ap}
use Rattle.std.proofs.Common.{◌∙◌, arith}
use Rattle.std.proofs.Math.Bool.{true}
use Rattle.std.proofs.Math.Dec.{eqb}
use Rattle.std.proofs.Math.ListN.{length, get_or, take}
use borrow.Author.Tests.{le-leb, lt-ltb, eqb-true, eqb-false, eq-eqb, ltb-true, ltb-false}
use Rattle.lists.specs.Lists.{all, any, those, count, two_of, total, each}
use Rattle.lists.specs.Refusals.{◌when◌, first}
use Rattle.lists.specs.Permuted.{Permuted}
use Rattle.lists.proofs.Laws.Permuted.{all_permuted, count_permuted, two_permuted, length_permuted}
use Rattle.lists.proofs.Laws.Quantifiers.{all_iff, count_one_iff, two_of_iff}
use Rattle.lists.proofs.Laws.Booleans.{and_left, and_right, and_both, or_left, or_right, both_ways, refute, clash}
use Rattle.lists.proofs.Laws.Lists.{two_each, length_each}
use Rattle.lists.proofs.Laws.Numbers.{eqb_turned}
use Rattle.grammar.specs.Bytes.{between}
use Rattle.grammar.specs.Document.{Element}
use Rattle.grammar.specs.Look.{is, name_of, attr, contents_of, elements}
use Rattle.numbers.specs.Numbers.{value}
use Rattle.records.specs.Record.{location_of, legal_record}
use Rattle.records.specs.Sheet.{good_count}
use Rattle.cifti.specs.Maps.{Listed, vertices, voxels, Model, Map, model_of, map_of, maps_of, length_of, is_brain, kind_of_map, covers}
use Rattle.cifti.specs.Conditions.{same_type, alike, lengths_wrong}
use Rattle.cifti.specs.Answer.{stretch, stretches, filled_with, reach, described, Reads}
use Rattle.cifti.proofs.Laws.Cover.{ranges_within}
use Rattle.cifti.proofs.Laws.Meaning.{even_iff}
use Rattle.cifti.proofs.Laws.Said.{stretch_length, stretch_at}
use Rattle.cifti.specs.declared.answer.Kind.TheVariants.{Brain}
use Rattle.cifti.specs.declared.answer.Dimension.{Dimension}
use Rattle.cifti.specs.declared.answer.Answer.{Answer}
use Rattle.maps.proofs.Laws.Good.{AllGood, none_left, one_good}
use Rattle.maps.proofs.Laws.Kinds.{brain_rows, good_model, brain_children, model_facts}
use Rattle.maps.specs.Kinds.{GoodModel}
use Rattle.maps.proofs.Laws.MapKind.{good_brain, brain_kind}
use Rattle.maps.specs.MapKind.{GoodMap}
use Rattle.models.proofs.Laws.Brain.{is_model, models_are, map_models, brain_sum, whole_within}
use Rattle.models.specs.Fine.{FineMap}
use Rattle.models.specs.Kind.{type_and_structure}
use Rattle.models.proofs.Laws.Kind.{alike_number, structure_small}
use Rattle.table.proofs.Laws.Ready.{nobody}
use Rattle.table.specs.Located.{Entry, here, further, map_lists}
use Rattle.table.proofs.Laws.Alone.{Alone, alone_those, entry_below}
use Rattle.table.proofs.Laws.Passed.{AcceptedText, accepted_text, one_lists, GoodOf, map_good, map_fine}
use Rattle.table.proofs.Laws.Indexed.{indexed, lawful_back, lawful_legal}
use Rattle.table.proofs.Laws.Located.{is_described, length_is}
use Rattle.shortlist.specs.Runs as short
use Rattle.shortlist.specs.Making.{list_refusal}
use Rattle.table.specs.ByOffset.{entry_of, by_offset, told_stretch, ListsModels}
use Rattle.table.proofs.Laws.ByOffset.{from, offset_permuted, offset_order}
use Rattle.table.proofs.Laws.Kinds.{kind_entry, record_kind}
use Rattle.table.proofs.Laws.Chain.{whole, whole_is, says, Ahead, chain}
use Rattle.table.proofs.Laws.Stretches.{stretch_taken}

-- ---- Models of a good map.

unfoldable bounded : Model → Bool
bounded m = ltb 0 m.count && ltb m.structure 32

model_bounded : {e : Element} → GoodModel e → bounded (model_of e) ≡ true
unfolding bounded model_of
model_bounded {e} g =
    let (u, v) = whole_within 1 1048576 (attr "IndexCount" e) (model_facts g).count in
    and_both (lt-ltb 0 (value (attr "IndexCount" e)) (omega arith)) (lt-ltb (model_of e).structure 32 (structure_small g))

all_bounded : (l : List Element) → AllGood brain_rows l → all bounded (each model_of (those is_model l)) ≡ true
unfolding those each is_model all
all_bounded [] none_left = refl
all_bounded (e ∷ l) (one_good g m) = go (is "BrainModel" (name_of e)) refl (all_bounded l m)
  where
    rest : List Element
    rest = those (λ y. is "BrainModel" (name_of y)) l

    go : (b : Bool) → is "BrainModel" (name_of e) ≡ b → all bounded (each model_of rest) ≡ true
        → all bounded (each model_of (cond b (e ∷ rest) rest)) ≡ true
    go true q h = and_both (model_bounded (good_model e g q)) h
    go false q h = h

-- ---- What is asked of one is asked of all that pass.

none_those : (p q : Model → Bool) (l : List Model) → those p l ≡ [] → all (λ m. not (p m) || q m) l ≡ true
unfolding those all
none_those p q [] h = refl
none_those p q (a ∷ l) h = go (p a) h (none_those p q l)
  where
    go : (b : Bool) → cond b (a ∷ those p l) (those p l) ≡ [] → (those p l ≡ [] → all (λ m. not (p m) || q m) l ≡ true)
        → ((not b || q a) && all (λ m. not (p m) || q m) l) ≡ true
    go true k ih = clash (cc)
    go false k ih = ih k

one_those : (p q : Model → Bool) (y : Model) → q y ≡ true → (l : List Model) → those p l ≡ y ∷ []
    → all (λ m. not (p m) || q m) l ≡ true
unfolding those all
one_those p q y t [] h = clash (cc)
one_those p q y t (a ∷ l) h = go (p a) h (one_those p q y t l)
  where
    go : (b : Bool) → cond b (a ∷ those p l) (those p l) ≡ y ∷ []
        → (those p l ≡ y ∷ [] → all (λ m. not (p m) || q m) l ≡ true)
        → ((not b || q a) && all (λ m. not (p m) || q m) l) ≡ true
    go true k ih =
        let e : a ≡ y = cc in
        let n : those p l ≡ [] = cc in
        and_both (ap q e ∙ t) (none_those p q l n)
    go false k ih = ih k

-- ---- Type and structure shared, either way round.

alike_turned : (a b : Model) → alike a b ≡ alike b a
unfolding alike same_type
alike_turned a b = go a.listed b.listed
  where
    go : (x y : Listed) → (same_type x y && eqb a.structure b.structure) ≡ (same_type y x && eqb b.structure a.structure)
    go (vertices s l) (vertices t k) = eqb_turned a.structure b.structure
    go (vertices s l) (voxels k) = refl
    go (voxels l) (vertices t k) = refl
    go (voxels l) (voxels k) = eqb_turned a.structure b.structure

-- models that share none make entries that share none
entries_apart : (n : ℕ) (l : List Model) → all (whole n) l ≡ true → two_of alike l ≡ false → two_of short.of_one_kind (each entry_of l) ≡ false
unfolding short.of_one_kind
entries_apart n l w h = two_each entry_of short.of_one_kind l ∙ refute _ (λ t. (
    let (i, j, u, v, s) = (two_of_iff nobody (λ a b. short.of_one_kind (entry_of a) (entry_of b)) l).0 t in
    let a : Model = get_or l i nobody in
    let b : Model = get_or l j nobody in
    let k : type_and_structure a ≡ type_and_structure b = sym (kind_entry a) ∙ eqb-true _ _ s ∙ kind_entry b in
    let x = (whole_is n a ((all_iff nobody (whole n) l).0 w i (omega arith))).structure in
    let y = (whole_is n b ((all_iff nobody (whole n) l).0 w j v)).structure in
    both_ways ((two_of_iff nobody alike l).1 (i, j, u, v, alike_number a b x y ∙ eq-eqb _ _ k)) h))

-- ---- A good brain map to which 10, 11 and 12 do not apply.

module _ {x : Element} (g : GoodMap x) (f : FineMap (map_of x)) (brain : is_brain (map_of x).kind ≡ true) where
  models : List Model
  models = (map_of x).models

  size : ℕ
  size = length_of (map_of x)

  rs : List ℕ
  rs = stretch (map_of x)

  rs_size : length rs ≡ size
  unfolding rs size
  rs_size = stretch_length (map_of x)

  is_brain_lem : kind_of_map x ≡ Brain
  unfolding map_of
  is_brain_lem = brain_kind (kind_of_map x) brain

  bounds : all bounded models ≡ true
  unfolding models
  bounds =
      let e : (map_of x).models ≡ each model_of (those is_model (elements (contents_of x))) =
      map_models x ∙ ap (each model_of) (models_are x) in
      rw e (all_bounded (elements (contents_of x)) (brain_children (good_brain g is_brain_lem)))

  once : (i : ℕ) → i < size → count (covers i) models ≡ 1
  unfolding models size
  once i u = (count_one_iff nobody (covers i) (map_of x).models).1 (((even_iff nobody (map_of x)).0 (f.even brain)).one i u)

  sum : size ≡ total (λ m. m.count) models
  unfolding size models
  sum = brain_sum x is_brain_lem

  wholes : all (whole size) models ≡ true
  unfolding whole bounded
  wholes = (all_iff nobody (whole size) models).1 each_whole
    where
      each_whole : (i : ℕ) → i < length models → whole size (get_or models i nobody) ≡ true
      each_whole i u =
          let m : Model = get_or models i nobody in
          let b = (all_iff nobody bounded models).0 bounds i u in
          let c = and_left (ltb 0 m.count) _ b in
          let s = sum in
          let n = ltb-true 0 m.count c in
          let w = ranges_within nobody models (λ j v. once j (omega arith)) i u (omega arith) in
          and_both c (and_both (and_right (ltb 0 m.count) _ b) (le-leb _ size (omega arith)))

  recorded : (i : ℕ) → (u : i < size) → (all (says rs i) models ≡ true) × (legal_record (get_or rs i 0) ≡ true)
  unfolding models rs size says
  recorded i u =
      let z = indexed g f brain i u in
      let e = stretch_at (map_of x) i u ∙ z.recorded in
      let k = record_kind z.model (get_or rs i 0) (ap location_of e ∙ lawful_back z.fits) z.listed in (
        one_those (covers i) (λ m. eqb (short.kind_of (get_or rs i 0)) (short.kind_in (entry_of m))) z.model (eq-eqb _ _ k) models
            z.one_model,
        ap legal_record e ∙ lawful_legal z.fits,
      )

  permuted : Permuted models (by_offset models)
  permuted = offset_permuted models

  wholes_placed : all (whole (length rs)) (by_offset models) ≡ true
  wholes_placed = ap (λ n. all (whole n) (by_offset models)) rs_size ∙ sym (all_permuted (whole size) permuted) ∙ wholes

  apart_placed : two_of alike (by_offset models) ≡ false
  unfolding models
  apart_placed = sym (two_permuted alike alike_turned permuted) ∙ f.apart

  ahead : Ahead rs 0 (by_offset models)
  unfolding from
  ahead = record {
    once = λ i u v. sym (count_permuted (covers i) permuted) ∙ once i (let e = rs_size in omega arith);
    begins = (all_iff nobody (from 0) (by_offset models)).1 (λ i u. le-leb 0 (get_or (by_offset models) i nobody).offset (omega arith));
    ordered = offset_order models;
    wholes = wholes_placed;
    apart = apart_placed;
    kinds = λ i u. sym (all_permuted (says rs i) permuted) ∙ (recorded i (let e = rs_size in omega arith)).0;
  }

  runs_are : short.runs rs ≡ each entry_of (by_offset models)
  unfolding short.runs
  runs_are = chain rs (by_offset models) 0 ahead

  legal : all legal_record rs ≡ true
  legal = (all_iff 0 legal_record rs).1 (λ i u. (recorded i (let e = rs_size in omega arith)).1)

  once_each : short.comes_back rs ≡ false
  unfolding short.comes_back
  once_each = ap (two_of short.of_one_kind) runs_are ∙ entries_apart (length rs) (by_offset models) wholes_placed apart_placed

  runs_size : length (short.runs rs) ≡ length models
  runs_size = ap length runs_are ∙ length_each entry_of (by_offset models) ∙ sym (length_permuted permuted)

  made : good_count size ≡ true → (room : ℕ) → list_refusal rs room ≡ first (17 when ltb room (length models) ∷ [])
  unfolding list_refusal first
  made h room = rw (rs_size, h, legal, once_each, runs_size) refl

-- ---- THE STATEMENT.

small : {l : List ℕ} {d n : ℕ} → any (λ i. eqb i 0 || ltb 1048576 i) l ≡ false → Entry l d n → good_count n ≡ true
unfolding any good_count
small h (here {a = n} {l = l}) =
    let t = or_left (eqb n 0 || ltb 1048576 n) _ h in
    let u = eqb-false n 0 (or_left (eqb n 0) _ t) in
    let v = ltb-false 1048576 n (or_right (eqb n 0) _ t) in
    let w : 1 ≤ n = some n u in
    and_both (le-leb 1 n w) (le-leb n 1048576 v)
  where
    some : (n : ℕ) → (n ≡ 0 → ⊥) → 1 ≤ n
    some zero f = absurd (f refl)
    some (suc n) f = omega arith
small h (further {b = b} e) = small (or_right (eqb b 0 || ltb 1048576 b) _ h) e

-- of a good map, wherever its stretch is read
listing : {m : Map} → GoodOf m → FineMap m → is_brain m.kind ≡ true → good_count (length_of m) ≡ true
    → (short.runs (stretch m) ≡ each entry_of (by_offset m.models))
    × ((room : ℕ) → list_refusal (stretch m) room ≡ first (17 when ltb room (length m.models) ∷ []))
unfolding models rs size
listing o f b c =
    rw o.is_of (
      runs_are o.good (rw o.is_of at f) (rw o.is_of at b),
      made o.good (rw o.is_of at f) (rw o.is_of at b) (rw o.is_of at c),
    )

module _ {text lengths records work : List ℕ} {a : Answer} {after cleared : List ℕ}
    (r : Reads text lengths records work a after cleared) (yes : a.number ≡ 0)
    {d n : ℕ} {told : Dimension} (is_told : Entry a.dimensions d told) (is_size : Entry lengths d n) (brain : told.kind ≡ Brain) where
  accepted : AcceptedText text lengths records a after
  accepted = accepted_text r yes

  lister : Alone (map_lists d) (maps_of accepted.document)
  lister = one_lists accepted.passes d (entry_below is_size)

  told_is : told ≡ described (total reach lister.before) lister.one
  told_is = is_described r yes is_told is_size accepted lister

  map_brain : is_brain lister.one.kind ≡ true
  unfolding described
  map_brain = let e : lister.one.kind ≡ Brain = sym (ap (λ (t : Dimension). t.kind) told_is) ∙ brain in rw e refl

  stretch_is : told_stretch told after ≡ stretch lister.one
  unfolding described
  stretch_is =
      let m : Map = lister.one in
      let s : told.start.0 ≡ total reach lister.before = ap (λ (t : Dimension). t.start.0) told_is ∙ rw map_brain refl in
      let l : told.length ≡ length_of m = ap (λ (t : Dimension). t.length) told_is in
      ap (λ i. take i (drop told.start.0 after)) l
      ∙ ap (λ i. take (length_of m) (drop i after)) s
      ∙ ap (λ l. take (length_of m) (drop (total reach lister.before) l))
      (accepted.filled ∙ ap (λ l. filled_with (stretches l) records) lister.split)
      ∙ stretch_taken lister.before m lister.behind records map_brain

  counted : good_count (length_of lister.one) ≡ true
  unfolding lengths_wrong
  counted = ap good_count (length_is r yes is_told is_size accepted lister)
      ∙ small (or_right (not (between 2 3 (length lengths))) _ accepted.passes.lengths_right) is_size

  lists_them : ListsModels text after d told
  lists_them =
      let o = map_good accepted.passes lister.before lister.one lister.behind lister.split in
      let f = map_fine accepted.passes lister.before lister.one lister.behind lister.split in
      let (x, y) = listing o f map_brain counted in
      record {
        document = accepted.document;
        written = accepted.writes;
        map = lister.one;
        one_map = alone_those lister;
        listed = ap short.runs stretch_is ∙ x;
        made = λ room. ap (λ rs. list_refusal rs room) stretch_is ∙ y room;
      }

-- of each dimension that the answer calls brain
pub table_lists : {text lengths records work : List ℕ} {a : Answer} {after cleared : List ℕ}
    → Reads text lengths records work a after cleared → a.number ≡ 0 → {d n : ℕ} {told : Dimension} → Entry lengths d n
    → Entry a.dimensions d told → told.kind ≡ Brain → ListsModels text after d told
table_lists r z is_size is_told brain = lists_them r z is_told is_size brain
