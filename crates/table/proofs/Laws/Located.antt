-- EACH MATRIX INDEX GETS THE LOCATION THAT THE FILE GIVES IT: of an accepted text, every index of every dimension that the answer calls
-- brain, below the caller's length. The file gives an index one location only.
use Rattle.std.specs.Prelude.{◌≡◌, refl, List, [], ◌∷◌, ◌++◌, Bool, true, false, cond, ℕ, ◌+◌, ◌-◌, ◌<◌, ◌≤◌, length, get_or, drop}
use Rattle.std.proofs.Common.{sym, ◌∙◌, arith, length-append}
use Rattle.std.proofs.Math.Path.{ap}
use Rattle.lists.specs.Lists.{those, total, each_in}
use Rattle.grammar.proofs.Laws.Theorems.{unambiguous}
use Rattle.records.specs.Record.{Location, location_of}
use Rattle.cifti.specs.Maps.{Model, Map, maps_of, brain_maps, length_of, is_brain, covers, locations}
use Rattle.cifti.specs.Answer.{stretch, stretches, filled_with, reach, described, unused, record_at, Reads}
use Rattle.cifti.proofs.Laws.Said.{stretch_length}
use Rattle.cifti.proofs.Laws.Demand.{tells, holds}
use Rattle.cifti.specs.declared.answer.Kind.TheVariants.{Brain}
use Rattle.cifti.specs.declared.answer.Dimension.{Dimension}
use Rattle.cifti.specs.declared.answer.Answer.{Answer}
use Rattle.table.specs.Located.{Entry, map_lists, FileGives, Located}
use Rattle.table.proofs.Laws.Alone.{Alone, alone_those, entry_at, entry_below, entry_is}
use Rattle.table.proofs.Laws.Passed.{AcceptedText, accepted_text, at_most_three, one_lists, map_good, map_fine, map_length}
use Rattle.table.proofs.Laws.Indexed.{Indexed, indexed, lawful_back}

-- ---- A place of a stretch is a place of all stretches.

in_stretches : (k : List Map) (m : Map) (l : List Map) (n : ℕ) → is_brain m.kind ≡ true → n < length_of m
    → total reach k + n < length (stretches (k ++ (m ∷ l)))
unfolding stretches brain_maps those each_in total reach
in_stretches [] m l n h u = rw h (omega (arith, u, stretch_length m, length-append (stretch m) (stretches l)))
in_stretches (x ∷ k) m l n h u = go (is_brain x.kind) (in_stretches k m l n h u)
  where
    rest : List ℕ
    rest = stretches (k ++ (m ∷ l))

    go : (b : Bool) → total reach k + n < length rest
        → cond b (length_of x) 0 + total reach k + n
        < length (each_in stretch (cond b (x ∷ brain_maps (k ++ (m ∷ l))) (brain_maps (k ++ (m ∷ l)))))
    go true f = omega (arith, f, stretch_length x, length-append (stretch x) rest)
    go false f = omega (arith, f)

filled_longer : (new old : List ℕ) → length new ≤ length (filled_with new old)
unfolding filled_with
filled_longer new old = omega (arith, length-append new (drop (length new) old))

-- ---- What the answer tells of a brain map.

told_kind : (at : ℕ) (m : Map) {told : Dimension} → told ≡ described at m → told.kind ≡ Brain → is_brain m.kind ≡ true
unfolding described
told_kind at m h k = let e : m.kind ≡ Brain = sym (ap (λ (x : Dimension). x.kind) h) ∙ k in rw e refl

told_start : (at : ℕ) (m : Map) {told : Dimension} → told ≡ described at m → is_brain m.kind ≡ true → told.start.0 ≡ at
unfolding described
told_start at m h b = ap (λ (x : Dimension). x.start.0) h ∙ rw b refl

-- ---- An accepted text, a dimension of the answer and of the caller, and the map that lists it.

module _ {text lengths records work : List ℕ} {a : Answer} {after cleared : List ℕ}
    (r : Reads text lengths records work a after cleared) (yes : a.number ≡ 0)
    {d size : ℕ} {told : Dimension} (is_told : Entry a.dimensions d told) (is_size : Entry lengths d size) where
  module _ (x : AcceptedText text lengths records a after) (o : Alone (map_lists d) (maps_of x.document)) where
    abbrev pub start : ℕ
    start = total reach o.before

    pub is_described : told ≡ described start o.one
    is_described = sym (entry_is is_told unused)
        ∙ tells r yes x.document x.writes o.before o.one o.behind o.split d
        (omega (arith, entry_below is_size, at_most_three x.passes)) o.none_before o.passes

    pub length_is : length_of o.one ≡ size
    length_is = map_length x.passes o.before o.one o.behind o.split d o.passes ∙ entry_is is_size 0

    module _ (brain : is_brain o.one.kind ≡ true) {n : ℕ} (u : n < length_of o.one) where
      index : Indexed o.one n
      index =
          let g = map_good x.passes o.before o.one o.behind o.split in
          let f = map_fine x.passes o.before o.one o.behind o.split in
          rw g.is_of (indexed g.good (rw g.is_of at f) (rw g.is_of at brain) n (rw g.is_of at u))

      start_is : told.start.0 + n ≡ start + n
      start_is = ap (λ s. s + n) (told_start start o.one is_described brain)

      held_is : get_or after (told.start.0 + n) 0 ≡ record_at o.one.models n
      held_is = ap (λ s. get_or after s 0) start_is
          ∙ holds r yes x.document x.writes o.before o.one o.behind o.split brain n u

      says : location_of (get_or after (told.start.0 + n) 0) ≡ index.location
      says = ap location_of (held_is ∙ index.recorded) ∙ lawful_back index.fits

      stands : told.start.0 + n < length after
      stands =
          let s = in_stretches o.before o.one o.behind n brain u in
          let e = ap (λ l. length (stretches l)) o.split in
          let f = filled_longer (stretches (maps_of x.document)) records in
          rw (start_is, x.filled) (omega arith)

      by_index : Located text after (told.start.0 + n) d n
      by_index = record {
        held = get_or after (told.start.0 + n) 0;
        stands = entry_at after (told.start.0 + n) 0 stands;
        given = record {
          document = x.document;
          written = x.writes;
          map = o.one;
          one_map = alone_those o;
          model = index.model;
          one_model = index.one_model;
          listed = rw says index.listed;
        };
      }

  accepted : AcceptedText text lengths records a after
  accepted = accepted_text r yes

  listing : Alone (map_lists d) (maps_of accepted.document)
  listing = one_lists accepted.passes d (entry_below is_size)

  told_length : told.length ≡ size
  unfolding described
  told_length = ap (λ (t : Dimension). t.length) (is_described accepted listing) ∙ length_is accepted listing

  located : told.kind ≡ Brain → {n : ℕ} → n < size → Located text after (told.start.0 + n) d n
  located brain u = by_index accepted listing (told_kind _ listing.one (is_described accepted listing) brain)
      (rw (length_is accepted listing) u)

-- ---- THE STATEMENT.

module _ {text lengths records work : List ℕ} {a : Answer} {after cleared : List ℕ} where
  -- of a dimension that the answer calls brain, each index below the caller's length: the record stands, and says its location
  pub index_located : Reads text lengths records work a after cleared → a.number ≡ 0
      → {d size n : ℕ} {told : Dimension} → Entry lengths d size → n < size → Entry a.dimensions d told → told.kind ≡ Brain
      → Located text after (told.start.0 + n) d n
  index_located r z is_size u is_told brain = located r z is_told is_size brain u

  -- the length that the answer tells of a dimension is the caller's
  pub length_told : Reads text lengths records work a after cleared → a.number ≡ 0
      → {d size : ℕ} {told : Dimension} → Entry lengths d size → Entry a.dimensions d told → told.length ≡ size
  length_told r z is_size is_told = told_length r z is_told is_size

-- ---- THE FILE GIVES ONE LOCATION.

pub gives_unique : {text : List ℕ} {d n : ℕ} {x y : Location} → FileGives text d n x → FileGives text d n y → x ≡ y
gives_unique {text} {d} {n} {x} {y} g h =
    let e : g.document ≡ h.document = unambiguous g.written h.written in
    let one : g.map ∷ [] ≡ h.map ∷ [] = sym g.one_map ∙ ap (λ c. those (map_lists d) (maps_of c)) e ∙ h.one_map in
    let m : g.map ≡ h.map = cc in
    let two : g.model ∷ [] ≡ h.model ∷ [] = sym g.one_model ∙ ap (λ (c : Map). those (covers n) c.models) m ∙ h.one_model in
    let b : g.model ≡ h.model = cc in
    sym (entry_is g.listed x) ∙ ap (λ (c : Model). get_or (locations c) (n - c.offset) x) b ∙ entry_is h.listed x
