-- THE ANSWER TELLS WHAT THE FILE GIVES: of an accepted text, an index of a dimension is told a location if and only if the file gives it
-- that one.
use Rattle.std.specs.Prelude.{◌≡◌, ◌↔◌, List, [], ◌∷◌, Bool, ℕ, zero, suc, ◌+◌, ◌<◌, eqb, length, get_or}
use Rattle.std.proofs.Math.Path.{refl, ap}
use Rattle.std.proofs.Common.{sym, ◌∙◌, subst, arith, eqb-true}
use Rattle.std.proofs.Math.Bool.{true, false}
use Rattle.lists.specs.Lists.{any, those, each}
use Rattle.lists.proofs.Laws.Quantifiers.{any_iff, count_one_iff}
use Rattle.lists.proofs.Laws.Booleans.{both_ways, clash, or_left, or_right}
use Rattle.lists.proofs.Laws.Lists.{any_in}
use Rattle.grammar.specs.Document.{Element}
use Rattle.grammar.proofs.Laws.Theorems.{unambiguous}
use Rattle.records.specs.Record.{Location, location_of}
use Rattle.cifti.specs.Maps.{Model, Map, kind_number, map_of, maps_of, length_of, is_brain, kind_of_map, covers}
use Rattle.cifti.specs.Conditions.{listed_dimensions}
use Rattle.cifti.specs.Answer.{reach, described, dimension_at, accepted_with, unused, Reads}
use Rattle.cifti.proofs.Laws.Cover.{ranges_within}
use Rattle.cifti.proofs.Laws.Meaning.{listing_iff, covers_iff, even_iff}
use Rattle.cifti.specs.declared.answer.Kind.TheVariants.{Brain}
use Rattle.cifti.specs.declared.answer.Dimension.{Dimension}
use Rattle.cifti.specs.declared.answer.Answer.{Answer}
use Rattle.maps.proofs.Laws.MapKind.{brain_kind, no_models_lem}
use Rattle.maps.specs.MapKind.{GoodMap}
use Rattle.models.proofs.Laws.Brain.{map_models, brain_sum}
use Rattle.models.specs.Fine.{FineMap}
use Rattle.table.proofs.Laws.Ready.{nobody}
use Rattle.table.specs.Located.{Entry, map_lists, FileGives, AnswerTells}
use Rattle.table.proofs.Laws.Alone.{Alone, alone_those, some_of, entry_at, entry_below, entry_is}
use Rattle.table.proofs.Laws.Passed.{Passed, AcceptedText, accepted_text, at_most_three, one_lists, GoodOf, map_good, map_fine}
use Rattle.table.proofs.Laws.Located.{is_described, length_is, index_located, length_told, gives_unique}

-- ---- A listed dimension exists.

pub listed_exists : {lengths : List ℕ} {e : Element} → Passed lengths e → (d : ℕ) → any (map_lists d) (maps_of e) ≡ true
    → d < length lengths
unfolding listed_dimensions
listed_exists {lengths} {e} p d h =
    let all : List ℕ = listed_dimensions (maps_of e) in
    let (i, u, v) = (any_iff 0 (eqb d) all).0 (any_in (eqb d) (λ m. m.dimensions) (maps_of e) ∙ h) in
    let w = ((listing_iff lengths (maps_of e)).0 p.once).exists i u in
    omega (arith, eqb-true d (get_or all i 0) v)

-- ---- A map with a model is a brain map, and the ranges of its models do not pass its length.

module _ {x : Element} (g : GoodMap x) (f : FineMap (map_of x)) (n : ℕ) (some_model : any (covers n) (map_of x).models ≡ true) where
  of_brain : is_brain (kind_of_map x) ≡ true
  unfolding any each
  of_brain = go (is_brain (kind_of_map x)) refl
    where
      go : (b : Bool) → is_brain (kind_of_map x) ≡ b → b ≡ true
      go true h = refl
      go false h = both_ways (rw (map_models x, no_models_lem g h) at some_model) refl

  is_brain_lem : is_brain (map_of x).kind ≡ true
  unfolding map_of
  is_brain_lem = of_brain

  in_length : n < length_of (map_of x)
  in_length =
      let m : List Model = (map_of x).models in
      let e = brain_sum x (brain_kind (kind_of_map x) of_brain) in
      let one = ((even_iff nobody (map_of x)).0 (f.even is_brain_lem)).one in
      let (i, u, v) = (any_iff nobody (covers n) m).0 some_model in
      let (s, t) = (covers_iff n (get_or m i nobody)).0 v in
      let w = ranges_within nobody m (λ j k. (count_one_iff nobody (covers j) m).1 (one j (omega arith))) i u (omega arith) in
      omega arith

-- ---- The dimensions of the answer.

three : (l : List Map) → length (accepted_with l).dimensions ≡ 3
unfolding accepted_with
three l = refl

-- of each dimension that exists there is an entry
pub told_entry : {text lengths records : List ℕ} {a : Answer} {after : List ℕ} → AcceptedText text lengths records a after
    → {d : ℕ} → d < length lengths → Entry a.dimensions d (get_or a.dimensions d unused)
told_entry {a = a} x {d} u =
    let of_three : length a.dimensions ≡ 3 = ap (λ (t : Answer). length t.dimensions) x.answered ∙ three _ in
    entry_at a.dimensions d unused (omega (arith, u, at_most_three x.passes, of_three))

told_at : (l : List Map) {d : ℕ} {told : Dimension} → Entry (accepted_with l).dimensions d told → told ≡ dimension_at 0 l d
unfolding accepted_with
told_at l {d} e = sym (entry_is e unused) ∙ go d (entry_below e)
  where
    go : (c : ℕ) → c < 3 → get_or (accepted_with l).dimensions c unused ≡ dimension_at 0 l c
    go zero u = refl
    go (suc zero) u = refl
    go (suc (suc zero)) u = refl
    go (suc (suc (suc c))) u = absurd (omega arith)

unlisted : (at : ℕ) (l : List Map) (d : ℕ) → any (map_lists d) l ≡ false → dimension_at at l d ≡ unused
unfolding dimension_at any
unlisted at [] d h = refl
unlisted at (m ∷ l) d h = rw (or_left (map_lists d m) _ h) (unlisted (at + reach m) l d (or_right (map_lists d m) _ h))

-- one that the answer calls brain is listed
brain_listed : (l : List Map) {d : ℕ} {told : Dimension} → Entry (accepted_with l).dimensions d told → told.kind ≡ Brain
    → any (map_lists d) l ≡ true
brain_listed l {d} e k = go (any (map_lists d) l) refl
  where
    go : (b : Bool) → any (map_lists d) l ≡ b → b ≡ true
    go true h = refl
    go false h = clash (ap kind_number (sym (ap (λ (t : Dimension). t.kind) (told_at l e ∙ unlisted 0 l d h)) ∙ k))

-- ---- What the file gives is told.

module _ {text lengths records work : List ℕ} {a : Answer} {after cleared : List ℕ}
    (r : Reads text lengths records work a after cleared) (yes : a.number ≡ 0) {d n : ℕ} {x : Location} (g : FileGives text d n x) where
  accepted : AcceptedText text lengths records a after
  accepted = accepted_text r yes

  one_map : those (map_lists d) (maps_of accepted.document) ≡ g.map ∷ []
  one_map = ap (λ c. those (map_lists d) (maps_of c)) (unambiguous accepted.writes g.written) ∙ g.one_map

  exists : d < length lengths
  exists = listed_exists accepted.passes d (some_of (map_lists d) (maps_of accepted.document) one_map)

  listing : Alone (map_lists d) (maps_of accepted.document)
  listing = one_lists accepted.passes d exists

  same_map : g.map ≡ listing.one
  same_map = let e : g.map ∷ [] ≡ listing.one ∷ [] = sym one_map ∙ alone_those listing in cc

  some_model : any (covers n) listing.one.models ≡ true
  some_model = rw (← same_map) (some_of (covers n) g.map.models g.one_model)

  good : GoodOf listing.one
  good = map_good accepted.passes listing.before listing.one listing.behind listing.split

  fine : FineMap listing.one
  fine = map_fine accepted.passes listing.before listing.one listing.behind listing.split

  size : ℕ
  size = get_or lengths d 0

  is_size : Entry lengths d size
  unfolding size
  is_size = entry_at lengths d 0 exists

  told : Dimension
  told = get_or a.dimensions d unused

  is_told : Entry a.dimensions d told
  unfolding told
  is_told = told_entry accepted exists

  brain : told.kind ≡ Brain
  unfolding described
  brain = ap (λ (t : Dimension). t.kind) (is_described r yes is_told is_size accepted listing)
      ∙ brain_kind _ (rw good.is_of (is_brain_lem good.good (rw good.is_of at fine) n (rw good.is_of at some_model)))

  below : n < size
  below =
      let e = length_is r yes is_told is_size accepted listing in
      let u : n < length_of listing.one = rw good.is_of
      (in_length good.good (rw good.is_of at fine) n (rw good.is_of at some_model)) in
      omega arith

  given_told : AnswerTells a after d n x
  given_told =
      let h = index_located r yes is_size below is_told brain in
      record {
        told = told;
        is_told = is_told;
        brain = brain;
        below = rw (length_told r yes is_size is_told) below;
        held = h.held;
        stands = h.stands;
        says = gives_unique h.given g;
      }

-- ---- THE STATEMENT.

module _ {text lengths records work : List ℕ} {a : Answer} {after cleared : List ℕ}
    (r : Reads text lengths records work a after cleared) (yes : a.number ≡ 0) where
  told_given : {d n : ℕ} {x : Location} → AnswerTells a after d n x → FileGives text d n x
  told_given {d} {n} {x} t =
      let c = accepted_text r yes in
      let e : Entry (accepted_with (maps_of c.document)).dimensions d t.told = rw c.answered at t.is_told in
      let u = listed_exists c.passes d (brain_listed (maps_of c.document) e t.brain) in
      let is_size = entry_at lengths d 0 u in
      let v : n < get_or lengths d 0 = rw (length_told r yes is_size t.is_told) at t.below in
      let h = index_located r yes is_size v t.is_told t.brain in
      let same : h.held ≡ t.held = sym (entry_is h.stands 0) ∙ entry_is t.stands 0 in
      subst (FileGives text d n) (ap location_of same ∙ t.says) h.given

  -- the answer and the records tell exactly what the file gives
  pub told_exactly : (d n : ℕ) (x : Location) → AnswerTells a after d n x ↔ FileGives text d n x
  told_exactly d n x = (told_given, given_told r yes)
