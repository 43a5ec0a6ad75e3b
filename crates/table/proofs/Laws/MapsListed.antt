-- EVERY BRAIN MAP of an accepted text applies to a dimension, so that its models are listed.
use Rattle.std.specs.Prelude.{◌≡◌, refl, Bool, ℕ, ◌<◌, ◌≤◌, eqb, length, get_or}
use Rattle.std.proofs.Common.{sym, ◌∙◌}
use Rattle.std.proofs.Math.Path.{ap}
use mathlib.Core.List.{List, [], ◌∷◌, ◌++◌}
use Rattle.std.proofs.Math.Bool.{true, false, cond}
use borrow.Author.Tests.{eq-eqb}
use Rattle.lists.specs.Lists.{any, those}
use Rattle.lists.proofs.Laws.Quantifiers.{any_iff}
use Rattle.lists.proofs.Laws.Booleans.{or_first, or_second, clash}
use Rattle.grammar.specs.Document.{Element}
use Rattle.grammar.specs.Grammar.{Writes}
use Rattle.grammar.specs.Look.{attr}
use Rattle.grammar.proofs.Laws.Theorems.{unambiguous}
use Rattle.cifti.specs.Maps.{Map, map_of, maps_of, is_brain, dimensions_of}
use Rattle.cifti.specs.Answer.{described, unused, Reads}
use Rattle.cifti.specs.declared.answer.Kind.TheVariants.{Brain}
use Rattle.cifti.specs.declared.answer.Dimension.{Dimension}
use Rattle.cifti.specs.declared.answer.Answer.{Answer}
use Rattle.maps.proofs.Laws.Dimensions.{values_some}
use Rattle.maps.proofs.Laws.MapKind.{map_dimensions, brain_kind}
use Rattle.maps.specs.MapKind.{GoodMap}
use Rattle.table.specs.Located.{Entry, map_lists}
use Rattle.table.proofs.Laws.Alone.{Alone, alone_those, entry_at}
use Rattle.table.proofs.Laws.Passed.{AcceptedText, accepted_text, one_lists, GoodOf, map_good}
use Rattle.table.proofs.Laws.Located.{is_described}
use Rattle.table.proofs.Laws.Given.{listed_exists, told_entry}
use Rattle.table.specs.ByOffset.{MapListed}
use Rattle.table.proofs.Laws.TableLists.{table_lists}

-- ---- The one of a list that passes.

module _ (p : Map → Bool) (m : Map) (r : List Map) (t : p m ≡ true) where
  passes_some : (k : List Map) → those p (k ++ (m ∷ r)) ≡ [] → ⊥
  unfolding those
  passes_some [] h = clash (let e : m ∷ those p r ≡ [] = rw t at h in cc)
  passes_some (x ∷ k) h = go (p x) h (passes_some k)
    where
      go : (b : Bool) → cond b (x ∷ those p (k ++ (m ∷ r))) (those p (k ++ (m ∷ r))) ≡ [] → (those p (k ++ (m ∷ r)) ≡ [] → ⊥) → ⊥
      go true e ih = clash (cc)
      go false e ih = ih e

  passes_one : (y : Map) (k : List Map) → those p (k ++ (m ∷ r)) ≡ y ∷ [] → y ≡ m
  unfolding those
  passes_one y [] h = let e : m ∷ those p r ≡ y ∷ [] = rw t at h in cc
  passes_one y (x ∷ k) h = go (p x) h (passes_one y k)
    where
      go : (b : Bool) → cond b (x ∷ those p (k ++ (m ∷ r))) (those p (k ++ (m ∷ r))) ≡ y ∷ []
          → (those p (k ++ (m ∷ r)) ≡ y ∷ [] → y ≡ m) → y ≡ m
      go true e ih = let n : those p (k ++ (m ∷ r)) ≡ [] = cc in absurd (passes_some k n)
      go false e ih = ih e

  pub passes_any : (k : List Map) → any p (k ++ (m ∷ r)) ≡ true
  unfolding any
  passes_any [] = or_first (p m) (any p r) t
  passes_any (x ∷ k) = or_second (p x) (passes_any k)

-- ---- A good map lists a dimension.

lists_some : {x : Element} → GoodMap x → 1 ≤ length (map_of x).dimensions
unfolding map_of dimensions_of
lists_some {x} g = values_some (attr "AppliesToMatrixDimension" x) (map_dimensions g)

some_listed : {m : Map} → GoodOf m → 1 ≤ length m.dimensions
some_listed o = rw o.is_of (lists_some o.good)

-- ---- THE STATEMENT.

module _ {text lengths records work : List ℕ} {a : Answer} {after cleared : List ℕ}
    (r : Reads text lengths records work a after cleared) (yes : a.number ≡ 0)
    (x : AcceptedText text lengths records a after) (k : List Map) (m : Map) (l : List Map)
    (split : maps_of x.document ≡ k ++ (m ∷ l)) (brain : is_brain m.kind ≡ true) where
  d : ℕ
  d = get_or m.dimensions 0 0

  lists_it : map_lists d m ≡ true
  unfolding d
  lists_it =
      let o = map_good x.passes k m l split in
      (any_iff 0 (eqb d) m.dimensions).1 (0, some_listed o, eq-eqb d (get_or m.dimensions 0 0) refl)

  exists : d < length lengths
  exists = listed_exists x.passes d (ap (any (map_lists d)) split ∙ passes_any (map_lists d) m l lists_it k)

  is_size : Entry lengths d (get_or lengths d 0)
  is_size = entry_at lengths d 0 exists

  told : Dimension
  told = get_or a.dimensions d unused

  is_told : Entry a.dimensions d told
  unfolding told
  is_told = told_entry x exists

  lister : Alone (map_lists d) (maps_of x.document)
  lister = one_lists x.passes d exists

  one_is : lister.one ≡ m
  one_is = passes_one (map_lists d) m l lists_it lister.one k (sym (ap (those (map_lists d)) split) ∙ alone_those lister)

  told_brain : told.kind ≡ Brain
  unfolding described
  told_brain = ap (λ (t : Dimension). t.kind) (is_described r yes is_told is_size x lister)
      ∙ ap (λ (t : Map). t.kind) one_is ∙ brain_kind m.kind brain

  by_map : MapListed text after a m
  by_map =
      let t = table_lists r yes is_size is_told told_brain in
      let e = unambiguous t.written x.writes in
      record {
        dimension = d;
        told = told;
        is_told = is_told;
        lists = t;
        its_map = passes_one (map_lists d) m l lists_it t.map k
            (sym (ap (λ c. those (map_lists d) (maps_of c)) e ∙ ap (those (map_lists d)) split) ∙ t.one_map);
      }

pub maps_listed : {text lengths records work : List ℕ} {a : Answer} {after cleared : List ℕ}
    → Reads text lengths records work a after cleared → a.number ≡ 0 → {e : Element} → Writes e text
    → (k : List Map) (m : Map) (l : List Map) → maps_of e ≡ k ++ (m ∷ l) → is_brain m.kind ≡ true → MapListed text after a m
maps_listed r z w k m l split brain =
    let x = accepted_text r z in
    by_map r z x k m l (ap maps_of (unambiguous x.writes w) ∙ split) brain
