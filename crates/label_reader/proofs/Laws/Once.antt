-- 24 FOR THE TABLE ASKED FOR: where no dimension is listed twice, and 18 and 24 do not apply, no key stands twice in it.
use Rattle.std.specs.Prelude.{◌≡◌, Bool, cond, ◌&&◌, ◌||◌, ℕ, zero, suc, ◌+◌, ◌≤◌, eqb, ℤ, get_or}
use Rattle.std.proofs.Math.Path.{refl, ap}
use Rattle.std.proofs.Common.{◌∙◌}
use mathlib.Core.List.{List, [], ◌∷◌, ◌++◌, append-nil}
use Rattle.std.proofs.Math.Bool.{true, false}
use native.Mathlib.Omega.{arith}
use Rattle.std.proofs.lemmas.Bool.{not-false}
use Rattle.std.proofs.Math.Dec.{ltb}
use Rattle.lists.specs.Lists.{any, count, those, two_of, each_in}
use Rattle.lists.proofs.Laws.Booleans.{or_left, or_right, both_ways}
use Rattle.lists.proofs.Laws.Lists.{none_counted, count_append}
use Rattle.numbers.specs.Numbers.{same_key}
use Rattle.cifti.specs.Maps.{Map, is_labels, labels_maps}
use Rattle.cifti.specs.Conditions.{listed_dimensions, key_twice}
use Rattle.cifti.specs.Labels.{holds_table, no_table, keys_on}
use Rattle.map_names.proofs.Laws.Reached.{some_counted}

-- no table of a map has a key twice: nor has that of an index
of_index : (i : ℕ) (l : List (List ℤ)) → any (two_of same_key) l ≡ false → two_of same_key (get_or l i []) ≡ false
unfolding any two_of
of_index i [] h = refl
of_index zero (k ∷ l) h = or_left (two_of same_key k) (any (two_of same_key) l) h
of_index (suc i) (k ∷ l) h = of_index i l (or_right (two_of same_key k) (any (two_of same_key) l) h)

module _ (d i : ℕ) where
  abbrev lists_it : Map → Bool
  lists_it m = any (eqb d) m.dimensions

  abbrev holds_it : Map → Bool
  holds_it m = lists_it m && holds_table i m

  abbrev tables_of : List Map → List (List ℤ)
  tables_of l = each_in (λ m. m.tables) l

  abbrev twice_in : List Map → Bool
  twice_in l = any (λ m. any (two_of same_key) m.tables) l

  -- a dimension that no map lists
  none_lists : (l : List Map) → count (eqb d) (listed_dimensions l) ≡ 0 → (those lists_it l ≡ []) × (any holds_it l ≡ false)
  unfolding those any listed_dimensions each_in
  none_lists [] h = (refl, refl)
  none_lists (m ∷ l) h =
      let t = count_append (eqb d) m.dimensions (listed_dimensions l) in
      let a : any (eqb d) m.dimensions ≡ false = none_counted (eqb d) m.dimensions (omega arith) in
      go (any (eqb d) m.dimensions) a (none_lists l (omega arith))
    where
      go : (b : Bool) → b ≡ false → (those lists_it l ≡ []) × (any holds_it l ≡ false)
          → (cond b (m ∷ those lists_it l) (those lists_it l) ≡ []) × (((b && holds_table i m) || any holds_it l) ≡ false)
      go true a ih = both_ways refl a
      go false a ih = ih

  -- those behind a map, too, list the dimension once at most; and never where the map lists it
  fewer : (m : Map) (l : List Map) → count (eqb d) (listed_dimensions (m ∷ l)) ≤ 1
      → (count (eqb d) (listed_dimensions l) ≤ 1) × (lists_it m ≡ true → count (eqb d) (listed_dimensions l) ≡ 0)
  unfolding listed_dimensions each_in
  fewer m l u =
      let t = count_append (eqb d) m.dimensions (listed_dimensions l) in
      (omega arith, λ a. let s = some_counted (eqb d) m.dimensions a in omega arith)

  abbrev Once : List Map → Type 0
  Once l = two_of same_key (get_or (tables_of (those lists_it l)) i []) ≡ false

  once_in : (l : List Map) → count (eqb d) (listed_dimensions l) ≤ 1 → any holds_it l ≡ true → twice_in (labels_maps l) ≡ false → Once l
  unfolding those any each_in labels_maps holds_table two_of
  once_in [] u h t = refl
  once_in (m ∷ l) u h t =
      let (few, rest) = fewer m l u in
      go (any (eqb d) m.dimensions) (is_labels m.kind) (λ a. none_lists l (rest a)) (once_in l few) refl h t
    where
      go : (b c : Bool) → (lists_it m ≡ true → (those lists_it l ≡ []) × (any holds_it l ≡ false))
          → (any holds_it l ≡ true → twice_in (labels_maps l) ≡ false → Once l)
          → any (eqb d) m.dimensions ≡ b
          → ((b && (c && ltb i m.counted)) || any holds_it l) ≡ true
          → twice_in (cond c (m ∷ labels_maps l) (labels_maps l)) ≡ false
          → two_of same_key (get_or (tables_of (cond b (m ∷ those lists_it l) (those lists_it l))) i []) ≡ false
      go false true none on a g s = on g (or_right (any (two_of same_key) m.tables) (twice_in (labels_maps l)) s)
      go false false none on a g s = on g s
      go true false none on a g s = both_ways g (none a).1
      go true true none on a g s =
          ap (λ k. two_of same_key (get_or (m.tables ++ tables_of k) i [])) (none a).0
          ∙ ap (λ k. two_of same_key (get_or k i [])) (append-nil m.tables)
          ∙ of_index i m.tables (or_left (any (two_of same_key) m.tables) (twice_in (labels_maps l)) s)

  pub keys_once : (l : List Map) → count (eqb d) (listed_dimensions l) ≤ 1 → no_table d i l ≡ false → key_twice l ≡ false
      → two_of same_key (keys_on d i l) ≡ false
  unfolding no_table key_twice keys_on
  keys_once l u h t = once_in l u (not-false (any holds_it l) h) t
