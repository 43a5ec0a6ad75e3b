-- What is proved of Treads.
use Rattle.std.specs.Prelude.{◌≡◌, refl, List, [], ◌∷◌, Bool, true, false, cond, ◌&&◌, ◌||◌, ℕ, ◌+◌, eqb, leb, ltb, Option, Some, None}
use Rattle.std.proofs.Math.Path.{sym}
use Rattle.std.proofs.Common.{ap, ◌∙◌, arith, rules, le-leb, lt-ltb, le-ltb, eq-eqb, ne_eqb, leb-true}
use Prim.Native.String.{String}
use Rattle.std.proofs.Math.Decide.{ℕ_discrete}
use Rattle.std.proofs.lemmas.Bool.{lt-leb}
use Rattle.lists.specs.Lists.{all, any, count}
use Rattle.grammar.specs.Bytes.{ascii, between}
use Rattle.grammar.specs.Document.{Element}
use Rattle.grammar.specs.Look.{Word, attr}
use Rattle.grammar.specs.Parser.{parse}
use Rattle.nodes.specs.Places.{Stands, the}
use Rattle.nodes.specs.Names.{named}
use Rattle.nodes.specs.Attributes.{place}
use Rattle.nodes.specs.Values.{value_there}
use Rattle.nodes.proofs.Laws.Found.{attr_law, value_found, value_missing}
use Rattle.nodes.specs.Root.{root}
use Rattle.numbers.specs.Numbers as Numbers
use Rattle.numbers.specs.Numbers.{dimension_list, comma_values}
use Rattle.numbers.specs.Answers.{between_in}
use Rattle.cifti.specs.Maps.{dimensions_of}
use Rattle.inside.specs.Walked.{child_at, thence, way_at}
use Rattle.inside.specs.Treads.{called}
use Rattle.inside.proofs.Laws.Treads.{Seeking, seeking_start, seeking_done, seeking_less, seeking_off, seeking_found, called_alike}
use Rattle.inside.specs.Treads.{child_named, trod, trod_from}
use Rattle.inside.proofs.Laws.Treads.{Alike, alike_none, alike_more, trod_way}
use Rattle.map_names.specs.Way.{of_name, lists_dimension, map_that_lists, map_way, in_map, way_in_map, name_way}
use Rattle.map_names.specs.Treads.{some_of, lists_by, lists_at, map_lists_at, in_map_treads, name_treads, map_treads, map_there, named_at}

module _ (text : List ℕ) (at : ℕ) (d : ℕ) {f : Option ℕ} (e : f ≡ place text at (ascii "AppliesToMatrixDimension")) where
  module _ {v : ℕ} (h : f ≡ Some v) {w : Option ℕ} (q : w ≡ between_in d d (value_there text v)) where
    pub lists_some : {n : ℕ} → w ≡ Some n → ltb 0 n ≡ lists_at text d at
    unfolding lists_at lists_by some_of
    lists_some k = sym (rw (sym e ∙ h, sym q ∙ k))

    pub lists_bad : w ≡ None → false ≡ lists_at text d at
    unfolding lists_at lists_by some_of
    lists_bad k = sym (rw (sym e ∙ h, sym q ∙ k))

  pub lists_missing : f ≡ None → false ≡ lists_at text d at
  unfolding lists_at lists_by
  lists_missing h = sym (rw (sym e ∙ h))

pub ruleset listing = (lists_some, lists_bad, lists_missing, rules)

module _ (text : List ℕ) (at : ℕ) (d : ℕ) {b : Bool} (e : b ≡ named text at (ascii "MatrixIndicesMap")) where
  pub map_named : b ≡ true → {l : Bool} → l ≡ lists_at text d at → l ≡ map_lists_at text d at
  unfolding map_lists_at called
  map_named t h = rw (sym e ∙ t) h

  pub map_other : b ≡ false → false ≡ map_lists_at text d at
  unfolding map_lists_at called
  map_other f = rw (sym e ∙ f)

pub ruleset mapping = (map_named, map_other, rules)

-- the first that is met
pub seeking_first : {test : ℕ → Bool} {n : ℕ} {text : List ℕ} {at : ℕ} {kid : Option ℕ} → Seeking test n text at 0 kid → {k : ℕ}
    → kid ≡ Some k → {b : Bool} → b ≡ test k → b ≡ true → Some k ≡ child_at test n text at
seeking_first go e q t = seeking_found go e q t refl

pub ruleset first_map = (seeking_start, seeking_done, seeking_less, seeking_off, seeking_first, rules)

pub thence_at : (f : Option ℕ) → thence (λ k. Some k) f ≡ f
unfolding thence
thence_at None = refl
thence_at (Some k) = refl

module _ (text w : List ℕ) (at i : ℕ) {f : Option ℕ} (e : f ≡ child_named (ascii "NamedMap") i text at) where
  pub on_found : {k : ℕ} → f ≡ Some k → {r : Option ℕ} → r ≡ child_named w 0 text k → r ≡ trod (in_map_treads text w i) text at
  unfolding trod in_map_treads child_named thence
  on_found {k} h q = q ∙ sym (rw (sym e ∙ h) (thence_at (child_at (called text w) 0 text k)))

  pub on_none : f ≡ None → None ≡ trod (in_map_treads text w i) text at
  unfolding trod in_map_treads child_named thence
  on_none h = sym (rw (sym e ∙ h))

pub ruleset on_map = (on_found, on_none, rules)

module _ (text : List ℕ) (d : ℕ) {kid : Option ℕ} (e : kid ≡ root text) where
  pub root_none : kid ≡ None → None ≡ map_there text d
  unfolding map_there trod_from
  root_none h = sym (rw (sym e ∙ h))

  module _ {r : ℕ} (h : kid ≡ Some r) {f : Option ℕ} (q : f ≡ child_named (ascii "Matrix") 0 text r) where
    pub root_found : {m : ℕ} → f ≡ Some m → {x : Option ℕ} → x ≡ child_at (map_lists_at text d) 0 text m → x ≡ map_there text d
    unfolding map_there trod_from map_treads trod thence child_named
    root_found {m} k p = p ∙ sym (rw (sym e ∙ h, sym q ∙ k) (thence_at (child_at (map_lists_at text d) 0 text m)))

    pub root_lost : f ≡ None → None ≡ map_there text d
    unfolding map_there trod_from map_treads trod thence child_named
    root_lost k = sym (rw (sym e ∙ h, sym q ∙ k))

pub ruleset from_root = (root_none, root_found, root_lost, rules)

-- from the map that lists the dimension
pub name_thence : (text w : List ℕ) (d i : ℕ) → named_at text w d i ≡ thence (trod (in_map_treads text w i) text) (map_there text d)
unfolding named_at map_there trod_from name_treads map_treads trod thence
name_thence text w d i = by (root text)
  where
    from : (f : Option ℕ) → thence (λ m. thence (trod (in_map_treads text w i) text) (child_at (map_lists_at text d) 0 text m)) f
        ≡ thence (trod (in_map_treads text w i) text) (thence (λ m. thence (λ k. Some k) (child_at (map_lists_at text d) 0 text m)) f)
    from None = refl
    from (Some m) = ap (thence (trod (in_map_treads text w i) text)) (sym (thence_at (child_at (map_lists_at text d) 0 text m)))

    by : (kid : Option ℕ) → trod_from (name_treads text w d i) text kid
        ≡ thence (trod (in_map_treads text w i) text) (trod_from (map_treads text d) text kid)
    by None = refl
    by (Some r) = from (child_at (called text (ascii "Matrix")) 0 text r)

module _ (text w : List ℕ) (d i : ℕ) {f : Option ℕ} (e : f ≡ map_there text d) where
  pub there_found : {k : ℕ} → f ≡ Some k → {r : Option ℕ} → r ≡ trod (in_map_treads text w i) text k → r ≡ named_at text w d i
  unfolding thence
  there_found h q = q ∙ sym (name_thence text w d i ∙ rw (sym e ∙ h))

  pub there_none : f ≡ None → None ≡ named_at text w d i
  unfolding thence
  there_none h = sym (name_thence text w d i ∙ rw (sym e ∙ h))

pub ruleset from_map = (there_found, there_none, rules)

-- ---- Where elements stand, the treads are the steps of the way.

one_digit : (d a : ℕ) → between d d a ≡ eqb d a
one_digit d a = by (ℕ_discrete d a)
  where
    by : Dec (d ≡ a) → (leb d a && leb a d) ≡ eqb d a
    by (yes e) = rw (le-leb d a (omega arith), le-leb a d (omega arith), eq-eqb d a e)
    by (no n) = rw (ne_eqb d a n) (apart (leb d a) refl)
      where
        apart : (b : Bool) → leb d a ≡ b → (b && leb a d) ≡ false
        apart false e = refl
        apart true e = lt-leb a d (let h = leb-true d a e in omega arith)

counted : (d : ℕ) (l : List ℕ) → ltb 0 (count (between d d) l) ≡ any (eqb d) l
unfolding count any
counted d [] = le-ltb 0 0 (omega arith)
counted d (a ∷ l) = rw (one_digit d a) (by (eqb d a) (counted d l))
  where
    by : (b : Bool) → ltb 0 (count (between d d) l) ≡ any (eqb d) l → ltb 0 (cond b 1 0 + count (between d d) l) ≡ (b || any (eqb d) l)
    by true h = lt-ltb 0 (1 + count (between d d) l) (omega arith)
    by false h = let e : 0 + count (between d d) l ≡ count (between d d) l = omega arith in rw e h

in_list : (d : ℕ) (w : Word) → some_of (between_in d d w) ≡ (dimension_list w && any (eqb d) (comma_values w))
unfolding between_in some_of
in_list d w = by (dimension_list w)
  where
    by : (b : Bool) → some_of (cond b (Some (count (between d d) (comma_values w))) None) ≡ (b && any (eqb d) (comma_values w))
    by true = counted d (comma_values w)
    by false = refl

nothing_listed : (d : ℕ) → false ≡ (dimension_list [] && any (eqb d) (comma_values []))
unfolding Numbers.numbers all
nothing_listed d = refl

lists_alike : (text : List ℕ) (d k : ℕ) → Stands text k → lists_at text d k ≡ lists_dimension d (the text k)
unfolding lists_at lists_dimension dimensions_of lists_by
lists_alike text d k st = by (place text k (ascii "AppliesToMatrixDimension")) refl
  where
    by : (f : Option ℕ) → place text k (ascii "AppliesToMatrixDimension") ≡ f
        → lists_by text d f
        ≡ (dimension_list (attr "AppliesToMatrixDimension" (the text k))
        && any (eqb d) (comma_values (attr "AppliesToMatrixDimension" (the text k))))
    by (Some v) e =
        in_list d (value_there text v)
        ∙ rw (sym (value_found text k (ascii "AppliesToMatrixDimension") (sym e) refl) ∙ attr_law "AppliesToMatrixDimension" st)
    by None e =
        nothing_listed d
        ∙ rw (sym (value_missing text k (ascii "AppliesToMatrixDimension") (sym e) refl) ∙ attr_law "AppliesToMatrixDimension" st)

map_alike : (text : List ℕ) (d k : ℕ) → Stands text k → map_lists_at text d k ≡ map_that_lists d (the text k)
unfolding map_lists_at map_that_lists
map_alike text d k st = rw (called_alike text "MatrixIndicesMap" k st, lists_alike text d k st)

named_alike : (text : List ℕ) (s : String) (k : ℕ) → Stands text k → called text (ascii s) k ≡ of_name s (the text k)
unfolding of_name
named_alike text s k st = called_alike text s k st

alike : (text : List ℕ) (s : String) (d i : ℕ) → Alike text (name_treads text (ascii s) d i) (way_in_map s d i)
unfolding name_treads in_map_treads way_in_map in_map
alike text s d i =
    alike_more 0 (named_alike text "Matrix")
    (alike_more 0 (map_alike text d)
    (alike_more i (named_alike text "NamedMap")
    (alike_more 0 (named_alike text s) alike_none)))

map_alike_way : (text : List ℕ) (d : ℕ) → Alike text (map_treads text d) (map_way d)
unfolding map_treads map_way
map_alike_way text d = alike_more 0 (named_alike text "Matrix") (alike_more 0 (map_alike text d) alike_none)

pub map_way_lem : (text : List ℕ) (d : ℕ) {e : Element} → parse text ≡ Some e → map_there text d ≡ way_at (map_way d) text
unfolding map_there
map_way_lem text d h = trod_way (map_alike_way text d) h

pub way_in_map_lem : (text : List ℕ) (s : String) (d i : ℕ) {e : Element} → parse text ≡ Some e
    → named_at text (ascii s) d i ≡ way_at (way_in_map s d i) text
unfolding named_at
way_in_map_lem text s d i h = trod_way (alike text s d i) h

pub name_way_lem : (text : List ℕ) (d i : ℕ) {e : Element} → parse text ≡ Some e
    → named_at text (ascii "MapName") d i ≡ way_at (name_way d i) text
unfolding name_way
name_way_lem text d i h = way_in_map_lem text "MapName" d i h
