-- What is proved of Twice.
use Rattle.std.specs.Prelude.{◌≡◌, List, ◌∷◌, Bool, false, cond, ◌||◌, ◌&&◌, ℕ, ◌+◌, ◌≤◌, ◌<◌, Option, Some, None}
use Rattle.std.proofs.Math.Path.{refl, sym, ap}
use Rattle.std.proofs.Common.{◌∙◌, rules}
use Rattle.std.proofs.Math.Bool.{true}
use Prim.Native.String.{String}
use Rattle.lists.specs.Lists.{any, those, two_of, each, each_in}
use Rattle.lists.proofs.Laws.Lists.{any_in, any_each}
use Rattle.grammar.specs.Bytes.{ascii}
use Rattle.grammar.specs.Document.{Element}
use Rattle.grammar.specs.Look.{is, name_of, children}
use Rattle.numbers.specs.Numbers.{same_key}
use Rattle.nodes.specs.Places.{Stands, the}
use Rattle.nodes.specs.Children.{first_child, next}
use Rattle.nodes.specs.Names.{named}
use Rattle.inside.specs.Walked.{places_from}
use Rattle.inside.proofs.Laws.Walked.{Stood, none, one, children_stood}
use Rattle.inside.specs.Treads.{called}
use Rattle.inside.proofs.Laws.Treads.{ahead, next_ahead, places_done, places_child, called_is, called_alike}
use Rattle.cifti.specs.LabelTable as tables
use Rattle.cifti.specs.LabelTable.{table_keys}
use Rattle.label_table.specs.Labels.{twice_at}
use Rattle.label_table.proofs.Laws.Told.{twice_told}
use Rattle.cifti.specs.Rows.{ElementKind, labels, labelled_map, label_table}
use Rattle.cifti.specs.Maps.{Map, map_of, kind_of_map, is_labels, tables_in, labels_maps}
use Rattle.cifti.specs.Conditions.{key_twice}
use Rattle.maps.specs.Good.{Good}
use Rattle.maps.specs.Survey.{Noted}
use Rattle.maps.specs.Ready.{Ready, maps_at}
use Rattle.maps.specs.Over.{note_at, map_on}
use Rattle.maps.proofs.Laws.Over.{Over, over_start, over_done, over_place, over_note, over_here, over_next}
use Rattle.maps.specs.declared.survey.MapNote.{MapNote}
use Rattle.maps.specs.declared.survey.Maps.{Maps}
use Rattle.map_names.proofs.Laws.Held.{good_labels}
use Rattle.labels.proofs.Laws.Good.{EachGood, no_good, also_good, good_named, good_tables, keys_in_form}
use Rattle.labels.specs.Twice.{children_from, some_child, named_twice, tables_twice, map_twice}

-- a loop that is left at the first that passes
pub record Asking (text word : List ℕ) (p : ℕ → Bool) (at : ℕ) (kid : Option ℕ) : Type 0 where
  pub so_far : some_child text word p at ≡ any p (children_from text word kid)

pub asking_start : (text word : List ℕ) (p : ℕ → Bool) (at : ℕ) {kid : Option ℕ} → kid ≡ first_child text at → Asking text word p at kid
unfolding some_child
asking_start text w p at e = record { so_far = ap (λ k. any p (children_from text w k)) (sym e) }

module _ {text word : List ℕ} {p : ℕ → Bool} {at : ℕ} {kid : Option ℕ} (go : Asking text word p at kid) where
  pub asking_done : kid ≡ None → false ≡ some_child text word p at
  unfolding children_from any those
  asking_done e = sym (go.so_far ∙ ap (λ k. any p (children_from text word k)) e ∙ rw (places_done text) refl)

  module _ {k : ℕ} (is_child : kid ≡ Some k) where
    pub asking_less : {kid₁ : Option ℕ} → kid₁ ≡ next text k → ahead text kid₁ < ahead text kid
    asking_less e = rw (e, is_child) (next_ahead text k)

    module _ {b : Bool} (q : b ≡ named text k word) where
      splits : some_child text word p at ≡ any p (cond b (k ∷ children_from text word (next text k)) (children_from text word (next text k)))
      unfolding children_from those
      splits =
          go.so_far ∙ ap (λ x. any p (those (called text word) x)) (ap (places_from text) is_child ∙ places_child text k)
          ∙ ap (λ t. any p (cond t (k ∷ children_from text word (next text k)) (children_from text word (next text k))))
          (sym (called_is text word k q))

      pub asking_other : b ≡ false → {kid₁ : Option ℕ} → kid₁ ≡ next text k → Asking text word p at kid₁
      asking_other f e = record { so_far = splits ∙ rw (f, e) refl }

      module _ (t : b ≡ true) {c : Bool} (h : c ≡ p k) where
        pub asking_found : c ≡ true → true ≡ some_child text word p at
        unfolding any
        asking_found y = sym (splits ∙ rw (t, sym h ∙ y) refl)

        pub asking_missed : c ≡ false → {kid₁ : Option ℕ} → kid₁ ≡ next text k → Asking text word p at kid₁
        unfolding any
        asking_missed n e = record { so_far = splits ∙ rw (t, sym h ∙ n, e) refl }

pub named_is : (text : List ℕ) (at : ℕ) {b : Bool} → b ≡ some_child text (ascii "LabelTable") (twice_at text) at → b ≡ named_twice text at
unfolding named_twice
named_is text at h = h

pub tables_are : (text : List ℕ) (at : ℕ) {b : Bool} → b ≡ some_child text (ascii "NamedMap") (named_twice text) at → b ≡ tables_twice text at
unfolding tables_twice
tables_are text at h = h

pub ruleset asking = (asking_start, asking_done, asking_less, asking_other, asking_found, asking_missed, named_is, tables_are, rules)

-- ---- Where elements stand.

-- those of a name, among places where elements stand
those_called : (s : String) {text ks : List ℕ} {es : List Element} → Stood text ks es
    → Stood text (those (called text (ascii s)) ks) (those (λ e. is s (name_of e)) es)
unfolding those
those_called s none = none
those_called s {text} (one {k} {ks} {es} st r) = rw (called_alike text s k st) (by (is s (name_of (the text k))) (those_called s r))
  where
    by : (b : Bool) → Stood text (those (called text (ascii s)) ks) (those (λ e. is s (name_of e)) es)
        → Stood text (cond b (k ∷ those (called text (ascii s)) ks) (those (called text (ascii s)) ks))
        (cond b (the text k ∷ those (λ e. is s (name_of e)) es) (those (λ e. is s (name_of e)) es))
    by true h = one st h
    by false h = h

children_are : (s : String) {text : List ℕ} {at : ℕ} → Stands text at
    → Stood text (children_from text (ascii s) (first_child text at)) (children s (the text at))
unfolding children_from children
children_are s st = those_called s (children_stood st)

any_stood : {k : ElementKind} (p : ℕ → Bool) (q : Element → Bool) {text : List ℕ}
    → ((i : ℕ) → Stands text i → Good k (the text i) → p i ≡ q (the text i)) → {ks : List ℕ} {es : List Element} → Stood text ks es
    → EachGood k es → any p ks ≡ any q es
unfolding any
any_stood p q h none no_good = refl
any_stood p q h (one {k = i} {ks} {es} st s) (also_good g m) = rw (h i st g, any_stood p q h s m) refl

table_so : {text : List ℕ} (at : ℕ) → Stands text at → Good label_table (the text at) → twice_at text at ≡ tables.key_twice_in (the text at)
table_so at st g = twice_told st (keys_in_form g)

named_so : {text : List ℕ} (at : ℕ) → Stands text at → Good labelled_map (the text at)
    → named_twice text at ≡ any tables.key_twice_in (children "LabelTable" (the text at))
unfolding named_twice some_child
named_so {text} at st g = any_stood (twice_at text) tables.key_twice_in table_so (children_are "LabelTable" st) (good_tables g)

tables_so : {text : List ℕ} (at : ℕ) → Stands text at → Good labels (the text at)
    → tables_twice text at ≡ any (two_of same_key) (each table_keys (tables_in (the text at)))
unfolding tables_twice some_child tables_in tables.key_twice_in
tables_so {text} at st g =
    any_stood (named_twice text) (λ e. any tables.key_twice_in (children "LabelTable" e)) named_so (children_are "NamedMap" st) (good_named g)
    ∙ sym (any_in tables.key_twice_in (children "LabelTable") (children "NamedMap" (the text at)))
    ∙ sym (any_each table_keys (two_of same_key) (each_in (children "LabelTable") (children "NamedMap" (the text at))))

module _ {text : List ℕ} {n : MapNote} (m : Noted text n) {b : Bool} (e : b ≡ is_labels n.kind) where
  pub map_labels : b ≡ true → {c : Bool} → c ≡ tables_twice text n.at → c ≡ map_twice (map_on text n)
  unfolding map_twice map_of
  map_labels t h =
      let is_labels_lem : is_labels (kind_of_map (the text n.at)) ≡ true = ap is_labels (sym m.kind_is) ∙ sym e ∙ t in
      h ∙ tables_so n.at m.map.stands (good_labels m.map.good is_labels_lem) ∙ sym (rw is_labels_lem refl)

  pub map_other : b ≡ false → false ≡ map_twice (map_on text n)
  unfolding map_twice map_of
  map_other f = sym (rw (← m.kind_is, sym e ∙ f) refl)

pub ruleset mapping = (map_labels, map_other, rules)

-- ---- Map after map.

twice_one : (m : Map) (l : List Map) → key_twice (m ∷ l) ≡ (map_twice m || key_twice l)
unfolding key_twice labels_maps those any map_twice
twice_one m l = go (is_labels m.kind)
  where
    go : (b : Bool) → any (λ x. any (two_of same_key) x.tables) (cond b (m ∷ labels_maps l) (labels_maps l))
        ≡ ((b && any (two_of same_key) m.tables) || any (λ x. any (two_of same_key) x.tables) (labels_maps l))
    go true = refl
    go false = refl

pub record Twice (all l : List Map) : Type 0 where
  pub so_far : key_twice all ≡ key_twice l

pub twice_start : {text : List ℕ} {maps : Maps} → Ready text maps → Over text maps (Twice (maps_at text maps)) 0
twice_start r = over_start r (record { so_far = refl })

module _ {text : List ℕ} {maps : Maps} {i : ℕ} (go : Over text maps (Twice (maps_at text maps)) i) where
  pub twice_done : maps.count ≤ i → false ≡ key_twice (maps_at text maps)
  unfolding key_twice labels_maps those any
  twice_done u = sym (over_done go u).so_far

  module _ (u : i < maps.count) {m : MapNote} (e : m ≡ note_at maps i) {b : Bool} (h : b ≡ map_twice (map_on text m)) where
    pub twice_found : b ≡ true → true ≡ key_twice (maps_at text maps)
    twice_found t = sym ((over_here go u e).so_far ∙ twice_one (map_on text m) _ ∙ rw (sym h ∙ t) refl)

    pub twice_more : b ≡ false → Over text maps (Twice (maps_at text maps)) (i + 1)
    twice_more f = over_next go u e (λ l s. record { so_far = s.so_far ∙ twice_one (map_on text m) l ∙ rw (sym h ∙ f) refl })

pub ruleset twicing = (twice_start, twice_done, over_place, over_note, twice_found, twice_more, rules)
