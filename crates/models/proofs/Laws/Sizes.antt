-- The sizes of a map's volume: those of its first Volume.
use Rattle.std.specs.Prelude.{◌≡◌, refl, Bool, false, cond, ℕ, get_or, Option, Some, None}
use Rattle.std.proofs.Math.Path.{sym, ap}
use Rattle.std.proofs.Common.{◌∙◌, arith, rules}
use mathlib.Core.List.{List, [], ◌∷◌, ◌++◌}
use Rattle.std.proofs.Math.Bool.{true}
use Rattle.std.proofs.lemmas.Bool.{false≢true}
use Rattle.lists.specs.Lists.{those, each, each_in}
use Rattle.grammar.specs.Bytes.{ascii}
use Rattle.grammar.specs.Document.{Element}
use Rattle.grammar.specs.Look.{Word, is, name_of, contents_of, attr, elements, children}
use Rattle.numbers.specs.Numbers.{whole, value, three, parts, comma, volume_dimensions, comma_values}
use Rattle.nodes.specs.Places.{Stands, the}
use Rattle.nodes.specs.Attributes.{place}
use Rattle.nodes.specs.Values.{value_there}
use Rattle.cifti.specs.Words.{most_length}
use Rattle.cifti.specs.Rows.{volume}
use Rattle.cifti.specs.Maps.{Voxel, voxel, sizes_by, sizes_of, map_of}
use Rattle.maps.proofs.Laws.Good.{AllGood, none_left, one_good}
use Rattle.maps.specs.Good.{Good}
use Rattle.maps.proofs.Laws.Kinds.{brain_rows, brain_children, good_volume, volume_sizes}
use Rattle.maps.specs.Sums.{is_volume}
use Rattle.maps.specs.declared.survey.Seen.{Seen}
use Rattle.maps.proofs.Laws.Fields.{word_at, found_value, found_none}
use Rattle.numbers.specs.Answers.{three_in, lengths_of}
use Rattle.numbers.specs.declared.Lengths.{Lengths}
use Rattle.models.specs.Sizes.{VolumeNoted, VolumeAt, sizes_at}

-- ---- Three numbers with commas.

pub record Sizing (l : List ℕ) : Type 0 where
  pub i : ℕ
  pub j : ℕ
  pub k : ℕ
  pub are : l ≡ i ∷ j ∷ k ∷ []

three_values : (p q r : Word → Bool) (l : List Word) → three p q r l ≡ true → Sizing (each value l)
unfolding three each
three_values p q r [] h = absurd (false≢true h)
three_values p q r (a ∷ []) h = absurd (false≢true h)
three_values p q r (a ∷ b ∷ []) h = absurd (false≢true h)
three_values p q r (a ∷ b ∷ c ∷ []) h = record { i = value a; j = value b; k = value c; are = refl }
three_values p q r (a ∷ b ∷ c ∷ d ∷ l) h = absurd (false≢true h)

dimensions_are : (w : Word) → volume_dimensions most_length most_length most_length w ≡ true → Sizing (comma_values w)
unfolding volume_dimensions comma_values
dimensions_are w h = three_values (whole 1 most_length) (whole 1 most_length) (whole 1 most_length) (parts comma w) h

in_form_lem : {e : Element} → Good volume e → Sizing (sizes_at e)
unfolding sizes_at
in_form_lem {e} g = dimensions_are (attr "VolumeDimensions" e) (volume_sizes g)

sizes_first : (l m : List ℕ) → Sizing l → sizes_by (l ++ m) ≡ sizes_by l
unfolding sizes_by
sizes_first l m s = rw s.are

sizes_three : (l : List ℕ) → Sizing l → sizes_by l ≡ voxel (get_or l 0 0) (get_or l 1 0) (get_or l 2 0)
unfolding sizes_by
sizes_three l s = rw s.are

-- ---- The Volume at a place.

module _ {text : List ℕ} {at : ℕ} (v : VolumeAt text at) {f : Option ℕ} (e : f ≡ place text at (ascii "VolumeDimensions")) where
  pub sizes_stands : Stands text at
  sizes_stands = v.stands

  module _ {x : ℕ} (q : f ≡ Some x) {a : Option Lengths} (y : a ≡ three_in most_length most_length most_length (value_there text x)) where
    word : value_there text x ≡ attr "VolumeDimensions" (the text at)
    word = found_value (ascii "VolumeDimensions") v.stands e q ∙ word_at "VolumeDimensions" (the text at)

    answered : a ≡ Some (lengths_of (sizes_at (the text at)))
    unfolding three_in sizes_at
    answered = y ∙ ap (three_in most_length most_length most_length) word ∙ rw (volume_sizes v.good)

    pub sizes_there : {l : Lengths} → a ≡ Some l → voxel l.i l.j l.k ≡ sizes_by (sizes_at (the text at))
    unfolding lengths_of
    sizes_there {l} z =
        let s : l ≡ lengths_of (sizes_at (the text at)) =
        (let w : Some l ≡ Some (lengths_of (sizes_at (the text at))) = sym z ∙ answered in cc) in
        ap (λ m. voxel m.i m.j m.k) s ∙ sym (sizes_three (sizes_at (the text at)) (in_form_lem v.good))

    pub sizes_not : a ≡ None → voxel 0 0 0 ≡ sizes_by (sizes_at (the text at))
    sizes_not z = absurd (let w : ◌≡◌ {A = (Option Lengths)} None (Some (lengths_of (sizes_at (the text at)))) = sym z ∙ answered in
        let o : ◌≡◌ {A = ℕ} 0 1 = cc in omega arith)

  pub sizes_missing : f ≡ None → voxel 0 0 0 ≡ sizes_by (sizes_at (the text at))
  unfolding volume_dimensions parts three
  sizes_missing q =
      let w : attr "VolumeDimensions" (the text at) ≡ [] = sym (word_at "VolumeDimensions" (the text at))
      ∙ found_none (ascii "VolumeDimensions") v.stands e q in
      let h : volume_dimensions most_length most_length most_length [] ≡ true = rw w at (volume_sizes v.good) in
      absurd (false≢true h)

pub ruleset sizing = (sizes_stands, sizes_there, sizes_not, sizes_missing, rules)

-- ---- The first of the map's children that is one, as it is noted.

first_good : (l : List Element) → AllGood brain_rows l → (e : Element) (r : List Element) → those is_volume l ≡ e ∷ r → Good volume e
unfolding those is_volume
first_good [] none_left e r h = absurd (let z : ◌≡◌ {A = ℕ} 0 1 = cc in omega arith)
first_good (d ∷ l) (one_good g m) e r h = go (is "Volume" (name_of d)) refl h (first_good l m e r)
  where
    go : (b : Bool) → is "Volume" (name_of d) ≡ b
        → cond b (d ∷ those (λ x. is "Volume" (name_of x)) l) (those (λ x. is "Volume" (name_of x)) l) ≡ e ∷ r
        → (those (λ x. is "Volume" (name_of x)) l ≡ e ∷ r → Good volume e) → Good volume e
    go true q k ih = let z : d ≡ e = cc in rw (← z) (good_volume d g q)
    go false q k ih = ih k

volumes_are : (e : Element) → (map_of e).volume ≡ sizes_by (each_in sizes_at (those is_volume (elements (contents_of e))))
unfolding map_of sizes_of sizes_at children is_volume
volumes_are e = refl

module _ {text : List ℕ} {map : ℕ} {s : Seen} (n : VolumeNoted text map s) where
  pub volume_none : s.found ≡ false → voxel 0 0 0 ≡ (map_of (the text map)).volume
  unfolding those each_in sizes_by
  volume_none f = sym (volumes_are (the text map) ∙ ap (λ l. sizes_by (each_in sizes_at l)) (n.seen.none f))

  module _ (t : s.found ≡ true) where
    pub volume_there : VolumeAt text s.at
    volume_there = record {
      stands = n.seen.stands t;
      good = first_good (elements (contents_of (the text map))) (brain_children n.brain.good) (the text s.at) n.seen.rest
          (n.seen.first t);
    }

    pub volume_found : {v : Voxel} → v ≡ sizes_by (sizes_at (the text s.at)) → v ≡ (map_of (the text map)).volume
    unfolding each_in
    volume_found h =
        h ∙ sym (volumes_are (the text map) ∙ ap (λ l. sizes_by (each_in sizes_at l)) (n.seen.first t)
        ∙ sizes_first (sizes_at (the text s.at)) (each_in sizes_at n.seen.rest) (in_form_lem volume_there.good))

pub ruleset volumes = (volume_none, volume_there, volume_found, rules)
