-- THE LENGTH OF A MAP: a sum over its children.
use Rattle.std.specs.Prelude.{◌≡◌, List, [], ◌∷◌, Bool, true, false, cond, ℕ, ◌-◌, ◌≤◌, length, drop}
use Prim.Native.String.{String}
use Rattle.lists.specs.Lists.{all, total, those}
use Rattle.grammar.specs.Bytes.{ascii}
use Rattle.grammar.specs.Document.{Element}
use Rattle.grammar.specs.Look.{is, name_of, contents_of, elements}
use Rattle.nodes.specs.Places.{Stands, the}
use Rattle.nodes.specs.ElementEnd.{Behind}
use Rattle.nodes.specs.Ahead.{ahead_at}
use Rattle.nodes.specs.declared.ahead.Ahead.{Ahead}
use Rattle.nodes.specs.declared.ahead.Ahead.TheVariants as ahead-is
use Rattle.cifti.specs.Maps.{map_of, is_brain, counted_name, kind_of_map}
use Rattle.cifti.specs.Maps.{length_of}
use Rattle.cifti.specs.declared.answer.Kind.{Kind}
use Rattle.maps.specs.MapKind.{GoodMap}
use Rattle.maps.specs.Fields.{attribute_word, number_seen}
use Rattle.maps.specs.declared.survey.Measure.{Measure}
use Rattle.maps.specs.declared.survey.Seen.{Seen}

-- what a child adds to the length of its map
unfoldable pub weigh : String → (brain : Bool) → Element → ℕ
weigh s b e = cond (is s (name_of e)) (cond b (number_seen 1 1048576 (attribute_word (ascii "IndexCount") e)) 1) 0

unfoldable pub weight_of : Kind → Element → ℕ
weight_of k e = weigh (counted_name k) (is_brain k) e

pub record Weighed (k : Kind) (e : Element) (n : ℕ) : Type 0 where
  pub weighs : n ≡ weight_of k e
  pub most : n ≤ 1048576

-- ---- The Volume: the first of the children that is one.

unfoldable pub is_volume : Element → Bool
is_volume e = is "Volume" (name_of e)

-- of all, where those of the list are left
pub record VolumeLeft (text : List ℕ) (all l : List Element) (s : Seen) : Type 0 where
  pub none : s.found ≡ false → those is_volume all ≡ those is_volume l
  pub stands : s.found ≡ true → Stands text s.at
  pub rest : List Element
  pub first : s.found ≡ true → those is_volume all ≡ the text s.at ∷ rest

-- one child more, of a brain map
pub record VolumeMet (kind : Kind) (text : List ℕ) (k : ℕ) (before after : Seen) : Type 0 where
  pub met : is_brain kind ≡ true → (all l : List Element) → VolumeLeft text all (the text k ∷ l) before → VolumeLeft text all l after

-- ---- The sum.

pub record InShort (text : List ℕ) (at : ℕ) : Type 0 where
  pub stands : Stands text at
  pub short : length text ≤ 16777216

-- what stands ahead where the element at k ends
abbrev pub AheadBehind : List ℕ → ℕ → Ahead → Type 0
AheadBehind text k a = (j : ℕ) → Behind text k j → a ≡ ahead_at true (length text) (drop j text)

-- the sum over the children of the element at a place, and where it ends
pub record Summed (text : List ℕ) (at : ℕ) (kind : Kind) (r : Measure) : Type 0 where
  pub sum : r.length ≡ total (weight_of kind) (elements (contents_of (the text at)))
  pub most : r.length ≤ 17592186044416
  pub volume : is_brain kind ≡ true → VolumeLeft text (elements (contents_of (the text at))) [] r.volume
  pub ends : Behind text at r.behind

-- ---- What the sum is.

pub record MapAt (text : List ℕ) (at : ℕ) : Type 0 where
  pub stands : Stands text at
  pub good : GoodMap (the text at)
  pub short : length text ≤ 16777216

-- the same, of this kind
pub record KindAt (text : List ℕ) (at : ℕ) (kind : Kind) : Type 0 where
  pub map : MapAt text at
  pub kind_is : kind ≡ kind_of_map (the text at)

-- the length of the map at a place, and where it ends
pub record Spanned (text : List ℕ) (at : ℕ) (kind : Kind) (r : Measure) : Type 0 where
  pub long : r.length ≡ length_of (map_of (the text at))
  pub volume : is_brain kind ≡ true → VolumeLeft text (elements (contents_of (the text at))) [] r.volume
  pub most : r.length ≤ 17592186044416
  pub ends : Behind text at r.behind
