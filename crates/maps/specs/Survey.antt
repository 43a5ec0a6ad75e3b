-- WHAT IS NOTED OF THE MAPS OF A MATRIX: how many there are, told up to four, and of the first three where each begins, its end, kind,
-- dimensions and length.
use Rattle.std.specs.Prelude.{◌≡◌, List, [], ◌∷◌, ◌++◌, Bool, true, ℕ, ◌+◌, ◌≤◌, ◌<◌, min, length, get_or}
use Rattle.lists.specs.Lists.{each}
use Rattle.grammar.specs.Look.{contents_of, elements, children}
use Rattle.nodes.specs.Places.{Stands, the}
use Rattle.cifti.specs.Rows as kinds
use Rattle.cifti.specs.Maps.{map_of, length_of, is_brain, kind_of_map, dimensions_of}
use Rattle.maps.specs.Good.{Good}
use Rattle.nodes.specs.ElementEnd.{Behind}
use Rattle.maps.specs.Sums.{MapAt, VolumeLeft}
use Rattle.maps.specs.Digits.{CountsNumbers}
use Rattle.maps.specs.declared.survey.MapNote.{MapNote}
use Rattle.maps.specs.declared.survey.Maps.{Maps}

-- WHAT IS NOTED OF A MAP, in a text
pub record Noted (text : List ℕ) (n : MapNote) : Type 0 where
  pub map : MapAt text n.at
  pub ends : Behind text n.at n.behind
  pub kind_is : n.kind ≡ kind_of_map (the text n.at)
  pub lists : CountsNumbers (dimensions_of (the text n.at)) n.lists
  pub long : n.length ≡ length_of (map_of (the text n.at))
  pub most : n.length ≤ 17592186044416
  pub volume : is_brain n.kind ≡ true → VolumeLeft text (elements (contents_of (the text n.at))) [] n.volume

-- the same of the map at k where it is wanted; else only where it ends
pub record NotedIf (wanted : Bool) (text : List ℕ) (k : ℕ) (n : MapNote) : Type 0 where
  pub place : n.at ≡ k
  pub ends : Behind text k n.behind
  pub noted : wanted ≡ true → Noted text n

-- ---- Of the first three.

-- the maps at the places l, as far as they are kept
pub record MapsKept (text l : List ℕ) (r : Maps) : Type 0 where
  pub many : r.count ≡ min 4 (length l)
  pub three : length r.each ≡ 3
  pub place : (z : MapNote) (i : ℕ) → i < 3 → i < length l → (get_or r.each i z).at ≡ get_or l i 0
  pub noted : (z : MapNote) (i : ℕ) → i < 3 → i < length l → Noted text (get_or r.each i z)

-- with this one more, whatever maps are kept
abbrev pub NotedWith : MapNote → Maps → Maps → Type 0
NotedWith n before after = (text l : List ℕ) → (before.count < 3 → Noted text n) → MapsKept text l before
    → MapsKept text (l ++ (n.at ∷ [])) after

-- ---- The walk over the children.

-- an element stands at each of the places
pub data AllStand (text : List ℕ) : List ℕ → Type 0 where
  none_stands : AllStand text []
  one_stands : {k : ℕ} {l : List ℕ} → Stands text k → AllStand text l → AllStand text (k ∷ l)

-- a good matrix stands there, in a text that is not too long
pub record MatrixAt (text : List ℕ) (at : ℕ) : Type 0 where
  pub stands : Stands text at
  pub good : Good kinds.matrix (the text at)
  pub short : length text ≤ 16777216

pub record MapsAre (text : List ℕ) (matrix : ℕ) (r : Maps) : Type 0 where
  pub met : List ℕ
  pub holds : MapsKept text met r
  pub stand : AllStand text met
  pub are : children "MatrixIndicesMap" (the text matrix) ≡ each (the text) met

-- none is noted
pub record NoneYet (r : Maps) : Type 0 where
  pub three : length r.each ≡ 3
  pub none : r.count ≡ 0
