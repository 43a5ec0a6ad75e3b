-- THE MODELS OF A MAP, GATHERED: what the struct `Models` holds of a text.
use Rattle.std.specs.Prelude.{◌≡◌, List, false, ℕ, ◌+◌, ◌<◌, ◌≤◌, length, get_or, take, set}
use Rattle.lists.specs.Lists.{each, two_of}
use Rattle.grammar.specs.Bytes.{ascii}
use Rattle.grammar.specs.Document.{Element}
use Rattle.grammar.specs.Look.{children}
use Rattle.nodes.specs.Places.{the}
use Rattle.cifti.specs.Maps.{model_of, map_of}
use Rattle.cifti.specs.Conditions.{alike}
use Rattle.maps.specs.Fields.{attribute_word, number_seen}
use Rattle.models.specs.Kind.{type_and_structure, ModelAt}
use Rattle.models.specs.declared.gather.Models.{Models}

-- one of them: where it begins, its offset, its length, its kind
pub record Holds (text : List ℕ) (at offset size kind : ℕ) : Type 0 where
  pub model : ModelAt text at
  pub offset_is : offset ≡ (model_of (the text at)).offset
  pub length_is : size ≡ (model_of (the text at)).count
  pub kind_is : kind ≡ type_and_structure (model_of (the text at))

-- the i-th of those that are gathered
abbrev pub HoldsAt : List ℕ → Models → ℕ → Type 0
HoldsAt text m i = Holds text (get_or m.at i 0) (get_or m.offset i 0) (get_or m.length i 0) (get_or m.kind i 0)

-- the elements that are gathered
unfoldable pub gathered : List ℕ → Models → List Element
gathered text m = each (the text) (take m.count m.at)

pub record Sized (m : Models) : Type 0 where
  pub few : m.count ≤ 64
  pub at_64 : length m.at ≡ 64
  pub offset_64 : length m.offset ≡ 64
  pub length_64 : length m.length ≡ 64
  pub kind_64 : length m.kind ≡ 64

-- all models of the map, in order
pub record Gathered (text : List ℕ) (map : ℕ) (m : Models) : Type 0 where
  pub sized : Sized m
  pub holds : (i : ℕ) → i < m.count → HoldsAt text m i
  pub all_of_them : gathered text m ≡ children "BrainModel" (the text map)

-- whether two share type and structure, and where none do all models
pub record Gathers (text : List ℕ) (map : ℕ) (m : Models) : Type 0 where
  pub shared_is : m.shared ≡ two_of alike (map_of (the text map)).models
  pub holding : m.shared ≡ false → Gathered text map m

-- one model more
pub record ModelRoom (text : List ℕ) (at : ℕ) (m : Models) : Type 0 where
  pub model : ModelAt text at
  pub sized : Sized m
  pub left : m.count < 64

abbrev pub offset_seen : List ℕ → ℕ → ℕ
offset_seen text at = number_seen 0 1048576 (attribute_word (ascii "IndexOffset") (the text at))

abbrev pub length_seen : List ℕ → ℕ → ℕ
length_seen text at = number_seen 1 1048576 (attribute_word (ascii "IndexCount") (the text at))

abbrev pub with_model : Models → (at offset size kind : ℕ) → Models
with_model m at offset size kind = record {
  count = m.count + 1;
  shared = m.shared;
  at = set m.at m.count at;
  offset = set m.offset m.count offset;
  length = set m.length m.count size;
  kind = set m.kind m.count kind;
}
