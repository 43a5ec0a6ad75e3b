-- THE STRETCH OF ONE MAP, where it has one: written from a place on.
use Rattle.std.specs.Prelude.{◌≡◌, List, [], cond, ℕ, ◌+◌, ◌≤◌, length}
use Rattle.records.specs.Fill.{wrote}
use Rattle.cifti.specs.Maps.{Map, is_brain}
use Rattle.cifti.specs.Answer.{stretch}
use Rattle.maps.specs.Survey.{Noted}
use Rattle.maps.specs.declared.survey.MapNote.{MapNote}
use Rattle.models.specs.Fine.{FineMap}
use Rattle.models.specs.Judged.{HeldFor}
use Rattle.models.specs.declared.gather.Models.{Models}
use Rattle.table.specs.Ready.{map_at}

-- ---- The stretches, map after map: that of a brain map, none of another.

unfoldable pub stretch_of : Map → List ℕ
stretch_of m = cond (is_brain m.kind) (stretch m) []

-- ---- One map, as it is noted and its models are held: fine, and its stretch has room from `start` on.

pub record Writable (text : List ℕ) (n : MapNote) (m : Models) (room start : ℕ) : Type 0 where
  pub noted : Noted text n
  pub fine : FineMap (map_at text n.at)
  pub held : HeldFor text n m
  pub enough : start + length (stretch_of (map_at text n.at)) ≤ room

-- the stretch is written from `start` on, and where it ends is told
pub record Written (text : List ℕ) (map : ℕ) (before : List ℕ) (start next : ℕ) (after : List ℕ) : Type 0 where
  pub written : after ≡ wrote start (stretch_of (map_at text map)) before
  pub ends : next ≡ start + length (stretch_of (map_at text map))
