-- MAPS TO WHICH 10, 11 AND 12 DO NOT APPLY.
use Rattle.std.specs.Prelude.{◌≡◌, List, true, false}
use Rattle.lists.specs.Lists.{any, two_of}
use Rattle.cifti.specs.Maps.{Map, is_brain}
use Rattle.cifti.specs.Conditions.{alike, uneven, beyond, models_share, ranges_wrong, numbers_outside}

pub record Fine (l : List Map) : Type 0 where
  pub share : models_share l ≡ false
  pub ranges : ranges_wrong l ≡ false
  pub inside : numbers_outside l ≡ false

pub record FineMap (m : Map) : Type 0 where
  pub apart : two_of alike m.models ≡ false
  pub even : is_brain m.kind ≡ true → uneven m ≡ false
  pub in_volume_lem : any (λ b. beyond m.volume b.listed) m.models ≡ false
