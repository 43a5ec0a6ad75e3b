-- Condition 5 by levels: the root stands two levels above the maps, a matrix one.
use Rattle.std.specs.Prelude.{Bool, ℕ, zero, suc}
use Prim.Native.String.{String}
use Rattle.lists.specs.Lists.{any}
use Rattle.grammar.specs.Document.{Element}
use Rattle.grammar.specs.Look.{children}
use Rattle.maps.specs.Unread.{not_read}

-- the name of an element that stands so many levels above maps, below the root
unfoldable pub level_name : ℕ → String
level_name zero = "MatrixIndicesMap"
level_name (suc n) = "Matrix"

-- a map so many levels below the element is not read
unfoldable pub level_not_read : ℕ → Element → Bool
level_not_read zero e = not_read e
level_not_read (suc n) e = any (level_not_read n) (children (level_name n) e)
