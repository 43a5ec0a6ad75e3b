-- CONDITIONS 4 AND 29, as the code asks them.
use Rattle.std.specs.Prelude.{Bool, not}
use Rattle.grammar.specs.Document.{Element}
use Rattle.gifti.specs.Conditions.{array_read}

-- ---- Condition 29, of an array.

unfoldable pub unread : Element → Bool
unread a = not (array_read a)
