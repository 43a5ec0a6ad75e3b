-- An element that passes 6 and 7 as CIFTI's row of its kind says, with all that is in it.
use Rattle.grammar.specs.Document.{Element}
use Rattle.schema.specs.Good as good
use Rattle.cifti.specs.Rows.{ElementKind, rows}

-- the element, taken for one of the kind, passes both tests at every place
abbrev pub Good : ElementKind → Element → Type 0
Good k e = good.Good rows k e
