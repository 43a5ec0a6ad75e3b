-- CDATA with blanks alone.
use Rattle.std.specs.Prelude.{List, ℕ}
use Rattle.grammar.specs.Bytes.{ascii, blank}
use Rattle.grammar.specs.Read.{Read, Reader, bind, mark, span}

-- behind the mark
unfoldable pub blanks_at : List ℕ → Read (Unit {0})
blanks_at s = bind (span blank s) (λ _ r. mark (ascii "]]>") r)

unfoldable pub blank_data_at : Reader (Unit {0})
blank_data_at s = bind (mark (ascii "<![CDATA[") s) (λ _ r. blanks_at r)
