-- HOW MUCH TEXT THE LISTER TAKES.
use Rattle.std.specs.Prelude.{ℕ}

-- at most so many bytes of text; the buffer has room for all of them
abbrev pub most_text : ℕ
most_text = 32768
