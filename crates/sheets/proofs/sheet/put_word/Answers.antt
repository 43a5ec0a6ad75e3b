use native.Mathlib.Numerals.{add-one, add-two, add-three, add-four, add_five, add_six}
use lib.Seq.{sets-eq}
use mathlib.Core.List.{[], ◌∷◌}
use Prim.Native.Nat.{◌/◌, ◌%◌}
use Rattle.records.proofs.Laws.Computed.{word_bytes}
use Rattle.sheets.proofs.sheet.put_word.Goals as goal

pub returns : goal.returns
returns c = let r = c.args.word in rw (word_bytes, add-one, add-two, add-three, add-four, add_five, add_six)
    (sets-eq
    (r / 281474976710656 % 256 ∷ r / 1099511627776 % 256 ∷ r / 4294967296 % 256 ∷ r / 16777216 % 256 ∷ r / 65536 % 256 ∷ r / 256 % 256
    ∷ r % 256 ∷ [])
    c.args.sheet.now c.args.at c.requires)
