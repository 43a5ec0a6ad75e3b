use Rattle.std.proofs.Common.{◌-◌, ◌≡◌, ◌≤◌, take}
use Rattle.std.specs.Io.KnownBytes.{Appends}
use Rattle.lists.specs.Lists.{each_in}
use Rattle.card.specs.Card.{card, card_lines}
use Rattle.card.specs.Written.{line_bytes}
use Rattle.lister.proofs.print_card.Given as goal

abbrev pub invariant-loop-n : goal.invariant-loop-n
invariant-loop-n g l = record {
  within : l.n ≤ l.count;
  counted : l.count ≡ card_lines l.answer l.records;
  printed : Appends (g.W.Write.contents l.initial.to) (g.W.Write.contents l.to) (each_in line_bytes (take l.n (card l.answer l.records)));
}

abbrev pub decreases-loop-n : goal.decreases-loop-n
decreases-loop-n g l = l.count - l.n
