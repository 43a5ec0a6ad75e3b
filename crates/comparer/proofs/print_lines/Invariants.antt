use Rattle.std.proofs.Common.{◌≡◌, ◌+◌, ◌-◌, ◌≤◌, length}
use Rattle.std.specs.Io.KnownBytes.{Appends}
use Rattle.comparer.proofs.Laws.Lines.{bytes_below, lines_below}
use Rattle.comparer.proofs.print_lines.Given as goal

abbrev pub invariant-loop-n : goal.invariant-loop-n
invariant-loop-n g l = record {
  within : l.n ≤ l.count;
  counted : l.count ≡ length l.first + length l.second;
  few : l.count ≤ 13104;
  told : l.written ≡ bytes_below l.first l.second l.n;
  printed : Appends (g.W.Write.contents l.initial.to) (g.W.Write.contents l.to) (lines_below l.first l.second l.n);
}

abbrev pub decreases-loop-n : goal.decreases-loop-n
decreases-loop-n g l = l.count - l.n
