use Rattle.array_keys.specs.Ahead.{keys_left, keys_start}
use Rattle.gifti_arrays.proofs.Laws.Tally.{Counting}
use Rattle.gifti_arrays.proofs.tally.count_rows.Given as goal

abbrev pub invariant-loop-row : goal.invariant-loop-row
invariant-loop-row l =
    Counting l.encoding l.text (keys_start l.text l.from) l.codes l.initial.row l.row l.keys l.known l.place

abbrev pub decreases-loop-row : goal.decreases-loop-row
decreases-loop-row l = keys_left l.text l.place
