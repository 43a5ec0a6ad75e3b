use Rattle.std.proofs.Common.{rules, tests}
use Rattle.nifti.specs.File.{no_front}
use Rattle.front.proofs.header.Header.of.Goals as goal

pub returns-then-file-lt-LIST : goal.returns-then-file-lt-LIST
unfolding no_front
returns-then-file-lt-LIST c = search (tests, rules)

pub returns-then-not-front_stands : goal.returns-then-not-front_stands
unfolding no_front
returns-then-not-front_stands c = search (tests, rules)
