use Rattle.std.proofs.Common.{take, drop, reverse, ap, ◌∙◌, arith}
use Rattle.nifti.specs.Fields.{ordered}
use Rattle.front.proofs.fields.ordered.Goals as goal

pub returns-in-MostFirst : goal.returns-in-MostFirst
unfolding ordered
returns-in-MostFirst g c = rw c.in-MostFirst.is
    (c.copy_from_slice.ensures.after ∙ ap (λ n. take n (drop c.args.at c.args.file.now)) (omega arith))

pub returns-in-LeastFirst : goal.returns-in-LeastFirst
unfolding ordered
returns-in-LeastFirst g c = rw c.in-LeastFirst.is
    (c.reverse.ensures.after
    ∙ ap reverse (c.copy_from_slice.ensures.after ∙ ap (λ n. take n (drop c.args.at c.args.file.now)) (omega arith)))
