use Rattle.std.proofs.Common.{ap, ◌∙◌, ℕ, replicate}
use Rattle.compare.proofs.Laws.Answer.{refused_is}
use Rattle.compare.proofs.answer.compare.Goals as goal

pub returns-in-Err : goal.returns-in-Err
returns-in-Err c = record {
  answers = refused_is _ _ _ c.number.ensures c.in-Err.ensures;
  zero = c.clear.ensures ∙ ap (λ (n : ℕ). replicate n 0) c.counted-answer.auto.work;
}
