use Rattle.std.proofs.Common.{sym, ap, ◌∙◌, ℕ, replicate}
use Rattle.comparison.proofs.Laws.Part.{place_refused}
use Rattle.compare.proofs.Laws.Rows.{refused}
use Rattle.compare.proofs.answer.tail_place.Goals as goal

pub returns-in-Err : goal.returns-in-Err
returns-in-Err c = record {
  answers = place_refused _ _ _ (c.number.ensures ∙ c.in-Err.ensures) (λ z. refused c.in-Err.refusal (sym c.number.ensures ∙ z));
  zero = c.clear.ensures ∙ ap (λ (n : ℕ). replicate n 0) c.accepted-answer.auto.work;
}
