use Rattle.number_values.proofs.Laws.Dimensions.{digit_comma}
use Rattle.number_values.proofs.dimension_at.Goals as goal

pub returns-then-is_ascii_digit : goal.returns-then-is_ascii_digit
returns-then-is_ascii_digit c =
    digit_comma c.args.quote c.args.text.now c.args.at (rw c.saturating_sub.ensures at c.if-saturating_sub-ge2.true) c.if-quote-lt44.true
    c.if-text-at-eq44.true c.is_ascii_digit.ensures.value c.if-is_ascii_digit.true c.from.ensures
