use Rattle.nodes.proofs.Laws.Values.{decode_past, decode_quote, decode_ampersand_or, decode_return, decode_blank, decode_plain}
use Rattle.inside.proofs.values.any_decoded.Goals as goal

pub returns-then-text-at : goal.returns-then-text-at
returns-then-text-at c = decode_past _ _ _ c.if-text-at.true

pub returns-then-b-quote : goal.returns-then-b-quote
returns-then-b-quote c = decode_quote _ _ _ c.if-text-at.false c.if-b-quote.true

pub returns-then-b-eq38 : goal.returns-then-b-eq38
returns-then-b-eq38 c = decode_ampersand_or _ _ _ c.if-text-at.false c.if-b-quote.false c.if-b-eq38.true c.reference_at.ensures c.unwrap_or.ensures

pub returns-then-b-eq13 : goal.returns-then-b-eq13
returns-then-b-eq13 c = decode_return _ _ _ c.if-text-at.false c.if-b-quote.false c.if-b-eq13.true c.feed_end.ensures

pub returns-then-is_blank : goal.returns-then-is_blank
returns-then-is_blank c = decode_blank _ _ _ c.if-text-at.false c.if-b-quote.false c.if-b-eq38.false c.if-b-eq13.false c.is_blank.ensures c.if-is_blank.true

pub returns : goal.returns
returns c = decode_plain _ _ _ c.if-text-at.false c.if-b-quote.false c.if-b-eq38.false c.if-b-eq13.false c.is_blank.ensures c.if-is_blank.false
