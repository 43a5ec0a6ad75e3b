use Rattle.base64_reader.proofs.Laws.Letters.{value_is}
use Rattle.base64_reader.proofs.values.value_of.Goals as goal

pub returns : goal.returns
returns c = value_is c.args.values.now.are_values c.args.b c.ranges.b.fits
