use Rattle.base64_reader.proofs.Laws.Groups.{spare}
use Rattle.base64_reader.proofs.groups.two_bytes.Goals as goal

pub returns-then-bits-ne0 : goal.returns-then-bits-ne0
returns-then-bits-ne0 c = search spare

pub returns : goal.returns
returns c = search spare
