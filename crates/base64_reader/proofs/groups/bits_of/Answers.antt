use Rattle.base64_reader.proofs.Laws.Groups.{bits}
use Rattle.base64_reader.proofs.groups.bits_of.Goals as goal

pub returns-then-p-q : goal.returns-then-p-q
returns-then-p-q c = search bits

pub returns : goal.returns
returns c = search bits
