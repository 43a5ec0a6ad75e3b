use Rattle.array_keys.proofs.Laws.Gathered.{keeping}
use Rattle.array_keys.proofs.coded.kept_bytes.Goals as goal

pub returns-then-bytes-lt4 : goal.returns-then-bytes-lt4
returns-then-bytes-lt4 c = search keeping

pub returns-else-bytes-lt4 : goal.returns-else-bytes-lt4
returns-else-bytes-lt4 c = search keeping
