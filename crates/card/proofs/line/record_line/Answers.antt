use Rattle.card.proofs.Laws.Line.{voxel_line, surface_line}
use Rattle.card.proofs.line.record_line.Goals as goal

pub returns-then-is_voxel : goal.returns-then-is_voxel
returns-then-is_voxel c = search voxel_line

pub returns : goal.returns
returns c = search surface_line
