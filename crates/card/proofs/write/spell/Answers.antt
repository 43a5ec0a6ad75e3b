use Rattle.card.proofs.Laws.Write.{spellSteps}
use Rattle.card.proofs.write.spell.Goals as goal

pub returns-in-Accepted : goal.returns-in-Accepted
returns-in-Accepted c = search spellSteps

pub returns-in-Refused : goal.returns-in-Refused
returns-in-Refused c = search spellSteps

pub returns-in-Map : goal.returns-in-Map
returns-in-Map c = search spellSteps

pub returns-in-MapAt : goal.returns-in-MapAt
returns-in-MapAt c = search spellSteps

pub returns-in-Surface : goal.returns-in-Surface
returns-in-Surface c = search spellSteps

pub returns-in-Voxel : goal.returns-in-Voxel
returns-in-Voxel c = search spellSteps

pub returns-in-End : goal.returns-in-End
returns-in-End c = search spellSteps
