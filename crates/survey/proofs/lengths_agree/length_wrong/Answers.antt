use Rattle.maps.proofs.Laws.LengthsAgree.{agreeing}
use Rattle.survey.proofs.lengths_agree.length_wrong.Goals as goal

pub loop-i-init : goal.loop-i-init
loop-i-init c = search agreeing

pub length_differs-requires : goal.length_differs-requires
length_differs-requires c = search agreeing

pub returns-then-length_differs : goal.returns-then-length_differs
returns-then-length_differs c = search agreeing

pub loop-i-preserved : goal.loop-i-preserved
loop-i-preserved c = search agreeing

pub returns : goal.returns
returns c = search agreeing

pub nth-note-requires : goal.nth-note-requires
nth-note-requires c = search agreeing

pub loop-i-smaller : goal.loop-i-smaller
loop-i-smaller c = search agreeing
