use Rattle.forms.proofs.Laws.Passed.{listing}
use Rattle.forms.proofs.wholes_from.Goals as goal

pub returns-then-most-n : goal.returns-then-most-n
returns-then-most-n c = search listing

pub loop-n-smaller : goal.loop-n-smaller
loop-n-smaller c = search listing

pub loop-n-preserved : goal.loop-n-preserved
loop-n-preserved c = search listing

pub returns-in-End : goal.returns-in-End
returns-in-End c = search listing

pub returns-in-Bad : goal.returns-in-Bad
returns-in-Bad c = search listing

pub loop-n-init : goal.loop-n-init
loop-n-init c = search listing

pub plain_wholes-from-requires : goal.plain_wholes-from-requires
plain_wholes-from-requires c = search listing

pub any_number-requires : goal.any_number-requires
any_number-requires c = search listing

pub enum_known-n : goal.enum_known-n
enum_known-n c = search listing

pub enum_told-1 : goal.enum_told-1
enum_told-1 c = search listing

pub enum_told-in-Bad : goal.enum_told-in-Bad
enum_told-in-Bad c = search listing
