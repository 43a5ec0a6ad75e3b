use Rattle.array_keys.proofs.Laws.Ahead.{choosing}
use Rattle.array_keys.proofs.key_next.Goals as goal

pub returns-in-Big : goal.returns-in-Big
returns-in-Big c = search choosing

pub returns-in-Little : goal.returns-in-Little
returns-in-Little c = search choosing

pub enum_told-1 : goal.enum_told-1
enum_told-1 c = search choosing

pub plain_next-requires : goal.plain_next-requires
plain_next-requires c = search choosing

pub enum_told-in-Big : goal.enum_told-in-Big
enum_told-in-Big c = search choosing

pub coded_next-requires : goal.coded_next-requires
coded_next-requires c = search choosing

pub enum_told-in-Little : goal.enum_told-in-Little
enum_told-in-Little c = search choosing

pub coded_next-requires-in-Little : goal.coded_next-requires-in-Little
coded_next-requires-in-Little c = search choosing

pub returns-in-Plain : goal.returns-in-Plain
returns-in-Plain c = search choosing
