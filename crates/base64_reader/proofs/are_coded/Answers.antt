use Rattle.base64_reader.proofs.Laws.Texts.{coded_texts, coded_there}
use Rattle.base64_reader.proofs.are_coded.Goals as goal

pub text_start-requires : goal.text_start-requires
text_start-requires c = search coded_texts

pub enum_known-i : goal.enum_known-i
enum_known-i c = search coded_texts

pub coded_from-requires : goal.coded_from-requires
coded_from-requires c = search coded_texts

pub enum_told-1 : goal.enum_told-1
enum_told-1 c = search coded_texts

pub returns-in-Some : goal.returns-in-Some
returns-in-Some c = coded_there _ _ c.text_start.ensures c.in-Some.is
    c.coded_from.ensures

pub returns-in-None : goal.returns-in-None
returns-in-None c = search coded_texts
