use Rattle.forms.proofs.Laws.Forms.{inside_text}
use Rattle.forms.proofs.are_wholes.Goals as goal

pub returns-in-Some : goal.returns-in-Some
returns-in-Some c = search inside_text

pub returns-in-None : goal.returns-in-None
returns-in-None c = search inside_text

pub text_start-requires : goal.text_start-requires
text_start-requires c = search inside_text

pub enum_known-i : goal.enum_known-i
enum_known-i c = search inside_text

pub wholes_from-requires : goal.wholes_from-requires
wholes_from-requires c = search inside_text

pub enum_told-1 : goal.enum_told-1
enum_told-1 c = search inside_text
