use Rattle.forms.proofs.Laws.Forms.{inside_text}
use Rattle.forms.proofs.are_sixteen.Goals as goal

pub returns-in-Some : goal.returns-in-Some
returns-in-Some c = search inside_text

pub returns-in-None : goal.returns-in-None
returns-in-None c = search inside_text
