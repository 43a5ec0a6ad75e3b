use Rattle.nodes.proofs.Laws.Signs.{signing}
use Rattle.elements.proofs.scan.sign_at.Goals as goal

pub returns-in-Close : goal.returns-in-Close
returns-in-Close c = search signing

pub returns-in-Open : goal.returns-in-Open
returns-in-Open c = search signing

pub returns-in-Bare : goal.returns-in-Bare
returns-in-Bare c = search signing

pub returns-in-Text : goal.returns-in-Text
returns-in-Text c = search signing

pub returns-in_err-comment_end-in-Comment : goal.returns-in_err-comment_end-in-Comment
returns-in_err-comment_end-in-Comment c = search signing

pub returns-in_err-data_end-in-Data : goal.returns-in_err-data_end-in-Data
returns-in_err-data_end-in-Data c = search signing

pub returns-in_err-j-in-Start : goal.returns-in_err-j-in-Start
returns-in_err-j-in-Start c = search signing

pub returns-in_ok-comment_end-in-Comment : goal.returns-in_ok-comment_end-in-Comment
returns-in_ok-comment_end-in-Comment c = search signing

pub returns-in_ok-data_end-in-Data : goal.returns-in_ok-data_end-in-Data
returns-in_ok-data_end-in-Data c = search signing
