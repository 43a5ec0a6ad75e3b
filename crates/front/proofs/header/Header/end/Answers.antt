use Rattle.std.proofs.Common.{rules, w64, ◌∙◌, nat_abs, pos, ap, sym}
use Rattle.std.specs.Int.Signed.{mag}
use Rattle.std.proofs.lemmas.Int.{to_z-of_z}
use Rattle.nifti.proofs.Laws.Reads.{end_read}
use Rattle.front.proofs.header.Header.end.Goals as goal

pub overflow_cast-result : goal.overflow_cast-result
overflow_cast-result c =
    let e = end_read c.args.self.now.standing c.eight.ensures in
    rw (to_z-of_z w64 c.eight.result (search rules) ∙ e.1) (tt, (let m = ap mag e.1 in search rules))

pub returns : goal.returns
returns c =
    let e = end_read c.args.self.now.standing c.eight.ensures in
    e.2.is ∙ ap (λ z. pos (nat_abs z)) (sym (to_z-of_z w64 c.eight.result (search rules) ∙ e.1))
