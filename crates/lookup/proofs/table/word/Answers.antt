use Prim.Native.Nat.{ℕ, ◌<◌}
use native.Mathlib.Omega.{arith}
use Rattle.std.proofs.Common.{rules, ap, ◌∙◌, refl}
use lib.ListN.{get_or, length}
use denote.Ref.{Bor}
use mathlib.Core.List.{List}
use Rattle.lookup.proofs.Laws.Cells.{capped_bound, word_got}
use Rattle.lookup.proofs.table.word.Goals as goal

pub returns : goal.returns
returns c =
    let long : length c.args.table.now < 18446744073709551616 = search rules in
    let b : (i : ℕ) → get_or c.args.letters.now i 0 < 256 =
    λ i. omega (arith, c.type_inv.letters i) in
    ap (λ (x : Bor (List ℕ)). x.now) c.unwrap_or.ensures
    ∙ word_got c.args.table.now c.args.letters.now c.args.w c.bound-from.ensures.0
    (capped_bound c.args.table.now long c.args.w c.saturating_add.ensures c.bound-to.ensures.0)
    b _ refl c.get.result c.get.ensures.lookup
