use Rattle.std.proofs.Common.{Some}
use mathlib.Core.Path.{◌≡◌, refl}
use mathlib.Core.List.{List}
use Prim.Native.Nat.{ℕ, ◌+◌, ◌<◌}
use native.Mathlib.Omega.{arith}
use lib.ListN.{length, get_or}
use Rattle.grammar.proofs.Laws.Tokens.{high_no_blank}
use Rattle.nodes.specs.Values.{decoded_at}
use Rattle.nodes.proofs.Laws.Values.{decode_past, decode_quote, decode_plain}
use Rattle.inside.proofs.values.decoded.Goals.{then-text-at-via-then-text-at, then-text-at-via-else-text-at+then-text-at-2}
use Rattle.inside.proofs.values.decoded.Goals as goal

above : (text : List ℕ) (at q : ℕ) → at < length text → (get_or text at 0 ≡ q → ⊥) → 38 < get_or text at 0
    → Some ((get_or text at 0), (at + 1)) ≡ decoded_at text at q
above text at q h nq a =
    decode_plain text at q h nq (λ e. omega arith) (λ e. omega arith) refl (high_no_blank (get_or text at 0) (omega arith))

pub returns-then-text-at : goal.returns-then-text-at
returns-then-text-at c = elim c.then-text-at.branch [
  | then-text-at-via-then-text-at w ↦ decode_past _ _ _ w.if-text-at.true
  | then-text-at-via-else-text-at+then-text-at-2 w ↦ decode_quote _ _ _ w.if-text-at.false w.if-text-at-2.true
]

pub returns : goal.returns
returns c = above c.args.text.now c.args.at c.args.quote c.if-text-at.false c.if-text-at-2.false (omega arith)
