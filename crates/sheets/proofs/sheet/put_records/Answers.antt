use mathlib.Core.Path.{◌≡◌, sym, ap, ◌∙◌}
use mathlib.Core.List.{List}
use mathlib.Core.Bool.{true}
use Prim.Native.Nat.{ℕ, ◌+◌, ◌*◌, ◌^◌, ◌<◌}
use lib.ListN.{length, get_or, take, length-map, get_or-map}
use Rattle.records.specs.Width.{seven}
use Rattle.records.specs.Record.{legal_in}
use Rattle.records.specs.Sheet.{word_of, with_ends, all_legal}
use Rattle.records.proofs.Laws.Mapped.{all_at}
use Rattle.records.proofs.Laws.Widths.{legal_size}
use Rattle.records.specs.Fill.{wrote, wrote_none, wrote_on}
use Rattle.records.specs.Bytes.{bytes_of, body}
use Rattle.records.proofs.Laws.Bytes.{body_next, length_body_take}
use native.Mathlib.Omega.{arith}
use Rattle.sheets.proofs.sheet.put_records.Goals as goal

-- a legal record has room for two bits more
small : (rs : List ℕ) (i : ℕ) → i < length rs → all_legal seven rs ≡ true → get_or rs i 0 < 2 ^ 54
small rs i h e = legal_size seven (get_or rs i 0) (all_at (legal_in seven) rs i h e)

pub loop-i-init : goal.loop-i-init
unfolding body
loop-i-init c = sym (wrote_none 4 _)

pub overflow_mul-record : goal.overflow_mul-record
overflow_mul-record c =
    omega (arith, small c.args.records.now c.loop-i.i (omega arith) c.requires.1)

pub loop-i-preserved : goal.loop-i-preserved
loop-i-preserved c =
    let call = c.put_word in
    let a = c.args in
    let rs = a.records.now in
    let ns = with_ends seven rs in
    let s₀ = a.sheet.now in
    let i = c.loop-i.i in
    let many = length-map rs (word_of seven) in
    let word = get_or-map (word_of seven) rs i 0 in
    let at_i : 4 + 7 * i ≡ 4 + length (body 7 (take i ns)) = omega (arith, length_body_take 7 ns i (omega arith)) in
    call.ensures
    ∙ ap (λ (l : List ℕ). wrote (4 + 7 * i) (bytes_of 7 (get_or rs i 0 * 4)) l) c.loop-i.invariant
    ∙ ap (λ (n : ℕ). wrote (4 + 7 * i) (bytes_of 7 n) (wrote 4 (body 7 (take i ns)) s₀)) (sym word)
    ∙ wrote_on 4 (4 + 7 * i) (body 7 (take i ns)) (bytes_of 7 (get_or ns i 0)) s₀ at_i (omega arith)
    ∙ ap (λ (l : List ℕ). wrote 4 l s₀) (sym (body_next 7 ns i (omega arith)))
