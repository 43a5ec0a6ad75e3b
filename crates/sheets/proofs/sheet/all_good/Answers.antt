use lib.ListN.{take, drop}
use mathlib.Core.Path.{◌≡◌, sym, ap, ◌∙◌}
use mathlib.Core.List.{List}
use mathlib.Core.Bool.{Bool, ◌&&◌}
use Prim.Native.Nat.{ℕ, ◌+◌, ◌*◌, ◌<◌}
use Rattle.records.specs.Width.{width_said}
use Rattle.records.specs.Bytes.{number_written}
use Rattle.records.proofs.Laws.Bytes.{number_behind, length_numbers_in}
use Rattle.records.specs.Sheet.{good_word, all_good}
use Rattle.records.proofs.Laws.Computed.{all_step, all_end}
use native.Mathlib.Omega.{arith}
use Rattle.sheets.proofs.sheet.all_good.Invariants.{words}
use Rattle.sheets.proofs.sheet.all_good.Goals as goal

-- one word judged
step : (b n i : ℕ) (s : List ℕ) {word : ℕ} {ok : Bool} → i < n
    → word ≡ number_written (take (width_said b).bytes (drop (4 + (width_said b).bytes * i) s)) → ok ≡ good_word (width_said b) word
    → all_good (width_said b) (drop i (words b n s)) ≡ (ok && all_good (width_said b) (drop (i + 1) (words b n s)))
step b n i s {word} {ok} h e k =
    let w : ℕ = (width_said b).bytes in
    all_step (good_word (width_said b)) (words b n s) i ok (omega (arith, length_numbers_in w n (drop 4 s)))
    (k ∙ ap (good_word (width_said b)) (e ∙ sym (number_behind w n i 4 s h)))

pub returns-then-not-good_word : goal.returns-then-not-good_word
returns-then-not-good_word c =
    let ask = c.good_word in
    let read = c.word_at in
    let a = c.args in
    sym (c.loop-i.invariant
    ∙ step a.width a.n c.loop-i.i a.sheet.now (omega arith) read.ensures ask.ensures
    ∙ ap (λ (b : Bool). b && all_good (width_said a.width) (drop (c.loop-i.i + 1) (words a.width a.n a.sheet.now)))
    c.if-not-good_word.true)

pub loop-i-preserved : goal.loop-i-preserved
loop-i-preserved c =
    let ask = c.good_word in
    let read = c.word_at in
    let a = c.args in
    c.loop-i.invariant
    ∙ step a.width a.n c.loop-i.i a.sheet.now (omega arith) read.ensures ask.ensures
    ∙ ap (λ (b : Bool). b && all_good (width_said a.width) (drop (c.loop-i.i + 1) (words a.width a.n a.sheet.now)))
    c.if-not-good_word.false

pub returns : goal.returns
returns c =
    let a = c.args in
    let ns = words a.width a.n a.sheet.now in
    sym (c.loop-i.invariant ∙ all_end (good_word (width_said a.width)) ns c.loop-i.i
    (omega (arith, length_numbers_in (width_said a.width).bytes a.n (drop 4 a.sheet.now))))
