use mathlib.Core.Path.{◌≡◌, sym, ap, ◌∙◌}
use mathlib.Core.List.{List}
use Prim.Native.Nat.{ℕ, ◌+◌, ◌*◌, ◌<◌}
use lib.ListN.{length, get_or, set, take, drop, length-map}
use lib.Seq.{take-length}
use Rattle.records.specs.Width.{seven, width_said}
use Rattle.records.specs.Record.{carried}
use Rattle.records.specs.Sheet.{bare}
use Rattle.records.specs.Fill.{wrote, wrote_next}
use Rattle.records.specs.Bytes.{number_written, numbers_in}
use Rattle.records.proofs.Laws.Bytes.{number_behind, length_numbers_in}
use Rattle.records.proofs.Laws.Mapped.{made_at}
use native.Mathlib.Omega.{arith}
use Rattle.sheets.proofs.sheet.take_records.Invariants.{held}
use Rattle.sheets.proofs.sheet.take_records.Goals as goal

held-long : (b n : ℕ) (s : List ℕ) → length (held b n s) ≡ n
held-long b n s =
    let w = width_said b in
    length-map (numbers_in w.bytes n (drop 4 s)) (λ (m : ℕ). carried seven w (bare w m)) ∙ length_numbers_in w.bytes n (drop 4 s)

-- the record of one word
held_at : (b n i : ℕ) (s : List ℕ) {word r : ℕ} → i < n
    → word ≡ number_written (take (width_said b).bytes (drop (4 + (width_said b).bytes * i) s))
    → r ≡ carried seven (width_said b) (bare (width_said b) word) → r ≡ get_or (held b n s) i 0
held_at b n i s {word} {r} h e k =
    let w = width_said b in
    let ns = numbers_in w.bytes n (drop 4 s) in
    let f : ℕ → ℕ = λ (m : ℕ). carried seven w (bare w m) in
    k ∙ ap f (e ∙ sym (number_behind w.bytes n i 4 s h))
    ∙ sym (made_at f ns i (omega (arith, length_numbers_in w.bytes n (drop 4 s))))

pub loop-i-preserved : goal.loop-i-preserved
loop-i-preserved c =
    let a = c.args in
    let s = a.sheet.now in
    let i = c.loop-i.i in
    let b = a.width in
    let hs = held b a.n s in
    let e : 0 + i ≡ i = omega arith in
    let r = c.record_of.result in
    ap (λ (l : List ℕ). set l i r) c.loop-i.invariant
    ∙ ap (λ (k : ℕ). set (wrote 0 (take i hs) a.records.now) k r) (sym e)
    ∙ wrote_next 0 i r hs a.records.now (omega (arith, held-long b a.n s)) (omega arith)
    (held_at b a.n i s (omega arith) c.word_at.ensures c.record_of.ensures)

pub returns : goal.returns
returns c =
    let a = c.args in
    let hs = held a.width a.n a.sheet.now in
    let ends : c.loop-i.i ≡ length hs = omega (arith, held-long a.width a.n a.sheet.now) in
    c.loop-i.invariant ∙ ap (λ (n : ℕ). wrote 0 (take n hs) a.records.now) ends
    ∙ ap (λ (l : List ℕ). wrote 0 l a.records.now) (take-length hs)
