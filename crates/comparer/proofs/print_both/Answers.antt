use Rattle.std.proofs.Common.{arith, refl, sym, ap, subst, ◌∙◌, ◌≡◌, ◌≤◌, ℕ, List, length, take}
use Rattle.std.specs.Io.KnownBytes.{Appends}
use Rattle.records.specs.Sheet.{count_of, Unpacks}
use Rattle.records.proofs.Laws.Sheet.{wrote_front}
use Rattle.records.specs.declared.outcome.Outcome.{Outcome}
use Rattle.comparison.specs.Compare.{records_of}
use Rattle.comparison.specs.Accepted.{sheet_refusal}
use Rattle.comparison.proofs.Laws.Accepted.{accepted}
use Rattle.comparison.proofs.Laws.Held.{held_long}
use Rattle.compare.proofs.Laws.Held.{unpacked_value, unpacked_holds}
use Rattle.comparer.specs.Output.{output_bytes}
use Rattle.comparer.proofs.print_both.Goals as goal

-- what is taken of the room that a sheet was unpacked to
held : {s before : List ℕ} {o : Outcome} {after : List ℕ} {n : ℕ} → Unpacks s before o after → sheet_refusal s ≡ 0 → count_of s ≤ 6552
    → length before ≡ 6552 → (o.value ≤ 6552 → n ≡ o.value) → take n after ≡ records_of s
held {s} {before} {o} {after} {n} u ok few long is =
    let room : count_of s ≤ length before = omega arith in
    let value = unpacked_value u ok room in
    let all : n ≡ length (records_of s) = is (omega (arith, value)) ∙ value ∙ sym (held_long s) in
    ap (take n) (unpacked_holds u ok room) ∙ wrote_front (records_of s) before n all

pub returns-clause-count : goal.returns-clause-count
returns-clause-count g c e =
    let s = c.args.first.now in
    let t = c.args.second.now in
    let fine = accepted s t 6552 refl c.requires in
    let one = held {s = s} c.unpack-one.ensures fine.one (omega (arith, fine.fits)) refl c.within-n.ensures.1 in
    let two = held {s = t} c.unpack-two.ensures fine.two (omega (arith, fine.fits)) refl c.within-m.ensures.1 in
    let rest = take c.within-m.result c.unpack-two.new.records in
    c.print_lines.ensures.count e ∙ ap (λ l. length (output_bytes l rest)) one ∙ ap (λ l. length (output_bytes (records_of s) l)) two

pub returns-clause-bytes : goal.returns-clause-bytes
returns-clause-bytes g c e =
    let s = c.args.first.now in
    let t = c.args.second.now in
    let fine = accepted s t 6552 refl c.requires in
    let one = held {s = s} c.unpack-one.ensures fine.one (omega (arith, fine.fits)) refl c.within-n.ensures.1 in
    let two = held {s = t} c.unpack-two.ensures fine.two (omega (arith, fine.fits)) refl c.within-m.ensures.1 in
    let rest = take c.within-m.result c.unpack-two.new.records in
    subst (Appends _ _) (ap (λ l. output_bytes l rest) one ∙ ap (λ l. output_bytes (records_of s) l) two) (c.print_lines.ensures.bytes e)
