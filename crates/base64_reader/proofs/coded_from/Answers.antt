use native.Mathlib.Omega.{arith}
use Rattle.base64_reader.proofs.Laws.Quick.{quick_place}
use Rattle.base64_reader.proofs.Laws.Sixteen.{sixteen_place}
use Rattle.base64_reader.proofs.Laws.Texts.{coding, coding_sixteen_less}
use Rattle.base64_reader.proofs.coded_from.Goals as goal

pub letter_values-values-requires : goal.letter_values-values-requires
letter_values-values-requires c = search coding

pub loop-i-init : goal.loop-i-init
loop-i-init c = search coding

pub sixteen_letters-requires : goal.sixteen_letters-requires
sixteen_letters-requires c = search coding

pub overflow_add-i : goal.overflow_add-i
overflow_add-i c = omega (arith, sixteen_place _ _ c.sixteen_letters.ensures c.if-sixteen_letters.true)

pub loop-i-smaller-then-sixteen_letters : goal.loop-i-smaller-then-sixteen_letters
loop-i-smaller-then-sixteen_letters c = coding_sixteen_less c.loop-i.invariant c.sixteen_letters.ensures c.if-sixteen_letters.true

pub loop-i-preserved-then-sixteen_letters : goal.loop-i-preserved-then-sixteen_letters
loop-i-preserved-then-sixteen_letters c = search coding

pub quick_bits-requires : goal.quick_bits-requires
quick_bits-requires c = search coding

pub overflow_add-i-then-quick_bits-lt16777216 : goal.overflow_add-i-then-quick_bits-lt16777216
overflow_add-i-then-quick_bits-lt16777216 c = omega (arith, quick_place c.quick_bits.ensures c.if-quick_bits-lt16777216.true)

pub loop-i-smaller-then-quick_bits-lt16777216 : goal.loop-i-smaller-then-quick_bits-lt16777216
loop-i-smaller-then-quick_bits-lt16777216 c = search coding

pub loop-i-preserved-then-quick_bits-lt16777216 : goal.loop-i-preserved-then-quick_bits-lt16777216
loop-i-preserved-then-quick_bits-lt16777216 c = search coding

pub any_group-requires : goal.any_group-requires
any_group-requires c = search coding

pub enum_known-j : goal.enum_known-j
enum_known-j c = search coding

pub loop-i-smaller : goal.loop-i-smaller
loop-i-smaller c = search coding

pub loop-i-preserved : goal.loop-i-preserved
loop-i-preserved c = search coding

pub enum_told-1 : goal.enum_told-1
enum_told-1 c = search coding

pub returns-in-End : goal.returns-in-End
returns-in-End c = search coding

pub enum_told-in-Bad : goal.enum_told-in-Bad
enum_told-in-Bad c = search coding

pub returns-in-Bad : goal.returns-in-Bad
returns-in-Bad c = search coding
