use lib.Pow.{pow_pos}
use Rattle.records.proofs.Laws.Fields.{mod_both}
use mathlib.Core.Path.{◌≡◌, sym, ◌∙◌}
use Prim.Native.Nat.{ℕ, ◌+◌, ◌/◌, ◌%◌, ◌^◌, ◌≤◌, ◌<◌}
use borrow.Author.Tests.{eq-eqb, ne_eqb}
use Rattle.records.specs.Fields.{bits, parts_of}
use Rattle.records.specs.Record.{is_voxel_in, key_of}
use Rattle.records.proofs.Laws.Record.{seven_sound, key_surface, key_voxel}
use native.Mathlib.Omega.{arith}
use Rattle.record_fields.proofs.record.key.Goals as goal

surface : (r : ℕ) → r % 2 ^ 54 < 2 ^ 53 → r % 2 ^ 54 ≡ key_of r
unfolding is_voxel_in bits parts_of
surface r h = sym (key_surface seven_sound r (ne_eqb (r / 2 ^ 53 % 2) 1 (omega arith)))

volume : (r : ℕ) → 2 ^ 53 ≤ r % 2 ^ 54 → 2 ^ 53 + r % 2 ^ 54 % 2 ^ 48 ≡ key_of r
unfolding is_voxel_in bits parts_of
volume r h = let flag : r / 2 ^ 53 % 2 ≡ 1 = omega (arith, mod_both (2 ^ 53) (pow_pos 53) r 2 (omega arith)) in
    let e : 2 ^ 53 + r % 2 ^ 54 % 2 ^ 48 ≡ 2 ^ 53 + r % 2 ^ 48 = omega arith in e
    ∙ sym (key_voxel seven_sound r (eq-eqb (r / 2 ^ 53 % 2) 1 flag))

pub returns-then-low-lt9007199254740992 : goal.returns-then-low-lt9007199254740992
returns-then-low-lt9007199254740992 c = surface _ c.if-low-lt9007199254740992.true

pub returns-else-low-lt9007199254740992 : goal.returns-else-low-lt9007199254740992
returns-else-low-lt9007199254740992 c = volume _ c.if-low-lt9007199254740992.false
