use mathlib.Core.Path.{◌≡◌, sym, ap, ◌∙◌}
use Prim.Native.Nat.{ℕ, ◌/◌, ◌%◌, ◌^◌}
use borrow.Author.Tests.{eq-eqb, ne_eqb}
use native.Mathlib.Nat.{div-one}
use Rattle.records.specs.Width.{five}
use Rattle.records.specs.Fields.{bits, parts_of}
use Rattle.records.specs.Record.{Location, on_surface, in_volume, record_of, wrapped, widened, location_in, is_voxel_in, structure_in, payload_in}
use Rattle.records.specs.Record.{i_in, j_in, k_in}
use Rattle.records.proofs.Laws.Record.{within_fits, location_fits}
use Rattle.records.proofs.Laws.Widths.{seven_wider, fits_wider}
use Rattle.record_fields.proofs.five.widen.Goals as goal

-- a location of five is not cut by the bits of seven
whole : (r : ℕ) (l : Location) → location_in five r ≡ l → record_of (wrapped l) ≡ widened r
whole r l e = ap record_of (ap wrapped (sym e) ∙ within_fits (fits_wider seven_wider (location_fits five r)))

volume : (r : ℕ) → r / 2 ^ 39 % 2 ≡ 1
    → record_of (wrapped (in_volume (r / 2 ^ 34 % 32) (r / 2 ^ 23 % 2048) (r / 2 ^ 12 % 2048) (r % 4096))) ≡ widened r
unfolding location_in is_voxel_in structure_in i_in j_in k_in bits parts_of
volume r h = whole r _ (rw (eq-eqb (r / 2 ^ 39 % 2) 1 h, div-one))

surface : (r : ℕ) → (r / 2 ^ 39 % 2 ≡ 1 → ⊥) → record_of (wrapped (on_surface (r / 2 ^ 34 % 32) (r % 2 ^ 34))) ≡ widened r
unfolding location_in is_voxel_in structure_in payload_in bits parts_of
surface r h = whole r _ (rw (ne_eqb (r / 2 ^ 39 % 2) 1 h, div-one))

pub returns-then-r-eq1 : goal.returns-then-r-eq1
returns-then-r-eq1 c = c.voxel_record-voxel.ensures ∙ volume _ c.if-r-eq1.true

pub returns-else-r-eq1 : goal.returns-else-r-eq1
returns-else-r-eq1 c = c.surface_record-surface.ensures ∙ surface _ c.if-r-eq1.false
