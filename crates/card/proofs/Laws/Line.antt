-- The lines of the card, as the code meets them: a record's, a dimension's, and which stretch a place is in.
use Rattle.std.specs.Prelude.{◌≡◌, [], ◌∷◌, Bool, true, false, ◌&&◌, cond, eqb, length, get_or, drop}
use Rattle.std.proofs.Math.Path.{refl, sym, ap}
use Rattle.std.proofs.Common.{◌∙◌, arith, rules, ne_eqb}
use Prim.Native.Nat.{ℕ, zero, suc, ◌+◌, ◌≤◌, ◌<◌}
use Rattle.std.proofs.Math.Numerals.{add-one}
use Rattle.std.proofs.Math.ListN.{drop_of_length-le}
use Rattle.std.proofs.Math.Seq.{drop-cons}
use Rattle.records.specs.Record.{is_voxel, structure_of, payload_of, i_of, j_of, k_of, location_of}
use Rattle.records.specs.declared.counters.Index.{Index}
use Rattle.records.specs.declared.counters.Vertex.{Vertex}
use Rattle.cifti.specs.Maps.{kind_number, is_brain}
use Rattle.cifti.specs.Answer.{unused}
use Rattle.cifti.specs.declared.answer.Dimension.{Dimension}
use Rattle.cifti.specs.declared.answer.Answer.{Answer}
use Rattle.card.specs.declared.line.Line.TheVariants as lines
use Rattle.card.specs.Card.{location_line, record_line, map_line, dimension_line, stretch_begins, length_from, answer_dimensions}

-- ---- A record's line, from its parts.

module _ {index : Index} (r : ℕ) {b : Bool} (asked : b ≡ is_voxel r) where
  pub voxel_line : b ≡ true → {s i j k : ℕ} → s ≡ structure_of r → i ≡ i_of r → j ≡ j_of r → k ≡ k_of r
      → lines.Voxel index s i j k ≡ record_line index.0 r
  unfolding record_line location_line location_of
  voxel_line e s i j k = rw (s, i, j, k, sym asked ∙ e) refl

  pub surface_line : b ≡ false → {s : ℕ} {v : Vertex} → s ≡ structure_of r → v.0 ≡ payload_of r
      → lines.Surface index s v ≡ record_line index.0 r
  unfolding record_line location_line location_of
  surface_line e s v = rw (sym asked ∙ e, s, sym v) refl

pub ruleset recordSteps = (voxel_line, surface_line, rules)

-- ---- A dimension's lines.

module _ (d : ℕ) (x : Dimension) {b : Bool} (asked : b ≡ is_brain x.kind) where
  pub line_with : b ≡ true → lines.MapAt d x.kind x.length x.start ≡ map_line d x
  unfolding map_line
  line_with e = rw (sym asked ∙ e) refl

  pub line_without : b ≡ false → lines.Map d x.kind x.length ≡ map_line d x
  unfolding map_line
  line_without e = rw (sym asked ∙ e) refl

module _ (x : Dimension) {n : ℕ} (asked : n ≡ kind_number x.kind) where
  pub no_line : n ≡ 0 → 0 ≡ length (dimension_line 0 x)
  unfolding dimension_line
  no_line e = rw (sym asked ∙ e) refl

  pub one_line : (n ≡ 0 → ⊥) → 1 ≡ length (dimension_line 0 x)
  unfolding dimension_line
  one_line h = rw (ne_eqb (kind_number x.kind) 0 λ e. h (asked ∙ e)) refl

pub begins : (x : Dimension) (at : ℕ) {b : Bool} → b ≡ is_brain x.kind → (b && eqb x.start.0 at) ≡ stretch_begins at x
unfolding stretch_begins
begins x at e = rw e refl

pub ruleset kindSteps = (line_with, line_without, no_line, one_line, begins, rules)

-- ---- The three dimensions.

module _ (a : Answer) where
  pub each_of : (d : ℕ) → d < 3 → get_or (answer_dimensions a) d unused ≡ get_or a.dimensions d unused
  unfolding answer_dimensions
  each_of zero h = refl
  each_of (suc zero) h = refl
  each_of (suc (suc zero)) h = refl
  each_of (suc (suc (suc d))) h = absurd (omega arith)

  pub from_each : (d : ℕ) → d < 3 → drop d (answer_dimensions a) ≡ get_or a.dimensions d unused ∷ drop (d + 1) (answer_dimensions a)
  unfolding answer_dimensions
  from_each d h = drop-cons (answer_dimensions a) d unused h ∙ rw (each_of d h, add-one d) refl

  pub none_left : (d : ℕ) → 3 ≤ d → drop d (answer_dimensions a) ≡ []
  unfolding answer_dimensions
  none_left d h = drop_of_length-le (answer_dimensions a) h

  -- ---- The stretch that begins at a place.

  pub from_past : (at d : ℕ) → 3 ≤ d → length_from at (answer_dimensions a) ≡ length_from at (drop d (answer_dimensions a))
      → 0 ≡ length_from at (answer_dimensions a)
  unfolding length_from
  from_past at d h same = sym (same ∙ ap (length_from at) (none_left d h))

  module _ (at d : ℕ) (there : d < 3) (same : length_from at (answer_dimensions a) ≡ length_from at (drop d (answer_dimensions a)))
      {b : Bool} (asked : b ≡ stretch_begins at (get_or a.dimensions d unused)) where
    opened : length_from at (answer_dimensions a)
        ≡ cond b (get_or a.dimensions d unused).length (length_from at (drop (d + 1) (answer_dimensions a)))
    unfolding length_from
    opened = same ∙ ap (length_from at) (from_each d there) ∙ rw (sym asked) refl

    pub from_here : b ≡ true → (get_or a.dimensions d unused).length ≡ length_from at (answer_dimensions a)
    from_here e = sym (opened ∙ rw e refl)

    pub from_later : b ≡ false → length_from at (answer_dimensions a) ≡ length_from at (drop (d + 1) (answer_dimensions a))
    from_later e = opened ∙ rw e refl

pub ruleset lengthSteps = (from_past, from_here, from_later, rules)
