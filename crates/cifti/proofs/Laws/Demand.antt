-- DEMAND 2 in one statement: of an accepted text, the answer tells of each dimension what its map says, and the records hold, from the
-- start that it tells, the location of every index: that of the one model whose range the index is in.
use Rattle.std.specs.Prelude.{◌≡◌, List, [], ◌∷◌, ◌++◌, Bool, cond, ℕ, zero, suc, ◌+◌, ◌-◌, ◌<◌, ◌≤◌, eqb, get_or, Some}
use Rattle.std.proofs.Math.Path.{refl, ap}
use Rattle.std.proofs.Common.{sym, ◌∙◌, length-append}
use Rattle.std.proofs.Math.Bool.{true, false}
use native.Mathlib.Omega.{arith}
use Rattle.std.proofs.Math.ListN.{length, get_or-append}
use Rattle.lists.proofs.Laws.Booleans.{or_left, or_right}
use Rattle.lists.specs.Lists.{any, total, those, each_in, there}
use Rattle.lists.proofs.Laws.Quantifiers.{OnePlace}
use Rattle.lists.proofs.Laws.Refusals.{row_fails, rows_past}
use Rattle.grammar.specs.Document.{Element}
use Rattle.grammar.specs.Grammar.{Writes}
use Rattle.records.specs.Record.{on_surface, record_of}
use Rattle.cifti.specs.Maps.{Model, Map, maps_of, brain_maps, length_of, is_brain, covers, locations}
use Rattle.cifti.specs.Conditions.{of_maps, ranges_wrong, uneven, conditions, conditions_of_header, conditions_of_table, refusal}
use Rattle.cifti.specs.Answer.{stretch, stretches, filled_with, reach, described, dimension_at, maps_in, accepted_with, answer_by}
use Rattle.cifti.specs.Answer.{records_by, answer_to, records_after, unused, record_at, Reads}
use Rattle.cifti.proofs.Laws.Smallest.{refusal_none}
use Rattle.cifti.proofs.Laws.Text.{answers_of}
use Rattle.cifti.proofs.Laws.Theorems.{answer_number}
use Rattle.cifti.proofs.Laws.Meaning.{even_iff, record_at_lem}
use Rattle.cifti.proofs.Laws.Said.{stretch_length, placed, dimension_of}
use Rattle.cifti.specs.declared.answer.Answer.{Answer}

-- ---- Number 0: no condition applies.

-- the eleventh row
ranges_right : (lengths : List ℕ) (size room work : ℕ) (e : Element) → refusal lengths size room work (Some e) ≡ 0
    → ranges_wrong (maps_of e) ≡ false
unfolding conditions conditions_of_header conditions_of_table of_maps there
ranges_right lengths size room work e h = row_fails (rows_past 10 (refusal_none lengths size room work (Some e) h))

even_in_lem : (k : List Map) (m : Map) (l : List Map) → is_brain m.kind ≡ true → any uneven (brain_maps (k ++ (m ∷ l))) ≡ false
    → uneven m ≡ false
unfolding brain_maps those any
even_in_lem [] m l h f = let g : any uneven (m ∷ brain_maps l) ≡ false = rw h at f in or_left (uneven m) (any uneven (brain_maps l)) g
even_in_lem (x ∷ k) m l h f = even_in_lem k m l h (go (is_brain x.kind) f)
  where
    go : (b : Bool) → any uneven (cond b (x ∷ brain_maps (k ++ (m ∷ l))) (brain_maps (k ++ (m ∷ l)))) ≡ false
        → any uneven (brain_maps (k ++ (m ∷ l))) ≡ false
    go false q = q
    go true q = or_right (uneven x) (any uneven (brain_maps (k ++ (m ∷ l)))) q

-- ---- How far the stretches reach.

stretches_reach : (l : List Map) → length (stretches l) ≡ total reach l
unfolding stretches brain_maps those each_in total reach
stretches_reach [] = refl
stretches_reach (m ∷ l) = go (is_brain m.kind) (stretches_reach l)
  where
    go : (b : Bool) → length (stretches l) ≡ total reach l
        → length (each_in stretch (cond b (m ∷ brain_maps l) (brain_maps l))) ≡ cond b (length_of m) 0 + total reach l
    go true h = length-append (stretch m) (stretches l) ∙ rw (stretch_length m, h) refl
    go false h = omega arith

total_past : (k : List Map) (m : Map) (l : List Map) → total reach k + reach m ≤ total reach (k ++ (m ∷ l))
unfolding total
total_past [] m l = omega arith
total_past (x ∷ k) m l = let h = total_past k m l in omega arith

brain_reach : (m : Map) → is_brain m.kind ≡ true → reach m ≡ length_of m
unfolding reach
brain_reach m h = rw h

-- ---- THE STATEMENT: an accepted text, its document, and a map of it, those before it and those behind it.

module _ {text lengths records work : List ℕ} {a : Answer} {s v : List ℕ} (r : Reads text lengths records work a s v) (yes : a.number ≡ 0)
    (e : Element) (w : Writes e text) (k : List Map) (m : Map) (l : List Map) (all-maps : maps_of e ≡ k ++ (m ∷ l)) where
  -- where the map's stretch begins, if it has one
  abbrev pub start : ℕ
  start = total reach k

  number_of : ℕ
  number_of = refusal lengths (length text) (length records) (length work) (Some e)

  answer_is : a ≡ answer_by number_of (Some e)
  unfolding number_of answer_to
  answer_is = answers_of r.answered w

  number_is : number_of ≡ 0
  number_is = sym (answer_number number_of (Some e)) ∙ sym (ap (λ (x : Answer). x.number) answer_is) ∙ yes

  accepted_is : a ≡ accepted_with (k ++ (m ∷ l))
  unfolding answer_by maps_in
  accepted_is = answer_is ∙ rw (number_is, all-maps) refl

  records_are : s ≡ filled_with (stretches (k ++ (m ∷ l))) records
  unfolding records_by maps_in number_of records_after
  records_are = answers_of r.filled w ∙ rw (number_is, all-maps) refl

  -- a dimension that it lists and none before it does: the answer tells what the map says
  pub tells : (d : ℕ) → d < 3 → any (λ x. any (eqb d) x.dimensions) k ≡ false → any (eqb d) m.dimensions ≡ true
      → get_or a.dimensions d unused ≡ described start m
  unfolding accepted_with
  tells d u h t = rw accepted_is (go d u h t)
    where
      told : (c : ℕ) → any (λ x. any (eqb c) x.dimensions) k ≡ false → any (eqb c) m.dimensions ≡ true
          → dimension_at 0 (k ++ (m ∷ l)) c ≡ described start m
      told c h t = let z : 0 + start ≡ start = omega arith in dimension_of k m l 0 c h t ∙ ap (λ p. described p m) z

      go : (c : ℕ) → c < 3 → any (λ x. any (eqb c) x.dimensions) k ≡ false → any (eqb c) m.dimensions ≡ true
          → get_or (accepted_with (k ++ (m ∷ l))).dimensions c unused ≡ described start m
      go zero u h t = told 0 h t
      go (suc zero) u h t = told 1 h t
      go (suc (suc zero)) u h t = told 2 h t
      go (suc (suc (suc c))) u h t = absurd (omega arith)

  module _ (brain : is_brain m.kind ≡ true) (n : ℕ) (u : n < length_of m) where
    -- the record of index n stands n places behind the start
    pub holds : get_or s (start + n) 0 ≡ record_at m.models n
    unfolding filled_with
    holds =
        let h = total_past k m l in
        let b = brain_reach m brain in
        let q : start + n < length (stretches (k ++ (m ∷ l))) = rw (stretches_reach (k ++ (m ∷ l))) (omega arith) in
        rw records_are (get_or-append (stretches (k ++ (m ∷ l))) _ 0 (start + n) q ∙ placed k m l n brain u)

    -- the index is in exactly one model's range, and the record is of the location at the index less that model's offset in its list
    pub in_one : (b₀ : Model) → OnePlace b₀ (covers n) m.models
    unfolding ranges_wrong number_of
    in_one b₀ =
        let f : any uneven (brain_maps (k ++ (m ∷ l))) ≡ false =
        rw all-maps at (ranges_right lengths (length text) (length records) (length work) e number_is) in
        ((even_iff b₀ m).0 (even_in_lem k m l brain f)).one n u

    pub located : (b₀ : Model) → let o = in_one b₀ in
        get_or s (start + n) 0 ≡ record_of (get_or (locations (get_or m.models o.0 b₀)) (n - (get_or m.models o.0 b₀).offset)
        (on_surface 0 0))
    located b₀ = holds ∙ record_at_lem b₀ m.models n (in_one b₀)
