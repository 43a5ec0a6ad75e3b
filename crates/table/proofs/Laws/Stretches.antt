-- WHERE A MAP'S STRETCH STANDS among the records: behind those of the maps before it.
use Rattle.std.specs.Prelude.{◌≡◌, refl, List, [], ◌∷◌, ◌++◌, ℕ, ◌+◌, ◌<◌, ◌≤◌, Bool, true, false, cond, suc, take}
use Rattle.std.proofs.Math.Path.{sym, ap}
use Rattle.std.proofs.Common.{◌∙◌, length-append, rules, append_assoc}
use native.Mathlib.Omega.{arith}
use Rattle.std.proofs.Math.ListN.{length, drop}
use Rattle.lists.specs.Lists.{each_in, those, total}
use Rattle.records.specs.Fill.{wrote, wrote_none, wrote_on, length_wrote}
use Rattle.cifti.specs.Maps.{Map, brain_maps, length_of}
use Rattle.cifti.specs.Answer.{stretches, filled_with}
use Rattle.maps.specs.Ready.{maps_at}
use Rattle.maps.specs.Over.{note_at}
use Rattle.maps.proofs.Laws.Over.{over_start, over_done, over_note, over_here, over_next, from}
use Rattle.maps.specs.declared.survey.MapNote.{MapNote}
use Rattle.maps.specs.declared.survey.Maps.{Maps}
use Rattle.models.specs.Fine.{Fine}
use Rattle.models.specs.Judged.{models_held}
use Rattle.models.proofs.Laws.Fine.{fine_first, fine_rest}
use Rattle.models.proofs.Laws.Judged.{OverHeld, held_place, held_here}
use Rattle.models.specs.declared.gather.Models.{Models}
use Rattle.models.specs.declared.judge.Judged.{Judged}
use Rattle.table.specs.Ready.{map_at}
use Rattle.table.specs.Stretch.{stretch_of, Writable, Written}
use Rattle.table.proofs.Laws.Stretch.{stretches_one, stretches_length}
use Rattle.table.specs.Stretches.{Fillable}
use Rattle.std.proofs.Math.Seq.{take-append_seam}
use Rattle.cifti.specs.Maps.{is_brain}
use Rattle.cifti.specs.Answer.{stretch, reach}
use Rattle.cifti.proofs.Laws.Said.{stretch_length}

-- the stretches of the maps that are left, written from `next` on, give what all give
pub record Fill (all : List Map) (before : List ℕ) (next : ℕ) (records : List ℕ) (l : List Map) : Type 0 where
  pub fine : Fine l
  pub enough : next + length (stretches l) ≤ length before
  pub kept : length records ≡ length before
  pub same : wrote next (stretches l) records ≡ wrote 0 (stretches all) before

module _ {text : List ℕ} {maps : Maps} {j : Judged} where
  pub fill_start : (records : List ℕ) → Fillable text maps j (length records)
      → OverHeld text maps j (Fill (maps_at text maps) records 0 records) 0
  fill_start records f = record {
    over_maps = over_start f.ready (record {
      fine = f.fine;
      enough = omega (arith, f.enough, stretches_length (maps_at text maps));
      kept = refl;
      same = refl;
    });
    held = f.held;
  }

  module _ {before : List ℕ} {next i : ℕ} {records : List ℕ}
      (go : OverHeld text maps j (Fill (maps_at text maps) before next records) i) where
    pub fill_kept : length records ≡ length before
    fill_kept = go.over_maps.left.kept

    pub fill_done : maps.count ≤ i → records ≡ filled_with (stretches (maps_at text maps)) before
    unfolding filled_with stretches brain_maps those each_in
    fill_done h =
        let zero_on : 0 + length (stretches (maps_at text maps)) ≡ length (stretches (maps_at text maps)) = omega arith in
        sym (wrote_none next records) ∙ (over_done go.over_maps h).same ∙ ap (λ n. stretches (maps_at text maps) ++ drop n before) zero_on

    module _ (u : i < maps.count) {n : MapNote} (e : n ≡ note_at maps i) where
      length_split : (l : List Map) → length (stretches (map_at text n.at ∷ l))
          ≡ length (stretch_of (map_at text n.at)) + length (stretches l)
      length_split l = ap length (stretches_one (map_at text n.at) l) ∙ length-append (stretch_of (map_at text n.at)) (stretches l)

      pub fill_one : {m : Models} → m ≡ models_held j i → Writable text n m (length records) next
      fill_one q =
          let h = over_here go.over_maps u e in
          record {
            noted = over_note go.over_maps u e;
            fine = fine_first h.fine;
            held = held_here go u e q;
            enough = omega (arith, h.enough, length_split (from text maps (i + 1)), h.kept);
          }

      pub fill_more : {next₁ : ℕ} {after : List ℕ} → Written text n.at records next next₁ after
          → OverHeld text maps j (Fill (maps_at text maps) before next₁ after) (i + 1)
      fill_more {next₁} {after} w = record {
        over_maps = over_next go.over_maps u e (λ l h. record {
          fine = fine_rest h.fine;
          enough = omega (arith, h.enough, length_split l, w.ends);
          kept = ap length w.written ∙ length_wrote next (stretch_of (map_at text n.at)) records
              (omega (arith, h.enough, length_split l, h.kept)) ∙ h.kept;
          same = ap (λ s. wrote next₁ (stretches l) s) w.written
              ∙ wrote_on next next₁ (stretch_of (map_at text n.at)) (stretches l) records w.ends
              (omega (arith, h.enough, length_split l, h.kept, w.ends))
              ∙ ap (λ s. wrote next s records) (sym (stretches_one (map_at text n.at) l))
              ∙ h.same;
        });
        held = go.held;
      }

pub ruleset filling = (fill_start, fill_kept, fill_done, held_place, fill_one, fill_more, rules)

drop_past : (a b : List ℕ) (n : ℕ) → drop (length a + n) (a ++ b) ≡ drop n b
drop_past [] b n = let e : 0 + n ≡ n = omega arith in ap (λ i. drop i b) e
drop_past (x ∷ a) b n =
    let e : suc (length a) + n ≡ suc (length a + n) = omega arith in
    ap (λ i. drop i (x ∷ (a ++ b))) e ∙ drop_past a b n

behind_stretches : (k : List Map) (m : Map) (l : List Map) (x : List ℕ) → is_brain m.kind ≡ true
    → drop (total reach k) (stretches (k ++ (m ∷ l)) ++ x) ≡ stretch m ++ (stretches l ++ x)
unfolding stretches brain_maps those each_in total reach
behind_stretches [] m l x h = rw h (append_assoc (stretch m) (stretches l) x)
behind_stretches (y ∷ k) m l x h = go (is_brain y.kind) (behind_stretches k m l x h)
  where
    rest : List ℕ
    rest = stretches (k ++ (m ∷ l))

    go : (b : Bool) → drop (total reach k) (rest ++ x) ≡ stretch m ++ (stretches l ++ x)
        → drop (cond b (length_of y) 0 + total reach k)
        (each_in stretch (cond b (y ∷ brain_maps (k ++ (m ∷ l))) (brain_maps (k ++ (m ∷ l)))) ++ x)
        ≡ stretch m ++ (stretches l ++ x)
    go true f =
        ap (λ n. drop (n + total reach k) ((stretch y ++ rest) ++ x)) (sym (stretch_length y))
        ∙ ap (drop (length (stretch y) + total reach k)) (append_assoc (stretch y) rest x)
        ∙ drop_past (stretch y) (rest ++ x) (total reach k)
        ∙ f
    go false f = let e : 0 + total reach k ≡ total reach k = omega arith in ap (λ n. drop n (rest ++ x)) e ∙ f

-- so many records from there on are the stretch
pub stretch_taken : (k : List Map) (m : Map) (l : List Map) (old : List ℕ) → is_brain m.kind ≡ true
    → take (length_of m) (drop (total reach k) (filled_with (stretches (k ++ (m ∷ l))) old)) ≡ stretch m
unfolding filled_with
stretch_taken k m l old h =
    let rest : List ℕ = stretches l ++ drop (length (stretches (k ++ (m ∷ l)))) old in
    ap (take (length_of m)) (behind_stretches k m l _ h)
    ∙ ap (λ n. take n (stretch m ++ rest)) (sym (stretch_length m))
    ∙ take-append_seam (stretch m) rest
