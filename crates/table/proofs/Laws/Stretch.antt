-- What is proved of Stretch.
use Rattle.std.specs.Prelude.{◌≡◌, refl, List, [], ◌∷◌, ◌++◌, Bool, true, false, cond, ℕ, ◌+◌, ◌<◌, ◌^◌, length}
use Rattle.std.proofs.Common.{sym, ap, ◌∙◌, arith, length-append, rules}
use Rattle.lists.specs.Lists.{each_in, those, total}
use Rattle.records.specs.Fill.{wrote, wrote_none}
use Rattle.cifti.specs.Maps.{Map, brain_maps, is_brain, length_of}
use Rattle.cifti.specs.Answer.{reach, stretch, stretches}
use Rattle.cifti.proofs.Laws.Said.{stretch_length}
use Rattle.maps.specs.declared.survey.MapNote.{MapNote}
use Rattle.models.proofs.Laws.Brain.{noted_kind, noted_brain}
use Rattle.models.specs.declared.gather.Models.{Models}
use Rattle.table.specs.Placing.{Placing, ModelsPlaced}
use Rattle.table.specs.Ready.{MapReady, map_at}
use Rattle.table.proofs.Laws.Ready.{Filled, ready_placing, ready_filled}
use Rattle.table.specs.Stretch.{stretch_of, Writable, Written}

pub stretches_one : (m : Map) (l : List Map) → stretches (m ∷ l) ≡ stretch_of m ++ stretches l
unfolding stretches brain_maps those each_in stretch_of
stretches_one m l = go (is_brain m.kind)
  where
    go : (b : Bool) → each_in stretch (cond b (m ∷ brain_maps l) (brain_maps l)) ≡ cond b (stretch m) [] ++ each_in stretch (brain_maps l)
    go true = refl
    go false = refl

length_all : (l : List Map) → length (each_in stretch l) ≡ total length_of l
unfolding each_in total
length_all [] = refl
length_all (m ∷ l) = omega (arith, length-append (stretch m) (each_in stretch l), stretch_length m, length_all l)

pub stretches_length : (l : List Map) → length (stretches l) ≡ total length_of (brain_maps l)
unfolding stretches
stretches_length l = length_all (brain_maps l)

-- how many places it takes
pub stretch_long : (m : Map) → length (stretch_of m) ≡ reach m
unfolding stretch_of reach
stretch_long m = go (is_brain m.kind)
  where
    go : (b : Bool) → length (cond b (stretch m) []) ≡ cond b (length_of m) 0
    go true = stretch_length m
    go false = refl

module _ {text : List ℕ} {n : MapNote} {m : Models} {room start : ℕ} (w : Writable text n m room start) {b : Bool}
    (p : b ≡ is_brain n.kind) where
  no_stretch : b ≡ false → stretch_of (map_at text n.at) ≡ []
  unfolding stretch_of
  no_stretch f = rw (noted_kind w.noted p ∙ f)

  pub stretch_other : b ≡ false → (before : List ℕ) → Written text n.at before start start before
  stretch_other f before = record {
    written = sym (ap (λ s. wrote start s before) (no_stretch f) ∙ wrote_none start before);
    ends = omega (arith, ap length (no_stretch f));
  }

  module _ (t : b ≡ true) where
    its_stretch : stretch_of (map_at text n.at) ≡ stretch (map_at text n.at)
    unfolding stretch_of
    its_stretch = rw (noted_kind w.noted p ∙ t)

    its_length : length (stretch_of (map_at text n.at)) ≡ length_of (map_at text n.at)
    its_length = ap length its_stretch ∙ stretch_length (map_at text n.at)

    -- a fine brain map can be filled
    pub stretch_ready : MapReady text n.at m room start
    stretch_ready = record {
      brain = noted_brain w.noted p t;
      gathered = w.held.gathered (sym p ∙ t);
      apart = w.fine.apart;
      even = w.fine.even (noted_kind w.noted p ∙ t);
      in_volume_lem = w.fine.in_volume_lem;
      enough = omega (arith, w.enough, its_length);
    }

    pub stretch_placing : Placing text m room start
    stretch_placing = ready_placing stretch_ready

    module _ {before : List ℕ} {k : ℕ} {after : List ℕ} (f : ModelsPlaced text m before start k after) (e : length before ≡ room) where
      filled : Filled text n.at before start k after
      filled = ready_filled stretch_ready f e

      pub stretch_fits : room < 2 ^ 64 → start + k < 2 ^ 64
      stretch_fits h = omega (arith, w.enough, its_length, filled.counted)

      pub stretch_brain : Written text n.at before start (start + k) after
      stretch_brain = record {
        written = filled.written ∙ ap (λ s. wrote start s before) (sym its_stretch);
        ends = omega (arith, its_length, filled.counted);
      }

pub ruleset stretching = (stretch_other, stretch_placing, stretch_fits, stretch_brain, rules)
