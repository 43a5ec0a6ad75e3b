-- The turns of the loop over all models.
use Rattle.std.specs.Prelude.{◌≡◌, ℕ, ◌+◌, ◌<◌, ◌≤◌, Bool, true, false, not, ◌&&◌, ◌||◌, List, [], ◌∷◌, ◌++◌, length, ◌==◌, ◌≢◌, nat_eq, slice_index, refl}
use Rattle.std.proofs.Common.{sym, ◌∙◌, rules}
use Rattle.std.proofs.Math.Path.{ap}
use Rattle.lists.specs.Lists.{any, each_in, two_of}
use Rattle.lists.proofs.Laws.Booleans.{and_left, and_right, or_neither}
use Rattle.lists.specs.Ranges.{tiling}
use Rattle.nodes.specs.Places.{the}
use Rattle.cifti.specs.Maps.{Voxel, Model, model_of, map_of, vertex_numbers, voxels_of, same_voxel}
use Rattle.cifti.specs.Conditions.{repeats}
use Rattle.marks.specs.Apart.{Marking}
use Rattle.marks.proofs.Laws.Apart.{marking_start, marking_apart, marking_list}
use Rattle.maps.specs.declared.survey.Seen.{Seen}
use Rattle.models.specs.Held.{Holding, held_model, models_at}
use Rattle.models.proofs.Laws.Held.{held_models}
use Rattle.models.specs.Judged.{ListsTold}
use Rattle.models.specs.Ranges.{ranges_of}
use Rattle.models.proofs.Laws.Judging as J
use Rattle.models.proofs.Laws.Judging.{ahead, ahead_all, ahead_one, ahead_none, judging_start, judging_out, judging_fine, judging_place}
use Rattle.models.specs.Judging.{Listable}
use Rattle.models.proofs.Laws.Judging.{judging_known, judging_uneven, judging_on, rule_ranged, rule_volume, rule_holding}
use Rattle.models.proofs.Laws.Judging.{rule_untiled, rule_lists}
use Rattle.models.specs.Listings.{ModelKnown}
use Rattle.models.specs.Verdicts.{verdict_by, lists_verdict, volume_from}
use Rattle.models.specs.declared.gather.Models.{Models}
use Rattle.models.specs.declared.volume.Sizes.{Sizes}
use Rattle.marked_lists.specs.Places.{voxel_place}
use Rattle.marked_lists.specs.Told.{ModelTold, ModelsTold}
use Rattle.marked_lists.proofs.Laws.Listing.{not_told}
use Rattle.marked_lists.specs.declared.places.Grid.{Grid}
use Rattle.marked_lists.specs.declared.listing.Verdict.{Verdict}

-- a model lists a vertex twice; the voxels that it lists
unfoldable pub vertex_twice : Model → Bool
vertex_twice b = two_of nat_eq (vertex_numbers b.listed)

unfoldable pub voxels_in : Model → List Voxel
voxels_in b = voxels_of b.listed

repeats_are : (l : List Model) → repeats l ≡ (any vertex_twice l || two_of same_voxel (each_in voxels_in l))
unfolding repeats vertex_twice voxels_in
repeats_are l = refl

any_more : (b : Model) (l : List Model) → any vertex_twice (b ∷ l) ≡ (vertex_twice b || any vertex_twice l)
unfolding any
any_more b l = refl

any_none : any vertex_twice [] ≡ false
unfolding any
any_none = refl

in_more : (b : Model) (l : List Model) → each_in voxels_in (b ∷ l) ≡ voxels_in b ++ each_in voxels_in l
unfolding each_in
in_more b l = refl

in_none : each_in voxels_in [] ≡ []
unfolding each_in
in_none = refl

pub record ModelsRead (text : List ℕ) (m : Models) (volume : Voxel) (grid : Grid) (before : List ℕ) (out apart : Bool) (i : ℕ)
    (now : List ℕ) : Type 0 where
  pub judging : J.Judging text m volume out i
  pub vertices : apart ≡ true → any vertex_twice (models_at text m) ≡ any vertex_twice (ahead text m i)
  pub voxels : Marking same_voxel (voxel_place grid) (each_in voxels_in (models_at text m)) (each_in voxels_in (ahead text m i)) apart before now

pub models_start : {text : List ℕ} {m : Models} (volume : Voxel) (grid : Grid) (work : List ℕ) → Holding text m
    → ModelsRead text m volume grid work false true 0 work
models_start {text} {m} volume grid work h = record {
  judging = judging_start volume h;
  vertices = λ _. ap (any vertex_twice) (sym (ahead_all text m));
  voxels = rw (ahead_all text m) (marking_start (each_in voxels_in (models_at text m)) work);
}

module _ {text : List ℕ} {m : Models} {volume : Voxel} {grid : Grid} {before now : List ℕ} {out apart : Bool} {i : ℕ}
    (go : ModelsRead text m volume grid before out apart i now) where
  pub models_kept : length now ≡ length before
  models_kept = go.voxels.kept.long

  module _ (u : m.count ≤ i) where
    none : ahead text m i ≡ []
    none = ahead_none text m i u

    all_apart : apart ≡ true → repeats (models_at text m) ≡ false
    all_apart t =
        let marks : Marking same_voxel (voxel_place grid) (each_in voxels_in (models_at text m)) [] apart before now =
        rw (none, in_none) at go.voxels in
        repeats_are (models_at text m)
        ∙ or_neither (go.vertices t ∙ ap (any vertex_twice) none ∙ any_none) (marking_apart marks t)

    number : (b : Bool) → out ≡ b → verdict_by true b ≡ lists_verdict volume (models_at text m)
    unfolding verdict_by
    number true e = judging_out go.judging u e
    number false e = judging_fine go.judging u e

    pub models_done : {a : ℕ} → a ≡ verdict_by true out → (v : Verdict) → v.number ≡ a → v.apart ≡ apart
        → ModelsTold volume (models_at text m) before v now
    models_done x v y z = record { number_is = y ∙ x ∙ number out refl; apart_is = λ t. all_apart (sym z ∙ t); long = models_kept }

  module _ (u : i < m.count) where
    pub models_place : i < 64
    models_place = judging_place go.judging u

    pub models_known : ModelKnown text (slice_index m.at i) (slice_index m.length i) (slice_index m.kind i)
    models_known = judging_known go.judging u

    module _ {v : Verdict} {after : List ℕ} (t : ModelTold volume grid (model_of (the text (slice_index m.at i))) now v after) where
      pub models_uneven : v.number ≡ 11 → (a : Verdict) → a.number ≡ 11 → a.apart ≡ false
          → ModelsTold volume (models_at text m) before a after
      models_uneven h a y z = record {
        number_is = y ∙ judging_uneven go.judging u t.number_is h;
        apart_is = not_told z;
        long = t.voxels_marked.kept.long ∙ models_kept;
      }

      one : ahead text m i ≡ model_of (the text (slice_index m.at i)) ∷ ahead text m (i + 1)
      unfolding held_model
      one = ahead_one text m i u

      pub models_on : (v.number ≢ 11)
          → ModelsRead text m volume grid before (out || v.number == 12) (apart && v.apart) (i + 1) after
      unfolding vertex_twice voxels_in
      models_on h = record {
        judging = judging_on go.judging u t.number_is h;
        vertices = λ y. go.vertices (and_left apart v.apart y) ∙ ap (any vertex_twice) one
            ∙ any_more (model_of (the text (slice_index m.at i))) (ahead text m (i + 1))
            ∙ ap (λ b. b || any vertex_twice (ahead text m (i + 1))) (t.vertices_apart (and_right apart v.apart y));
        voxels = marking_list
            (rw (one, in_more (model_of (the text (slice_index m.at i))) (ahead text m (i + 1))) at go.voxels) t.voxels_marked;
      }

pub ruleset overModels = (models_start, models_kept, models_done, models_place, models_known, models_uneven, models_on, rules)

-- ---- The rule of the map.

module _ {text : List ℕ} {map : ℕ} {m : Models} {seen : Seen} (ask : Listable text map m seen) {t : Bool}
    (e : t ≡ tiling (ranges_of m)) where
  pub told_untiled : not t ≡ true → (work : List ℕ) → ListsTold (map_of (the text map)) work 11 false work
  told_untiled n work = record { number_is = rule_untiled ask e n; apart_is = not_told refl; long = refl }

  pub told_lists : not t ≡ false → {s : Sizes} → volume_from s ≡ (map_of (the text map)).volume → {before : List ℕ} {v : Verdict}
      {after : List ℕ} → ModelsTold (volume_from s) (models_at text m) before v after
      → ListsTold (map_of (the text map)) before v.number v.apart after
  told_lists n {s} q r = record {
    number_is = rule_lists ask e n {s = s} q r.number_is;
    apart_is = λ y. ap repeats (held_models ask.held) ∙ r.apart_is y;
    long = r.long;
  }

pub ruleset rulingLists = (rule_ranged, rule_volume, rule_holding, told_untiled, told_lists, rules)
