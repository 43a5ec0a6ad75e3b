-- What is proved of Judging.
use Rattle.std.specs.Prelude.{◌≡◌, List, [], ◌∷◌, Bool, ◌||◌, ◌&&◌, ℕ, ◌+◌, ◌-◌, ◌<◌, ◌≤◌, eqb, get_or}
use Rattle.std.proofs.Math.Path.{refl, sym, ap₂}
use Rattle.std.proofs.Common.{ap, ◌∙◌, arith, rules}
use Rattle.std.proofs.Math.Bool.{true, false, cond, not}
use Rattle.lists.proofs.Laws.Booleans.{or_assoc, or_false, or_true}
use Rattle.lists.specs.Ranges.{tiling}
use Rattle.lists.specs.Lists.{count_up, all, any, count, all_below}
use Rattle.nodes.specs.Places.{the}
use Rattle.cifti.specs.Maps.{Voxel, Model, Map, model_of, map_of, length_of, covers}
use Rattle.cifti.specs.Conditions.{lists_count, uneven, beyond}
use Rattle.maps.specs.declared.survey.Seen.{Seen}
use Rattle.models.specs.Sizes.{VolumeNoted}
use Rattle.lists.proofs.Laws.Tables.{up_one, up_done, up_all}
use Rattle.models.specs.Ranges.{ranges_of, Ranged}
use Rattle.models.specs.Held.{Holding, BrainHeld, held_model, models_at}
use Rattle.models.proofs.Laws.Held.{holding, held_models, held_ranged, held_tiling}
use Rattle.models.specs.Listings.{ModelKnown}
use Rattle.models.specs.Verdicts.{verdict_by, list_verdict, lists_verdict, lists_rule, volume_from}
use Rattle.models.specs.declared.gather.Models.{Models}
use Rattle.models.specs.declared.volume.Sizes.{Sizes}
use Rattle.models.specs.Judging.{Listable}

-- a model lists as many as it counts
unfoldable pub even_in : Model → Bool
even_in b = lists_count b.count b.listed

unfoldable pub past_in : Voxel → Model → Bool
past_in volume b = beyond volume b.listed

verdict_is : (volume : Voxel) (b : Model) → list_verdict volume b ≡ verdict_by (even_in b) (past_in volume b)
unfolding list_verdict even_in past_in
verdict_is volume b = refl

verdicts_are : (volume : Voxel) (l : List Model) → lists_verdict volume l ≡ verdict_by (all even_in l) (any (past_in volume) l)
unfolding lists_verdict even_in past_in
verdicts_are volume l = refl

-- the verdict tells both
told_11 : (even out : Bool) → verdict_by even out ≡ 11 → even ≡ false
unfolding verdict_by
told_11 true true h = absurd (omega arith)
told_11 true false h = absurd (omega arith)
told_11 false out h = refl

told_even : (even out : Bool) → (verdict_by even out ≡ 11 → ⊥) → (even ≡ true) × (eqb (verdict_by even out) 12 ≡ out)
unfolding verdict_by
told_even true true h = (refl, refl)
told_even true false h = (refl, refl)
told_even false out h = absurd (h refl)

pub ahead : List ℕ → Models → ℕ → List Model
ahead text m i = count_up (held_model text m) i (m.count - i)

pub ahead_all : (text : List ℕ) (m : Models) → ahead text m 0 ≡ models_at text m
unfolding ahead models_at
ahead_all text m = up_all (held_model text m) m.count

pub ahead_one : (text : List ℕ) (m : Models) (i : ℕ) → i < m.count → ahead text m i ≡ held_model text m i ∷ ahead text m (i + 1)
unfolding ahead
ahead_one text m i h = up_one (held_model text m) i m.count h

pub ahead_none : (text : List ℕ) (m : Models) (i : ℕ) → m.count ≤ i → ahead text m i ≡ []
unfolding ahead
ahead_none text m i h = up_done (held_model text m) i m.count h

all_one : (b : Model) (l : List Model) → all even_in (b ∷ l) ≡ (even_in b && all even_in l)
unfolding all
all_one b l = refl

all_nil : all even_in [] ≡ true
unfolding all
all_nil = refl

any_one : (volume : Voxel) (b : Model) (l : List Model) → any (past_in volume) (b ∷ l) ≡ (past_in volume b || any (past_in volume) l)
unfolding any
any_one volume b l = refl

any_nil : (volume : Voxel) → any (past_in volume) [] ≡ false
unfolding any
any_nil volume = refl

pub record Judging (text : List ℕ) (m : Models) (volume : Voxel) (out : Bool) (i : ℕ) : Type 0 where
  pub holding_all : Holding text m
  pub within : i ≤ m.count
  pub even : all even_in (models_at text m) ≡ all even_in (ahead text m i)
  pub past : any (past_in volume) (models_at text m) ≡ (out || any (past_in volume) (ahead text m i))

pub judging_start : {text : List ℕ} {m : Models} (volume : Voxel) → Holding text m → Judging text m volume false 0
judging_start {text} {m} volume h = record {
  holding_all = h;
  within = omega arith;
  even = ap (all even_in) (sym (ahead_all text m));
  past = ap (any (past_in volume)) (sym (ahead_all text m));
}

module _ {text : List ℕ} {m : Models} {volume : Voxel} {out : Bool} {i : ℕ} (go : Judging text m volume out i) where
  module _ (u : m.count ≤ i) where
    done : lists_verdict volume (models_at text m) ≡ verdict_by true out
    done =
        let n = ahead_none text m i u in
        verdicts_are volume (models_at text m)
        ∙ ap₂ verdict_by (go.even ∙ ap (all even_in) n ∙ all_nil)
        (go.past ∙ ap (λ l. out || any (past_in volume) l) n ∙ ap (λ b. out || b) (any_nil volume) ∙ or_false out)

    pub judging_out : out ≡ true → 12 ≡ lists_verdict volume (models_at text m)
    unfolding verdict_by
    judging_out t = sym (done ∙ rw t)

    pub judging_fine : out ≡ false → 0 ≡ lists_verdict volume (models_at text m)
    unfolding verdict_by
    judging_fine t = sym (done ∙ rw t)

  module _ (u : i < m.count) where
    pub judging_place : i < 64
    judging_place = omega (arith, go.holding_all.sized.few)

    pub judging_known : ModelKnown text (get_or m.at i 0) (get_or m.length i 0) (get_or m.kind i 0)
    judging_known = let x = go.holding_all.holds i u in record { model = x.model; length_is = x.length_is; kind_is = x.kind_is }

    one : ahead text m i ≡ held_model text m i ∷ ahead text m (i + 1)
    one = ahead_one text m i u

    module _ {v : ℕ} (e : v ≡ list_verdict volume (model_of (the text (get_or m.at i 0)))) where
      is : v ≡ verdict_by (even_in (held_model text m i)) (past_in volume (held_model text m i))
      unfolding held_model
      is = e ∙ verdict_is volume (model_of (the text (get_or m.at i 0)))

      evens : all even_in (models_at text m) ≡ (even_in (held_model text m i) && all even_in (ahead text m (i + 1)))
      evens = go.even ∙ ap (all even_in) one ∙ all_one (held_model text m i) (ahead text m (i + 1))

      pub judging_uneven : v ≡ 11 → 11 ≡ lists_verdict volume (models_at text m)
      unfolding verdict_by
      judging_uneven h =
          let f = told_11 (even_in (held_model text m i)) (past_in volume (held_model text m i)) (sym is ∙ h) in
          let z : all even_in (models_at text m) ≡ false = evens ∙ rw f in
          sym (verdicts_are volume (models_at text m) ∙ rw z)

      pub judging_on : (v ≡ 11 → ⊥) → Judging text m volume (out || eqb v 12) (i + 1)
      judging_on h =
          let (x, y) = told_even (even_in (held_model text m i)) (past_in volume (held_model text m i)) (λ z. h (is ∙ z)) in
          let p : past_in volume (held_model text m i) ≡ eqb v 12 = sym (ap (λ k. eqb k 12) is ∙ y) in
          record {
            holding_all = go.holding_all;
            within = omega arith;
            even = evens ∙ rw x;
            past = go.past ∙ ap (λ l. out || any (past_in volume) l) one
                ∙ ap (λ b. out || b) (any_one volume (held_model text m i) (ahead text m (i + 1)))
                ∙ ap (λ b. out || (b || any (past_in volume) (ahead text m (i + 1)))) p
                ∙ or_assoc out (eqb v 12) (any (past_in volume) (ahead text m (i + 1)));
          }

pub ruleset judgingAll = (judging_start, judging_out, judging_fine, judging_place, judging_known, judging_uneven, judging_on, rules)

-- ---- The rule.

not_all : (l : List Model) → any (λ b. not (even_in b)) l ≡ not (all even_in l)
unfolding any all
not_all [] = refl
not_all (b ∷ l) = go (even_in b) (not_all l)
  where
    go : (t : Bool) → any (λ b. not (even_in b)) l ≡ not (all even_in l) → (not t || any (λ b. not (even_in b)) l) ≡ not (t && all even_in l)
    go true h = h
    go false h = refl

uneven_is : (m : Map) → uneven m ≡ (not (all even_in m.models) || not (all_below (length_of m) (λ n. eqb (count (covers n) m.models) 1)))
unfolding uneven even_in
uneven_is m = ap (λ t. t || not (all_below (length_of m) (λ n. eqb (count (covers n) m.models) 1))) (not_all m.models)

module _ {text : List ℕ} {map : ℕ} {m : Models} {seen : Seen} (ask : Listable text map m seen) where
  h : BrainHeld text map m
  h = ask.held

  pub rule_volume : VolumeNoted text map seen
  rule_volume = record { brain = h.brain; seen = ask.seen }

  pub rule_ranged : Ranged m
  rule_ranged = held_ranged (holding h.held)

  pub rule_holding : Holding text m
  rule_holding = holding h.held

  module _ {t : Bool} (e : t ≡ tiling (ranges_of m)) where
    tiled : all_below (length_of (map_of (the text map))) (λ n. eqb (count (covers n) (map_of (the text map)).models) 1) ≡ t
    tiled = sym (e ∙ held_tiling h)

    pub rule_untiled : not t ≡ true → 11 ≡ lists_rule (map_of (the text map))
    unfolding lists_rule
    rule_untiled n =
        let u : uneven (map_of (the text map)) ≡ true = uneven_is (map_of (the text map))
        ∙ rw (tiled, n) (or_true (not (all even_in (map_of (the text map)).models))) in
        sym (rw u)

    pub rule_lists : not t ≡ false → {s : Sizes} → volume_from s ≡ (map_of (the text map)).volume → {r : ℕ}
        → r ≡ lists_verdict (volume_from s) (models_at text m) → r ≡ lists_rule (map_of (the text map))
    unfolding lists_rule verdict_by past_in
    rule_lists n {s} v {r} x =
        let u : uneven (map_of (the text map)) ≡ not (all even_in (map_of (the text map)).models) = uneven_is (map_of (the text map))
        ∙ rw (tiled, n) (or_false (not (all even_in (map_of (the text map)).models))) in
        x ∙ ap₂ lists_verdict v (sym (held_models h)) ∙ verdicts_are (map_of (the text map)).volume (map_of (the text map)).models
        ∙ sym (rw u (turned (all even_in (map_of (the text map)).models)
        (any (past_in (map_of (the text map)).volume) (map_of (the text map)).models)))
      where
        turned : (a b : Bool) → cond (not a) 11 (cond b 12 0) ≡ verdict_by a b
        turned true b = refl
        turned false b = refl

pub ruleset ruling = (rule_ranged, rule_volume, rule_holding, rule_untiled, rule_lists, rules)
