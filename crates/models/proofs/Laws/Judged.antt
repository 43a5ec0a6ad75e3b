-- The first of 10, 11 and 12 that applies to some map is the first that applies; and what is held where none does.
use Rattle.std.specs.Prelude.{◌≡◌, refl, List, [], ◌∷◌, Bool, true, false, cond, ◌||◌, ◌&&◌, ℕ, zero, suc, ◌+◌, ◌≤◌, ◌<◌, min, get_or, set}
use Rattle.std.proofs.Math.Path.{sym, ap}
use Rattle.std.proofs.Common.{◌∙◌, length-set, get_or-set_other, ne_eqb}
use native.Mathlib.Omega.{arith}
use Rattle.std.proofs.Math.Decide.{dec_lt}
use Rattle.std.proofs.Math.ListN.{length, get_or-eq_default}
use Rattle.std.proofs.Math.Seq.{get_or-set_same}
use borrow.Author.Rules.{rules}
use Rattle.lists.specs.Lists.{any, those, two_of, each_in}
use Rattle.lists.proofs.Laws.Booleans.{and_left, and_right}
use Rattle.lists.specs.Refusals.{rising, positive, EitherOf, no_rows, row, sooner_refusal}
use Rattle.lists.proofs.Laws.Refusals.{sooner_none, sooner_alone, sooner_first, sooner_second, first_either, given_none, row_fails}
use Rattle.lists.proofs.Laws.Refusals.{rows_past}
use Rattle.nodes.specs.Places.{the}
use Rattle.cifti.specs.Maps.{Map, map_of, is_brain, brain_maps}
use Rattle.cifti.specs.Conditions as C
use Rattle.cifti.specs.Conditions.{◌when◌, models_share, ranges_wrong, numbers_outside, repeats, location_twice}
use Rattle.maps.specs.Survey.{Noted}
use Rattle.maps.specs.Ready.{Ready, maps_at}
use Rattle.maps.specs.Over.{note_at}
use Rattle.maps.proofs.Laws.Over.{Over, over_start, over_done, over_place, over_note, over_next, entry_same, mapped_long}
use Rattle.maps.specs.declared.survey.MapNote.{MapNote}
use Rattle.maps.specs.declared.survey.Maps.{Maps}
use Rattle.models.specs.Brain.{BrainAt}
use Rattle.models.proofs.Laws.Brain.{noted_kind, noted_brain, noted_plain}
use Rattle.models.specs.Fine.{Fine}
use Rattle.models.specs.Gathered.{Gathers}
use Rattle.models.specs.Judged.{model_rows, map_rows, model_refusal, map_refusal, models_held, no_models_lem, HeldFor, HeldAll, Rules}
use Rattle.models.specs.Judged.{JudgesIn, RulesIn, ListsTold, with_ruling}
use Rattle.models.specs.Judging.{Listable}
use Rattle.models.proofs.Laws.Fine.{ranges_more}
use Rattle.models.specs.Verdicts.{lists_rule}
use Rattle.models.specs.declared.gather.Models.{Models}
use Rattle.models.specs.declared.judge.Ruling.{Ruling}
use Rattle.models.specs.declared.judge.Judged.{Judged}

-- ---- The sooner of two numbers.

pub sooner_less : (a b : ℕ) → (a ≡ 0 → ⊥) → (b ≡ 0 → ⊥) → a < b → a ≡ sooner_refusal a b
sooner_less a b k j h = let u : a ≤ b = omega arith in sooner_first a b k j u

pub ruleset choosing = (sooner_none, sooner_alone, sooner_less, sooner_second, rules)

sooner_zero : (a : ℕ) → sooner_refusal a 0 ≡ a
sooner_zero zero = sym (sooner_none 0 0 refl)
sooner_zero (suc a) = sym (sooner_alone (suc a) 0 (λ e. omega arith) refl)

sooner_both : (a b : ℕ) → sooner_refusal (suc a) (suc b) ≡ suc (min a b)
unfolding sooner_refusal
sooner_both a b = rw (ne_eqb (suc a) 0 (λ e. omega arith), ne_eqb (suc b) 0 (λ e. omega arith)) (omega arith)

sooner_assoc : (a b c : ℕ) → sooner_refusal a (sooner_refusal b c) ≡ sooner_refusal (sooner_refusal a b) c
sooner_assoc zero b c = sym (sooner_none 0 (sooner_refusal b c) refl) ∙ ap (λ x. sooner_refusal x c) (sooner_none 0 b refl)
sooner_assoc (suc a) zero c = ap (sooner_refusal (suc a)) (sym (sooner_none 0 c refl))
    ∙ ap (λ x. sooner_refusal x c) (sym (sooner_zero (suc a)))
sooner_assoc (suc a) (suc b) zero = ap (sooner_refusal (suc a)) (sooner_zero (suc b)) ∙ sym (sooner_zero (sooner_refusal (suc a) (suc b)))
sooner_assoc (suc a) (suc b) (suc c) =
    let e : suc (min a (min b c)) ≡ suc (min (min a b) c) = omega arith in
    ap (sooner_refusal (suc a)) (sooner_both b c) ∙ sooner_both a (min b c) ∙ e
    ∙ sym (ap (λ x. sooner_refusal x (suc c)) (sooner_both a b) ∙ sooner_both (min a b) c)

-- there is neither where there is no sooner
sooner_neither : (a b : ℕ) → sooner_refusal a b ≡ 0 → (a ≡ 0) × (b ≡ 0)
sooner_neither zero b e = (refl, sooner_none 0 b refl ∙ e)
sooner_neither (suc a) zero e = let z : suc a ≡ 0 = sym (sooner_zero (suc a)) ∙ e in absurd (omega arith)
sooner_neither (suc a) (suc b) e = let z : suc (min a b) ≡ 0 = sym (sooner_both a b) ∙ e in absurd (omega arith)

-- ---- One map more.

rows_more : (m : Map) (l : List Map) → EitherOf (map_rows m) (model_rows l) (model_rows (m ∷ l))
unfolding models_share numbers_outside any
rows_more m l = rw (ranges_more m l) (row (row (row no_rows)))

pub refusal_more : (m : Map) (l : List Map) → model_refusal (m ∷ l) ≡ sooner_refusal (map_refusal m) (model_refusal l)
unfolding model_refusal map_refusal rising
refusal_more m l = first_either 10 (rows_more m l) refl (omega arith)

pub refusal_none : model_refusal [] ≡ 0
unfolding model_refusal models_share ranges_wrong numbers_outside brain_maps those any C.first
refusal_none = refl

-- none of the three applies where the number is 0
pub refusal_fine : (l : List Map) → model_refusal l ≡ 0 → Fine l
unfolding model_refusal positive
refusal_fine l e =
    let none = given_none (model_rows l) refl e in
    record { share = row_fails none; ranges = row_fails (rows_past 1 none); inside = row_fails (rows_past 2 none) }

pub fine_refusal : {l : List Map} → Fine l → model_refusal l ≡ 0
unfolding model_refusal C.first
fine_refusal f = rw (f.share, f.ranges, f.inside) refl

-- ---- The code's map.

lists_first : (x y : Bool) → C.first (10 when false ∷ 11 when x ∷ 12 when y ∷ []) ≡ cond x 11 (cond y 12 0)
unfolding C.first
lists_first true y = refl
lists_first false true = refl
lists_first false false = refl

not_decided : {P : Type 0} {b : Bool} → b ≡ false → b ≡ true → P
not_decided f t = absurd (let e : true ≡ false = sym t ∙ f in let k : ◌≡◌ {A = ℕ} 0 1 = cc in omega arith)

module _ {text : List ℕ} {n : MapNote} (m : Noted text n) {b : Bool} (p : b ≡ is_brain n.kind) where
  pub rule_other : b ≡ false → (work : List ℕ) (a : Ruling) → a.number ≡ 0 → RulesIn text n work a work
  unfolding map_refusal two_of any C.first repeats each_in
  rule_other f work a z = record {
    rules = record {
      number_is = z ∙ rw (noted_kind m p ∙ f, noted_plain m p f) refl;
      held = λ _. record { gathered = λ t. not_decided (sym p ∙ f) t };
      apart_is = λ _. rw (noted_plain m p f);
    };
    long = refl;
  }

  module _ (t : b ≡ true) where
    pub rule_brain : BrainAt text n.at
    rule_brain = noted_brain m p t

    module _ {r : Models} (g : Gathers text n.at r) where
      pub rule_shared : r.shared ≡ true → (work : List ℕ) (a : Ruling) → a.number ≡ 10 → a.apart ≡ false → RulesIn text n work a work
      unfolding map_refusal C.first
      rule_shared s work a z u = record {
        rules = record {
          number_is = z ∙ rw (sym g.shared_is ∙ s) refl;
          held = λ y. absurd (omega arith);
          apart_is = not_decided u;
        };
        long = refl;
      }

      pub rule_held : r.shared ≡ false → Listable text n.at r n.volume
      rule_held s = record { held = record { brain = rule_brain; held = g.holding s }; seen = m.volume (sym p ∙ t) }

      pub rule_lists : r.shared ≡ false → {before after : List ℕ} {k : ℕ} {d : Bool}
          → ListsTold (map_of (the text n.at)) before k d after → (a : Ruling) → a.number ≡ k → a.apart ≡ d
          → a.models ≡ r → RulesIn text n before a after
      unfolding map_refusal lists_rule
      rule_lists s q a z u h = record {
        rules = record {
          number_is = z ∙ q.number_is ∙ sym (rw (noted_kind m p ∙ t, sym g.shared_is ∙ s) (lists_first _ _));
          held = λ _. record { gathered = λ _. rw h (g.holding s) };
          apart_is = λ y. q.apart_is (sym u ∙ y);
        };
        long = q.long;
      }

pub ruleset ruling = (rule_other, rule_brain, rule_shared, rule_held, rule_lists, rules)

-- ---- Map after map.

pub with_number : (j : Judged) (i : ℕ) (r : Ruling) {n : ℕ} → n ≡ sooner_refusal j.number r.number
    → ◌≡◌ {A = Judged} (record { number = n; apart = j.apart && r.apart; each = set j.each i r.models }) (with_ruling j i r)
with_number j i r e = rw e refl

pub ruleset with_ruling_laws = (with_number, rules)

-- the first of all is the sooner of what was found and the first of those that are left; and 14 is decided by those that are left
pub record Judge (all : List Map) (found : ℕ) (apart : Bool) (l : List Map) : Type 0 where
  pub so_far : model_refusal all ≡ sooner_refusal found (model_refusal l)
  pub apart_so_far : apart ≡ true → location_twice all ≡ location_twice l

-- and of the maps before the i-th the models are held
pub record Judging (text : List ℕ) (maps : Maps) (before : List ℕ) (j : Judged) (i : ℕ) (now : List ℕ) : Type 0 where
  pub over_maps : Over text maps (Judge (maps_at text maps) j.number j.apart) i
  pub long : length now ≡ length before
  pub three : length j.each ≡ 3
  pub within : i ≤ maps.count
  pub held : j.number ≡ 0 → (k : ℕ) → k < i → HeldFor text (note_at maps k) (models_held j k)

module _ {text : List ℕ} {maps : Maps} where
  pub judging_start : Ready text maps → (work : List ℕ) (j : Judged) → j.number ≡ 0 → length j.each ≡ 3
      → Judging text maps work j 0 work
  judging_start r work j z t = record {
    over_maps = over_start r (record {
      so_far = sooner_none 0 (model_refusal (maps_at text maps)) refl
          ∙ ap (λ x. sooner_refusal x (model_refusal (maps_at text maps))) (sym z);
      apart_so_far = λ _. refl;
    });
    long = refl;
    three = t;
    within = omega arith;
    held = λ _ k u. absurd (omega arith);
  }

  module _ {before now : List ℕ} {j : Judged} {i : ℕ} (go : Judging text maps before j i now) where
    pub judging_kept : length now ≡ length before
    judging_kept = go.long

    pub judging_done : maps.count ≤ i → JudgesIn text maps before j now
    unfolding location_twice any
    judging_done h = record {
      judges = record {
        number_is = sym ((over_done go.over_maps h).so_far ∙ ap (sooner_refusal j.number) refusal_none ∙ sooner_zero j.number);
        held = λ z. record { held = λ k u. go.held z k (omega arith) };
        apart_is = (over_done go.over_maps h).apart_so_far;
      };
      long = go.long;
    }

    module _ (u : i < maps.count) where
      pub judging_place : i < 3
      judging_place = over_place go.over_maps u

      module _ {n : MapNote} (e : n ≡ note_at maps i) where
        pub judging_note : Noted text n
        judging_note = over_note go.over_maps u e

        held_more : {r : Ruling} → Rules text n r → sooner_refusal j.number r.number ≡ 0 → (k : ℕ) → k < i + 1 → Dec (k < i)
            → HeldFor text (note_at maps k) (models_held (with_ruling j i r) k)
        unfolding models_held
        held_more {r} s z k v (yes h) = rw (get_or-set_other j.each i k r.models no_models_lem (λ q. omega arith))
            (go.held (sooner_neither j.number r.number z).0 k h)
        held_more {r} s z k v (no h) =
            let q : k ≡ i = omega arith in
            let w : i < length j.each = (let t = go.three in let f = go.over_maps.ready.few in omega arith) in
            rw (q, get_or-set_same j.each i r.models no_models_lem w) (rw e at (s.held (sooner_neither j.number r.number z).1))

        apart_more : {r : Ruling} → Rules text n r → (l : List Map) → (j.apart && r.apart) ≡ true
            → location_twice (map_of (the text n.at) ∷ l) ≡ location_twice l
        unfolding location_twice any
        apart_more {r} s l y = ap (λ b. b || location_twice l) (s.apart_is (and_right j.apart r.apart y))

        pub judging_more : {r : Ruling} {after : List ℕ} → RulesIn text n now r after → {j₁ : Judged} → j₁ ≡ with_ruling j i r
            → Judging text maps before j₁ (i + 1) after
        judging_more {r} rl q = let s = rl.rules in rw q (record {
          over_maps = over_next go.over_maps u e (λ l h. record {
            so_far = h.so_far ∙ ap (sooner_refusal j.number)
                (refusal_more (map_of (the text n.at)) l ∙ ap (λ x. sooner_refusal x (model_refusal l)) (sym s.number_is))
                ∙ sooner_assoc j.number r.number (model_refusal l);
            apart_so_far = λ y. h.apart_so_far (and_left j.apart r.apart y) ∙ apart_more s l y;
          });
          long = rl.long ∙ go.long;
          three = length-set j.each i r.models ∙ go.three;
          within = omega arith;
          held = λ z k v. held_more s z k v (dec_lt k i);
        })

pub ruleset judging = (judging_start, judging_kept, judging_done, judging_place, judging_note, judging_more, rules)

-- ---- What is held of each.

module _ (j : Judged) {i : ℕ} (t : length j.each ≡ 3) where
  pub held_in : i < 3 → (z : Models) → get_or j.each i z ≡ models_held j i
  unfolding models_held
  held_in h z = entry_same j.each i z no_models_lem (omega arith)

  pub held_past : 3 ≤ i → {m : Models} → m ≡ no_models_lem → m ≡ models_held j i
  unfolding models_held
  held_past h e = e ∙ sym (get_or-eq_default j.each no_models_lem (omega arith))

pub ruleset holding = (held_in, held_past, mapped_long, rules)

-- a loop over the maps with what is held of each

pub record OverHeld (text : List ℕ) (maps : Maps) (j : Judged) (P : List Map → Type 0) (i : ℕ) : Type 0 where
  pub over_maps : Over text maps P i
  pub held : HeldAll text maps j

module _ {text : List ℕ} {maps : Maps} {j : Judged} {P : List Map → Type 0} {i : ℕ} (go : OverHeld text maps j P i)
    (u : i < maps.count) where
  pub held_place : i < 3
  held_place = over_place go.over_maps u

  pub held_here : {n : MapNote} → n ≡ note_at maps i → {m : Models} → m ≡ models_held j i → HeldFor text n m
  held_here e q = rw (e, q) (go.held.held i u)
