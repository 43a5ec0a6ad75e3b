-- What is proved of Twice.
use Rattle.std.specs.Prelude.{◌≡◌, ◌↔◌, List, [], ◌∷◌, map, Bool, cond, ◌||◌, ℕ, zero, ◌+◌, ◌-◌, ◌<◌, ◌≤◌, max, take, drop, replicate}
use Rattle.std.proofs.Math.Path.{refl, sym, ap}
use Rattle.std.proofs.Common.{◌∙◌, take_all, take_at, get_or-take, rules}
use Rattle.std.proofs.Math.Bool.{true, false}
use Rattle.std.proofs.Math.Decide.{dec_lt}
use native.Mathlib.Omega.{arith}
use Rattle.std.proofs.Math.Dec.{eqb}
use Rattle.std.proofs.Math.ListN.{length, get_or, set, length-set, length-map, length-replicate}
use Rattle.std.proofs.Math.Seq.{length-take-le}
use Rattle.lists.proofs.Laws.Booleans.{refute, both_ways}
use Rattle.lists.specs.Lists.{any, those, each_in, total, greatest, two_of}
use Rattle.nodes.specs.Places.{the}
use Rattle.records.specs.Record.{key_of}
use Rattle.records.proofs.Laws.Record.{key_at}
use Rattle.records.specs.Fill.{wrote, wrote_none, wrote_next, length_wrote}
use Rattle.records.specs.Repeat.{Repeats, repeat_refusal, ChecksRepeats}
use Rattle.records.proofs.Laws.Repeat.{two_repeats, repeat_told}
use Rattle.cifti.specs.Maps.{Map, map_of, length_of, is_brain, brain_maps}
use Rattle.cifti.specs.Conditions.{repeats, location_twice}
use Rattle.cifti.specs.Answer.{reach, record_at, stretch}
use Rattle.cifti.proofs.Laws.Meaning.{even_iff}
use Rattle.cifti.proofs.Laws.Said.{stretch_length, stretch_at}
use Rattle.cifti.proofs.Laws.Keys.{OneKey, by_key}
use Rattle.maps.proofs.Laws.Fill.{wrote_past}
use Rattle.maps.specs.Ready as M
use Rattle.maps.specs.Ready.{maps_at}
use Rattle.maps.specs.Over.{note_at}
use Rattle.maps.proofs.Laws.Over.{over_start, over_done, over_note, over_here, over_next, from}
use Rattle.maps.specs.declared.survey.MapNote.{MapNote}
use Rattle.maps.specs.declared.survey.Maps.{Maps}
use Rattle.models.proofs.Laws.Brain.{noted_plain}
use Rattle.models.specs.Judged.{models_held}
use Rattle.models.proofs.Laws.Fine.{fine_first, fine_rest}
use Rattle.models.proofs.Laws.Judged.{OverHeld, held_place, held_here}
use Rattle.models.specs.declared.gather.Models.{Models}
use Rattle.models.specs.declared.judge.Judged.{Judged}
use Rattle.table.specs.Placing.{ModelsPlaced}
use Rattle.table.specs.Ready.{map_at, MapReady}
use Rattle.table.proofs.Laws.Ready.{Filled, nobody, counts, all_fits, sum_is, ready_filled}
use Rattle.table.specs.Stretch.{stretch_of, Writable}
use Rattle.table.proofs.Laws.Stretch.{stretch_long, stretch_ready, stretch_placing}
use Rattle.table.specs.Twice.{KeyTwice, ToldOne, Roomy, AllFine, ToldAll}

-- ---- Records into keys, in place.

pub record Keying (before : List ℕ) (n i : ℕ) (work : List ℕ) : Type 0 where
  pub enough : n ≤ length before
  pub within : i ≤ n
  pub kept : length work ≡ length before
  pub keyed : work ≡ wrote 0 (take i (map key_of (take n before))) before

pub keying_start : {n : ℕ} {work : List ℕ} → n ≤ length work → Keying work n 0 work
keying_start {n} {work} h = record { enough = h; within = omega arith; kept = refl; keyed = sym (wrote_none 0 work) }

module _ {before : List ℕ} {n i : ℕ} {work : List ℕ} (go : Keying before n i work) where
  keys : List ℕ
  keys = map key_of (take n before)

  keys_long : length keys ≡ n
  unfolding keys
  keys_long = length-map (take n before) key_of ∙ length-take-le n before go.enough

  pub keying_kept : length work ≡ length before
  keying_kept = go.kept

  pub keying_done : n ≤ i → work ≡ wrote 0 (map key_of (take n before)) before
  unfolding keys
  keying_done h = go.keyed ∙ ap (λ l. wrote 0 l before) (take_all i keys (omega (arith, keys_long)))

  module _ (h : i < n) where
    pub keying_place : i < length work
    keying_place = omega (arith, go.kept, go.enough)

    pub keying_on : {k : ℕ} → k ≡ key_of (get_or work i 0) → Keying before n (i + 1) (set work i k)
    unfolding keys
    keying_on {k} e =
        let z : 0 + i ≡ i = omega arith in
        let l : length (take i keys) ≡ i = length-take-le i keys (omega (arith, keys_long)) in
        let was : get_or work i 0 ≡ get_or before i 0 = ap (λ w. get_or w i 0) go.keyed
        ∙ wrote_past 0 (take i keys) before (omega (arith, go.enough)) i (omega arith) in
        let is : k ≡ get_or keys i 0 = e ∙ ap key_of (was ∙ sym (get_or-take n before i 0 h)) ∙ sym (key_at (take n before) i) in
        record {
          enough = go.enough;
          within = omega arith;
          kept = length-set work i k ∙ go.kept;
          keyed = ap (λ w. set w i k) go.keyed ∙ ap (λ j. set (wrote 0 (take i keys) before) j k) (sym z)
              ∙ wrote_next 0 i k keys before (omega (arith, keys_long)) (omega (arith, go.enough)) is;
        }

pub ruleset keying = (keying_start, keying_kept, keying_done, keying_place, keying_on, rules)

module _ {n : ℕ} (before : List ℕ) (h : n ≤ length before) {w₁ : List ℕ} (k : w₁ ≡ wrote 0 (map key_of (take n before)) before) where
  keys_n : length (map key_of (take n before)) ≡ n
  keys_n = length-map (take n before) key_of ∙ length-take-le n before h

  kept₁ : length w₁ ≡ length before
  kept₁ = ap length k ∙ length_wrote 0 (map key_of (take n before)) before (omega (arith, keys_n))

  keys_are : take n w₁ ≡ map key_of (take n before)
  keys_are = ap (take n) k ∙ take_at (map key_of (take n before)) (drop (0 + length (map key_of (take n before))) before) n keys_n

  pub key_told : {a : ℕ} {w₂ : List ℕ} → ChecksRepeats n (take n w₁) w₁ a w₂ → KeyTwice n before (eqb a 14) w₂
  key_told {a} c =
      let room : n ≤ length w₁ = omega (arith, kept₁) in
      record {
        told = ap (λ j. eqb j 14) (c.answers ∙ ap (repeat_refusal n (length w₁)) keys_are)
            ∙ repeat_told n (length w₁) (map key_of (take n before)) room;
        cleared = c.zero ∙ ap (λ j. replicate j 0) kept₁;
      }

pub ruleset key_twice = (key_told, rules)

-- ---- A key twice in the stretch.

module _ {text : List ℕ} {m : ℕ} {held : Models} {room : ℕ} (r : MapReady text m held room 0) where
  size : length_of (map_at text m) ≡ total (λ b. b.count) (map_at text m).models
  size = sum_is r.brain

  Key : Type 0
  Key =
      OneKey nobody (map_at text m).models r.apart ((even_iff nobody (map_at text m)).0 r.even).lists
      (λ n u. ((even_iff nobody (map_at text m)).0 r.even).one n (omega (arith, size))) (counts r.brain)
      (all_fits r.brain r.in_volume_lem)

  applies : (repeats (map_at text m).models ≡ true) ↔ Key
  unfolding Key
  applies =
      by_key nobody (map_at text m).models r.apart ((even_iff nobody (map_at text m)).0 r.even).lists
      (λ n u. ((even_iff nobody (map_at text m)).0 r.even).one n (omega (arith, size))) (counts r.brain)
      (all_fits r.brain r.in_volume_lem)

  stretch_keys : List ℕ
  stretch_keys = map key_of (stretch (map_at text m))

  key_of_lem : (i : ℕ) → i < length_of (map_at text m) → get_or stretch_keys i 0 ≡ key_of (record_at (map_at text m).models i)
  unfolding stretch_keys
  key_of_lem i u = key_at (stretch (map_at text m)) i ∙ ap key_of (stretch_at (map_at text m) i u)

  keys_many : length stretch_keys ≡ length_of (map_at text m)
  unfolding stretch_keys
  keys_many = length-map (stretch (map_at text m)) key_of ∙ stretch_length (map_at text m)

  to_key : Repeats stretch_keys → Key
  unfolding Key
  to_key t = go (dec_lt t.one t.two)
    where
      u : t.one < length_of (map_at text m)
      u = omega (arith, t.one_in, keys_many)

      v : t.two < length_of (map_at text m)
      v = omega (arith, t.two_in, keys_many)

      go : Dec (t.one < t.two) → Key
      go (yes h) = record {
        first = t.one;
        second = t.two;
        order = h;
        in_map = omega (arith, size, v);
        same = sym (key_of_lem t.one u)
            ∙ t.same ∙ key_of_lem t.two v;
      }
      go (no h) =
          let k : t.two < t.one = below t.one t.two h t.apart in
          record {
            first = t.two;
            second = t.one;
            order = k;
            in_map = omega (arith, size, u);
            same = sym (key_of_lem t.two v)
                ∙ sym t.same ∙ key_of_lem t.one u;
          }
        where
          below : (i j : ℕ) → (i < j → ⊥) → (i ≡ j → ⊥) → j < i
          below i j h e = omega arith

  from_key : Key → Repeats stretch_keys
  unfolding Key
  from_key t =
      let v : t.second < length_of (map_at text m) = omega (arith, size, t.in_map) in
      let u : t.first < length_of (map_at text m) = omega (arith, t.order) in
      record {
        one = t.first;
        two = t.second;
        one_in = omega (arith, keys_many);
        two_in = omega (arith, keys_many);
        apart = λ e. omega (arith, t.order);
        same = key_of_lem t.first u ∙ t.same ∙ sym (key_of_lem t.second v);
      }

module _ {text : List ℕ} {m : ℕ} {held : Models} {before : List ℕ} (r : MapReady text m held (length before) 0) {n : ℕ} {w₁ : List ℕ}
    (f : Filled text m before 0 n w₁) where
  long : length (stretch (map_at text m)) ≡ n
  long = stretch_length (map_at text m) ∙ sym f.counted

  kept : length w₁ ≡ length before
  kept = ap length f.written ∙ length_wrote 0 (stretch (map_at text m)) before (omega (arith, r.enough, long, f.counted))

  enough : n ≤ length w₁
  enough = omega (arith, r.enough, kept, f.counted)

  records : take n w₁ ≡ stretch (map_at text m)
  records = ap (take n) f.written ∙ take_at (stretch (map_at text m)) (drop (0 + length (stretch (map_at text m))) before) n long

  told_by_lem : {a : Bool} {w₂ : List ℕ} → KeyTwice n w₁ a w₂ → ToldOne text m before a w₂
  unfolding stretch_keys
  told_by_lem {a} {w₂} k = record {
    told = k.told ∙ ap (λ l. two_of eqb (map key_of l)) records ∙ go (two_of eqb (stretch_keys r)) refl;
    long = ap length k.cleared ∙ length-replicate (length w₁) 0 ∙ kept;
  }
    where
      go : (b : Bool) → two_of eqb (stretch_keys r) ≡ b → b ≡ repeats (map_at text m).models
      go true e = sym ((applies r).1 (to_key r ((two_repeats (stretch_keys r)).0 e)))
      go false e = sym (refute (repeats (map_at text m).models)
          (λ h. both_ways ((two_repeats (stretch_keys r)).1 (from_key r ((applies r).0 h))) e))

-- ---- One map, as it is noted and its models are held.

module _ {text : List ℕ} {n : MapNote} {m : Models} {before : List ℕ} (w : Writable text n m (length before) 0) {b : Bool}
    (p : b ≡ is_brain n.kind) where
  pub twice_other : b ≡ false → ToldOne text n.at before false before
  unfolding repeats any two_of each_in
  twice_other f = record { told = rw (noted_plain w.noted p f); long = refl }

  module _ (t : b ≡ true) where
    module _ {k : ℕ} {w₁ : List ℕ} (f : ModelsPlaced text m before 0 k w₁) where
      pub twice_enough : k ≤ length w₁
      twice_enough = enough (stretch_ready w p t) (ready_filled (stretch_ready w p t) f refl)

      pub twice_told : {a : Bool} {w₂ : List ℕ} → KeyTwice k w₁ a w₂ → ToldOne text n.at before a w₂
      twice_told h = told_by_lem (stretch_ready w p t) (ready_filled (stretch_ready w p t) f refl) h

pub ruleset telling = (twice_other, stretch_placing, twice_enough, twice_told, rules)

greatest_more : (m : Map) (l : List Map) → greatest length_of (brain_maps (m ∷ l)) ≡ max (reach m) (greatest length_of (brain_maps l))
unfolding brain_maps those greatest reach
greatest_more m l = go (is_brain m.kind)
  where
    go : (b : Bool) → greatest length_of (cond b (m ∷ brain_maps l) (brain_maps l))
        ≡ max (cond b (length_of m) 0) (greatest length_of (brain_maps l))
    go true = refl
    go false = omega arith

module _ {m : Map} {l : List Map} {work : ℕ} (f : Roomy (m ∷ l) work) where
  roomy_first : length (stretch_of m) ≤ work
  roomy_first = omega (arith, f.room, greatest_more m l, stretch_long m)

  roomy_rest : Roomy l work
  roomy_rest = record { fine = fine_rest f.fine; room = omega (arith, f.room, greatest_more m l) }

pub record Look (all : List Map) (before now : List ℕ) (l : List Map) : Type 0 where
  pub fine : Roomy l (length before)
  pub so_far : location_twice all ≡ location_twice l
  pub long : length now ≡ length before

module _ {text : List ℕ} {maps : Maps} {j : Judged} where
  pub look_start : (work : List ℕ) → AllFine text maps j (length work) → OverHeld text maps j (Look (maps_at text maps) work work) 0
  look_start work a = record { over_maps = over_start a.ready (record { fine = a.fine; so_far = refl; long = refl }); held = a.held }

  module _ {before now : List ℕ} {i : ℕ} (go : OverHeld text maps j (Look (maps_at text maps) before now) i) where
    pub look_kept : length now ≡ length before
    look_kept = go.over_maps.left.long

    pub look_done : maps.count ≤ i → ToldAll text maps before false now
    unfolding location_twice any
    look_done h = let d = over_done go.over_maps h in record { told = sym d.so_far; long = d.long }

    module _ (u : i < maps.count) {n : MapNote} (e : n ≡ note_at maps i) where
      pub look_asks : {m : Models} → m ≡ models_held j i → Writable text n m (length now) 0
      look_asks q =
          let h = over_here go.over_maps u e in
          record {
            noted = over_note go.over_maps u e;
            fine = fine_first h.fine.fine;
            held = held_here go u e q;
            enough = omega (arith, h.long, roomy_first h.fine);
          }

      module _ {r : Bool} {after : List ℕ} (t : ToldOne text n.at now r after) where
        split : (l : List Map) → location_twice (map_of (the text n.at) ∷ l) ≡ (r || location_twice l)
        unfolding location_twice any
        split l = ap (λ b. b || location_twice l) (sym t.told)

        pub look_found : r ≡ true → ToldAll text maps before true after
        look_found y =
            let h = over_here go.over_maps u e in
            record { told = sym (h.so_far ∙ rw y at (split (from text maps (i + 1)))); long = t.long ∙ h.long }

        pub look_more : r ≡ false → OverHeld text maps j (Look (maps_at text maps) before after) (i + 1)
        look_more f = record {
          over_maps = over_next go.over_maps u e
              (λ l h. record { fine = roomy_rest h.fine; so_far = h.so_far ∙ rw f at (split l); long = t.long ∙ h.long });
          held = go.held;
        }

pub ruleset looking = (look_start, look_kept, look_done, held_place, look_asks, look_found, look_more, rules)
