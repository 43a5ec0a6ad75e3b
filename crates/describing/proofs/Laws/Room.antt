-- What is proved of Room.
use Rattle.std.specs.Prelude.{◌≡◌, refl, List, [], ◌∷◌, Bool, true, false, cond, ◌||◌, ℕ, ◌+◌, ◌-◌, ◌≤◌, ◌<◌, max}
use Rattle.std.proofs.Math.Path.{sym, ap}
use Rattle.std.proofs.Common.{◌∙◌, arith, rules}
use Rattle.std.proofs.Math.Decide.{dec_lt}
use Rattle.std.proofs.Math.Dec.{ltb}
use borrow.Author.Tests.{lt-ltb, le-ltb}
use Rattle.lists.proofs.Laws.Booleans.{or_true}
use Rattle.lists.specs.Lists.{total, greatest, those}
use Rattle.nodes.specs.Places.{the}
use Rattle.cifti.specs.Maps.{Map, map_of, length_of, is_brain, brain_maps}
use Rattle.cifti.specs.Conditions.{room_short}
use Rattle.cifti.specs.Answer.{reach}
use Rattle.maps.specs.Survey.{Noted}
use Rattle.maps.proofs.Laws.Survey.{noted_kind_of}
use Rattle.maps.specs.Ready.{Ready, maps_at}
use Rattle.maps.specs.Over.{note_at}
use Rattle.maps.proofs.Laws.Over.{Over, over_start, over_done, over_place, over_note, over_here, over_next, from}
use Rattle.maps.specs.declared.survey.MapNote.{MapNote}
use Rattle.maps.specs.declared.survey.Maps.{Maps}
use Rattle.describing.specs.Room.{reach_in}

pub brain_total : (l : List Map) → total length_of (brain_maps l) ≡ total reach l
unfolding brain_maps those total reach
brain_total [] = refl
brain_total (m ∷ l) = go (is_brain m.kind) (brain_total l)
  where
    go : (b : Bool) → total length_of (brain_maps l) ≡ total reach l
        → total length_of (cond b (m ∷ brain_maps l) (brain_maps l)) ≡ cond b (length_of m) 0 + total reach l
    go true h = ap (λ n. length_of m + n) h
    go false h = omega arith

pub brain_greatest : (l : List Map) → greatest length_of (brain_maps l) ≡ greatest reach l
unfolding brain_maps those greatest reach
brain_greatest [] = refl
brain_greatest (m ∷ l) = go (is_brain m.kind) (brain_greatest l)
  where
    go : (b : Bool) → greatest length_of (brain_maps l) ≡ greatest reach l
        → greatest length_of (cond b (m ∷ brain_maps l) (brain_maps l)) ≡ max (cond b (length_of m) 0) (greatest reach l)
    go true h = ap (max (length_of m)) h
    go false h = omega arith

-- ---- The loop over the maps.

-- with so much room left for these maps, there is too little
abbrev short : (left work : ℕ) → List Map → Bool
short left work l = ltb left (total reach l) || ltb work (greatest reach l)

short_is : (room work : ℕ) (l : List Map) → room_short room work l ≡ short room work l
unfolding room_short
short_is room work l = rw (brain_total l, brain_greatest l)

ltb_same : (a b c d : ℕ) → (a < b → c < d) → (c < d → a < b) → ltb a b ≡ ltb c d
ltb_same a b c d f g = go (dec_lt a b)
  where
    back : (a < b → ⊥) → Dec (c < d) → d ≤ c
    back h (yes x) = absurd (h (g x))
    back h (no x) = omega arith

    go : Dec (a < b) → ltb a b ≡ ltb c d
    go (yes h) = lt-ltb a b h ∙ sym (lt-ltb c d (f h))
    go (no h) = le-ltb a b (omega arith) ∙ sym (le-ltb c d (back h (dec_lt c d)))

module _ (n : MapNote) {b : Bool} (p : b ≡ is_brain n.kind) where
  pub reach_brain : b ≡ true → n.length ≡ reach_in n
  unfolding reach_in
  reach_brain t = rw (sym p ∙ t)

  pub reach_other : b ≡ false → 0 ≡ reach_in n
  unfolding reach_in
  reach_other f = rw (sym p ∙ f)

pub ruleset reaching = (reach_brain, reach_other, rules)

pub noted_reach : {text : List ℕ} {n : MapNote} → Noted text n → reach_in n ≡ reach (map_of (the text n.at))
unfolding reach_in reach
noted_reach {text} {n} m =
    let k : n.kind ≡ (map_of (the text n.at)).kind = noted_kind_of m in
    rw (k, m.long)

pub reach_low : {text : List ℕ} {n : MapNote} → Noted text n → reach_in n ≤ 17592186044416
unfolding reach_in
reach_low {text} {n} m = go (is_brain n.kind)
  where
    go : (b : Bool) → cond b n.length 0 ≤ 17592186044416
    go true = m.most
    go false = omega arith

-- with `left` places there is too little room for all as there was
pub record House (all : List Map) (room work left : ℕ) (l : List Map) : Type 0 where
  pub so_far : room_short room work all ≡ short left work l

module _ {text : List ℕ} {maps : Maps} where
  pub house_start : (room work : ℕ) → Ready text maps → Over text maps (House (maps_at text maps) room work room) 0
  house_start room work r = over_start r (record { so_far = short_is room work (maps_at text maps) })

  module _ {room work left i : ℕ} (go : Over text maps (House (maps_at text maps) room work left) i) where
    pub house_done : maps.count ≤ i → false ≡ room_short room work (maps_at text maps)
    unfolding total greatest
    house_done h = sym ((over_done go h).so_far ∙ rw (le-ltb left 0 (omega arith), le-ltb work 0 (omega arith)))

    module _ (u : i < maps.count) {n : MapNote} (e : n ≡ note_at maps i) {size : ℕ} (p : size ≡ reach_in n) where
      split : (l : List Map) → short left work (map_of (the text n.at) ∷ l)
          ≡ (ltb left (size + total reach l) || ltb work (max size (greatest reach l)))
      unfolding total greatest
      split l = ap (λ k. ltb left (k + total reach l) || ltb work (max k (greatest reach l))) (sym (p ∙ noted_reach (over_note go u e)))

      here : room_short room work (maps_at text maps)
          ≡ (ltb left (size + total reach (from text maps (i + 1))) || ltb work (max size (greatest reach (from text maps (i + 1)))))
      here = (over_here go u e).so_far ∙ split (from text maps (i + 1))

      pub house_work : work < size → true ≡ room_short room work (maps_at text maps)
      house_work h =
          let z : ltb work (max size (greatest reach (from text maps (i + 1)))) ≡ true = lt-ltb work _ (omega arith) in
          sym (here ∙ rw z (or_true (ltb left (size + total reach (from text maps (i + 1))))))

      pub house_left : left < size → true ≡ room_short room work (maps_at text maps)
      house_left h =
          let z : ltb left (size + total reach (from text maps (i + 1))) ≡ true = lt-ltb left _ (omega arith) in
          sym (here ∙ rw z)

      pub house_more : size ≤ work → size ≤ left → Over text maps (House (maps_at text maps) room work (left - size)) (i + 1)
      house_more h k = over_next go u e (λ l s. record { so_far = s.so_far ∙ split l ∙ rest l })
        where
          rest : (l : List Map) → (ltb left (size + total reach l) || ltb work (max size (greatest reach l))) ≡ short (left - size) work l
          rest l =
              let t : ltb left (size + total reach l) ≡ ltb (left - size) (total reach l) =
              ltb_same left (size + total reach l) (left - size) (total reach l) (λ x. omega arith) (λ x. omega arith) in
              let w : ltb work (max size (greatest reach l)) ≡ ltb work (greatest reach l) =
              ltb_same work (max size (greatest reach l)) work (greatest reach l) (λ x. omega arith) (λ x. omega arith) in
              rw (t, w) refl

pub ruleset housing = (house_start, house_done, over_place, house_work, house_left, house_more, rules)
