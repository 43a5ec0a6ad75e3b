-- What is proved of Said.
use Rattle.std.specs.Prelude.{◌≡◌, List, [], ◌∷◌, Bool, true, false, cond, ℕ, ◌+◌, ◌*◌, ◌^◌, ◌≤◌, ◌<◌, eqb, get_or}
use Rattle.std.proofs.Math.Path.{refl, sym}
use Rattle.std.proofs.Common.{◌∙◌, arith, rules}
use Rattle.lists.specs.Lists.{any}
use Rattle.nodes.specs.Places.{the}
use Rattle.cifti.specs.Maps.{Map, map_of, is_brain, is_series, series_of, dimensions_of}
use Rattle.cifti.specs.Answer.{no_series, as_series, dimension_by, unused, described, reach, dimension_at, accepted_with}
use Rattle.cifti.specs.declared.answer.Series as S
use Rattle.cifti.specs.declared.answer.Dimension.{Dimension}
use Rattle.cifti.specs.declared.answer.Answer.{Answer}
use Rattle.maps.proofs.Laws.MapKind.{good_series, series_kind}
use Rattle.maps.specs.Survey.{Noted}
use Rattle.maps.specs.Ready.{Ready, maps_at}
use Rattle.maps.specs.Over.{note_at, map_on}
use Rattle.maps.proofs.Laws.Over.{Over, over_start, over_done, over_place, over_note, over_here, over_next, from}
use Rattle.maps.specs.ListedOnce.{Asking}
use Rattle.maps.specs.declared.survey.MapNote.{MapNote}
use Rattle.maps.specs.declared.survey.Maps.{Maps}
use Rattle.describing.specs.Room.{reach_in}
use Rattle.describing.proofs.Laws.Room.{noted_reach, reach_low}
use Rattle.describing.specs.Series.{SeriesAt, series_said}
use Rattle.describing.proofs.Laws.Listing.{listed_some, listed_none}
use Rattle.describing.specs.Said.{series_in, start_in}

module _ {text : List ℕ} {n : MapNote} (m : Noted text n) {b : Bool} (p : b ≡ is_series n.kind) where
  pub series_here : b ≡ true → SeriesAt text n.at
  series_here t = record {
    stands = m.map.stands;
    good = good_series m.map.good (sym m.kind_is ∙ series_kind n.kind (sym p ∙ t));
  }

  pub series_yes : b ≡ true → {s : S.Series} → s ≡ series_said (the text n.at) → s ≡ series_in text n
  unfolding series_in series_said as_series series_of
  series_yes t h = rw (sym p ∙ t) h

  pub series_no : b ≡ false → {s : S.Series} → s ≡ no_series → s ≡ series_in text n
  unfolding series_in
  series_no f h = rw (sym p ∙ f) h

pub ruleset series_told = (series_here, series_yes, series_no, rules)

module _ (n : MapNote) (start : ℕ) {b : Bool} (p : b ≡ is_brain n.kind) where
  pub start_yes : b ≡ true → start ≡ start_in n start
  unfolding start_in
  start_yes t = rw (sym p ∙ t)

  pub start_no : b ≡ false → 0 ≡ start_in n start
  unfolding start_in
  start_no f = rw (sym p ∙ f)

pub ruleset start_told = (start_yes, start_no, rules)

pub described_by : {text : List ℕ} {n : MapNote} → Noted text n → (start : ℕ) → {s : S.Series} → s ≡ series_in text n → {p : ℕ}
    → p ≡ start_in n start
    → {r : Dimension} → r ≡ dimension_by n.kind n.length p s → r ≡ described start (map_on text n)
unfolding described series_in start_in map_of
described_by {text} {n} m start h k q = q ∙ rw (h, k, m.long, m.kind_is) refl

pub ruleset describing = (described_by, rules)

-- ---- The map that lists a dimension.

pub record Pick (all : List Map) (d start : ℕ) (l : List Map) : Type 0 where
  pub so_far : dimension_at 0 all d ≡ dimension_at start l d

pub record Picking (text : List ℕ) (maps : Maps) (d start i : ℕ) : Type 0 where
  pub over_maps : Over text maps (Pick (maps_at text maps) d start) i
  pub digit : d < 10
  pub low : start ≤ i * 17592186044416

module _ {text : List ℕ} {maps : Maps} {d : ℕ} where
  pub picking_start : Asking text maps d → Picking text maps d 0 0
  picking_start a = record { over_maps = over_start a.ready (record { so_far = refl }); digit = a.digit; low = omega arith }

  module _ {start i : ℕ} (go : Picking text maps d start i) where
    pub picking_done : maps.count ≤ i → {r : Dimension} → r ≡ unused → r ≡ dimension_at 0 (maps_at text maps) d
    unfolding dimension_at
    picking_done h k = k ∙ sym (over_done go.over_maps h).so_far

    pub picking_digit : d < 10
    picking_digit = go.digit

    module _ (u : i < maps.count) where
      pub picking_place : i < 3
      picking_place = over_place go.over_maps u

      module _ {n : MapNote} (e : n ≡ note_at maps i) where
        pub picking_note : Noted text n
        picking_note = over_note go.over_maps u e

        split : (l : List Map) → dimension_at start (map_on text n ∷ l) d
            ≡ cond (any (eqb d) (dimensions_of (the text n.at))) (described start (map_on text n))
            (dimension_at (start + reach (map_on text n)) l d)
        unfolding dimension_at map_of
        split l = refl

        pub picking_here : (get_or n.lists.has d 0 ≡ 0 → ⊥) → {r : Dimension} → r ≡ described start (map_on text n)
            → r ≡ dimension_at 0 (maps_at text maps) d
        picking_here k h =
            h ∙ sym ((over_here go.over_maps u e).so_far ∙ split (from text maps (i + 1))
            ∙ rw (listed_some d (dimensions_of (the text n.at)) (picking_note.lists.tells d go.digit) k))

        module _ {size : ℕ} (p : size ≡ reach_in n) where
          pub picking_fits : start + size < 2 ^ 64
          picking_fits = let m = reach_low picking_note in let l = go.low in let f = go.over_maps.ready.few in omega arith

          pub picking_more : get_or n.lists.has d 0 ≡ 0 → Picking text maps d (start + size) (i + 1)
          picking_more z = record {
            over_maps = over_next go.over_maps u e (λ l s. record {
              so_far = s.so_far ∙ split l
                  ∙ rw (
                    listed_none d (dimensions_of (the text n.at)) (picking_note.lists.tells d go.digit) z,
                    p,
                    noted_reach picking_note,
                  ) refl;
            });
            digit = go.digit;
            low = let m = reach_low picking_note in let l = go.low in omega arith;
          }

pub ruleset picking = (
  picking_start,
  picking_done,
  picking_place,
  picking_note,
  picking_digit,
  picking_here,
  picking_fits,
  picking_more,
  rules,
)

-- ---- The answer.

pub asking : {text : List ℕ} {maps : Maps} → Ready text maps → (d : ℕ) → d < 10 → Asking text maps d
asking r d u = record { ready = r; digit = u }

pub answered : (l : List Map) {a b c : Dimension} → a ≡ dimension_at 0 l 0 → b ≡ dimension_at 0 l 1 → c ≡ dimension_at 0 l 2
    → ◌≡◌ {A = Answer} (record { number = 0; dimensions = a ∷ b ∷ c ∷ [] }) (accepted_with l)
unfolding accepted_with
answered l p q r = rw (p, q, r) refl

pub ruleset answering = (asking, answered, rules)
