-- CONDITIONS 10, 11 AND 12 OVER ALL MAPS, and what is held of the models of each.
use Rattle.std.specs.Prelude.{◌≡◌, List, [], ◌∷◌, Bool, true, false, ◌&&◌, ℕ, ◌<◌, length, get_or, set, replicate}
use Rattle.lists.specs.Lists.{any, two_of}
use Rattle.lists.specs.Refusals.{Refusal, sooner_refusal}
use Rattle.nodes.specs.Places.{the}
use Rattle.cifti.specs.Maps.{Map, map_of, is_brain}
use Rattle.cifti.specs.Conditions as C
use Rattle.cifti.specs.Conditions.{◌when◌, alike, models_share, uneven, ranges_wrong, beyond, numbers_outside, repeats}
use Rattle.cifti.specs.Conditions.{location_twice}
use Rattle.maps.specs.Ready.{maps_at}
use Rattle.maps.specs.Over.{note_at}
use Rattle.maps.specs.declared.survey.MapNote.{MapNote}
use Rattle.maps.specs.declared.survey.Maps.{Maps}
use Rattle.models.specs.Gathered.{Gathered}
use Rattle.models.specs.Verdicts.{lists_rule}
use Rattle.models.specs.declared.gather.Models.{Models}
use Rattle.models.specs.declared.judge.Ruling.{Ruling}
use Rattle.models.specs.declared.judge.Judged.{Judged}

-- ---- The number.

-- of all maps, and of one
abbrev pub model_rows : List Map → List Refusal
model_rows l = 10 when models_share l ∷ 11 when ranges_wrong l ∷ 12 when numbers_outside l ∷ []

abbrev pub map_rows : Map → List Refusal
map_rows m =
    10 when two_of alike m.models
    ∷ 11 when (is_brain m.kind && uneven m)
    ∷ 12 when any (λ b. beyond m.volume b.listed) m.models
    ∷ []

unfoldable pub model_refusal : List Map → ℕ
model_refusal l = C.first (model_rows l)

unfoldable pub map_refusal : Map → ℕ
map_refusal m = C.first (map_rows m)

-- ---- The models.

abbrev pub no_models_lem : Models
no_models_lem = record {
  count = 0;
  shared = false;
  at = replicate 64 0;
  offset = replicate 64 0;
  length = replicate 64 0;
  kind = replicate 64 0;
}

-- what is held of the i-th map's
unfoldable pub models_held : Judged → ℕ → Models
models_held j i = get_or j.each i no_models_lem

-- the models of a brain map are all gathered
pub record HeldFor (text : List ℕ) (n : MapNote) (m : Models) : Type 0 where
  pub gathered : is_brain n.kind ≡ true → Gathered text n.at m

pub record HeldAll (text : List ℕ) (maps : Maps) (j : Judged) : Type 0 where
  pub held : (i : ℕ) → i < maps.count → HeldFor text (note_at maps i) (models_held j i)

-- ---- The number, and where it is 0 the models; and where the locations were seen to be apart, that 14 does not apply.

-- what was seen of a map's lists: 11 or 12, and whether its locations are apart; the work space keeps its length
pub record ListsTold (m : Map) (before : List ℕ) (number : ℕ) (apart : Bool) (after : List ℕ) : Type 0 where
  pub number_is : number ≡ lists_rule m
  pub apart_is : apart ≡ true → repeats m.models ≡ false
  pub long : length after ≡ length before

pub record Rules (text : List ℕ) (n : MapNote) (r : Ruling) : Type 0 where
  pub number_is : r.number ≡ map_refusal (map_of (the text n.at))
  pub held : r.number ≡ 0 → HeldFor text n r.models
  pub apart_is : r.apart ≡ true → repeats (map_of (the text n.at)).models ≡ false

pub record Judges (text : List ℕ) (maps : Maps) (j : Judged) : Type 0 where
  pub number_is : j.number ≡ model_refusal (maps_at text maps)
  pub held : j.number ≡ 0 → HeldAll text maps j
  pub apart_is : j.apart ≡ true → location_twice (maps_at text maps) ≡ false

-- and the work space that was lent for the marks keeps its length
pub record JudgesIn (text : List ℕ) (maps : Maps) (before : List ℕ) (j : Judged) (after : List ℕ) : Type 0 where
  pub judges : Judges text maps j
  pub long : length after ≡ length before

pub record RulesIn (text : List ℕ) (n : MapNote) (before : List ℕ) (r : Ruling) (after : List ℕ) : Type 0 where
  pub rules : Rules text n r
  pub long : length after ≡ length before

-- with the i-th map's
abbrev pub with_ruling : Judged → ℕ → Ruling → Judged
with_ruling j i r =
    record { number = sooner_refusal j.number r.number; apart = j.apart && r.apart; each = set j.each i r.models }
