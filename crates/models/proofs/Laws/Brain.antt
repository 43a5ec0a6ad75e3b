-- What is proved of Brain.
use Rattle.std.specs.Prelude.{◌≡◌, refl, List, [], Bool, true, false, ℕ, ◌≤◌}
use Rattle.std.proofs.Math.Path.{sym, ap}
use Rattle.std.proofs.Common.{◌∙◌}
use Rattle.lists.specs.Lists.{those, each, total}
use Rattle.grammar.specs.Document.{Element}
use Rattle.grammar.proofs.Laws.Facts.{and_right, within}
use Rattle.grammar.specs.Look.{Word, is, name_of, contents_of, elements, children}
use Rattle.numbers.specs.Numbers.{whole, digits, value}
use Rattle.nodes.specs.Places.{the}
use Rattle.cifti.specs.Maps.{model_of, sizes_of, is_brain, kind_of_map, map_of, length_of, length_by}
use Rattle.cifti.specs.declared.answer.Kind.TheVariants.{Brain}
use Rattle.maps.proofs.Laws.MapKind.{good_brain, brain_kind, no_models_lem}
use Rattle.maps.specs.Survey.{Noted}
use Rattle.maps.specs.declared.survey.MapNote.{MapNote}
use Rattle.models.specs.Brain.{BrainAt}

-- whether a map is one, as it is noted
module _ {text : List ℕ} {n : MapNote} (m : Noted text n) {b : Bool} (p : b ≡ is_brain n.kind) where
  pub noted_kind : is_brain (map_of (the text n.at)).kind ≡ b
  unfolding map_of
  noted_kind = sym (p ∙ ap is_brain m.kind_is)

  pub noted_brain : b ≡ true → BrainAt text n.at
  noted_brain t =
      let h : kind_of_map (the text n.at) ≡ Brain = sym m.kind_is ∙ brain_kind n.kind (sym p ∙ t) in
      record { stands = m.map.stands; good = good_brain m.map.good h; is_brain_lem = h }

  -- another has no models
  pub noted_plain : b ≡ false → (map_of (the text n.at)).models ≡ []
  unfolding map_of each
  noted_plain f = ap (each model_of) (no_models_lem m.map.good (sym (ap is_brain m.kind_is) ∙ sym p ∙ f))

-- ---- What it holds.

pub map_models : (e : Element) → (map_of e).models ≡ each model_of (children "BrainModel" e)
unfolding map_of
map_models e = refl

pub map_volume : (e : Element) → (map_of e).volume ≡ sizes_of e
unfolding map_of
map_volume e = refl

pub brain_sum : (e : Element) → kind_of_map e ≡ Brain → length_of (map_of e) ≡ total (λ m. m.count) (map_of e).models
unfolding length_of length_by map_of
brain_sum e h = rw h

-- ---- Its children.

-- those that are models
unfoldable pub is_model : Element → Bool
is_model e = is "BrainModel" (name_of e)

pub models_are : (e : Element) → children "BrainModel" e ≡ those is_model (elements (contents_of e))
unfolding children is_model
models_are e = refl

-- a number in form is within its limits
pub whole_within : (lo hi : ℕ) (w : Word) → whole lo hi w ≡ true → (lo ≤ value w) × (value w ≤ hi)
unfolding whole
whole_within lo hi w h = within lo hi (value w) (and_right (digits 1 7 w) _ h)
