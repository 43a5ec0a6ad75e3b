-- The type and the structure of a model, as the code reads them.
use Rattle.std.specs.Prelude.{◌≡◌, refl, List, Bool, true, false, ◌&&◌, ℕ, ◌+◌, ◌<◌, ◌≤◌, eqb, ◌^◌}
use Rattle.std.proofs.Common.{sym, ne_eqb, ◌∙◌, rules}
use native.Mathlib.Omega.{arith}
use Rattle.lists.proofs.Laws.Numbers.{eqb_same}
use Rattle.grammar.specs.Document.{Element}
use Rattle.grammar.specs.Look.{attr}
use Rattle.nodes.specs.Places.{Stands, the}
use Rattle.cifti.specs.Maps.{Listed, vertices, voxels, Model, model_of}
use Rattle.cifti.specs.Conditions.{same_type, alike}
use Rattle.maps.proofs.Laws.Kinds.{model_facts}
use Rattle.maps.specs.Kinds.{GoodModel}
use Rattle.models.proofs.Laws.Structures.{structure_below}
use Rattle.models.specs.Kind.{type_number, type_and_structure}
use Rattle.std.proofs.Math.Path.{ap}
use Rattle.std.proofs.Math.Bool.{cond}
use Rattle.grammar.specs.Bytes.{ascii}
use Rattle.grammar.specs.Look.{is, has}
use Rattle.grammar.specs.Parser.{same_bytes}
use Rattle.cifti.specs.Words.{structures, number_in}
use Rattle.cifti.specs.Maps.{listed_by}
use Rattle.maps.specs.Fields.{attribute_word}
use Rattle.maps.proofs.Laws.Fields.{word_at}
use Rattle.models.specs.Kind.{ModelAt}

-- ---- Alike is the same number.

pub alike_number : (a b : Model) → a.structure < 32 → b.structure < 32 → alike a b ≡ eqb (type_and_structure a) (type_and_structure b)
unfolding alike type_and_structure same_type type_number
alike_number a b h k = go a.listed b.listed
  where
    apart : (x y : ℕ) → (x ≡ y → ⊥) → false ≡ eqb x y
    apart x y f = sym (ne_eqb x y f)

    go : (p q : Listed) → (same_type p q && eqb a.structure b.structure)
        ≡ eqb (type_number p + a.structure) (type_number q + b.structure)
    go (vertices n l) (vertices m j) = eqb_same a.structure b.structure (0 + a.structure) (0 + b.structure) (λ e. omega arith)
        (λ e. omega arith)
    go (vertices n l) (voxels j) = apart (0 + a.structure) (32 + b.structure) (λ e. omega arith)
    go (voxels l) (vertices m j) = apart (32 + a.structure) (0 + b.structure) (λ e. omega arith)
    go (voxels l) (voxels j) = eqb_same a.structure b.structure (32 + a.structure) (32 + b.structure) (λ e. omega arith)
        (λ e. omega arith)

-- ---- Of a good model.

pub structure_small : {e : Element} → GoodModel e → (model_of e).structure < 32
unfolding model_of
structure_small {e} g = structure_below (attr "BrainStructure" e) (model_facts g).structure

type_small : (l : Listed) → type_number l ≤ 32
unfolding type_number
type_small (vertices n l) = omega arith
type_small (voxels l) = omega arith

pub kind_small : {e : Element} → GoodModel e → type_and_structure (model_of e) < 64
unfolding type_and_structure
kind_small {e} g = omega (arith, structure_small g, type_small (model_of e).listed)

type_is : (e : Element) → type_number (model_of e).listed ≡ cond (has "ModelType" "CIFTI_MODEL_TYPE_VOXELS" e) 32 0
unfolding model_of listed_by type_number
type_is e = go (has "ModelType" "CIFTI_MODEL_TYPE_VOXELS" e) _ _ _
  where
    go : (b : Bool) (l : List ℕ) (n : ℕ) (j : List ℕ) → type_number (cond b (voxels l) (vertices n j)) ≡ cond b 32 0
    go true l n j = refl
    go false l n j = refl

module _ {text : List ℕ} {at : ℕ} (m : ModelAt text at) {s : ℕ} (es : s ≡ number_in structures (attr "BrainStructure" (the text at))) where
  pub kind_stands : Stands text at
  kind_stands = m.stands

  module _ {b : Bool} (eb : b ≡ same_bytes (attribute_word (ascii "ModelType") (the text at)) (ascii "CIFTI_MODEL_TYPE_VOXELS")) where
    type : type_number (model_of (the text at)).listed ≡ cond b 32 0
    unfolding has is
    type = type_is (the text at) ∙ ap (λ t. cond t 32 0)
        (sym (eb ∙ ap (λ w. same_bytes w (ascii "CIFTI_MODEL_TYPE_VOXELS")) (word_at "ModelType" (the text at))))

    pub kind_voxels : b ≡ true → 32 + s ≡ type_and_structure (model_of (the text at))
    unfolding type_and_structure model_of
    kind_voxels t = let z : type_number (model_of (the text at)).listed ≡ 32 = type ∙ rw t in omega arith

    pub kind_surface : b ≡ false → s ≡ type_and_structure (model_of (the text at))
    unfolding type_and_structure model_of
    kind_surface t = let z : type_number (model_of (the text at)).listed ≡ 0 = type ∙ rw t in omega arith

  pub kind_room : 32 + s < 2 ^ 64
  unfolding model_of
  kind_room = omega (arith, structure_small m.good)

pub ruleset kinding = (kind_stands, kind_voxels, kind_surface, kind_room, rules)
