-- A VOLUME IS NEEDED WITH ANY VOXEL MODEL: among the children of a good brain map, a VoxelIndicesIJK stands below one exactly where some
-- BrainModel is of voxels.
-- So the row of Volume, which goes by what stands below, says what document 01 says.
use Rattle.std.specs.Prelude.{◌≡◌, refl, List, [], ◌∷◌, Bool, true, false, ◌&&◌, ◌||◌, length, Some}
use Rattle.std.proofs.Common.{sym, ap₂, ◌∙◌, arith, eqb-true}
use Prim.Native.String.{String}
use Rattle.lists.specs.Lists.{any}
use Rattle.lists.proofs.Laws.Booleans.{and_right, never_some}
use Rattle.grammar.specs.Bytes.{ascii}
use Rattle.grammar.specs.Document.{Element}
use Rattle.grammar.specs.Parser.{same_bytes}
use Rattle.grammar.specs.Look.{is, name_of, attributes_of, contents_of, has, elements}
use Rattle.schema.specs.Schema.{AttributeRow, TextForm, leaf, kind_of, shaped, attributes_shaped, below}
use Rattle.schema.proofs.Laws.Everywhere.{called, below_children}
use Rattle.cifti.specs.Rows.{ElementKind, brain_models, volume, transform, rows}
use Rattle.maps.proofs.Laws.Good.{GoodAs, good_as, AllGood, none_left, one_good, shape_here, good_children, row_met}
use Rattle.maps.specs.Good.{Good}
use Rattle.maps.proofs.Laws.Kinds.{not_both, brain_rows, OnlyChild, good_model, good_volume}
use Rattle.maps.specs.Kinds.{GoodModel, surface_model, voxel_model_lem}
use Rattle.maps.proofs.Laws.Kinds.{surface_child, voxels_child, only_child, brain_children}

-- an element with text has no children, so nothing stands below it
leaf_bare : {k : ElementKind} {e : Element} → Good k e → (a : List AttributeRow) (t : TextForm) → rows k ≡ leaf a t
    → elements (contents_of e) ≡ []
unfolding shaped
leaf_bare {k} {e} g a t r =
    go (elements (contents_of e)) (eqb-true _ 0 (and_right (attributes_shaped a (attributes_of e)) _ (rw r at (shape_here g))))
  where
    go : (l : List Element) → length l ≡ 0 → l ≡ []
    go [] h = refl
    go (d ∷ l) h = absurd (omega arith)

none_below : (s : String) (e : Element) → elements (contents_of e) ≡ [] → below s e ≡ false
unfolding any
none_below s e h = below_children s e ∙ rw h

below_one : (s : String) (e d : Element) → elements (contents_of e) ≡ d ∷ [] → (b : Bool) → is s (name_of d) ≡ b → below s d ≡ false
    → below s e ≡ b
unfolding any called
below_one s e d h b n k = below_children s e ∙ rw (h, n, k) (go b)
  where
    go : (b : Bool) → ((b || false) || (false || false)) ≡ b
    go true = refl
    go false = refl

-- one child, with text, of this name or another
abbrev needy : String
needy = "VoxelIndicesIJK"

by_only : {s : String} {k : ElementKind} (e : Element) (c : OnlyChild s k (elements (contents_of e))) (a : List AttributeRow) (t : TextForm)
    → rows k ≡ leaf a t
    → (b : Bool) → is needy (name_of c.one) ≡ b → below needy e ≡ b
by_only e c a t r b n = below_one needy e c.one c.alone b n (none_below needy c.one (leaf_bare c.good a t r))

vertex_name : is needy (ascii "VertexIndices") ≡ false
unfolding is same_bytes
vertex_name = refl

transform_name : is needy (ascii "TransformationMatrixVoxelIndicesIJKtoXYZ") ≡ false
unfolding is same_bytes
transform_name = refl

below_model : {e : Element} → GoodModel e → below needy e ≡ has "ModelType" "CIFTI_MODEL_TYPE_VOXELS" e
unfolding rows
below_model {e} (surface_model g h) =
    let c = surface_child g in by_only e c _ _ refl false (not_both "VertexIndices" needy (name_of c.one) c.name vertex_name) ∙ sym h
below_model {e} (voxel_model_lem g h) = let c = voxels_child g in by_only e c _ _ refl true c.name ∙ sym h

volume_child : {e : Element} → Good volume e → OnlyChild "TransformationMatrixVoxelIndicesIJKtoXYZ" transform (elements (contents_of e))
unfolding rows
volume_child g = only_child "TransformationMatrixVoxelIndicesIJKtoXYZ" transform _ (good_children g _ _ _ refl) (row_met g _ _ _ refl)

below_volume : {e : Element} → Good volume e → below needy e ≡ false
unfolding rows
below_volume {e} g = let c = volume_child g in
    by_only e c _ _ refl false (not_both "TransformationMatrixVoxelIndicesIJKtoXYZ" needy (name_of c.one) c.name transform_name)

-- a child of a brain map is a BrainModel or a Volume
voxel_model : Element → Bool
voxel_model e = is "BrainModel" (name_of e) && has "ModelType" "CIFTI_MODEL_TYPE_VOXELS" e

child_alike : {e : Element} → GoodAs brain_rows e → below needy e ≡ voxel_model e
unfolding voxel_model kind_of
child_alike {e} (good_as {k} q g) = go (is "BrainModel" (name_of e)) (is "Volume" (name_of e)) refl refl q
  where
    go : (a b : Bool) → is "BrainModel" (name_of e) ≡ a → is "Volume" (name_of e) ≡ b
        → kind_of brain_rows e ≡ Some k → below needy e ≡ (a && has "ModelType" "CIFTI_MODEL_TYPE_VOXELS" e)
    go true b x y r = below_model (good_model e (good_as r g) x)
    go false true x y r = below_volume (good_volume e (good_as r g) y)
    go false false x y r = never_some (rw (x, y) at r)

all_alike : {l : List Element} → AllGood brain_rows l → any (below needy) l ≡ any voxel_model l
unfolding any
all_alike none_left = refl
all_alike (one_good g h) = ap₂ (λ a b. a || b) (child_alike g) (all_alike h)

-- THE LAW
pub needed_with_voxels : {e : Element} → Good brain_models e
    → any (below "VoxelIndicesIJK") (elements (contents_of e))
    ≡ any (λ d. is "BrainModel" (name_of d) && has "ModelType" "CIFTI_MODEL_TYPE_VOXELS" d) (elements (contents_of e))
unfolding voxel_model
needed_with_voxels g = all_alike (brain_children g)
