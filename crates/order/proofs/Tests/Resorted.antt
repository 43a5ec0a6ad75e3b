-- THE RELATION IS NOT EMPTY: three models, a run and another element between them, the first and the last exchanged; and case A of document
-- 01 with its two models exchanged, as texts.
use Rattle.std.specs.Prelude.{refl, List, [], ◌∷◌, ◌++◌, ℕ, Option, Some, None}
use Prim.Native.String.{String}
use Rattle.lists.specs.Lists.{lists}
use Rattle.lists.specs.Permuted as P
use Rattle.grammar.specs.Bytes.{ascii}
use Rattle.grammar.specs.Document.{attribute, Element, element, Contents, nothing, child, run}
use Rattle.grammar.specs.Look.{looks}
use Rattle.grammar.specs.Parser.{parse, computing}
use Rattle.cifti.proofs.Tests.CaseA.{case_a}
use Rattle.order.specs.Resorted.{is_brain_model, models_blank, blank_model, Resorted, contents_changed, nothing_more, run_kept}
use Rattle.order.specs.Resorted.{child_kept, child_changed, ModelsReordered}

abbrev model : (offset : String) → Element
model s = element (ascii "BrainModel") (attribute (ascii "IndexOffset") (ascii s) ∷ []) nothing []

abbrev volume : Element
volume = element (ascii "Volume") [] nothing []

abbrev three : Element → Element → Element → Contents
three a b c = child a (run (10 ∷ []) (child b (child volume (child c nothing))))

first_and_last : Resorted (three (model "0") (model "1") (model "2")) (three (model "2") (model "1") (model "0"))
unfolding models_blank is_brain_model looks lists
first_and_last = record { stays = refl; moved = P.then (P.same P.swap) (P.then P.swap (P.same P.swap)) }

abbrev whole : Contents → Element
whole c = element (ascii "CIFTI") []
    (child (element (ascii "Matrix") [] (run (32 ∷ []) (child (element (ascii "MatrixIndicesMap") [] c []) nothing)) []) nothing) []

pub three_reordered : ModelsReordered (whole (three (model "0") (model "1") (model "2")))
    (whole (three (model "2") (model "1") (model "0")))
three_reordered = contents_changed (child_changed
    (contents_changed (run_kept (child_changed (contents_changed first_and_last) nothing_more))) nothing_more)

-- ---- Case A, and its text with the surface model before the voxel model.

abbrev pub turned_a : List ℕ
turned_a =
    ascii "<CIFTI Version=\"2\"><Matrix><MatrixIndicesMap AppliesToMatrixDimension=\"1\" "
    ++ (ascii "IndicesMapToDataType=\"CIFTI_INDEX_TYPE_BRAIN_MODELS\">"
    ++ (ascii "<Volume VolumeDimensions=\"8,8,8\"><TransformationMatrixVoxelIndicesIJKtoXYZ MeterExponent=\"-3\">"
    ++ (ascii "1 0 0 0 0 1 0 0 0 0 1 0 0 0 0 1</TransformationMatrixVoxelIndicesIJKtoXYZ></Volume>"
    ++ (ascii "<BrainModel IndexOffset=\"0\" IndexCount=\"2\" ModelType=\"CIFTI_MODEL_TYPE_SURFACE\" "
    ++ (ascii "BrainStructure=\"CIFTI_STRUCTURE_CORTEX_RIGHT\" SurfaceNumberOfVertices=\"5\">"
    ++ (ascii "<VertexIndices>4 1</VertexIndices></BrainModel>"
    ++ (ascii "<BrainModel IndexOffset=\"2\" IndexCount=\"1\" ModelType=\"CIFTI_MODEL_TYPE_VOXELS\" "
    ++ (ascii "BrainStructure=\"CIFTI_STRUCTURE_BRAIN_STEM\"><VoxelIndicesIJK>2 3 5</VoxelIndicesIJK></BrainModel></MatrixIndicesMap>"
    ++ (ascii "<MatrixIndicesMap AppliesToMatrixDimension=\"0\" IndicesMapToDataType=\"CIFTI_INDEX_TYPE_SCALARS\">"
    ++ (ascii "<NamedMap><MapName>a</MapName></NamedMap>"
    ++ ascii "<NamedMap><MapName>b</MapName></NamedMap></MatrixIndicesMap></Matrix></CIFTI>"))))))))))

-- the root of a document that is there
abbrev root_in : Option Element → Element
root_in None = blank_model
root_in (Some e) = e

pub case_a_reordered : ModelsReordered (root_in (parse case_a)) (root_in (parse turned_a))
unfolding computing models_blank is_brain_model looks lists
case_a_reordered = contents_changed (child_changed
    (contents_changed (child_changed (contents_changed (record { stays = refl; moved = P.swap })) (child_kept nothing_more))) nothing_more)
