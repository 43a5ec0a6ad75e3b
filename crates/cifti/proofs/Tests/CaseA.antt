-- CASE A, and A with a dimension list, an offset and vertices other than its own.
use Rattle.std.specs.Prelude.{List, ◌++◌, ℕ}
use Prim.Native.String.{String}
use Rattle.grammar.specs.Bytes.{ascii}

abbrev pub variant : (dimensions offset vertices : String) → List ℕ
variant d o v =
    ascii "<CIFTI Version=\"2\"><Matrix><MatrixIndicesMap AppliesToMatrixDimension=\""
    ++ (ascii d
    ++ (ascii "\" IndicesMapToDataType=\"CIFTI_INDEX_TYPE_BRAIN_MODELS\"><Volume VolumeDimensions=\"8,8,8\"><TransformationMatrixVoxelIndicesIJKtoXYZ MeterExponent=\"-3\">1 0 0 0 0 1 0 0 0 0 1 0 0 0 0 1</TransformationMatrixVoxelIndicesIJKtoXYZ></Volume><BrainModel IndexOffset=\""
    ++ (ascii o
    ++ (ascii "\" IndexCount=\"1\" ModelType=\"CIFTI_MODEL_TYPE_VOXELS\" BrainStructure=\"CIFTI_STRUCTURE_BRAIN_STEM\"><VoxelIndicesIJK>2 3 5</VoxelIndicesIJK></BrainModel><BrainModel IndexOffset=\"0\" IndexCount=\"2\" ModelType=\"CIFTI_MODEL_TYPE_SURFACE\" BrainStructure=\"CIFTI_STRUCTURE_CORTEX_RIGHT\" SurfaceNumberOfVertices=\"5\"><VertexIndices>"
    ++ (ascii v
    ++ ascii "</VertexIndices></BrainModel></MatrixIndicesMap><MatrixIndicesMap AppliesToMatrixDimension=\"0\" IndicesMapToDataType=\"CIFTI_INDEX_TYPE_SCALARS\"><NamedMap><MapName>a</MapName></NamedMap><NamedMap><MapName>b</MapName></NamedMap></MatrixIndicesMap></Matrix></CIFTI>")))))

abbrev pub case_a : List ℕ
case_a = variant "1" "2" "4 1"
