-- COMPUTED: files in both orders, case A among them, an all-zero body, a dim[7] that is not looked at.
use Rattle.std.specs.Prelude.{◌≡◌, refl, List, [], ◌∷◌, ◌++◌, ℕ, replicate}
use Rattle.lists.specs.Lists.{each_in, lists}
use Rattle.lists.specs.Refusals.{refusals}
use Rattle.records.specs.Bytes.{byte_words}
use Rattle.nifti.specs.Fields.{field, field_words}
use Rattle.nifti.specs.Extensions.{Extension, written, extension_words}
use Rattle.nifti.specs.File.{magic, front_with, refused_front, part_of, file_words}
use Rattle.nifti.specs.Model.{front_of, model_words}
use Rattle.cifti.proofs.Tests.CaseA.{case_a}
use Rattle.nifti.specs.declared.Order.{Order}
use Rattle.nifti.specs.declared.Order.TheVariants.{MostFirst, LeastFirst}

-- a header with these dims, data offset and first extender byte, and a list
unfoldable file_of : Order → (dims : List ℕ) (end extender : ℕ) → List Extension → List ℕ
file_of o dims end extender es =
    field o 4 540 ++ (magic ++ (replicate 4 0 ++ (each_in (field o 8) dims ++ (replicate 88 0 ++ (field o 8 end
    ++ (replicate 364 0 ++ (extender ∷ 0 ∷ 0 ∷ 0 ∷ each_in (written o) es)))))))

-- `<a/>` and four zeros; zeros alone; another code
text : Extension
text = record { code = 32; body = 60 ∷ 97 ∷ 47 ∷ 62 ∷ replicate 4 0 }

blank : Extension
blank = record { code = 32; body = replicate 8 0 }

other : Extension
other = record { code = 4; body = replicate 24 7 }

six : List ℕ
six = 6 ∷ 1 ∷ 1 ∷ 1 ∷ 1 ∷ 2 ∷ 3 ∷ 9 ∷ []

seven : List ℕ
seven = 7 ∷ 1 ∷ 1 ∷ 1 ∷ 1 ∷ 2 ∷ 3 ∷ 9 ∷ []

unfoldable computing : Unit {0}
unfolding lists refusals byte_words field_words extension_words file_words model_words file_of text blank other six seven
computing = tt

in_most : front_of (file_of MostFirst six 592 1 (other ∷ text ∷ [])) ≡ front_with 0 2 2 3 0 584 4
unfolding computing
in_most = refl

in_least : front_of (file_of LeastFirst six 592 1 (other ∷ text ∷ [])) ≡ front_with 0 2 2 3 0 584 4
unfolding computing
in_least = refl

three_lengths : front_of (file_of LeastFirst seven 560 1 (text ∷ [])) ≡ front_with 0 3 2 3 9 552 4
unfolding computing
three_lengths = refl

-- dim[7] is 0, with dim[0] 6
third_not_asked : front_of (file_of MostFirst (6 ∷ 1 ∷ 1 ∷ 1 ∷ 1 ∷ 2 ∷ 3 ∷ 0 ∷ []) 560 1 (text ∷ [])) ≡ front_with 0 2 2 3 0 552 4
unfolding computing
third_not_asked = refl

-- an empty part that begins at the body
all_zero : front_of (file_of MostFirst six 560 1 (blank ∷ [])) ≡ front_with 0 2 2 3 0 552 0
unfolding computing
all_zero = refl

-- the data offset below the list; dim[6] negative; a data offset that no extension ends at; an empty list
too_low : front_of (file_of MostFirst six 540 1 (text ∷ [])) ≡ refused_front 20
unfolding computing
too_low = refl

negative : front_of (file_of MostFirst (6 ∷ 1 ∷ 1 ∷ 1 ∷ 1 ∷ 2 ∷ 18446744073709551615 ∷ 1 ∷ []) 560 1 (text ∷ [])) ≡ refused_front 21
unfolding computing
negative = refl

half_way : front_of (file_of LeastFirst six 552 1 (text ∷ [])) ≡ refused_front 22
unfolding computing
half_way = refl

no_extender : front_of (file_of LeastFirst six 99999 0 (text ∷ [])) ≡ refused_front 23
unfolding computing
no_extender = refl

-- case A behind another extension, in either order: its lengths, and its text as the part
unfoldable file_a : Order → List ℕ
file_a o = file_of o (6 ∷ 1 ∷ 1 ∷ 1 ∷ 1 ∷ 2 ∷ 3 ∷ 1 ∷ []) 1504 1 (other ∷ record { code = 32; body = case_a ++ replicate 7 0 } ∷ [])

case_a_most : front_of (file_a MostFirst) ≡ front_with 0 2 2 3 0 584 913
unfolding computing file_a
case_a_most = refl

case_a_least : front_of (file_a LeastFirst) ≡ front_with 0 2 2 3 0 584 913
unfolding computing file_a
case_a_least = refl

case_a_part : part_of (file_a LeastFirst) (front_of (file_a LeastFirst)) ≡ case_a
unfolding computing file_a
case_a_part = refl
