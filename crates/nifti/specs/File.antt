-- THE FRONT OF A FILE: its fields, the list that is written in it, the conditions in their order, the answer, and the promise.
use Rattle.std.specs.Prelude.{◌≡◌, List, [], ◌∷◌, Bool, ◌&&◌, ◌||◌, not, cond, ℕ, zero, suc, ◌+◌, ◌*◌, ◌≤◌, eqb, ltb, ℤ, pos, length, get_or, take, drop, Option, Some, None}
use Rattle.std.proofs.Math.Seq.{slice}
use Rattle.lists.specs.Lists.{all_below, is_some}
use Rattle.lists.specs.Refusals.{Refusal, ◌when◌, first}
use Rattle.nifti.specs.Fields.{number_at, signed, field_is, field_at_least, natural}
use Rattle.nifti.specs.Extensions.{Extension, ExtensionList, Body, first_text, without_zeros}
use Rattle.nifti.specs.declared.Order.{Order}
use Rattle.nifti.specs.declared.Order.TheVariants.{MostFirst, LeastFirst}
use Rattle.nifti.specs.declared.Front.{Front}

-- ---- The fields, by their places in nifti2.h.

-- the size field is 540 in one order or the other, and that order is every field's
unfoldable pub order_of : List ℕ → Order
order_of file = cond (eqb (number_at MostFirst 4 0 file) 540) MostFirst LeastFirst

-- `n+2`, 0, 13, 10, 26, 10
abbrev pub magic : List ℕ
magic = 110 ∷ 43 ∷ 50 ∷ 0 ∷ 13 ∷ 10 ∷ 26 ∷ 10 ∷ []

unfoldable pub dim : List ℕ → ℕ → ℤ
dim file n = signed 8 (number_at (order_of file) 8 (16 + 8 * n) file)

unfoldable pub offset : List ℕ → ℤ
offset file = signed 8 (number_at (order_of file) 8 168 file)

-- the first of the four extender bytes
unfoldable pub extender : List ℕ → ℕ
extender file = get_or file 540 0

-- where the list begins
abbrev pub list_start : ℕ
list_start = 544

-- ---- The list of a file: none of it where the first extender byte is 0, else the bytes up to the data offset write it.

pub data HasList (file : List ℕ) : List Extension → Type 0 where
  empty : extender file ≡ 0 → HasList file []
  listed : {end : ℕ} {es : List Extension} → (extender file ≡ 0 → ⊥) → offset file ≡ pos end → end ≤ length file
      → ExtensionList (order_of file) es (slice list_start end file) → HasList file es

pub data ListOf (file : List ℕ) : Option (List Extension) → Type 0 where
  list : {es : List Extension} → HasList file es → ListOf file (Some es)
  unlisted : ((es : List Extension) → ¬ HasList file es) → ListOf file None

-- ---- The conditions.

-- 20: not the front of a NIfTI-2 single file
unfoldable pub size_stands : List ℕ → Bool
size_stands file = eqb (number_at (order_of file) 4 0 file) 540

unfoldable pub magic_at : List ℕ → ℕ → Bool
magic_at file i = eqb (get_or file (4 + i) 0) (get_or magic i 0)

unfoldable pub offset_stands : List ℕ → Bool
offset_stands file = field_at_least list_start (offset file)

unfoldable pub front_stands : List ℕ → Bool
front_stands file = size_stands file && (all_below 8 (magic_at file) && offset_stands file)

unfoldable pub no_front : List ℕ → Bool
no_front file = ltb (length file) list_start || not (front_stands file)

-- 21: the dims are not those of a matrix. There are as many lengths, from dim[5] on, as dim[0] says.
unfoldable pub length_count : List ℕ → ℕ
length_count file = cond (field_is 6 (dim file 0)) 2 (cond (field_is 7 (dim file 0)) 3 0)

unfoldable pub one_at : List ℕ → ℕ → Bool
one_at file i = field_is 1 (dim file (1 + i))

unfoldable pub length_stands : List ℕ → ℕ → Bool
length_stands file i = field_at_least 1 (dim file (5 + i))

unfoldable pub dims_stand : List ℕ → Bool
dims_stand file = ltb 0 (length_count file) && (all_below 4 (one_at file) && all_below (length_count file) (length_stands file))

-- 23: no extension of code 32
unfoldable pub text_body : Option (List Extension) → Option Body
text_body None = None
text_body (Some es) = first_text list_start es

unfoldable pub conditions_of_front : List ℕ → Option (List Extension) → List Refusal
conditions_of_front file l =
    20 when no_front file ∷ 21 when not (dims_stand file) ∷ 22 when not (is_some l) ∷ 23 when not (is_some (text_body l)) ∷ []

-- ---- The answer. A refused one is zero but for its number.

-- a length, 0 where there is none
unfoldable pub length_at : List ℕ → ℕ → ℕ
length_at file i = cond (ltb i (length_count file)) (natural (dim file (5 + i))) 0

abbrev pub front_with : (number count first second third start length : ℕ) → Front
front_with number count first second third start length =
    record { number = number; count = count; lengths = first ∷ second ∷ third ∷ []; start = start; length = length }

abbrev pub refused_front : (number : ℕ) → Front
refused_front n = front_with n 0 0 0 0 0 0

-- the part: the body without the zero bytes at its end
unfoldable pub accepted_front : List ℕ → Option Body → Front
accepted_front file None = refused_front 23
accepted_front file (Some b) =
    front_with 0 (length_count file) (length_at file 0) (length_at file 1) (length_at file 2) b.start (length (without_zeros b.bytes))

unfoldable pub front_by : (number : ℕ) → List ℕ → Option Body → Front
front_by zero file b = accepted_front file b
front_by (suc n) file b = refused_front (suc n)

unfoldable pub front_to : List ℕ → Option (List Extension) → Front
front_to file l = front_by (first (conditions_of_front file l)) file (text_body l)

-- ---- THE PROMISE: the list of the file, or that there is none, and the answer that comes of it.

pub record Fronts (file : List ℕ) (front : Front) : Type 0 where
  pub extensions : Option (List Extension)
  pub of : ListOf file extensions
  pub answered : front ≡ front_to file extensions

-- the lengths as the read takes them, and the part
unfoldable pub front_lengths : Front → List ℕ
front_lengths f = take f.count f.lengths

unfoldable pub part_of : List ℕ → Front → List ℕ
part_of file f = take f.length (drop f.start file)

pub record FrontPart (file part : List ℕ) : Type 0 where
  pub front : Front
  pub fronts : Fronts file front
  pub cut : part ≡ part_of file front

unfoldable pub file_words : Unit {0}
unfolding order_of dim offset extender size_stands magic_at offset_stands front_stands no_front length_count one_at length_stands dims_stand
    text_body conditions_of_front length_at accepted_front front_by front_to front_lengths part_of
file_words = tt
