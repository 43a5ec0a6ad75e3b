-- THE LIST OF BYTES, FOUND: extension by extension, from the first byte on; and what code answers of it.
use Rattle.std.specs.Prelude.{List, [], ◌∷◌, Bool, true, false, ◌&&◌, cond, ℕ, zero, suc, ◌+◌, ◌-◌, ◌%◌, ◌^◌, eqb, leb, ltb, ℤ, pos, negsuc, length, take, drop, Option}
use Rattle.std.specs.Prelude.{Option as Maybe, Some, None, Result, Ok, Err, ok_or}
use Rattle.std.proofs.Math.Seq.{slice}
use Rattle.nifti.specs.Fields.{number_at}
use Rattle.nifti.specs.Extensions.{Extension, size_of, Body, first_text}
use Rattle.nifti.specs.File.{order_of, offset, extender, list_start, front_to}
use Rattle.nifti.specs.declared.Order.{Order}
use Rattle.nifti.specs.declared.Front.{Front}
use Rattle.nifti.specs.declared.Taken.{Taken}
use Rattle.nifti.specs.declared.Refusal.{Refusal}
use Rattle.nifti.specs.declared.Refusal.TheVariants.{NoList, NoText}

-- a size that may stand where so many bytes are left
unfoldable pub good_size : (size left : ℕ) → Bool
good_size size left = leb 16 size && (leb size left && (ltb size (2 ^ 31) && eqb (size % 16) 0))

-- what stands at the start of bytes, where its size is good
unfoldable pub extension_in : Order → List ℕ → Extension
extension_in o s = record { code = number_at o 4 4 s; body = take (number_at o 4 0 s - 8) (drop 8 s) }

-- one more in front, where it is good
unfoldable pub one_more_if : Bool → Extension → Option (List Extension) → Option (List Extension)
one_more_if false e l = None
one_more_if true e None = None
one_more_if true e (Some es) = Some (e ∷ es)

unfoldable pub cut_by : (fuel : ℕ) → Order → List ℕ → Option (List Extension)
cut_by zero o s = cond (eqb (length s) 0) (Some []) None
cut_by (suc n) o s =
    cond (eqb (length s) 0) (Some [])
    (one_more_if (good_size (number_at o 4 0 s) (length s)) (extension_in o s) (cut_by n o (drop (number_at o 4 0 s) s)))

unfoldable pub cut : Order → List ℕ → Option (List Extension)
cut o s = cut_by (length s) o s

-- ---- The list of a file.

-- up to the data offset
unfoldable pub cut_to : ℤ → List ℕ → Option (List Extension)
cut_to (pos end) file = cond (leb end (length file)) (cut (order_of file) (slice list_start end file)) None
cut_to (negsuc n) file = None

unfoldable pub list_in : List ℕ → Option (List Extension)
list_in file = cond (eqb (extender file) 0) (Some []) (cut_to (offset file) file)

unfoldable pub front_of : List ℕ → Front
front_of file = front_to file (list_in file)

-- ---- What code answers of the list: where the body of the first of code 32 stands, or the refusal.

unfoldable pub taken_as : Option Body → Result Taken Refusal
taken_as None = Err NoText
taken_as (Some b) = Ok (record { start = b.start; length = length b.bytes })

unfoldable pub taken_or : Maybe Taken → Result Taken Refusal → Result Taken Refusal
taken_or None r = r
taken_or (Some t) r = Ok t

-- from a place on, with what is found before it
unfoldable pub text_from : Maybe Taken → (place : ℕ) → Option (List Extension) → Result Taken Refusal
text_from found place None = Err NoList
text_from found place (Some es) = taken_or found (taken_as (first_text place es))

unfoldable pub text_in : List ℕ → Result Taken Refusal
text_in file = text_from None list_start (list_in file)

-- ---- What a walk answers of the list from a place on, extension by extension, with what is found before it.

abbrev pub not_listed : Result Taken Refusal
not_listed = Err NoList

unfoldable pub taken : Maybe Taken → (place : ℕ) → List Extension → Result Taken Refusal
taken found place [] = ok_or found NoText
taken (Some t) place (e ∷ es) = taken (Some t) (place + size_of e) es
taken None place (e ∷ es) =
    cond (eqb e.code 32) (taken (Some (record { start = place + 8; length = length e.body })) (place + size_of e) es)
    (taken None (place + size_of e) es)

unfoldable pub taken_by : Maybe Taken → (place : ℕ) → Option (List Extension) → Result Taken Refusal
taken_by found place None = not_listed
taken_by found place (Some es) = taken found place es

unfoldable pub model_words : Unit {0}
unfolding good_size extension_in one_more_if cut_by cut cut_to list_in front_of taken_as taken_or text_from text_in taken taken_by
model_words = tt
