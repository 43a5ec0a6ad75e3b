-- EXTENSIONS: what each is, how it is written, and the list of them as a relation from extensions to bytes. Assumes nothing.
use Rattle.std.specs.Prelude.{◌≡◌, List, [], ◌∷◌, ◌++◌, cond, ℕ, ◌+◌, ◌%◌, ◌^◌, ◌≤◌, ◌<◌, eqb, length, Option, Some, None}
use Rattle.nifti.specs.Fields.{field}
use Rattle.nifti.specs.declared.Order.{Order}

pub record Extension : Type 0 where
  pub code : ℕ
  pub body : List ℕ

-- the size that it tells: of the size and the code, and of the body
unfoldable pub size_of : Extension → ℕ
size_of e = 8 + length e.body

-- its bytes: size, code, body
unfoldable pub written : Order → Extension → List ℕ
written o e = field o 4 (size_of e) ++ (field o 4 e.code ++ e.body)

-- a good one: the size is a multiple of 16, from 16 to 2^31 - 1; the code has four bytes
pub record GoodExtension (e : Extension) : Type 0 where
  pub whole : size_of e % 16 ≡ 0
  pub low : 16 ≤ size_of e
  pub high : size_of e < 2 ^ 31
  pub coded : e.code < 2 ^ 32

-- a list of good extensions, and its bytes: theirs, one after another
pub data ExtensionList (o : Order) : List Extension → List ℕ → Type 0 where
  nothing : ExtensionList o [] []
  next : {e : Extension} {es : List Extension} {s : List ℕ} → GoodExtension e → ExtensionList o es s
      → ExtensionList o (e ∷ es) (written o e ++ s)

-- ---- The first of code 32, in a list whose bytes begin at a place: where its body begins, and the body.

pub record Body : Type 0 where
  pub start : ℕ
  pub bytes : List ℕ

unfoldable pub first_text : (at : ℕ) → List Extension → Option Body
first_text at [] = None
first_text at (e ∷ es) = cond (eqb e.code 32) (Some (record { start = at + 8; bytes = e.body })) (first_text (at + size_of e) es)

-- ---- Bytes without the zeros at their end.

unfoldable pub zero_only : ℕ → List ℕ → List ℕ
zero_only b [] = cond (eqb b 0) [] (b ∷ [])
zero_only b (c ∷ s) = b ∷ c ∷ s

unfoldable pub without_zeros : List ℕ → List ℕ
without_zeros [] = []
without_zeros (b ∷ s) = zero_only b (without_zeros s)

unfoldable pub extension_words : Unit {0}
unfolding size_of written first_text zero_only without_zeros
extension_words = tt
