-- An array that 30 passes has as many keys as its Dim0 says.
use Rattle.std.specs.Prelude.{◌≡◌, refl, List, [], ◌∷◌, Bool, true, false, cond, ℕ, zero, suc, ◌*◌, eqb, length, get_or}
use Rattle.std.proofs.Common.{arith, eqb-true}
use Rattle.lists.specs.Lists.{all, each}
use Rattle.lists.proofs.Laws.Booleans.{and_left, and_right}
use Rattle.grammar.specs.Document.{Element}
use Rattle.numbers.specs.Numbers.{listed_keys}
use Rattle.base64_text.specs.Base64.{bytes_in}
use Rattle.base64_text.specs.Fours.{Endian, keys_in, bytes_or, coded_keys, coded_bytes}
use Rattle.gifti.specs.Arrays.{is_coded, endian_of, data_of, dim0, array_keys, fills_dim0}

fours_many : (o : Endian) (l : List ℕ) (n : ℕ) → length l ≡ 4 * n → length (keys_in o l) ≡ n
unfolding keys_in
fours_many o [] zero h = refl
fours_many o (a ∷ b ∷ c ∷ d ∷ l) (suc n) h = let k = fours_many o l n (omega arith) in omega (arith, k)
fours_many o [] (suc n) h = absurd (omega arith)
fours_many o (a ∷ []) n h = absurd (omega arith)
fours_many o (a ∷ b ∷ []) n h = absurd (omega arith)
fours_many o (a ∷ b ∷ c ∷ []) n h = absurd (omega arith)
fours_many o (a ∷ b ∷ c ∷ d ∷ l) zero h = absurd (omega arith)

pub filled_many : (a : Element) → fills_dim0 a ≡ true → length (array_keys a) ≡ dim0 a
unfolding fills_dim0 array_keys coded_bytes coded_keys
filled_many a h = go (is_coded a) h
  where
    go : (b : Bool) → cond b (eqb (coded_bytes (data_of a)) (4 * dim0 a)) (eqb (length (listed_keys (data_of a))) (dim0 a)) ≡ true
        → length (cond b (coded_keys (endian_of a) (data_of a)) (listed_keys (data_of a))) ≡ dim0 a
    go true k = fours_many (endian_of a) (bytes_or (bytes_in (data_of a))) (dim0 a) (eqb-true _ _ k)
    go false k = eqb-true _ _ k

-- at every place of a list of arrays
pub filled_at : (l : List Element) (i : ℕ) → all fills_dim0 l ≡ true → length (get_or (each array_keys l) i []) ≡ get_or (each dim0 l) i 0
unfolding all each
filled_at [] i h = refl
filled_at (a ∷ l) zero h = filled_many a (and_left (fills_dim0 a) (all fills_dim0 l) h)
filled_at (a ∷ l) (suc i) h = filled_at l i (and_right (fills_dim0 a) (all fills_dim0 l) h)
