-- What the answer says of the lengths; and that a line of more than 24 bytes writes more than three lengths, or none.
use Rattle.std.specs.Prelude.{◌≡◌, List, [], ◌∷◌, Bool, cond, ℕ, ◌+◌, ◌*◌, ◌-◌, ◌≤◌, ◌<◌, eqb, get_or, take, Option, Some, None}
use Rattle.std.proofs.Math.Path.{refl, ap}
use Rattle.std.proofs.Common.{sym, ◌∙◌, arith}
use Rattle.std.proofs.Math.Bool.{true, false}
use Rattle.std.proofs.Math.ListN.{length}
use Rattle.std.proofs.Math.Seq.{length-take-le}
use Rattle.lists.specs.Lists.{all, each, total}
use Rattle.lists.proofs.Laws.Lists.{length_each}
use Rattle.lists.proofs.Laws.Booleans.{and_left, and_right, clash}
use Rattle.grammar.specs.Bytes.{between}
use Rattle.grammar.proofs.Laws.Facts.{within}
use Rattle.grammar.specs.Look.{Word}
use Rattle.numbers.specs.Numbers.{digit, digits, value, parts, on_first, comma}
use Rattle.numbers.proofs.Laws.Cuts.{Parts, parts_some}
use Rattle.input.specs.Lengths.{wholes_of, lengths_in, first_by}
use Rattle.input.specs.declared.lengths.FirstLine.TheVariants.{Two, Three}

-- ---- Two lengths and three are told as they are.

pub two_of_lem : (o : Option (List ℕ)) {x y : ℕ} → Two x y ≡ first_by o → o ≡ Some (x ∷ y ∷ [])
unfolding first_by
two_of_lem None e = clash (cc)
two_of_lem (Some []) e = clash (cc)
two_of_lem (Some (a ∷ [])) e = clash (cc)
two_of_lem (Some (a ∷ b ∷ [])) {x} {y} e = let p : a ≡ x = cc in let q : b ≡ y = cc in rw (p, q) refl
two_of_lem (Some (a ∷ b ∷ c ∷ [])) e = clash (cc)
two_of_lem (Some (a ∷ b ∷ c ∷ d ∷ l)) e = clash (cc)

pub three_of : (o : Option (List ℕ)) {x y z : ℕ} → Three x y z ≡ first_by o → o ≡ Some (x ∷ y ∷ z ∷ [])
unfolding first_by
three_of None e = clash (cc)
three_of (Some []) e = clash (cc)
three_of (Some (a ∷ [])) e = clash (cc)
three_of (Some (a ∷ b ∷ [])) e = clash (cc)
three_of (Some (a ∷ b ∷ c ∷ [])) {x} {y} {z} e = let p : a ≡ x = cc in let q : b ≡ y = cc in let r : c ≡ z = cc in rw (p, q, r) refl
three_of (Some (a ∷ b ∷ c ∷ d ∷ l)) e = clash (cc)

-- ---- A long line.

parts_length : (w : Word) → total (λ p. length p + 1) (parts comma w) ≡ length w + 1
unfolding parts on_first total
parts_length [] = refl
parts_length (a ∷ w) = go (comma a) (parts_some comma w) (parts_length w)
  where
    go : (b : Bool) (k : Parts comma w) → total (λ p. length p + 1) (parts comma w) ≡ length w + 1
        → total (λ p. length p + 1) (cond b ([] ∷ parts comma w) (on_first a (parts comma w))) ≡ length (a ∷ w) + 1
    go true k h = omega (arith, h)
    go false k h =
        let e : total (λ p. length p + 1) (k.first ∷ k.others) ≡ length w + 1 = rw k.are at h in
        rw k.are (omega (arith, e))

seven_most : (l : List Word) → all (digits 1 7) l ≡ true → total (λ p. length p + 1) l ≤ 8 * length l
unfolding all total digits
seven_most [] h = omega arith
seven_most (w ∷ l) h =
    let d : digits 1 7 w ≡ true = and_left (digits 1 7 w) (all (digits 1 7) l) h in
    let s : length w ≤ 7 = (within 1 7 (length w) (and_right (all digit w) (between 1 7 (length w)) d)).1 in
    omega (arith, seven_most l (and_right (digits 1 7 w) (all (digits 1 7) l) h))

module _ (line : List ℕ) where
  body : Word
  body = take (length line - 1) line

  many_words : 24 < length line → all (digits 1 7) (parts comma body) ≡ true → 3 < length (parts comma body)
  unfolding body
  many_words h q =
      let size : length body ≡ length line - 1 = length-take-le (length line - 1) line (omega arith) in
      omega (arith, parts_length body, seven_most (parts comma body) q)

  told : Bool → Bool → Option (List ℕ)
  told b c = cond b (cond c (Some (each value (parts comma body))) None) None

  pub many_lengths : {lengths : List ℕ} → 24 < length line → lengths_in line ≡ Some lengths → 3 < length lengths
  unfolding lengths_in wholes_of body told
  many_lengths {lengths} h e = go (eqb (get_or line (length line - 1) 0) 10) (all (digits 1 7) (parts comma body)) refl e
    where
      go : (b c : Bool) → all (digits 1 7) (parts comma body) ≡ c → told b c ≡ Some lengths → 3 < length lengths
      go true true q p =
          let is : each value (parts comma body) ≡ lengths = cc in
          let same : length lengths ≡ length (parts comma body) = ap length (sym is) ∙ length_each value (parts comma body) in
          omega (arith, many_words h q)
      go true false q p = clash (cc)
      go false c q p = clash (cc)
