-- THE ROOM OF THE PROGRAM: its 6,552 places are enough for two sheets in 32,768 bytes, so 13 is never given. The output by what the code
-- asks.
use Rattle.std.specs.Prelude.{◌≡◌, List, [], ◌∷◌, Bool, true, false, cond, not, ◌||◌, ℕ, zero, suc, ◌+◌, ◌*◌, ◌-◌, ◌≤◌, eqb, ltb, get_or, take, drop}
use Rattle.std.proofs.Math.Path.{refl, sym, ap}
use Rattle.std.proofs.Common.{◌∙◌, arith, le-ltb, take_all, length-drop, take-append-drop}
use Rattle.std.proofs.Math.ListN.{length, length-append}
use Rattle.lists.specs.Refusals.{◌when◌, first}
use Rattle.lists.specs.Lists.{two_of}
use Rattle.records.specs.Width.{width_said, five, seven}
use Rattle.records.specs.Sheet.{count_of, width_of}
use Rattle.records.proofs.Laws.Sheet.{sheet_good}
use Rattle.comparison.specs.Compare.{records_of, well_formed, well_filled, compare_refusal, compared, Compares}
use Rattle.comparison.specs.declared.Compared.{Compared}
use Rattle.compare.specs.Change.{first_end}
use Rattle.comparer.specs.Output.{output_bytes, refusal_bytes, answer_bytes, sheets_bytes, program_bytes}

-- a record has five bytes or more
wide : (b : ℕ) → 5 ≤ (width_said b).bytes
unfolding width_said
wide b = by (eqb b 5)
  where
    by : (x : Bool) → 5 ≤ (cond x five seven).bytes
    by true = omega arith
    by false = omega arith

five_each : (b n : ℕ) → 5 ≤ b → 5 * n ≤ b * n
five_each b zero h = omega arith
five_each b (suc n) h =
    let e : b * suc n ≡ b * n + b = omega arith in
    omega (arith, five_each b n h)

few : (s : List ℕ) → well_formed s ≡ true → 4 + 5 * count_of s ≤ length s
few s e =
    let good = sheet_good (width_of s).bytes s e in
    omega (arith, good.size, five_each (width_of s).bytes (count_of s) (wide (get_or s 0 0)))

rows : (a b c d room twice : Bool) → ℕ
unfolding first
rows a b c d room twice =
    first (15 when not a ∷ 16 when not b ∷ 15 when not c ∷ 16 when not d ∷ 13 when room ∷ 14 when twice ∷ [])

behind_both : (a b c d x y twice : Bool) → (a ≡ true → c ≡ true → x ≡ y) → rows a b c d x twice ≡ rows a b c d y twice
unfolding rows first
behind_both false b c d x y twice h = refl
behind_both true false c d x y twice h = refl
behind_both true true false d x y twice h = refl
behind_both true true true false x y twice h = refl
behind_both true true true true x y twice h = rw (h refl refl) refl

pub room_enough : (s t : List ℕ) → length s + length t ≤ 32768 → compare_refusal s t 6552 ≡ compare_refusal s t (count_of s + count_of t)
unfolding compare_refusal rows
room_enough s t h =
    behind_both (well_formed s) (well_filled s) (well_formed t) (well_filled t) (ltb 6552 (count_of s + count_of t))
    (ltb (count_of s + count_of t) (count_of s + count_of t)) (two_of eqb (records_of s) || two_of eqb (records_of t))
    (λ p q. le-ltb 6552 (count_of s + count_of t) (omega (arith, h, few s p, few t q))
    ∙ sym (le-ltb (count_of s + count_of t) (count_of s + count_of t) (omega arith)))

-- ---- The output, as the code comes by it: by the number of two sheets in the program's room.

by_number : (n : ℕ) (a b : List ℕ) → (n ≡ 0 → ⊥) → answer_bytes n a b ≡ refusal_bytes n
unfolding answer_bytes
by_number zero a b h = absurd (h refl)
by_number (suc n) a b h = refl

module _ (input : List ℕ) (short : length input ≤ 32768) {e : ℕ} (end : e ≡ first_end input) {s t : List ℕ} (one : s ≡ take e input)
    (two : t ≡ drop e input) {n : ℕ} (number : n ≡ compare_refusal s t 6552) where
  said : program_bytes input ≡ answer_bytes n (records_of s) (records_of t)
  unfolding program_bytes sheets_bytes
  said =
      let total : length s + length t ≤ 32768 =
      omega (arith, ap length one, ap length two, length-append (take e input) (drop e input), ap length (take-append-drop e input)) in
      rw (le-ltb 32768 (length input) short, sym end, sym one, sym two, sym (room_enough s t total), sym number) refl

  pub output_is : n ≡ 0 → output_bytes (records_of s) (records_of t) ≡ program_bytes input
  unfolding answer_bytes
  output_is z = sym (said ∙ ap (λ k. answer_bytes k (records_of s) (records_of t)) z)

  pub refusal_is : (n ≡ 0 → ⊥) → refusal_bytes n ≡ program_bytes input
  refusal_is h = sym (said ∙ by_number n (records_of s) (records_of t) h)

  pub output_said : n ≡ 0 → length (output_bytes (records_of s) (records_of t)) ≡ length (program_bytes input)
  output_said z = ap length (output_is z)

  pub refusal_said : (n ≡ 0 → ⊥) → length (refusal_bytes n) ≡ length (program_bytes input)
  refusal_said h = ap length (refusal_is h)

-- the number that `compare` tells
pub number_told : {s t before after : List ℕ} {answer : Compared} → Compares s t before answer after → length before ≡ 6552
    → answer.number ≡ compare_refusal s t 6552
unfolding compared
number_told {s} {t} told room = ap (λ (a : Compared). a.number) told.answers ∙ ap (compare_refusal s t) room

pub rest_is : (e : ℕ) (s : List ℕ) → take (length s - e) (drop e s) ≡ drop e s
rest_is e s = take_all (length s - e) (drop e s) (omega (arith, length-drop e s))
