-- The lines of records: which one stands at a number, stretch by stretch.
use Rattle.std.specs.Prelude.{◌≡◌, List, [], ◌∷◌, ◌++◌, get_or, take, drop}
use Rattle.std.proofs.Math.Path.{refl, sym, ap}
use Rattle.std.proofs.Common.{◌∙◌, le_of_suc-le-suc, not-suc-le-zero, rules, length-drop, get_or-append-add, get_or-take, drop-drop}
use Prim.Native.Nat.{ℕ, zero, suc, ◌+◌, ◌-◌, ◌≤◌, ◌<◌, min}
use native.Mathlib.Omega.{arith}
use Rattle.std.proofs.Math.ListN.{length, length-take, get_or-append}
use Rattle.std.proofs.Math.Seq.{get_or-drop}
use Rattle.cifti.specs.declared.answer.Dimension.{Dimension}
use Rattle.card.specs.declared.line.Line.{Line}
use Rattle.card.specs.declared.line.Line.TheVariants.{End}
use Rattle.card.specs.Card.{record_line, numbered, length_from, record_lines}

pub numbered_length : (n : ℕ) (l : List ℕ) → length (numbered n l) ≡ length l
unfolding numbered
numbered_length n [] = refl
numbered_length n (r ∷ l) = ap suc (numbered_length (suc n) l)

pub numbered_at : (n : ℕ) (l : List ℕ) (i : ℕ) → i < length l → get_or (numbered n l) i End ≡ record_line (n + i) (get_or l i 0)
unfolding numbered
numbered_at n [] i h = absurd (not-suc-le-zero h)
numbered_at n (r ∷ l) zero h = let e : n + 0 ≡ n = omega arith in rw e refl
numbered_at n (r ∷ l) (suc i) h = let e : suc n + i ≡ n + suc i = omega arith in numbered_at (suc n) l i (le_of_suc-le-suc h)
    ∙ ap (λ k. record_line k (get_or l i 0)) e

-- past a list, and in it
pub past_front : {A : Type 0} (z : A) (u v : List A) (n k : ℕ) → length u ≡ k → k ≤ n → get_or (u ++ v) n z ≡ get_or v (n - k) z
past_front z u v n k e h = let s : n ≡ length u + (n - k) = omega arith in ap (λ i. get_or (u ++ v) i z) s ∙ get_or-append-add u v (n - k) z

-- the line asked is the one at `left` of what is listed from the place `at` on
pub record Seeking (dims : List Dimension) (records : List ℕ) (n left at round : ℕ) : Type 0 where
  pub rounds : round ≤ 3
  pub inside : at ≤ length records
  pub same : get_or (record_lines 3 0 dims records) n End ≡ get_or (record_lines (3 - round) at dims (drop at records)) left End

module _ (dims : List Dimension) (records : List ℕ) (n : ℕ) where
  pub seek_start : Seeking dims records n n 0 0
  seek_start = record { rounds = omega arith; inside = omega arith; same = refl }

  module _ {left at round : ℕ} (seeking : Seeking dims records n left at round) where
    pub seek_done : 3 ≤ round → End ≡ get_or (record_lines 3 0 dims records) n End
    unfolding record_lines
    seek_done h = let e : 3 - round ≡ 0 = omega arith in sym (seeking.same ∙ rw e refl)

    module _ (more : round < 3) {long reach : ℕ} (asked : long ≡ length_from at dims) (least : reach ≡ min long (length records - at)) where
      part : List ℕ
      part = take (length_from at dims) (drop at records)

      part_length : length part ≡ reach
      unfolding part
      part_length = length-take (length_from at dims) (drop at records) ∙ rw (length-drop at records, least, asked) refl

      opened : get_or (record_lines 3 0 dims records) n End
          ≡ get_or (numbered 0 part ++ record_lines (3 - (round + 1)) (at + reach) dims (drop reach (drop at records))) left End
      unfolding record_lines part
      opened = let e : 3 - round ≡ suc (3 - (round + 1)) = omega arith in seeking.same ∙ rw (e, part_length) refl

      pub seek_reach : reach ≤ length records - at
      seek_reach = omega arith

      pub seek_here : left < reach → {l : Line} → l ≡ record_line left (get_or records (at + left) 0)
          → l ≡ get_or (record_lines 3 0 dims records) n End
      unfolding part
      seek_here h is =
          let in_part : left < length part = omega (arith, part_length) in
          let in_numbered : left < length (numbered 0 part) = omega (arith, numbered_length 0 part) in
          let zero_first : 0 + left ≡ left = omega arith in
          let few : left < length_from at dims = omega arith in
          is
          ∙ sym
          (opened
          ∙ get_or-append (numbered 0 part)
          (record_lines (3 - (round + 1)) (at + reach) dims (drop reach (drop at records))) End left in_numbered
          ∙ numbered_at 0 part left in_part
          ∙ ap (λ k. record_line k (get_or part left 0)) zero_first
          ∙ ap (record_line left) (get_or-take (length_from at dims) (drop at records) left 0 few ∙ get_or-drop at records left 0))

      pub seek_later : reach ≤ left → Seeking dims records n (left - reach) (at + reach) (round + 1)
      seek_later h =
          record {
            rounds = omega arith;
            inside = omega (arith, seek_reach);
            same = opened
                ∙ past_front End (numbered 0 part)
                (record_lines (3 - (round + 1)) (at + reach) dims (drop reach (drop at records))) left reach
                (numbered_length 0 part ∙ part_length) h
                ∙ rw (drop-drop reach at records) refl;
          }

pub ruleset seekSteps = (seek_start, seek_done, seek_reach, seek_here, seek_later, rules)
