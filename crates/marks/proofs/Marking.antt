-- Marking a place.
use mathlib.Core.Path.{◌≡◌, sym, ap, ◌∙◌}
use mathlib.Core.List.{List}
use mathlib.Core.Bool.{true, false, false≢true}
use Prim.Native.Nat.{ℕ, ◌+◌, ◌/◌, ◌%◌, ◌^◌, ◌≤◌, ◌<◌}
use native.Mathlib.Omega.{arith}
use borrow.Author.Rules.{rules}
use lib.ListN.{length, get_or, set, length-set}
use lib.Seq.{get_or-set_same, get_or-set_other}
use Rattle.marks.specs.Marks.{bit, marked, Marked, Unset}
use Rattle.lists.proofs.Laws.Bits.{Side, under, same, over, side, sets, keeps, fits, one_shifted}
use Rattle.marks.proofs.Laws.Apart.{all_stay}

pub sum_fits : {w s p : ℕ} → Unset w s → w < 2 ^ 64 → p ≡ 2 ^ s → w + p < 2 ^ 64
sum_fits {w} {s} u v e = rw e (fits w s u.is_zero u.within v)

pub unset_here : {w s : ℕ} → s < 64 → w / 2 ^ s % 2 ≡ 0 → Unset w s
unset_here h e = record { within = h; is_zero = e }

not_new : {before : List ℕ} {place : ℕ} → (place / 64 < length before → marked before place ≡ 1) → Marked before place false before
not_new {before} h = record {
  kept = all_stay before;
  unmarked = λ e. absurd (false≢true e);
  now_marked = λ e. absurd (false≢true e);
  with_room = h;
}

pub no_room : {before : List ℕ} {place at : ℕ} → at ≡ place / 64 → length before ≤ at → Marked before place false before
no_room e h = not_new (λ r. absurd (omega arith))

pub set_before : (before : List ℕ) (place : ℕ) {at w : ℕ} → at ≡ place / 64 → w ≡ get_or before at 0 → (bit w (place % 64) ≡ 0 → ⊥)
    → Marked before place false before
set_before before place {at} {w} ea ew h =
    let e : w ≡ get_or before (place / 64) 0 = ew ∙ ap (λ (x : ℕ). get_or before x 0) ea in
    not_new (λ r. sym (ap (λ (x : ℕ). bit x (place % 64)) e) ∙ omega (arith, h))

module _ (before : List ℕ) (place : ℕ) {at w v : ℕ} (ea : at ≡ place / 64) (inside : at < length before) (ew : w ≡ get_or before at 0)
    (zero_bit : bit w (place % 64) ≡ 0) (ev : v ≡ w + 2 ^ (place % 64)) where
  same_word : (i : ℕ) → i ≡ at → get_or (set before at v) i 0 ≡ w + 2 ^ (place % 64)
  same_word i e = ap (λ (x : ℕ). get_or (set before at v) x 0) e ∙ get_or-set_same before at v 0 inside ∙ ev

  stays_by : (q : ℕ) → marked before q ≡ 1 → Side (q / 64) at → marked (set before at v) q ≡ 1
  stays_by q h (same e) =
      let old : bit w (q % 64) ≡ 1 = ap (λ (x : ℕ). bit x (q % 64)) (ew ∙ ap (λ (x : ℕ). get_or before x 0) (sym e)) ∙ h in
      ap (λ (x : ℕ). bit x (q % 64)) (same_word (q / 64) e) ∙ keeps w (place % 64) zero_bit (q % 64) old
  stays_by q h (under u) = ap (λ (x : ℕ). bit x (q % 64)) (get_or-set_other before at (q / 64) v 0 (λ e. omega (arith, e))) ∙ h
  stays_by q h (over o) = ap (λ (x : ℕ). bit x (q % 64)) (get_or-set_other before at (q / 64) v 0 (λ e. omega (arith, e))) ∙ h

  pub newly : Marked before place true (set before at v)
  newly = record {
    kept = record { long = length-set before at v; stays = λ q h. stays_by q h (side (q / 64) at) };
    unmarked = λ _. ap (λ (x : ℕ). bit x (place % 64)) (ap (λ (x : ℕ). get_or before x 0) (sym ea) ∙ sym ew) ∙ zero_bit;
    now_marked = λ _. is_set;
    with_room = λ _. is_set;
  }
    where
      is_set : marked (set before at v) place ≡ 1
      is_set = ap (λ (x : ℕ). bit x (place % 64)) (same_word (place / 64) (sym ea)) ∙ sets w (place % 64) zero_bit

pub ruleset marking = (one_shifted, sum_fits, unset_here, no_room, set_before, newly, rules)
