-- A MARK IS A BIT OF A LIST OF WORDS. Assumes nothing.
use Rattle.std.specs.Prelude.{◌≡◌, List, Bool, true, ℕ, ◌/◌, ◌%◌, ◌^◌, ◌<◌, length, get_or}

abbrev pub bit : (word place : ℕ) → ℕ
bit w s = w / 2 ^ s % 2

abbrev pub marked : List ℕ → ℕ → ℕ
marked work q = bit (get_or work (q / 64) 0) (q % 64)

-- every mark stays
pub record Stay (before after : List ℕ) : Type 0 where
  pub long : length after ≡ length before
  pub stays : (q : ℕ) → marked before q ≡ 1 → marked after q ≡ 1

-- Every mark stays; where the answer is yes, the place was not marked; and it is marked, where there is room.
pub record Marked (before : List ℕ) (place : ℕ) (new : Bool) (after : List ℕ) : Type 0 where
  pub kept : Stay before after
  pub unmarked : new ≡ true → marked before place ≡ 0
  pub now_marked : new ≡ true → marked after place ≡ 1
  pub with_room : place / 64 < length before → marked after place ≡ 1

-- a bit that is not set, of 64
pub record Unset (word shift : ℕ) : Type 0 where
  pub within : shift < 64
  pub is_zero : bit word shift ≡ 0
