-- THE LISTER'S DECISION, over the first line and how many bytes of text came behind it, the first of which are in a buffer.
use Rattle.std.specs.Prelude.{◌≡◌, List, true, false, ℕ, ◌≤◌, ◌<◌, length, take, replicate, Some, None}
use Rattle.cifti.specs.Conditions.{lengths_wrong}
use Rattle.cifti.specs.Answer.{refused_with, Reads}
use Rattle.cifti.specs.declared.answer.Answer.{Answer}
use Rattle.input.specs.Limits.{most_text}
use Rattle.input.specs.Lengths.{lengths_in}

-- Refused, the records keep their contents, and the work space is zero.
pub data Chooses (lengths buffer : List ℕ) (came : ℕ) (records work : List ℕ)
    : (answer : Answer) (records_after workAfter : List ℕ) → Type 0 where
  -- condition 1, also where the text is too long
  bad_lengths : lengths_wrong lengths ≡ true → Chooses lengths buffer came records work (refused_with 1) records (replicate (length work) 0)
  too_long : lengths_wrong lengths ≡ false → most_text < came
      → Chooses lengths buffer came records work (refused_with 2) records (replicate (length work) 0)
  as_read : {a : Answer} {s w : List ℕ} → lengths_wrong lengths ≡ false → came ≤ most_text
      → Reads (take came buffer) lengths records work a s w → Chooses lengths buffer came records work a s w

pub data Decides (line buffer : List ℕ) (came : ℕ) (records work : List ℕ)
    : (answer : Answer) (records_after workAfter : List ℕ) → Type 0 where
  -- bad form: 1, first
  bad_form : lengths_in line ≡ None → Decides line buffer came records work (refused_with 1) records (replicate (length work) 0)
  good_form : {lengths : List ℕ} {a : Answer} {s w : List ℕ} → lengths_in line ≡ Some lengths
      → Chooses lengths buffer came records work a s w → Decides line buffer came records work a s w
