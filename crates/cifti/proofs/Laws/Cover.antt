-- THE RANGES OF MODELS: what is known of ranges in general (`lists/proofs/Laws/Tiled`), of the indices that a model covers.
use Rattle.std.specs.Prelude.{◌≡◌, List, true, ℕ, ◌+◌, ◌<◌, ◌≤◌, length, get_or}
use Rattle.lists.specs.Lists.{count, total}
use Rattle.lists.specs.Ranges.{holds}
use Rattle.lists.proofs.Laws.Tiled as Ranges
use Rattle.cifti.specs.Maps.{Model, covers}

pub covers_yes : (n : ℕ) (m : Model) → m.offset ≤ n → n < m.offset + m.count → covers n m ≡ true
unfolding covers holds
covers_yes n m h k = Ranges.holds_yes (λ (x : Model). x.offset) (λ (x : Model). x.count) n m h k

pub covers_is : (n : ℕ) (m : Model) → covers n m ≡ true → (m.offset ≤ n) × (n < m.offset + m.count)
unfolding covers holds
covers_is n m h = Ranges.holds_is (λ (x : Model). x.offset) (λ (x : Model). x.count) n m h

-- where every index below the sum of the counts lies in exactly one range, no range reaches past the sum
pub ranges_within : (b : Model) (l : List Model) → ((i : ℕ) → i < total (λ m. m.count) l → count (covers i) l ≡ 1)
    → (i : ℕ) → i < length l → 1 ≤ (get_or l i b).count → (get_or l i b).offset + (get_or l i b).count ≤ total (λ m. m.count) l
unfolding covers holds
ranges_within b l f i u v = Ranges.ranges_within (λ (x : Model). x.offset) (λ (x : Model). x.count) b l f i u v
