-- The reader's own limit, computed, for a text longer than a program here can hold.
use Rattle.std.specs.Prelude.{◌≡◌, refl, [], ◌∷◌, None}
use Rattle.lists.specs.Lists.{lists}
use Rattle.cifti.specs.Conditions.{refusal, condition_words}

-- a text of 16,777,217 bytes is refused with 2, before 3; one of 16,777,216 is not
pub reader_limit : (refusal (2 ∷ 3 ∷ []) 16777217 3 3 None ≡ 2) × (refusal (2 ∷ 3 ∷ []) 16777216 3 3 None ≡ 3)
unfolding condition_words lists
reader_limit = (refl, refl)
