-- What is proved of ElementEnd.
use Rattle.std.specs.Prelude.{◌≡◌, List, ℕ, length, drop}
use Rattle.nodes.specs.Children.{kid_then, kid_at, next}
use Rattle.nodes.specs.ElementEnd.{Behind}

pub next_behind : {text : List ℕ} {k j : ℕ} → Behind text k j → next text k ≡ kid_at (length text) (drop j text)
unfolding next kid_then
next_behind b = rw b.ends
