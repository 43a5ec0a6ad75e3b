-- The search among the names that are noted.
use Rattle.std.specs.Prelude.{◌≡◌, refl, List, [], ◌∷◌, ◌++◌, Bool, true, false, ◌||◌, length, get_or}
use Rattle.std.proofs.Math.Path.{ap, sym}
use Rattle.std.proofs.Common.{◌∙◌}
use Prim.Native.Nat.{ℕ, suc, ◌-◌, ◌≤◌, ◌<◌}
use native.Mathlib.Omega.{arith}
use Rattle.lists.proofs.Laws.Booleans.{or_true, or_false, or_assoc}
use Rattle.grammar.specs.Parser.{same_bytes}
use Rattle.steps.specs.Noted.{part, among, noted, Within}

pub record Noting (text starts ends : List ℕ) (n from to k : ℕ) : Type 0 where
  pub left : k ≤ n
  pub same_yet : among (part from to text) (noted text starts ends n) ≡ among (part from to text) (noted text starts ends k)

pub among_more : (w : List ℕ) (l : List (List ℕ)) (m : List ℕ) → among w (l ++ (m ∷ [])) ≡ (among w l || same_bytes m w)
unfolding among
among_more w [] m = or_false (same_bytes m w)
among_more w (x ∷ l) m = rw (among_more w l m) (or_assoc (same_bytes x w) (among w l) (same_bytes m w))

pub noting_start : (text starts ends : List ℕ) (n from to : ℕ) → Noting text starts ends n from to n
noting_start text starts ends n from to = let l : n ≤ n = omega arith in record { left = l; same_yet = refl }

module _ (text starts ends : List ℕ) (n from to k : ℕ) (go : Noting text starts ends n from to k) where
  pub noting_end : k ≤ 0 → false ≡ among (part from to text) (noted text starts ends n)
  unfolding noted among
  noting_end h = let z : k ≡ 0 = omega arith in sym (go.same_yet ∙ rw z)

  module _ (h : 0 < k) where
    last : among (part from to text) (noted text starts ends k)
        ≡ (among (part from to text) (noted text starts ends (k - 1))
        || same_bytes (part (get_or starts (k - 1) 0) (get_or ends (k - 1) 0) text) (part from to text))
    unfolding noted
    last =
        let z : k ≡ suc (k - 1) = omega arith in
        ap (λ m. among (part from to text) (noted text starts ends m)) z
        ∙ among_more (part from to text) (noted text starts ends (k - 1)) (part (get_or starts (k - 1) 0) (get_or ends (k - 1) 0) text)

    module _ {t : Bool} (is : t ≡ same_bytes (part (get_or starts (k - 1) 0) (get_or ends (k - 1) 0) text) (part from to text)) where
      pub noting_hit : t ≡ true → true ≡ among (part from to text) (noted text starts ends n)
      noting_hit e = sym (go.same_yet ∙ last ∙ rw (sym is ∙ e) (or_true (among (part from to text) (noted text starts ends (k - 1)))))

      pub noting_miss : t ≡ false → Noting text starts ends n from to (k - 1)
      noting_miss e = record {
        left = omega (arith, go.left);
        same_yet = go.same_yet ∙ last
            ∙ rw (sym is ∙ e) (or_false (among (part from to text) (noted text starts ends (k - 1))));
      }

-- the places of a noted name
module _ (text starts ends : List ℕ) (n from to : ℕ) (w : Within text starts ends n from to) (k : ℕ)
    (go : Noting text starts ends n from to k) (h : 0 < k) where
  before_all : k - 1 < n
  before_all = omega (arith, go.left)

  pub place_ahead : get_or starts (k - 1) 0 ≤ get_or ends (k - 1) 0
  place_ahead = w.spans.ahead (k - 1) before_all

  pub place_inside : get_or ends (k - 1) 0 ≤ length text
  place_inside = w.spans.inside (k - 1) before_all
