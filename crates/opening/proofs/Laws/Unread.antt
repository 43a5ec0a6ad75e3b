-- The turns of the walk down the levels of condition 5.
use Rattle.std.specs.Prelude.{◌≡◌, refl, List, Bool, true, false, Option, Some, None, ℕ}
use Rattle.std.proofs.Common.{sym, ◌∙◌, arith, rules}
use Prim.Native.Nat.{ℕ, zero, suc, ◌-◌, ◌<◌, ◌≤◌}
use Rattle.lists.specs.Lists.{any}
use Rattle.grammar.specs.Bytes.{ascii}
use Rattle.grammar.specs.Document.{Element}
use Rattle.grammar.specs.Look.{children}
use Rattle.nodes.specs.Places.{Stands, the}
use Rattle.nodes.specs.Children.{first_child, next}
use Rattle.nodes.proofs.Laws.Children.{left}
use Rattle.nodes.specs.Names.{named}
use Rattle.cifti.specs.Conditions.{kind_not_read}
use Rattle.maps.specs.Unread.{not_read}
use Rattle.maps.proofs.Laws.Unread.{any_not_read, Seeking, seek_start, seek_done, seek_stands, seek_less, seek_other, seek_found}
use Rattle.maps.proofs.Laws.Unread.{seek_missed, root_is}
use Rattle.opening.specs.Unread.{level_name, level_not_read}

-- the name
module _ (text : List ℕ) (at n : ℕ) {b : Bool} where
  pub name_map : n ≡ 0 → b ≡ named text at (ascii "MatrixIndicesMap") → b ≡ named text at (ascii (level_name n))
  unfolding level_name
  name_map z e = rw z e

  pub name_matrix : (n ≡ 0 → ⊥) → b ≡ named text at (ascii "Matrix") → b ≡ named text at (ascii (level_name n))
  unfolding level_name
  name_matrix z e = go n z
    where
      go : (n : ℕ) → (n ≡ 0 → ⊥) → b ≡ named text at (ascii (level_name n))
      go zero z = absurd (z refl)
      go (suc n) z = e

pub ruleset level_names = (name_map, name_matrix, rules)

-- the loop over children, one level down
level_down : (n : ℕ) (e : Element) → (n ≡ 0 → ⊥) → level_not_read n e ≡ any (level_not_read (n - 1)) (children (level_name (n - 1)) e)
unfolding level_not_read
level_down zero e z = absurd (z refl)
level_down (suc n) e z = let q : suc n - 1 ≡ n = omega arith in rw q

pub record Levelling (n : ℕ) (text : List ℕ) (at : ℕ) (kid : Option ℕ) : Type 0 where
  pub above : n ≡ 0 → ⊥
  pub seeking : Seeking (level_name (n - 1)) (level_not_read (n - 1)) text at kid

pub level_map : {n : ℕ} → n ≡ 0 → (e : Element) {b : Bool} → b ≡ not_read e → b ≡ level_not_read n e
unfolding level_not_read
level_map z e h = rw z h

pub level_start : {n : ℕ} → (n ≡ 0 → ⊥) → {text : List ℕ} {at : ℕ} → Stands text at → {kid : Option ℕ} → kid ≡ first_child text at
    → Levelling n text at kid
level_start z st e = record { above = z; seeking = seek_start _ _ st e }

module _ {n : ℕ} {text : List ℕ} {at : ℕ} {kid : Option ℕ} (go : Levelling n text at kid) where
  pub level_room : 1 ≤ n
  level_room = let z = go.above in omega arith

  pub level_falls : {t : ℕ} → n ≡ t → n - 1 < t
  level_falls e = let z = go.above in omega arith

  pub level_done : kid ≡ None → false ≡ level_not_read n (the text at)
  level_done e = seek_done _ _ go.seeking e ∙ sym (level_down n (the text at) go.above)

  module _ {k : ℕ} (is_child : kid ≡ Some k) where
    pub level_stands : Stands text k
    level_stands = seek_stands _ _ go.seeking is_child

    pub level_less : {kid₁ : Option ℕ} → kid₁ ≡ next text k → left text kid₁ < left text kid
    level_less e = seek_less _ _ go.seeking is_child e

    module _ {b : Bool} (nm : b ≡ named text k (ascii (level_name (n - 1)))) where
      pub level_other : b ≡ false → {kid₁ : Option ℕ} → kid₁ ≡ next text k → Levelling n text at kid₁
      level_other f e = record { above = go.above; seeking = seek_other _ _ go.seeking is_child nm f e }

      pub level_found : b ≡ true → {c : Bool} → c ≡ level_not_read (n - 1) (the text k) → c ≡ true → true ≡ level_not_read n (the text at)
      level_found t q r = seek_found _ _ go.seeking is_child nm t q r ∙ sym (level_down n (the text at) go.above)

      pub level_missed : b ≡ true → {c : Bool} → c ≡ level_not_read (n - 1) (the text k) → c ≡ false → {kid₁ : Option ℕ} → kid₁ ≡ next text k
          → Levelling n text at kid₁
      level_missed t q r e = record { above = go.above; seeking = seek_missed _ _ go.seeking is_child nm t q r e }

pub ruleset levelling = (
  level_map,
  level_start,
  level_room,
  level_falls,
  level_done,
  level_stands,
  level_less,
  level_other,
  level_found,
  level_missed,
  rules,
)

-- two levels below the root
pub root_level : (e : Element) {b : Bool} → b ≡ level_not_read 2 e → b ≡ kind_not_read e
unfolding level_not_read level_name any_not_read
root_level e h = root_is e h

pub ruleset levels = (root_level, rules)
