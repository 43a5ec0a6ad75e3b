-- Sixteen plain letters at once.
use Rattle.std.specs.Prelude.{◌≡◌, List, Bool, true, false, ◌&&◌, ◌||◌, not, cond, ℕ, ◌+◌, ◌-◌, ◌<◌, ◌≤◌, eqb, length, get_or}
use Rattle.std.proofs.Math.Path.{refl, sym, ap}
use Rattle.std.proofs.Common.{◌∙◌, add-one, rules}
use native.Mathlib.Omega.{arith}
use Rattle.std.proofs.Math.Decide.{dec_lt}
use Rattle.std.proofs.Math.ListN.{get_or-eq_default}
use Rattle.lists.specs.Lists.{all_below}
use Rattle.lists.proofs.Laws.Quantifiers.{all_below_iff}
use Rattle.lists.proofs.Laws.Booleans.{refute}
use Rattle.grammar.specs.Bytes.{between}
use Rattle.base64_text.specs.Base64.{worth, is_value, sixes, four_values}
use Rattle.base64_text.proofs.Laws.Letters.{value_below, is_value_lem}
use Rattle.base64_reader.specs.Groups.{bits_of, QuickGroup, letter_behind, sixteen_at}
use Rattle.base64_reader.proofs.Laws.Quick.{quick_told}

-- ONE OF THE LETTERS, by their ranges
abbrev pub ranges : ℕ → Bool
ranges b = (between 65 90 b || between 97 122 b) || (between 48 57 b || (eqb b 43 || eqb b 47))

-- whether the ranges say what the value says
unfoldable agrees : ℕ → Bool
agrees b = cond (ranges b) (is_value (worth b)) (not (is_value (worth b)))

all_agree : all_below 256 agrees ≡ true
unfolding all_below agrees is_value worth
all_agree = refl

pub letter_tested : (b : ℕ) → b < 256 → ranges b ≡ is_value (worth b)
unfolding agrees
letter_tested b h = same (ranges b) (is_value (worth b)) ((all_below_iff 256 agrees).0 all_agree b h)
  where
    same : (t u : Bool) → cond t u (not u) ≡ true → t ≡ u
    same true u k = sym k
    same false true k = k
    same false false k = refl

pub ruleset lettered = (letter_tested, rules)

-- WHERE SIXTEEN STAND

-- the bits of the four letters at a place
unfoldable pub bits_at : List ℕ → ℕ → ℕ
bits_at text i = bits_of (worth (get_or text i 0)) (worth (get_or text (i + 1) 0)) (worth (get_or text (i + 2) 0)) (worth (get_or text (i + 3) 0))

no_letter : worth 0 ≡ 64
unfolding worth
no_letter = refl

module _ (text : List ℕ) (at : ℕ) (h : sixteen_at text at ≡ true) where
  letter_behind_lem : (k : ℕ) → k < 16 → worth (get_or text (at + k) 0) < 64
  unfolding sixteen_at letter_behind
  letter_behind_lem k u = value_below (worth (get_or text (at + k) 0)) ((all_below_iff 16 (letter_behind text at)).0 h k u)

  all_inside : at + 16 ≤ length text
  all_inside = go (dec_lt (at + 15) (length text))
    where
      go : Dec (at + 15 < length text) → at + 16 ≤ length text
      go (yes u) = omega arith
      go (no u) =
          let e : get_or text (at + 15) 0 ≡ 0 = get_or-eq_default text 0 (omega arith) in
          absurd (omega (arith, rw e at (letter_behind_lem 15 (omega arith)), no_letter))

  -- four of them, m behind the place
  module _ (m : ℕ) (u : m + 4 ≤ 16) where
    pub four_small : bits_at text (at + m) < 16777216
    unfolding bits_at bits_of four_values sixes
    four_small =
        let e : at + (m + 1) ≡ at + m + 1 = omega arith in
        let f : at + (m + 2) ≡ at + m + 2 = omega arith in
        let g : at + (m + 3) ≡ at + m + 3 = omega arith in
        let p : worth (get_or text (at + m) 0) < 64 = letter_behind_lem m (omega arith) in
        let q : worth (get_or text (at + m + 1) 0) < 64 = rw e at (letter_behind_lem (m + 1) (omega arith)) in
        let r : worth (get_or text (at + m + 2) 0) < 64 = rw f at (letter_behind_lem (m + 2) (omega arith)) in
        let s : worth (get_or text (at + m + 3) 0) < 64 = rw g at (letter_behind_lem (m + 3) (omega arith)) in
        rw (is_value_lem _ p, is_value_lem _ q, is_value_lem _ r, is_value_lem _ s) (omega arith)

    pub four_quick : QuickGroup text (at + m) (bits_at text (at + m))
    unfolding bits_at
    four_quick = quick_told text (at + m) (omega (arith, all_inside)) (omega (arith, all_inside)) refl refl refl refl refl

-- the place behind them
pub sixteen_place : (text : List ℕ) (at : ℕ) {r : Bool} → r ≡ sixteen_at text at → r ≡ true → at + 16 ≤ length text
sixteen_place text at e h = all_inside text at (sym e ∙ h)

-- WHETHER SIXTEEN STAND
module _ (text : List ℕ) (at : ℕ) where
  pub sixteen_short : length text < 16 → false ≡ sixteen_at text at
  sixteen_short k = sym (refute (sixteen_at text at) (λ h. omega (arith, all_inside text at h)))

  pub sixteen_late : length text - 16 < at → false ≡ sixteen_at text at
  sixteen_late k = sym (refute (sixteen_at text at) (λ h. omega (arith, all_inside text at h)))

-- k of them are looked at
pub record Looking (text : List ℕ) (at k : ℕ) (good : Bool) : Type 0 where
  pub within : k ≤ 16
  pub inside : at + 16 ≤ length text
  pub so_far : all_below k (letter_behind text at) ≡ good

pub looking_start : {text : List ℕ} {at : ℕ} → 16 ≤ length text → at ≤ length text - 16 → Looking text at 0 true
unfolding all_below
looking_start h k = record { within = omega arith; inside = omega arith; so_far = refl }

module _ {text : List ℕ} {at k : ℕ} {good : Bool} (go : Looking text at k good) where
  pub looking_done : 16 ≤ k → good ≡ sixteen_at text at
  unfolding sixteen_at
  looking_done h = let e : k ≡ 16 = omega (arith, go.within) in sym go.so_far ∙ ap (λ n. all_below n (letter_behind text at)) e

  module _ (u : k < 16) where
    pub looking_inside : at + k < length text
    looking_inside = omega (arith, go.inside)

    pub looking_on : {t : Bool} → t ≡ is_value (worth (get_or text (at + k) 0)) → Looking text at (k + 1) (t && good)
    unfolding all_below letter_behind
    looking_on {t} e = record {
      within = omega arith;
      inside = go.inside;
      so_far = ap (λ n. all_below n (letter_behind text at)) (add-one k) ∙ rw (sym e, go.so_far) refl;
    }

pub ruleset looking = (sixteen_short, sixteen_late, looking_start, looking_done, looking_inside, looking_on, rules)
