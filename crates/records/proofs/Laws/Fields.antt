-- Joining parts and parting a number undo each other, whatever the widths. Assumes nothing.
use Rattle.std.specs.Prelude.{◌≡◌, refl, List, [], ◌∷◌, ℕ, suc, ◌+◌, ◌*◌, ◌/◌, ◌%◌, ◌^◌, ◌≤◌, ◌<◌}
use Rattle.std.proofs.Common.{sym, ap, ◌∙◌, arith, suc-mul, add-mul, mul_assoc, mod-eq_of_lt, div-add-mod', mul-le-mul_right, mod-lt, pow-add, pow_pos}
use Rattle.std.proofs.Math.Nat.{mul-add-div_right, mul-add-mod_self_right, div-eq_of_lt, mod-one}
use Rattle.records.specs.Fields.{bits, joined, parts_of, Fit, none, more}

-- a number in two parts, the lower below b
module _ (b : ℕ) (pos : 0 < b) where
  pub over_low : (p j w : ℕ) → p < w → j < b → p * b + j < w * b
  over_low p j w hp hj = let h : suc p * b ≤ w * b = mul-le-mul_right b hp in omega (arith, suc-mul p b)

  pub above : (p j : ℕ) → j < b → (p * b + j) / b ≡ p
  above p j h = mul-add-div_right pos p j ∙ ap (λ (q : ℕ). p + q) (div-eq_of_lt h) ∙ omega arith

  -- the lower parts of a remainder
  pub mod_both : (r w : ℕ) → 0 < w → r / b % w * b + r % b ≡ r % (w * b)
  mod_both r w pos-w =
      let q = r / b in
      let x = q % w * b + r % b in
      let small : x < w * b = over_low (q % w) (r % b) w (mod-lt q pos-w) (mod-lt r pos) in
      let e : q / w * (w * b) + x ≡ r = omega
      (arith, mul_assoc (q / w) w b, add-mul (q / w * w) (q % w) b, ap (λ (n : ℕ). n * b) (div-add-mod' q w), div-add-mod' r b) in
      sym (ap (λ (n : ℕ). n % (w * b)) (sym e) ∙ mul-add-mod_self_right (q / w) (w * b) x ∙ mod-eq_of_lt small)

-- parts above the widths do not count
parted_low : (ws : List ℕ) (c j : ℕ) → parts_of ws (c * 2 ^ bits ws + j) ≡ parts_of ws j
unfolding bits parts_of
parted_low [] c j = refl
parted_low (w ∷ ws) c j =
    let b = 2 ^ bits ws in
    let e : c * 2 ^ (w + bits ws) + j ≡ c * 2 ^ w * b + j =
    ap (λ (n : ℕ). n + j) (ap (λ (n : ℕ). c * n) (pow-add 2 w (bits ws)) ∙ sym (mul_assoc c (2 ^ w) b)) in
    let top : (c * 2 ^ w * b + j) / b % 2 ^ w ≡ j / b % 2 ^ w =
    ap (λ (n : ℕ). n % 2 ^ w) (mul-add-div_right (pow_pos (bits ws)) (c * 2 ^ w) j) ∙ mul-add-mod_self_right c (2 ^ w) (j / b) in
    ap (λ (n : ℕ). n / b % 2 ^ w ∷ parts_of ws n) e ∙ (λ k. top k ∷ parted_low ws (c * 2 ^ w) j k)

pub joined_below : {ws ps : List ℕ} → Fit ws ps → joined ws ps < 2 ^ bits ws
unfolding bits joined
joined_below none = omega arith
joined_below (more {w} {p} {ws} {ps} h f) =
    rw (pow-add 2 w (bits ws)) (over_low (2 ^ bits ws) (pow_pos (bits ws)) p (joined ws ps) (2 ^ w) h (joined_below f))

pub parted_joined : {ws ps : List ℕ} → Fit ws ps → parts_of ws (joined ws ps) ≡ ps
unfolding joined parts_of
parted_joined none = refl
parted_joined (more {w} {p} {ws} {ps} h f) =
    let b = 2 ^ bits ws in
    let top : (p * b + joined ws ps) / b % 2 ^ w ≡ p =
    ap (λ (n : ℕ). n % 2 ^ w) (above b (pow_pos (bits ws)) p (joined ws ps) (joined_below f)) ∙ mod-eq_of_lt h in
    let rest : parts_of ws (p * b + joined ws ps) ≡ ps = parted_low ws p (joined ws ps) ∙ parted_joined f in
    λ k. top k ∷ rest k

pub joined_parted : (ws : List ℕ) (r : ℕ) → joined ws (parts_of ws r) ≡ r % 2 ^ bits ws
unfolding bits joined parts_of
joined_parted [] r = sym (mod-one r)
joined_parted (w ∷ ws) r =
    ap (λ (n : ℕ). r / 2 ^ bits ws % 2 ^ w * 2 ^ bits ws + n) (joined_parted ws r)
    ∙ mod_both (2 ^ bits ws) (pow_pos (bits ws)) r (2 ^ w) (pow_pos w)
    ∙ ap (λ (n : ℕ). r % n) (sym (pow-add 2 w (bits ws)))
