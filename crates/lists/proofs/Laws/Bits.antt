-- BITS OF A NUMBER: a bit that is not set is set by a sum, and no other changes. Assumes nothing.
use Rattle.std.specs.Prelude.{◌≡◌, refl, ℕ, zero, suc, ◌+◌, ◌*◌, ◌-◌, ◌/◌, ◌%◌, ◌^◌, ◌≤◌, ◌<◌}
use Rattle.std.proofs.Common.{sym, ap, ◌∙◌, subst, arith, div-add-mod', mod-lt, mul-le-mul_right, add-mul, pow_pos, pow-add, shr-shr, shr_lt, shl_exact}
use Rattle.std.proofs.Math.Nat.{mul-add-div_right}

abbrev bit : (number place : ℕ) → ℕ
bit w s = w / 2 ^ s % 2

-- so many times 2 ^ t more
more : (w m t : ℕ) → (w + m * 2 ^ t) / 2 ^ t ≡ w / 2 ^ t + m
more w m t = ap (λ (x : ℕ). x / 2 ^ t) (the_sum w (m * 2 ^ t)) ∙ mul-add-div_right (pow_pos t) m w ∙ the_sum m (w / 2 ^ t)
  where
    the_sum : (a b : ℕ) → a + b ≡ b + a
    the_sum a b = omega arith

once : (w s : ℕ) → (w + 2 ^ s) / 2 ^ s ≡ w / 2 ^ s + 1
once w s = let o : 1 * 2 ^ s ≡ 2 ^ s = omega arith in ap (λ (x : ℕ). (w + x) / 2 ^ s) (sym o) ∙ more w 1 s

pub data Side (a b : ℕ) : Type 0 where
  under : a < b → Side a b
  same : a ≡ b → Side a b
  over : b < a → Side a b

pub side : (a b : ℕ) → Side a b
side zero zero = same refl
side zero (suc b) = under (omega arith)
side (suc a) zero = over (omega arith)
side (suc a) (suc b) = more_side (side a b)
  where
    more_side : Side a b → Side (suc a) (suc b)
    more_side (under h) = under (omega arith)
    more_side (same h) = same (ap suc h)
    more_side (over h) = over (omega arith)

module _ (w s : ℕ) (unset : bit w s ≡ 0) where
  pub sets : bit (w + 2 ^ s) s ≡ 1
  sets = rw (once w s) (omega (arith, unset))

  pub below : (t d : ℕ) → s ≡ 1 + d + t → bit (w + 2 ^ s) t ≡ bit w t
  below t d e =
      let p : 2 ^ s ≡ 2 * 2 ^ d * 2 ^ t = ap (λ (x : ℕ). 2 ^ x) e ∙ pow-add 2 (1 + d) t ∙ ap (λ (x : ℕ). x * 2 ^ t) (pow-add 2 1 d) in
      rw (p, more w (2 * 2 ^ d) t) (omega arith)

  half : (w + 2 ^ s) / 2 ^ s / 2 ≡ w / 2 ^ s / 2
  half = rw (once w s) (omega (arith, unset))

  pub above : (t d : ℕ) → t ≡ s + (1 + d) → bit (w + 2 ^ s) t ≡ bit w t
  above t d e = ap (λ (x : ℕ). x % 2) (shift (w + 2 ^ s) ∙ ap (λ (x : ℕ). x / 2 ^ d) half ∙ sym (shift w))
    where
      shift : (x : ℕ) → x / 2 ^ t ≡ x / 2 ^ s / 2 / 2 ^ d
      shift x = ap (λ (y : ℕ). x / 2 ^ y) e ∙ sym (shr-shr x s (1 + d)) ∙ sym (shr-shr (x / 2 ^ s) 1 d)

  pub keeps : (t : ℕ) → bit w t ≡ 1 → bit (w + 2 ^ s) t ≡ 1
  keeps t h = go (side t s)
    where
      go : Side t s → bit (w + 2 ^ s) t ≡ 1
      go (under u) = below t (s - t - 1) (omega arith) ∙ h
      go (same e) = rw e sets
      go (over o) = above t (t - s - 1) (omega arith) ∙ h

  pub fits : s < 64 → w < 2 ^ 64 → w + 2 ^ s < 2 ^ 64
  fits u v =
      let q = w / 2 ^ s in
      let m = 2 ^ (63 - s) in
      let e : 64 ≡ 1 + (63 - s) + s = omega arith in
      let top : 2 ^ 64 ≡ 2 * m * 2 ^ s = ap (λ (x : ℕ). 2 ^ x) e ∙ pow-add 2 (1 + (63 - s)) s
      ∙ ap (λ (x : ℕ). x * 2 ^ s) (pow-add 2 1 (63 - s)) in
      let small : q < 2 ^ (1 + (63 - s)) = shr_lt (1 + (63 - s)) s (subst (λ (x : ℕ). w < 2 ^ x) e v) in
      let two : 2 ^ (1 + (63 - s)) ≡ 2 * m = pow-add 2 1 (63 - s) in
      let step : suc (suc q) * 2 ^ s ≤ 2 * m * 2 ^ s = mul-le-mul_right (2 ^ s) (omega (arith, unset, small, two)) in
      let parts = div-add-mod' w (2 ^ s) in
      let low = mod-lt w (pow_pos s) in
      omega (arith, step, top, parts, low, add-mul q 2 (2 ^ s), two_more q)
    where
      two_more : (q : ℕ) → suc (suc q) * 2 ^ s ≡ q * 2 ^ s + 2 ^ s + 2 ^ s
      two_more q = omega arith

pub one_shifted : {s r : ℕ} → s < 64 → r ≡ 1 * 2 ^ s % 2 ^ 64 → r ≡ 2 ^ s
one_shifted {s} h e = let o : 1 * 2 ^ s ≡ 2 ^ s = omega arith in e ∙ shl_exact 1 s 64 (omega arith) (omega arith) ∙ o
