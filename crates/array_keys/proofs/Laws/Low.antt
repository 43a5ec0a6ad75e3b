-- Bytes of a number: those of one number behind those of another, and the four before the last.
use Rattle.std.specs.Prelude.{◌≡◌, ◌∷◌, ◌++◌}
use Rattle.std.proofs.Math.Path.{refl}
use Prim.Native.Nat.{ℕ, zero, suc, ◌+◌, ◌*◌, ◌/◌, ◌%◌, ◌^◌, ◌<◌, ◌≤◌}
use Rattle.std.proofs.Common.{arith}
use Rattle.base64_reader.specs.Groups.{low_bytes}

-- one byte behind at most three
module _ (h v : ℕ) (small : v < 256 ^ 1) where
  one_low_0 : (h % 16777216 * 256 ^ 1 + v) / 256 ^ 0 % 256 ≡ v / 256 ^ 0 % 256
  one_low_0 = omega arith

  one_high_0 : (h % 16777216 * 256 ^ 1 + v) / 256 ^ 1 % 256 ≡ h / 256 ^ 0 % 256
  one_high_0 = omega arith

  one_high_1 : (h % 16777216 * 256 ^ 1 + v) / 256 ^ 2 % 256 ≡ h / 256 ^ 1 % 256
  one_high_1 = omega arith

  one_high_2 : (h % 16777216 * 256 ^ 1 + v) / 256 ^ 3 % 256 ≡ h / 256 ^ 2 % 256
  one_high_2 = omega arith

  one_behind : (m : ℕ) → m ≤ 3 → low_bytes (m + 1) (h % 16777216 * 256 ^ 1 + v) ≡ low_bytes m h ++ low_bytes 1 v
  unfolding low_bytes
  one_behind zero q = rw one_low_0 refl
  one_behind (suc zero) q = rw (one_high_0, one_low_0) refl
  one_behind (suc (suc zero)) q = rw (one_high_1, one_high_0, one_low_0) refl
  one_behind (suc (suc (suc zero))) q = rw (one_high_2, one_high_1, one_high_0, one_low_0) refl
  one_behind (suc (suc (suc (suc m)))) q = absurd (omega arith)

-- two bytes behind at most three
module _ (h v : ℕ) (small : v < 256 ^ 2) where
  two_low_0 : (h % 16777216 * 256 ^ 2 + v) / 256 ^ 0 % 256 ≡ v / 256 ^ 0 % 256
  two_low_0 = omega arith

  two_low_1 : (h % 16777216 * 256 ^ 2 + v) / 256 ^ 1 % 256 ≡ v / 256 ^ 1 % 256
  two_low_1 = omega arith

  two_high_0 : (h % 16777216 * 256 ^ 2 + v) / 256 ^ 2 % 256 ≡ h / 256 ^ 0 % 256
  two_high_0 = omega arith

  two_high_1 : (h % 16777216 * 256 ^ 2 + v) / 256 ^ 3 % 256 ≡ h / 256 ^ 1 % 256
  two_high_1 = omega arith

  two_high_2 : (h % 16777216 * 256 ^ 2 + v) / 256 ^ 4 % 256 ≡ h / 256 ^ 2 % 256
  two_high_2 = omega arith

  two_behind : (m : ℕ) → m ≤ 3 → low_bytes (m + 2) (h % 16777216 * 256 ^ 2 + v) ≡ low_bytes m h ++ low_bytes 2 v
  unfolding low_bytes
  two_behind zero q = rw (two_low_1, two_low_0) refl
  two_behind (suc zero) q = rw (two_high_0, two_low_1, two_low_0) refl
  two_behind (suc (suc zero)) q = rw (two_high_1, two_high_0, two_low_1, two_low_0) refl
  two_behind (suc (suc (suc zero))) q = rw (two_high_2, two_high_1, two_high_0, two_low_1, two_low_0) refl
  two_behind (suc (suc (suc (suc m)))) q = absurd (omega arith)

-- three bytes behind at most three
module _ (h v : ℕ) (small : v < 256 ^ 3) where
  three_low_0 : (h % 16777216 * 256 ^ 3 + v) / 256 ^ 0 % 256 ≡ v / 256 ^ 0 % 256
  three_low_0 = omega arith

  three_low_1 : (h % 16777216 * 256 ^ 3 + v) / 256 ^ 1 % 256 ≡ v / 256 ^ 1 % 256
  three_low_1 = omega arith

  three_low_2 : (h % 16777216 * 256 ^ 3 + v) / 256 ^ 2 % 256 ≡ v / 256 ^ 2 % 256
  three_low_2 = omega arith

  three_high_0 : (h % 16777216 * 256 ^ 3 + v) / 256 ^ 3 % 256 ≡ h / 256 ^ 0 % 256
  three_high_0 = omega arith

  three_high_1 : (h % 16777216 * 256 ^ 3 + v) / 256 ^ 4 % 256 ≡ h / 256 ^ 1 % 256
  three_high_1 = omega arith

  three_high_2 : (h % 16777216 * 256 ^ 3 + v) / 256 ^ 5 % 256 ≡ h / 256 ^ 2 % 256
  three_high_2 = omega arith

  three_behind : (m : ℕ) → m ≤ 3 → low_bytes (m + 3) (h % 16777216 * 256 ^ 3 + v) ≡ low_bytes m h ++ low_bytes 3 v
  unfolding low_bytes
  three_behind zero q = rw (three_low_2, three_low_1, three_low_0) refl
  three_behind (suc zero) q = rw (three_high_0, three_low_2, three_low_1, three_low_0) refl
  three_behind (suc (suc zero)) q = rw (three_high_1, three_high_0, three_low_2, three_low_1, three_low_0) refl
  three_behind (suc (suc (suc zero))) q = rw (three_high_2, three_high_1, three_high_0, three_low_2, three_low_1, three_low_0) refl
  three_behind (suc (suc (suc (suc m)))) q = absurd (omega arith)

pub low_behind : (m k h v : ℕ) → m ≤ 3 → 1 ≤ k → k ≤ 3 → v < 256 ^ k
    → low_bytes (m + k) (h % 16777216 * 256 ^ k + v) ≡ low_bytes m h ++ low_bytes k v
low_behind m zero h v q a b s = absurd (omega arith)
low_behind m (suc zero) h v q a b s = one_behind h v s m q
low_behind m (suc (suc zero)) h v q a b s = two_behind h v s m q
low_behind m (suc (suc (suc zero))) h v q a b s = three_behind h v s m q
low_behind m (suc (suc (suc (suc k)))) h v q a b s = absurd (omega arith)

-- the four bytes before the last m
unfoldable pub top_of : ℕ → ℕ → ℕ
top_of h m = h / 256 ^ m % 4294967296

module _ (h : ℕ) where
  top_none_0 : h / 256 ^ 3 % 256 ≡ (h / 256 ^ 0 % 4294967296) / 16777216
  top_none_0 = omega arith

  top_none_1 : h / 256 ^ 2 % 256 ≡ (h / 256 ^ 0 % 4294967296) / 65536 % 256
  top_none_1 = omega arith

  top_none_2 : h / 256 ^ 1 % 256 ≡ (h / 256 ^ 0 % 4294967296) / 256 % 256
  top_none_2 = omega arith

  top_none_3 : h / 256 ^ 0 % 256 ≡ (h / 256 ^ 0 % 4294967296) % 256
  top_none_3 = omega arith

module _ (h : ℕ) where
  top_one_0 : h / 256 ^ 4 % 256 ≡ (h / 256 ^ 1 % 4294967296) / 16777216
  top_one_0 = omega arith

  top_one_1 : h / 256 ^ 3 % 256 ≡ (h / 256 ^ 1 % 4294967296) / 65536 % 256
  top_one_1 = omega arith

  top_one_2 : h / 256 ^ 2 % 256 ≡ (h / 256 ^ 1 % 4294967296) / 256 % 256
  top_one_2 = omega arith

  top_one_3 : h / 256 ^ 1 % 256 ≡ (h / 256 ^ 1 % 4294967296) % 256
  top_one_3 = omega arith

module _ (h : ℕ) where
  top_two_0 : h / 256 ^ 5 % 256 ≡ (h / 256 ^ 2 % 4294967296) / 16777216
  top_two_0 = omega arith

  top_two_1 : h / 256 ^ 4 % 256 ≡ (h / 256 ^ 2 % 4294967296) / 65536 % 256
  top_two_1 = omega arith

  top_two_2 : h / 256 ^ 3 % 256 ≡ (h / 256 ^ 2 % 4294967296) / 256 % 256
  top_two_2 = omega arith

  top_two_3 : h / 256 ^ 2 % 256 ≡ (h / 256 ^ 2 % 4294967296) % 256
  top_two_3 = omega arith

pub top_low : (m h : ℕ) → m ≤ 2
    → low_bytes (m + 4) h ≡ (top_of h m / 16777216) ∷ (top_of h m / 65536 % 256) ∷ (top_of h m / 256 % 256) ∷ (top_of h m % 256) ∷ low_bytes m h
unfolding low_bytes top_of
top_low zero h q = rw (top_none_0 h, top_none_1 h, top_none_2 h, top_none_3 h) refl
top_low (suc zero) h q = rw (top_one_0 h, top_one_1 h, top_one_2 h, top_one_3 h) refl
top_low (suc (suc zero)) h q = rw (top_two_0 h, top_two_1 h, top_two_2 h, top_two_3 h) refl
top_low (suc (suc (suc m))) h q = absurd (omega arith)
