-- THE ZEROS AT THE END: dropped one by one from the last. Assumes nothing.
use Rattle.std.specs.Prelude.{◌≡◌, refl, List, [], ◌∷◌, ◌++◌, Bool, true, false, cond, ℕ, suc, ◌+◌, ◌-◌, ◌≤◌, ◌<◌, eqb, get_or, take, drop, replicate}
use Rattle.std.proofs.Math.Path.{sym}
use Rattle.std.proofs.Common.{ap, ◌∙◌, add-one, length-append, length-drop, length-take, take_all, take-suc, length-take-le, get_or-drop, eqb-true, ne_eqb}
use native.Mathlib.Omega.{arith}
use Rattle.std.proofs.Math.ListN.{length}
use Rattle.std.proofs.Math.Seq.{take-append_seam}
use Rattle.std.proofs.lemmas.Bool.{eqb-false}
use Rattle.nifti.specs.Extensions.{zero_only, without_zeros}

pub zero_dropped : (s : List ℕ) → without_zeros (s ++ (0 ∷ [])) ≡ without_zeros s
unfolding without_zeros zero_only
zero_dropped [] = refl
zero_dropped (b ∷ s) = ap (zero_only b) (zero_dropped s)

in_front : (x b : ℕ) (s : List ℕ) → zero_only x (s ++ (b ∷ [])) ≡ x ∷ (s ++ (b ∷ []))
unfolding zero_only
in_front x b [] = refl
in_front x b (y ∷ s) = refl

pub other_kept : (s : List ℕ) (b : ℕ) → (b ≡ 0 → ⊥) → without_zeros (s ++ (b ∷ [])) ≡ s ++ (b ∷ [])
unfolding without_zeros zero_only
other_kept [] b h = rw (ne_eqb b 0 h)
other_kept (x ∷ s) b h = ap (zero_only x) (other_kept s b h) ∙ in_front x b s

-- ---- As a loop from the last byte meets them.

module _ (s : List ℕ) (n : ℕ) (h : n < length s) where
  last : take (n + 1) s ≡ take n s ++ (get_or s n 0 ∷ [])
  last = ap (λ k. take k s) (add-one n) ∙ take-suc s n 0 h

  pub zero_passed : get_or s n 0 ≡ 0 → without_zeros (take (n + 1) s) ≡ without_zeros (take n s)
  zero_passed e = ap without_zeros last ∙ rw e (zero_dropped (take n s))

  pub all_kept : (get_or s n 0 ≡ 0 → ⊥) → length (without_zeros (take (n + 1) s)) ≡ n + 1
  all_kept e =
      let l = length-append (take n s) (get_or s n 0 ∷ []) in
      let k = length-take-le n s (omega arith) in
      ap (λ r. length (without_zeros r)) last ∙ ap length (other_kept (take n s) (get_or s n 0) e) ∙ omega arith

-- what is left of a part of a file, where its last bytes from a place on are zeros
pub record Left (file : List ℕ) (start size n : ℕ) : Type 0 where
  pub inside : start + size ≤ length file
  pub few : n ≤ size
  pub same : without_zeros (take size (drop start file)) ≡ without_zeros (take n (drop start file))

pub left_begins : (file : List ℕ) (start size : ℕ) → start + size ≤ length file → Left file start size size
left_begins file start size h = record { inside = h; few = omega arith; same = refl }

module _ {file : List ℕ} {start size n : ℕ} (l : Left file start size n) where
  pub left_ends : n ≤ 0 → 0 ≡ length (without_zeros (take size (drop start file)))
  unfolding without_zeros
  left_ends h = let z : n ≡ 0 = omega arith in sym (ap length l.same ∙ rw z)

  module _ (h : 0 < n) where
    room : n - 1 < length (drop start file)
    room = let i = l.inside in let f = l.few in let d = length-drop start file in omega arith

    back : n - 1 + 1 ≡ n
    back = omega arith

    pub left_next : get_or file (start + (n - 1)) 0 ≡ 0 → Left file start size (n - 1)
    left_next e =
        let f = l.few in
        record {
          inside = l.inside;
          few = omega arith;
          same = l.same ∙ ap (λ k. without_zeros (take k (drop start file))) (sym back)
              ∙ zero_passed (drop start file) (n - 1) room (get_or-drop start file (n - 1) 0 ∙ e);
        }

    pub left_stays : (get_or file (start + (n - 1)) 0 ≡ 0 → ⊥) → n ≡ length (without_zeros (take size (drop start file)))
    left_stays e = sym (ap length l.same ∙ ap (λ k. length (without_zeros (take k (drop start file)))) (sym back)
        ∙ all_kept (drop start file) (n - 1) room (λ q. e (sym (get_or-drop start file (n - 1) 0) ∙ q)) ∙ back)

pub ruleset stripping = (left_begins, left_ends, left_next, left_stays)

-- ---- As a loop down a slice meets them: the last byte of what is left.

pub none_kept : (s : List ℕ) → length s < 1 → s ≡ without_zeros s
unfolding without_zeros
none_kept [] h = refl
none_kept (b ∷ s) h = absurd (omega arith)

module _ (s : List ℕ) (h : 1 ≤ length s) where
  parted : s ≡ take (length s - 1) s ++ (get_or s (length s - 1) 0 ∷ [])
  parted =
      let e : length s ≡ suc (length s - 1) = omega arith in
      sym (take_all (length s) s (omega arith)) ∙ ap (λ n. take n s) e ∙ take-suc s (length s - 1) 0 (omega arith)

  pub last_passed : get_or s (length s - 1) 0 ≡ 0 → without_zeros (take (length s - 1) s) ≡ without_zeros s
  last_passed e = sym (ap without_zeros parted ∙ ap (λ b. without_zeros (take (length s - 1) s ++ (b ∷ []))) e
      ∙ zero_dropped (take (length s - 1) s))

  pub last_kept : (get_or s (length s - 1) 0 ≡ 0 → ⊥) → s ≡ without_zeros s
  last_kept e = sym (ap without_zeros parted ∙ other_kept (take (length s - 1) s) (get_or s (length s - 1) 0) e ∙ sym parted)

-- ---- NO-ZERO-LAST: what is kept and zeros are the bytes, and what is kept does not end with a zero.

pub data Stripped (s : List ℕ) : List ℕ → Type 0 where
  all_zero : (n : ℕ) → s ≡ replicate n 0 → Stripped s []
  stripped : (t : List ℕ) (b n : ℕ) → (b ≡ 0 → ⊥) → s ≡ (t ++ (b ∷ [])) ++ replicate n 0 → Stripped s (t ++ (b ∷ []))

pub no_zero_last : (s : List ℕ) → Stripped s (without_zeros s)
unfolding without_zeros zero_only
no_zero_last [] = all_zero 0 refl
no_zero_last (x ∷ s) = go (without_zeros s) (no_zero_last s)
  where
    go : (r : List ℕ) → Stripped s r → Stripped (x ∷ s) (zero_only x r)
    go _ (all_zero n e) = one (eqb x 0) refl
      where
        one : (t : Bool) → eqb x 0 ≡ t → Stripped (x ∷ s) (cond t [] (x ∷ []))
        one true q = all_zero (suc n) (let z = eqb-true x 0 q in cc)
        one false q = stripped [] x n (eqb-false x 0 q) (ap (λ l. x ∷ l) e)
    go _ (stripped t b n z e) = rw (in_front x b t) (stripped (x ∷ t) b n z (ap (λ l. x ∷ l) e))

-- what is kept is the front part of the bytes
pub kept_front : (s : List ℕ) → without_zeros s ≡ take (length (without_zeros s)) s
kept_front s = go (without_zeros s) (no_zero_last s)
  where
    go : (r : List ℕ) → Stripped s r → r ≡ take (length r) s
    go _ (all_zero n e) = refl
    go _ (stripped t b n z e) = sym (ap (take (length (t ++ (b ∷ [])))) e ∙ take-append_seam (t ++ (b ∷ [])) (replicate n 0))

pub kept_few : (s : List ℕ) → length (without_zeros s) ≤ length s
kept_few s =
    let e = ap length (kept_front s) in
    let l = length-take (length (without_zeros s)) s in
    omega arith
