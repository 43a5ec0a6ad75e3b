-- What is proved of filling by ranges: one write, by places; all written one after the other are the table by index.
use Rattle.std.specs.Prelude.{◌≡◌, Bool, true, cond, take, drop}
use Rattle.std.proofs.Math.Path.{refl}
use Rattle.std.proofs.Common.{sym, ap, ◌∙◌, arith, length-append, length-drop, ext_get_or, get_or-append-add, get_or-take, get_or-drop, length-take-le}
use mathlib.Core.List.{List, [], ◌∷◌, ◌++◌}
use Rattle.std.proofs.Math.Bool.{false}
use Prim.Native.Nat.{ℕ, ◌+◌, ◌-◌, ◌<◌, ◌≤◌}
use Rattle.std.proofs.Math.Decide.{dec_lt}
use Rattle.std.proofs.Math.ListN.{length, get_or, get_or-append}
use Rattle.lists.proofs.Laws.Booleans.{both_ways}
use Rattle.lists.specs.Lists.{tabulated, count}
use Rattle.lists.proofs.Laws.Tables.{size_of_table, entry_of_table}
use Rattle.lists.specs.Ranges.{holds, OnceBelow}
use Rattle.lists.specs.Filling.{wrote, filled, entry_at, Fitting, none_fits, one_fits}
use Rattle.lists.proofs.Laws.Tiled.{holds_is, holds_yes}

-- ---- One write, by places.

module _ (at : ℕ) (v s : List ℕ) (fits : at + length v ≤ length s) where
  wrote_length : length (wrote at v s) ≡ length s
  wrote_length =
      let a = length-append (take at s ++ v) (drop (at + length v) s) in
      let b = length-append (take at s) v in
      let c = length-take-le at s (omega arith) in
      let d = length-drop (at + length v) s in
      omega arith

  front : length (take at s ++ v) ≡ at + length v
  front = omega (arith, length-append (take at s) v, length-take-le at s (omega arith))

  pub wrote_in : (i : ℕ) → i < length v → get_or (wrote at v s) (at + i) 0 ≡ get_or v i 0
  wrote_in i h =
      let a : length (take at s) ≡ at = length-take-le at s (omega arith) in
      let low : at + i < length (take at s ++ v) = omega (arith, front) in
      let e : at + i ≡ length (take at s) + i = omega arith in
      get_or-append (take at s ++ v) _ 0 (at + i) low ∙ ap (λ n. get_or (take at s ++ v) n 0) e ∙ get_or-append-add (take at s) v i 0

  pub wrote_before : (p : ℕ) → p < at → get_or (wrote at v s) p 0 ≡ get_or s p 0
  wrote_before p h =
      let a : length (take at s) ≡ at = length-take-le at s (omega arith) in
      let low : p < length (take at s ++ v) = omega (arith, front) in
      let low₁ : p < length (take at s) = omega arith in
      get_or-append (take at s ++ v) _ 0 p low ∙ get_or-append (take at s) v 0 p low₁ ∙ get_or-take at s p 0 h

  pub wrote_past : (p : ℕ) → at + length v ≤ p → get_or (wrote at v s) p 0 ≡ get_or s p 0
  wrote_past p h =
      let k : ℕ = p - (at + length v) in
      let e : p ≡ length (take at s ++ v) + k = omega (arith, front) in
      let e₁ : at + length v + k ≡ p = omega arith in
      ap (λ n. get_or (wrote at v s) n 0) e ∙ get_or-append-add (take at s ++ v) (drop (at + length v) s) k 0 ∙ get_or-drop (at + length v) s k 0
      ∙ ap (λ n. get_or s n 0) e₁

-- ---- The ranges, one after the other.

module _ {A : Type 0} (offset size : A → ℕ) (f : A → List ℕ) where
  module _ (start whole : ℕ) where
    filled_length : (l : List A) (s : List ℕ) → Fitting offset size f whole l → start + whole ≤ length s → length (filled offset size f start l s) ≡ length s
    unfolding filled
    filled_length [] s none_fits h = refl
    filled_length (m ∷ l) s (one_fits e u more) h =
        let w = wrote_length (start + offset m) (f m) s (omega arith) in
        filled_length l (wrote (start + offset m) (f m) s) more (omega arith) ∙ w

    -- outside the stretch nothing is written
    filled_out : (l : List A) (s : List ℕ) → Fitting offset size f whole l → start + whole ≤ length s → (p : ℕ) → (p < start → ⊥) → (start + whole ≤ p)
        → get_or (filled offset size f start l s) p 0 ≡ get_or s p 0
    unfolding filled
    filled_out [] s none_fits h p a b = refl
    filled_out (m ∷ l) s (one_fits e u more) h p a b =
        let w = wrote_length (start + offset m) (f m) s (omega arith) in
        filled_out l (wrote (start + offset m) (f m) s) more (omega arith) p a b
        ∙ wrote_past (start + offset m) (f m) s (omega arith) p (omega arith)

    filled_low : (l : List A) (s : List ℕ) → Fitting offset size f whole l → start + whole ≤ length s → (p : ℕ) → p < start
        → get_or (filled offset size f start l s) p 0 ≡ get_or s p 0
    unfolding filled
    filled_low [] s none_fits h p a = refl
    filled_low (m ∷ l) s (one_fits e u more) h p a =
        let w = wrote_length (start + offset m) (f m) s (omega arith) in
        filled_low l (wrote (start + offset m) (f m) s) more (omega arith) p a
        ∙ wrote_before (start + offset m) (f m) s (omega arith) p (omega arith)

    -- where no range is, nothing is written
    filled_none : (l : List A) (s : List ℕ) → Fitting offset size f whole l → start + whole ≤ length s → (n : ℕ) → count (holds offset size n) l ≡ 0
        → get_or (filled offset size f start l s) (start + n) 0 ≡ get_or s (start + n) 0
    unfolding filled count
    filled_none [] s none_fits h n z = refl
    filled_none (m ∷ l) s (one_fits e u more) h n z =
        let w = wrote_length (start + offset m) (f m) s (omega arith) in
        go (holds offset size n m) refl z (filled_none l (wrote (start + offset m) (f m) s) more (omega arith) n)
      where
        away : holds offset size n m ≡ false → start + offset m + length (f m) ≤ length s
            → get_or (wrote (start + offset m) (f m) s) (start + n) 0 ≡ get_or s (start + n) 0
        away q fit = side (dec_lt n (offset m)) (dec_lt n (offset m + size m))
          where
            side : Dec (n < offset m) → Dec (n < offset m + size m)
                → get_or (wrote (start + offset m) (f m) s) (start + n) 0 ≡ get_or s (start + n) 0
            side (yes x) y = wrote_before (start + offset m) (f m) s fit (start + n) (omega arith)
            side (no x) (yes y) = both_ways (holds_yes offset size n m (omega arith) y) q
            side (no x) (no y) = wrote_past (start + offset m) (f m) s fit (start + n) (omega arith)

        go : (b : Bool) → holds offset size n m ≡ b → cond b 1 0 + count (holds offset size n) l ≡ 0
            → (count (holds offset size n) l ≡ 0
            → get_or (filled offset size f start l (wrote (start + offset m) (f m) s)) (start + n) 0
            ≡ get_or (wrote (start + offset m) (f m) s) (start + n) 0)
            → get_or (filled offset size f start l (wrote (start + offset m) (f m) s)) (start + n) 0 ≡ get_or s (start + n) 0
        go true q k ih = absurd (omega arith)
        go false q k ih = ih (omega arith) ∙ away q (omega arith)

    -- where exactly one is, its number stands
    filled_one : (l : List A) (s : List ℕ) → Fitting offset size f whole l → start + whole ≤ length s → (n : ℕ) → count (holds offset size n) l ≡ 1
        → get_or (filled offset size f start l s) (start + n) 0 ≡ entry_at offset size f l n
    unfolding filled count entry_at
    filled_one [] s none_fits h n z = absurd (omega arith)
    filled_one (m ∷ l) s (one_fits e u more) h n z =
        let w = wrote_length (start + offset m) (f m) s (omega arith) in
        go (holds offset size n m) refl z (filled_one l (wrote (start + offset m) (f m) s) more (omega arith) n)
        (filled_none l (wrote (start + offset m) (f m) s) more (omega arith) n)
      where
        t : List ℕ
        t = wrote (start + offset m) (f m) s

        go : (b : Bool) → holds offset size n m ≡ b → cond b 1 0 + count (holds offset size n) l ≡ 1
            → (count (holds offset size n) l ≡ 1 → get_or (filled offset size f start l t) (start + n) 0 ≡ entry_at offset size f l n)
            → (count (holds offset size n) l ≡ 0 → get_or (filled offset size f start l t) (start + n) 0 ≡ get_or t (start + n) 0)
            → get_or (filled offset size f start l t) (start + n) 0 ≡ cond b (get_or (f m) (n - offset m) 0) (entry_at offset size f l n)
        go true q k one none =
            let (x, y) = holds_is offset size n m q in
            let p : start + n ≡ start + offset m + (n - offset m) = omega arith in
            none (omega arith) ∙ ap (λ i. get_or t i 0) p ∙ wrote_in (start + offset m) (f m) s (omega arith) (n - offset m) (omega arith)
        go false q k one none = one (omega arith)

    -- THE LAW: all written one after the other are the table by index
    pub filled_law : (l : List A) (s : List ℕ) → Fitting offset size f whole l → start + whole ≤ length s → OnceBelow offset size l whole
        → filled offset size f start l s ≡ wrote start (tabulated whole (entry_at offset size f l)) s
    filled_law l s fit h once =
        ext_get_or 0 (filled offset size f start l s) (wrote start (tabulated whole (entry_at offset size f l)) s) long
        (λ p u. place p (dec_lt p start) (dec_lt p (start + whole)))
      where
        tl : length (tabulated whole (entry_at offset size f l)) ≡ whole
        tl = size_of_table (entry_at offset size f l) whole

        fits : start + length (tabulated whole (entry_at offset size f l)) ≤ length s
        fits = omega (arith, tl)

        long : length (filled offset size f start l s) ≡ length (wrote start (tabulated whole (entry_at offset size f l)) s)
        long = filled_length l s fit h ∙ sym (wrote_length start (tabulated whole (entry_at offset size f l)) s fits)

        place : (p : ℕ) → Dec (p < start) → Dec (p < start + whole)
            → get_or (filled offset size f start l s) p 0 ≡ get_or (wrote start (tabulated whole (entry_at offset size f l)) s) p 0
        place p (yes x) y = filled_low l s fit h p x ∙ sym (wrote_before start (tabulated whole (entry_at offset size f l)) s fits p x)
        place p (no x) (no y) =
            filled_out l s fit h p x (omega arith) ∙ sym (wrote_past start (tabulated whole (entry_at offset size f l)) s fits p (omega (arith, tl)))
        place p (no x) (yes y) =
            let n : ℕ = p - start in
            let e : p ≡ start + n = omega arith in
            let small : n < length (tabulated whole (entry_at offset size f l)) = omega (arith, tl) in
            ap (λ i. get_or (filled offset size f start l s) i 0) e
            ∙ filled_one l s fit h n (once n (omega arith))
            ∙ sym (entry_of_table (entry_at offset size f l) 0 whole n (omega arith))
            ∙ sym (wrote_in start (tabulated whole (entry_at offset size f l)) s fits n small)
            ∙ ap (λ i. get_or (wrote start (tabulated whole (entry_at offset size f l)) s) i 0) (sym e)
