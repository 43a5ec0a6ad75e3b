-- What is proved of Seen.
use Rattle.std.specs.Prelude.{◌≡◌, List, [], ◌∷◌, ◌++◌, Bool, true, false, cond, ℕ, ◌+◌, ◌-◌, ◌≤◌, ◌<◌, min, eqb, length, get_or, set, replicate, drop, Option, Some, None}
use Rattle.std.proofs.Common.{sym, ap, ◌∙◌, append_assoc, append-nil, arith, length-set, drop_of_length-le, get_or-set_same, get_or-set_other, eq-eqb, ne_eqb, rules}
use Rattle.std.proofs.lemmas.List.{get_or-replicate}
use Rattle.std.proofs.Math.Decide.{ℕ_discrete}
use Rattle.lists.specs.Lists.{count}
use Rattle.grammar.specs.Look.{Word}
use Rattle.nodes.specs.Values.{value_there, tells, decoded_at}
use Rattle.nodes.proofs.Laws.NextBytes.{value_begins, tells_none, decoded_byte, decoded_end}
use Rattle.maps.specs.declared.dims.Dims.{Dims}
use Rattle.maps.specs.Seen.{CountsDigits, Grown}

count_more : (p : ℕ → Bool) (w : Word) (b : ℕ) → count p (w ++ (b ∷ [])) ≡ count p w + cond (p b) 1 0
unfolding count
count_more p [] b = omega arith
count_more p (a ∷ w) b = let h = count_more p w b in omega arith

-- a byte that is no digit
grown_out : (b : ℕ) (r : Dims) → ((d : ℕ) → d < 10 → d + 48 ≡ b → ⊥) → Grown b r r
grown_out b r out w l = record {
  ten = l.ten;
  each_is = λ d u. (let z : eqb (d + 48) b ≡ false = ne_eqb (d + 48) b (out d u) in
      rw (count_more (eqb (d + 48)) w b, z) (let h = l.each_is d u in omega arith));
}

pub grown_low : (b : ℕ) (r : Dims) → b < 48 → Grown b r r
grown_low b r h = grown_out b r (λ d u e. omega arith)

pub grown_high : (b : ℕ) (r : Dims) → 57 < b → Grown b r r
grown_high b r h = grown_out b r (λ d u e. omega arith)

module _ (b : ℕ) (low : 48 ≤ b) (high : b ≤ 57) (r : Dims) where
  -- a digit that was met less than twice
  pub grown_set : (s : Dims) → get_or r.has (b - 48) 0 < 2 → s.has ≡ set r.has (b - 48) (get_or r.has (b - 48) 0 + 1) → Grown b r s
  grown_set s few e w l = record {
    ten = ap length e ∙ length-set r.has (b - 48) _ ∙ l.ten;
    each_is = λ d u. (rw (e, count_more (eqb (d + 48)) w b) (go d u (ℕ_discrete d (b - 48))));
  }
    where
      k : ℕ
      k = b - 48

      go : (d : ℕ) → d < 10 → Dec (d ≡ b - 48)
          → get_or (set r.has (b - 48) (get_or r.has (b - 48) 0 + 1)) d 0 ≡ min 2 (count (eqb (d + 48)) w + cond (eqb (d + 48) b) 1 0)
      go d u (yes q) =
          let z : eqb (d + 48) b ≡ true = eq-eqb (d + 48) b (omega arith) in
          let h = l.each_is (b - 48) (omega arith) in
          let long = l.ten in
          rw (z, q, get_or-set_same r.has (b - 48) (get_or r.has (b - 48) 0 + 1) 0 (omega arith)) (omega arith)
      go d u (no q) =
          let z : eqb (d + 48) b ≡ false = ne_eqb (d + 48) b (λ x. q (omega arith)) in
          let h = l.each_is d u in
          rw (z, get_or-set_other r.has (b - 48) d (get_or r.has (b - 48) 0 + 1) 0 q) (omega arith)

  -- a digit that was met twice already
  pub grown_full : 2 ≤ get_or r.has (b - 48) 0 → Grown b r r
  grown_full full w l = record { ten = l.ten; each_is = λ d u. (rw (count_more (eqb (d + 48)) w b) (go d u (ℕ_discrete d (b - 48)))) }
    where
      go : (d : ℕ) → d < 10 → Dec (d ≡ b - 48) → get_or r.has d 0 ≡ min 2 (count (eqb (d + 48)) w + cond (eqb (d + 48) b) 1 0)
      go d u (yes q) =
          let z : eqb (d + 48) b ≡ true = eq-eqb (d + 48) b (omega arith) in
          let h = l.each_is d u in
          let f : get_or r.has d 0 ≡ get_or r.has (b - 48) 0 = ap (λ i. get_or r.has i 0) q in
          rw z (omega arith)
      go d u (no q) =
          let z : eqb (d + 48) b ≡ false = ne_eqb (d + 48) b (λ x. q (omega arith)) in
          let h = l.each_is d u in
          rw z (omega arith)

-- ---- The digits of a value, byte after byte.

pub record Reading (text : List ℕ) (v q : ℕ) (r : Dims) (i : ℕ) : Type 0 where
  pub done : Word
  pub so_far : CountsDigits done r
  pub all : value_there text v ≡ done ++ tells q (drop i text)

pub none_yet : (r : Dims) → r.has ≡ replicate 10 0 → CountsDigits [] r
unfolding count
none_yet r e = record { ten = ap length e; each_is = λ d u. (ap (λ l. get_or l d 0) e ∙ get_or-replicate 10 d 0 0 u ∙ omega arith) }

pub reading_none : (text : List ℕ) (v : ℕ) (r : Dims) → length text ≤ v → r.has ≡ replicate 10 0 → CountsDigits (value_there text v) r
reading_none text v r h e =
    let s : length text ≤ v + 1 = omega arith in
    let d : drop (v + 1) text ≡ [] = drop_of_length-le text s in
    rw (value_begins text v, d, tells_none (get_or text v 0)) (none_yet r e)

pub reading_start : (text : List ℕ) (v : ℕ) (r : Dims) → r.has ≡ replicate 10 0 → Reading text v (get_or text v 0) r (v + 1)
reading_start text v r e = record { done = []; so_far = none_yet r e; all = value_begins text v }

module _ {text : List ℕ} {v q i : ℕ} {r : Dims} (go : Reading text v q r i) {c : Option (ℕ × ℕ)} (e : c ≡ decoded_at text i q) where
  pub reading_done : c ≡ None → CountsDigits (value_there text v) r
  reading_done h =
      let z : value_there text v ≡ go.done = go.all ∙ ap (λ l. go.done ++ l) (decoded_end text q i e h) ∙ append-nil go.done in
      rw z go.so_far

  module _ {b j : ℕ} (h : c ≡ Some (b, j)) where
    pub reading_less : length text - j < length text - i
    reading_less = let d = decoded_byte text q i e h in omega (arith, d.inside, d.ahead)

    pub reading_more : {s : Dims} → Grown b r s → Reading text v q s j
    reading_more {s} g =
        let d = decoded_byte text q i e h in
        record {
          done = go.done ++ (b ∷ []);
          so_far = g go.done go.so_far;
          all = go.all ∙ ap (λ l. go.done ++ l) d.splits ∙ sym (append_assoc go.done (b ∷ []) (tells q (drop j text)));
        }

pub ruleset reading = (reading_none, reading_start, reading_done, reading_less, reading_more, rules)

pub ruleset growing = (grown_low, grown_high, grown_set, grown_full, rules)
