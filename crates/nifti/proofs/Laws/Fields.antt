-- WHAT IS KNOWN OF FIELDS: a number written is read back in its order; bytes read are those of their number. Assumes nothing.
use Rattle.std.specs.Prelude.{◌≡◌, Bool, ◌&&◌, ℕ, zero, suc, ◌+◌, ◌-◌, ◌*◌, ◌%◌, ◌^◌, ◌<◌, ◌≤◌, ltb, pos, negsuc, length, take, drop}
use Rattle.std.proofs.Math.Path.{refl, ap, subst}
use Rattle.std.proofs.Common.{sym, ◌∙◌, arith, mod-lt, length-drop, pow_pos, take_at, length-take-le, ltb-false, lt-ltb, ne_eqb}
use mathlib.Core.List.{List, [], ◌∷◌, ◌++◌, reverse_aux, reverse-reverse}
use Rattle.std.proofs.Math.Bool.{true, false, cond}
use Rattle.std.proofs.Math.Dec.{eqb, leb}
use Rattle.std.proofs.lemmas.List.{length-reverse}
use Rattle.std.proofs.Math.Seq.{drop-append-add}
use Rattle.records.specs.Bytes.{bytes_of, number_written, Below}
use Rattle.records.proofs.Laws.Bytes.{length_bytes_of, bytes_back, bytes_whole, number_back, take_below, drop_below}
use Rattle.nifti.specs.Fields.{ordered, field, number_at, signed, field_is, field_at_least, natural}
use Rattle.nifti.specs.declared.Order.{Order}
use Rattle.nifti.specs.declared.Order.TheVariants.{MostFirst, LeastFirst}

-- ---- Bytes in an order.

pub ordered_twice : (o : Order) (s : List ℕ) → ordered o (ordered o s) ≡ s
unfolding ordered
ordered_twice MostFirst s = refl
ordered_twice LeastFirst s = reverse-reverse s

pub length_ordered : (o : Order) (s : List ℕ) → length (ordered o s) ≡ length s
unfolding ordered
length_ordered MostFirst s = refl
length_ordered LeastFirst s = length-reverse s

turned_below : (b : ℕ) (l r : List ℕ) → Below b l → Below b r → Below b (reverse_aux l r)
turned_below b [] r h k = k
turned_below b (x ∷ l) r h k = turned_below b l (x ∷ r) (λ i. h (suc i)) more
  where
    more : Below b (x ∷ r)
    more zero = h zero
    more (suc i) = k i

pub ordered_below : (o : Order) (s : List ℕ) → Below 256 s → Below 256 (ordered o s)
unfolding ordered
ordered_below MostFirst s h = h
ordered_below LeastFirst s h = turned_below 256 s [] h (λ i. omega arith)

pub length_field : (o : Order) (w n : ℕ) → length (field o w n) ≡ w
unfolding field
length_field o w n = length_ordered o (bytes_of w n) ∙ length_bytes_of w n

-- ---- A number written is read back.

-- at the start of bytes
pub number_first : (o : Order) (w n : ℕ) (s : List ℕ) → n < 2 ^ (8 * w) → number_at o w 0 (field o w n ++ s) ≡ n
unfolding number_at field
number_first o w n s h =
    ap (λ l. number_written (ordered o l)) (take_at (field o w n) s w (length_field o w n))
    ∙ ap number_written (ordered_twice o (bytes_of w n))
    ∙ bytes_back w n h

-- behind bytes
pub number_past : (o : Order) (w at : ℕ) (s t : List ℕ) → number_at o w (length s + at) (s ++ t) ≡ number_at o w at t
unfolding number_at
number_past o w at s t = ap (λ l. number_written (ordered o (take w l))) (drop-append-add s t at)

-- ---- Bytes read are those of their number.

module _ (o : Order) (w : ℕ) (s : List ℕ) (b : Below 256 s) (long : w ≤ length s) where
  abbrev parts : List ℕ
  parts = ordered o (take w s)

  parts_length : length parts ≡ w
  parts_length = length_ordered o (take w s) ∙ length-take-le w s long

  parts_back : bytes_of w (number_written parts) ≡ parts
  parts_back =
      ap (λ (m : ℕ). bytes_of m (number_written parts)) (sym parts_length)
      ∙ number_back parts (ordered_below o (take w s) (take_below 256 w s (omega arith) b))

  pub field_of : field o w (number_at o w 0 s) ≡ take w s
  unfolding field number_at
  field_of = ap (ordered o) parts_back ∙ ordered_twice o (take w s)

  pub number_below : number_at o w 0 s < 2 ^ (8 * w)
  unfolding number_at
  number_below =
      let e : number_written parts ≡ number_written parts % 2 ^ (8 * w) =
      ap number_written (sym parts_back) ∙ bytes_whole w (number_written parts) in
      subst (λ n. n < 2 ^ (8 * w)) (sym e) (mod-lt (number_written parts) (pow_pos (8 * w)))

-- the same at a place
pub number_drop : (o : Order) (w at : ℕ) (s : List ℕ) → number_at o w at s ≡ number_at o w 0 (drop at s)
unfolding number_at
number_drop o w at s = refl

pub at_below : (o : Order) (w at : ℕ) (s : List ℕ) → Below 256 s → at + w ≤ length s → number_at o w at s < 2 ^ (8 * w)
at_below o w at s b h = rw (number_drop o w at s)
    (number_below o w (drop at s) (drop_below 256 at s b) (omega (arith, length-drop at s)))

-- ---- Two's complement.

module _ (w n : ℕ) where
  abbrev Half : ℕ
  Half = 2 ^ (8 * w - 1)

  pub least_signed : (b : ℕ) → field_at_least b (signed w n) ≡ (ltb n Half && leb b n)
  unfolding field_at_least signed
  least_signed b = go (ltb n Half)
    where
      go : (t : Bool) → field_at_least b (cond t (pos n) (negsuc (2 ^ (8 * w) - (n + 1)))) ≡ (t && leb b n)
      go true = refl
      go false = refl

  pub is_signed : (b : ℕ) → field_is b (signed w n) ≡ (ltb n Half && eqb n b)
  unfolding field_is signed
  is_signed b = go (ltb n Half)
    where
      go : (t : Bool) → field_is b (cond t (pos n) (negsuc (2 ^ (8 * w) - (n + 1)))) ≡ (t && eqb n b)
      go true = refl
      go false = refl

  -- a small number is the one of its bits
  pub is_bits : (b : ℕ) → b < Half → field_is b (signed w n) ≡ eqb n b
  is_bits b h = is_signed b ∙ go (ltb n Half) refl
    where
      go : (t : Bool) → ltb n Half ≡ t → (t && eqb n b) ≡ eqb n b
      go true e = refl
      go false e = let u = ltb-false n Half e in sym (ne_eqb n b (λ z. omega arith))

  pub signed_pos : n < Half → signed w n ≡ pos n
  unfolding signed
  signed_pos h = rw (lt-ltb n Half h)

  pub natural_signed : natural (signed w n) ≡ cond (ltb n Half) n 0
  unfolding signed natural
  natural_signed = go (ltb n Half)
    where
      go : (t : Bool) → natural (cond t (pos n) (negsuc (2 ^ (8 * w) - (n + 1)))) ≡ cond t n 0
      go true = refl
      go false = refl
