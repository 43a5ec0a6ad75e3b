-- What is proved of Read.
use Rattle.std.specs.Prelude.{◌≡◌, Bool, eqb}
use Rattle.std.proofs.Math.Path.{refl}
use Rattle.std.proofs.Common.{ap, arith, eqb-true, eq-eqb}
use mathlib.Core.List.{List, [], ◌∷◌, ◌++◌, append_assoc}
use Rattle.std.proofs.Math.ListN.{length, length-append}
use Rattle.std.proofs.Math.Seq.{take-append_seam}
use Rattle.grammar.specs.Bytes.{Each, no_byte, a_byte, Sequence, no_more, one_more, SequenceUnless, none_more, and_more}
use Prim.Native.Nat.{ℕ, zero, suc, ◌-◌, ◌≤◌, ◌<◌}
use Rattle.std.proofs.Math.Bool.{true, false}
use Rattle.std.proofs.lemmas.Bool.{not-true}
use Rattle.grammar.specs.Read.{Read, got, fail, Reader, bind, test, mark, byte, span, stops, alt, many_step, many}
use Rattle.grammar.specs.Read.{all_of, before, seen}

-- what a result is held to: nothing where it failed
pub data Ok {A : Type 0} (P : A → List ℕ → Type 0) : Read A → Type 0 where
  failed : Ok P fail
  good : {a : A} {r : List ℕ} → P a r → Ok P (got a r)

pub bind_ok : {A B : Type 0} {Q : A → List ℕ → Type 0} {P : B → List ℕ → Type 0} {m : Read A} {f : A → List ℕ → Read B}
    → Ok Q m → ((a : A) (r : List ℕ) → Q a r → Ok P (f a r)) → Ok P (bind m f)
unfolding bind
bind_ok failed k = failed
bind_ok (good {a} {r} h) k = k a r h

-- what holds of a result that is there
pub ok_got : {A : Type 0} {P : A → List ℕ → Type 0} {a : A} {r : List ℕ} → Ok P (got a r) → P a r
ok_got (good h) = h

pub ok_map : {A : Type 0} {P Q : A → List ℕ → Type 0} {m : Read A} → Ok P m → ((a : A) (r : List ℕ) → P a r → Q a r) → Ok Q m
ok_map failed k = failed
ok_map (good {a} {r} h) k = good (k a r h)

-- `a` is written by some bytes that stand in front of `r` in `s`
abbrev pub Takes : {A : Type 0} → (A → List ℕ → Type 0) → List ℕ → A → List ℕ → Type 0
Takes P s a r = (w : List ℕ) × (s ≡ w ++ r) × P a w

pub test_complete : {t : Bool} → t ≡ true → (r : List ℕ) → test t r ≡ got tt r
unfolding test
test_complete e r = rw (e, test)

pub test_sound : (t : Bool) (s : List ℕ) → Ok (λ _ r. (t ≡ true) × (s ≡ r)) (test t s)
unfolding test
test_sound true s = good (refl, refl)
test_sound false s = failed

pub mark_complete : (k r : List ℕ) → mark k (k ++ r) ≡ got tt r
unfolding mark bind
mark_complete [] r = refl
mark_complete (a ∷ k) r = rw (test_complete (eq-eqb a a refl) (k ++ r), bind) (mark_complete k r)

pub mark_sound : (k s : List ℕ) → Ok (λ _ r. s ≡ k ++ r) (mark k s)
unfolding mark
mark_sound [] s = good refl
mark_sound (a ∷ k) [] = failed
mark_sound (a ∷ k) (b ∷ s) =
    bind_ok (test_sound (eqb b a) s) λ _ r h.
    ok_map (mark_sound k r) λ _ r₁ e. let same = eqb-true b a h.0 in let at = h.1 in cc

pub mark_other : (a b : ℕ) (k s : List ℕ) → eqb b a ≡ false → mark (a ∷ k) (b ∷ s) ≡ fail
unfolding mark bind test
mark_other a b k s e = rw (e, test)

pub byte_sound : (p : ℕ → Bool) (s : List ℕ) → Ok (λ a r. (s ≡ a ∷ r) × (p a ≡ true)) (byte p s)
unfolding byte
byte_sound p [] = failed
byte_sound p (a ∷ s) = bind_ok (test_sound (p a) s) λ _ r h. good (ap (λ l. a ∷ l) h.1, h.0)

pub byte_complete : (p : ℕ → Bool) (a : ℕ) → p a ≡ true → (r : List ℕ) → byte p (a ∷ r) ≡ got a r
unfolding byte bind
byte_complete p a e r = rw (test_complete e r)

pub byte_other : (p : ℕ → Bool) (a : ℕ) → p a ≡ false → (r : List ℕ) → byte p (a ∷ r) ≡ fail
unfolding byte bind test
byte_other p a e r = rw (e, test)

pub span_sound : (p : ℕ → Bool) (s : List ℕ) → Ok (λ w r. (s ≡ w ++ r) × Each p w) (span p s)
unfolding span
span_sound p [] = good (refl, no_byte)
span_sound p (a ∷ s) = go (p a) refl (span_sound p s)
  where
    go : (t : Bool) → p a ≡ t → Ok (λ w r. (s ≡ w ++ r) × Each p w) (span p s)
        → Ok (λ w r. (a ∷ s ≡ w ++ r) × Each p w)
        (elim t as (λ _. Read (List ℕ)) [ true ↦ bind (span p s) (λ w r. got (a ∷ w) r) | false ↦ got [] (a ∷ s) ])
    go true e ih = bind_ok ih λ w r h. good (ap (λ l. a ∷ l) h.0, a_byte e h.1)
    go false e ih = good (refl, no_byte)

pub span_complete : (p : ℕ → Bool) {w : List ℕ} → Each p w → (r : List ℕ) → stops p r ≡ true → span p (w ++ r) ≡ got w r
unfolding span stops bind
span_complete p no_byte [] e = refl
span_complete p no_byte (a ∷ r) e = rw (not-true (p a) e, span)
span_complete p (a_byte h k) r e = rw (h, span_complete p k r e)

pub alt_ok : {A : Type 0} {P : A → List ℕ → Type 0} {m n : Read A} → Ok P m → Ok P n → Ok P (alt m n)
unfolding alt
alt_ok failed k = k
alt_ok (good h) k = good h

pub many_suc : {A : Type 0} (stop : List ℕ → Bool) (p : Reader A) (n : ℕ) (s : List ℕ)
    → many stop p (suc n) s ≡ many_step (stop s) p (many stop p n) s
unfolding many
many_suc stop p n s = refl

module _ {A : Type 0} {P : A → List ℕ → Type 0} {p : Reader A} (sound : (s : List ℕ) → Ok (Takes P s) (p s)) (stop : List ℕ → Bool) where
  step_sound : (more : Reader (List A)) → ((s : List ℕ) → Ok (Takes (Sequence P) s) (more s)) → (t : Bool) (s : List ℕ)
      → Ok (Takes (Sequence P) s) (many_step t p more s)
  unfolding many_step
  step_sound more ih true s = good ([], refl, no_more)
  step_sound more ih false s =
      bind_ok (sound s) λ a r₁ h₁.
      bind_ok (ih r₁) λ l r₂ h₂. good (_, simp append_assoc (cc), one_more h₁.2 h₂.2)

  many_sound : (n : ℕ) (s : List ℕ) → Ok (Takes (Sequence P) s) (many stop p n s)
  unfolding many
  many_sound zero s = failed
  many_sound (suc n) s = step_sound (many stop p n) (many_sound n) (stop s) s

  pub all_of_sound : (s : List ℕ) → Ok (Takes (Sequence P) s) (all_of stop p s)
  unfolding all_of
  all_of_sound s = many_sound (suc (length s)) s

-- what a reader has to do for each thing in a row
pub record Item {A : Type 0} (P : A → List ℕ → Type 0) (stop : List ℕ → Bool) (p : Reader A) : Type 0 where
  pub reads : {a : A} {w : List ℕ} → P a w → (r : List ℕ) → p (w ++ r) ≡ got a r
  pub goes : {a : A} {w : List ℕ} → P a w → (r : List ℕ) → stop (w ++ r) ≡ false
  pub long : {a : A} {w : List ℕ} → P a w → 0 < length w

pub with_fuel : (P : ℕ → Type 0) (k n : ℕ) → k < n → ((m : ℕ) → k ≤ m → P (suc m)) → P n
with_fuel P k zero h f = absurd (omega arith)
with_fuel P k (suc n) h f = f n (omega arith)

module _ {A : Type 0} {P : A → List ℕ → Type 0} {stop : List ℕ → Bool} {p : Reader A} (item : Item P stop p) where
  many_complete : {l : List A} {w : List ℕ} → Sequence P l w → (n : ℕ) → length w < n → (r : List ℕ) → stop r ≡ true
      → many stop p n (w ++ r) ≡ got l r
  unfolding many_step bind
  many_complete no_more n h r e = with_fuel (λ n. many stop p n r ≡ got [] r) 0 n h λ m hm. rw (many_suc, e)
  many_complete (one_more {a} {l} {w} {s} k t) n h r e =
      with_fuel (λ n. many stop p n ((w ++ s) ++ r) ≡ got (a ∷ l) r) (length (w ++ s)) n h λ m hm.
      let fits : length s < m = omega (arith, item.long k, length-append w s) in
      rw (append_assoc w s, many_suc, item.goes k (s ++ r), item.reads k (s ++ r), many_complete t m fits r e)

  pub all_of_complete : {l : List A} {w : List ℕ} → Sequence P l w → (r : List ℕ) → stop r ≡ true → all_of stop p (w ++ r) ≡ got l r
  unfolding all_of
  all_of_complete {w = w} t r e = many_complete t (suc (length (w ++ r))) (omega (arith, length-append w r)) r e

-- THE SAME FOR A ROW
-- `a` is written by bytes that stand in front of `r` in `s`, and `r` makes nothing wrong
abbrev pub TakesWhole : {A : Type 0} → (A → List ℕ → Type 0) → (List ℕ → List ℕ → Bool) → List ℕ → A → List ℕ → Type 0
TakesWhole P wrong s a r = (w : List ℕ) × (s ≡ w ++ r) × P a w × (wrong w r ≡ false)

pub whole_takes : {A : Type 0} {P : A → List ℕ → Type 0} {wrong : List ℕ → List ℕ → Bool} {s : List ℕ} {m : Read A}
    → Ok (TakesWhole P wrong s) m → Ok (Takes P s) m
whole_takes h = ok_map h λ a r k. (k.0, k.1, k.2)

module _ {A : Type 0} {P : A → List ℕ → Type 0} {wrong : List ℕ → List ℕ → Bool} {p : Reader A} (stop : List ℕ → Bool)
    (sound : (s : List ℕ) → stop s ≡ false → Ok (TakesWhole P wrong s) (p s))
    (less : (w x r : List ℕ) → wrong w (x ++ r) ≡ false → wrong w x ≡ false) where
  row_step : (more : Reader (List A)) → ((s : List ℕ) → Ok (Takes (SequenceUnless P wrong) s) (more s)) → (t : Bool) (s : List ℕ)
      → stop s ≡ t
      → Ok (Takes (SequenceUnless P wrong) s) (many_step t p more s)
  unfolding many_step
  row_step more ih true s e = good ([], refl, none_more)
  row_step more ih false s e =
      bind_ok (sound s e) λ a r₁ h₁.
      bind_ok (ih r₁) λ l r₂ h₂.
      (let q = h₂.1 in
      good (_, simp append_assoc (cc), and_more h₁.2 (less h₁.0 h₂.0 r₂ (rw q at h₁.3)) h₂.2))

  row_many : (n : ℕ) (s : List ℕ) → Ok (Takes (SequenceUnless P wrong) s) (many stop p n s)
  unfolding many
  row_many zero s = failed
  row_many (suc n) s = row_step (many stop p n) (row_many n) (stop s) s refl

  pub row_sound : (s : List ℕ) → Ok (Takes (SequenceUnless P wrong) s) (all_of stop p s)
  unfolding all_of
  row_sound s = row_many (suc (length s)) s

-- `end`: what stands behind the row, and makes nothing in it wrong
pub record RowItem {A : Type 0} (P : A → List ℕ → Type 0) (wrong : List ℕ → List ℕ → Bool) (stop : List ℕ → Bool) (p : Reader A)
    (end : List ℕ) : Type 0 where
  pub reads : {a : A} {w : List ℕ} → P a w → (r : List ℕ) → wrong w r ≡ false → p (w ++ r) ≡ got a r
  pub goes : {a : A} {w : List ℕ} → P a w → (r : List ℕ) → wrong w r ≡ false → stop (w ++ r) ≡ false
  pub long : {a : A} {w : List ℕ} → P a w → 0 < length w
  pub apart : {a : A} {w : List ℕ} → P a w → (x : List ℕ) → wrong w x ≡ false → wrong w (x ++ end) ≡ false
  pub stops_there : stop end ≡ true

module _ {A : Type 0} {P : A → List ℕ → Type 0} {wrong : List ℕ → List ℕ → Bool} {stop : List ℕ → Bool} {p : Reader A} {end : List ℕ}
    (item : RowItem P wrong stop p end) where
  row_many_complete : {l : List A} {w : List ℕ} → SequenceUnless P wrong l w → (n : ℕ) → length w < n → many stop p n (w ++ end) ≡ got l end
  unfolding many_step bind
  row_many_complete none_more n h = with_fuel (λ n. many stop p n end ≡ got [] end) 0 n h λ m hm. rw (many_suc, item.stops_there)
  row_many_complete (and_more {a} {l} {w} {s} k e t) n h =
      with_fuel (λ n. many stop p n ((w ++ s) ++ end) ≡ got (a ∷ l) end) (length (w ++ s)) n h λ m hm.
      let fits : length s < m = omega (arith, item.long k, length-append w s) in
      let f = item.apart k s e in
      rw (append_assoc w s, many_suc, item.goes k (s ++ end) f, item.reads k (s ++ end) f, row_many_complete t m fits)

  pub row_complete : {l : List A} {w : List ℕ} → SequenceUnless P wrong l w → all_of stop p (w ++ end) ≡ got l end
  unfolding all_of
  row_complete {w = w} t = row_many_complete t (suc (length (w ++ end))) (omega (arith, length-append w end))

before_append : (w r : List ℕ) → before (w ++ r) r ≡ w
unfolding before
before_append w r =
    let n : length (w ++ r) - length r ≡ length w = omega (arith, length-append w r) in
    rw (n, take-append_seam)

pub alt_fail : {A : Type 0} (m : Read A) {n : Read A} → n ≡ fail → alt m n ≡ m
unfolding alt
alt_fail fail e = e
alt_fail (got a r) e = refl

pub seen_sound : {A : Type 0} {P : A → List ℕ → Type 0} (p : Reader A) (s : List ℕ) → Ok (Takes P s) (p s)
    → Ok (λ x r. (s ≡ x.1 ++ r) × P x.0 x.1) (seen p s)
unfolding seen
seen_sound p s h = bind_ok h λ a r k.
    let here : before s r ≡ k.0 = rw k.1 (before_append k.0 r) in
    good (rw here (k.1, k.2))

pub seen_complete : {A : Type 0} (p : Reader A) (a : A) (w r : List ℕ) → p (w ++ r) ≡ got a r → seen p (w ++ r) ≡ got (a, w) r
unfolding seen bind
seen_complete p a w r e = rw (e, before_append)
