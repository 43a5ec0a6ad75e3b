-- What is read at one depth is read at a greater one; what a reader of elements leaves.
use Rattle.std.specs.Prelude.{◌≡◌, refl, List, ℕ, zero, suc, ◌≤◌, ◌<◌, not}
use Rattle.std.proofs.Math.Path.{ap}
use native.Mathlib.Omega.{arith}
use Rattle.std.proofs.Math.ListN.{length, length-append}
use Rattle.lists.proofs.Laws.Booleans.{clash}
use Rattle.grammar.specs.Bytes.{ascii, blank, begins}
use Rattle.grammar.specs.Document.{Element, Contents}
use Rattle.grammar.specs.Read.{Read, fail, got, Reader, bind, seen, alt}
use Rattle.grammar.proofs.Laws.Read.{Ok, failed, good, mark_sound, span_sound, test_sound}
use Rattle.grammar.specs.Parser.{Look, at_close, at_comment, at_data, at_element, at_text, look, comment_at, data_at_lem, empty_at, full_at}
use Rattle.grammar.specs.Parser.{element_at, contents_by}
use Rattle.grammar.proofs.Laws.Sound.{name_sound, attributes_sound, comment_sound, data_sound, text_sound}
use Rattle.grammar.proofs.Laws.Tokens.{text_long}
use Rattle.grammar.proofs.Laws.Complete.{comment_long, data_long}
use Rattle.grammar.specs.Unfuelled.{contents}
use Rattle.grammar.proofs.Laws.Unfuelled.{less, contents_step}
pub use Rattle.steps.proofs.Laws.Row.{element_tails, element_eats}

pub comment_eats : (s : List ℕ) → Ok (λ _ r. length r < length s) (comment_at s)
comment_eats s = less (λ _ w h. comment_long h) (comment_sound s)

pub data_eats : (s : List ℕ) → Ok (λ _ r. length r < length s) (data_at_lem s)
data_eats s = less (λ _ w h. data_long h) (data_sound s)

data Below {A : Type 0} : Read A → Read A → Type 0 where
  fails : {n : Read A} → Below fail n
  equal : {m : Read A} → Below m m

bind_below : {A B : Type 0} {Q : A → List ℕ → Type 0} {m n : Read A} {f g : A → List ℕ → Read B}
    → Below m n → Ok Q m → ((a : A) (r : List ℕ) → Q a r → Below (f a r) (g a r)) → Below (bind m f) (bind n g)
unfolding bind
bind_below fails h k = fails
bind_below equal failed k = fails
bind_below equal (good {a} {r} h) k = k a r h

alt_below : {A : Type 0} (m : Read A) {n o : Read A} → Below n o → Below (alt m n) (alt m o)
unfolding alt
alt_below fail h = h
alt_below (got a r) h = equal

any_read : {A : Type 0} (m : Read A) → Ok (λ _ _. Unit {0}) m
any_read fail = failed
any_read (got a r) = good tt

seen_below : {A : Type 0} (p q : Reader A) (s : List ℕ) → Below (p s) (q s) → Below (seen p s) (seen q s)
unfolding seen
seen_below p q s h = bind_below h (any_read (p s)) λ a r _. equal

no_depth : (s : List ℕ) → element_at contents 0 s ≡ fail
unfolding element_at
no_depth s = refl

module _ (n : ℕ) (ih : (d e : ℕ) (s : List ℕ) → length s < n → d ≤ e → Below (contents d s) (contents e s)) where
  deep_below : (d e : ℕ) (s : List ℕ) → length s ≤ n → d ≤ e → Below (element_at contents (suc d) s) (element_at contents (suc e) s)
  unfolding element_at full_at
  deep_below d e s h k =
      bind_below equal (mark_sound (ascii "<") s) λ _ r₁ e₁.
      bind_below equal (name_sound r₁) λ m r₂ h₂.
      bind_below equal (attributes_sound r₂) λ l r₃ h₃.
      bind_below equal (span_sound blank r₃) λ u r₄ h₄.
      alt_below (empty_at m l r₄)
      (bind_below equal (mark_sound (ascii ">") r₄) λ _ r₅ e₅.
      let short : length r₅ < n = omega (
        arith,
        ap length e₁,
        length-append m r₂,
        ap length h₂.0,
        length-append h₃.0 r₃,
        ap length h₃.1,
        length-append u r₄,
        ap length h₄.0,
        ap length e₅,
      ) in
      bind_below (seen_below (contents d) (contents e) r₅ (ih d e r₅ short k)) (any_read (seen (contents d) r₅)) λ c r₆ _. equal)

  element_below : (d e : ℕ) (s : List ℕ) → length s ≤ n → d ≤ e → Below (element_at contents d s) (element_at contents e s)
  element_below zero e s h k = rw (no_depth s) fails
  element_below (suc d) zero s h k = absurd (omega arith)
  element_below (suc d) (suc e) s h k = deep_below d e s h (omega arith)

  by_below : (d e : ℕ) (l : Look) (s : List ℕ) → length s ≤ n → d ≤ e → Below (contents_by contents d l s) (contents_by contents e l s)
  unfolding contents_by
  by_below d e at_close s h k = equal
  by_below d e at_comment s h k = bind_below equal (comment_eats s) λ _ r l. ih d e r (omega arith) k
  by_below d e at_data s h k =
      bind_below equal (data_eats s) λ b r₁ h₁.
      bind_below (ih d e r₁ (omega arith) k) (any_read (contents d r₁)) λ c r₂ _. equal
  by_below d e at_element s h k =
      bind_below (element_below d e s h k) (element_eats d s) λ x r₁ h₁.
      bind_below (ih d e r₁ (omega arith) k) (any_read (contents d r₁)) λ c r₂ _. equal
  by_below d e at_text s h k =
      bind_below equal (test_sound (not (begins (ascii "]]>") s)) s) λ _ r₀ h₀.
      bind_below equal (less (λ b w h. text_long h) (text_sound r₀)) λ b r₁ h₁.
      bind_below (ih d e r₁ (omega (arith, ap length h₀.1)) k) (any_read (contents d r₁)) λ c r₂ _. equal

contents_below : (n d e : ℕ) (s : List ℕ) → length s < n → d ≤ e → Below (contents d s) (contents e s)
contents_below zero d e s h k = absurd (omega arith)
contents_below (suc n) d e s h k = rw (contents_step d s, contents_step e s) (by_below n (contents_below n) d e (look s) s (omega arith) k)

below_got : {A : Type 0} {m n : Read A} {a : A} {r : List ℕ} → Below m n → m ≡ got a r → n ≡ got a r
below_got fails e = clash (cc)
below_got equal e = e

pub element_deeper : (d : ℕ) (s : List ℕ) {e : Element} {r : List ℕ} → d ≤ 16 → element_at contents d s ≡ got e r
    → element_at contents 16 s ≡ got e r
element_deeper d s h e = below_got (element_below (length s) (contents_below (length s)) d 16 s (omega arith) h) e

pub contents_deeper : (d : ℕ) (s : List ℕ) {c : Contents} {r : List ℕ} → d ≤ 16 → contents d s ≡ got c r → contents 16 s ≡ got c r
contents_deeper d s h e = below_got (contents_below (suc (length s)) d 16 s (omega arith) h) e
