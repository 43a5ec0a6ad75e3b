-- What is proved of Unfuelled.
use Rattle.std.specs.Prelude.{◌≡◌, refl, List, ℕ, zero, suc, ◌≤◌, ◌<◌, Bool, true, false, not, length}
use Rattle.std.proofs.Common.{ap, length-append, arith}
use Rattle.grammar.specs.Bytes.{ascii, blank, begins}
use Rattle.grammar.specs.Document.{Contents}
use Rattle.grammar.specs.Grammar.{WritesContents}
use Rattle.grammar.specs.Read.{Read, Reader, bind, seen, alt, many, many_step, all_of}
use Rattle.grammar.proofs.Laws.Read.{many_suc, Ok, failed}
use Rattle.grammar.proofs.Laws.Read.{good, ok_map, Takes, mark_sound, span_sound, test_sound}
use Rattle.grammar.specs.Parser.{Look, at_close, at_comment, at_data, at_element, at_text, look}
use Rattle.grammar.specs.Parser.{empty_at, full_at, element_at, contents_by, contents_at}
use Rattle.grammar.proofs.Laws.Sound.{name_sound, attributes_sound, comment_sound, data_sound, text_sound}
use Rattle.grammar.proofs.Laws.SoundElements.{element_sound, contents_sound}
use Rattle.grammar.proofs.Laws.Tokens.{text_long}
use Rattle.grammar.proofs.Laws.Complete.{comment_long, data_long, contents_suc, element_long}
use Rattle.grammar.specs.Unfuelled.{contents}

-- two continuations that agree on what is read
pub bind_same : {A B : Type 0} {Q : A → List ℕ → Type 0} {m : Read A} (f g : A → List ℕ → Read B) → Ok Q m
    → ((a : A) (r : List ℕ) → Q a r → f a r ≡ g a r) → bind m f ≡ bind m g
unfolding bind
bind_same f g failed k = refl
bind_same f g (good {a} {r} h) k = k a r h

-- what is read off leaves less, or no more
pub less : {A : Type 0} {P : A → List ℕ → Type 0} {s : List ℕ} {m : Read A} → ((a : A) (w : List ℕ) → P a w → 0 < length w)
    → Ok (Takes P s) m → Ok (λ _ r. length r < length s) m
less long h = ok_map h λ a r k. omega (arith, long a k.0 k.2, length-append k.0 r, ap length k.1)

pub no_more_than : {A : Type 0} {P : A → List ℕ → Type 0} {s : List ℕ} {m : Read A} → Ok (Takes P s) m → Ok (λ _ r. length r ≤ length s) m
no_more_than h = ok_map h λ a r k. omega (arith, length-append k.0 r, ap length k.1)

step_same : {A : Type 0} (p : Reader A) (f g : Reader (List A)) (s : List ℕ) → Ok (λ _ r. length r < length s) (p s)
    → ((r : List ℕ) → length r < length s → f r ≡ g r) → (t : Bool) → many_step t p f s ≡ many_step t p g s
unfolding many_step
step_same p f g s h k true = refl
step_same p f g s h k false = bind_same _ _ h λ a r l. rw (k r l)

module _ {A : Type 0} (p : Reader A) (stop : List ℕ → Bool) (eats : (s : List ℕ) → Ok (λ _ r. length r < length s) (p s)) where
  many_enough : (n m : ℕ) (s : List ℕ) → length s < n → length s < m → many stop p n s ≡ many stop p m s
  many_enough zero m s h k = absurd (omega arith)
  many_enough (suc n) zero s h k = absurd (omega arith)
  many_enough (suc n) (suc m) s h k =
      rw (many_suc stop p n s, many_suc stop p m s)
      (step_same p (many stop p n) (many stop p m) s (eats s) (λ r l. many_enough n m r (omega arith) (omega arith)) (stop s))

  -- the equation of a loop
  pub all_of_step : (s : List ℕ) → all_of stop p s ≡ many_step (stop s) p (all_of stop p) s
  unfolding all_of
  all_of_step s =
      rw (many_suc stop p (length s) s)
      (step_same p (many stop p (length s)) (all_of stop p) s (eats s) (λ r l. many_enough (length s) (suc (length r)) r l (omega arith))
      (stop s))

-- elements and contents
element_same : (f g : ℕ → Reader Contents) (s : List ℕ) → ((d : ℕ) (r : List ℕ) → length r < length s → f d r ≡ g d r) → (d : ℕ)
    → element_at f d s ≡ element_at g d s
unfolding element_at full_at bind seen
element_same f g s k zero = refl
element_same f g s k (suc d) =
    bind_same _ _ (mark_sound (ascii "<") s) λ _ r₁ e₁.
    bind_same _ _ (name_sound r₁) λ n r₂ h₂.
    bind_same _ _ (attributes_sound r₂) λ l r₃ h₃.
    bind_same _ _ (span_sound blank r₃) λ u r₄ h₄.
    ap (alt (empty_at n l r₄)) (
    bind_same _ _ (mark_sound (ascii ">") r₄) λ _ r₅ e₅.
    let short : length r₅ < length s = omega (
      arith,
      ap length e₁,
      length-append n r₂,
      ap length h₂.0,
      length-append h₃.0 r₃,
      ap length h₃.1,
      length-append u r₄,
      ap length h₄.0,
      ap length e₅,
    ) in
    rw (k d r₅ short))

by_same : (f g : ℕ → Reader Contents) (s : List ℕ) → ((d : ℕ) (s : List ℕ) → Ok (Takes (WritesContents d) s) (g d s))
    → ((d : ℕ) (r : List ℕ) → length r < length s → f d r ≡ g d r) → (d : ℕ) (l : Look) → contents_by f d l s ≡ contents_by g d l s
unfolding contents_by
by_same f g s sound k d at_close = refl
by_same f g s sound k d at_comment = bind_same _ _ (less (λ _ w h. comment_long h) (comment_sound s)) λ _ r h. k d r h
by_same f g s sound k d at_data = bind_same _ _ (less (λ b w h. data_long h) (data_sound s)) λ b r h. rw (k d r h)
by_same f g s sound k d at_element =
    rw (element_same f g s k d) (bind_same _ _ (less (λ e w h. element_long h) (element_sound g sound d s)) λ e r h. rw (k d r h))
by_same f g s sound k d at_text =
    bind_same _ _ (test_sound (not (begins (ascii "]]>") s)) s) λ _ r₀ h₀.
    bind_same _ _ (less (λ b w h. text_long h) (text_sound r₀)) λ b r h.
    let short : length r < length s = omega (arith, ap length h₀.1) in
    rw (k d r short)

contents_enough : (n m d : ℕ) (s : List ℕ) → length s < n → length s < m → contents_at n d s ≡ contents_at m d s
contents_enough zero m d s h k = absurd (omega arith)
contents_enough (suc n) zero d s h k = absurd (omega arith)
contents_enough (suc n) (suc m) d s h k =
    rw (contents_suc n d s, contents_suc m d s)
    (by_same (contents_at n) (contents_at m) s (contents_sound m) (λ d r l. contents_enough n m d r (omega arith) (omega arith)) d (look s))

contents_fair : (d : ℕ) (s : List ℕ) → Ok (Takes (WritesContents d) s) (contents d s)
unfolding contents
contents_fair d s = contents_sound (suc (length s)) d s

-- the equation of the contents' reader
pub contents_step : (d : ℕ) (s : List ℕ) → contents d s ≡ contents_by contents d (look s) s
unfolding contents
contents_step d s =
    rw (contents_suc (length s) d s)
    (by_same (contents_at (length s)) contents s contents_fair
    (λ d r l. contents_enough (length s) (suc (length r)) d r l (omega arith)) d (look s))

-- the root's reader
pub element_enough : (n d : ℕ) (s : List ℕ) → length s ≤ n → element_at (contents_at n) d s ≡ element_at contents d s
unfolding contents
element_enough n d s h = element_same (contents_at n) contents s
    (λ d r l. contents_enough n (suc (length r)) d r (omega arith) (omega arith)) d
