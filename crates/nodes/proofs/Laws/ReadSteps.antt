-- What a reading of an element and of contents went through, one step at a time: what the laws are proved by.
use Rattle.std.specs.Prelude.{◌≡◌, refl, ℕ, zero, suc, ◌<◌, false, not}
use Rattle.std.proofs.Math.Path.{ap, sym, subst}
use Rattle.std.proofs.Common.{◌∙◌, arith}
use mathlib.Core.List.{List, [], ◌∷◌, ◌++◌}
use Rattle.std.proofs.Math.ListN.{length, length-append}
use Rattle.grammar.specs.Bytes.{ascii, blank, begins, parted}
use Rattle.grammar.specs.Document.{Attribute, Element, element, Contents, nothing, child, merged}
use Rattle.grammar.specs.Grammar.{TextCharacter}
use Rattle.grammar.specs.Read.{Read, fail, got, Reader, bind, test, mark, span, seen, before, alt}
use Rattle.grammar.proofs.Laws.Read.{ok_got, mark_complete, mark_sound}
use Rattle.grammar.proofs.Laws.Read.{test_sound}
use Rattle.grammar.specs.Parser.{Look, at_close, at_comment, at_data, at_element, at_text, look, comment_at, data_at_lem, text_at, name_at}
use Rattle.grammar.specs.Parser.{attributes_at, empty_at, full_at, element_at, contents_by}
use Rattle.grammar.proofs.Laws.Sound.{text_whole}
use Rattle.grammar.proofs.Laws.Tokens.{text_long}
use Rattle.grammar.specs.Unfuelled.{contents}
use Rattle.grammar.proofs.Laws.Unfuelled.{contents_step}
use Rattle.steps.proofs.Laws.Until.{bind_assoc, bind_each}
use Rattle.steps.specs.Tags.{close_at}
use Rattle.nodes.specs.Places.{element₁₆}
use Rattle.nodes.proofs.Laws.Places.{unbind}
use Rattle.nodes.proofs.Laws.Depth.{contents_deeper, element_eats, comment_eats, data_eats}

full_split : (f : Reader Contents) (n : List ℕ) (l : List Attribute) (s : List ℕ)
    → full_at f n l (62 ∷ s) ≡ bind (f s) (λ c r. bind (close_at n r) (λ _ r₁. got (element n l c (before s r)) r₁))
unfolding full_at bind seen close_at
full_split f n l s =
    rw (mark_complete (ascii ">") s, bind_assoc (f s))
    (bind_each (f s) _ _ λ c r₁.
    rw (bind_assoc (mark (ascii "</") r₁))
    (bind_each (mark (ascii "</") r₁) _ _ λ _ r₂.
    rw (bind_assoc (mark n r₂))
    (bind_each (mark n r₂) _ _ λ _ r₃.
    rw (bind_assoc (span blank r₃)))))

-- how an element goes on behind its attributes
pub data Ending (n : List ℕ) (l : List Attribute) (s : List ℕ) (e : Element) (r : List ℕ) : Type 0 where
  bare : s ≡ 47 ∷ 62 ∷ r → e ≡ element n l nothing [] → Ending n l s e r
  filled : {t behind : List ℕ} {c : Contents} → s ≡ 62 ∷ t → contents 16 t ≡ got c behind → close_at n behind ≡ got tt r
      → e ≡ element n l c (before t behind) → Ending n l s e r

bare_ending : (n : List ℕ) (l : List Attribute) (s : List ℕ) (e : Element) (r : List ℕ) → empty_at n l s ≡ got e r → Ending n l s e r
unfolding empty_at
bare_ending n l s e r h =
    let b = unbind (mark (ascii "/>") s) (λ _ r. got (element n l nothing []) r) h in
    let z = b.then in
    let q : b.rest ≡ r = cc in
    let k : s ≡ 47 ∷ 62 ∷ b.rest = ok_got (rw b.reads at (mark_sound (ascii "/>") s)) in
    bare (k ∙ ap (λ r. 47 ∷ 62 ∷ r) q) (cc)

filled_behind : (n : List ℕ) (l : List Attribute) (s t : List ℕ) (e : Element) (r : List ℕ) → s ≡ 62 ∷ t
    → full_at (contents 15) n l (62 ∷ t) ≡ got e r → Ending n l s e r
filled_behind n l s t e r k h =
    let b₁ = unbind (contents 15 t) _ (sym (full_split (contents 15) n l t) ∙ h) in
    let b₂ = unbind (close_at n b₁.rest) (λ _ r₁. got (element n l b₁.value (before t b₁.rest)) r₁) b₁.then in
    let z = b₂.then in
    let q : element n l b₁.value (before t b₁.rest) ≡ e = cc in
    let q₁ : b₂.rest ≡ r = cc in
    filled k (contents_deeper 15 t (omega arith) b₁.reads) (b₂.reads ∙ ap (got tt) q₁) (sym q)

filled_ending : (n : List ℕ) (l : List Attribute) (s : List ℕ) (e : Element) (r : List ℕ) → full_at (contents 15) n l s ≡ got e r
    → Ending n l s e r
unfolding full_at
filled_ending n l s e r h =
    let b = unbind (mark (ascii ">") s) _ h in
    let q : s ≡ 62 ∷ b.rest = ok_got (rw b.reads at (mark_sound (ascii ">") s)) in
    filled_behind n l s b.rest e r q (rw q at h)

either : {A : Type 0} (m k : Read A) {a : A} {r : List ℕ} (P : Type 0) → (m ≡ got a r → P) → (k ≡ got a r → P) → alt m k ≡ got a r → P
unfolding alt
either fail k P f g h = g h
either (got x y) k P f g h = f h

-- how an element is written
pub record Spelled (s : List ℕ) (e : Element) (r : List ℕ) : Type 0 where
  pub name : List ℕ
  pub attributes : List Attribute
  pub behind_open : List ℕ
  pub opens : s ≡ 60 ∷ behind_open
  pub behind_name : List ℕ
  pub names : name_at behind_open ≡ got name behind_name
  pub behind_all : List ℕ
  pub lists : attributes_at behind_name ≡ got attributes behind_all
  pub blanks : List ℕ
  pub behind_blanks : List ℕ
  pub blank_so : span blank behind_all ≡ got blanks behind_blanks
  pub ending : Ending name attributes behind_blanks e r

pub spelled : (s : List ℕ) (e : Element) (r : List ℕ) → element₁₆ s ≡ got e r → Spelled s e r
unfolding element₁₆ element_at
spelled s e r h =
    let b₁ = unbind (mark (ascii "<") s) _ h in
    let b₂ = unbind (name_at b₁.rest) _ b₁.then in
    let b₃ = unbind (attributes_at b₂.rest) _ b₂.then in
    let b₄ = unbind (span blank b₃.rest) _ b₃.then in
    let n : List ℕ = b₂.value in
    let l : List Attribute = b₃.value in
    let t : List ℕ = b₄.rest in
    record {
      name = n;
      attributes = l;
      behind_open = b₁.rest;
      opens = ok_got (rw b₁.reads at (mark_sound (ascii "<") s));
      behind_name = b₂.rest;
      names = b₂.reads;
      behind_all = b₃.rest;
      lists = b₃.reads;
      blanks = b₄.value;
      behind_blanks = t;
      blank_so = b₄.reads;
      ending = either (empty_at n l t) (full_at (contents 15) n l t) (Ending n l t e r) (bare_ending n l t e r) (filled_ending n l t e r)
          b₄.then;
    }

pub eats_child : (s : List ℕ) {r : List ℕ} {x : Element} → element₁₆ s ≡ got x r → length r < length s
unfolding element₁₆
eats_child s e = ok_got (rw e at (element_eats 16 s))

-- INDUCTION OVER CONTENTS: what holds at their end, and steps back over a comment, a character, CDATA and a child, holds of all
pub record Induction (P : List ℕ → Contents → List ℕ → Type 0) : Type 0 where
  pub closed : (s : List ℕ) → look s ≡ at_close → P s nothing s
  pub remarked : (s r : List ℕ) (c : Contents) (t : List ℕ) → look s ≡ at_comment → comment_at s ≡ got tt r → P r c t → P s c t
  pub lettered : (b w r : List ℕ) (c : Contents) (t : List ℕ) → TextCharacter b w → parted w r ≡ false → P r c t
      → P (w ++ r) (merged b c) t
  pub marked : (s r b : List ℕ) (c : Contents) (t : List ℕ) → look s ≡ at_data → data_at_lem s ≡ got b r → P r c t → P s (merged b c) t
  -- `inside`: the same for all that is shorter
  pub childed : (s r : List ℕ) (x : Element) (c : Contents) (t : List ℕ) → look s ≡ at_element → element₁₆ s ≡ got x r
      → (inside : (s₁ : List ℕ) (c₁ : Contents) (t₁ : List ℕ) → length s₁ < length s → contents 16 s₁ ≡ got c₁ t₁ → P s₁ c₁ t₁)
      → contents 16 r ≡ got c t → P s (child x c) t

module _ (P : List ℕ → Contents → List ℕ → Type 0) (ind : Induction P) (s : List ℕ)
    (ih : (s₁ : List ℕ) (c₁ : Contents) (t₁ : List ℕ) → length s₁ < length s → contents 16 s₁ ≡ got c₁ t₁ → P s₁ c₁ t₁) (t : List ℕ) where
  by_comment : (c : Contents) → look s ≡ at_comment → contents_by contents 16 at_comment s ≡ got c t → P s c t
  unfolding contents_by
  by_comment c q e =
      let b = unbind (comment_at s) _ e in
      let short : length b.rest < length s = ok_got (rw b.reads at (comment_eats s)) in
      ind.remarked s b.rest c t q b.reads (ih b.rest c t short b.then)

  by_data : (c : Contents) → look s ≡ at_data → contents_by contents 16 at_data s ≡ got c t → P s c t
  unfolding contents_by
  by_data c q e =
      let b₁ = unbind (data_at_lem s) _ e in
      let b₂ = unbind (contents 16 b₁.rest) (λ c r. got (merged b₁.value c) r) b₁.then in
      let z = b₂.then in
      let w : merged b₁.value b₂.value ≡ c = cc in
      let w₁ : b₂.rest ≡ t = cc in
      let short : length b₁.rest < length s = ok_got (rw b₁.reads at (data_eats s)) in
      let p : P b₁.rest b₂.value t = ih b₁.rest b₂.value t short (b₂.reads ∙ ap (got b₂.value) w₁) in
      subst (λ (c : Contents). P s c t) w (ind.marked s b₁.rest b₁.value b₂.value t q b₁.reads p)

  by_child : (c : Contents) → look s ≡ at_element → contents_by contents 16 at_element s ≡ got c t → P s c t
  unfolding contents_by element₁₆
  by_child c q e =
      let b₁ = unbind (element_at contents 16 s) _ e in
      let b₂ = unbind (contents 16 b₁.rest) (λ c r. got (child b₁.value c) r) b₁.then in
      let z = b₂.then in
      let w : child b₁.value b₂.value ≡ c = cc in
      let w₁ : b₂.rest ≡ t = cc in
      subst (λ (c : Contents). P s c t) w
      (ind.childed s b₁.rest b₁.value b₂.value t q b₁.reads ih (b₂.reads ∙ ap (got b₂.value) w₁))

  by_text : (c : Contents) → contents_by contents 16 at_text s ≡ got c t → P s c t
  unfolding contents_by
  by_text c e =
      let b₀ = unbind (test (not (begins (ascii "]]>") s)) s) _ e in
      let b₁ = unbind (text_at b₀.rest) _ b₀.then in
      let b₂ = unbind (contents 16 b₁.rest) (λ c r. got (merged b₁.value c) r) b₁.then in
      let h₀ : s ≡ b₀.rest = (ok_got (rw b₀.reads at (test_sound (not (begins (ascii "]]>") s)) s))).1 in
      let h₁ = ok_got (rw b₁.reads at (text_whole b₀.rest)) in
      let here : h₁.0 ++ b₁.rest ≡ s = sym (h₀ ∙ h₁.1) in
      let z = b₂.then in
      let w : merged b₁.value b₂.value ≡ c = cc in
      let w₁ : b₂.rest ≡ t = cc in
      let short : length b₁.rest < length s = omega (arith, text_long h₁.2, length-append h₁.0 b₁.rest, ap length here) in
      let p : P b₁.rest b₂.value t = ih b₁.rest b₂.value t short (b₂.reads ∙ ap (got b₂.value) w₁) in
      subst (λ (s : List ℕ). P s c t) here
      (subst (λ (c : Contents). P (h₁.0 ++ b₁.rest) c t) w
      (ind.lettered b₁.value h₁.0 b₁.rest b₂.value t h₁.2 h₁.3 p))

  by_look : (l : Look) (c : Contents) → look s ≡ l → contents_by contents 16 l s ≡ got c t → P s c t
  unfolding contents_by
  by_look at_close c q e =
      let w : nothing ≡ c = cc in
      let w₁ : s ≡ t = cc in
      subst (λ (t : List ℕ). P s c t) w₁ (subst (λ (c : Contents). P s c s) w (ind.closed s q))
  by_look at_comment c q e = by_comment c q e
  by_look at_data c q e = by_data c q e
  by_look at_element c q e = by_child c q e
  by_look at_text c q e = by_text c e

module _ (P : List ℕ → Contents → List ℕ → Type 0) (ind : Induction P) where
  within : (n : ℕ) (s : List ℕ) (c : Contents) (t : List ℕ) → length s < n → contents 16 s ≡ got c t → P s c t
  within zero s c t h e = absurd (omega arith)
  within (suc n) s c t h e = by_look P ind s (λ s₁ c₁ t₁ l e₁. within n s₁ c₁ t₁ (omega arith) e₁) t (look s) c refl
      (sym (contents_step 16 s) ∙ e)

  pub induction : (s : List ℕ) (c : Contents) (t : List ℕ) → contents 16 s ≡ got c t → P s c t
  induction s c t e = within (suc (length s)) s c t (omega arith) e
