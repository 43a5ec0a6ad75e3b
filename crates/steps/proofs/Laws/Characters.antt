-- Characters and references, at a position of the text: one law for each way through the code.
use Rattle.std.specs.Prelude.{◌≡◌, List, [], ◌∷◌, ℕ, ◌+◌, ◌≤◌, ◌<◌, Bool, true, false, not, ◌&&◌, eqb, length, drop, Option, Some, None}
use Rattle.std.proofs.Math.Path.{refl, sym}
use Rattle.std.proofs.Common.{◌∙◌}
use native.Mathlib.Omega.{arith}
use borrow.Author.Tests.{not-true, not-false, le-leb, lt-leb}
use Rattle.std.proofs.Math.ListN.{get_or}
use Rattle.lists.proofs.Laws.Booleans.{clash, or_true}
use Rattle.grammar.specs.Bytes.{between, begins, blank}
use Rattle.grammar.proofs.Laws.Facts.{within}
use Rattle.grammar.specs.Characters.{lead1, lead2, lead3, lead4, continues, noncharacter}
use Rattle.grammar.specs.Read.{Read, fail, got, bind, byte, test, mark}
use Rattle.grammar.proofs.Laws.Read.{test_complete, byte_complete, byte_other}
use Rattle.grammar.specs.Parser.{one, two, three, four, width, width_by, rest_by, rest_at, literal_at}
use Rattle.steps.specs.Step.{stepped}
use Rattle.steps.proofs.Laws.Step.{at_byte, at_end, arrives, refuses}
use Rattle.steps.proofs.Laws.Until.{stepped_value}
use Rattle.steps.specs.Leaves.{character_at, anything}

-- WORDS
pub passed : {A : Type 0} → Read A → Bool
passed fail = false
passed (got a r) = true

begins_passed : (k s : List ℕ) → begins k s ≡ passed (mark k s)
unfolding begins mark bind passed test
begins_passed [] s = refl
begins_passed (a ∷ k) [] = refl
begins_passed (a ∷ k) (b ∷ s) = go (eqb b a) (begins_passed k s)
  where
    go : (t : Bool) → begins k s ≡ passed (mark k s) → (t && begins k s) ≡ passed (bind (test t s) (λ _ r. mark k r))
    go true ih = ih
    go false ih = refl

pub mark_fails : (k s : List ℕ) → begins k s ≡ false → mark k s ≡ fail
unfolding passed
mark_fails k s e = go (mark k s) (sym (begins_passed k s) ∙ e)
  where
    go : (m : Read (Unit {0})) → passed m ≡ false → m ≡ fail
    go fail h = refl
    go (got u r) h = clash (cc)

stepped_passed : {A : Type 0} (n : ℕ) (m : Read A) {j : ℕ} → Some j ≡ stepped n m → passed m ≡ true
unfolding stepped passed
stepped_passed n fail e = clash (cc)
stepped_passed n (got a r) e = refl

stepped_stuck : {A : Type 0} (n : ℕ) (m : Read A) → None ≡ stepped n m → passed m ≡ false
unfolding stepped passed
stepped_stuck n fail e = refl
stepped_stuck n (got a r) e = clash (cc)

pub starts_so : (text : List ℕ) (at : ℕ) (word : List ℕ) {r : Option ℕ} {j : ℕ} → r ≡ stepped (length text) (mark word (drop at text))
    → r ≡ Some j → true ≡ begins word (drop at text)
starts_so text at word q e = sym (begins_passed word (drop at text) ∙ stepped_passed (length text) (mark word (drop at text)) (sym e ∙ q))

pub starts_not : (text : List ℕ) (at : ℕ) (word : List ℕ) {r : Option ℕ} → r ≡ stepped (length text) (mark word (drop at text)) → r ≡ None
    → false ≡ begins word (drop at text)
starts_not text at word q e = sym (begins_passed word (drop at text) ∙ stepped_stuck (length text) (mark word (drop at text)) (sym e ∙ q))

-- THE BYTES BEHIND THE FIRST
module _ (text : List ℕ) (at a : ℕ) where
  abbrev Behind₂ : Option ℕ → Type 0
  Behind₂ r = r ≡ stepped (length text) (rest_by two a (drop at text))

  pub two_other : {t : Bool} → t ≡ lead2 a → not t ≡ true → Behind₂ None
  unfolding rest_by bind test
  two_other {t} is e = refuses (length text) (rest_by two a (drop at text)) (rw (sym is ∙ not-true t e))

  module _ {t : Bool} (is : t ≡ lead2 a) (e : not t ≡ false) where
    two_from : rest_by two a (drop at text) ≡ bind (byte continues (drop at text)) (λ b r. got (b ∷ []) r)
    unfolding rest_by bind
    two_from = rw (test_complete (sym is ∙ not-false t e) (drop at text))

    pub two_none : length text ≤ at → Behind₂ None
    unfolding byte bind
    two_none h = refuses (length text) (rest_by two a (drop at text)) (two_from ∙ rw (at_end text at h))

    module _ (h : at < length text) {u : Bool} (is₁ : u ≡ continues (get_or text at 0)) where
      pub two_bad : not u ≡ true → Behind₂ None
      unfolding bind
      two_bad k = refuses (length text) (rest_by two a (drop at text))
          (two_from ∙ rw (at_byte text at h, byte_other continues (get_or text at 0) (sym is₁ ∙ not-true u k) (drop (at + 1) text)))

      pub two_good : not u ≡ false → Behind₂ (Some (at + 1))
      unfolding bind
      two_good k = arrives text (rest_by two a (drop at text)) {a = get_or text at 0 ∷ []} (at + 1) (omega arith)
          (two_from ∙ rw (at_byte text at h, byte_complete continues (get_or text at 0) (sym is₁ ∙ not-false u k) (drop (at + 1) text)))

-- one byte, and what follows it
module _ {B : Type 0} (p : ℕ → Bool) (text : List ℕ) (at : ℕ) (f : ℕ → List ℕ → Read B) where
  byte_none : length text ≤ at → bind (byte p (drop at text)) f ≡ fail
  unfolding byte bind
  byte_none h = rw (at_end text at h)

  module _ (h : at < length text) {t : Bool} (is : t ≡ p (get_or text at 0)) where
    byte_bad : not t ≡ true → bind (byte p (drop at text)) f ≡ fail
    unfolding bind
    byte_bad e = rw (at_byte text at h, byte_other p (get_or text at 0) (sym is ∙ not-true t e) (drop (at + 1) text))

    byte_good : not t ≡ false → bind (byte p (drop at text)) f ≡ f (get_or text at 0) (drop (at + 1) text)
    unfolding bind
    byte_good e = rw (at_byte text at h, byte_complete p (get_or text at 0) (sym is ∙ not-false t e) (drop (at + 1) text))

module _ (text : List ℕ) (at a : ℕ) where
  three_at : Read (List ℕ)
  three_at = rest_by three a (drop at text)

  three_ends : ℕ → ℕ → List ℕ → Read (List ℕ)
  three_ends b c r = bind (test (not (noncharacter a b c)) r) (λ _ r₁. got (b ∷ c ∷ []) r₁)

  three_is : three_at ≡ bind (byte (lead3 a) (drop at text)) (λ b r. bind (byte continues r) (λ c r₁. three_ends b c r₁))
  unfolding three_at rest_by three_ends
  three_is = refl

  abbrev Behind₃ : Option ℕ → Type 0
  Behind₃ r = r ≡ stepped (length text) (rest_by three a (drop at text))

  pub three_none : length text ≤ at → Behind₃ None
  unfolding three_at
  three_none h = refuses (length text) (rest_by three a (drop at text)) (three_is ∙ byte_none (lead3 a) text at _ h)

  module _ (h : at < length text) {t : Bool} (is : t ≡ lead3 a (get_or text at 0)) where
    pub three_bad : not t ≡ true → Behind₃ None
    unfolding three_at
    three_bad e = refuses (length text) (rest_by three a (drop at text)) (three_is ∙ byte_bad (lead3 a) text at _ h is e)

    module _ (e : not t ≡ false) where
      three_on : three_at ≡ bind (byte continues (drop (at + 1) text)) (λ c r. three_ends (get_or text at 0) c r)
      three_on = three_is ∙ byte_good (lead3 a) text at _ h is e

      pub three_short : length text ≤ at + 1 → Behind₃ None
      unfolding three_at
      three_short k = refuses (length text) (rest_by three a (drop at text)) (three_on ∙ byte_none continues text (at + 1) _ k)

      module _ (h₁ : at + 1 < length text) {u : Bool} (is₁ : u ≡ continues (get_or text (at + 1) 0)) where
        pub three_broken : not u ≡ true → Behind₃ None
        unfolding three_at
        three_broken k = refuses (length text) (rest_by three a (drop at text)) (three_on ∙ byte_bad continues text (at + 1) _ h₁ is₁ k)

        module _ (k : not u ≡ false) {v : Bool} (is₂ : v ≡ noncharacter a (get_or text at 0) (get_or text (at + 1) 0)) where
          three_last : three_at ≡ three_ends (get_or text at 0) (get_or text (at + 1) 0) (drop ((at + 1) + 1) text)
          three_last = three_on ∙ byte_good continues text (at + 1) _ h₁ is₁ k

          pub three_no : v ≡ true → Behind₃ None
          unfolding three_at three_ends test bind
          three_no l = refuses (length text) (rest_by three a (drop at text)) (three_last ∙ rw (sym is₂ ∙ l))

          pub three_good : v ≡ false → Behind₃ (Some (at + 2))
          unfolding three_at three_ends test bind
          three_good l =
              let n : (at + 1) + 1 ≡ at + 2 = omega arith in
              arrives text (rest_by three a (drop at text)) {a = get_or text at 0 ∷ get_or text (at + 1) 0 ∷ []} (at + 2) (omega arith)
              (three_last ∙ rw (sym is₂ ∙ l, n))

module _ (text : List ℕ) (at a : ℕ) where
  four_at : Read (List ℕ)
  four_at = rest_by four a (drop at text)

  four_is : four_at ≡ bind (byte (lead4 a) (drop at text))
      (λ b r. bind (byte continues r) (λ c r₁. bind (byte continues r₁) (λ d r₂. got (b ∷ c ∷ d ∷ []) r₂)))
  unfolding four_at rest_by
  four_is = refl

  abbrev Behind₄ : Option ℕ → Type 0
  Behind₄ r = r ≡ stepped (length text) (rest_by four a (drop at text))

  pub four_none : length text ≤ at → Behind₄ None
  unfolding four_at
  four_none h = refuses (length text) (rest_by four a (drop at text)) (four_is ∙ byte_none (lead4 a) text at _ h)

  module _ (h : at < length text) {t : Bool} (is : t ≡ lead4 a (get_or text at 0)) where
    pub four_bad : not t ≡ true → Behind₄ None
    unfolding four_at
    four_bad e = refuses (length text) (rest_by four a (drop at text)) (four_is ∙ byte_bad (lead4 a) text at _ h is e)

    module _ (e : not t ≡ false) where
      four_on : four_at ≡ bind (byte continues (drop (at + 1) text))
          (λ c r. bind (byte continues r) (λ d r₁. got (get_or text at 0 ∷ c ∷ d ∷ []) r₁))
      four_on = four_is ∙ byte_good (lead4 a) text at _ h is e

      pub four_short : length text ≤ at + 1 → Behind₄ None
      unfolding four_at
      four_short k = refuses (length text) (rest_by four a (drop at text)) (four_on ∙ byte_none continues text (at + 1) _ k)

      module _ (h₁ : at + 1 < length text) {u : Bool} (is₁ : u ≡ continues (get_or text (at + 1) 0)) where
        pub four_broken : not u ≡ true → Behind₄ None
        unfolding four_at
        four_broken k = refuses (length text) (rest_by four a (drop at text)) (four_on ∙ byte_bad continues text (at + 1) _ h₁ is₁ k)

        module _ (k : not u ≡ false) where
          next : (at + 1) + 1 ≡ at + 2
          next = omega arith

          four_last : four_at ≡ bind (byte continues (drop (at + 2) text)) (λ d r. got (get_or text at 0 ∷ get_or text (at + 1) 0 ∷ d ∷ []) r)
          four_last = rw (← next) (four_on ∙ byte_good continues text (at + 1) _ h₁ is₁ k)

          pub four_cut : length text ≤ at + 2 → Behind₄ None
          unfolding four_at
          four_cut l = refuses (length text) (rest_by four a (drop at text)) (four_last ∙ byte_none continues text (at + 2) _ l)

          module _ (h₂ : at + 2 < length text) {v : Bool} (is₂ : v ≡ continues (get_or text (at + 2) 0)) where
            pub four_no : not v ≡ true → Behind₄ None
            unfolding four_at
            four_no l = refuses (length text) (rest_by four a (drop at text)) (four_last ∙ byte_bad continues text (at + 2) _ h₂ is₂ l)

            pub four_good : not v ≡ false → Behind₄ (Some (at + 3))
            unfolding four_at
            four_good l =
                let n : (at + 2) + 1 ≡ at + 3 = omega arith in
                let q : four_at ≡ got (get_or text at 0 ∷ get_or text (at + 1) 0 ∷ get_or text (at + 2) 0 ∷ []) (drop (at + 3) text) =
                rw (← n) (four_last ∙ byte_good continues text (at + 2) _ h₂ is₂ l) in
                arrives text (rest_by four a (drop at text)) (at + 3) (omega arith) q

-- A CHARACTER
pub character_none : (text : List ℕ) (at : ℕ) → length text ≤ at → None ≡ stepped (length text) (character_at (drop at text))
unfolding character_at literal_at byte bind
character_none text at h = refuses (length text) (character_at (drop at text)) (rw (at_end text at h))

module _ (text : List ℕ) (at : ℕ) (h : at < length text) where
  first_of : ℕ
  first_of = get_or text at 0

  character_from : stepped (length text) (character_at (drop at text))
      ≡ stepped (length text) (rest_by (width first_of) first_of (drop (at + 1) text))
  unfolding character_at literal_at bind rest_at first_of anything
  character_from = rw (at_byte text at h, byte_complete anything (get_or text at 0) refl (drop (at + 1) text))
      (stepped_value (length text) (rest_at (get_or text at 0) (drop (at + 1) text)) (λ w. get_or text at 0 ∷ w))

  module _ (l : get_or text at 0 ≤ 127) {t : Bool} (is : t ≡ lead1 (get_or text at 0)) where
    one_is : width first_of ≡ one
    unfolding width width_by first_of
    one_is = rw (le-leb (get_or text at 0) 127 l)

    pub one_good : t ≡ true → Some (at + 1) ≡ stepped (length text) (character_at (drop at text))
    unfolding rest_by bind first_of
    one_good e = arrives text (rest_by one (get_or text at 0) (drop (at + 1) text)) {a = []} (at + 1) (omega arith)
        (rw (test_complete (sym is ∙ e) (drop (at + 1) text))) ∙ sym (character_from ∙ rw one_is)

    pub one_bad : t ≡ false → None ≡ stepped (length text) (character_at (drop at text))
    unfolding rest_by bind first_of test
    one_bad e = refuses (length text) (rest_by one (get_or text at 0) (drop (at + 1) text)) (rw (sym is ∙ e))
        ∙ sym (character_from ∙ rw one_is)

  module _ (l : 127 < get_or text at 0) where
    pub as_two : get_or text at 0 ≤ 223 → {r : Option ℕ} → r ≡ stepped (length text) (rest_by two (get_or text at 0) (drop (at + 1) text))
        → r ≡ stepped (length text) (character_at (drop at text))
    unfolding width width_by first_of
    as_two k q = q ∙ sym (character_from ∙ rw (lt-leb (get_or text at 0) 127 l, le-leb (get_or text at 0) 223 k))

    module _ (l₁ : 223 < get_or text at 0) where
      pub as_three : get_or text at 0 ≤ 239 → {r : Option ℕ} → r ≡ stepped (length text) (rest_by three (get_or text at 0) (drop (at + 1) text))
          → r ≡ stepped (length text) (character_at (drop at text))
      unfolding width width_by first_of
      as_three k q = q ∙ sym (character_from
          ∙ rw (lt-leb (get_or text at 0) 127 l, lt-leb (get_or text at 0) 223 l₁, le-leb (get_or text at 0) 239 k))

      pub as_four : 239 < get_or text at 0 → {r : Option ℕ} → r ≡ stepped (length text) (rest_by four (get_or text at 0) (drop (at + 1) text))
          → r ≡ stepped (length text) (character_at (drop at text))
      unfolding width width_by first_of
      as_four k q = q ∙ sym (character_from
          ∙ rw (lt-leb (get_or text at 0) 127 l, lt-leb (get_or text at 0) 223 l₁, lt-leb (get_or text at 0) 239 k))

pub plain_step : (text : List ℕ) (at : ℕ) → at < length text → {t : Bool} → t ≡ between 32 127 (get_or text at 0) → t ≡ true
    → Some (at + 1) ≡ stepped (length text) (character_at (drop at text))
unfolding lead1
plain_step text at h is e =
    let low = (within 32 127 (get_or text at 0) (sym is ∙ e)).1 in
    let fits : lead1 (get_or text at 0) ≡ true = rw (sym is ∙ e) (or_true (blank (get_or text at 0))) in
    one_good text at h low refl fits
