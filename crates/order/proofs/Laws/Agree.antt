-- TEXTS THAT ARE THE SAME UP TO A TAG: what the grammar looks ahead for stands in both or in neither.
use Rattle.std.specs.Prelude.{◌≡◌, refl, List, [], ◌∷◌, ◌++◌, ◌&&◌, not, ℕ, eqb}
use Rattle.std.proofs.Common.{ap}
use Rattle.std.proofs.lemmas.Bool.{not-true}
use Rattle.grammar.specs.Bytes.{ascii, Each, no_byte, a_byte, begins, parted}
use Rattle.grammar.specs.Document.{Element}
use Rattle.grammar.specs.Grammar
use Rattle.grammar.specs.Grammar.{WritesElement}

-- the same bytes to the end, or to the first `<` of both
pub data Agree : List ℕ → List ℕ → Type 0 where
  both_end : Agree [] []
  at_tag : {s t : List ℕ} → Agree (60 ∷ s) (60 ∷ t)
  same_byte : {a : ℕ} {s t : List ℕ} → Agree s t → Agree (a ∷ s) (a ∷ t)

pub agree_behind : (w : List ℕ) {s t : List ℕ} → Agree s t → Agree (w ++ s) (w ++ t)
agree_behind [] h = h
agree_behind (a ∷ w) h = same_byte (agree_behind w h)

-- two elements begin with a tag
pub agree_elements : {d b : ℕ} {e f : Element} {v w : List ℕ} → WritesElement d e v → WritesElement b f w → (s t : List ℕ)
    → Agree (v ++ s) (w ++ t)
agree_elements (Grammar.full _ _ _ _ _) (Grammar.full _ _ _ _ _) s t = at_tag
agree_elements (Grammar.full _ _ _ _ _) (Grammar.empty _ _ _) s t = at_tag
agree_elements (Grammar.empty _ _ _) (Grammar.full _ _ _ _ _) s t = at_tag
agree_elements (Grammar.empty _ _ _) (Grammar.empty _ _ _) s t = at_tag

begins_agree : {k s t : List ℕ} → Each (λ a. not (eqb 60 a)) k → Agree s t → begins k s ≡ begins k t
unfolding begins
begins_agree no_byte h = refl
begins_agree (a_byte e k) both_end = refl
begins_agree (a_byte {a} e k) at_tag = rw (not-true (eqb 60 a) e) refl
begins_agree (a_byte {a} e k) (same_byte {a = b} h) = ap (λ r. eqb b a && r) (begins_agree k h)

pub brackets_agree : {s t : List ℕ} → Agree s t → begins (ascii "]]>") s ≡ begins (ascii "]]>") t
brackets_agree h = begins_agree (a_byte refl (a_byte refl (a_byte refl no_byte))) h

pub parted_agree : (w : List ℕ) {s t : List ℕ} → Agree s t → parted w s ≡ parted w t
unfolding parted
parted_agree [] h = refl
parted_agree (a ∷ []) h = ap (λ b. eqb a 13 && b) (begins_agree (a_byte refl no_byte) h)
parted_agree (a ∷ b ∷ w) h = refl
