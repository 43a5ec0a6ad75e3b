-- What a text writes is tidy: no run is empty, no two stand side by side, each name is a name, each tag's attributes have distinct names,
-- 16 at most, and no run and no value holds a carriage return.
use Rattle.std.specs.Prelude.{refl, Bool, List, [], ◌∷◌, ◌++◌, ℕ, suc, ◌≤◌, length}
use Rattle.std.proofs.Common.{arith}
use Rattle.grammar.specs.Bytes.{Each, no_byte, a_byte, Sequence, no_more, one_more, SequenceUnless, none_more, and_more}
use Rattle.grammar.specs.Document.{Attribute, attribute, Element, element, Contents, nothing, child, run, merged, together}
use Rattle.grammar.specs.Grammar
use Rattle.grammar.specs.Grammar.{Name, Reference, TextCharacter, ValueCharacter, Value, DataCharacter, CData, WritesAttribute}
use Rattle.grammar.specs.Grammar.{Distinct, Attributes}
use Rattle.grammar.specs.Grammar.{WritesElement, Writes}
use Rattle.grammar.proofs.Laws.Facts.{no_return}
use Rattle.grammar.proofs.Laws.Others.{other, character_other}

-- contents that do not begin with a run
pub data NoRun : Contents → Type 0 where
  no_contents : NoRun nothing
  no_run : {e : Element} {c : Contents} → NoRun (child e c)

-- no carriage return stands in it; in none of the values
abbrev pub NoReturn : List ℕ → Type 0
NoReturn w = Each (other 13) w

pub data NoReturns : List Attribute → Type 0 where
  no_value : NoReturns []
  a_value : {n v : List ℕ} {l : List Attribute} → NoReturn v → NoReturns l → NoReturns (attribute n v ∷ l)

mutual
  -- `TidyElement d e`: tidy, and at most `d` deep
  pub data TidyElement : ℕ → Element → Type 0 where
    tidy_element : {d : ℕ} {n : List ℕ} {l : List Attribute} {c : Contents} {k : List ℕ} → Name n → Distinct l → length l ≤ 16
        → NoReturns l → Tidy d c → TidyElement (suc d) (element n l c k)

  pub data Tidy : ℕ → Contents → Type 0 where
    tidy_nothing : {d : ℕ} → Tidy d nothing
    tidy_child : {d : ℕ} {e : Element} {c : Contents} → TidyElement d e → Tidy d c → Tidy d (child e c)
    tidy_run : {d : ℕ} {a : ℕ} {w : List ℕ} {c : Contents} → NoRun c → NoReturn (a ∷ w) → Tidy d c → Tidy d (run (a ∷ w) c)

-- what each character reads as holds no return
reference_clean : {b w : List ℕ} → Reference b w → NoReturn b
unfolding other
reference_clean Grammar.amp = a_byte refl no_byte
reference_clean Grammar.lt = a_byte refl no_byte
reference_clean Grammar.gt = a_byte refl no_byte
reference_clean Grammar.quot = a_byte refl no_byte
reference_clean Grammar.apos = a_byte refl no_byte

text_clean : {b w : List ℕ} → TextCharacter b w → NoReturn b
unfolding other
text_clean (TextCharacter.literal h e f) = character_other 13 (omega arith) h f
text_clean (TextCharacter.line_end k) = a_byte refl no_byte
text_clean (TextCharacter.reference k) = reference_clean k

value_clean : {q : ℕ} {b w : List ℕ} → ValueCharacter q b w → NoReturn b
unfolding other
value_clean (ValueCharacter.literal {a} h e₁ e₂ e₃) = character_other 13 (omega arith) h (no_return a e₃)
value_clean (ValueCharacter.space h f) = a_byte refl no_byte
value_clean (ValueCharacter.line_end k) = a_byte refl no_byte
value_clean (ValueCharacter.reference k) = reference_clean k

both_clean : {b w : List ℕ} → NoReturn b → NoReturn w → NoReturn (b ++ w)
both_clean no_byte k = k
both_clean (a_byte e h) k = a_byte e (both_clean h k)

data_character_clean : {b w : List ℕ} → DataCharacter b w → NoReturn b
unfolding other
data_character_clean (DataCharacter.literal h e) = character_other 13 (omega arith) h e
data_character_clean (DataCharacter.line_end k) = a_byte refl no_byte

row_clean : {P : List ℕ → List ℕ → Type 0} {wrong : List ℕ → List ℕ → Bool} → ((b w : List ℕ) → P b w → NoReturn b)
    → {bs : List (List ℕ)} {w : List ℕ} → SequenceUnless P wrong bs w → NoReturn (together bs)
row_clean clean none_more = no_byte
row_clean clean (and_more h e t) = both_clean (clean _ _ h) (row_clean clean t)

written_clean : {v w : List ℕ} → Value v w → NoReturn v
written_clean (Grammar.value q h t) = row_clean (λ b w k. value_clean k) t

data_clean : {b w : List ℕ} → CData b w → NoReturn b
data_clean (Grammar.cdata t) = row_clean (λ b w k. data_character_clean k) t

attributes_clean : {l : List Attribute} {w : List ℕ} → Sequence WritesAttribute l w → NoReturns l
attributes_clean no_more = no_value
attributes_clean (one_more (Grammar.written u n e v) t) = a_value (written_clean v) (attributes_clean t)

merged_tidy : {d : ℕ} {b : List ℕ} {c : Contents} → NoReturn b → Tidy d c → Tidy d (merged b c)
unfolding merged
merged_tidy no_byte k = k
merged_tidy (a_byte e n) tidy_nothing = tidy_run no_contents (a_byte e n) tidy_nothing
merged_tidy (a_byte e n) (tidy_child h k) = tidy_run no_run (a_byte e n) (tidy_child h k)
merged_tidy (a_byte e n) (tidy_run h m k) = tidy_run h (both_clean (a_byte e n) m) k

tidy_tag : {d : ℕ} {n t : List ℕ} {l : List Attribute} {c : Contents} {k : List ℕ} → Name n → Attributes l t → Tidy d c
    → TidyElement (suc d) (element n l c k)
tidy_tag nm (Grammar.attributes t h k) q = tidy_element nm h k (attributes_clean t) q

element_tidy : {d : ℕ} {e : Element} {w : List ℕ} → WritesElement d e w → TidyElement d e
element_tidy t = elim t as (λ d e w _. TidyElement d e) (λ d c w _. Tidy d c) [
  | Grammar.full nm at hu (kids → ih) hv ↦ tidy_tag nm at ih
  | Grammar.empty nm at hu ↦ tidy_tag nm at tidy_nothing
  | Grammar.none ↦ tidy_nothing
  | Grammar.remark k (t → ih) ↦ ih
  | Grammar.character k p e (t → ih) ↦ merged_tidy (text_clean k) ih
  | Grammar.marked k (t → ih) ↦ merged_tidy (data_clean k) ih
  | Grammar.inner (k → ih₁) (t → ih₂) ↦ tidy_child ih₁ ih₂
]

pub writes_tidy : {e : Element} {s : List ℕ} → Writes e s → TidyElement 16 e
writes_tidy (Grammar.document h₁ h₂ h₃ h₄) = element_tidy h₃
