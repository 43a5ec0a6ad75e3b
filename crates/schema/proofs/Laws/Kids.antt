-- The fault of an element's children, and of the whole: the frame first.
use Rattle.std.specs.Prelude.{◌≡◌, refl, List, [], ◌∷◌, true, false, ℕ, Some, None}
use Rattle.std.proofs.Common.{ap, ◌∙◌}
use Rattle.std.proofs.Math.Path.{sym}
use Rattle.lists.specs.Lists.{all, if_there, is_some}
use Rattle.grammar.specs.Document.{Element}
use Rattle.grammar.specs.Look.{elements, contents_of}
use Rattle.schema.specs.Schema.{kind_of, shaped, numbered, everywhere}
use Rattle.schema.specs.Walk.{at_child}
use Rattle.schema.specs.Table.{rows_of, lines_of_kind}
use Rattle.schema.specs.Faults.{fault, sooner, fault_of}
use Rattle.schema.specs.Parts.{own_fault, frame_right, kid_shaped, kids_fault}
use Rattle.schema.proofs.Laws.Faults.{fault_and, IsFault, is_fault, is_six, sooner_fault, sooner_three, sooner_turned, none_sooner}
use Rattle.schema.proofs.Laws.Faults.{six_first}
use Rattle.schema.proofs.Laws.Rows.{fault_parts}
use Rattle.schema.proofs.Laws.Attributes.{own_faulty}

-- the children, one by one
pub kids_faulty : (t l : List ℕ) (k : ℕ) (es : List Element) → IsFault (kids_fault t l k es)
unfolding kids_fault
kids_faulty t l k es = is_fault _ _

pub kids_none : (t l : List ℕ) (k : ℕ) → kids_fault t l k [] ≡ 0
unfolding kids_fault all fault
kids_none t l k = refl

pub kids_stranger : (t l : List ℕ) (k : ℕ) (e : Element) (es : List Element) → kind_of (lines_of_kind t l k) e ≡ None
    → kids_fault t l k (e ∷ es) ≡ 6
unfolding kids_fault kid_shaped all is_some fault
kids_stranger t l k e es h = rw h

pub kids_one : (t l : List ℕ) (k : ℕ) (e : Element) (es : List Element) (c : ℕ) → kind_of (lines_of_kind t l k) e ≡ Some c
    → kids_fault t l k (e ∷ es) ≡ sooner (fault_of t l c e) (kids_fault t l k es)
unfolding kids_fault kid_shaped all is_some at_child if_there fault_of
kids_one t l k e es c h =
    rw h (fault_and (everywhere (rows_of t l) shaped c e) (all (kid_shaped t l k) es) (everywhere (rows_of t l) numbered c e)
    (all (at_child (rows_of t l) numbered (lines_of_kind t l k)) es))

-- the whole, the frame first
module _ (t l : List ℕ) (k : ℕ) (e : Element) where
  frame_first : fault_of t l k e
      ≡ sooner (fault (frame_right t l k e) true) (sooner (own_fault t l k e) (kids_fault t l k (elements (contents_of e))))
  frame_first =
      fault_parts t l k e
      ∙ sym (sooner_three (own_faulty t l k e) (is_fault _ _) (kids_faulty t l k _))
      ∙ ap (λ x. sooner x (kids_fault t l k (elements (contents_of e)))) (sooner_turned (own_faulty t l k e) (is_fault _ _))
      ∙ sooner_three (is_fault _ _) (own_faulty t l k e) (kids_faulty t l k _)

  both_faulty : IsFault (sooner (own_fault t l k e) (kids_fault t l k (elements (contents_of e))))
  both_faulty = sooner_fault (own_faulty t l k e) (kids_faulty t l k _)

  pub six_whole : sooner (own_fault t l k e) (kids_fault t l k (elements (contents_of e))) ≡ 6 → 6 ≡ fault_of t l k e
  six_whole z = sym (frame_first ∙ rw z (sooner_turned (is_fault (frame_right t l k e) true) is_six ∙ six_first (is_fault _ _)))

  pub frame_wrong : frame_right t l k e ≡ false → 6 ≡ fault_of t l k e
  unfolding fault
  frame_wrong z = sym (frame_first ∙ rw z (six_first both_faulty))

  pub frame_good : frame_right t l k e ≡ true → fault_of t l k e ≡ sooner (own_fault t l k e) (kids_fault t l k (elements (contents_of e)))
  unfolding fault
  frame_good z = frame_first ∙ rw z (none_sooner _)

  pub six_own : own_fault t l k e ≡ 6 → 6 ≡ fault_of t l k e
  six_own z = six_whole (rw z (six_first (kids_faulty t l k _)))
