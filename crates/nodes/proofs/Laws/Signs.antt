-- Signs: what stands where contents go on with a tag, at a position of the text: one law for each way through the code.
use Rattle.std.specs.Prelude.{◌≡◌, refl, List, ℕ, ◌-◌, ◌≤◌, ◌<◌, Bool, true, false, length, drop, Option, Some, None}
use Rattle.std.proofs.Common.{ap, ◌∙◌, arith, rules}
use Rattle.std.proofs.Math.Path.{sym}
use Rattle.lists.proofs.Laws.Booleans.{clash}
use Rattle.grammar.specs.Read.{Read, fail, got}
use Rattle.grammar.specs.Parser.{comment_at, data_at_lem, Look, at_close, at_comment, at_data, at_element, at_text, look}
use Rattle.steps.specs.Step.{stepped}
use Rattle.steps.proofs.Laws.Step.{at_end}
use Rattle.nodes.specs.Scan.{tag_at}
use Rattle.nodes.specs.ScanSteps.{tag_told, flat_of, mark_of, sign_by, sign, sign_told}
use Rattle.steps.specs.Pieces.{front}
use Rattle.steps.specs.declared.pieces.Front.{Front}
use Rattle.steps.specs.declared.pieces.Front.TheVariants as front_is
use Rattle.nodes.specs.declared.scan.Tag.{Tag}
use Rattle.nodes.specs.declared.scan.Tag.TheVariants as tag_is
use Rattle.nodes.specs.declared.scan.Sign.{Sign}
use Rattle.nodes.specs.declared.scan.Sign.TheVariants as sign-is
use Rattle.nodes.proofs.Laws.Scan.{looks_close, looks_comment, looks_data, looks_start, looks_text}
use Rattle.nodes.proofs.Laws.Skip.{place}

sign_look : (s : List ℕ) (l : Look) → look s ≡ l → sign s ≡ sign_by l s
unfolding sign
sign_look s l e = rw e

flat_to : {A : Type 0} (n : ℕ) (m : Read A) {j : ℕ} → stepped n m ≡ Some j → Some (sign-is.Flat j) ≡ sign_told n (flat_of m)
unfolding stepped sign_told flat_of
flat_to n fail e = clash (cc)
flat_to n (got u r) {j} e = let q : n - length r ≡ j = cc in cc

flat_no : {A : Type 0} (n : ℕ) (m : Read A) → stepped n m ≡ None → None ≡ sign_told n (flat_of m)
unfolding stepped sign_told flat_of
flat_no n fail e = refl
flat_no n (got u r) e = clash (cc)

mark_open : (n : ℕ) (m : Read Bool) {j : ℕ} → tag_told n m ≡ Some (tag_is.Open j) → Some (sign-is.Open j) ≡ sign_told n (mark_of m)
unfolding tag_told sign_told mark_of
mark_open n fail e = clash (cc)
mark_open n (got true r) {j} e = let q : n - length r ≡ j = cc in cc
mark_open n (got false r) e = clash (cc)

mark_bare : (n : ℕ) (m : Read Bool) {j : ℕ} → tag_told n m ≡ Some (tag_is.Bare j) → Some (sign-is.Flat j) ≡ sign_told n (mark_of m)
unfolding tag_told sign_told mark_of
mark_bare n fail e = clash (cc)
mark_bare n (got true r) e = clash (cc)
mark_bare n (got false r) {j} e = let q : n - length r ≡ j = cc in cc

mark_no : (n : ℕ) (m : Read Bool) → tag_told n m ≡ None → None ≡ sign_told n (mark_of m)
unfolding tag_told sign_told mark_of
mark_no n fail e = refl
mark_no n (got true r) e = clash (cc)
mark_no n (got false r) e = clash (cc)

module _ (text : List ℕ) (at : ℕ) where
  pub close_past : length text < at → sign-is.Close (length text) ≡ sign-is.Close (length text - length (drop at text))
  close_past h = let l : length text ≤ at = omega arith in let z : length text - 0 ≡ length text = omega arith in rw (at_end text at l, z)

  pub close_here : at ≤ length text → sign-is.Close at ≡ sign-is.Close (length text - length (drop at text))
  close_here h = rw (place text at h)

module _ (text : List ℕ) (at : ℕ) {f : Front} (e : f ≡ front (look (drop at text))) where
  pub sign_close : f ≡ front_is.Close → {r : Sign} → r ≡ sign-is.Close (length text - length (drop at text))
      → Some r ≡ sign_told (length text) (sign (drop at text))
  unfolding sign_by sign_told
  sign_close q z = ap Some z ∙ sym (rw (sign_look (drop at text) at_close (looks_close (drop at text) e q)))

  pub sign_close_here : f ≡ front_is.Close → at ≤ length text → Some (sign-is.Close at) ≡ sign_told (length text) (sign (drop at text))
  sign_close_here q h = sign_close q (close_here text at h)

  pub sign_text : f ≡ front_is.Text → None ≡ sign_told (length text) (sign (drop at text))
  unfolding sign_by sign_told
  sign_text q = sym (rw (sign_look (drop at text) at_text (looks_text (drop at text) e q)))

  module _ (q : f ≡ front_is.Comment) {x : Option ℕ} (k : x ≡ stepped (length text) (comment_at (drop at text))) where
    comment_look : flat_of (comment_at (drop at text)) ≡ sign (drop at text)
    unfolding sign_by
    comment_look = sym (sign_look (drop at text) at_comment (looks_comment (drop at text) e q))

    pub sign_comment : {j : ℕ} → x ≡ Some j → Some (sign-is.Flat j) ≡ sign_told (length text) (sign (drop at text))
    sign_comment z = flat_to (length text) (comment_at (drop at text)) (sym k ∙ z) ∙ ap (sign_told (length text)) comment_look

    pub sign_broken : x ≡ None → None ≡ sign_told (length text) (sign (drop at text))
    sign_broken z = flat_no (length text) (comment_at (drop at text)) (sym k ∙ z) ∙ ap (sign_told (length text)) comment_look

  module _ (q : f ≡ front_is.Data) {x : Option ℕ} (k : x ≡ stepped (length text) (data_at_lem (drop at text))) where
    data_look : flat_of (data_at_lem (drop at text)) ≡ sign (drop at text)
    unfolding sign_by
    data_look = sym (sign_look (drop at text) at_data (looks_data (drop at text) e q))

    pub sign_data : {j : ℕ} → x ≡ Some j → Some (sign-is.Flat j) ≡ sign_told (length text) (sign (drop at text))
    sign_data z = flat_to (length text) (data_at_lem (drop at text)) (sym k ∙ z) ∙ ap (sign_told (length text)) data_look

    pub sign_no_data : x ≡ None → None ≡ sign_told (length text) (sign (drop at text))
    sign_no_data z = flat_no (length text) (data_at_lem (drop at text)) (sym k ∙ z) ∙ ap (sign_told (length text)) data_look

  module _ (q : f ≡ front_is.Start) {x : Option Tag} (k : x ≡ tag_told (length text) (tag_at (drop at text))) where
    start_look : mark_of (tag_at (drop at text)) ≡ sign (drop at text)
    unfolding sign_by
    start_look = sym (sign_look (drop at text) at_element (looks_start (drop at text) e q))

    pub sign_open : {y : Tag} {j : ℕ} → x ≡ Some y → y ≡ tag_is.Open j → Some (sign-is.Open j) ≡ sign_told (length text) (sign (drop at text))
    sign_open z w = mark_open (length text) (tag_at (drop at text)) (sym k ∙ z ∙ ap Some w) ∙ ap (sign_told (length text)) start_look

    pub sign_bare : {y : Tag} {j : ℕ} → x ≡ Some y → y ≡ tag_is.Bare j → Some (sign-is.Flat j) ≡ sign_told (length text) (sign (drop at text))
    sign_bare z w = mark_bare (length text) (tag_at (drop at text)) (sym k ∙ z ∙ ap Some w) ∙ ap (sign_told (length text)) start_look

    pub sign_none : x ≡ None → None ≡ sign_told (length text) (sign (drop at text))
    sign_none z = mark_no (length text) (tag_at (drop at text)) (sym k ∙ z) ∙ ap (sign_told (length text)) start_look

pub ruleset signing = (
  close_past,
  close_here,
  sign_close,
  sign_close_here,
  sign_text,
  sign_comment,
  sign_broken,
  sign_data,
  sign_no_data,
  sign_open,
  sign_bare,
  sign_none,
  rules,
)
