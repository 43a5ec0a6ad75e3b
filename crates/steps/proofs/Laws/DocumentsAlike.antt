-- THE CORRECTION, IN THE STANDARD'S WORDS: a text says what it says with its line ends translated first.
use Rattle.std.specs.Prelude.{◌≡◌, not, Some}
use Rattle.std.proofs.Math.Path.{refl, ap}
use Rattle.std.proofs.Common.{ap₂, sym, ◌∙◌}
use mathlib.Core.List.{List, [], ◌∷◌, ◌++◌}
use Prim.Native.Nat.{ℕ, zero, suc, ◌≤◌, ◌<◌}
use native.Mathlib.Omega.{arith}
use Rattle.std.proofs.Math.ListN.{length, length-append}
use Rattle.lists.specs.Lists.{all}
use Rattle.grammar.specs.Bytes.{ascii, blank, begins}
use Rattle.grammar.specs.Document.{Attribute, Element, element, Contents, nothing, child, run, merged}
use Rattle.grammar.specs.Erased.{node, Nodes, none, inner, characters, erased, erased_all, erased_in, document_of}
use Rattle.grammar.specs.Read.{Read, got, Reader, bind, all_of, seen, test}
use Rattle.grammar.proofs.Laws.Read.{test_sound, mark_sound, span_sound}
use Rattle.grammar.specs.Parser.{Look, at_close, at_comment, at_data, at_element, at_text, look}
use Rattle.grammar.specs.Parser.{empty_at, full_at, element_at, contents_by, declaration_at, prologue_at, aside_at, no_aside, end_at}
use Rattle.grammar.specs.Parser.{document_at, answer, parse}
use Rattle.grammar.proofs.Laws.Sound.{name_sound, attributes_sound, comment_sound, data_sound, text_sound, declaration_sound, prologue_sound}
use Rattle.grammar.proofs.Laws.Tokens.{text_long}
use Rattle.grammar.proofs.Laws.Complete.{comment_long, data_long}
use Rattle.grammar.specs.Unfuelled.{contents}
use Rattle.grammar.proofs.Laws.Unfuelled.{less, no_more_than, bind_same, contents_step, element_enough}
use Rattle.steps.proofs.Laws.Row.{element_eats}
use Rattle.steps.specs.LineEnds.{line_ends}
use Rattle.steps.proofs.Laws.Alike.{Alike, both_fail, both_got, Same, Ended, ended, so_reads, then}
use Rattle.steps.proofs.Laws.Alike.{then_any, then_same, then_known, then_so, either, test_alike}
use Rattle.steps.proofs.Laws.BytesAlike.{sign, name_sign, mark_alike, begins_alike, name_alike, blanks_alike, look_alike}
use Rattle.steps.proofs.Laws.CharactersAlike.{text_alike, attributes_alike}
use Rattle.steps.proofs.Laws.CommentsAlike.{comment_alike}
use Rattle.steps.proofs.Laws.DataAlike.{data_alike}
use Rattle.steps.proofs.Laws.PrologueAlike.{declaration_alike, asides_alike, prologue_alike, end_alike}

-- the same for the paper: all but the bytes that an element keeps between its tags
pub record OneElement (e f : Element) : Type 0 where
  pub node_same : erased e ≡ erased f

pub record OneContents (c d : Contents) : Type 0 where
  pub nodes_same : erased_all c ≡ erased_all d

record OneSeen (x y : Contents × List ℕ) : Type 0 where
  first_same : OneContents x.0 y.0

one_nothing : OneContents nothing nothing
one_nothing = record { nodes_same = refl }

one_child : {e f : Element} {c d : Contents} → OneElement e f → OneContents c d → OneContents (child e c) (child f d)
unfolding erased
one_child h k = record { nodes_same = ap₂ (λ x y. inner x y) h.node_same k.nodes_same }

-- characters in front of the paper's contents
unfoldable fronted : List ℕ → Nodes → Nodes
fronted [] c = c
fronted (a ∷ b) none = characters (a ∷ b) none
fronted (a ∷ b) (inner e c) = characters (a ∷ b) (inner e c)
fronted (a ∷ b) (characters w c) = characters ((a ∷ b) ++ w) c

merged_erased : (b : List ℕ) (c : Contents) → erased_all (merged b c) ≡ fronted b (erased_all c)
unfolding erased merged fronted
merged_erased [] c = refl
merged_erased (a ∷ b) nothing = refl
merged_erased (a ∷ b) (child e c) = refl
merged_erased (a ∷ b) (run w c) = refl

one_merged : (b : List ℕ) {c d : Contents} → OneContents c d → OneContents (merged b c) (merged b d)
one_merged b {c} {d} k = record { nodes_same = merged_erased b c ∙ ap (fronted b) k.nodes_same ∙ sym (merged_erased b d) }

one_element : (n : List ℕ) (l : List Attribute) {c d : Contents} (k m : List ℕ) → OneContents c d
    → OneElement (element n l c k) (element n l d m)
unfolding erased
one_element n l k m h = record { node_same = ap (λ x. node n l x) h.nodes_same }

seen_alike : (p : Reader Contents) {s t : List ℕ} → Alike OneContents (p s) (p t) → Alike OneSeen (seen p s) (seen p t)
unfolding seen
seen_alike p h = then h λ c d r t q e. so_reads (record { first_same = q }) e

-- elements and contents
module _ (n : ℕ) (ih : (d : ℕ) (r t : List ℕ) → length r < n → Ended r t → Alike OneContents (contents d r) (contents d t)) where
  element_alike : (d : ℕ) {s t : List ℕ} → length s ≤ n → Ended s t → Alike OneElement (element_at contents d s) (element_at contents d t)
  unfolding element_at empty_at full_at sign all
  element_alike zero h e = both_fail
  element_alike (suc d) {s} h e =
      then_so (mark_sound (ascii "<") s) (mark_alike (ascii "<") refl e) λ _ r₁ t₁ h₁ e₁.
      then_so (name_sound r₁) (name_alike e₁) λ m r₂ t₂ h₂ e₂.
      then_so (attributes_sound r₂) (attributes_alike e₂) λ l r₃ t₃ h₃ e₃.
      then_known (span_sound blank r₃) (blanks_alike e₃) λ u v r₄ t₄ h₄ _ e₄.
      either (then_same (mark_alike (ascii "/>") refl e₄) λ _ r t e. so_reads (one_element m l [] [] one_nothing) e)
      (then_so (mark_sound (ascii ">") r₄) (mark_alike (ascii ">") refl e₄) λ _ r₅ t₅ h₅ e₅.
      let short : length r₅ < n = omega (
        arith,
        ap length h₁,
        length-append m r₂,
        ap length h₂.0,
        length-append h₃.0 r₃,
        ap length h₃.1,
        length-append u r₄,
        ap length h₄.0,
        ap length h₅,
      ) in
      then (seen_alike (contents d) (ih d r₅ t₅ short e₅)) λ x y r₆ t₆ q e₆.
      then_same (mark_alike (ascii "</") refl e₆) λ _ r₇ t₇ e₇.
      then_same (mark_alike m (name_sign h₂.1) e₇) λ _ r₈ t₈ e₈.
      then_any (blanks_alike e₈) λ u v r₉ t₉ e₉.
      then_same (mark_alike (ascii ">") refl e₉) λ _ r t e. so_reads (one_element m l x.1 y.1 q.first_same) e)

  tested_alike : (s : List ℕ)
      → Alike Same (test (not (begins (ascii "]]>") s)) s) (test (not (begins (ascii "]]>") (line_ends s))) (line_ends s))
  unfolding sign all
  tested_alike s = rw (begins_alike (ascii "]]>") refl s) (test_alike (not (begins (ascii "]]>") s)) ended)

  by_alike : (d : ℕ) (s : List ℕ) → length s < suc n → (l : Look)
      → Alike OneContents (contents_by contents d l s) (contents_by contents d l (line_ends s))
  unfolding contents_by
  by_alike d s h at_close = both_got one_nothing
  by_alike d s h at_comment =
      then_so (less (λ _ w k. comment_long k) (comment_sound s)) (comment_alike ended) λ _ r t l e. ih d r t (omega arith) e
  by_alike d s h at_data =
      then_so (less (λ b w k. data_long k) (data_sound s)) (data_alike ended) λ b r t l e.
      then (ih d r t (omega arith) e) λ c c₁ r₂ t₂ q e₂. so_reads (one_merged b q) e₂
  by_alike d s h at_element =
      then_known (element_eats d s) (element_alike d (omega arith) ended) λ x y r₁ t₁ l q₁ e₁.
      then (ih d r₁ t₁ (omega arith) e₁) λ b c r₂ t₂ q₂ e₂. so_reads (one_child q₁ q₂) e₂
  by_alike d s h at_text =
      then_so (test_sound (not (begins (ascii "]]>") s)) s) (tested_alike s) λ _ r₀ t₀ h₀ e₀.
      then_so (less (λ b w k. text_long k) (text_sound r₀)) (text_alike e₀) λ b r₁ t₁ l e₁.
      let short : length r₁ < n = omega (arith, ap length h₀.1) in
      then (ih d r₁ t₁ short e₁) λ c c₁ r₂ t₂ q e₂. so_reads (one_merged b q) e₂

contents_within : (n d : ℕ) (s t : List ℕ) → length s < n → Ended s t → Alike OneContents (contents d s) (contents d t)
contents_within zero d s t h e = absurd (omega arith)
contents_within (suc n) d s _ h ended = rw (contents_step d s, contents_step d (line_ends s), look_alike s)
    (by_alike n (λ d r t l e. contents_within n d r t l e) d s h (look s))

-- documents
whole : Reader Element
whole s =
    bind (declaration_at s) λ _ r₁.
    bind (prologue_at r₁) λ _ r₂.
    bind (element_at contents 16 r₂) λ e r₃.
    bind (all_of no_aside aside_at r₃) λ _ r₄.
    bind (end_at r₄) λ _ r. got e r

whole_is : (n : ℕ) (s : List ℕ) → length s ≤ n → document_at n s ≡ whole s
unfolding document_at whole
whole_is n s h =
    bind_same _ _ (no_more_than (declaration_sound s)) λ _ r₁ h₁.
    bind_same _ _ (no_more_than (prologue_sound r₁)) λ _ r₂ h₂.
    let fits : length r₂ ≤ n = omega arith in
    rw (element_enough n 16 r₂ fits)

whole_alike : {s t : List ℕ} → Ended s t → Alike OneElement (whole s) (whole t)
unfolding whole
whole_alike e =
    then_same (declaration_alike e) λ _ r₁ t₁ e₁.
    then_same (prologue_alike e₁) λ _ r₂ t₂ e₂.
    then (element_alike (suc (length r₂)) (contents_within (suc (length r₂))) 16 (omega arith) e₂) λ x y r₃ t₃ q e₃.
    then_any (asides_alike e₃) λ u v r₄ t₄ e₄.
    then_same (end_alike e₄) λ _ r₅ t₅ e₅. so_reads q e₅

answers : {m n : Read Element} → Alike OneElement m n → erased_in (answer m) ≡ erased_in (answer n)
unfolding erased_in answer
answers both_fail = refl
answers (both_got h) = ap Some h.node_same

-- LINE ENDS: for every text
pub line_ends_lem : (s : List ℕ) → document_of s ≡ document_of (line_ends s)
unfolding document_of parse
line_ends_lem s = rw (whole_is (length s) s (omega arith), whole_is (length (line_ends s)) (line_ends s) (omega arith))
    (answers (whole_alike ended))
