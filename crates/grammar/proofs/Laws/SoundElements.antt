-- What the parser finds, the text writes.
use Rattle.std.specs.Prelude.{◌≡◌, refl, List, [], ◌∷◌, ◌++◌, ℕ, zero, suc, not, length, Some}
use Rattle.std.proofs.Common.{append_assoc, append-nil}
use Rattle.std.proofs.lemmas.Bool.{not-true}
use Rattle.lists.proofs.Laws.Booleans.{clash}
use Rattle.grammar.specs.Bytes.{◌⊹◌, ascii, blank, begins}
use Rattle.grammar.specs.Document.{Element, Contents}
use Rattle.grammar.specs.Grammar
use Rattle.grammar.specs.Grammar.{WritesElement, WritesContents, Writes}
use Rattle.grammar.specs.Read.{Read, Reader}
use Rattle.grammar.proofs.Laws.Read.{Ok, failed, good, bind_ok, ok_map, alt_ok, Takes, test_sound, mark_sound, span_sound}
use Rattle.grammar.proofs.Laws.Read.{all_of_sound, seen_sound}
use Rattle.grammar.specs.Parser.{Look, at_close, at_comment, at_data, at_element, at_text, look, empty_at, full_at, element_at}
use Rattle.grammar.specs.Parser.{contents_by, contents_at, no_aside, end_at, document_at, answer, parse}
use Rattle.grammar.proofs.Laws.Sound.{name_sound, attributes_sound, comment_sound, data_sound, text_whole, parted_less, begins_less}
use Rattle.grammar.proofs.Laws.Sound.{declaration_sound, aside_sound, prologue_sound}

pub element_sound : (within : ℕ → Reader Contents) → ((d : ℕ) (s : List ℕ) → Ok (Takes (WritesContents d) s) (within d s))
    → (d : ℕ) (s : List ℕ) → Ok (Takes (WritesElement d) s) (element_at within d s)
unfolding element_at empty_at full_at
element_sound within ih zero s = failed
element_sound within ih (suc d) s =
    bind_ok (mark_sound (ascii "<") s) λ _ r₁ e₁.
    bind_ok (name_sound r₁) λ n r₂ h₂.
    bind_ok (attributes_sound r₂) λ l r₃ h₃.
    bind_ok (span_sound blank r₃) λ u r₄ h₄.
    alt_ok
    (bind_ok (mark_sound (ascii "/>") r₄) λ _ r₅ e₅.
    good (_, simp append_assoc (cc), Grammar.empty h₂.1 h₃.2 h₄.1))
    (bind_ok (mark_sound (ascii ">") r₄) λ _ r₅ e₅.
    bind_ok (seen_sound (within d) r₅ (ih d r₅)) λ ck r₆ h₆.
    bind_ok (mark_sound (ascii "</") r₆) λ _ r₇ e₇.
    bind_ok (mark_sound n r₇) λ _ r₈ e₈.
    bind_ok (span_sound blank r₈) λ v r₉ h₉.
    bind_ok (mark_sound (ascii ">") r₉) λ _ r e.
    good (_, simp append_assoc (cc), Grammar.full h₂.1 h₃.2 h₄.1 h₆.1 h₉.1))

contents_by_sound : (more : ℕ → Reader Contents) → ((d : ℕ) (s : List ℕ) → Ok (Takes (WritesContents d) s) (more d s))
    → (d : ℕ) (k : Look) (s : List ℕ) → Ok (Takes (WritesContents d) s) (contents_by more d k s)
unfolding contents_by
contents_by_sound more ih d at_close s = good ([], refl, Grammar.none)
contents_by_sound more ih d at_comment s =
    bind_ok (comment_sound s) λ _ r₁ h₁.
    ok_map (ih d r₁) λ c r₂ h₂. (_, simp append_assoc (cc), Grammar.remark h₁.2 h₂.2)
contents_by_sound more ih d at_data s =
    bind_ok (data_sound s) λ b r₁ h₁.
    bind_ok (ih d r₁) λ c r₂ h₂. good (_, simp append_assoc (cc), Grammar.marked h₁.2 h₂.2)
contents_by_sound more ih d at_element s =
    bind_ok (element_sound more ih d s) λ e r₁ h₁.
    bind_ok (ih d r₁) λ c r₂ h₂. good (_, simp append_assoc (cc), Grammar.inner h₁.2 h₂.2)
contents_by_sound more ih d at_text s =
    bind_ok (test_sound (not (begins (ascii "]]>") s)) s) λ _ r₀ h₀.
    bind_ok (text_whole r₀) λ b r₁ h₁.
    bind_ok (ih d r₁) λ c r₂ h₂.
    let e₁ = h₁.1 in
    let e₂ = h₂.1 in
    let whole : s ≡ (h₁.0 ⊹ h₂.0) ++ r₂ = simp append_assoc (cc) in
    let clear = not-true (begins (ascii "]]>") s) h₀.0 in
    let apart = parted_less h₁.0 h₂.0 r₂ (rw e₂ at h₁.3) in
    good (_, whole, Grammar.character h₁.2 apart (begins_less (ascii "]]>") (h₁.0 ⊹ h₂.0) r₂ (rw whole at clear)) h₂.2)

pub contents_sound : (n d : ℕ) (s : List ℕ) → Ok (Takes (WritesContents d) s) (contents_at n d s)
unfolding contents_at
contents_sound zero d s = failed
contents_sound (suc n) d s = contents_by_sound (contents_at n) (contents_sound n) d (look s) s

end_sound : (s : List ℕ) → Ok (λ _ r. (s ≡ []) × (r ≡ [])) (end_at s)
unfolding end_at
end_sound [] = good (refl, refl)
end_sound (a ∷ s) = failed

document_sound : (n : ℕ) (s : List ℕ) → Ok (λ e r. Writes e s) (document_at n s)
unfolding document_at
document_sound n s =
    bind_ok (declaration_sound s) λ _ r₁ h₁.
    bind_ok (prologue_sound r₁) λ _ r₂ h₂.
    bind_ok (element_sound (contents_at n) (contents_sound n) 16 r₂) λ e r₃ h₃.
    bind_ok (all_of_sound aside_sound no_aside r₃) λ _ r₄ h₄.
    bind_ok (end_sound r₄) λ _ r₅ h₅.
    let whole : s ≡ h₁.0 ⊹ h₂.0 ⊹ h₃.0 ⊹ h₄.0 = cc (append-nil h₄.0) in
    good (rw whole (Grammar.document h₁.2 h₂.2 h₃.2 h₄.2))

answer_sound : {s : List ℕ} {m : Read Element} {e : Element} → Ok (λ e r. Writes e s) m → answer m ≡ Some e → Writes e s
unfolding answer
answer_sound failed q = clash (cc)
answer_sound {s} {e = e} (good {a} h) q = let one : a ≡ e = cc in rw one at h

pub parse_sound : (s : List ℕ) (e : Element) → parse s ≡ Some e → Writes e s
unfolding parse
parse_sound s e q = answer_sound (document_sound (length s) s) q
