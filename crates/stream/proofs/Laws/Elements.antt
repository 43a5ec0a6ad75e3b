-- An element: what stands behind its name. That no name stands twice, and that there are sixteen at most, is said one attribute at a time.
use Rattle.std.specs.Prelude.{◌≡◌, ℕ, suc, ◌+◌, ◌≤◌, ◌<◌, Bool, ◌&&◌, not, ◌||◌, leb, ltb, length}
use Rattle.std.proofs.Math.Path.{refl, ap, sym}
use Rattle.std.proofs.Common.{◌∙◌, arith, le-leb, leb-true, ltb-false}
use mathlib.Core.List.{List, [], ◌∷◌}
use Rattle.std.proofs.Math.Bool.{true, false, cond}
use Rattle.std.proofs.lemmas.Bool.{lt-leb}
use Rattle.grammar.specs.Bytes.{ascii, blank, name_start}
use Rattle.grammar.specs.Document.{Attribute, attribute, element, nothing}
use Rattle.grammar.specs.Read.{got, bind, test, mark, span, seen, alt, all_of}
use Rattle.grammar.specs.Parser.{name_at, attributes_at, ends, closing, attribute_at_lem, same_bytes, absent, distinct, empty_at, full_at}
use Rattle.grammar.specs.Parser.{element_at}
use Rattle.grammar.specs.Unfuelled.{contents}
use Rattle.steps.specs.Noted.{among}
use Rattle.steps.specs.Tags.{close_at}
use Rattle.stream.specs.Jobs.{naming, dead, turn, admits}
use Rattle.stream.proofs.Laws.Meets.{Passing, leads, otherwise, meets, meets_all, changed, leads_bind, leads_same, leads_value}
use Rattle.stream.proofs.Laws.Meets.{leads_alt, admits_all, enclosed, tag_end_lem, finishing, attributed}
use Rattle.stream.proofs.Laws.Leaves.{leads_one, chosen}
use Rattle.stream.proofs.Laws.Tags.{name_first}

-- ATTRIBUTES
apart : List (List ℕ) → List Attribute → Bool
apart l [] = true
apart l (attribute m v ∷ x) = not (among m l) && apart l x

apart_more : (m : List ℕ) (l : List (List ℕ)) (x : List Attribute) → apart (m ∷ l) x ≡ (absent m x && apart l x)
unfolding apart among absent
apart_more m l [] = refl
apart_more m l (attribute p v ∷ x) = rw (apart_more m l x) (go (same_bytes m p) (among p l) (absent m x) (apart l x))
  where
    go : (a b c e : Bool) → (not (a || b) && (c && e)) ≡ ((not a && c) && (not b && e))
    go true b c e = refl
    go false true true e = refl
    go false true false e = refl
    go false false true e = refl
    go false false false e = refl

admits_so : (l : List (List ℕ)) (x : List Attribute) → length l ≤ 16
    → admits_all l x ≡ ((apart l x && distinct x) && leb (length l + length x) 16)
unfolding admits_all apart distinct admits
admits_so l [] h = let z : length l + 0 ≤ 16 = omega arith in rw (le-leb (length l + 0) 16 z)
admits_so l (attribute m v ∷ x) h = go (ltb (length l) 16) refl (admits_so (m ∷ l) x)
  where
    short : (a b c e f : Bool) → (a && (((b && c) && e) && f)) ≡ (((a && c) && (b && e)) && f)
    short true true c e f = refl
    short true false true e f = refl
    short true false false e f = refl
    short false b c e f = refl

    never : (a b : Bool) → ((a && b) && false) ≡ false
    never true true = refl
    never true false = refl
    never false b = refl

    go : (t : Bool) → ltb (length l) 16 ≡ t
        → (length (m ∷ l) ≤ 16 → admits_all (m ∷ l) x ≡ ((apart (m ∷ l) x && distinct x) && leb (length (m ∷ l) + length x) 16))
        → ((t && not (among m l)) && admits_all (m ∷ l) x)
        ≡ (((not (among m l) && apart l x) && (absent m x && distinct x)) && leb (length l + length (attribute m v ∷ x)) 16)
    go true e ih =
        let fewer : length (m ∷ l) ≤ 16 = leb-true (suc (length l)) 16 e in
        let sum : length (m ∷ l) + length x ≡ length l + length (attribute m v ∷ x) = omega arith in
        rw (ih fewer, apart_more m l x, sum)
        (short (not (among m l)) (absent m x) (apart l x) (distinct x) (leb (length l + length (attribute m v ∷ x)) 16))
    go false e ih =
        let full = ltb-false (length l) 16 e in
        let over : 16 < length l + length (attribute m v ∷ x) = omega arith in
        rw (lt-leb (length l + length (attribute m v ∷ x)) 16 over) (sym (never (not (among m l) && apart l x) (absent m x && distinct x)))

none_apart : (x : List Attribute) → apart [] x ≡ true
unfolding apart among
none_apart [] = refl
none_apart (attribute m v ∷ x) = none_apart x

pub admits_none : (x : List Attribute) → admits_all [] x ≡ (distinct x && leb (length x) 16)
admits_none x =
    let h : length {A = List ℕ} [] ≤ 16 = omega arith in
    let z : 0 + length x ≡ length x = omega arith in
    admits_so [] x h ∙ rw (none_apart x, z)

-- BEHIND THE NAME
module _ (e : ℕ) (m : List ℕ) (k : Passing) where
  filled : (l : List Attribute) (r : List ℕ)
      → leads (full_at (contents e) m l r) (λ _ r₁. k r₁) ≡ leads (mark (ascii ">") r) (λ _ r₁. enclosed e m k r₁)
  unfolding full_at seen enclosed close_at leads
  filled l r =
      leads_bind (mark (ascii ">") r) _ _ ∙ leads_same (mark (ascii ">") r) _ _ λ _ r₁.
      leads_bind _ _ _ ∙ leads_bind (contents e r₁) _ _ ∙ leads_same (contents e r₁) _ _ λ c r₂.
      leads_bind (mark (ascii "</") r₂) _ _
      ∙ leads_same (mark (ascii "</") r₂) _ _ (λ _ r₃.
      leads_bind (mark m r₃) _ _
      ∙ leads_same (mark m r₃) _ _ (λ _ r₄.
      leads_bind (span blank r₄) _ _ ∙ leads_same (span blank r₄) _ _ (λ _ r₅. leads_value (mark (ascii ">") r₅) (λ _. _) k)
      ∙ sym (leads_bind (span blank r₄) _ _))
      ∙ sym (leads_bind (mark m r₃) _ _))
      ∙ sym (leads_bind (mark (ascii "</") r₂) _ _)

  abbrev ends_tag : List Attribute → List ℕ → Bool
  ends_tag l r = leads (alt (empty_at m l r) (full_at (contents e) m l r)) (λ _ r₁. k r₁)

  tag_ends : (l : List Attribute) (r : List ℕ) → ends_tag l r ≡ tag_end_lem e m k r
  unfolding empty_at tag_end_lem
  tag_ends l r =
      leads_alt (mark (ascii "/>") r) (λ _. element m l nothing []) (full_at (contents e) m l r) k
      ∙ ap (otherwise (mark (ascii "/>") r) k) (filled l r)

  behind_name : (r : List ℕ)
      → leads (attributes_at r) (λ l r₁. leads (span blank r₁) (λ _ r₂. ends_tag l r₂)) ≡ attributed e m [] k r
  unfolding attributes_at attributed finishing leads test bind
  behind_name r =
      leads_bind (all_of (ends closing) attribute_at_lem r) _ _ ∙ leads_same (all_of (ends closing) attribute_at_lem r) _ _ λ l r₁.
      leads_bind (test (distinct l) r₁) _ _ ∙ go (distinct l) (leb (length l) 16) l r₁
      ∙ ap (λ t. cond t (finishing e m k r₁) false) (sym (admits_none l))
    where
      go : (t u : Bool) (l : List Attribute) (r₁ : List ℕ)
          → leads (test t r₁) (λ _ r₂.
          leads (bind (test u r₂) (λ _ r₃. got l r₃)) (λ l r₃. leads (span blank r₃) (λ _ r₄. ends_tag l r₄)))
          ≡ cond (t && u) (finishing e m k r₁) false
      go true true l r₁ = leads_same (span blank r₁) _ _ λ _ r₂. tag_ends l r₂
      go true false l r₁ = refl
      go false u l r₁ = refl

-- AN ELEMENT at `<`, whatever must follow it
pub element_law : (e : ℕ) (k : Passing) (a : ℕ) (s : List ℕ)
    → leads (element_at contents (suc e) (60 ∷ a ∷ s)) (λ _ r. k r)
    ≡ changed (cond (name_start a) (turn (naming e (a ∷ []) ∷ [])) dead) k a s
unfolding element_at meets meets_all
element_law e k a s =
    leads_bind (mark (ascii "<") (60 ∷ a ∷ s)) _ _ ∙ leads_one 60 (a ∷ s) _
    ∙ leads_bind (name_at (a ∷ s)) _ _
    ∙ leads_same (name_at (a ∷ s)) _ _ (λ m r.
    leads_bind (attributes_at r) _ _ ∙ leads_same (attributes_at r) _ _ (λ l r₁. leads_bind (span blank r₁) _ _) ∙ behind_name e m k r)
    ∙ name_first (λ m r. attributed e m [] k r) a s
    ∙ chosen (name_start a) (naming e (a ∷ []) ∷ []) k a s
