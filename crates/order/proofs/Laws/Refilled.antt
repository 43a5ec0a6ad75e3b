-- CONTENTS WITH THEIR MODELS IN ANOTHER ORDER ARE WRITTEN, by as many bytes: other models are put in the places of the models.
use Rattle.std.specs.Prelude.{◌≡◌, refl, List, [], ◌∷◌, ◌++◌, Bool, true, false, cond, ℕ, suc, ◌+◌, length}
use Rattle.std.proofs.Common.{sym, ap, subst, ◌∙◌, arith, length-append}
use Rattle.lists.specs.Lists.{those}
use Rattle.lists.specs.Permuted.{Permuted, none, same, swap, then}
use Rattle.lists.proofs.Laws.Permuted.{length_permuted}
use Rattle.grammar.specs.Document.{Element, Contents, nothing, child, run, merged}
use Rattle.grammar.specs.Grammar
use Rattle.grammar.specs.Grammar.{WritesElement, WritesContents}
use Rattle.grammar.specs.Look.{elements}
use Rattle.nodes.proofs.Laws.Children.{elements_joined}
use Rattle.order.specs.Resorted.{is_brain_model, blank_model, models_blank, Resorted}
use Rattle.order.proofs.Laws.Resorted.{blank_is}
use Rattle.order.proofs.Laws.Agree.{Agree, both_end, agree_behind, agree_elements, brackets_agree, parted_agree}

-- ---- Contents with the elements of a list in the places of their models.

unfoldable placed : Bool → Element → List Element → Element
placed false e l = e
placed true e [] = blank_model
placed true e (f ∷ l) = f

unfoldable left : Bool → List Element → List Element
left false l = l
left true [] = []
left true (f ∷ l) = l

unfoldable refilled : Contents → List Element → Contents
refilled nothing l = nothing
refilled (child e c) l = child (placed (is_brain_model e) e l) (refilled c (left (is_brain_model e) l))
refilled (run w c) l = run w (refilled c l)

refilled_blank : (c : Contents) (l : List Element) → refilled (models_blank c) l ≡ refilled c l
unfolding refilled models_blank placed left
refilled_blank nothing l = refl
refilled_blank (run w c) l = ap (run w) (refilled_blank c l)
refilled_blank (child e c) l = go (is_brain_model e) refl l (refilled_blank c)
  where
    go : (b : Bool) → is_brain_model e ≡ b → (l : List Element) → ((l : List Element) → refilled (models_blank c) l ≡ refilled c l)
        → child (placed (is_brain_model (cond b blank_model e)) (cond b blank_model e) l)
        (refilled (models_blank c) (left (is_brain_model (cond b blank_model e)) l))
        ≡ child (placed b e l) (refilled c (left b l))
    go true h [] k = rw blank_is (ap (child blank_model) (k []))
    go true h (f ∷ l) k = rw blank_is (ap (child f) (k l))
    go false h l k = rw h (ap (child e) (k l))

refilled_own : (c : Contents) → refilled c (those is_brain_model (elements c)) ≡ c
unfolding refilled placed left those elements
refilled_own nothing = refl
refilled_own (run w c) = ap (run w) (refilled_own c)
refilled_own (child e c) = go (is_brain_model e) (refilled_own c)
  where
    go : (b : Bool) → refilled c (those is_brain_model (elements c)) ≡ c
        → child (placed b e (cond b (e ∷ those is_brain_model (elements c)) (those is_brain_model (elements c))))
        (refilled c (left b (cond b (e ∷ those is_brain_model (elements c)) (those is_brain_model (elements c))))) ≡ child e c
    go true h = ap (child e) h
    go false h = ap (child e) h

resorted_refilled : {c d : Contents} → Resorted c d → refilled c (those is_brain_model (elements d)) ≡ d
resorted_refilled {c} {d} r =
    sym (refilled_blank c (those is_brain_model (elements d)))
    ∙ ap (λ x. refilled x (those is_brain_model (elements d))) r.stays
    ∙ refilled_blank d (those is_brain_model (elements d))
    ∙ refilled_own d

-- characters in front
refilled_merged : (b : List ℕ) (c : Contents) (l : List Element) → refilled (merged b c) l ≡ merged b (refilled c l)
unfolding merged refilled
refilled_merged [] c l = refl
refilled_merged (a ∷ b) nothing l = refl
refilled_merged (a ∷ b) (child e c) l = refl
refilled_merged (a ∷ b) (run w c) l = refl

-- ---- Elements that are written, by so many bytes together.

data Writings (d : ℕ) : List Element → ℕ → Type 0 where
  no_writing : Writings d [] 0
  writing : {e : Element} {l : List Element} {w : List ℕ} {m n : ℕ} → WritesElement d e w → Writings d l n → m ≡ length w + n
      → Writings d (e ∷ l) m

permuted_writings : {d n : ℕ} {k l : List Element} → Permuted k l → Writings d k n → Writings d l n
permuted_writings none h = h
permuted_writings (same p) (writing t h e) = writing t (permuted_writings p h) e
permuted_writings swap (writing {w = v} {m} t (writing {w = w} {n = n} u h e) f) =
    let together : m ≡ length w + (length v + n) = omega arith in
    writing u (writing t h refl) together
permuted_writings (then p q) h = permuted_writings q (permuted_writings p h)

-- ---- Contents that are written are written with other models too.

record Refilled (d : ℕ) (c : Contents) (before : List ℕ) (own other : ℕ) : Type 0 where
  text : List ℕ
  writes : WritesContents d c text
  long : length text + own ≡ length before + other
  agrees : Agree before text

record Refills (d : ℕ) (c : Contents) (k : List ℕ) : Type 0 where
  own : ℕ
  models : Writings d (those is_brain_model (elements c)) own
  refill : (l : List Element) (n : ℕ) → Writings d l n → length l ≡ length (those is_brain_model (elements c))
      → Refilled d (refilled c l) k own n

none_refills : {d : ℕ} → Refills d nothing []
unfolding elements those refilled
none_refills {d} = record { own = 0; models = no_writing; refill = λ l n h e. go h e }
  where
    go : {l : List Element} {n : ℕ} → Writings d l n → length l ≡ 0 → Refilled d nothing [] 0 n
    go no_writing e = record { text = []; writes = Grammar.none; long = refl; agrees = both_end }
    go (writing t h q) e = absurd (omega arith)

-- what stands in front of contents: a comment, a character, CDATA
front_refills : {d : ℕ} (b w : List ℕ) {c : Contents} {s : List ℕ}
    → ((x : Contents) (t : List ℕ) → Agree s t → WritesContents d x t → WritesContents d (merged b x) (w ++ t))
    → Refills d c s → Refills d (merged b c) (w ++ s)
front_refills {d} b w {c} {s} front r = record {
  own = r.own;
  models = rw (elements_joined b c) r.models;
  refill = λ l n h e. go l n (r.refill l n h (e ∙ ap (λ k. length (those is_brain_model k)) (elements_joined b c)));
}
  where
    go : (l : List Element) (n : ℕ) → Refilled d (refilled c l) s r.own n → Refilled d (refilled (merged b c) l) (w ++ s) r.own n
    go l n f = record {
      text = w ++ f.text;
      writes = rw (refilled_merged b c l) (front (refilled c l) f.text f.agrees f.writes);
      long = rw (length-append w f.text, length-append w s) (omega (arith, f.long));
      agrees = agree_behind w f.agrees;
    }

-- an element: a model, in whose place another stands, or another element
inner_refills : {d : ℕ} {e : Element} {c : Contents} {w s : List ℕ} → WritesElement d e w → Refills d c s → Refills d (child e c) (w ++ s)
unfolding elements those refilled placed left
inner_refills {d} {e} {c} {w} {s} t r =
    let (own, models, refill) = go (is_brain_model e) in
    record { own = own; models = models; refill = refill }
  where
    model : {l : List Element} {n : ℕ} → Writings d l n → length l ≡ suc (length (those is_brain_model (elements c)))
        → Refilled d (child (placed true e l) (refilled c (left true l))) (w ++ s) (length w + r.own) n
    model no_writing q = absurd (omega arith)
    model (writing {l = l} {w = v} {n = n} u h p) q =
        let f = r.refill l n h (omega arith) in
        record {
          text = v ++ f.text;
          writes = Grammar.inner u f.writes;
          long = rw (length-append v f.text, length-append w s) (omega (arith, f.long));
          agrees = agree_elements t u s f.text;
        }

    other : (l : List Element) (n : ℕ) → Refilled d (refilled c l) s r.own n → Refilled d (child e (refilled c l)) (w ++ s) r.own n
    other l n f = record {
      text = w ++ f.text;
      writes = Grammar.inner t f.writes;
      long = rw (length-append w f.text, length-append w s) (omega (arith, f.long));
      agrees = agree_behind w f.agrees;
    }

    go : (b : Bool) → (own : ℕ) × Writings d (cond b (e ∷ those is_brain_model (elements c)) (those is_brain_model (elements c))) own
        × ((l : List Element) (n : ℕ) → Writings d l n
        → length l ≡ length (cond b (e ∷ those is_brain_model (elements c)) (those is_brain_model (elements c)))
        → Refilled d (child (placed b e l) (refilled c (left b l))) (w ++ s) own n)
    go true = (length w + r.own, writing t r.models refl, λ l n h q. model h q)
    go false = (r.own, r.models, λ l n h q. other l n (r.refill l n h q))

contents_refills : {d : ℕ} {c : Contents} {k : List ℕ} → WritesContents d c k → Refills d c k
unfolding merged
contents_refills t = elim t as (λ d e w _. Unit {0}) (λ d c k _. Refills d c k) [
  | Grammar.full nm at hu (kids → ih) hv ↦ tt
  | Grammar.empty nm at hu ↦ tt
  | Grammar.none ↦ none_refills
  | Grammar.remark {w = w} k (t → ih) ↦ front_refills [] w (λ x u a h. Grammar.remark k h) ih
  | Grammar.character {b = b} {w} k p e (t → ih) ↦ front_refills b w
      (λ x u a h. Grammar.character k (sym (parted_agree w a) ∙ p) (sym (brackets_agree (agree_behind w a)) ∙ e) h) ih
  | Grammar.marked {b = b} {w} k (t → ih) ↦ front_refills b w (λ x u a h. Grammar.marked k h) ih
  | Grammar.inner (k → ih₁) (t → ih₂) ↦ inner_refills k ih₂
]

-- THE SAME CONTENTS, their models in another order, and as many bytes that write them
pub record Rewritten (d : ℕ) (c : Contents) (before : List ℕ) : Type 0 where
  pub text : List ℕ
  pub writes : WritesContents d c text
  pub long : length text ≡ length before

as_rewritten : {d own : ℕ} {c x : Contents} {k : List ℕ} → c ≡ x → Refilled d c k own own → Rewritten d x k
as_rewritten {d} e f = record {
  text = f.text;
  writes = subst (λ c. WritesContents d c f.text) e f.writes;
  long = omega (arith, f.long);
}

pub resorted_written : {d : ℕ} {c x : Contents} {k : List ℕ} → Resorted c x → WritesContents d c k → Rewritten d x k
resorted_written {x = x} r t =
    let a = contents_refills t in
    let models = permuted_writings r.moved a.models in
    as_rewritten (resorted_refilled r) (a.refill (those is_brain_model (elements x)) a.own models (sym (length_permuted r.moved)))
