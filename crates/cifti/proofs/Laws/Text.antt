-- ONE ANSWER TO A QUESTION ON A TEXT: there is one, there is only one, and two texts of one document get the same.
use Rattle.std.specs.Prelude.{◌≡◌, refl, List, ℕ, ◌≤◌, length, Option, Some, None}
use Rattle.std.proofs.Common.{sym, ap, ◌∙◌}
use Rattle.lists.proofs.Laws.Booleans.{never_some}
use Rattle.grammar.specs.Document.{Element}
use Rattle.grammar.specs.Grammar.{Writes}
use Rattle.grammar.specs.Parser.{parse}
use Rattle.grammar.proofs.Laws.Theorems.{parse_iff, unambiguous}
use Rattle.grammar.specs.Erased.{Node, WritesDocument}
use Rattle.grammar.proofs.Laws.Plain.{plain, plain_same}
use Rattle.cifti.specs.Text.{DocumentOf, written, unwritten, Answers}

pub document_unique : {s : List ℕ} {c d : Option Element} → DocumentOf s c → DocumentOf s d → c ≡ d
document_unique (written h) (written k) = ap Some (unambiguous h k)
document_unique (written h) (unwritten k) = absurd (k _ h)
document_unique (unwritten h) (written k) = absurd (h _ k)
document_unique (unwritten h) (unwritten k) = refl

-- the parser finds the document
pub documented : (s : List ℕ) → DocumentOf s (parse s)
documented s = go (parse s) refl
  where
    go : (d : Option Element) → parse s ≡ d → DocumentOf s d
    go None p = unwritten (λ e h. never_some (sym p ∙ (parse_iff s e).1 h))
    go (Some e) p = written ((parse_iff s e).0 p)

module _ {A : Type 0} where
  -- ---- THERE IS ONE ANSWER, and what equals it is promised.
  pub answers_by : (text : List ℕ) (f : Option Element → A) {a : A} → a ≡ f (parse text) → Answers text f a
  answers_by text f h = record { document = parse text; of = documented text; answered = h }

  pub answering : (text : List ℕ) (f : Option Element → A) → Answers text f (f (parse text))
  answering text f = answers_by text f refl

  -- ---- THERE IS ONLY ONE.
  module _ {text : List ℕ} {f : Option Element → A} where
    pub answers_unique : {a b : A} → Answers text f a → Answers text f b → a ≡ b
    answers_unique r q = r.answered ∙ ap f (document_unique r.of q.of) ∙ sym q.answered

    pub answers_is : {a : A} → Answers text f a → a ≡ f (parse text)
    answers_is r = answers_unique r (answering text f)

    -- of a text that is written by a document
    pub answers_of : {a : A} {e : Element} → Answers text f a → Writes e text → a ≡ f (Some e)
    answers_of r w = r.answered ∙ ap f (document_unique r.of (written w))

-- ---- TWO TEXTS OF ONE DOCUMENT. The paper's document is the tree alone, without the bytes between the tags as each text writes them.

-- a term over the size of the text and its document that sees neither those bytes nor the size of a text that is not too long
pub record Unseeing {A : Type 0} (f : (size : ℕ) → Option Element → A) : Type 0 where
  pub bytes : (n : ℕ) (e : Element) → f n (Some (plain e)) ≡ f n (Some e)
  pub size : (m n : ℕ) → m ≤ 16777216 → n ≤ 16777216 → (e : Element) → f m (Some e) ≡ f n (Some e)

module _ {A : Type 0} (f : ℕ → Option Element → A) (u : Unseeing f) where
  unseen : (m n : ℕ) → m ≤ 16777216 → n ≤ 16777216 → (e g : Element) → plain e ≡ plain g → f m (Some e) ≡ f n (Some g)
  unseen m n h k e g o = u.size m n h k e ∙ sym (u.bytes n e) ∙ ap (λ x. f n (Some x)) o ∙ u.bytes n g

  pub answers_same : {d : Node} {x y : List ℕ} {a b : A} → WritesDocument d x → WritesDocument d y → length x ≤ 16777216
      → length y ≤ 16777216
      → Answers x (f (length x)) a → Answers y (f (length y)) b → a ≡ b
  answers_same {x = x} {y} h k m n r q =
      answers_of r h.writes
      ∙ unseen (length x) (length y) m n h.root k.root (plain_same h.root k.root (h.same ∙ sym k.same))
      ∙ sym (answers_of q k.writes)
