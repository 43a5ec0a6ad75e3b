-- W11: THE ORDER OF MODELS DOES NOT MATTER. Two texts that pass 2 and 3, the document of the one being that of the other with the models of
-- its maps in another order, get the same answer, refusals too, for the same lengths and slices lent. Nothing else is asked of them.
use Rattle.std.specs.Prelude.{◌≡◌, refl, List, ℕ, ◌≤◌, ℤ, Option, Some, Result}
use Rattle.std.proofs.Math.Path.{sym, ap}
use Rattle.std.proofs.Common.{◌∙◌}
use Rattle.std.proofs.Math.ListN.{length}
use Rattle.grammar.specs.Document.{Element}
use Rattle.grammar.specs.Grammar.{Writes}
use Rattle.grammar.specs.Erased.{erased, WritesDocument}
use Rattle.grammar.proofs.Laws.Plain.{plain_same}
use Rattle.shortlist.specs.Making.{Lists}
use Rattle.shortlist.proofs.Laws.Unique.{list_unique}
use Rattle.shortlist.specs.declared.answer.Model as short
use Rattle.shortlist.specs.declared.answer.ListFault as made
use Rattle.cifti.specs.Text.{Answers}
use Rattle.cifti.specs.Answer.{answer_to, records_after, Reads}
use Rattle.cifti.specs.Names.{name_refusal, part_by, name_part, NameNumber, NamePart}
use Rattle.cifti.specs.Labels.{keys_refusal, keys_count, overwritten, keys_afterwards, label_refusal, label_by, label_part, Keys}
use Rattle.cifti.specs.Labels.{LabelNumber, LabelPart}
use Rattle.cifti.proofs.Laws.Text.{Unseeing, answers_of}
use Rattle.cifti.proofs.Laws.Unseen.{answer_unseeing, records_unseeing, name_unseeing, keys_unseeing, count_unseeing, after_unseeing}
use Rattle.cifti.proofs.Laws.Unseen.{label_unseeing}
use Rattle.cifti.proofs.Laws.Theorems.{reading}
use Rattle.cifti.specs.declared.answer.Answer.{Answer}
use Rattle.order.specs.Resorted.{ModelsReordered}
use Rattle.order.specs.Stretch.{stretch_told}
use Rattle.order.proofs.Laws.Written.{order_written}
use Rattle.order.proofs.Laws.Documents.{answer_reordered, records_reordered, name_refusal_reordered, name_part_reordered}
use Rattle.order.proofs.Laws.Documents.{keys_refusal_reordered, keys_given_reordered, label_refusal_reordered, label_part_reordered}

-- ---- A term that sees neither the order of models nor the bytes between the tags nor the size of a text that is not too long.

module _ {A : Type 0} (term : ℕ → Option Element → A) (unseeing : Unseeing term) where
  of_document : (n : ℕ) (e g : Element) → erased g ≡ erased e → term n (Some g) ≡ term n (Some e)
  of_document n e g h = sym (unseeing.bytes n g) ∙ ap (λ x. term n (Some x)) (plain_same g e h) ∙ unseeing.bytes n e

  answers_reordered : {e f : Element} → ((n : ℕ) → term n (Some e) ≡ term n (Some f)) → {x y : List ℕ} {a b : A}
      → WritesDocument (erased e) x → WritesDocument (erased f) y → length x ≤ 16777216 → length y ≤ 16777216
      → Answers x (term (length x)) a → Answers y (term (length y)) b → a ≡ b
  answers_reordered {e} {f} same {x} {y} h k m n r q =
      answers_of r h.writes
      ∙ of_document (length x) e h.root h.same
      ∙ same (length x)
      ∙ unseeing.size (length x) (length y) m n f
      ∙ sym (of_document (length y) f k.root k.same)
      ∙ sym (answers_of q k.writes)

-- ---- THE THEOREMS, of two texts that write documents of the paper, neither too long.

module _ {e f : Element} (o : ModelsReordered e f) {x y : List ℕ} (h : WritesDocument (erased e) x) (k : WritesDocument (erased f) y)
    (m : length x ≤ 16777216) (n : length y ≤ 16777216) where
  -- read: the answer, its number too, the records and the work space
  pub reads_reordered : {lengths records work : List ℕ} {a b : Answer} {s t v w : List ℕ}
      → Reads x lengths records work a s v → Reads y lengths records work b t w → (a ≡ b) × (s ≡ t) × (v ≡ w)
  reads_reordered {lengths} {records} {work} r q = (
    answers_reordered (answer_to lengths (length records) (length work)) (answer_unseeing lengths (length records) (length work))
        (λ size. answer_reordered o lengths (length records) (length work) size) h k m n r.answered q.answered,
    answers_reordered (records_after lengths records (length work)) (records_unseeing lengths records (length work))
        (λ size. records_reordered o lengths records (length work) size) h k m n r.filled q.filled,
    r.cleared ∙ sym q.cleared,
  )

  -- W4: the short list that is made of the stretch of a dimension
  pub lists_reordered : {lengths records work : List ℕ} {a b : Answer} {s t v w : List ℕ}
      → Reads x lengths records work a s v → Reads y lengths records work b t w
      → (dimension : ℕ) (before : List short.Model) {c d : Result ℕ made.ListFault} {i j : List short.Model}
      → Lists (stretch_told a s dimension) before c i → Lists (stretch_told b t dimension) before d j → (c ≡ d) × (i ≡ j)
  lists_reordered {a = a} {b} {s} {t} r q dimension before {c} {d} {i} {j} u v =
      let (ab, st, _) = reads_reordered r q in
      list_unique (stretch_told b t dimension) before c d i j (rw (sym ab, sym st) u) v

  -- the number of a map name
  pub number_reordered : {lengths : List ℕ} {d i a b : ℕ} → NameNumber x lengths d i a → NameNumber y lengths d i b → a ≡ b
  number_reordered {lengths} {d} {i} r q = answers_reordered (λ size. name_refusal lengths size d i) (name_unseeing lengths d i)
      (λ size. name_refusal_reordered o lengths d i size) h k m n r.asked q.asked

  -- the keys of a label table: number, count and list
  pub keys_reordered : {lengths : List ℕ} {d i : ℕ} {keys s t : List ℤ} {a b c g : ℕ}
      → Keys x lengths d i keys a c s → Keys y lengths d i keys b g t → (a ≡ b) × (c ≡ g) × (s ≡ t)
  unfolding keys_count keys_afterwards
  keys_reordered {lengths} {d} {i} {keys} r q = (
    answers_reordered (λ size. keys_refusal lengths size d i (length keys)) (keys_unseeing lengths d i (length keys))
        (λ size. keys_refusal_reordered o lengths d i (length keys) size) h k m n r.numbered q.numbered,
    answers_reordered (λ size. keys_count lengths size d i (length keys)) (count_unseeing lengths d i (length keys))
        (λ size. ap length (keys_given_reordered o lengths d i (length keys) size)) h k m n r.counted q.counted,
    answers_reordered (keys_afterwards lengths d i keys) (after_unseeing lengths d i keys)
        (λ size. ap (λ l. overwritten l keys) (keys_given_reordered o lengths d i (length keys) size)) h k m n r.filled q.filled,
  )

  -- the number of a label's name
  pub label_number_reordered : {lengths : List ℕ} {d i : ℕ} {key : ℤ} {a b : ℕ}
      → LabelNumber x lengths d i key a → LabelNumber y lengths d i key b → a ≡ b
  label_number_reordered {lengths} {d} {i} {key} r q = answers_reordered (λ size. label_refusal lengths size d i key)
      (label_unseeing lengths d i key) (λ size. label_refusal_reordered o lengths d i key size) h k m n r.asked q.asked

-- ---- THE PARTS of map names and label names, which are the caller's own bytes: here the elements that are kept keep the bytes between
-- their tags too.

module _ {e f : Element} (o : ModelsReordered e f) {x y : List ℕ} (h : Writes e x) (k : Writes f y)
    (m : length x ≤ 16777216) (n : length y ≤ 16777216) where
  pub part_reordered : {lengths : List ℕ} {d i : ℕ} {s t : List ℕ} → NamePart x lengths d i s → NamePart y lengths d i t → s ≡ t
  unfolding name_part
  part_reordered {lengths} {d} {i} r q =
      answers_of r.asked h
      ∙ name_part_reordered o lengths d i (length x)
      ∙ ap (λ a. part_by a d i (Some f)) ((name_unseeing lengths d i).size (length x) (length y) m n f)
      ∙ sym (answers_of q.asked k)

  pub label_text_reordered : {lengths : List ℕ} {d i : ℕ} {key : ℤ} {s t : List ℕ}
      → LabelPart x lengths d i key s → LabelPart y lengths d i key t → s ≡ t
  unfolding label_part
  label_text_reordered {lengths} {d} {i} {key} r q =
      answers_of r.asked h
      ∙ label_part_reordered o lengths d i key (length x)
      ∙ ap (λ a. label_by a d i key (Some f)) ((label_unseeing lengths d i key).size (length x) (length y) m n f)
      ∙ sym (answers_of q.asked k)

-- ---- EVERY ORDER: for a text that passes 2 and 3 and each other order of its models, a text of as many bytes writes the document in that
-- order, and what `Reads` allows of the one it allows of the other.

pub every_order : {e f : Element} {x lengths records work : List ℕ} {a : Answer} {s v : List ℕ}
    → ModelsReordered e f → Writes e x → length x ≤ 16777216 → Reads x lengths records work a s v
    → (y : List ℕ) × WritesDocument (erased f) y × (length y ≡ length x) × Reads y lengths records work a s v
every_order {e} {f} {x} {lengths} {records} {work} {a} {s} {v} o h m r =
    let w = order_written o h in
    let y = w.other in
    let k : WritesDocument (erased f) y = record { root = w.root; writes = w.writes; same = w.alike } in
    let n : length y ≤ 16777216 = rw w.long m in
    let q = reading y lengths records work in
    let (ab, st, vw) = reads_reordered o (record { root = e; writes = h; same = refl }) k m n r q in
    (y, k, w.long, rw (ab, st, vw) q)
