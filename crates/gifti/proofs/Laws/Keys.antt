-- GIFTI KEYS: one answer for every input, the same for two texts of one document, and there is one; the number given is that of the first
-- row that applies.
use Rattle.std.specs.Prelude.{◌≡◌, List, ℕ, ◌≤◌, ℤ, length}
use Rattle.std.proofs.Common.{sym, subst}
use Rattle.lists.specs.Refusals.{FirstOf}
use Rattle.lists.proofs.Laws.Refusals.{refusal_first}
use Rattle.grammar.specs.Parser.{parse}
use Rattle.grammar.specs.Erased.{Node, WritesDocument}
use Rattle.cifti.specs.Labels.{overwritten}
use Rattle.cifti.proofs.Laws.Text.{answers_by, answers_unique, answers_same}
use Rattle.gifti.specs.Conditions.{gifti_refusals, gifti_refusal}
use Rattle.gifti.specs.Keys.{keys_given, keys_count, keys_afterwards, KeysOf}
use Rattle.gifti.proofs.Laws.Unseen.{refusal_unseeing, count_unseeing, after_unseeing}

-- ---- UNIQUE.

pub keys_unique : {text : List ℕ} {i : ℕ} {keys s t : List ℤ} {m n c b : ℕ} → KeysOf text i keys m c s → KeysOf text i keys n b t
    → (m ≡ n) × (c ≡ b) × (s ≡ t)
keys_unique r q = (
  answers_unique r.numbered q.numbered,
  answers_unique r.counted q.counted,
  answers_unique r.filled q.filled,
)

-- ---- TWO TEXTS OF ONE DOCUMENT, neither too long, get the same number, count and keys.

pub same_keys : {d : Node} {x y : List ℕ} {i : ℕ} {keys s t : List ℤ} {m n a b : ℕ} → WritesDocument d x → WritesDocument d y
    → length x ≤ 16777216 → length y ≤ 16777216 → KeysOf x i keys m a s → KeysOf y i keys n b t → (m ≡ n) × (a ≡ b) × (s ≡ t)
same_keys {i = i} {keys} h k u v r q = (
  answers_same (λ size. gifti_refusal size i (length keys)) (refusal_unseeing i (length keys)) h k u v r.numbered q.numbered,
  answers_same (λ size. keys_count size i (length keys)) (count_unseeing i (length keys)) h k u v r.counted q.counted,
  answers_same (keys_afterwards i keys) (after_unseeing i keys) h k u v r.filled q.filled,
)

-- ---- THERE IS AN ANSWER: the parser finds the document, and the rest computes.

unfoldable pub number_of : (text : List ℕ) (array room : ℕ) → ℕ
number_of text i room = gifti_refusal (length text) i room (parse text)

unfoldable pub keys_told : (text : List ℕ) (array room : ℕ) → List ℤ
keys_told text i room = keys_given (length text) i room (parse text)

pub keys_by_lem : (text : List ℕ) (i : ℕ) (keys : List ℤ) (number count : ℕ) (after : List ℤ) → number ≡ number_of text i (length keys)
    → count ≡ length (keys_told text i (length keys)) → after ≡ overwritten (keys_told text i (length keys)) keys
    → KeysOf text i keys number count after
unfolding number_of keys_told keys_count keys_afterwards
keys_by_lem text i keys number count after h k j =
    record { numbered = answers_by text _ h; counted = answers_by text _ k; filled = answers_by text _ j }

-- ---- THE ORDER: the number given is that of a row that applies, and no row before it does; or none applies.

pub keys_first : {text : List ℕ} {i : ℕ} {keys : List ℤ} {number count : ℕ} {after : List ℤ} (r : KeysOf text i keys number count after)
    → FirstOf (gifti_refusals (length text) i (length keys) r.numbered.document) number
unfolding gifti_refusal
keys_first {text} {i} {keys} r =
    let rows = gifti_refusals (length text) i (length keys) r.numbered.document in
    subst (FirstOf rows) (sym r.numbered.answered) (refusal_first rows)

unfoldable pub keys_model : Unit {0}
unfolding number_of keys_told
keys_model = tt
