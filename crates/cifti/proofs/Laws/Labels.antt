-- LABELS: one answer for every input, the same for two texts of one document, and there is one; 24 and 25 in statements about all places.
use Rattle.std.specs.Prelude.{◌≡◌, ◌↔◌, ℕ, ◌≤◌, ◌<◌, ℤ, pos, length, get_or, Option}
use Rattle.std.proofs.Common.{sym, ap, ◌∙◌, ltb-true, lt-ltb}
use mathlib.Core.List.{List, [], ◌∷◌, ◌++◌, append_assoc}
use Rattle.std.proofs.Math.Bool.{true}
use Rattle.lists.specs.Lists.{any, two_of}
use Rattle.lists.proofs.Laws.Quantifiers.{any_iff}
use Rattle.lists.specs.Refusals.{◌when◌, first}
use Rattle.lists.proofs.Laws.Refusals.{first_kept}
use Rattle.grammar.specs.Document.{Element}
use Rattle.grammar.specs.Parser.{parse}
use Rattle.grammar.specs.Erased.{Node, WritesDocument}
use Rattle.numbers.specs.Numbers.{same_key}
use Rattle.numbers.proofs.Laws.Keys.{same_key_lem, key_same}
use Rattle.cifti.specs.Maps.{Map, labels_maps}
use Rattle.cifti.specs.Conditions.{conditions_of_header, conditions_of_labels, of_maps, listed_dimensions, key_twice, labels_twice}
use Rattle.cifti.specs.Labels.{no_table, labels_refusals, keys_refusal, keys_count, keys_given, keys_afterwards, label_refusal, label_part}
use Rattle.cifti.specs.Labels.{Keys, LabelNumber, LabelPart}
use Rattle.cifti.proofs.Laws.Text.{answers_by, answers_unique, answers_same}
use Rattle.cifti.proofs.Laws.Unseen.{keys_unseeing, count_unseeing, after_unseeing, label_unseeing}
use Rattle.cifti.proofs.Laws.Meaning.{AtTwo, two_iff}

-- ---- UNIQUE.

pub keys_unique : {text lengths : List ℕ} {d i : ℕ} {keys s t : List ℤ} {m n c b : ℕ} → Keys text lengths d i keys m c s
    → Keys text lengths d i keys n b t → (m ≡ n) × (c ≡ b) × (s ≡ t)
keys_unique r q = (
  answers_unique r.numbered q.numbered,
  answers_unique r.counted q.counted,
  answers_unique r.filled q.filled,
)

module _ {text lengths : List ℕ} {d i : ℕ} {k : ℤ} where
  pub label_number_unique : {m n : ℕ} → LabelNumber text lengths d i k m → LabelNumber text lengths d i k n → m ≡ n
  label_number_unique r q = answers_unique r.asked q.asked

  pub label_part_unique : {s t : List ℕ} → LabelPart text lengths d i k s → LabelPart text lengths d i k t → s ≡ t
  label_part_unique r q = answers_unique r.asked q.asked

-- ---- 24 AND 25 ARE TOLD BEFORE 18: what refuses a text before a table is asked for refuses it whatever table is asked for.

pub before_table : (lengths : List ℕ) (size d i : ℕ) (e : Option Element) (n : ℕ) → (n ≡ 0 → ⊥)
    → first (conditions_of_header lengths size e ++ conditions_of_labels e) ≡ n → first (labels_refusals lengths size d i e) ≡ n
unfolding labels_refusals
before_table lengths size d i e n z h =
    ap first (sym (append_assoc (conditions_of_header lengths size e) (conditions_of_labels e) (18 when of_maps (no_table d i) e ∷ [])))
    ∙ first_kept (conditions_of_header lengths size e ++ conditions_of_labels e) (18 when of_maps (no_table d i) e ∷ []) n z h

-- ---- TWO TEXTS OF ONE DOCUMENT, neither too long, get the same number, count and keys.

module _ {c : Node} {x y lengths : List ℕ} {d i : ℕ} (h : WritesDocument c x) (k : WritesDocument c y) (u : length x ≤ 16777216)
    (v : length y ≤ 16777216) where
  pub same_keys : {keys s t : List ℤ} {m n a b : ℕ} → Keys x lengths d i keys m a s → Keys y lengths d i keys n b t
      → (m ≡ n) × (a ≡ b) × (s ≡ t)
  same_keys {keys} r q = (
    answers_same (λ size. keys_refusal lengths size d i (length keys)) (keys_unseeing lengths d i (length keys)) h k u v r.numbered
        q.numbered,
    answers_same (λ size. keys_count lengths size d i (length keys)) (count_unseeing lengths d i (length keys)) h k u v r.counted
        q.counted,
    answers_same (keys_afterwards lengths d i keys) (after_unseeing lengths d i keys) h k u v r.filled q.filled,
  )

  pub same_label_number : {key : ℤ} {m n : ℕ} → LabelNumber x lengths d i key m → LabelNumber y lengths d i key n → m ≡ n
  same_label_number {key} r q =
      answers_same (λ size. label_refusal lengths size d i key) (label_unseeing lengths d i key) h k u v r.asked q.asked

-- ---- THERE IS AN ANSWER: the parser finds the document, and the rest computes.

unfoldable pub keys_number_of : (text lengths : List ℕ) (dimension index room : ℕ) → ℕ
keys_number_of text lengths d i room = keys_refusal lengths (length text) d i room (parse text)

unfoldable pub keys_told : (text lengths : List ℕ) (dimension index room : ℕ) → List ℤ
keys_told text lengths d i room = keys_given lengths (length text) d i room (parse text)

unfoldable pub keys_after_of : (text lengths : List ℕ) (dimension index : ℕ) → List ℤ → List ℤ
keys_after_of text lengths d i keys = keys_afterwards lengths d i keys (length text) (parse text)

unfoldable pub label_number_of : (text lengths : List ℕ) (dimension index : ℕ) → ℤ → ℕ
label_number_of text lengths d i k = label_refusal lengths (length text) d i k (parse text)

unfoldable pub label_part_of : (text lengths : List ℕ) (dimension index : ℕ) → ℤ → List ℕ
label_part_of text lengths d i k = label_part lengths (length text) d i k (parse text)

pub keys_by_lem : (text lengths : List ℕ) (d i : ℕ) (keys : List ℤ) (number count : ℕ) (after : List ℤ)
    → number ≡ keys_number_of text lengths d i (length keys) → count ≡ length (keys_told text lengths d i (length keys))
    → after ≡ keys_after_of text lengths d i keys → Keys text lengths d i keys number count after
unfolding keys_number_of keys_told keys_after_of keys_count
keys_by_lem text lengths d i keys number count after h c a =
    record { numbered = answers_by text _ h; counted = answers_by text _ c; filled = answers_by text _ a }

pub label_number_by : (text lengths : List ℕ) (d i : ℕ) (k : ℤ) (n : ℕ) → n ≡ label_number_of text lengths d i k
    → LabelNumber text lengths d i k n
unfolding label_number_of
label_number_by text lengths d i k n h = record { asked = answers_by text _ h }

pub label_part_by : (text lengths : List ℕ) (d i : ℕ) (k : ℤ) (s : List ℕ) → s ≡ label_part_of text lengths d i k
    → LabelPart text lengths d i k s
unfolding label_part_of
label_part_by text lengths d i k s h = record { asked = answers_by text _ h }

-- ---- CONDITION 24: in some table of some labels map, two places have one key.

same_iff : (a b : ℤ) → (same_key a b ≡ true) ↔ (a ≡ b)
same_iff a b = (same_key_lem a b, key_same)

module _ (m₀ : Map) where
  pub record KeyTwice (l : List Map) : Type 0 where
    pub map : ℕ
    pub is_map_lem : map < length (labels_maps l)
    pub table : ℕ
    pub is_table : table < length (get_or (labels_maps l) map m₀).tables
    pub twice : AtTwo (pos 0) (get_or (get_or (labels_maps l) map m₀).tables table [])

  pub key_twice_iff : (l : List Map) → (key_twice l ≡ true) ↔ KeyTwice l
  unfolding key_twice
  key_twice_iff l = (to, from)
    where
      to : any (λ m. any (two_of same_key) m.tables) (labels_maps l) ≡ true → KeyTwice l
      to h =
          let (i, u, v) = (any_iff m₀ (λ m. any (two_of same_key) m.tables) (labels_maps l)).0 h in
          let (j, s, t) = (any_iff [] (two_of same_key) (get_or (labels_maps l) i m₀).tables).0 v in
          record { map = i; is_map_lem = u; table = j; is_table = s; twice = (two_iff (pos 0) same_key same_iff _).0 t }

      from : KeyTwice l → any (λ m. any (two_of same_key) m.tables) (labels_maps l) ≡ true
      from k = (any_iff m₀ (λ m. any (two_of same_key) m.tables) (labels_maps l)).1 (
        k.map,
        k.is_map_lem,
        (any_iff [] (two_of same_key) (get_or (labels_maps l) k.map m₀).tables).1
            (k.table, k.is_table, (two_iff (pos 0) same_key same_iff _).1 k.twice),
      )

-- ---- CONDITION 25: there are two places in the dimension lists of the labels maps.

pub labels_twice_iff : (l : List Map) → (labels_twice l ≡ true) ↔ (1 < length (listed_dimensions (labels_maps l)))
unfolding labels_twice
labels_twice_iff l = (ltb-true 1 (length (listed_dimensions (labels_maps l))), lt-ltb 1 (length (listed_dimensions (labels_maps l))))

unfoldable pub labels_model : Unit {0}
unfolding keys_number_of keys_told keys_after_of label_number_of label_part_of
labels_model = tt
