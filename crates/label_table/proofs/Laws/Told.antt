-- WHERE AN ELEMENT STANDS whose keys are in form, the table at its place is its table of labels.
use Rattle.std.specs.Prelude.{◌≡◌, refl, List, [], ◌∷◌, ◌++◌, Bool, true, false, cond, ℕ, ◌≤◌, ℤ, length, drop}
use Rattle.std.proofs.Common.{ap, arith}
use Rattle.lists.specs.Lists.{all, those, two_of, each}
use Rattle.lists.proofs.Laws.Booleans.{and_left, and_right}
use Rattle.grammar.specs.Bytes.{ascii}
use Rattle.grammar.specs.Document.{Element}
use Rattle.grammar.specs.Look.{is, name_of, attr, children}
use Rattle.nodes.specs.Places.{Stands, the}
use Rattle.nodes.proofs.Laws.Found.{attr_law}
use Rattle.numbers.specs.Numbers.{key, same_key}
use Rattle.numbers.specs.Answers.{key_in}
use Rattle.inside.specs.Way.{nth}
use Rattle.inside.specs.Walked.{nth_place}
use Rattle.inside.proofs.Laws.Walked.{Stood, none, one, children_stood, Agrees, not_there, stands_there}
use Rattle.inside.specs.Treads.{called}
use Rattle.inside.proofs.Laws.Treads.{called_alike}
use Rattle.cifti.specs.LabelTable.{labels_of, label_key, keys_right, table_keys, key_twice_in, labels_with}
use Rattle.label_table.specs.Labels.{labels_from, labels, key_or_zero, key_here, table_keys_at, keys_written, has_key, label_with, twice_at}

-- the places that pass, and the elements that pass, where the tests agree
passed : (t : ℕ → Bool) (p : Element → Bool) {text ks : List ℕ} {es : List Element} → Stood text ks es
    → ((k : ℕ) → Stands text k → t k ≡ p (the text k)) → Stood text (those t ks) (those p es)
unfolding those
passed t p none h = none
passed t p {text} (one {k} {ks} {es} st s) h = rw (h k st) (by (p (the text k)) (passed t p s h))
  where
    by : (b : Bool) → Stood text (those t ks) (those p es)
        → Stood text (cond b (k ∷ those t ks) (those t ks)) (cond b (the text k ∷ those p es) (those p es))
    by true r = one st r
    by false r = r

pub labels_stood : {text : List ℕ} {at : ℕ} → Stands text at → Stood text (labels text at) (labels_of (the text at))
unfolding labels labels_from labels_of children
labels_stood {text} st =
    passed (called text (ascii "Label")) (λ d. is "Label" (name_of d)) (children_stood st) (λ k h. called_alike text "Label" k h)

-- the key of a Label that is in form
key_told : {text : List ℕ} {k : ℕ} → Stands text k → key (attr "Key" (the text k)) ≡ true → key_here text k ≡ label_key (the text k)
unfolding key_here label_key key_or_zero key_in
key_told st f = rw (attr_law "Key" st, f) refl

each_told : {text ks : List ℕ} {es : List Element} → Stood text ks es → all (λ l. key (attr "Key" l)) es ≡ true
    → each (key_here text) ks ≡ each label_key es
unfolding each all
each_told none f = refl
each_told {text} (one {k} {ks} {es} st s) f =
    let a = and_left (key (attr "Key" (the text k))) _ f in
    let b = and_right (key (attr "Key" (the text k))) _ f in
    rw (key_told st a, each_told s b) refl

-- THE KEYS of the table at the place are those of the table
pub keys_told_lem : {text : List ℕ} {at : ℕ} → Stands text at → keys_right (the text at) ≡ true → table_keys_at text at ≡ table_keys (the text at)
unfolding table_keys_at keys_right table_keys
keys_told_lem st f = each_told (labels_stood st) f

-- written over a list that has room for them
pub filled_told : (ks s : List ℤ) → length ks ≤ length s → keys_written ks s ≡ ks ++ drop (length ks) s
unfolding keys_written
filled_told [] s h = refl
filled_told (k ∷ ks) [] h = absurd (omega arith)
filled_told (k ∷ ks) (x ∷ s) h = ap (λ l. k ∷ l) (filled_told ks s (omega arith))

-- THE LABEL of a key
with_told : (key₁ : ℤ) {text ks : List ℕ} {es : List Element} → Stood text ks es → all (λ l. key (attr "Key" l)) es ≡ true
    → Agrees text (nth_place 0 (those (has_key key₁ text) ks)) (nth 0 (those (λ l. same_key key₁ (label_key l)) es))
unfolding those all nth_place nth has_key
with_told key₁ none f = not_there
with_told key₁ {text} (one {k} {ks} {es} st s) f =
    let a = and_left (key (attr "Key" (the text k))) _ f in
    let b = and_right (key (attr "Key" (the text k))) _ f in
    rw (key_told st a) (by (same_key key₁ (label_key (the text k))) (with_told key₁ s b))
  where
    by : (b : Bool) → Agrees text (nth_place 0 (those (has_key key₁ text) ks)) (nth 0 (those (λ l. same_key key₁ (label_key l)) es))
        → Agrees text (nth_place 0 (cond b (k ∷ those (has_key key₁ text) ks) (those (has_key key₁ text) ks)))
        (nth 0 (cond b (the text k ∷ those (λ l. same_key key₁ (label_key l)) es) (those (λ l. same_key key₁ (label_key l)) es)))
    by true r = stands_there st
    by false r = r

pub label_told : (key₁ : ℤ) {text : List ℕ} {at : ℕ} → Stands text at → keys_right (the text at) ≡ true
    → Agrees text (label_with key₁ text at) (nth 0 (labels_with key₁ (the text at)))
unfolding label_with keys_right labels_with
label_told key₁ st f = with_told key₁ (labels_stood st) f

-- A KEY TWICE
pub twice_told : {text : List ℕ} {at : ℕ} → Stands text at → keys_right (the text at) ≡ true → twice_at text at ≡ key_twice_in (the text at)
unfolding twice_at key_twice_in
twice_told st f = ap (two_of same_key) (keys_told_lem st f)
