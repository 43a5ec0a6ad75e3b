-- The turns of the walks over the Labels of a table.
use Rattle.std.specs.Prelude.{◌≡◌, List, [], ◌∷◌, Bool, cond, ℤ, pos, set, Option, Some, None, ℕ}
use Rattle.std.proofs.Math.Path.{refl, sym, ap}
use Rattle.std.proofs.Common.{◌∙◌, SFits, to_z, of_z, rules}
use Rattle.std.proofs.Math.Bool.{true, false}
use Prim.Native.Nat.{ℕ, zero, suc, ◌+◌, ◌≤◌, ◌<◌}
use native.Mathlib.Omega.{arith}
use Rattle.std.proofs.Math.ListN.{length, length-set}
use mir.Syntax.{w32}
use mir.ValLaws.{to_z-of_z}
use Rattle.lists.specs.Lists.{all, those, each}
use Rattle.lists.proofs.Laws.Lists.{length_each, few_those}
use Rattle.grammar.specs.Bytes.{ascii}
use Rattle.nodes.specs.Names.{named}
use Rattle.nodes.specs.Attributes.{place}
use Rattle.nodes.specs.Values.{value_there}
use Rattle.nodes.proofs.Laws.Found.{value_found, value_missing}
use Rattle.nodes.specs.Children.{first_child, next}
use Rattle.numbers.specs.Numbers.{key, unsigned, digits}
use Rattle.numbers.specs.Answers.{key_in}
use Rattle.numbers.proofs.Laws.Keys.{same_key_lem, key_same}
use Rattle.inside.specs.Walked.{places_within, places_from, nth_place}
use Rattle.inside.specs.Treads.{called}
use Rattle.inside.proofs.Laws.Treads.{ahead, next_ahead, places_done, places_child, called_is}
use Rattle.label_table.specs.Labels.{labels_from, labels, first_or_done, label_from, first_label, next_label, key_or_zero, key_here}
use Rattle.label_table.specs.Labels.{table_keys_at, has_key, label_with, keys_written}
use Rattle.label_table.specs.Walks.{row}

-- ---- From a child to the first Label.

pub record Searching (text : List ℕ) (from kid : Option ℕ) : Type 0 where
  pub same_labels : labels_from text from ≡ labels_from text kid

pub searching_start : (text : List ℕ) (from : Option ℕ) → Searching text from from
searching_start text from = record { same_labels = refl }

labels_done : (text : List ℕ) → labels_from text None ≡ []
unfolding labels_from those
labels_done text = rw (places_done text)

labels_child : (text : List ℕ) (k : ℕ)
    → labels_from text (Some k) ≡ cond (called text (ascii "Label") k) (k ∷ labels_from text (next text k)) (labels_from text (next text k))
unfolding labels_from those
labels_child text k = rw (places_child text k)

module _ {text : List ℕ} {from kid : Option ℕ} (go : Searching text from kid) where
  pub searching_done : kid ≡ None → None ≡ label_from text from
  unfolding label_from first_or_done
  searching_done e = sym (ap first_or_done (go.same_labels ∙ ap (labels_from text) e ∙ labels_done text))

  module _ {k : ℕ} (is_child : kid ≡ Some k) where
    pub searching_less : {kid₁ : Option ℕ} → kid₁ ≡ next text k → ahead text kid₁ < ahead text kid
    searching_less e = rw (e, is_child) (next_ahead text k)

    module _ {b : Bool} (q : b ≡ named text k (ascii "Label")) where
      splits : labels_from text from ≡ cond b (k ∷ labels_from text (next text k)) (labels_from text (next text k))
      splits = go.same_labels ∙ ap (labels_from text) is_child ∙ labels_child text k
          ∙ ap (λ t. cond t (k ∷ labels_from text (next text k)) (labels_from text (next text k))) (sym (called_is text (ascii "Label") k q))

      pub searching_found : b ≡ true → Some k ≡ label_from text from
      unfolding label_from first_or_done
      searching_found t = sym (ap first_or_done splits ∙ rw t refl)

      pub searching_on : b ≡ false → {kid₁ : Option ℕ} → kid₁ ≡ next text k → Searching text from kid₁
      searching_on f e = record { same_labels = splits ∙ rw (f, e) refl }

pub ruleset searching = (searching_start, searching_done, searching_less, searching_found, searching_on, rules)

pub is_first : (text : List ℕ) (at : ℕ) {kid r : Option ℕ} → kid ≡ first_child text at → r ≡ label_from text kid → r ≡ first_label text at
unfolding first_label
is_first text at e h = h ∙ ap (label_from text) e

pub is_next : (text : List ℕ) (k : ℕ) {kid r : Option ℕ} → kid ≡ next text k → r ≡ label_from text kid → r ≡ next_label text k
unfolding next_label
is_next text k e h = h ∙ ap (label_from text) e

pub ruleset stepping = (is_first, is_next, rules)

-- ---- The key of a Label.

module _ (text : List ℕ) (at : ℕ) {f : Option ℕ} (e : f ≡ place text at (ascii "Key")) where
  pub key_missing : f ≡ None → pos 0 ≡ key_here text at
  unfolding key_here key_or_zero key_in key unsigned digits all
  key_missing h = sym (ap (λ w. key_or_zero (key_in w)) (value_missing text at (ascii "Key") e h))

  module _ {v : ℕ} (h : f ≡ Some v) {r : Option ℤ} (q : r ≡ key_in (value_there text v)) where
    pub key_there : {k : ℤ} → r ≡ Some k → k ≡ key_here text at
    unfolding key_here key_or_zero
    key_there g = sym (ap (λ w. key_or_zero (key_in w)) (value_found text at (ascii "Key") e h) ∙ ap key_or_zero (sym q ∙ g))

    pub key_none : r ≡ None → pos 0 ≡ key_here text at
    unfolding key_here key_or_zero
    key_none g = sym (ap (λ w. key_or_zero (key_in w)) (value_found text at (ascii "Key") e h) ∙ ap key_or_zero (sym q ∙ g))

pub ruleset keying = (key_missing, key_there, key_none, rules)

-- ---- From Label to Label: what is still to come.

row_none : (text : List ℕ) (kid : Option ℕ) → ahead text kid ≤ 0 → row text (label_from text kid) ≡ labels_from text kid
unfolding label_from first_or_done row ahead
row_none text None h = rw (labels_done text)
row_none text (Some k) h = absurd (omega arith)

row_within : (m : ℕ) (text : List ℕ) (kid : Option ℕ) → ahead text kid ≤ m → row text (label_from text kid) ≡ labels_from text kid
unfolding label_from first_or_done row ahead
row_within zero text kid h = row_none text kid h
row_within (suc m) text None h = rw (labels_done text)
row_within (suc m) text (Some k) h =
    go (called text (ascii "Label") k) refl (row_within m text (next text k) (let a = next_ahead text k in omega arith))
  where
    go : (b : Bool) → called text (ascii "Label") k ≡ b
        → row text (first_or_done (labels_from text (next text k))) ≡ labels_from text (next text k)
        → row text (first_or_done (labels_from text (Some k))) ≡ labels_from text (Some k)
    go true e on = let z : labels_from text (Some k) ≡ k ∷ labels_from text (next text k) = labels_child text k ∙ rw e refl in rw z refl
    go false e on = let z : labels_from text (Some k) ≡ labels_from text (next text k) = labels_child text k ∙ rw e refl in rw z on

row_is : (text : List ℕ) (kid : Option ℕ) → row text (label_from text kid) ≡ labels_from text kid
row_is text kid = row_within (ahead text kid) text kid (omega arith)

pub row_first : (text : List ℕ) (at : ℕ) {kid : Option ℕ} → kid ≡ first_label text at → row text kid ≡ labels text at
unfolding first_label labels
row_first text at e = ap (row text) e ∙ row_is text (first_child text at)

pub row_done : (text : List ℕ) {kid : Option ℕ} → kid ≡ None → row text kid ≡ []
unfolding row
row_done text e = ap (row text) e

pub row_next : (text : List ℕ) {kid kid₁ : Option ℕ} {k : ℕ} → kid ≡ Some k → kid₁ ≡ next_label text k → row text kid ≡ k ∷ row text kid₁
unfolding row next_label
row_next text {k = k} e f = ap (row text) e ∙ ap (λ l. k ∷ l) (sym (ap (row text) f ∙ row_is text (next text k)))

-- there are no more of them than bytes, and one
few_within : (m : ℕ) (text : List ℕ) (kid : Option ℕ) → length (places_within m text kid) ≤ m
unfolding places_within
few_within zero text kid = omega arith
few_within (suc m) text None = omega arith
few_within (suc m) text (Some k) = let h = few_within m text (next text k) in omega arith

pub few_labels : (text : List ℕ) (at : ℕ) → length (labels text at) ≤ suc (length text)
unfolding labels labels_from places_from
few_labels text at =
    let a = few_those (called text (ascii "Label")) (places_within (suc (length text)) text (first_child text at)) in
    let b = few_within (suc (length text)) text (first_child text at) in
    omega arith

-- ---- Counting them.

pub record Counting (text : List ℕ) (at n : ℕ) (kid : Option ℕ) : Type 0 where
  pub counted : n + length (row text kid) ≡ length (labels text at)

pub counting_start : (text : List ℕ) (at : ℕ) {kid : Option ℕ} → kid ≡ first_label text at → Counting text at 0 kid
counting_start text at {kid} e = let z : length (row text kid) ≡ length (labels text at) = ap length (row_first text at e) in
    record { counted = omega arith }

module _ {text : List ℕ} {at n : ℕ} {kid : Option ℕ} (go : Counting text at n kid) where
  pub counting_done : kid ≡ None → n ≡ length (table_keys_at text at)
  unfolding table_keys_at
  counting_done e =
      let z : length (row text kid) ≡ 0 = ap length (row_done text e) in
      let c = go.counted in
      let k : length (each (key_here text) (labels text at)) ≡ length (labels text at) = length_each (key_here text) (labels text at) in
      omega arith

  module _ {k : ℕ} (is_child : kid ≡ Some k) {kid₁ : Option ℕ} (e : kid₁ ≡ next_label text k) where
    one_less : length (row text kid) ≡ suc (length (row text kid₁))
    one_less = ap length (row_next text is_child e)

    pub counting_less : length (row text kid₁) < length (row text kid)
    counting_less = let z = one_less in omega arith

    pub counting_room : n < suc (length text)
    counting_room = let z = one_less in let c = go.counted in let f = few_labels text at in omega arith

    pub counting_more : Counting text at (n + 1) kid₁
    counting_more = let z = one_less in let c = go.counted in record { counted = omega arith }

pub ruleset counting = (counting_start, counting_done, counting_less, counting_more, rules)

-- ---- The first with a key, by its bits.

pub record Finding (bits : ℕ) (text : List ℕ) (at : ℕ) (kid : Option ℕ) : Type 0 where
  pub found_in : label_with (to_z w32 bits) text at ≡ nth_place 0 (those (has_key (to_z w32 bits) text) (row text kid))

pub finding_start : (bits : ℕ) (text : List ℕ) (at : ℕ) {kid : Option ℕ} → kid ≡ first_label text at → Finding bits text at kid
unfolding label_with
finding_start bits text at e =
    record { found_in = ap (λ l. nth_place 0 (those (has_key (to_z w32 bits) text) l)) (sym (row_first text at e)) }

module _ {key : ℤ} (fk : SFits w32 key) {text : List ℕ} {at : ℕ} {kid : Option ℕ} (go : Finding (of_z w32 key) text at kid) where
  found_so : label_with key text at ≡ nth_place 0 (those (has_key key text) (row text kid))
  found_so = let z = to_z-of_z w32 key fk in rw z at go.found_in

  pub finding_done : kid ≡ None → None ≡ label_with key text at
  unfolding those nth_place
  finding_done e = sym (found_so ∙ ap (λ l. nth_place 0 (those (has_key key text) l)) (row_done text e))

  module _ {k : ℕ} (is_child : kid ≡ Some k) {kid₁ : Option ℕ} (e : kid₁ ≡ next_label text k) where
    pub finding_less : length (row text kid₁) < length (row text kid)
    finding_less = let z : length (row text kid) ≡ suc (length (row text kid₁)) = ap length (row_next text is_child e) in omega arith

    split : label_with key text at ≡ nth_place 0 (cond (has_key key text k) (k ∷ those (has_key key text) (row text kid₁))
        (those (has_key key text) (row text kid₁)))
    unfolding those
    split = found_so ∙ ap (λ l. nth_place 0 (those (has_key key text) l)) (row_next text is_child e)

    module _ {v : ℤ} (q : v ≡ key_here text k) (fv : SFits w32 v) where
      pub finding_found : of_z w32 v ≡ of_z w32 key → Some k ≡ label_with key text at
      unfolding nth_place has_key
      finding_found h =
          let z : key ≡ key_here text k = sym (to_z-of_z w32 key fk) ∙ ap (to_z w32) (sym h) ∙ to_z-of_z w32 v fv ∙ q in
          let t : has_key key text k ≡ true = key_same z in
          sym (split ∙ rw t refl)

      pub finding_more : (of_z w32 v ≡ of_z w32 key → ⊥) → Finding (of_z w32 key) text at kid₁
      unfolding has_key
      finding_more h = told (has_key key text k) refl
        where
          told : (b : Bool) → has_key key text k ≡ b → Finding (of_z w32 key) text at kid₁
          told true t = absurd (h (ap (of_z w32) (q ∙ sym (same_key_lem key (key_here text k) t))))
          told false t = let z = to_z-of_z w32 key fk in record { found_in = rw z (split ∙ rw t refl) }

pub ruleset finding = (finding_start, finding_done, finding_less, finding_found, finding_more, rules)

-- ---- Writing the keys.

-- the same from a place on
unfoldable pub filled_from : ℕ → List ℤ → List ℤ → List ℤ
filled_from zero ks s = keys_written ks s
filled_from (suc n) ks [] = []
filled_from (suc n) ks (x ∷ s) = x ∷ filled_from n ks s

pub from_none : (n : ℕ) (s : List ℤ) → filled_from n [] s ≡ s
unfolding filled_from keys_written
from_none zero s = refl
from_none (suc n) [] = refl
from_none (suc n) (x ∷ s) = ap (λ l. x ∷ l) (from_none n s)

pub from_full : (n : ℕ) (ks s : List ℤ) → length s ≤ n → filled_from n ks s ≡ s
unfolding filled_from keys_written
from_full zero [] [] h = refl
from_full zero (k ∷ ks) [] h = refl
from_full zero ks (x ∷ s) h = absurd (omega arith)
from_full (suc n) ks [] h = refl
from_full (suc n) ks (x ∷ s) h = ap (λ l. x ∷ l) (from_full n ks s (omega arith))

pub from_more : (n : ℕ) (a : ℤ) (ks s : List ℤ) → n < length s → filled_from n (a ∷ ks) s ≡ filled_from (suc n) ks (set s n a)
unfolding filled_from keys_written
from_more zero a ks [] h = absurd (omega arith)
from_more zero a ks (x ∷ s) h = refl
from_more (suc n) a ks [] h = absurd (omega arith)
from_more (suc n) a ks (x ∷ s) h = ap (λ l. x ∷ l) (from_more n a ks s (omega arith))

pub record Writing (text : List ℕ) (at : ℕ) (s₀ s : List ℤ) (n : ℕ) (kid : Option ℕ) : Type 0 where
  pub so_far : keys_written (table_keys_at text at) s₀ ≡ filled_from n (each (key_here text) (row text kid)) s
  pub long : length s ≡ length s₀

pub writing_start : (text : List ℕ) (at : ℕ) (s : List ℤ) {kid : Option ℕ} → kid ≡ first_label text at → Writing text at s s 0 kid
unfolding table_keys_at filled_from
writing_start text at s e =
    record { so_far = ap (λ l. keys_written (each (key_here text) l) s) (sym (row_first text at e)); long = refl }

module _ {text : List ℕ} {at : ℕ} {s₀ s : List ℤ} {n : ℕ} {kid : Option ℕ} (go : Writing text at s₀ s n kid) where
  pub writing_done : kid ≡ None → s ≡ keys_written (table_keys_at text at) s₀
  unfolding each
  writing_done e = sym (go.so_far ∙ ap (λ l. filled_from n (each (key_here text) l) s) (row_done text e) ∙ from_none n s)

  pub writing_full : length s ≤ n → s ≡ keys_written (table_keys_at text at) s₀
  writing_full h = sym (go.so_far ∙ from_full n (each (key_here text) (row text kid)) s h)

  module _ {k : ℕ} (is_child : kid ≡ Some k) {kid₁ : Option ℕ} (e : kid₁ ≡ next_label text k) where
    pub writing_less : length (row text kid₁) < length (row text kid)
    writing_less = let z : length (row text kid) ≡ suc (length (row text kid₁)) = ap length (row_next text is_child e) in omega arith

    pub writing_more : {v : ℤ} → v ≡ key_here text k → SFits w32 v → n < length s
        → Writing text at s₀ (set s n (to_z w32 (of_z w32 v))) (n + 1) kid₁
    unfolding each
    writing_more {v} q f h =
        let z : suc n ≡ n + 1 = omega arith in
        record {
          so_far = go.so_far ∙ ap (λ l. filled_from n (each (key_here text) l) s) (row_next text is_child e)
              ∙ from_more n (key_here text k) (each (key_here text) (row text kid₁)) s h
              ∙ ap (λ i. filled_from i (each (key_here text) (row text kid₁)) (set s n (key_here text k))) z
              ∙ ap (λ x. filled_from (n + 1) (each (key_here text) (row text kid₁)) (set s n x)) (sym (to_z-of_z w32 v f ∙ q));
          long = length-set s n (to_z w32 (of_z w32 v)) ∙ go.long;
        }

pub ruleset writing = (writing_start, writing_done, writing_full, writing_less, writing_more, rules)
