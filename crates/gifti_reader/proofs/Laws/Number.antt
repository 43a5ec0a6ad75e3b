-- The order of 9, 24, 18, 30 and 31; and every key has a Label exactly where as many are found as there are.
use Rattle.std.specs.Prelude.{◌≡◌, refl, Bool, false, List, [], ◌∷◌, ℕ, ◌≤◌, ◌<◌, ℤ, length, take, Option, Some, None}
use Rattle.std.proofs.Math.Path.{sym, ap}
use Rattle.std.proofs.Common.{◌∙◌, subst, append-nil, arith, rules, eq-eqb, ne_eqb, lt-ltb, le-ltb}
use Rattle.std.proofs.Math.Bool.{true, not}
use Rattle.lists.specs.Lists.{all, any, each, each_in, count}
use Rattle.lists.proofs.Laws.Lists.{all_append, length_each}
use Rattle.lists.proofs.Laws.Booleans.{and_left, and_right, or_false, refute}
use Rattle.lists.specs.Refusals.{◌when◌, first}
use Rattle.lists.proofs.Laws.Refusals.{first_row}
use Rattle.grammar.specs.Bytes.{ascii}
use Rattle.grammar.specs.Document.{Element}
use Rattle.grammar.specs.Look.{is, attr}
use Rattle.nodes.specs.Places.{Stands, the}
use Rattle.numbers.specs.Numbers.{in_keys}
use Rattle.inside.specs.Way.{nth}
use Rattle.inside.proofs.Laws.Walked.{Agrees}
use Rattle.inside.specs.Treads.{child_named}
use Rattle.maps.specs.Fields.{attribute_word, number_seen}
use Rattle.maps.proofs.Laws.Fields.{word_at, number_seen_lem}
use Rattle.cifti.specs.LabelTable.{keys_right, table_keys, key_twice_in}
use Rattle.label_table.specs.Labels.{table_keys_at, twice_at}
use Rattle.label_table.proofs.Laws.Told.{keys_told_lem, twice_told}
use Rattle.label_table.specs.Codes.{code_of, codes_at}
use Rattle.label_table.proofs.Laws.Codes.{twice_codes}
use Rattle.lists.specs.Reordered.{member}
use Rattle.known_keys.specs.Order.{ordered_from, in_order}
use Rattle.known_keys.specs.Known.{known_in}
use Rattle.lists.proofs.Laws.Lists.{all_counted, counted_all}
use Rattle.known_keys.proofs.Laws.Turns.{member_key}
use Rattle.gifti.specs.Arrays.{arrays_of, arrays_said, array_keys, label_tables, known_keys, keys_of_arrays}
use Rattle.gifti.specs.Conditions.{arrays_wrong, label_twice, no_array, length_wrong, is_known, some_unknown, key_unknown}
use Rattle.gifti_opening.specs.Passed.{FileHere}
use Rattle.known_keys.specs.Known.{codes_of}
use Rattle.gifti_arrays.specs.Ready.{ArraysAsked, TableHere}
use Rattle.gifti_arrays.specs.Arrays.{keys_of_all, ArraysTold}
use Rattle.gifti_reader.specs.Number.{rows_of_arrays, number_twice, number_once, TableAt, TableOnce}
use Rattle.gifti_arrays.proofs.Laws.Array.{named_agrees, found_there, found_nowhere}
use Rattle.gifti_arrays.specs.declared.arrays.Told.{Told}

-- ---- The table.

module _ {text : List ℕ} {root : ℕ} (h : FileHere text root) where
  module _ {f : Option ℕ} (e : f ≡ child_named (ascii "LabelTable") 0 text root) where
    reached : Agrees text f (Some h.table)
    unfolding label_tables nth
    reached = rw e (subst (λ (o : Option Element). Agrees text (child_named (ascii "LabelTable") 0 text root) o)
        (ap (nth 0) h.one_table) (named_agrees "LabelTable" 0 h.arrays.stands))

    pub table_found : {k : ℕ} → f ≡ Some k → TableAt text (the text root) k
    unfolding known_keys each_in label_twice any
    table_found {k} q =
        let (st, is) = found_there reached q in
        let right : keys_right (the text k) ≡ true = rw is h.keys_right_lem in
        record {
          keys_are = keys_told_lem st right ∙ ap table_keys is ∙ sym (append-nil (table_keys h.table))
              ∙ sym (ap (each_in table_keys) h.one_table);
          twice_is = twice_told st right ∙ ap key_twice_in is ∙ sym (or_false (key_twice_in h.table))
              ∙ sym (ap (any key_twice_in) h.one_table);
        }

    pub table_nowhere : f ≡ None → TableAt text (the text root) 0
    table_nowhere q = found_nowhere reached q

pub ruleset tabling = (table_found, table_nowhere, rules)

-- ---- How many arrays the root says that there are.

pub said_so : {text : List ℕ} {root : ℕ} → FileHere text root → {n : ℕ}
    → (Stands text root → n ≡ number_seen 0 9999999 (attribute_word (ascii "NumberOfDataArrays") (the text root)))
    → n ≡ arrays_said (the text root)
unfolding arrays_said
said_so {text} {root} h f =
    f h.arrays.stands ∙ ap (number_seen 0 9999999) (word_at "NumberOfDataArrays" (the text root))
    ∙ number_seen_lem 0 9999999 (attr "NumberOfDataArrays" (the text root)) h.arrays_said_lem

-- ---- Every key has a Label.

all_in : (p : ℤ → Bool) (l : List Element) → all (all p) (each array_keys l) ≡ all p (keys_of_all l)
unfolding all each keys_of_all each_in
all_in p [] = refl
all_in p (a ∷ l) = rw (all_in p l) (sym (all_append p (array_keys a) (each_in array_keys l)))

by_codes : (text : List ℕ) (t : ℕ) (l : List ℤ) → all in_keys l ≡ true
    → all (is_known (table_keys_at text t)) l ≡ all (λ c. member c (codes_at text t)) (codes_of l)
unfolding all codes_of each is_known
by_codes text t [] h = refl
by_codes text t (k ∷ l) h =
    rw (member_key k (and_left (in_keys k) (all in_keys l) h) text t, by_codes text t l (and_right (in_keys k) (all in_keys l) h)) refl

module _ {text : List ℕ} {e : Element} {t : ℕ} (p : TableAt text e t) {r : Told} (o : ArraysTold e (codes_at text t) r) where
  unknown_is : key_unknown e ≡ not (all (λ c. member c (codes_at text t)) (codes_of (keys_of_all (arrays_of e))))
  unfolding key_unknown some_unknown keys_of_arrays
  unknown_is = ap not (all_in (is_known (known_keys e)) (arrays_of e)
      ∙ ap (λ k. all (is_known k) (keys_of_all (arrays_of e))) (sym p.keys_are) ∙ by_codes text t (keys_of_all (arrays_of e)) o.in_range_lem)

  many : length (codes_of (keys_of_all (arrays_of e))) ≡ r.keys
  unfolding codes_of
  many = length_each code_of (keys_of_all (arrays_of e)) ∙ sym o.counted

  found_is : count (λ c. member c (codes_at text t)) (codes_of (keys_of_all (arrays_of e))) ≡ r.known
  unfolding known_in
  found_is = sym o.found

  pub none_unknown : r.known ≡ r.keys → key_unknown e ≡ false
  none_unknown h =
      unknown_is ∙ ap not (counted_all (λ c. member c (codes_at text t)) (codes_of (keys_of_all (arrays_of e))) (found_is ∙ h ∙ sym many))

  pub some_unknown_lem : (r.known ≡ r.keys → ⊥) → key_unknown e ≡ true
  some_unknown_lem h =
      unknown_is ∙ ap not (refute _ (λ a. h
      (sym found_is ∙ all_counted (λ c. member c (codes_at text t)) (codes_of (keys_of_all (arrays_of e))) a ∙ many)))

-- ---- The number, where a key stands twice.

pub nothing_asked : {text : List ℕ} {root : ℕ} → FileHere text root → (codes : List ℕ) → ArraysAsked text root (take 0 codes)
unfolding in_order ordered_from
nothing_asked h codes = record { here = h.arrays; in_order_so = refl }

module _ {e : Element} {codes : List ℕ} {r : Told} (o : ArraysTold e codes r) {said : ℕ} (s : said ≡ arrays_said e) where
  pub arrays_other : (r.arrays ≡ said → ⊥) → arrays_wrong e ≡ true
  unfolding arrays_wrong
  arrays_other h = ap not (ne_eqb (length (arrays_of e)) (arrays_said e) (λ q. h (o.many ∙ q ∙ sym s)))

  pub arrays_same : r.arrays ≡ said → arrays_wrong e ≡ false
  unfolding arrays_wrong
  arrays_same h = ap not (eq-eqb (length (arrays_of e)) (arrays_said e) (sym o.many ∙ h ∙ s))

  pub twice_nine : (r.arrays ≡ said → ⊥) → 9 ≡ number_twice e
  unfolding number_twice first
  twice_nine h = sym (rw (arrays_other h) refl)

  pub twice_other : r.arrays ≡ said → 24 ≡ number_twice e
  unfolding number_twice first
  twice_other h = sym (rw (arrays_same h) refl)

-- ---- Where none does.

module _ (i : ℕ) {text : List ℕ} {e : Element} {t : ℕ} (p : TableAt text e t) {r : Told} (o : ArraysTold e (codes_at text t) r) {said : ℕ}
    (s : said ≡ arrays_said e) where
  pub once_nine : (r.arrays ≡ said → ⊥) → 9 ≡ number_once i e
  unfolding number_once first
  once_nine h = sym (rw (arrays_other o s h) refl)

  module _ (a : r.arrays ≡ said) where
    no_array_lem : r.arrays ≤ i → no_array i e ≡ true
    unfolding no_array
    no_array_lem h = let m = o.many in ap not (le-ltb i (length (arrays_of e)) (omega arith))

    pub once_eighteen : r.arrays ≤ i → 18 ≡ number_once i e
    unfolding number_once first
    once_eighteen h = sym (rw (arrays_same o s a, no_array_lem h) refl)

    module _ (g : i < r.arrays) where
      an_array : no_array i e ≡ false
      unfolding no_array
      an_array = let m = o.many in ap not (lt-ltb i (length (arrays_of e)) (omega arith))

      pub once_thirty : r.fit ≡ false → 30 ≡ number_once i e
      unfolding number_once first length_wrong
      once_thirty h = sym (rw (arrays_same o s a, an_array, sym o.fitting ∙ h) refl)

      module _ (f : r.fit ≡ true) where
        pub once_unknown : (r.known ≡ r.keys → ⊥) → 31 ≡ number_once i e
        unfolding number_once first length_wrong
        once_unknown h = sym (rw (arrays_same o s a, an_array, sym o.fitting ∙ f, some_unknown_lem p o h) refl)

        pub once_none : r.known ≡ r.keys → 0 ≡ number_once i e
        unfolding number_once first length_wrong
        once_none h = sym (rw (arrays_same o s a, an_array, sym o.fitting ∙ f, none_unknown p o h) refl)

-- ---- Both.

module _ {text : List ℕ} {e : Element} {t : ℕ} (p : TableAt text e t) {b : Bool} (q : b ≡ twice_at text t) where
  pub number_twice_lem : (i : ℕ) → b ≡ true → {n : ℕ} → n ≡ number_twice e → n ≡ first (rows_of_arrays i e)
  unfolding number_twice rows_of_arrays first
  number_twice_lem i y h =
      h ∙ first_row 9 (arrays_wrong e) (24 when true ∷ [])
      ∙ sym (rw (sym p.twice_is ∙ sym q ∙ y)
      (first_row 9 (arrays_wrong e) (24 when true ∷ 18 when no_array i e ∷ 30 when length_wrong e ∷ 31 when key_unknown e ∷ [])))

  pub number_once_lem : (i : ℕ) → b ≡ false → {n : ℕ} → n ≡ number_once i e → n ≡ first (rows_of_arrays i e)
  unfolding number_once rows_of_arrays first
  number_once_lem i y h =
      h ∙ first_row 9 (arrays_wrong e) (18 when no_array i e ∷ 30 when length_wrong e ∷ 31 when key_unknown e ∷ [])
      ∙ sym (rw (sym p.twice_is ∙ sym q ∙ y)
      (first_row 9 (arrays_wrong e) (24 when false ∷ 18 when no_array i e ∷ 30 when length_wrong e ∷ 31 when key_unknown e ∷ [])))

pub table_once : {text : List ℕ} {root t : ℕ} → FileHere text root → TableAt text (the text root) t → {b : Bool} → b ≡ twice_at text t
    → b ≡ false → TableOnce text root t
table_once h p q y = record { file = h; table_at = p; once = sym q ∙ y }

pub table_here : {text : List ℕ} {root t : ℕ} → TableOnce text root t → TableHere text root t
table_here {text} {root} {t} h = record { arrays = h.file.arrays; once = sym (twice_codes text t) ∙ h.once }

pub ruleset numbering = (number_twice_lem, number_once_lem, table_once, table_here, rules)
