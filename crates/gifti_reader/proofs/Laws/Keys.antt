-- What is promised of the keys of an array: refused, the list is as it was; accepted, it begins with the keys.
use Rattle.std.specs.Prelude.{◌≡◌, Bool, true, List, [], ◌∷◌, ◌++◌, ℕ, zero, suc, ◌≤◌, ◌<◌, ltb, ℤ, get_or, Option, Some, None}
use Rattle.std.proofs.Math.Path.{refl, sym, ap}
use Rattle.std.proofs.Common.{◌∙◌, subst, rules, lt-ltb, le-ltb, ltb-true}
use native.Mathlib.Omega.{arith}
use Rattle.std.proofs.Math.Decide.{dec_lt}
use Rattle.std.proofs.Math.ListN.{length, drop}
use Rattle.std.proofs.lemmas.Bool.{not-false}
use Rattle.lists.specs.Lists.{all, each, there}
use Rattle.lists.specs.Refusals.{◌when◌, first, positive, NoneApplies}
use Rattle.lists.proofs.Laws.Booleans.{and_left, and_right}
use Rattle.lists.proofs.Laws.Refusals.{first_kept, first_none, given_none, row_fails, rows_past}
use Rattle.grammar.specs.Bytes.{ascii}
use Rattle.grammar.specs.Document.{Element}
use Rattle.grammar.specs.Parser.{parse}
use Rattle.nodes.specs.Places.{the}
use Rattle.inside.specs.Way.{nth}
use Rattle.inside.proofs.Laws.Walked.{Agrees}
use Rattle.inside.specs.Treads.{child_named}
use Rattle.label_table.specs.Labels.{keys_written, Wrote}
use Rattle.label_table.proofs.Laws.Told.{filled_told}
use Rattle.cifti.specs.Labels.{overwritten}
use Rattle.gifti.specs.Arrays.{arrays_of, array_keys, fills_dim0, keys_of_arrays}
use Rattle.gifti.specs.Conditions.{no_array, length_wrong, room_short, keys_at, conditions_of_arrays}
use Rattle.gifti.specs.Held.{GoodArray, GoodArrays, one_array}
use Rattle.gifti.specs.Keys.{keys_by, keys_given, KeysOf}
use Rattle.gifti.proofs.Laws.Arrays.{filled_many}
use Rattle.cifti.proofs.Laws.Text.{answers_by, answers_unique}
use Rattle.gifti.proofs.Laws.Keys.{number_of, keys_told, keys_by_lem, keys_unique}
use Rattle.gifti_opening.specs.Opening.{OpensGifti}
use Rattle.gifti_opening.specs.Passed.{FileHere}
use Rattle.gifti_opening.proofs.Laws.Passed.{file_here, opens_refused, number_here}
use Rattle.gifti_opening.specs.declared.GiftiOpening.{GiftiOpening}
use Rattle.array_keys.specs.Ahead.{keys_ahead, keys_start}
use Rattle.gifti_arrays.specs.Ready.{ArrayFull}
use Rattle.gifti_arrays.specs.Arrays.{ArrayNoted}
use Rattle.gifti_reader.specs.Number.{rows_of_arrays}
use Rattle.gifti_reader.specs.Keys.{ArraysPassed}
use Rattle.gifti_arrays.proofs.Laws.Array.{named_agrees, found_there, found_nowhere}
use Rattle.gifti_arrays.specs.declared.array.ArrayNote.{ArrayNote}

-- ---- The keys of the array at a place.

module _ {text : List ℕ} {at : ℕ} (h : ArrayFull text at) {n : ArrayNote} (o : ArrayNoted text (the text at) n) (before : List ℤ) where
  many : n.count ≡ length (array_keys (the text at))
  many = o.count_is ∙ sym (filled_many (the text at) h.full)

  pub wrote_short : length before < n.count → Wrote (array_keys (the text at)) before 17 0 before
  wrote_short u = let m = many in record { short = λ _. (refl, refl, refl); fits = λ v. absurd (omega arith) }

  pub wrote_all : n.count ≤ length before → {after : List ℤ}
      → after ≡ keys_written (keys_ahead n.encoding text (keys_start text n.from)) before
      → Wrote (array_keys (the text at)) before 0 n.count after
  wrote_all u q =
      let m = many in
      record { short = λ v. absurd (omega arith); fits = λ _. (refl, many, q ∙ ap (λ l. keys_written l before) o.keys_are) }

pub ruleset writing = (wrote_short, wrote_all, rules)

-- ---- Refused: the list is as it was.

no_keys : (n i : ℕ) (d : Option Element) → (n ≡ 0 → ⊥) → keys_by n i d ≡ []
unfolding keys_by
no_keys zero i d k = absurd (k refl)
no_keys (suc n) i d k = refl

pub refused_so : (text : List ℕ) (i : ℕ) (keys : List ℤ) {n : ℕ} → (n ≡ 0 → ⊥)
    → n ≡ number_of text i (length keys) → KeysOf text i keys n 0 keys
unfolding number_of keys_told keys_given overwritten
refused_so text i keys {n} k h =
    let none : keys_told text i (length keys) ≡ [] = ap (λ m. keys_by m i (parse text)) (sym h) ∙ no_keys n i (parse text) k in
    keys_by_lem text i keys n 0 keys h (sym (ap length none)) (sym (ap (λ l. l ++ drop (length l) keys) none))

-- what any answer with a number says
pub refused_kept : {text : List ℕ} {i : ℕ} {keys : List ℤ} {n count : ℕ} {after : List ℤ} → KeysOf text i keys n count after
    → (n ≡ 0 → ⊥) → (count ≡ 0) × (after ≡ keys)
unfolding number_of
refused_kept {text} {i} {keys} r k =
    let (a, b, c) = keys_unique r (refused_so text i keys k (answers_unique r.numbered (answers_by text _ refl))) in (b, c)

-- ---- The array asked for.

pub record Nth (i : ℕ) (l : List Element) (a : Element) : Type 0 where
  pub is_nth : nth i l ≡ Some a
  pub keys_are : get_or (each array_keys l) i [] ≡ array_keys a
  pub good : GoodArray a
  pub full : fills_dim0 a ≡ true

nth_of : (i : ℕ) (l : List Element) → i < length l → GoodArrays l → all fills_dim0 l ≡ true → (a : Element) × (Nth i l a)
unfolding nth each all
nth_of i [] u g f = absurd (omega arith)
nth_of zero (a ∷ l) u (one_array g m) f =
    (a, record { is_nth = refl; keys_are = refl; good = g; full = and_left (fills_dim0 a) (all fills_dim0 l) f })
nth_of (suc i) (a ∷ l) u (one_array g m) f =
    let (b, n) = nth_of i l (omega arith) m (and_right (fills_dim0 a) (all fills_dim0 l) f) in
    (b, record { is_nth = n.is_nth; keys_are = n.keys_are; good = n.good; full = n.full })

module _ {text : List ℕ} {root i : ℕ} (h : ArraysPassed text root i) where
  none_of : NoneApplies (rows_of_arrays i (the text root))
  unfolding rows_of_arrays positive
  none_of = given_none (rows_of_arrays i (the text root)) refl (sym h.none)

  there_is : (a : Element) × (Nth i (arrays_of (the text root)) a)
  unfolding rows_of_arrays no_array length_wrong
  there_is =
      nth_of i (arrays_of (the text root)) (ltb-true i _ (not-false _ (row_fails (rows_past 2 none_of)))) h.file.arrays.good
      (not-false _ (row_fails (rows_past 3 none_of)))

  module _ {f : Option ℕ} (e : f ≡ child_named (ascii "DataArray") i text root) where
    reached : Agrees text f (Some there_is.0)
    unfolding arrays_of
    reached =
        rw e (subst (λ (o : Option Element). Agrees text (child_named (ascii "DataArray") i text root) o) there_is.1.is_nth
        (named_agrees "DataArray" i h.file.arrays.stands))

    pub array_full : {k : ℕ} → f ≡ Some k → ArrayFull text k
    array_full q =
        let (st, is) = found_there reached q in
        let n = there_is.1 in
        record {
          here = record { stands = st; good = subst (λ (x : Element). GoodArray x) (sym is) n.good };
          full = ap fills_dim0 is ∙ n.full;
        }

    module _ (keys : List ℤ) where
      pub keys_nowhere : f ≡ None → KeysOf text i keys 18 0 keys
      keys_nowhere q = found_nowhere reached q

      -- the last row
      number_so : {b : Bool} → ltb (length keys) (length (get_or (each array_keys (arrays_of (the text root))) i [])) ≡ b
          → number_of text i (length keys) ≡ first (17 when b ∷ [])
      unfolding number_of conditions_of_arrays there rows_of_arrays room_short keys_at keys_of_arrays
      number_so q =
          number_here i (length keys) h.file ∙ first_none none_of (17 when room_short i (length keys) (the text root) ∷ []) ∙ rw q refl

      module _ {k : ℕ} (q : f ≡ Some k) where
        keys_so : get_or (each array_keys (arrays_of (the text root))) i [] ≡ array_keys (the text k)
        keys_so = there_is.1.keys_are ∙ ap array_keys (sym (found_there reached q).1)

        told_zero : number_of text i (length keys) ≡ 0 → keys_told text i (length keys) ≡ array_keys (the text k)
        unfolding number_of keys_told keys_given keys_by keys_at keys_of_arrays
        told_zero m = rw (m, h.file.parsed) keys_so

        pub keys_wrote : {number count : ℕ} {after : List ℤ} → Wrote (array_keys (the text k)) keys number count after
            → KeysOf text i keys number count after
        unfolding first overwritten
        keys_wrote {number} {count} {after} w = by (dec_lt (length keys) (length (array_keys (the text k))))
          where
            by : Dec (length keys < length (array_keys (the text k))) → KeysOf text i keys number count after
            by (yes u) =
                let (a, b, c) = w.short u in
                let m = number_so (lt-ltb (length keys) _ (rw keys_so u)) in
                rw (a, b, c) (refused_so text i keys (λ z. omega arith) (sym m))
            by (no u) =
                let v : length (array_keys (the text k)) ≤ length keys = omega arith in
                let (a, b, c) = w.fits v in
                let m = number_so (le-ltb (length keys) _ (rw keys_so v)) in
                let t = told_zero m in
                keys_by_lem text i keys number count after (a ∙ sym m) (b ∙ ap length (sym t))
                (c ∙ filled_told (array_keys (the text k)) keys v ∙ ap (λ l. l ++ drop (length l) keys) (sym t))

pub ruleset passing = (array_full, keys_nowhere, keys_wrote, rules)

-- ---- Behind the opening, and at the door.

module _ {text : List ℕ} {root i : ℕ} (h : FileHere text root) {n : ℕ} (q : n ≡ first (rows_of_arrays i (the text root))) where
  pub behind_refused : (keys : List ℤ) → (n ≡ 0 → ⊥) → KeysOf text i keys n 0 keys
  unfolding number_of conditions_of_arrays there rows_of_arrays
  behind_refused keys k =
      refused_so text i keys k (sym (number_here i (length keys) h
      ∙ first_kept (rows_of_arrays i (the text root)) (17 when room_short i (length keys) (the text root) ∷ []) n k (sym q)))

  pub behind_passed : n ≡ 0 → ArraysPassed text root i
  behind_passed z = record { file = h; none = sym z ∙ q }

pub ruleset behind = (behind_refused, behind_passed, rules)

module _ {text : List ℕ} {r : GiftiOpening} (o : OpensGifti text r) where
  pub door_refused : (i : ℕ) (keys : List ℤ) → (r.number ≡ 0 → ⊥) → KeysOf text i keys r.number 0 keys
  unfolding number_of
  door_refused i keys k = refused_so text i keys k (opens_refused i (length keys) o k)

  pub door_open : r.number ≡ 0 → FileHere text r.root
  door_open z = file_here o z

pub ruleset opening = (door_refused, door_open, rules)
