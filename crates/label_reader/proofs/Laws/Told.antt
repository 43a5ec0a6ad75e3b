-- THE KEYS, AND THE NAME OF A KEY, of every answer that the promises allow with number 0.
use Rattle.std.specs.Prelude.{◌≡◌, true, false, ℕ, ◌<◌, ◌≤◌, eqb, ℤ, pos, Option, Some}
use Rattle.std.proofs.Math.Path.{refl, ap}
use Rattle.std.proofs.Common.{sym, ◌∙◌, subst, arith}
use mathlib.Core.List.{List, [], ◌∷◌, ◌++◌}
use borrow.Author.Tests.{not-false}
use Rattle.std.proofs.Math.ListN.{length, get_or, drop, get_or-append}
use Rattle.lists.specs.Lists.{any, count, two_of, each, there}
use Rattle.lists.proofs.Laws.Booleans.{both_ways}
use Rattle.lists.proofs.Laws.Lists.{length_each}
use Rattle.lists.specs.Refusals.{Refusal, ◌when◌, positive, NoneApplies, passed}
use Rattle.lists.proofs.Laws.Refusals.{given_none, row_fails, none_front}
use Rattle.grammar.specs.Document.{Element}
use Rattle.grammar.specs.Grammar.{Writes}
use Rattle.grammar.specs.Look.{within_of}
use Rattle.numbers.specs.Numbers.{same_key}
use Rattle.cifti.specs.LabelTable.{labels_of, label_key, table_keys, labels_with, names_with}
use Rattle.cifti.specs.Rows.{cifti}
use Rattle.cifti.specs.Maps.{maps_of}
use Rattle.cifti.specs.Conditions.{conditions_of_header, conditions_of_labels, of_maps, listed_dimensions, dimensions_wrong, key_twice}
use Rattle.cifti.specs.Answer.{maps_in}
use Rattle.cifti.specs.Labels.{no_table, labels_refusals, keys_on, keys_short, keys_refusal, keys_by, keys_given, keys_count, overwritten}
use Rattle.cifti.specs.Labels.{keys_afterwards, no_key, label_refusal, label_by, label_part, labels_on, Keys, LabelNumber, LabelPart}
use Rattle.cifti.proofs.Laws.Text.{answers_of}
use Rattle.maps.specs.Good.{Good}
use Rattle.inside.specs.Way.{reached}
use Rattle.map_names.proofs.Laws.Placed.{fine}
use Rattle.map_names.proofs.Laws.Reached.{listed_once}
use Rattle.label_reader.specs.Way.{table_way}
use Rattle.label_reader.proofs.Laws.Found.{TableOf, no_table_lem, a_table, table_of}
use Rattle.label_reader.specs.Told.{KeysTold, LabelTold}
use Rattle.label_reader.proofs.Laws.Once.{keys_once}
use Rattle.label_reader.proofs.Laws.Only.{only_label}

none_back : (l k : List Refusal) → NoneApplies (l ++ k) → NoneApplies k
none_back [] k h = h
none_back (n when b ∷ l) k (passed h) = none_back l k h

-- number 0, of rows that begin with 1 to 9, 24, 25 and 18: the table is there, and no key stands twice in it
data Tells (d i : ℕ) (e : Element) : Type 0 where
  tells : {t : Element} → reached (table_way d i) e ≡ Some t → keys_on d i (maps_of e) ≡ table_keys t
      → ((k : ℤ) → labels_on d i k e ≡ names_with k t) → two_of same_key (table_keys t) ≡ false → Tells d i e

module _ (lengths : List ℕ) (size d i : ℕ) (e : Element) (none : NoneApplies (labels_refusals lengths size d i (Some e))) where
  abbrev last : List Refusal
  last = 18 when of_maps (no_table d i) (Some e) ∷ []

  header : NoneApplies (conditions_of_header lengths size (Some e))
  unfolding labels_refusals
  header = none_front (conditions_of_header lengths size (Some e)) (conditions_of_labels (Some e) ++ last) none

  behind : NoneApplies (conditions_of_labels (Some e) ++ last)
  unfolding labels_refusals
  behind = none_back (conditions_of_header lengths size (Some e)) (conditions_of_labels (Some e) ++ last) none

  there_one : no_table d i (maps_of e) ≡ false
  unfolding of_maps there
  there_one = row_fails (none_back (conditions_of_labels (Some e)) last behind)

  not_twice : key_twice (maps_of e) ≡ false
  unfolding conditions_of_labels of_maps there
  not_twice = row_fails behind

  told_by_lem : {o : Option Element} → count (eqb d) (listed_dimensions (maps_of e)) ≤ 1 → reached (table_way d i) e ≡ o → TableOf d i e o
      → Tells d i e
  told_by_lem u q (no_table_lem h) = both_ways h there_one
  told_by_lem u q (a_table h s l g) = tells q s l (sym (ap (two_of same_key) s) ∙ keys_once d i (maps_of e) u there_one not_twice)

  told : Tells d i e
  told =
      let f = fine lengths size (Some e) header in
      let p = f.is in
      let q : f.document ≡ e = cc in
      let u = listed_once lengths (maps_of e) (subst (λ (x : Element). dimensions_wrong lengths (maps_of x) ≡ false) q f.once) d in
      told_by_lem u refl (table_of d i (subst (λ (x : Element). Good cifti x) q f.good) u)

-- ---- The keys.

module _ {text lengths : List ℕ} {d i : ℕ} {keys : List ℤ} {count : ℕ} {after : List ℤ} (r : Keys text lengths d i keys 0 count after)
    {e : Element} (w : Writes e text) where
  number : keys_refusal lengths (length text) d i (length keys) (Some e) ≡ 0
  number = sym (answers_of r.numbered w)

  keys_none : NoneApplies (labels_refusals lengths (length text) d i (Some e))
  unfolding keys_refusal labels_refusals conditions_of_header conditions_of_labels positive
  keys_none =
      let short = 17 when of_maps (keys_short d i (length keys)) (Some e) ∷ [] in
      let before = labels_refusals lengths (length text) d i (Some e) in
      none_front before short (given_none (before ++ short) refl number)

  given : keys_given lengths (length text) d i (length keys) (Some e) ≡ keys_on d i (maps_of e)
  unfolding keys_given keys_by maps_in
  given = rw number refl

  many_so : (t : Element) → keys_on d i (maps_of e) ≡ table_keys t → count ≡ length (labels_of t)
  unfolding keys_count table_keys
  many_so t s = answers_of r.counted w ∙ ap length (given ∙ s) ∙ length_each label_key (labels_of t)

  after_so : (t : Element) → keys_on d i (maps_of e) ≡ table_keys t → after ≡ table_keys t ++ drop (length (table_keys t)) keys
  unfolding keys_afterwards overwritten
  after_so t s = answers_of r.filled w ∙ ap (λ l. l ++ drop (length l) keys) (given ∙ s)

  each_so : (t : Element) → keys_on d i (maps_of e) ≡ table_keys t → (n : ℕ) → n < count
      → get_or after n (pos 0) ≡ get_or (each label_key (labels_of t)) n (pos 0)
  unfolding table_keys
  each_so t s n u =
      let m = many_so t s in
      let k = length_each label_key (labels_of t) in
      ap (λ l. get_or l n (pos 0)) (after_so t s)
      ∙ get_or-append (each label_key (labels_of t)) (drop (length (each label_key (labels_of t))) keys) (pos 0) n (omega arith)

  pub keys_told_lem : KeysTold d i e count after
  keys_told_lem = by (told lengths (length text) d i e keys_none)
    where
      by : Tells d i e → KeysTold d i e count after
      by (tells {t} q s l o) = record { table = t; reached_so = q; many = many_so t s; each_is = each_so t s }

-- ---- The name of a key.

module _ {text lengths : List ℕ} {d i : ℕ} {key : ℤ} {part : List ℕ} (n : LabelNumber text lengths d i key 0)
    (r : LabelPart text lengths d i key part) {e : Element} (w : Writes e text) where
  label_number : label_refusal lengths (length text) d i key (Some e) ≡ 0
  label_number = sym (answers_of n.asked w)

  abbrev before : List Refusal
  before = labels_refusals lengths (length text) d i (Some e)

  abbrev absent : List Refusal
  absent = 19 when of_maps (no_key d i key) (Some e) ∷ []

  all_none : NoneApplies (before ++ absent)
  unfolding label_refusal labels_refusals conditions_of_header conditions_of_labels positive
  all_none = given_none (before ++ absent) refl label_number

  has_key : any (same_key key) (keys_on d i (maps_of e)) ≡ true
  unfolding no_key of_maps there
  has_key = not-false (any (same_key key) (keys_on d i (maps_of e))) (row_fails (none_back before absent all_none))

  part_so : part ≡ get_or (labels_on d i key e) 0 []
  unfolding label_part label_by
  part_so = answers_of r.asked w ∙ rw label_number refl

  named_so : (t : Element) → labels_on d i key e ≡ names_with key t → part ≡ get_or (each within_of (labels_with key t)) 0 []
  unfolding names_with
  named_so t h = part_so ∙ ap (λ l. get_or l 0 []) h

  pub label_told : LabelTold d i key e part
  label_told = by (told lengths (length text) d i e (none_front before absent all_none))
    where
      by : Tells d i e → LabelTold d i key e part
      by (tells {t} q s l o) = record {
        table = t;
        reached_so = q;
        only = only_label key t o (sym (ap (any (same_key key)) s) ∙ has_key);
        part_is = named_so t (l key);
      }
