-- What the rules of GIFTI do not see: the bytes between the tags as written, and the size of a text that is not too long.
use Rattle.std.specs.Prelude.{◌≡◌, List, ◌++◌, Bool, not, ℤ, Option, Some}
use Rattle.std.proofs.Math.Path.{refl, ap}
use Rattle.std.proofs.Common.{◌∙◌}
use Prim.Native.Nat.{ℕ, zero, suc, ◌≤◌}
use Prim.Native.String.{String}
use Rattle.std.proofs.Math.ListN.{length}
use Rattle.lists.specs.Lists.{any, all, each, each_in, is_some, there}
use Rattle.lists.proofs.Laws.Lists.{any_same, any_each, all_same, all_each, each_same, each_in_same, each_each, each_in_each, length_each}
use Rattle.lists.specs.Refusals.{first}
use Rattle.grammar.specs.Document.{Element}
use Rattle.grammar.specs.Look.{children, text_of}
use Rattle.grammar.proofs.Laws.Plain.{plain, name_erased, attr_erased, has_erased, text_erased, children_erased}
use Rattle.numbers.specs.Numbers.{value}
use Rattle.schema.specs.Schema.{shaped, numbered}
use Rattle.schema.proofs.Laws.Erased.{walk_erased, shaped_erased, numbered_erased}
use Rattle.cifti.specs.LabelTable.{table_keys, key_twice_in}
use Rattle.cifti.specs.Conditions.{no_document}
use Rattle.cifti.specs.Labels.{overwritten}
use Rattle.cifti.proofs.Laws.Text.{Unseeing}
use Rattle.cifti.proofs.Laws.Unseen.{keys_erased, small}
use Rattle.gifti.specs.Rows.{gifti, gifti_rows}
use Rattle.gifti.specs.Arrays.{arrays_of, arrays_said, is_coded, endian_of, data_of, dim0, array_keys, fills_dim0, label_tables, known_keys}
use Rattle.gifti.specs.Arrays.{keys_of_arrays}
use Rattle.gifti.specs.Conditions.{root_wrong, shape_wrong, encoding_read, array_read, array_not_read, number_wrong, arrays_wrong}
use Rattle.gifti.specs.Conditions.{label_twice, no_array, length_wrong, key_unknown, keys_at, room_short, conditions_of_file}
use Rattle.gifti.specs.Conditions.{conditions_of_arrays, gifti_refusals, gifti_refusal}
use Rattle.gifti.specs.Keys.{keys_by, keys_given, keys_count, keys_afterwards}

-- ---- What stands of a name in an element, seen by what is blind.

module _ (s : String) where
  all_blind : (p : Element → Bool) → ((e : Element) → p (plain e) ≡ p e) → (e : Element)
      → all p (children s (plain e)) ≡ all p (children s e)
  all_blind p b e = ap (all p) (children_erased s e) ∙ all_each plain p (children s e) ∙ all_same b (children s e)

  any_blind : (p : Element → Bool) → ((e : Element) → p (plain e) ≡ p e) → (e : Element)
      → any p (children s (plain e)) ≡ any p (children s e)
  any_blind p b e = ap (any p) (children_erased s e) ∙ any_each plain p (children s e) ∙ any_same b (children s e)

  module _ {A : Type 0} where
    each_blind : (f : Element → A) → ((e : Element) → f (plain e) ≡ f e) → (e : Element)
        → each f (children s (plain e)) ≡ each f (children s e)
    each_blind f b e = ap (each f) (children_erased s e) ∙ each_each plain f (children s e) ∙ each_same b (children s e)

    in_blind : (f : Element → List A) → ((e : Element) → f (plain e) ≡ f e) → (e : Element)
        → each_in f (children s (plain e)) ≡ each_in f (children s e)
    in_blind f b e = ap (each_in f) (children_erased s e) ∙ each_in_each plain f (children s e) ∙ each_in_same b (children s e)

  count_blind : (e : Element) → length (children s (plain e)) ≡ length (children s e)
  count_blind e = ap length (children_erased s e) ∙ length_each plain (children s e)

-- ---- The arrays and the table.

data_erased : (a : Element) → data_of (plain a) ≡ data_of a
unfolding data_of
data_erased a = in_blind "Data" text_of text_erased a

coded_erased : (a : Element) → is_coded (plain a) ≡ is_coded a
unfolding is_coded
coded_erased a = has_erased "Encoding" "Base64Binary" a

endian_erased : (a : Element) → endian_of (plain a) ≡ endian_of a
unfolding endian_of
endian_erased a = rw (has_erased "Endian" "BigEndian" a) refl

dim0_erased : (a : Element) → dim0 (plain a) ≡ dim0 a
unfolding dim0
dim0_erased a = ap value (attr_erased "Dim0" a)

array_erased : (a : Element) → array_keys (plain a) ≡ array_keys a
unfolding array_keys
array_erased a = rw (coded_erased a, endian_erased a, data_erased a) refl

fills_erased : (a : Element) → fills_dim0 (plain a) ≡ fills_dim0 a
unfolding fills_dim0
fills_erased a = rw (coded_erased a, data_erased a, dim0_erased a) refl

read_erased : (a : Element) → array_read (plain a) ≡ array_read a
unfolding array_read encoding_read
read_erased a = rw (
  has_erased "Encoding" "ASCII" a,
  has_erased "Encoding" "Base64Binary" a,
  has_erased "Intent" "NIFTI_INTENT_LABEL" a,
  has_erased "DataType" "NIFTI_TYPE_INT32" a,
) refl

keys_of_arrays_lem : (e : Element) → keys_of_arrays (plain e) ≡ keys_of_arrays e
unfolding keys_of_arrays arrays_of
keys_of_arrays_lem e = each_blind "DataArray" array_keys array_erased e

known_erased : (e : Element) → known_keys (plain e) ≡ known_keys e
unfolding known_keys label_tables
known_erased e = in_blind "LabelTable" table_keys keys_erased e

-- ---- The conditions.

root_erased : (e : Element) → root_wrong (plain e) ≡ root_wrong e
unfolding root_wrong
root_erased e = rw (name_erased e, has_erased "Version" "1.0" e) refl

shape_erased : (e : Element) → shape_wrong (plain e) ≡ shape_wrong e
unfolding shape_wrong
shape_erased e = ap not (walk_erased gifti_rows shaped shaped_erased e gifti)

number_erased : (e : Element) → number_wrong (plain e) ≡ number_wrong e
unfolding number_wrong
number_erased e = ap not (walk_erased gifti_rows numbered numbered_erased e gifti)

not_read_erased : (e : Element) → array_not_read (plain e) ≡ array_not_read e
unfolding array_not_read arrays_of
not_read_erased e = ap not (all_blind "DataArray" array_read read_erased e)

arrays_erased : (e : Element) → arrays_wrong (plain e) ≡ arrays_wrong e
unfolding arrays_wrong arrays_of arrays_said
arrays_erased e = rw (count_blind "DataArray" e, attr_erased "NumberOfDataArrays" e) refl

twice_blind : (t : Element) → key_twice_in (plain t) ≡ key_twice_in t
unfolding key_twice_in
twice_blind t = rw (keys_erased t) refl

twice_erased : (e : Element) → label_twice (plain e) ≡ label_twice e
unfolding label_twice label_tables
twice_erased e = any_blind "LabelTable" key_twice_in twice_blind e

no_array_erased : (i : ℕ) (e : Element) → no_array i (plain e) ≡ no_array i e
unfolding no_array arrays_of
no_array_erased i e = rw (count_blind "DataArray" e) refl

length_erased : (e : Element) → length_wrong (plain e) ≡ length_wrong e
unfolding length_wrong arrays_of
length_erased e = ap not (all_blind "DataArray" fills_dim0 fills_erased e)

unknown_erased : (e : Element) → key_unknown (plain e) ≡ key_unknown e
unfolding key_unknown
unknown_erased e = rw (known_erased e, keys_of_arrays_lem e) refl

keys_at_lem : (i : ℕ) (e : Element) → keys_at i (plain e) ≡ keys_at i e
unfolding keys_at
keys_at_lem i e = rw (keys_of_arrays_lem e) refl

room_erased : (i room : ℕ) (e : Element) → room_short i room (plain e) ≡ room_short i room e
unfolding room_short
room_erased i room e = rw (keys_at_lem i e) refl

file_erased : (size : ℕ) (e : Element) → conditions_of_file size (Some (plain e)) ≡ conditions_of_file size (Some e)
unfolding conditions_of_file no_document there is_some
file_erased size e = rw (root_erased e, shape_erased e, not_read_erased e, number_erased e) refl

file_size : (m n : ℕ) (d : Option Element) → m ≤ 16777216 → n ≤ 16777216 → conditions_of_file m d ≡ conditions_of_file n d
unfolding conditions_of_file
file_size m n d h k = rw (small m h, small n k) refl

of_arrays_erased : (i room : ℕ) (e : Element) → conditions_of_arrays i room (Some (plain e)) ≡ conditions_of_arrays i room (Some e)
unfolding conditions_of_arrays there
of_arrays_erased i room e =
    rw (arrays_erased e, twice_erased e, no_array_erased i e, length_erased e, unknown_erased e, room_erased i room e) refl

-- ---- The terms that the promise is made of.

module _ (i room : ℕ) where
  pub refusal_unseeing : Unseeing (λ size. gifti_refusal size i room)
  unfolding gifti_refusal gifti_refusals
  refusal_unseeing = record {
    bytes = λ n e. rw (file_erased n e, of_arrays_erased i room e) refl;
    size = λ m n h k e. ap (λ a. first (a ++ conditions_of_arrays i room (Some e))) (file_size m n (Some e) h k);
  }

  by_bytes : (number : ℕ) (e : Element) → keys_by number i (Some (plain e)) ≡ keys_by number i (Some e)
  unfolding keys_by
  by_bytes zero e = keys_at_lem i e
  by_bytes (suc n) e = refl

  pub given_unseeing : Unseeing (λ size. keys_given size i room)
  unfolding keys_given
  given_unseeing = record {
    bytes = λ n e. rw (refusal_unseeing.bytes n e) (by_bytes (gifti_refusal n i room (Some e)) e);
    size = λ m n h k e. ap (λ r. keys_by r i (Some e)) (refusal_unseeing.size m n h k e);
  }

  pub count_unseeing : Unseeing (λ size. keys_count size i room)
  unfolding keys_count
  count_unseeing = record {
    bytes = λ n e. ap length (given_unseeing.bytes n e);
    size = λ m n h k e. ap length (given_unseeing.size m n h k e);
  }

pub after_unseeing : (i : ℕ) (keys : List ℤ) → Unseeing (keys_afterwards i keys)
unfolding keys_afterwards
after_unseeing i keys = record {
  bytes = λ n e. ap (λ l. overwritten l keys) ((given_unseeing i (length keys)).bytes n e);
  size = λ m n h k e. ap (λ l. overwritten l keys) ((given_unseeing i (length keys)).size m n h k e);
}
