-- THE KEYS of every answer that the promise allows with number 0: what each place holds, and that it has a Label.
use Rattle.std.specs.Prelude.{◌≡◌, true, ℕ, ◌<◌, ltb, ℤ, pos, get_or, Some}
use Rattle.std.proofs.Math.Path.{refl, ap}
use Rattle.std.proofs.Common.{sym, ◌∙◌, arith}
use mathlib.Core.List.{List, [], ◌++◌}
use borrow.Author.Tests.{ltb-true, not-false}
use Rattle.std.proofs.Math.ListN.{length, drop, get_or-append}
use Rattle.lists.specs.Lists.{all, there}
use Rattle.lists.proofs.Laws.Lists.{length_each}
use Rattle.lists.proofs.Laws.Quantifiers.{all_iff, any_iff}
use Rattle.lists.specs.Refusals.{positive, NoneApplies}
use Rattle.lists.proofs.Laws.Refusals.{given_none, row_fails, rows_past}
use Rattle.grammar.specs.Document.{Element}
use Rattle.grammar.specs.Grammar.{Writes}
use Rattle.numbers.specs.Numbers.{same_key}
use Rattle.numbers.proofs.Laws.Keys.{same_key_lem}
use Rattle.cifti.specs.Labels.{overwritten}
use Rattle.cifti.proofs.Laws.Text.{answers_of}
use Rattle.gifti.specs.Arrays.{arrays_of, array_keys, fills_dim0, known_keys, keys_of_arrays}
use Rattle.gifti.specs.Conditions.{no_array, length_wrong, is_known, some_unknown, key_unknown, keys_at, conditions_of_file}
use Rattle.gifti.specs.Conditions.{conditions_of_arrays, gifti_refusals, gifti_refusal}
use Rattle.gifti.specs.Keys.{keys_by, keys_given, keys_count, keys_afterwards, KeysOf}
use Rattle.gifti.specs.Located.{KeysLocated}
use Rattle.gifti.proofs.Laws.Arrays.{filled_at}

module _ {text : List ℕ} {i : ℕ} {keys : List ℤ} {count : ℕ} {after : List ℤ} (r : KeysOf text i keys 0 count after)
    {e : Element} (w : Writes e text) where
  number : gifti_refusal (length text) i (length keys) (Some e) ≡ 0
  number = sym (answers_of r.numbered w)

  none : NoneApplies (gifti_refusals (length text) i (length keys) (Some e))
  unfolding gifti_refusal gifti_refusals conditions_of_file conditions_of_arrays positive
  none = given_none (gifti_refusals (length text) i (length keys) (Some e)) refl number

  -- 18, 30 and 31 do not apply
  found : ltb i (length (arrays_of e)) ≡ true
  unfolding gifti_refusals conditions_of_file conditions_of_arrays there no_array
  found = not-false _ (row_fails (rows_past 8 none))

  filled : all fills_dim0 (arrays_of e) ≡ true
  unfolding gifti_refusals conditions_of_file conditions_of_arrays there length_wrong
  filled = not-false _ (row_fails (rows_past 9 none))

  known : all (all (is_known (known_keys e))) (keys_of_arrays e) ≡ true
  unfolding gifti_refusals conditions_of_file conditions_of_arrays there key_unknown some_unknown
  known = not-false _ (row_fails (rows_past 10 none))

  given : keys_given (length text) i (length keys) (Some e) ≡ keys_at i e
  unfolding keys_given keys_by
  given = rw number refl

  is_array_lem : i < length (arrays_of e)
  is_array_lem = ltb-true i (length (arrays_of e)) found

  count_so : count ≡ length (keys_at i e)
  unfolding keys_count
  count_so = answers_of r.counted w ∙ ap length given

  after_so : after ≡ keys_at i e ++ drop (length (keys_at i e)) keys
  unfolding keys_afterwards overwritten
  after_so = answers_of r.filled w ∙ ap (λ l. l ++ drop (length l) keys) given

  each_so : (n : ℕ) → n < count → get_or after n (pos 0) ≡ get_or (keys_at i e) n (pos 0)
  each_so n u = ap (λ l. get_or l n (pos 0)) after_so
      ∙ get_or-append (keys_at i e) (drop (length (keys_at i e)) keys) (pos 0) n (omega (arith, u, count_so))

  labelled_so : (n : ℕ) → n < count → (j : ℕ) × (j < length (known_keys e)) × (get_or after n (pos 0) ≡ get_or (known_keys e) j (pos 0))
  unfolding is_known keys_at keys_of_arrays
  labelled_so n u =
      let m = length_each array_keys (arrays_of e) in
      let c = count_so in
      let here = (all_iff [] (all (is_known (known_keys e))) (keys_of_arrays e)).0 known i (omega (arith, is_array_lem, m)) in
      let k = (all_iff (pos 0) (is_known (known_keys e)) (keys_at i e)).0 here n (omega (arith, u, c)) in
      let (j, v, s) = (any_iff (pos 0) (same_key (get_or (keys_at i e) n (pos 0))) (known_keys e)).0 k in
      (j, v, each_so n u ∙ same_key_lem _ _ s)

  pub keys_located : KeysLocated i e count after
  unfolding keys_at keys_of_arrays
  keys_located = record {
    is_array_lem = is_array_lem;
    many = count_so ∙ filled_at (arrays_of e) i filled;
    as_written = count_so;
    each_is = each_so;
    labelled = labelled_so;
  }
