-- What is proved of Keys.
use Rattle.std.specs.Prelude.{◌≡◌, Bool, ltb, ℤ, length, Option, Some, None, ℕ}
use Rattle.std.proofs.Math.Path.{refl, sym, ap}
use Rattle.std.proofs.Common.{◌∙◌, subst, arith, rules, lt-ltb, le-ltb}
use mathlib.Core.List.{List, [], ◌∷◌, ◌++◌}
use Prim.Native.Nat.{ℕ, zero, suc, ◌≤◌, ◌<◌}
use Rattle.std.proofs.Math.ListN.{drop}
use Rattle.std.proofs.Math.Decide.{dec_lt}
use Rattle.lists.specs.Lists.{there}
use Rattle.lists.specs.Refusals.{◌when◌, first}
use Rattle.grammar.specs.Bytes.{ascii}
use Rattle.grammar.specs.Document.{Element}
use Rattle.grammar.specs.Parser.{parse}
use Rattle.label_table.specs.Labels.{table_keys_at, keys_written}
use Rattle.label_table.proofs.Laws.Told.{keys_told_lem, filled_told}
use Rattle.cifti.specs.Maps.{maps_of}
use Rattle.cifti.specs.Conditions.{of_maps}
use Rattle.cifti.specs.Answer.{maps_in}
use Rattle.cifti.specs.Labels.{labels_refusals, keys_on, keys_short, keys_refusal, keys_by, keys_given, overwritten, keys_afterwards, Keys}
use Rattle.cifti.proofs.Laws.Labels.{keys_by_lem, keys_number_of, keys_told, keys_after_of}
use Rattle.map_names.specs.Treads.{named_at}
use Rattle.labels.proofs.Laws.Good.{keys_in_form}
use Rattle.label_reader.specs.Before.{number_before}
use Rattle.label_reader.proofs.Laws.Tabled.{Tabled, untabled, tabled, table_at, kept_before}
use Rattle.label_reader.specs.Keys.{WrittenTo}

module _ (text : List ℕ) (at : ℕ) (before : List ℤ) {n : ℕ} (e : n ≡ length (table_keys_at text at)) where
  pub written_short : length before < n → WrittenTo text at before 17 0 before
  written_short u = record { short = λ _. (refl, refl, refl); fits = λ v. absurd (omega arith) }

  pub written_all : n ≤ length before → {after : List ℤ} → after ≡ keys_written (table_keys_at text at) before
      → WrittenTo text at before 0 n after
  written_all u h = record { short = λ v. absurd (omega arith); fits = λ _. (refl, e, h) }

pub ruleset writing = (written_short, written_all, rules)

-- ---- What is promised.

module _ (d i : ℕ) (o : Option Element) where
  no_keys : (n : ℕ) → (n ≡ 0 → ⊥) → keys_by n d i o ≡ []
  unfolding keys_by
  no_keys zero k = absurd (k refl)
  no_keys (suc n) k = refl

module _ (text lengths : List ℕ) (d i : ℕ) (keys : List ℤ) where
  abbrev number_of : ℕ
  number_of = keys_refusal lengths (length text) d i (length keys) (parse text)

  refused_so : {n : ℕ} → (n ≡ 0 → ⊥) → number_of ≡ n → Keys text lengths d i keys n 0 keys
  unfolding keys_number_of keys_told keys_after_of keys_given keys_afterwards overwritten
  refused_so {n} k h =
      let none : keys_by number_of d i (parse text) ≡ [] = rw h (no_keys d i (parse text) n k) in
      keys_by_lem text lengths d i keys n 0 keys (sym h) (rw none refl) (rw none refl)

  -- number 0: the keys of the document's table
  given_zero : {x : Element} → parse text ≡ Some x → number_of ≡ 0 → keys_on d i (maps_of x) ≡ keys_told text lengths d i (length keys)
  unfolding keys_told keys_given keys_by maps_in
  given_zero p m = sym (rw (m, p) refl)

  after_zero : {ks : List ℤ} → ks ≡ keys_told text lengths d i (length keys)
      → ks ++ drop (length ks) keys ≡ keys_after_of text lengths d i keys
  unfolding keys_told keys_after_of keys_afterwards overwritten
  after_zero h = ap (λ l. l ++ drop (length l) keys) h

  -- one of 1 to 9, 24 and 25
  pub keys_refused : {n : ℕ} → n ≡ number_before text lengths → (n ≡ 0 → ⊥) → Keys text lengths d i keys n 0 keys
  unfolding keys_refusal
  keys_refused h k = refused_so k (kept_before text lengths d i k h _)

  module _ {n : ℕ} (h : n ≡ number_before text lengths) (z : n ≡ 0) {f : Option ℕ} (e : f ≡ named_at text (ascii "LabelTable") d i) where
    there_is : Tabled text lengths d i f
    there_is = table_at text lengths d i (sym z ∙ h) e

    missing_so : Tabled text lengths d i None → Keys text lengths d i keys 18 0 keys
    unfolding keys_refusal
    missing_so (untabled r) = refused_so (λ y. omega arith) (r _)

    pub keys_missing : f ≡ None → Keys text lengths d i keys 18 0 keys
    keys_missing q = missing_so (subst (λ (x : Option ℕ). Tabled text lengths d i x) q there_is)

    module _ {t : ℕ} {number count : ℕ} {after : List ℤ} (w : WrittenTo text t keys number count after) where
      found_so : Tabled text lengths d i (Some t) → Keys text lengths d i keys number count after
      unfolding keys_refusal keys_short of_maps there first keys_number_of labels_refusals
      found_so (tabled {t} {e = x} p st g r s l way) = by (dec_lt (length keys) (length (table_keys_at text t)))
        where
          are : table_keys_at text t ≡ keys_on d i (maps_of x)
          are = keys_told_lem st (keys_in_form g) ∙ sym s

          number_so : {b : Bool} → ltb (length keys) (length (keys_on d i (maps_of x))) ≡ b → number_of ≡ first (17 when b ∷ [])
          number_so q = r _ ∙ rw (p, q) refl

          by : Dec (length keys < length (table_keys_at text t)) → Keys text lengths d i keys number count after
          by (yes u) =
              let (a, b, c) = w.short u in
              let m = number_so (lt-ltb (length keys) (length (keys_on d i (maps_of x))) (rw are at u)) in
              rw (a, b, c) (refused_so (λ y. omega arith) m)
          by (no u) =
              let v : length (table_keys_at text t) ≤ length keys = omega arith in
              let (a, b, c) = w.fits v in
              let m = number_so (le-ltb (length keys) (length (keys_on d i (maps_of x))) (rw are at v)) in
              keys_by_lem text lengths d i keys number count after (a ∙ sym m) (b ∙ ap length (given m)) (c ∙ written v m)
            where
              given : number_of ≡ 0 → table_keys_at text t ≡ keys_told text lengths d i (length keys)
              given m = are ∙ given_zero p m

              written : length (table_keys_at text t) ≤ length keys → number_of ≡ 0
                  → keys_written (table_keys_at text t) keys ≡ keys_after_of text lengths d i keys
              written v m = filled_told (table_keys_at text t) keys v ∙ after_zero (given m)

      pub keys_found : f ≡ Some t → Keys text lengths d i keys number count after
      keys_found q = found_so (subst (λ (x : Option ℕ). Tabled text lengths d i x) q there_is)

pub ruleset keying = (keys_refused, keys_missing, keys_found, rules)
