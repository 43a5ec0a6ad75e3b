-- What is proved of Names.
use Rattle.std.specs.Prelude.{◌≡◌, List, [], ℤ, length, get_or, take, drop, Option, Some, None, ℕ}
use Rattle.std.proofs.Math.Path.{refl, ap}
use Rattle.std.proofs.Common.{sym, ◌∙◌, subst, arith, rules}
use Prim.Native.Nat.{ℕ, zero, suc, ◌+◌, ◌-◌, ◌≤◌}
use Rattle.lists.specs.Lists.{there}
use Rattle.lists.specs.Refusals.{first}
use Rattle.lists.proofs.Laws.Booleans.{clash}
use Rattle.grammar.specs.Bytes.{ascii}
use Rattle.grammar.specs.Document.{Element}
use Rattle.grammar.specs.Parser.{parse}
use Rattle.steps.specs.Noted.{part}
use Rattle.nodes.specs.Places.{the}
use Rattle.nodes.specs.Inside.{between_tags}
use Rattle.nodes.proofs.Laws.Inside.{within_law}
use Rattle.cifti.specs.LabelTable.{labels_with}
use Rattle.label_table.specs.Labels.{label_with}
use Rattle.label_table.proofs.Laws.Told.{label_told}
use Rattle.cifti.specs.Conditions.{of_maps}
use Rattle.cifti.specs.Labels.{labels_refusals, no_key, label_refusal, labels_on, label_by, label_part, LabelNumber, LabelPart}
use Rattle.cifti.proofs.Laws.Text.{answers_by}
use Rattle.cifti.proofs.Laws.Labels.{label_number_unique, label_part_unique}
use Rattle.inside.specs.Way.{nth}
use Rattle.inside.specs.Walked.{way_at}
use Rattle.inside.proofs.Laws.Walked.{Agrees}
use Rattle.inside.specs.One.{tag_end}
use Rattle.map_names.specs.Answered.{Is}
use Rattle.map_names.proofs.Laws.Placed.{refused_by_lem, placed_by, placed_unique}
use Rattle.map_names.specs.Treads.{named_at}
use Rattle.map_names.specs.declared.NamePlace.{NamePlace}
use Rattle.labels.proofs.Laws.Good.{keys_in_form}
use Rattle.label_reader.specs.Way.{label_way}
use Rattle.label_reader.specs.Before.{number_before}
use Rattle.label_reader.proofs.Laws.Tabled.{Tabled, untabled, tabled, table_at, kept_before}
use Rattle.label_reader.proofs.Laws.Labelled.{label_way_lem, key_missing, key_there}
use Rattle.label_reader.specs.Names.{LabelPlaced, InTable}

-- (the key that a call is given is the key, as a number of 32 bits)
module _ (text : List ℕ) (at : ℕ) (key : ℤ) (r : NamePlace) {given : ℤ} {f : Option ℕ} (call : f ≡ label_with given text at)
    (same_key_lem : given ≡ key) where
  q : f ≡ label_with key text at
  q = call ∙ ap (λ k. label_with k text at) same_key_lem

  pub in_missing : f ≡ None → r.number ≡ 19 → r.start ≡ 0 → r.length ≡ 0 → InTable text at key r
  in_missing h a b c = record {
    missing = λ _. record { number_is = a; start_is = b; length_is = c };
    found = λ k e. (let o = q in clash (cc));
  }

  pub in_found : {k : ℕ} → f ≡ Some k → {l : List ℕ} → l ≡ between_tags text k → {s : ℕ} → s ≡ tag_end text k → r.number ≡ 0
      → r.start ≡ s → r.length ≡ length l → InTable text at key r
  in_found {k} h w t a b c = record {
    missing = λ e. (let o = q in clash (cc));
    found = λ j e.
        let o = q in
        let same : k ≡ j = cc in
        record { number_is = a; start_is = b ∙ t ∙ ap (tag_end text) same; length_is = c ∙ ap length (w ∙ ap (between_tags text) same) };
  }

pub ruleset in_table = (in_missing, in_found, rules)

-- ---- What is promised.

module _ (text lengths : List ℕ) (d i : ℕ) (key : ℤ) where
  abbrev number_of : ℕ
  number_of = label_refusal lengths (length text) d i key (parse text)

  numbered_by : {n : ℕ} → number_of ≡ n → LabelNumber text lengths d i key n
  numbered_by h = record { asked = answers_by text _ (sym h) }

  part_by_lem : (n : ℕ) → number_of ≡ n → {l : List ℕ} → l ≡ label_by n d i key (parse text) → LabelPart text lengths d i key l
  unfolding label_part
  part_by_lem n h e = record { asked = answers_by text _ (e ∙ ap (λ m. label_by m d i key (parse text)) (sym h)) }

  no_part : (n : ℕ) → (n ≡ 0 → ⊥) → [] ≡ label_by n d i key (parse text)
  unfolding label_by
  no_part zero k = absurd (k refl)
  no_part (suc n) k = refl

  refused_so : (n : ℕ) → (n ≡ 0 → ⊥) → number_of ≡ n → {r : NamePlace} → Is r n 0 0 → LabelPlaced text lengths d i key r
  refused_so n k h = refused_by_lem k (numbered_by h) (part_by_lem n h (no_part n k))

  part_zero : {e : Element} → parse text ≡ Some e → get_or (labels_on d i key e) 0 [] ≡ label_by 0 d i key (parse text)
  unfolding label_by
  part_zero p = rw p

  placed_so : {e : Element} {k : ℕ} → parse text ≡ Some e → number_of ≡ 0 → way_at (label_way d i key) text ≡ Some k
      → get_or (labels_on d i key e) 0 [] ≡ between_tags text k → {r : NamePlace} → Is r 0 (tag_end text k) (length (between_tags text k))
      → LabelPlaced text lengths d i key r
  placed_so p h f q = placed_by p f (numbered_by h) (part_by_lem 0 h (sym q ∙ part_zero p))

  module _ {n : ℕ} (h : n ≡ number_before text lengths) where
    -- one of 1 to 9, 24 and 25
    pub label_refused : (n ≡ 0 → ⊥) → {r : NamePlace} → r.number ≡ n → r.start ≡ 0 → r.length ≡ 0 → LabelPlaced text lengths d i key r
    unfolding label_refusal
    label_refused k a b c =
        refused_so n k (kept_before text lengths d i k h _) (record { number_is = a; start_is = b; length_is = c })

    module _ (z : n ≡ 0) {f : Option ℕ} (e : f ≡ named_at text (ascii "LabelTable") d i) where
      there_is : Tabled text lengths d i f
      there_is = table_at text lengths d i (sym z ∙ h) e

      missing_so : {r : NamePlace} → Tabled text lengths d i None → Is r 18 0 0 → LabelPlaced text lengths d i key r
      unfolding label_refusal
      missing_so (untabled t) s = refused_so 18 (λ y. omega arith) (t _) s

      pub label_missing : f ≡ None → {r : NamePlace} → r.number ≡ 18 → r.start ≡ 0 → r.length ≡ 0 → LabelPlaced text lengths d i key r
      label_missing q a b c = missing_so (subst (λ (x : Option ℕ). Tabled text lengths d i x) q there_is)
          (record { number_is = a; start_is = b; length_is = c })

      module _ {t : ℕ} {r : NamePlace} (w : InTable text t key r) where
        found_so : Tabled text lengths d i (Some t) → LabelPlaced text lengths d i key r
        unfolding label_refusal no_key of_maps there first labels_refusals
        found_so (tabled {t} {e = x} p st g o s l way) = by (label_with key text t) refl (label_told key st (keys_in_form g))
          where
            by : (j : Option ℕ) → label_with key text t ≡ j → Agrees text j (nth 0 (labels_with key (the text t)))
                → LabelPlaced text lengths d i key r
            by None q a =
                refused_so 19 (λ y. omega arith) (o _ ∙ rw (p, s, key_missing key (the text t) a) refl) (w.missing q)
            by (Some k) q a =
                let (v, y, u) = key_there key (the text t) a in
                placed_so p (o _ ∙ rw (p, s, y) refl) (label_way_lem text d i key st (keys_in_form g) way q)
                (rw (l key, v) (sym (within_law u))) (w.found k q)

        found_at : f ≡ Some t → LabelPlaced text lengths d i key r
        found_at q = found_so (subst (λ (x : Option ℕ). Tabled text lengths d i x) q there_is)

      pub label_found : {t : ℕ} {r : NamePlace} {given : ℤ} → InTable text t given r → given ≡ key → f ≡ Some t
          → LabelPlaced text lengths d i key r
      label_found {t} {r} w same q = found_at (subst (λ (k : ℤ). InTable text t k r) same w) q

pub ruleset naming_label = (label_refused, label_missing, label_found, rules)

-- ---- The doors that take their answer from the place.

module _ {text lengths : List ℕ} {d i : ℕ} {r : NamePlace} {given : ℤ} (call : LabelPlaced text lengths d i given r) where
  pub placed_inside : r.start + r.length ≤ length text
  placed_inside = call.inside

module _ {text lengths : List ℕ} {d i : ℕ} {key : ℤ} {r : NamePlace} {given : ℤ} (call : LabelPlaced text lengths d i given r)
    (same : given ≡ key) where
  p : LabelPlaced text lengths d i key r
  p = subst (λ (k : ℤ). LabelPlaced text lengths d i k r) same call

  pub placed_number : LabelNumber text lengths d i key r.number
  placed_number = p.numbered

  pub placed_part : LabelPart text lengths d i key (part r.start (r.start + r.length) text)
  placed_part =
      let n : r.length ≡ (r.start + r.length) - r.start = omega arith in
      subst (λ (m : ℕ). LabelPart text lengths d i key (take m (drop r.start text))) n p.named

pub ruleset taking_label = (placed_number, placed_inside, placed_part, rules)

-- ---- ONE PLACE for every input.

module _ {text lengths : List ℕ} {d i : ℕ} {key : ℤ} {a b : NamePlace} (p : LabelPlaced text lengths d i key a)
    (q : LabelPlaced text lengths d i key b) where
  pub label_place_unique : a ≡ b
  label_place_unique = placed_unique p q (label_number_unique p.numbered q.numbered) (label_part_unique p.named q.named)
