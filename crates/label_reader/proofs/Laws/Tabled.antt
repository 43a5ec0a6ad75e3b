-- BEHIND 1 TO 9, 24 AND 25: what the walk to the table finds. Nothing: 18 is given, whatever rows follow; a place: none of those rows
-- applies, and the table that stands there is the one whose keys and names are asked for.
use Rattle.std.specs.Prelude.{◌≡◌, ℕ, ℤ, length, Option, Some, None}
use Rattle.std.proofs.Math.Path.{refl, sym, ap}
use Rattle.std.proofs.Common.{◌∙◌}
use mathlib.Core.List.{List, [], ◌∷◌, ◌++◌, append_assoc}
use Rattle.lists.specs.Lists.{there}
use Rattle.lists.specs.Refusals.{Refusal, ◌when◌, first, positive, NoneApplies}
use Rattle.lists.proofs.Laws.Refusals.{first_kept, first_none, given_none, none_front}
use Rattle.grammar.specs.Bytes.{ascii}
use Rattle.grammar.specs.Document.{Element}
use Rattle.grammar.specs.Parser.{parse}
use Rattle.nodes.specs.Places.{Stands, the}
use Rattle.cifti.specs.LabelTable.{table_keys, names_with}
use Rattle.cifti.specs.Rows.{label_table}
use Rattle.cifti.specs.Maps.{maps_of}
use Rattle.cifti.specs.Conditions.{conditions_of_header, conditions_of_labels, of_maps}
use Rattle.cifti.specs.Labels.{no_table, labels_refusals, keys_on, labels_on}
use Rattle.maps.specs.Good.{Good}
use Rattle.inside.specs.Walked.{way_at}
use Rattle.inside.proofs.Laws.Walked.{Agrees, not_there, stands_there, way_agrees}
use Rattle.map_names.specs.Treads.{named_at}
use Rattle.map_names.proofs.Laws.Treads.{way_in_map_lem}
use Rattle.map_names.proofs.Laws.Placed.{Fine, fine}
use Rattle.map_names.proofs.Laws.Reached.{listed_once}
use Rattle.label_reader.specs.Way.{table_way}
use Rattle.label_reader.specs.Before.{rows_before, number_before}
use Rattle.label_reader.proofs.Laws.Found.{TableOf, no_table_lem, a_table, table_of}

module _ (text lengths : List ℕ) (d i : ℕ) where
  abbrev rows : List Refusal
  rows = labels_refusals lengths (length text) d i (parse text)

  abbrev eighteen : List Refusal
  eighteen = 18 when of_maps (no_table d i) (parse text) ∷ []

  -- the rows in their groups
  grouped : (x : List Refusal) → rows ++ x ≡ rows_before text lengths ++ (eighteen ++ x)
  unfolding labels_refusals
  grouped x =
      append_assoc (conditions_of_header lengths (length text) (parse text)) (conditions_of_labels (parse text) ++ eighteen) x
      ∙ ap (λ l. conditions_of_header lengths (length text) (parse text) ++ l) (append_assoc (conditions_of_labels (parse text)) eighteen x)
      ∙ sym (append_assoc (conditions_of_header lengths (length text) (parse text)) (conditions_of_labels (parse text)) (eighteen ++ x))

  -- a number of those before is given, whatever rows follow
  pub kept_before : {n : ℕ} → (n ≡ 0 → ⊥) → n ≡ number_before text lengths → (x : List Refusal) → first (rows ++ x) ≡ n
  unfolding number_before
  kept_before {n} k h x = ap first (grouped x) ∙ first_kept (rows_before text lengths) (eighteen ++ x) n k (sym h)

  pub data Tabled : Option ℕ → Type 0 where
    untabled : ((x : List Refusal) → first (rows ++ x) ≡ 18) → Tabled None
    tabled : {t : ℕ} {e : Element} → parse text ≡ Some e → Stands text t → Good label_table (the text t)
        → ((x : List Refusal) → first (rows ++ x) ≡ first x) → keys_on d i (maps_of e) ≡ table_keys (the text t)
        → ((k : ℤ) → labels_on d i k e ≡ names_with k (the text t)) → way_at (table_way d i) text ≡ Some t → Tabled (Some t)

  module _ (h : 0 ≡ number_before text lengths) where
    none_before : NoneApplies (rows_before text lengths)
    unfolding number_before conditions_of_header conditions_of_labels positive
    none_before = given_none (rows_before text lengths) refl (sym h)

    behind : (x : List Refusal) → first (rows ++ x) ≡ first (eighteen ++ x)
    behind x = ap first (grouped x) ∙ first_none none_before (eighteen ++ x)

    document : Fine lengths (parse text)
    document = fine lengths (length text) (parse text)
        (none_front (conditions_of_header lengths (length text) (parse text)) (conditions_of_labels (parse text)) none_before)

    by_way : {f : Option ℕ} {o : Option Element} → way_at (table_way d i) text ≡ f → Agrees text f o → TableOf d i document.document o
        → Tabled f
    unfolding of_maps there first
    by_way w not_there (no_table_lem q) = untabled (λ x. behind x ∙ rw (document.is, q) refl)
    by_way w (stands_there {k} st) (a_table q s l g) =
        tabled {t = k} {e = document.document} document.is st g (λ x. behind x ∙ rw (document.is, q) refl) s l w

    -- THE LAW
    pub table_at : {f : Option ℕ} → f ≡ named_at text (ascii "LabelTable") d i → Tabled f
    unfolding table_way
    table_at {f} e =
        let so = e ∙ way_in_map_lem text "LabelTable" d i document.is in
        by_way (sym so) (rw so (way_agrees (table_way d i) text document.is))
        (table_of d i document.good (listed_once lengths (maps_of document.document) document.once d))
