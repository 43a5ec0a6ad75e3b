-- What is said of a model's list, as the code reads it.
use Rattle.std.specs.Prelude.{◌≡◌, false, ℕ, ◌+◌, ◌*◌, ◌<◌, ◌≤◌, length, Option, Some, None}
use Rattle.std.proofs.Math.Path.{refl, sym, ap, ap₂}
use Rattle.std.proofs.Common.{◌∙◌, arith, rules, ne_eqb}
use mathlib.Core.List.{List, []}
use Rattle.lists.specs.Lists.{each, those}
use Rattle.grammar.specs.Bytes.{ascii}
use Rattle.grammar.specs.Document.{Element}
use Rattle.grammar.specs.Look.{attr, text_of}
use Rattle.numbers.specs.Numbers.{value, words, values, parts, filled}
use Rattle.nodes.specs.Places.{Stands, the}
use Rattle.nodes.specs.Texts.{text_from}
use Rattle.nodes.proofs.Laws.TextSteps.{from_none}
use Rattle.cifti.specs.Maps.{Voxel, Listed, vertices, voxels, model_of, voxels_of}
use Rattle.cifti.specs.Conditions.{lists_count, beyond}
use Rattle.maps.proofs.Laws.Kinds.{model_facts}
use Rattle.maps.specs.Kinds.{GoodModel}
use Rattle.maps.specs.Fields.{attribute_word, number_seen}
use Rattle.maps.proofs.Laws.Fields.{word_at, number_seen_lem}
use Rattle.models.proofs.Laws.Brain.{whole_within}
use Rattle.models.specs.Kind.{type_and_structure, type_number}
use Rattle.models.proofs.Laws.Kind.{structure_small}
use Rattle.models.specs.Numbers.{values_at, InForm}
use Rattle.models.specs.Verdicts.{verdict_by, list_verdict, vertices_verdict, voxels_verdict}
use Rattle.models.specs.Listings.{listed_numbers, ListAt, StartOf, ModelKnown}
use Rattle.models.proofs.Laws.ListingSteps.{Lists, lists_vertices, lists_voxels, model_lists, list_none}
use Rattle.models.proofs.Laws.ListingSteps.{list_there, list_form, list_numbers, listed_is}

pub ruleset starting = (list_none, list_there, rules)

values_none : values [] ≡ []
unfolding values words each parts those filled
values_none = refl

counts_none : (n : ℕ) (l : Listed) → 1 ≤ n → listed_numbers l ≡ [] → lists_count n l ≡ false
unfolding lists_count listed_numbers
counts_none n (vertices s l) h e = ne_eqb (length l) n (λ z. omega (arith, ap length e))
counts_none n (voxels l) h e = ne_eqb (length l) (3 * n) (λ z. omega (arith, ap length e))

pub count_some : {e : Element} → GoodModel e → 1 ≤ (model_of e).count
unfolding model_of
count_some {e} g = (whole_within 1 1048576 (attr "IndexCount" e) (model_facts g).count).0

voxels_said : (volume : Voxel) (size : ℕ) (l : List ℕ)
    → verdict_by (lists_count size (voxels l)) (beyond volume (voxels l)) ≡ voxels_verdict size volume l
unfolding lists_count beyond voxels_of voxels_verdict
voxels_said volume size l = refl

vertices_said : (volume : Voxel) (size surface : ℕ) (l : List ℕ)
    → verdict_by (lists_count size (vertices surface l)) (beyond volume (vertices surface l)) ≡ vertices_verdict size surface l
unfolding lists_count beyond vertices_verdict
vertices_said volume size surface l = refl

module _ (volume : Voxel) {text : List ℕ} {at size kind : ℕ} (k : ModelKnown text at size kind) {f : Option ℕ} (st : StartOf text at f) where
  x : ListAt text at f
  x = st.told k.model

  pub judge_stands : Stands text at
  judge_stands = k.model.stands

  pub judge_none : f ≡ None → 11 ≡ list_verdict volume (model_of (the text at))
  unfolding list_verdict verdict_by
  judge_none q =
      let e : listed_numbers (model_of (the text at)).listed ≡ [] = sym x.numbers ∙ ap (λ g. values (text_from text g)) q
      ∙ ap values (from_none text) ∙ values_none in
      let c = counts_none (model_of (the text at)).count (model_of (the text at)).listed (count_some k.model.good) e in
      sym (rw c)

  module _ {i : ℕ} (q : f ≡ Some i) where
    pub judge_form : InForm text i
    judge_form = list_form x q

    numbers : listed_numbers (model_of (the text at)).listed ≡ values_at text i
    numbers = list_numbers x q

    pub judge_voxels : 32 ≤ kind → {r : ℕ} → r ≡ voxels_verdict size volume (values_at text i)
        → r ≡ list_verdict volume (model_of (the text at))
    unfolding list_verdict type_and_structure type_number listed_numbers
    judge_voxels h {r} y = y ∙ sym (go (model_of (the text at)).listed refl (sym k.kind_is) numbers)
      where
        go : (l : Listed) → (model_of (the text at)).listed ≡ l → type_number l + (model_of (the text at)).structure ≡ kind
            → listed_numbers l ≡ values_at text i
            → verdict_by (lists_count (model_of (the text at)).count l) (beyond volume l) ≡ voxels_verdict size volume (values_at text i)
        go (vertices s l) p e n = absurd (omega (arith, structure_small k.model.good))
        go (voxels l) p e n = voxels_said volume (model_of (the text at)).count l
            ∙ ap₂ (λ a b. voxels_verdict a volume b) (sym k.length_is) n

    pub judge_vertices : kind < 32 → {surface r : ℕ}
        → surface ≡ number_seen 1 1048576 (attribute_word (ascii "SurfaceNumberOfVertices") (the text at))
        → r ≡ vertices_verdict size surface (values_at text i) → r ≡ list_verdict volume (model_of (the text at))
    unfolding list_verdict type_and_structure type_number listed_numbers
    judge_vertices h {surface} {r} s y = y ∙ sym (go (model_lists k.model.good))
      where
        wide : (l : Listed) → (model_of (the text at)).listed ≡ l → kind ≡ type_number l + (model_of (the text at)).structure
        wide l p = k.kind_is ∙ ap (λ z. type_number z + (model_of (the text at)).structure) p

        go : Lists (the text at) → verdict_by (lists_count (model_of (the text at)).count (model_of (the text at)).listed)
            (beyond volume (model_of (the text at)).listed) ≡ vertices_verdict size surface (values_at text i)
        go (lists_voxels o a g n) = absurd (let z = wide _ (listed_is (the text at) ∙ n) in omega arith)
        go (lists_vertices o a g n w) =
            let p = listed_is (the text at) ∙ n in
            let seen : surface ≡ value (attr "SurfaceNumberOfVertices" (the text at)) =
            s ∙ ap (number_seen 1 1048576) (word_at "SurfaceNumberOfVertices" (the text at))
            ∙ number_seen_lem 1 1048576 (attr "SurfaceNumberOfVertices" (the text at)) w in
            let same : values (text_of o) ≡ values_at text i = sym (ap listed_numbers p) ∙ numbers in
            ap (λ l. verdict_by (lists_count (model_of (the text at)).count l) (beyond volume l)) p
            ∙ vertices_said volume (model_of (the text at)).count (value (attr "SurfaceNumberOfVertices" (the text at)))
            (values (text_of o))
            ∙ ap₂ (λ b c. vertices_verdict b (value (attr "SurfaceNumberOfVertices" (the text at))) c) (sym k.length_is) same
            ∙ ap (λ b. vertices_verdict size b (values_at text i)) (sym seen)

pub ruleset judging = (judge_stands, judge_none, judge_form, judge_voxels, judge_vertices, rules)
