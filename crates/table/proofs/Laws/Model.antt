-- What is proved of Model.
use Rattle.std.specs.Prelude.{◌≡◌, Bool, ℕ, ◌+◌, ◌-◌, ◌<◌, ◌≤◌, Option, Some, None}
use Rattle.std.proofs.Math.Path.{sym, ap}
use Rattle.std.proofs.Common.{◌∙◌, arith, rules}
use mathlib.Core.List.{List, []}
use Rattle.std.proofs.Math.Bool.{true, false}
use Rattle.lists.specs.Lists.{all, each, those}
use Rattle.numbers.specs.Numbers.{digits, words, values, parts, filled}
use Rattle.nodes.specs.Places.{the}
use Rattle.nodes.specs.Texts.{says_at, text_from}
use Rattle.nodes.proofs.Laws.TextSteps.{from_at, from_none}
use Rattle.records.specs.Record.{on_surface, record_of}
use Rattle.records.specs.Fill.{wrote, wrote_none}
use Rattle.cifti.specs.Maps.{Listed, vertices, voxels, model_of, threes, voxel_at, locations, locations_by}
use Rattle.maps.specs.Table.{model_records}
use Rattle.models.specs.Kind.{ModelAt, type_and_structure, type_number}
use Rattle.models.proofs.Laws.Kind.{structure_small}
use Rattle.models.specs.Numbers.{values_at, InForm}
use Rattle.models.specs.Listings.{listed_numbers, ListAt, StartOf}
use Rattle.table.specs.Listing.{located, records_listed, ListWritable}
use Rattle.table.specs.Model.{ModelFillable}

-- ---- The locations of a model are those that its numbers list.

by_voxels : (kind s : ℕ) (t : Listed) → kind ≡ type_number t + s → s < 32 → 32 ≤ kind
    → located true (kind - 32) (listed_numbers t) ≡ locations_by s t
unfolding located locations_by listed_numbers type_number
by_voxels kind s (vertices n l) e h k = absurd (omega arith)
by_voxels kind s (voxels l) e h k = let z : kind - 32 ≡ s = omega arith in ap (λ a. each (voxel_at a) (threes l)) z

by_vertices : (kind s : ℕ) (t : Listed) → kind ≡ type_number t + s → s < 32 → kind < 32
    → located false kind (listed_numbers t) ≡ locations_by s t
unfolding located locations_by listed_numbers type_number
by_vertices kind s (vertices n l) e h k = let z : kind ≡ s = omega arith in ap (λ a. each (on_surface a) l) z
by_vertices kind s (voxels l) e h k = absurd (omega arith)

by_none : (s : ℕ) (t : Listed) → listed_numbers t ≡ [] → locations_by s t ≡ []
unfolding locations_by listed_numbers each threes
by_none s (vertices n l) e = ap (each (on_surface s)) e
by_none s (voxels l) e = ap (λ x. each (voxel_at s) (threes x)) e

nothing_listed : (text : List ℕ) → values (text_from text None) ≡ []
unfolding values words each parts those filled
nothing_listed text = ap values (from_none text)

module _ {text : List ℕ} {m kind : ℕ} {out : List ℕ} {at : ℕ} (k : ModelFillable text m kind out at) where
  pub fill_model_at : ModelAt text m
  fill_model_at = k.model

  small : (model_of (the text m)).structure < 32
  small = structure_small k.model.good

  kind_of : kind ≡ type_number (model_of (the text m)).listed + (model_of (the text m)).structure
  unfolding type_and_structure
  kind_of = k.kind_is

  module _ {f : Option ℕ} (st : StartOf text m f) where
    x : ListAt text m f
    x = st.told k.model

    pub fill_none : f ≡ None → out ≡ wrote at (model_records (model_of (the text m))) out
    unfolding model_records locations each
    fill_none q =
        let e : listed_numbers (model_of (the text m)).listed ≡ [] = sym x.numbers ∙ ap (λ g. values (text_from text g)) q
        ∙ nothing_listed text in
        sym (ap (λ l. wrote at (each record_of l) out) (by_none (model_of (the text m)).structure (model_of (the text m)).listed e)
        ∙ wrote_none at out)

    module _ {i : ℕ} (q : f ≡ Some i) where
      said : text_from text f ≡ says_at text i
      said = ap (text_from text) q ∙ from_at text i

      form : InForm text i
      form = record { all_digits = sym (ap (λ w. all (digits 1 7) (words w)) said) ∙ x.form }

      numbers : listed_numbers (model_of (the text m)).listed ≡ values_at text i
      unfolding values_at
      numbers = sym x.numbers ∙ ap values said

      module _ (v : Bool) (s : ℕ) (e : located v s (values_at text i) ≡ locations (model_of (the text m))) where
        records : records_listed v s (values_at text i) ≡ model_records (model_of (the text m))
        unfolding records_listed model_records
        records = ap (each record_of) e

        writable : ListWritable v s text i at out
        writable = record { form = form; fits = rw e k.fits; room = rw records k.room }

      voxels_located : 32 ≤ kind → located true (kind - 32) (values_at text i) ≡ locations (model_of (the text m))
      unfolding locations
      voxels_located h = ap (located true (kind - 32)) (sym numbers) ∙ by_voxels kind _ _ kind_of small h

      vertices_located : kind < 32 → located false kind (values_at text i) ≡ locations (model_of (the text m))
      unfolding locations
      vertices_located h = ap (located false kind) (sym numbers) ∙ by_vertices kind _ _ kind_of small h

      pub fill_voxels_can : 32 ≤ kind → ListWritable true (kind - 32) text i at out
      fill_voxels_can h = writable true (kind - 32) (voxels_located h)

      pub fill_voxels_done : 32 ≤ kind → {after : List ℕ} → after ≡ wrote at (records_listed true (kind - 32) (values_at text i)) out
          → after ≡ wrote at (model_records (model_of (the text m))) out
      fill_voxels_done h e = e ∙ ap (λ l. wrote at l out) (records true (kind - 32) (voxels_located h))

      pub fill_vertices_can : kind < 32 → ListWritable false kind text i at out
      fill_vertices_can h = writable false kind (vertices_located h)

      pub fill_vertices_done : kind < 32 → {after : List ℕ} → after ≡ wrote at (records_listed false kind (values_at text i)) out
          → after ≡ wrote at (model_records (model_of (the text m))) out
      fill_vertices_done h e = e ∙ ap (λ l. wrote at l out) (records false kind (vertices_located h))

pub ruleset fillingModel = (fill_model_at, fill_none, fill_voxels_can, fill_voxels_done, fill_vertices_can, fill_vertices_done, rules)
