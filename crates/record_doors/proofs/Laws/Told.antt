-- WHAT AN ANSWER TELLS, in numbers. Assumes nothing.
use Rattle.std.specs.Prelude.{◌≡◌, Bool, cond, ℕ, Result, Ok, Err}
use Rattle.std.proofs.Common.{sym, ap, ◌∙◌}
use Rattle.records.specs.declared.counters.Index.{Index}
use Rattle.shortlist.specs.Asking.{told_number, told_voxels, told_structure, sought_number, sought_index}
use Rattle.shortlist.specs.declared.answer.Told.{Told}
use Rattle.shortlist.specs.declared.answer.SearchFault.{SearchFault}

module _ (a : Result Told SearchFault) where
  pub number_is : {t : Told} → a ≡ Ok t → 0 ≡ told_number a
  number_is e = sym (ap told_number e)

  pub number_bad : a ≡ Err SearchFault.BadList → 26 ≡ told_number a
  number_bad e = sym (ap told_number e)

  pub number_nothing : a ≡ Err SearchFault.NotFound → 19 ≡ told_number a
  number_nothing e = sym (ap told_number e)

  pub type_is : {t : Told} {r : ℕ} → a ≡ Ok t → r ≡ cond t.voxels 1 0 → r ≡ cond (told_voxels a) 1 0
  type_is e f = f ∙ sym (ap (λ (t : Result Told SearchFault). cond (told_voxels t) 1 0) e)

  pub type_bad : a ≡ Err SearchFault.BadList → ◌≡◌ {A = ℕ} 0 (cond (told_voxels a) 1 0)
  type_bad e = sym (ap (λ (t : Result Told SearchFault). cond (told_voxels t) 1 0) e)

  pub type_nothing : a ≡ Err SearchFault.NotFound → ◌≡◌ {A = ℕ} 0 (cond (told_voxels a) 1 0)
  type_nothing e = sym (ap (λ (t : Result Told SearchFault). cond (told_voxels t) 1 0) e)

  pub structure_is : {t : Told} → a ≡ Ok t → t.structure ≡ told_structure a
  structure_is e = sym (ap told_structure e)

  pub structure_bad : a ≡ Err SearchFault.BadList → 0 ≡ told_structure a
  structure_bad e = sym (ap told_structure e)

  pub structure_nothing : a ≡ Err SearchFault.NotFound → 0 ≡ told_structure a
  structure_nothing e = sym (ap told_structure e)

module _ (a : Result Index SearchFault) where
  pub sought_at : {i : Index} → a ≡ Ok i → 0 ≡ sought_number a
  sought_at e = sym (ap sought_number e)

  pub sought_bad : a ≡ Err SearchFault.BadList → 26 ≡ sought_number a
  sought_bad e = sym (ap sought_number e)

  pub sought_nowhere : a ≡ Err SearchFault.NotFound → 19 ≡ sought_number a
  sought_nowhere e = sym (ap sought_number e)

  pub index_at : {i : Index} → a ≡ Ok i → i.0 ≡ sought_index a
  index_at e = sym (ap sought_index e)

  pub index_bad : a ≡ Err SearchFault.BadList → 0 ≡ sought_index a
  index_bad e = sym (ap sought_index e)

  pub index_nowhere : a ≡ Err SearchFault.NotFound → 0 ≡ sought_index a
  index_nowhere e = sym (ap sought_index e)

pub ruleset told_numbers = (number_is, number_bad, number_nothing)

pub ruleset told_types = (type_is, type_bad, type_nothing)

pub ruleset told_structures = (structure_is, structure_bad, structure_nothing)

pub ruleset sought_numbers = (sought_at, sought_bad, sought_nowhere)

pub ruleset sought_indices = (index_at, index_bad, index_nowhere)
