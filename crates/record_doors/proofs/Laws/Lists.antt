-- One number, and one content of each slice lent, of the functions of the short list for C.
use Rattle.std.specs.Prelude.{◌≡◌, refl, Bool, true, false, cond, List, [], ◌∷◌, ℕ, length, Result}
use Rattle.std.proofs.Common.{sym, ap, ◌∙◌}
use Rattle.records.specs.Outcome.{unless}
use Rattle.records.specs.Fill.{wrote}
use Rattle.records.specs.declared.counters.Index.{Index}
use Rattle.shortlist.specs.Making.{listed_number, listed_count}
use Rattle.shortlist.specs.Runs.{runs}
use Rattle.shortlist.specs.Asking.{told_number, told_voxels, told_structure, sought_number, sought_index}
use Rattle.shortlist.proofs.Laws.Unique.{told_unique, sought_unique}
use Rattle.shortlist.specs.declared.answer.Told.{Told}
use Rattle.shortlist.specs.declared.answer.SearchFault.{SearchFault}
use Rattle.flat.specs.Flat.{laid_over}
use Rattle.record_doors.specs.Numbers.{numbers_of, models_in, good_numbers, TellsNumbers, SeeksNumbers}
use Rattle.record_doors.specs.Lists.{ListsFlat, TellsFlat, SeeksFlat}

module _ {records list slice : List ℕ} {m n : ℕ} {s t a b : List ℕ} where
  pub list_flat_unique : ListsFlat records list slice m s a → ListsFlat records list slice n t b → (m ≡ n) × (s ≡ t) × (a ≡ b)
  list_flat_unique p q =
      let e : listed_number p.answer ≡ listed_number q.answer = p.lists.numbered ∙ sym q.lists.numbered in
      let c : listed_count p.answer ≡ listed_count q.answer =
      p.lists.counted ∙ ap (λ k. unless k (length (runs records)) 0) e ∙ sym q.lists.counted in (
        p.numbered ∙ e ∙ sym q.numbered,
        p.lists.holds ∙ ap (λ k. unless k (wrote 0 (numbers_of (runs records)) list) list) e ∙ sym q.lists.holds,
        p.flat ∙ ap (λ k. laid_over (k ∷ []) slice) c ∙ sym q.flat,
      )

told_one : (l : List ℕ) (i : ℕ) (a b : Result Told SearchFault) → TellsNumbers l i a → TellsNumbers l i b → a ≡ b
told_one l i a b p q = by (good_numbers l) refl
  where
    by : (c : Bool) → good_numbers l ≡ c → a ≡ b
    by true e = told_unique (models_in l) i a b (p.good e) (q.good e)
    by false e = p.bad e ∙ sym (q.bad e)

sought_one : (l rs : List ℕ) (x : ℕ) (a b : Result Index SearchFault) → SeeksNumbers l rs x a → SeeksNumbers l rs x b → a ≡ b
sought_one l rs x a b p q = by (good_numbers l) refl
  where
    by : (c : Bool) → good_numbers l ≡ c → a ≡ b
    by true e = sought_unique (models_in l) rs x a b (p.good e) (q.good e)
    by false e = p.bad e ∙ sym (q.bad e)

module _ {list slice : List ℕ} {i m n : ℕ} {a b : List ℕ} where
  pub told_flat_unique : TellsFlat list i slice m a → TellsFlat list i slice n b → (m ≡ n) × (a ≡ b)
  told_flat_unique p q =
      let e : p.answer ≡ q.answer = told_one list i p.answer q.answer p.tells q.tells in (
        p.numbered ∙ ap told_number e ∙ sym q.numbered,
        p.flat ∙ ap (λ (k : Result Told SearchFault). laid_over (cond (told_voxels k) 1 0 ∷ told_structure k ∷ []) slice) e ∙ sym q.flat,
      )

module _ {list records slice : List ℕ} {x m n : ℕ} {a b : List ℕ} where
  pub sought_flat_unique : SeeksFlat list records x slice m a → SeeksFlat list records x slice n b → (m ≡ n) × (a ≡ b)
  sought_flat_unique p q =
      let e : p.answer ≡ q.answer = sought_one list records x p.answer q.answer p.seeks q.seeks in (
        p.numbered ∙ ap sought_number e ∙ sym q.numbered,
        p.flat ∙ ap (λ (k : Result Index SearchFault). laid_over (sought_index k ∷ []) slice) e ∙ sym q.flat,
      )

-- ---- As code tells them.

pub tells_flat : (list : List ℕ) (i : ℕ) (slice after : List ℕ) (a : Result Told SearchFault) (n k s : ℕ) → TellsNumbers list i a
    → k ≡ cond (told_voxels a) 1 0 → s ≡ told_structure a → n ≡ told_number a → after ≡ laid_over (k ∷ s ∷ []) slice
    → TellsFlat list i slice n after
tells_flat list i slice after a n k s h p q r e = record {
  answer = a;
  tells = h;
  numbered = r;
  flat = e ∙ ap (λ (x : ℕ). laid_over (x ∷ s ∷ []) slice) p ∙ ap (λ (x : ℕ). laid_over (cond (told_voxels a) 1 0 ∷ x ∷ []) slice) q;
}

pub seeks_flat : (list records : List ℕ) (x : ℕ) (slice after : List ℕ) (a : Result Index SearchFault) (n i : ℕ)
    → SeeksNumbers list records x a → i ≡ sought_index a → n ≡ sought_number a → after ≡ laid_over (i ∷ []) slice
    → SeeksFlat list records x slice n after
seeks_flat list records x slice after a n i h p r e = record {
  answer = a;
  seeks = h;
  numbered = r;
  flat = e ∙ ap (λ (y : ℕ). laid_over (y ∷ []) slice) p;
}
