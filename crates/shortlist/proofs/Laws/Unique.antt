-- Each door's promise leaves one answer, and one content of the list lent. Assumes nothing.
use Rattle.std.specs.Prelude.{◌≡◌, refl, Bool, false, cond, List, ℕ, ◌+◌, eqb, length, Result, Ok, Err}
use Rattle.std.proofs.Common.{sym, ap, ◌∙◌, ⊎_elim}
use Rattle.records.specs.Outcome.{unless}
use Rattle.records.proofs.Laws.Unique.{same_place}
use Rattle.lists.proofs.Laws.Numbers.{eq?}
use Rattle.shortlist.specs.Runs.{runs, kind_of, laid}
use Rattle.shortlist.specs.Making.{listed_number, listed_count, Lists}
use Rattle.shortlist.specs.Asking.{the_model, holds_index, of_kind, own_stretch, told_number, told_voxels, told_structure, Tells}
use Rattle.shortlist.specs.Asking.{sought_number, sought_index, StandsAt, Seeks}
use Rattle.shortlist.specs.declared.answer.Model.{Model}
use Rattle.shortlist.specs.declared.answer.ListFault.{ListFault}
use Rattle.shortlist.specs.declared.answer.Told.{Told}
use Rattle.shortlist.specs.declared.answer.SearchFault.{SearchFault}
use Rattle.records.specs.declared.counters.Index.{Index}

-- an answer is told by its number and values
listed_by : (number count : ℕ) → Result ℕ ListFault
listed_by n c =
    cond (eqb n 15) (Err ListFault.BadCount)
    (cond (eqb n 16) (Err ListFault.BadRecord)
    (cond (eqb n 26) (Err ListFault.Parted) (cond (eqb n 17) (Err ListFault.TooShort) (Ok c))))

listed_back : (a : Result ℕ ListFault) → listed_by (listed_number a) (listed_count a) ≡ a
unfolding listed_by
listed_back (Ok n) = refl
listed_back (Err ListFault.BadCount) = refl
listed_back (Err ListFault.BadRecord) = refl
listed_back (Err ListFault.Parted) = refl
listed_back (Err ListFault.TooShort) = refl

pub list_unique : (rs : List ℕ) (before : List Model) (a b : Result ℕ ListFault) (x y : List Model) → Lists rs before a x → Lists rs before b y
    → (a ≡ b) × (x ≡ y)
list_unique rs before a b x y p q =
    let n : listed_number a ≡ listed_number b = p.numbered ∙ sym q.numbered in
    let c : listed_count a ≡ listed_count b =
    p.counted ∙ ap (λ k. unless k (length (runs rs)) 0) n ∙ sym q.counted in (
      sym (listed_back a) ∙ ap (λ k. listed_by k (listed_count a)) n ∙ ap (listed_by (listed_number b)) c ∙ listed_back b,
      p.holds ∙ ap (λ k. unless k (laid (runs rs) before) before) n ∙ sym q.holds,
    )

told_by : ℕ → Bool → ℕ → Result Told SearchFault
told_by n v s =
    cond (eqb n 26) (Err SearchFault.BadList) (cond (eqb n 19) (Err SearchFault.NotFound) (Ok (record { voxels = v; structure = s })))

told_back : (a : Result Told SearchFault) → told_by (told_number a) (told_voxels a) (told_structure a) ≡ a
unfolding told_by
told_back (Ok t) = refl
told_back (Err SearchFault.BadList) = refl
told_back (Err SearchFault.NotFound) = refl

pub told_unique : (l : List Model) (n : ℕ) (a b : Result Told SearchFault) → Tells l n a → Tells l n b → a ≡ b
told_unique l n a b p q =
    let k : told_number a ≡ told_number b = p.numbered ∙ sym q.numbered in
    let v : told_voxels a ≡ told_voxels b =
    p.voxels ∙ ap (λ i. unless i (the_model (holds_index n) l).voxels false) k ∙ sym q.voxels in
    let s : told_structure a ≡ told_structure b =
    p.structure ∙ ap (λ i. unless i (the_model (holds_index n) l).structure 0) k ∙ sym q.structure in
    sym (told_back a) ∙ ap (λ i. told_by i (told_voxels a) (told_structure a)) k ∙ ap (λ i. told_by (told_number b) i (told_structure a)) v
    ∙ ap (told_by (told_number b) (told_voxels b)) s ∙ told_back b

sought_by : ℕ → ℕ → Result Index SearchFault
sought_by n i = cond (eqb n 26) (Err SearchFault.BadList) (cond (eqb n 19) (Err SearchFault.NotFound) (Ok (record { 0 = i })))

sought_back : (a : Result Index SearchFault) → sought_by (sought_number a) (sought_index a) ≡ a
unfolding sought_by
sought_back (Ok n) = refl
sought_back (Err SearchFault.BadList) = refl
sought_back (Err SearchFault.NotFound) = refl

pub sought_unique : (l : List Model) (rs : List ℕ) (x : ℕ) (a b : Result Index SearchFault) → Seeks l rs x a → Seeks l rs x b → a ≡ b
sought_unique l rs x a b p q =
    let n : sought_number a ≡ sought_number b = p.numbered ∙ sym q.numbered in
    let i : sought_index a ≡ sought_index b =
    ⊎_elim (λ (z : sought_number a ≡ 0). found (p.found z) (q.found (sym n ∙ z)))
    (λ (z : sought_number a ≡ 0 → ⊥). p.refused z ∙ sym (q.refused (λ y. z (n ∙ y)))) (eq? (sought_number a) 0) in
    sym (sought_back a) ∙ ap (λ k. sought_by k (sought_index a)) n ∙ ap (sought_by (sought_number b)) i ∙ sought_back b
  where
    found : {i j : ℕ} → StandsAt l rs x i → StandsAt l rs x j → i ≡ j
    found u v =
        u.index_is
        ∙ ap (λ k. (the_model (of_kind (kind_of x)) l).first.0 + k)
        (same_place (own_stretch l rs x) x u.place v.place u.first_place v.first_place)
        ∙ sym v.index_is
