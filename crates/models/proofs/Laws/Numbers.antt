-- The paths of the reader of voxels.
use Rattle.std.specs.Prelude.{◌≡◌, List, [], ◌∷◌, ℕ, ◌<◌, refl, ◌+◌, ◌/◌, ◌%◌, ◌^◌}
use Rattle.std.proofs.Common.{sym, ◌∙◌, arith, rules}
use Rattle.std.proofs.Math.Path.{ap}
use Rattle.std.proofs.Math.Bool.{true≢false}
use Rattle.lists.specs.Lists.{all, each}
use Rattle.grammar.proofs.Laws.Facts.{and_left, and_right}
use Rattle.nodes.specs.Texts.{says_at}
use Rattle.numbers.specs.Numbers.{digits, value, words, values}
use Rattle.numbers.specs.Answers.{next_number}
use Rattle.numbers.proofs.Laws.Walk.{Handed, number_law, end_law, bad_law}
use Rattle.numbers.specs.declared.Next.{Next}
use Rattle.numbers.specs.declared.Next.TheVariants.{Number, End, Bad}
use Rattle.models.specs.declared.listing.Triple.{Triple}
use Rattle.models.specs.declared.listing.Triple.TheVariants as triple
use Rattle.models.specs.Numbers.{values_at, InForm, Passes, Passes3, CutShort, Threes, voxel_ahead, cut_ahead, none_ahead}
use Rattle.numbers.specs.Quick.{Quick}
use Rattle.models.specs.Numbers.{NextVoxel}

passes : {text : List ℕ} {i v j : ℕ} → InForm text i → Handed text i v j → Passes text i v j
unfolding values_at values each all
passes {text} {i} {v} {j} f h = record {
  splits = ap (each value) h.splits ∙ ap (λ n. n ∷ each value (words (says_at text j))) h.valued;
  form = record { all_digits = and_right (digits 1 7 h.word) _ (sym (ap (all (digits 1 7)) h.splits) ∙ f.all_digits) };
  ahead = h.ahead;
}

module _ {text : List ℕ} {i : ℕ} (f : InForm text i) {r : Next} (e : r ≡ next_number text i) where
  pub number_passes : {v j : ℕ} → r ≡ Number v j → Passes text i v j
  number_passes q = passes f (number_law text i e q)

  pub number_ends : r ≡ End → values_at text i ≡ []
  unfolding values_at values each
  number_ends q = ap (each value) (end_law text i e q)

  pub number_bad : r ≡ Bad → ⊥
  unfolding all
  number_bad q =
      let h = bad_law text i e q in
      true≢false (sym (and_left (digits 1 7 h.word) _ (sym (ap (all (digits 1 7)) h.splits) ∙ f.all_digits)) ∙ h.out_of_form)

-- by answer
module _ {text : List ℕ} {at : ℕ} {r : Triple} (e : Threes text at r) where
  pub voxel_passes : {i j k behind : ℕ} → r ≡ triple.Voxel i j k behind → Passes3 text at i j k behind
  voxel_passes {i} {j} {k} {behind} q = go r e q
    where
      go : (x : Triple) → Threes text at x → x ≡ triple.Voxel i j k behind → Passes3 text at i j k behind
      go x (voxel_ahead {i = a} {j = b} {k = c} {behind = d} h) q =
          let p : a ≡ i = cc in let s : b ≡ j = cc in let t : c ≡ k = cc in let u : d ≡ behind = cc in rw (p, s, t, u) at h
      go x (none_ahead h) q = let z : ◌≡◌ {A = ℕ} 0 1 = cc in absurd (omega arith)
      go x (cut_ahead h) q = let z : ◌≡◌ {A = ℕ} 0 1 = cc in absurd (omega arith)

  pub voxels_end : r ≡ triple.End → values_at text at ≡ []
  voxels_end q = go r e q
    where
      go : (x : Triple) → Threes text at x → x ≡ triple.End → values_at text at ≡ []
      go x (voxel_ahead h) q = let z : ◌≡◌ {A = ℕ} 0 1 = cc in absurd (omega arith)
      go x (none_ahead h) q = h
      go x (cut_ahead h) q = let z : ◌≡◌ {A = ℕ} 0 1 = cc in absurd (omega arith)

  pub voxels_cut : r ≡ triple.Cut → CutShort (values_at text at)
  voxels_cut q = go r e q
    where
      go : (x : Triple) → Threes text at x → x ≡ triple.Cut → CutShort (values_at text at)
      go x (voxel_ahead h) q = let z : ◌≡◌ {A = ℕ} 0 1 = cc in absurd (omega arith)
      go x (none_ahead h) q = let z : ◌≡◌ {A = ℕ} 0 1 = cc in absurd (omega arith)
      go x (cut_ahead h) q = h

module _ {text : List ℕ} {at : ℕ} (f : InForm text at) {r₁ : Next} (e₁ : r₁ ≡ next_number text at) where
  pub three_none : r₁ ≡ End → Threes text at triple.End
  three_none q = none_ahead (number_ends f e₁ q)

  pub three_bad : r₁ ≡ Bad → Threes text at triple.End
  three_bad q = absurd (number_bad f e₁ q)

  module _ {i second : ℕ} (q₁ : r₁ ≡ Number i second) where
    one : Passes text at i second
    one = number_passes f e₁ q₁

    pub three_second : InForm text second
    three_second = one.form

    module _ {r₂ : Next} (e₂ : r₂ ≡ next_number text second) where
      pub three_one : r₂ ≡ End → Threes text at triple.Cut
      three_one q =
          let s : values_at text at ≡ i ∷ [] = one.splits ∙ ap (λ l. i ∷ l) (number_ends three_second e₂ q) in
          cut_ahead (rw s (record { some = omega arith; few = omega arith }))

      pub three_bad_second : r₂ ≡ Bad → Threes text at triple.Cut
      three_bad_second q = absurd (number_bad three_second e₂ q)

      module _ {j third : ℕ} (q₂ : r₂ ≡ Number j third) where
        two : Passes text second j third
        two = number_passes three_second e₂ q₂

        splits_two : values_at text at ≡ i ∷ j ∷ values_at text third
        splits_two = one.splits ∙ ap (λ l. i ∷ l) two.splits

        module _ {r₃ : Next} (e₃ : r₃ ≡ next_number text third) where
          pub three_two : r₃ ≡ End → Threes text at triple.Cut
          three_two q =
              let s : values_at text at ≡ i ∷ j ∷ [] = splits_two ∙ ap (λ l. i ∷ j ∷ l) (number_ends two.form e₃ q) in
              cut_ahead (rw s (record { some = omega arith; few = omega arith }))

          pub three_bad_third : r₃ ≡ Bad → Threes text at triple.Cut
          three_bad_third q = absurd (number_bad two.form e₃ q)

          pub three_voxel : {k behind : ℕ} → r₃ ≡ Number k behind → Threes text at (triple.Voxel i j k behind)
          three_voxel q =
              let three = number_passes two.form e₃ q in
              voxel_ahead (record {
                splits = splits_two ∙ ap (λ l. i ∷ j ∷ l) three.splits;
                form = three.form;
                ahead = omega (arith, one.ahead, two.ahead, three.ahead);
              })

pub ruleset inThrees = (three_none, three_bad, three_one, three_bad_second, three_two, three_bad_third, three_voxel, rules)

-- three quick readings, one behind the other
module _ {text : List ℕ} {at first : ℕ} (one : Quick text at first) (n₁ : first ≡ 0 → ⊥) where
  pub second_fits : at + first % 16 < 2 ^ 64
  second_fits = one.fits n₁

  module _ {second : ℕ} (two : Quick text (at + first % 16) second) (n₂ : second ≡ 0 → ⊥) where
    pub third_fits : at + first % 16 + second % 16 < 2 ^ 64
    third_fits = two.fits n₂

    module _ {third : ℕ} (three : Quick text (at + first % 16 + second % 16) third) (n₃ : third ≡ 0 → ⊥) where
      pub behind_fits : at + first % 16 + second % 16 + third % 16 < 2 ^ 64
      behind_fits = three.fits n₃

      pub quick-voxel
          : NextVoxel text at (triple.Voxel (first / 16) (second / 16) (third / 16) (at + first % 16 + second % 16 + third % 16))
      quick-voxel = record { told = λ f. three_voxel f (one.told n₁) refl (two.told n₂) refl (three.told n₃) refl }

pub ruleset quickThrees = (second_fits, third_fits, behind_fits, quick-voxel, rules)
