-- Things in a row and then one more reader, whose loop needs no fuel.
use Rattle.std.specs.Prelude.{◌≡◌, refl, List, ◌∷◌, Bool, true, false, ℕ, ◌<◌, length, drop, Option, Some, None}
use Rattle.std.proofs.Math.Path.{ap, sym}
use Rattle.std.proofs.Common.{◌∙◌}
use Rattle.grammar.specs.Read.{Read, fail, got, Reader, bind, all_of, many_step}
use Rattle.grammar.proofs.Laws.Read.{Ok}
use Rattle.grammar.proofs.Laws.Unfuelled.{all_of_step}
use Rattle.steps.specs.Step.{stepped, Went}
use Rattle.steps.proofs.Laws.Step.{refuses, fell, Tails, went, went_on}
use Rattle.steps.specs.Until.{until}

pub bind_assoc : {A B C : Type 0} (m : Read A) (f : A → List ℕ → Read B) (g : B → List ℕ → Read C)
    → bind (bind m f) g ≡ bind m (λ a r. bind (f a r) g)
unfolding bind
bind_assoc fail f g = refl
bind_assoc (got a r) f g = refl

pub bind_each : {A B : Type 0} (m : Read A) (f g : A → List ℕ → Read B) → ((a : A) (r : List ℕ) → f a r ≡ g a r) → bind m f ≡ bind m g
unfolding bind
bind_each fail f g h = refl
bind_each (got a r) f g h = h a r

-- answers do not see the value
pub stepped_each : {A B C : Type 0} (n : ℕ) (m : Read A) (f : A → List ℕ → Read B) (g : A → List ℕ → Read C)
    → ((a : A) (r : List ℕ) → stepped n (f a r) ≡ stepped n (g a r))
    → stepped n (bind m f) ≡ stepped n (bind m g)
unfolding bind stepped
stepped_each n fail f g h = refl
stepped_each n (got a r) f g h = h a r

pub stepped_value : {A B : Type 0} (n : ℕ) (m : Read A) (f : A → B) → stepped n (bind m (λ a r. got (f a) r)) ≡ stepped n m
unfolding bind stepped
stepped_value n fail f = refl
stepped_value n (got a r) f = refl

module _ {A B : Type 0} (stop : List ℕ → Bool) (p : Reader A) (k : Reader B)
    (eats : (s : List ℕ) → Ok (λ _ r. length r < length s) (p s)) (s : List ℕ) where
  pub until_stop : stop s ≡ true → until stop p k s ≡ k s
  unfolding until many_step bind
  until_stop e = rw (all_of_step p stop eats s, e)

  pub until_go : stop s ≡ false → until stop p k s ≡ bind (p s) (λ _ r. until stop p k r)
  unfolding until many_step bind
  until_go e = rw (all_of_step p stop eats s, e, bind_assoc (p s))
      (bind_each (p s) _ _ λ a r. bind_assoc (all_of stop p r) (λ l r₁. got (a ∷ l) r₁) (λ _ r₁. k r₁))

-- A loop of the program over such a reader: the same answer from here.
pub record Going {A B : Type 0} (stop : List ℕ → Bool) (p : Reader A) (k : Reader B) (text : List ℕ) (at i : ℕ) : Type 0 where
  pub same_end : stepped (length text) (until stop p k (drop at text)) ≡ stepped (length text) (until stop p k (drop i text))

module _ {A B : Type 0} (stop : List ℕ → Bool) (p : Reader A) (k : Reader B)
    (eats : (s : List ℕ) → Ok (λ _ r. length r < length s) (p s)) (text : List ℕ) (at i : ℕ) (go : Going stop p k text at i) where
  abbrev Answer : Option ℕ → Type 0
  Answer r = r ≡ stepped (length text) (until stop p k (drop at text))

  pub going_stops : stop (drop i text) ≡ true → {r : Option ℕ} → r ≡ stepped (length text) (k (drop i text)) → Answer r
  going_stops e q = q ∙ sym (go.same_end ∙ ap (stepped (length text)) (until_stop stop p k eats (drop i text) e))

  module _ (e : stop (drop i text) ≡ false) where
    onward : until stop p k (drop i text) ≡ bind (p (drop i text)) (λ _ r. until stop p k r)
    onward = until_go stop p k eats (drop i text) e

    pub going_fails : p (drop i text) ≡ fail → Answer None
    unfolding bind
    going_fails q = refuses (length text) (until stop p k (drop i text)) (onward ∙ rw q) ∙ sym go.same_end

    pub going_stuck : {r : Option ℕ} → r ≡ stepped (length text) (p (drop i text)) → r ≡ None → Answer None
    going_stuck q n = going_fails (fell (length text) (p (drop i text)) (sym n ∙ q))

    module _ (ends : (s : List ℕ) → Ok (Tails s) (p s)) {j : ℕ} {r : Option ℕ} (q : r ≡ stepped (length text) (p (drop i text)))
        (n : r ≡ Some j) where
      step : Went p text i j
      step = went p text i j (ends (drop i text)) (sym n ∙ q)

      pub going_goes : Going stop p k text at j
      unfolding bind
      going_goes = record { same_end = go.same_end ∙ ap (stepped (length text)) (onward ∙ rw step.reads) }

pub moved : {A : Type 0} (p : Reader A) (eats : (s : List ℕ) → Ok (λ _ r. length r < length s) (p s))
    (ends : (s : List ℕ) → Ok (Tails s) (p s)) (text : List ℕ) (i : ℕ) {j : ℕ} {r : Option ℕ}
    → r ≡ stepped (length text) (p (drop i text)) → r ≡ Some j → i < j
moved p eats ends text i {j} q n = went_on (went p text i j (ends (drop i text)) (sym n ∙ q)) (eats (drop i text))

pub going_start : {A B : Type 0} (stop : List ℕ → Bool) (p : Reader A) (k : Reader B) (text : List ℕ) (at : ℕ) → Going stop p k text at at
going_start stop p k text at = record { same_end = refl }
