-- TWO READINGS ALIKE: of a text, and of the same text with its line ends translated. Both fail, or both have read, and what the second
-- leaves is what the first leaves, translated.
use Rattle.std.specs.Prelude.{◌≡◌, Bool, ℕ, zero, suc, ◌<◌}
use mathlib.Core.List.{List}
use Rattle.std.proofs.Math.Bool.{true, false}
use Rattle.std.proofs.Common.{arith}
use Rattle.std.proofs.Math.ListN.{length}
use Rattle.grammar.specs.Read.{Read, fail, got, Reader, bind, test, alt, all_of, many_step}
use Rattle.grammar.proofs.Laws.Read.{Ok, ok_got}
use Rattle.grammar.proofs.Laws.Unfuelled.{all_of_step}
use Rattle.steps.specs.LineEnds.{line_ends}

pub data Alike {A : Type 0} (R : A → A → Type 0) : Read A → Read A → Type 0 where
  both_fail : Alike R fail fail
  both_got : {a b : A} {r : List ℕ} → R a b → Alike R (got a r) (got b (line_ends r))

-- the same value; any value
pub data Same {A : Type 0} (a : A) : A → Type 0 where
  same_value : Same a a

pub data Any {A : Type 0} (a b : A) : Type 0 where
  any_value : Any a b

pub reads : {A : Type 0} {a : A} {r t : List ℕ} → line_ends r ≡ t → Alike Same (got a r) (got a t)
reads e = rw (← e) (both_got same_value)

pub reads_any : {A : Type 0} {a b : A} {r t : List ℕ} → line_ends r ≡ t → Alike Any (got a r) (got b t)
reads_any e = rw (← e) (both_got any_value)

-- a text, and the same translated
pub data Ended (s : List ℕ) : List ℕ → Type 0 where
  ended : Ended s (line_ends s)

-- what follows
pub then : {A B : Type 0} {S : B → B → Type 0} {m n : Read A} {f g : A → List ℕ → Read B} {R : A → A → Type 0} → Alike R m n
    → ((a b : A) (r t : List ℕ) → R a b → Ended r t → Alike S (f a r) (g b t)) → Alike S (bind m f) (bind n g)
unfolding bind
then both_fail k = both_fail
then (both_got {a} {b} {r} h) k = k a b r (line_ends r) h ended

pub then_any : {A B : Type 0} {S : B → B → Type 0} {m n : Read A} {f g : A → List ℕ → Read B} → Alike Any m n
    → ((a b : A) (r t : List ℕ) → Ended r t → Alike S (f a r) (g b t)) → Alike S (bind m f) (bind n g)
unfolding bind
then_any both_fail k = both_fail
then_any (both_got {a} {b} {r} h) k = k a b r (line_ends r) ended

pub then_same : {A B : Type 0} {S : B → B → Type 0} {m n : Read A} {f g : A → List ℕ → Read B} → Alike Same m n
    → ((a : A) (r t : List ℕ) → Ended r t → Alike S (f a r) (g a t)) → Alike S (bind m f) (bind n g)
unfolding bind
then_same both_fail k = both_fail
then_same (both_got {a} {r = r} same_value) k = k a r (line_ends r) ended

-- with what is known of the first reading
pub then_known : {A B : Type 0} {S : B → B → Type 0} {m n : Read A} {f g : A → List ℕ → Read B} {R : A → A → Type 0}
    {Q : A → List ℕ → Type 0} → Ok Q m → Alike R m n
    → ((a b : A) (r t : List ℕ) → Q a r → R a b → Ended r t → Alike S (f a r) (g b t)) → Alike S (bind m f) (bind n g)
unfolding bind
then_known h both_fail k = both_fail
then_known h (both_got {a} {b} {r} e) k = k a b r (line_ends r) (ok_got h) e ended

pub then_so : {A B : Type 0} {S : B → B → Type 0} {m n : Read A} {f g : A → List ℕ → Read B} {Q : A → List ℕ → Type 0}
    → Ok Q m → Alike Same m n → ((a : A) (r t : List ℕ) → Q a r → Ended r t → Alike S (f a r) (g a t)) → Alike S (bind m f) (bind n g)
unfolding bind
then_so h both_fail k = both_fail
then_so h (both_got {a} {r = r} same_value) k = k a r (line_ends r) (ok_got h) ended

pub same_reads : {A : Type 0} {a : A} {r t : List ℕ} → Ended r t → Alike Same (got a r) (got a t)
same_reads ended = both_got same_value

pub any_reads : {A : Type 0} {a b : A} {r t : List ℕ} → Ended r t → Alike Any (got a r) (got b t)
any_reads ended = both_got any_value

pub so_reads : {A : Type 0} {R : A → A → Type 0} {a b : A} {r t : List ℕ} → R a b → Ended r t → Alike R (got a r) (got b t)
so_reads h ended = both_got h

pub either : {A : Type 0} {R : A → A → Type 0} {m n p q : Read A} → Alike R m n → Alike R p q → Alike R (alt m p) (alt n q)
unfolding alt
either both_fail k = k
either (both_got h) k = both_got h

pub forget : {A : Type 0} {R : A → A → Type 0} {m n : Read A} → Alike R m n → Alike Any m n
forget both_fail = both_fail
forget (both_got h) = both_got any_value

-- one value more, on the left alone
pub left_more : {A : Type 0} {m n : Read A} (f : A → A) → Alike Any m n → Alike Any (bind m (λ a r. got (f a) r)) n
unfolding bind
left_more f both_fail = both_fail
left_more f (both_got h) = both_got any_value

pub test_alike : (b : Bool) {s t : List ℕ} → Ended s t → Alike Same (test b s) (test b t)
unfolding test
test_alike true ended = both_got same_value
test_alike false ended = both_fail

-- things in a row
module _ {A : Type 0} (stop : List ℕ → Bool) (p : Reader A) (eats : (s : List ℕ) → Ok (λ _ r. length r < length s) (p s))
    (stops : (s : List ℕ) → stop (line_ends s) ≡ stop s) (one : (s t : List ℕ) → Ended s t → Alike Same (p s) (p t)) where
  step_alike : (n : ℕ) (s : List ℕ) → length s < suc n
      → ((r : List ℕ) → length r < n → Alike Same (all_of stop p r) (all_of stop p (line_ends r)))
      → (b : Bool) → Alike Same (many_step b p (all_of stop p) s) (many_step b p (all_of stop p) (line_ends s))
  unfolding many_step
  step_alike n s h ih true = both_got same_value
  step_alike n s h ih false = then_so (eats s) (one s (line_ends s) ended) λ a r t l e.
      then_same (more r t (omega arith) e) λ k r₁ t₁ e₁. same_reads e₁
    where
      more : (r t : List ℕ) → length r < n → Ended r t → Alike Same (all_of stop p r) (all_of stop p t)
      more r _ l ended = ih r l

  within : (n : ℕ) (s : List ℕ) → length s < n → Alike Same (all_of stop p s) (all_of stop p (line_ends s))
  within zero s h = absurd (omega arith)
  within (suc n) s h = rw (all_of_step p stop eats s, all_of_step p stop eats (line_ends s), stops s)
      (step_alike n s h (λ r l. within n r l) (stop s))

  pub rows_alike : {s t : List ℕ} → Ended s t → Alike Same (all_of stop p s) (all_of stop p t)
  rows_alike {s} ended = within (suc (length s)) s (omega arith)
