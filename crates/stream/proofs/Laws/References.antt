-- References, behind `&` and behind `&a`.
use Rattle.std.specs.Prelude.{◌≡◌, refl, List, ◌∷◌, ℕ, Bool, false, eqb}
use Rattle.std.proofs.Math.Path.{ap}
use Rattle.std.proofs.Common.{◌∙◌}
use borrow.Author.Tests.{eqb-true}
use Rattle.grammar.specs.Bytes.{ascii}
use Rattle.grammar.specs.Read.{Read, fail, bind, mark, alt}
use Rattle.grammar.proofs.Laws.Read.{mark_other}
use Rattle.grammar.specs.Parser.{stands_for, reference_at}
use Rattle.stream.specs.Jobs.{ampersand, ampersand_a, change_ampersand, change_ampersand_a}
use Rattle.stream.proofs.Laws.Meets.{Passing, leads, meets, meets_all, changed, leads_value, leads_fail, leads_first, alt_second}
use Rattle.stream.proofs.Laws.Meets.{by_test}
use Rattle.stream.proofs.Laws.Leaves.{mark_first}

-- a reference that does not go on with `b` where `a` stands, and one that does
stands_other : (b a : ℕ) (w v s : List ℕ) → eqb a b ≡ false → stands_for (38 ∷ b ∷ w) v (38 ∷ a ∷ s) ≡ fail
unfolding stands_for bind
stands_other b a w v s e = rw (mark_first 38 (b ∷ w) (a ∷ s), mark_other b a w s e)

stands_same : (b : ℕ) (w v s : List ℕ) (k : Passing)
    → leads (stands_for (38 ∷ b ∷ w) v (38 ∷ b ∷ s)) (λ _ r. k r) ≡ leads (mark w s) (λ _ r. k r)
unfolding stands_for
stands_same b w v s k =
    leads_value (mark (38 ∷ b ∷ w) (38 ∷ b ∷ s)) (λ _. v) k
    ∙ ap (λ m. leads m (λ _ r. k r)) (mark_first 38 (b ∷ w) (b ∷ s) ∙ mark_first b w s)

both_fail : {A : Type 0} (m n : Read A) → m ≡ fail → n ≡ fail → alt m n ≡ fail
unfolding alt
both_fail m n e h = rw (e, h)

module _ (k : Passing) (s : List ℕ) where
  abbrev refers : List ℕ → Bool
  refers u = leads (reference_at u) (λ _ r. k r)

  abbrev other : (b a : ℕ) (w v : List ℕ) → eqb a b ≡ false → stands_for (38 ∷ b ∷ w) v (38 ∷ a ∷ s) ≡ fail
  other b a w v e = stands_other b a w v s e

  refers_l : refers (38 ∷ 108 ∷ s) ≡ leads (mark (ascii "t;") s) (λ _ r. k r)
  unfolding reference_at
  refers_l =
      ap (λ m. leads m (λ _ r. k r)) (alt_second _ _ (other 97 108 (ascii "mp;") _ refl))
      ∙ leads_first _ _ _ (both_fail _ _ (other 103 108 (ascii "t;") _ refl)
      (both_fail _ _ (other 113 108 (ascii "uot;") _ refl) (other 97 108 (ascii "pos;") _ refl)))
      ∙ stands_same 108 (ascii "t;") _ s k

  refers_g : refers (38 ∷ 103 ∷ s) ≡ leads (mark (ascii "t;") s) (λ _ r. k r)
  unfolding reference_at
  refers_g =
      ap (λ m. leads m (λ _ r. k r))
      (alt_second _ _ (other 97 103 (ascii "mp;") _ refl) ∙ alt_second _ _ (other 108 103 (ascii "t;") _ refl))
      ∙ leads_first _ _ _ (both_fail _ _ (other 113 103 (ascii "uot;") _ refl) (other 97 103 (ascii "pos;") _ refl))
      ∙ stands_same 103 (ascii "t;") _ s k

  refers_q : refers (38 ∷ 113 ∷ s) ≡ leads (mark (ascii "uot;") s) (λ _ r. k r)
  unfolding reference_at
  refers_q =
      ap (λ m. leads m (λ _ r. k r))
      (alt_second _ _ (other 97 113 (ascii "mp;") _ refl) ∙ alt_second _ _ (other 108 113 (ascii "t;") _ refl)
      ∙ alt_second _ _ (other 103 113 (ascii "t;") _ refl))
      ∙ leads_first _ _ _ (other 97 113 (ascii "pos;") _ refl)
      ∙ stands_same 113 (ascii "uot;") _ s k

  refers_not : (a : ℕ) → eqb a 97 ≡ false → eqb a 108 ≡ false → eqb a 103 ≡ false → eqb a 113 ≡ false → refers (38 ∷ a ∷ s) ≡ false
  unfolding reference_at
  refers_not a e₁ e₂ e₃ e₄ =
      leads_fail _ _
      (both_fail _ _ (other 97 a (ascii "mp;") _ e₁)
      (both_fail _ _ (other 108 a (ascii "t;") _ e₂)
      (both_fail _ _ (other 103 a (ascii "t;") _ e₃)
      (both_fail _ _ (other 113 a (ascii "uot;") _ e₄) (other 97 a (ascii "pos;") _ e₁)))))

  pub ampersand_law : (a : ℕ) → meets ampersand k (a ∷ s) ≡ changed (change_ampersand a) k a s
  unfolding meets meets_all changed change_ampersand
  ampersand_law a =
      by_test (eqb a 97) _ _ k a s (λ e. let z = eqb-true a 97 e in rw z) λ e₁.
      by_test (eqb a 108) _ _ k a s (λ e. let z = eqb-true a 108 e in rw z refers_l) λ e₂.
      by_test (eqb a 103) _ _ k a s (λ e. let z = eqb-true a 103 e in rw z refers_g) λ e₃.
      by_test (eqb a 113) _ _ k a s (λ e. let z = eqb-true a 113 e in rw z refers_q) λ e₄. refers_not a e₁ e₂ e₃ e₄

-- `&a`
stands_third : (b a : ℕ) (w v s : List ℕ) → eqb a b ≡ false → stands_for (38 ∷ 97 ∷ b ∷ w) v (38 ∷ 97 ∷ a ∷ s) ≡ fail
unfolding stands_for bind
stands_third b a w v s e = rw (mark_first 38 (97 ∷ b ∷ w) (97 ∷ a ∷ s), mark_first 97 (b ∷ w) (a ∷ s), mark_other b a w s e)

stands_on : (b : ℕ) (w v s : List ℕ) (k : Passing)
    → leads (stands_for (38 ∷ 97 ∷ b ∷ w) v (38 ∷ 97 ∷ b ∷ s)) (λ _ r. k r) ≡ leads (mark w s) (λ _ r. k r)
stands_on b w v s k = stands_same 97 (b ∷ w) v (b ∷ s) k ∙ ap (λ m. leads m (λ _ r. k r)) (mark_first b w s)

module _ (k : Passing) where
  abbrev first_last : List ℕ → Bool
  first_last s =
      leads (alt (stands_for (ascii "&amp;") (ascii "&") (38 ∷ 97 ∷ s)) (stands_for (ascii "&apos;") (ascii "'") (38 ∷ 97 ∷ s))) (λ _ r. k r)

  middle_fails : (s : List ℕ) → leads (reference_at (38 ∷ 97 ∷ s)) (λ _ r. k r) ≡ first_last s
  unfolding reference_at
  middle_fails s =
      ap (λ m. leads (alt (stands_for (ascii "&amp;") (ascii "&") (38 ∷ 97 ∷ s)) m) (λ _ r. k r))
      (alt_second _ _ (stands_other 108 97 (ascii "t;") _ s refl) ∙ alt_second _ _ (stands_other 103 97 (ascii "t;") _ s refl)
      ∙ alt_second _ _ (stands_other 113 97 (ascii "uot;") _ s refl))

  to_amp : (s : List ℕ) → first_last (109 ∷ s) ≡ leads (mark (ascii "p;") s) (λ _ r. k r)
  to_amp s = leads_first _ _ _ (stands_third 112 109 (ascii "os;") _ s refl) ∙ stands_on 109 (ascii "p;") (ascii "&") s k

  to_apos : (s : List ℕ) → first_last (112 ∷ s) ≡ leads (mark (ascii "os;") s) (λ _ r. k r)
  to_apos s =
      ap (λ m. leads m (λ _ r. k r)) (alt_second _ _ (stands_third 109 112 (ascii "p;") _ s refl))
      ∙ stands_on 112 (ascii "os;") (ascii "'") s k

  pub ampersand_a_law : (a : ℕ) (s : List ℕ) → meets ampersand_a k (a ∷ s) ≡ changed (change_ampersand_a a) k a s
  unfolding meets meets_all changed change_ampersand_a
  ampersand_a_law a s =
      middle_fails (a ∷ s)
      ∙ by_test (eqb a 109) _ _ k a s (λ e. let z = eqb-true a 109 e in rw z (to_amp s)) λ e₁.
      by_test (eqb a 112) _ _ k a s (λ e. let z = eqb-true a 112 e in rw z (to_apos s)) λ e₂.
      leads_fail _ _ (both_fail _ _ (stands_third 109 a (ascii "p;") _ s e₁) (stands_third 112 a (ascii "os;") _ s e₂))
