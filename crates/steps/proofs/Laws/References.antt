-- References, at a position of the text: one law for each way through the code.
use Rattle.std.specs.Prelude.{◌≡◌, refl, List, ℕ, ◌-◌, length, drop, Option, Some, None}
use Rattle.std.proofs.Common.{ap, sym, ◌∙◌}
use Rattle.std.proofs.lemmas.Option.{same_Some}
use Rattle.lists.proofs.Laws.Booleans.{clash}
use Rattle.grammar.specs.Bytes.{ascii}
use Rattle.grammar.specs.Read.{Read, fail, got, bind, mark, alt}
use Rattle.grammar.specs.Parser.{stands_for, reference_at}
use Rattle.steps.specs.Step.{stepped}
use Rattle.steps.specs.Leaves.{first_byte, referred}

by_mark : (n : ℕ) (m : Read (Unit {0})) (v : List ℕ) (x : Read (List ℕ)) {j : ℕ} → Some j ≡ stepped n m
    → Some ((first_byte v), j) ≡ referred n (alt (bind m (λ _ r. got v r)) x)
unfolding stepped referred alt bind
by_mark n fail v x e = clash (cc)
by_mark n (got a r) v x {j} e = let q : j ≡ n - length r = cc in rw q

by_none : (n : ℕ) (m : Read (Unit {0})) (v : List ℕ) (x : Read (List ℕ)) → None ≡ stepped n m → alt (bind m (λ _ r. got v r)) x ≡ x
unfolding stepped alt bind
by_none n fail v x e = refl
by_none n (got a r) v x e = clash (cc)

by_last : (n : ℕ) (m : Read (Unit {0})) (v : List ℕ) {j : ℕ} → Some j ≡ stepped n m
    → Some ((first_byte v), j) ≡ referred n (bind m (λ _ r. got v r))
unfolding stepped referred bind
by_last n fail v e = clash (cc)
by_last n (got a r) v {j} e = let q : j ≡ n - length r = cc in rw q

by_end : (n : ℕ) (m : Read (Unit {0})) (v : List ℕ) → None ≡ stepped n m → None ≡ referred n (bind m (λ _ r. got v r))
unfolding stepped referred bind
by_end n fail v e = refl
by_end n (got a r) v e = clash (cc)

module _ (text : List ℕ) (at : ℕ) where
  -- the word `&`..`;` was looked for
  abbrev Sought : List ℕ → Option ℕ → Type 0
  Sought word r = r ≡ stepped (length text) (mark word (drop at text))

  abbrev Refers : Option (ℕ × ℕ) → Type 0
  Refers r = r ≡ referred (length text) (reference_at (drop at text))

  module _ {r₁ : Option ℕ} (s₁ : Sought (ascii "&amp;") r₁) where
    pub is_amp : {j : ℕ} → r₁ ≡ Some j → Refers (Some (38, j))
    unfolding reference_at stands_for first_byte
    is_amp e = by_mark (length text) (mark (ascii "&amp;") (drop at text)) (ascii "&") _ (sym e ∙ s₁)

    module _ (e₁ : r₁ ≡ None) where
      past_amp : reference_at (drop at text)
          ≡ alt (stands_for (ascii "&lt;") (ascii "<") (drop at text))
          (alt (stands_for (ascii "&gt;") (ascii ">") (drop at text))
          (alt (stands_for (ascii "&quot;") (ascii "\"") (drop at text)) (stands_for (ascii "&apos;") (ascii "'") (drop at text))))
      unfolding reference_at stands_for
      past_amp = by_none (length text) (mark (ascii "&amp;") (drop at text)) (ascii "&") _ (sym e₁ ∙ s₁)

      module _ {r₂ : Option ℕ} (s₂ : Sought (ascii "&lt;") r₂) where
        pub is_lt : {j : ℕ} → r₂ ≡ Some j → Refers (Some (60, j))
        unfolding stands_for first_byte
        is_lt e = rw past_amp (by_mark (length text) (mark (ascii "&lt;") (drop at text)) (ascii "<") _ (sym e ∙ s₂))

        module _ (e₂ : r₂ ≡ None) where
          past_lt : reference_at (drop at text)
              ≡ alt (stands_for (ascii "&gt;") (ascii ">") (drop at text))
              (alt (stands_for (ascii "&quot;") (ascii "\"") (drop at text)) (stands_for (ascii "&apos;") (ascii "'") (drop at text)))
          unfolding stands_for
          past_lt = past_amp ∙ by_none (length text) (mark (ascii "&lt;") (drop at text)) (ascii "<") _ (sym e₂ ∙ s₂)

          module _ {r₃ : Option ℕ} (s₃ : Sought (ascii "&gt;") r₃) where
            pub is_gt : {j : ℕ} → r₃ ≡ Some j → Refers (Some (62, j))
            unfolding stands_for first_byte
            is_gt e = rw past_lt (by_mark (length text) (mark (ascii "&gt;") (drop at text)) (ascii ">") _ (sym e ∙ s₃))

            module _ (e₃ : r₃ ≡ None) where
              past_gt : reference_at (drop at text)
                  ≡ alt (stands_for (ascii "&quot;") (ascii "\"") (drop at text)) (stands_for (ascii "&apos;") (ascii "'") (drop at text))
              unfolding stands_for
              past_gt = past_lt ∙ by_none (length text) (mark (ascii "&gt;") (drop at text)) (ascii ">") _ (sym e₃ ∙ s₃)

              module _ {r₄ : Option ℕ} (s₄ : Sought (ascii "&quot;") r₄) where
                pub is_quot : {j : ℕ} → r₄ ≡ Some j → Refers (Some (34, j))
                unfolding stands_for first_byte
                is_quot e = rw past_gt (by_mark (length text) (mark (ascii "&quot;") (drop at text)) (ascii "\"") _ (sym e ∙ s₄))

                module _ (e₄ : r₄ ≡ None) where
                  past_quot : reference_at (drop at text) ≡ stands_for (ascii "&apos;") (ascii "'") (drop at text)
                  unfolding stands_for
                  past_quot = past_gt ∙ by_none (length text) (mark (ascii "&quot;") (drop at text)) (ascii "\"") _ (sym e₄ ∙ s₄)

                  module _ {r₅ : Option ℕ} (s₅ : Sought (ascii "&apos;") r₅) where
                    pub is_apos : {j : ℕ} → r₅ ≡ Some j → Refers (Some (39, j))
                    unfolding stands_for first_byte
                    is_apos e = rw past_quot (by_last (length text) (mark (ascii "&apos;") (drop at text)) (ascii "'") (sym e ∙ s₅))

                    pub is_none : r₅ ≡ None → Refers None
                    unfolding stands_for
                    is_none e = rw past_quot (by_end (length text) (mark (ascii "&apos;") (drop at text)) (ascii "'") (sym e ∙ s₅))

-- the position alone
pub behind : (n : ℕ) (m : Read (List ℕ)) {r : Option (ℕ × ℕ)} {b j : ℕ} → r ≡ referred n m → r ≡ Some (b, j) → Some j ≡ stepped n m
unfolding stepped referred
behind n fail q e = clash (cc)
behind n (got v r) {b} {j} q e = rw (ap (λ p. p.1) (same_Some _ _ (sym e ∙ q)))

pub missing : (n : ℕ) (m : Read (List ℕ)) {r : Option (ℕ × ℕ)} → r ≡ referred n m → r ≡ None → None ≡ stepped n m
unfolding stepped referred
missing n fail q e = refl
missing n (got v r) q e = clash (cc)
