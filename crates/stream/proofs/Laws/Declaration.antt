-- The declaration, and the first bytes of a text.
use Rattle.std.specs.Prelude.{◌≡◌, List, [], ◌∷◌, ◌++◌, ℕ, Bool}
use Rattle.std.proofs.Math.Path.{refl, ap}
use Rattle.std.proofs.Common.{◌∙◌}
use Rattle.std.proofs.Math.Bool.{true, false, cond}
use Rattle.std.proofs.Math.Dec.{eqb}
use borrow.Author.Tests.{eqb-true}
use Rattle.grammar.specs.Bytes.{ascii, blank, quote, begins}
use Rattle.grammar.specs.Read.{mark, byte, span}
use Rattle.grammar.proofs.Laws.Read.{mark_other}
use Rattle.grammar.specs.Parser.{gap_at, equals_at, ends, asking, setting_at, encoding_if_lem, declaration_if, declaration_at}
use Rattle.steps.specs.Prologue.{quoted_at, encoding_at}
use Rattle.stream.specs.Jobs.{fixed, saying, versioned, versioned_blank, starting, starting_angle, dead, turn, declaration_jobs}
use Rattle.stream.specs.Jobs.{encoding_jobs, prologue, change_saying, change_versioned, change_versioned_blank, change_starting}
use Rattle.stream.specs.Jobs.{change_starting_angle}
use Rattle.stream.proofs.Laws.Meets.{Passing, leads, meets, meets_all, changed, rooted, asking_end, encoded, leads_bind, leads_same}
use Rattle.stream.proofs.Laws.Meets.{leads_fail, leads_got, by_test}
use Rattle.stream.proofs.Laws.Leaves.{leads_mark, span_stop, span_on, gap_blank, gap_other, leads_byte, chosen}
use Rattle.stream.proofs.Laws.Remarks.{begins_other}
use Rattle.stream.proofs.Laws.Tags.{equals_jobs, ends_blank, ends_other}
use Rattle.stream.proofs.Laws.Round.{prologue_law, prologue_angle_law}

setting_jobs : (w v : List ℕ) (k : Passing) (s : List ℕ)
    → leads (setting_at w v s) (λ _ r. k r)
    ≡ leads (gap_at s) (λ _ r. leads (mark w r) (λ _ r₁. leads (equals_at r₁) (λ _ r₂. leads (quoted_at v r₂) (λ _ r₃. k r₃))))
unfolding setting_at quoted_at
setting_jobs w v k s =
    leads_bind (gap_at s) _ _ ∙ leads_same (gap_at s) _ _ λ _ r.
    leads_bind (mark w r) _ _ ∙ leads_same (mark w r) _ _ λ _ r₁. leads_bind (equals_at r₁) _ _

pub saying_law : (v : List ℕ) (k : Passing) (a : ℕ) (s : List ℕ) → meets (saying v) k (a ∷ s) ≡ changed (change_saying v a) k a s
unfolding meets meets_all change_saying quoted_at
saying_law v k a s =
    leads_bind (byte quote (a ∷ s)) _ _ ∙ leads_byte quote a s _ ∙ ap (λ x. cond (quote a) x false) (leads_bind (mark v s) _ _)
    ∙ chosen (quote a) (fixed v ∷ fixed (a ∷ []) ∷ []) k a s

-- THE END OF THE DECLARATION
asking_blank : (k : Passing) (a : ℕ) (s : List ℕ) → blank a ≡ true → asking_end k (a ∷ s) ≡ asking_end k s
unfolding asking_end
asking_blank k a s e = span_on blank a s (λ r. leads (mark (ascii "?>") r) (λ _ r₁. k r₁)) e

asking_here : (k : Passing) (s : List ℕ) → asking_end k (63 ∷ s) ≡ leads (mark (ascii ">") s) (λ _ r. k r)
unfolding asking_end blank
asking_here k s = leads_got _ _ (span_stop blank 63 s refl) ∙ leads_mark 63 (ascii ">") s _

module _ (k : Passing) (a : ℕ) (s : List ℕ) where
  -- a blank more
  asks_blank : (x : Bool) → blank a ≡ true → cond (ends asking (a ∷ s)) (asking_end k (a ∷ s)) x ≡ cond (ends asking s) (asking_end k s) x
  asks_blank x e =
      ap (λ t. cond t (asking_end k (a ∷ s)) x) (ends_blank asking a s e) ∙ ap (λ y. cond (ends asking s) y x) (asking_blank k a s e)

  asks_other : (x : Bool) → blank a ≡ false → cond (ends asking (a ∷ s)) (asking_end k (a ∷ s)) x ≡ cond (eqb a 63) (asking_end k (a ∷ s)) x
  unfolding asking
  asks_other x e = ap (λ t. cond t (asking_end k (a ∷ s)) x) (ends_other asking a s e)

  encoded_or : (t : Bool) (r : List ℕ)
      → leads (encoding_if_lem t r) (λ _ r₁. asking_end k r₁) ≡ cond t (asking_end k r) (leads (gap_at r) (λ _ r₁. encoded k r₁))
  unfolding encoding_if_lem encoded leads
  encoded_or true r = refl
  encoded_or false r = setting_jobs (ascii "encoding") (ascii "UTF-8") (asking_end k) r

  pub versioned_law : meets versioned k (a ∷ s) ≡ changed (change_versioned a) k a s
  unfolding meets meets_all changed change_versioned encoding_at
  versioned_law =
      encoded_or (ends asking (a ∷ s)) (a ∷ s)
      ∙ by_test (blank a) _ _ k a s
      (λ e. asks_blank _ e ∙ ap (λ x. cond (ends asking s) (asking_end k s) x) (gap_blank a s (encoded k) e)) λ e₁.
      asks_other _ e₁ ∙ ap (λ x. cond (eqb a 63) (asking_end k (a ∷ s)) x) (gap_other a s (encoded k) e₁) ∙ go (eqb a 63) refl
    where
      go : (t : Bool) → eqb a 63 ≡ t → cond t (asking_end k (a ∷ s)) false ≡ changed (cond t (turn (fixed (ascii ">") ∷ [])) dead) k a s
      go true e = let z = eqb-true a 63 e in rw z (asking_here k s)
      go false e = refl

encoding_law : (k : Passing) (s : List ℕ) → encoded k (101 ∷ s) ≡ meets_all encoding_jobs k s
unfolding encoded encoding_jobs meets_all meets asking_end
encoding_law k s =
    leads_mark 101 (ascii "ncoding") s _
    ∙ leads_same (mark (ascii "ncoding") s) _ _ λ _ r. equals_jobs r (λ r. leads (quoted_at (ascii "UTF-8") r) (λ _ r₁. asking_end k r₁))

no_encoding : (k : Passing) (a : ℕ) (s : List ℕ) → eqb a 101 ≡ false → encoded k (a ∷ s) ≡ false
unfolding encoded
no_encoding k a s e = leads_fail _ _ (mark_other 101 a (ascii "ncoding") s e)

pub versioned_blank_law : (k : Passing) (a : ℕ) (s : List ℕ) → meets versioned_blank k (a ∷ s) ≡ changed (change_versioned_blank a) k a s
unfolding meets changed change_versioned_blank meets_all
versioned_blank_law k a s =
    by_test (blank a) _ _ k a s
    (λ e. asks_blank k a s _ e ∙ ap (λ x. cond (ends asking s) (asking_end k s) x) (span_on blank a s (encoded k) e)) λ e₁.
    asks_other k a s _ e₁
    ∙ ap (λ x. cond (eqb a 63) (asking_end k (a ∷ s)) x) (leads_got (span blank (a ∷ s)) (λ _ r. encoded k r) (span_stop blank a s e₁))
    ∙ go (eqb a 63) refl
  where
    coded : encoded k (a ∷ s) ≡ changed (cond (eqb a 101) (turn encoding_jobs) dead) k a s
    coded = by_test (eqb a 101) _ _ k a s (λ e. let z = eqb-true a 101 e in rw z (encoding_law k s)) λ e. no_encoding k a s e

    go : (t : Bool) → eqb a 63 ≡ t
        → cond t (asking_end k (a ∷ s)) (encoded k (a ∷ s))
        ≡ changed (cond t (turn (fixed (ascii ">") ∷ [])) (cond (eqb a 101) (turn encoding_jobs) dead)) k a s
    go true e = let z = eqb-true a 63 e in rw z (asking_here k s)
    go false e = coded

-- THE FIRST BYTES
undeclared : (s : List ℕ) (f : Passing) → begins (ascii "<?") s ≡ false → leads (declaration_at s) (λ _ r. f r) ≡ f s
unfolding declaration_at declaration_if leads
undeclared s f e = rw e

no_ask : (a : ℕ) (s : List ℕ) → eqb a 63 ≡ false → begins (ascii "<?") (60 ∷ a ∷ s) ≡ false
unfolding begins
no_ask a s e = rw e

pub starting_law : (k : Passing) (a : ℕ) (s : List ℕ) → meets starting k (a ∷ s) ≡ changed (change_starting a) k a s
unfolding meets meets_all changed change_starting
starting_law k a s =
    by_test (eqb a 60) _ _ k a s (λ e. let z = eqb-true a 60 e in rw z) λ e.
    undeclared (a ∷ s) (rooted true k) (begins_other 60 (ascii "?") a s e) ∙ prologue_law k true a s

declares : (k : Passing) (s : List ℕ)
    → leads (declaration_at (60 ∷ 63 ∷ s)) (λ _ r. rooted true k r) ≡ meets_all (declaration_jobs ++ (prologue true ∷ [])) k s
unfolding declaration_at declaration_if begins meets meets_all declaration_jobs encoding_at asking_end
declares k s =
    leads_bind (mark (ascii "<?xml") (60 ∷ 63 ∷ s)) _ _ ∙ leads_mark 60 (ascii "?xml") (63 ∷ s) _ ∙ leads_mark 63 (ascii "xml") s _
    ∙ leads_same (mark (ascii "xml") s) _ _ λ _ r₁.
    leads_bind (setting_at (ascii "version") (ascii "1.0") r₁) _ _
    ∙ leads_same (setting_at (ascii "version") (ascii "1.0") r₁) _ _ (λ _ r₂.
    leads_bind (encoding_if_lem (ends asking r₂) r₂) _ _
    ∙ leads_same (encoding_if_lem (ends asking r₂) r₂) _ _ (λ _ r₃. leads_bind (span blank r₃) _ _))
    ∙ setting_jobs (ascii "version") (ascii "1.0") (meets versioned (rooted true k)) r₁
    ∙ leads_same (gap_at r₁) _ _ λ _ r₂.
    leads_same (mark (ascii "version") r₂) _ _ λ _ r₃. equals_jobs r₃ (meets (saying (ascii "1.0")) (meets versioned (rooted true k)))

pub starting_angle_law : (k : Passing) (a : ℕ) (s : List ℕ) → meets starting_angle k (a ∷ s) ≡ changed (change_starting_angle a) k a s
unfolding meets changed change_starting_angle
starting_angle_law k a s =
    by_test (eqb a 63) _ _ k a s (λ e. let z = eqb-true a 63 e in rw z (declares k s)) λ e.
    undeclared (60 ∷ a ∷ s) (rooted true k) (no_ask a s e) ∙ prologue_angle_law k true a s
