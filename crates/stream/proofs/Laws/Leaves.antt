-- Words, blanks and characters: what a byte makes of each.
use Rattle.std.specs.Prelude.{◌≡◌, refl, List, [], ◌∷◌, ℕ, ◌≤◌, Bool, true, false, cond, ◌&&◌, not, eqb}
use Rattle.std.proofs.Common.{ap, ◌∙◌, arith, eqb-true, eq-eqb, le-leb}
use Rattle.grammar.specs.Bytes.{blank}
use Rattle.grammar.specs.Characters.{lead1, lead2, lead3, lead4, continues, noncharacter}
use Rattle.grammar.specs.Read.{got, bind, test, mark, byte, span}
use Rattle.grammar.proofs.Laws.Read.{mark_other, byte_complete, byte_other}
use Rattle.grammar.proofs.Laws.Facts.{blank_in}
use Rattle.grammar.specs.Parser.{CharacterWidth, one, two, three, four, width, width_by, rest_by, rest_at, literal_at, gap_at}
use Rattle.stream.specs.Jobs.{Job, fixed, blanks, some_blanks, tail, second_of_three, third_of_three, second_of_four, dead, done}
use Rattle.stream.specs.Jobs.{turn, lead_by, lead}
use Rattle.stream.proofs.Laws.Meets.{Passing, leads, meets, meets_all, changed, leads_bind, leads_same, leads_value, leads_test}
use Rattle.stream.proofs.Laws.Meets.{leads_fail, leads_got}

-- WORDS
pub mark_first : (a : ℕ) (w s : List ℕ) → mark (a ∷ w) (a ∷ s) ≡ mark w s
unfolding mark bind test
mark_first a w s = rw (eq-eqb a a refl)

pub mark_by : (b a : ℕ) (w s : List ℕ) → eqb a b ≡ true → mark (b ∷ w) (a ∷ s) ≡ mark w s
mark_by b a w s e = let q = eqb-true a b e in rw q (mark_first b w s)

-- a mark whose first byte is there
pub leads_mark : (a : ℕ) (w s : List ℕ) (f : Unit {0} → List ℕ → Bool) → leads (mark (a ∷ w) (a ∷ s)) f ≡ leads (mark w s) f
leads_mark a w s f = ap (λ m. leads m f) (mark_first a w s)

pub leads_one : (a : ℕ) (s : List ℕ) (f : Unit {0} → List ℕ → Bool) → leads (mark (a ∷ []) (a ∷ s)) f ≡ f tt s
unfolding mark
leads_one a s f = leads_got (mark (a ∷ []) (a ∷ s)) f (mark_first a [] s)

pub no_word : (k : Passing) (s : List ℕ) → meets (fixed []) k s ≡ k s
unfolding meets mark leads
no_word k s = refl

pub word_law : (b : ℕ) (w : List ℕ) (k : Passing) (a : ℕ) (s : List ℕ)
    → meets (fixed (b ∷ w)) k (a ∷ s) ≡ changed (cond (eqb a b) (turn (fixed w ∷ [])) dead) k a s
unfolding meets meets_all changed
word_law b w k a s = go (eqb a b) refl
  where
    go : (t : Bool) → eqb a b ≡ t → leads (mark (b ∷ w) (a ∷ s)) (λ _ r. k r) ≡ changed (cond t (turn (fixed w ∷ [])) dead) k a s
    go true e = ap (λ m. leads m (λ _ r. k r)) (mark_by b a w s e)
    go false e = leads_fail _ _ (mark_other b a w s e)

-- BLANKS
pub span_more : (p : ℕ → Bool) (a : ℕ) (s : List ℕ) → p a ≡ true → span p (a ∷ s) ≡ bind (span p s) (λ w r. got (a ∷ w) r)
unfolding span
span_more p a s e = rw (e, span)

pub span_stop : (p : ℕ → Bool) (a : ℕ) (s : List ℕ) → p a ≡ false → span p (a ∷ s) ≡ got [] (a ∷ s)
unfolding span
span_stop p a s e = rw (e, span)

pub span_on : (p : ℕ → Bool) (a : ℕ) (s : List ℕ) (k : Passing) → p a ≡ true
    → leads (span p (a ∷ s)) (λ _ r. k r) ≡ leads (span p s) (λ _ r. k r)
span_on p a s k e = ap (λ m. leads m (λ _ r. k r)) (span_more p a s e) ∙ leads_value (span p s) (λ w. a ∷ w) k

pub blanks_law : (k : Passing) (a : ℕ) (s : List ℕ) → meets blanks k (a ∷ s) ≡ changed (cond (blank a) (turn (blanks ∷ [])) done) k a s
unfolding meets meets_all changed
blanks_law k a s = go (blank a) refl
  where
    go : (t : Bool) → blank a ≡ t → leads (span blank (a ∷ s)) (λ _ r. k r) ≡ changed (cond t (turn (blanks ∷ [])) done) k a s
    go true e = span_on blank a s k e
    go false e = leads_got (span blank (a ∷ s)) (λ _ r. k r) (span_stop blank a s e)

pub gap_blank : (a : ℕ) (s : List ℕ) (k : Passing) → blank a ≡ true
    → leads (gap_at (a ∷ s)) (λ _ r. k r) ≡ leads (span blank s) (λ _ r. k r)
unfolding gap_at bind
gap_blank a s k e = rw (byte_complete blank a e s) (leads_value (span blank s) (λ w. a ∷ w) k)

pub gap_other : (a : ℕ) (s : List ℕ) (k : Passing) → blank a ≡ false → leads (gap_at (a ∷ s)) (λ _ r. k r) ≡ false
unfolding gap_at bind leads
gap_other a s k e = rw (byte_other blank a e s)

pub some_blanks_law : (k : Passing) (a : ℕ) (s : List ℕ)
    → meets some_blanks k (a ∷ s) ≡ changed (cond (blank a) (turn (blanks ∷ [])) dead) k a s
unfolding meets meets_all changed
some_blanks_law k a s = go (blank a) refl
  where
    go : (t : Bool) → blank a ≡ t → leads (gap_at (a ∷ s)) (λ _ r. k r) ≡ changed (cond t (turn (blanks ∷ [])) dead) k a s
    go true e = gap_blank a s k e
    go false e = gap_other a s k e

-- ONE BYTE OF A CLASS
pub leads_byte : (p : ℕ → Bool) (a : ℕ) (s : List ℕ) (f : ℕ → List ℕ → Bool) → leads (byte p (a ∷ s)) f ≡ cond (p a) (f a s) false
unfolding byte leads
leads_byte p a s f = leads_bind (test (p a) s) (λ _ r. got a r) f ∙ leads_test (p a) s (λ _ r. leads (got a r) f)

pub chosen : (t : Bool) (l : List Job) (k : Passing) (a : ℕ) (s : List ℕ)
    → cond t (meets_all l k s) false ≡ changed (cond t (turn l) dead) k a s
unfolding changed
chosen true l k a s = refl
chosen false l k a s = refl

pub tail_law : (k : Passing) (a : ℕ) (s : List ℕ) → meets tail k (a ∷ s) ≡ changed (cond (continues a) (turn []) dead) k a s
unfolding meets meets_all
tail_law k a s = leads_byte continues a s (λ _ r. k r) ∙ chosen (continues a) [] k a s

pub third_law : (a b : ℕ) (k : Passing) (c : ℕ) (s : List ℕ)
    → meets (third_of_three a b) k (c ∷ s) ≡ changed (cond (continues c && not (noncharacter a b c)) (turn []) dead) k c s
unfolding meets meets_all
third_law a b k c s =
    leads_byte continues c s _ ∙ go (continues c) (not (noncharacter a b c)) ∙ chosen (continues c && not (noncharacter a b c)) [] k c s
  where
    go : (t u : Bool) → cond t (cond u (k s) false) false ≡ cond (t && u) (k s) false
    go true u = refl
    go false u = refl

pub second_law : (a : ℕ) (k : Passing) (b : ℕ) (s : List ℕ)
    → meets (second_of_three a) k (b ∷ s) ≡ changed (cond (lead3 a b) (turn (third_of_three a b ∷ [])) dead) k b s
unfolding meets meets_all
second_law a k b s = leads_byte (lead3 a) b s _ ∙ chosen (lead3 a b) (third_of_three a b ∷ []) k b s

pub fourth_law : (a : ℕ) (k : Passing) (b : ℕ) (s : List ℕ)
    → meets (second_of_four a) k (b ∷ s) ≡ changed (cond (lead4 a b) (turn (tail ∷ tail ∷ [])) dead) k b s
unfolding meets meets_all
fourth_law a k b s = leads_byte (lead4 a) b s _ ∙ chosen (lead4 a b) (tail ∷ tail ∷ []) k b s

-- THE FIRST BYTE OF A CHARACTER
lead_by_law : (w : CharacterWidth) (l : List Job) (k : Passing) (a : ℕ) (s : List ℕ)
    → leads (rest_by w a s) (λ _ r. meets_all l k r) ≡ changed (lead_by w a l) k a s
unfolding rest_by lead_by changed meets meets_all leads
lead_by_law one l k a s = leads_bind (test (lead1 a) s) (λ _ r. got [] r) _ ∙ leads_test (lead1 a) s _ ∙ chosen (lead1 a) l k a s
lead_by_law two l k a s =
    leads_bind (test (lead2 a) s) (λ _ r. bind (byte continues r) (λ b r₁. got (b ∷ []) r₁)) _
    ∙ leads_test (lead2 a) s _
    ∙ ap (λ x. cond (lead2 a) x false) (leads_value (byte continues s) (λ b. b ∷ []) (meets_all l k))
    ∙ chosen (lead2 a) (tail ∷ l) k a s
lead_by_law three l k a s =
    leads_bind (byte (lead3 a) s) _ _
    ∙ leads_same (byte (lead3 a) s) _ _ λ b r.
    leads_bind (byte continues r) _ _
    ∙ leads_same (byte continues r) _ _ λ c r₁.
    leads_bind (test (not (noncharacter a b c)) r₁) _ _ ∙ leads_test (not (noncharacter a b c)) r₁ _
lead_by_law four l k a s =
    leads_bind (byte (lead4 a) s) _ _
    ∙ leads_same (byte (lead4 a) s) _ _ λ b r.
    leads_bind (byte continues r) _ _
    ∙ leads_same (byte continues r) _ _ λ c r₁.
    leads_value (byte continues r₁) (λ d. b ∷ c ∷ d ∷ []) (meets_all l k)

pub lead_law : (l : List Job) (k : Passing) (a : ℕ) (s : List ℕ) → leads (rest_at a s) (λ _ r. meets_all l k r) ≡ changed (lead a l) k a s
unfolding rest_at lead
lead_law l k a s = lead_by_law (width a) l k a s

-- a character whose first byte passes
pub literal_law : (p : ℕ → Bool) (l : List Job) (k : Passing) (a : ℕ) (s : List ℕ) → p a ≡ true
    → leads (literal_at p (a ∷ s)) (λ _ r. meets_all l k r) ≡ changed (lead a l) k a s
unfolding literal_at bind
literal_law p l k a s e =
    rw (byte_complete p a e s) (leads_value (rest_at a s) (λ w. a ∷ w) (meets_all l k) ∙ lead_law l k a s)

-- a blank is a character of one byte
pub lead_blank : (a : ℕ) (l : List Job) → blank a ≡ true → lead a l ≡ turn l
unfolding lead lead_by width width_by lead1
lead_blank a l e =
    let h = blank_in a e in
    let low : a ≤ 127 = omega arith in
    rw (le-leb a 127 low, e)
