-- What stands at a place is the first of what is ahead; what a run of digits, or of blanks, takes from it.
use Rattle.std.specs.Prelude.{◌≡◌, refl, List, [], ◌∷◌, ◌++◌, Bool, true, false, cond, ℕ, zero, suc, ◌+◌, ◌*◌, ◌-◌, ◌≤◌, ◌<◌, length, Option, Some, None}
use Rattle.std.proofs.Common.{sym, ap, ◌∙◌, arith}
use Rattle.std.proofs.lemmas.Option.{some_pair_parts}
use Rattle.lists.proofs.Laws.Booleans.{clash}
use Rattle.grammar.specs.Bytes.{blank}
use Rattle.grammar.specs.Look.{Word}
use Rattle.lists.specs.Lists.{all}
use Rattle.nodes.proofs.Laws.NextBytes.{decoded_byte, decoded_end}
use Rattle.nodes.specs.Texts.{says_at, left, text_step}
use Rattle.nodes.proofs.Laws.TextSteps.{Steps, text_letter, text_skip, text_stop}
use Rattle.nodes.specs.declared.Text.{Text}
use Rattle.nodes.specs.declared.Text.TheVariants.{Stop, Skip, Letter}
use Rattle.numbers.specs.Numbers.{digit, number, words}
use Rattle.numbers.proofs.Laws.Cuts.{words_blank}
use Rattle.numbers.specs.Stream.{letter_by, letter_within, letter_at, char_at, stream, left_in, behind_by, behind, leading}
use Rattle.numbers.specs.Stream.{digits_by, digits_at}
use Rattle.numbers.specs.declared.Source.{Source}
use Rattle.numbers.specs.declared.Source.TheVariants.{Value, Contents}
use Rattle.numbers.specs.declared.Run.{Run}

-- a byte is read between two places
pub record Moves (source : Source) (text : List ℕ) (i b j : ℕ) : Type 0 where
  pub ahead : left_in source text j < left_in source text i
  pub splits : stream source text i ≡ b ∷ stream source text j

-- THE NEXT LETTER
within_suc : (n : ℕ) (text : List ℕ) (i : ℕ) → letter_within (suc n) text i ≡ letter_by (text_step text i) (letter_within n text)
unfolding letter_within
within_suc n text i = refl

letter_enough : (n m : ℕ) (text : List ℕ) (i : ℕ) → left text i < n → left text i < m
    → letter_within n text i ≡ letter_within m text i
unfolding letter_by
letter_enough zero m text i h k = absurd (omega arith)
letter_enough (suc n) zero text i h k = absurd (omega arith)
letter_enough (suc n) (suc m) text i h k =
    rw (within_suc n text i, within_suc m text i) (go (text_step text i) refl λ j l₁ l₂. letter_enough n m text j l₁ l₂)
  where
    go : (x : Text) → text_step text i ≡ x
        → ((j : ℕ) → left text j < n → left text j < m → letter_within n text j ≡ letter_within m text j)
        → letter_by x (letter_within n text) ≡ letter_by x (letter_within m text)
    go Stop e ih = refl
    go (Letter b j) e ih = refl
    go (Skip j) e ih = let s = text_skip text i refl e in
        ih j (omega (arith, s.ahead)) (omega (arith, s.ahead))

pub letter_stop : (text : List ℕ) (i : ℕ) → text_step text i ≡ Stop → letter_at text i ≡ None
unfolding letter_at letter_by
letter_stop text i e = within_suc (left text i) text i ∙ rw e refl

pub letter_byte : (text : List ℕ) (i : ℕ) {b j : ℕ} → text_step text i ≡ Letter b j → letter_at text i ≡ Some (b, j)
unfolding letter_at letter_by
letter_byte text i e = within_suc (left text i) text i ∙ rw e refl

pub letter_skip : (text : List ℕ) (i : ℕ) {j : ℕ} → text_step text i ≡ Skip j → letter_at text i ≡ letter_at text j
unfolding letter_at letter_by
letter_skip text i {j} e =
    let s = text_skip text i refl e in
    within_suc (left text i) text i ∙ rw e
    (letter_enough (left text i) (suc (left text j)) text j s.ahead (omega arith))

abbrev LetterSays : List ℕ → ℕ → Option (ℕ × ℕ) → Type 0
LetterSays text i None = says_at text i ≡ []
LetterSays text i (Some (b, j)) = Moves Contents text i b j

letter_says : (n : ℕ) (text : List ℕ) (i : ℕ) → left text i < n → LetterSays text i (letter_within n text i)
unfolding letter_by stream left_in
letter_says zero text i h = absurd (omega arith)
letter_says (suc n) text i h = rw (within_suc n text i) (go (text_step text i) refl λ j l. letter_says n text j l)
  where
    further : (j : ℕ) → Steps text i [] j → (c : Option (ℕ × ℕ)) → LetterSays text j c → LetterSays text i c
    further j s None k = s.splits ∙ k
    further j s (Some (b, m)) k = record { ahead = omega (arith, s.ahead, k.ahead); splits = s.splits ∙ k.splits }

    go : (x : Text) → text_step text i ≡ x → ((j : ℕ) → left text j < n → LetterSays text j (letter_within n text j))
        → LetterSays text i (letter_by x (letter_within n text))
    go Stop e ih = text_stop text i refl e
    go (Letter b j) e ih = let s = text_letter text i refl e in record { ahead = s.ahead; splits = s.splits }
    go (Skip j) e ih = let s = text_skip text i refl e in
        further j s (letter_within n text j) (ih j (omega (arith, s.ahead)))

letter_moves : (text : List ℕ) (i : ℕ) (c : Option (ℕ × ℕ)) → LetterSays text i c → {b j : ℕ} → c ≡ Some (b, j) → Moves Contents text i b j
letter_moves text i None h e = clash (cc)
letter_moves text i (Some (b, j)) h {b = b₁} {j = j₁} e = let p = some_pair_parts _ _ _ _ e in rw (p.0, p.1) at h

letter_ends : (text : List ℕ) (i : ℕ) (c : Option (ℕ × ℕ)) → LetterSays text i c → c ≡ None → says_at text i ≡ []
letter_ends text i None h e = h
letter_ends text i (Some (b, j)) h e = clash (cc)

-- THE NEXT BYTE, of either source
pub char_byte : (source : Source) (text : List ℕ) (i : ℕ) {c : Option (ℕ × ℕ)} → c ≡ char_at source text i → {b j : ℕ} → c ≡ Some (b, j)
    → Moves source text i b j
unfolding char_at letter_at stream left_in
char_byte (Value q) text i e z = let d = decoded_byte text q i e z in
    record { ahead = omega (arith, d.ahead, d.inside); splits = d.splits }
char_byte Contents text i e z = letter_moves text i (letter_at text i) (letter_says (suc (left text i)) text i (omega arith)) (sym e ∙ z)

pub char_end : (source : Source) (text : List ℕ) (i : ℕ) {c : Option (ℕ × ℕ)} → c ≡ char_at source text i → c ≡ None → stream source text i ≡ []
unfolding char_at letter_at stream
char_end (Value q) text i e z = decoded_end text q i e z
char_end Contents text i e z = letter_ends text i (letter_at text i) (letter_says (suc (left text i)) text i (omega arith)) (sym e ∙ z)

-- THE PLACE BEHIND
pub behind_suc : (source : Source) (text : List ℕ) (n i : ℕ)
    → behind source text (suc n) i ≡ behind_by (char_at source text i) i (behind source text n)
unfolding behind
behind_suc source text n i = refl

pub behind_one : (source : Source) (text : List ℕ) (i : ℕ) {b j : ℕ} → char_at source text i ≡ Some (b, j) → (n : ℕ)
    → behind source text (suc n) i ≡ behind source text n j
unfolding behind_by
behind_one source text i e n = behind_suc source text n i ∙ rw e refl

pub behind_none : (source : Source) (text : List ℕ) (i : ℕ) → behind source text 0 i ≡ i
unfolding behind
behind_none source text i = refl

-- A RUN OF DIGITS
pub record Ran (source : Source) (text : List ℕ) (most n k i : ℕ) (r : Run) : Type 0 where
  pub read : Word
  pub all_digits : all digit read ≡ true
  pub few : length read ≤ most
  pub counted : r.count ≡ k + length read
  pub valued : r.value ≡ number n read
  pub ahead : left_in source text r.next ≤ left_in source text i
  pub place : r.next ≡ behind source text (length read) i
  pub splits : stream source text i ≡ read ++ stream source text r.next
  pub stops : (b : ℕ) (x : Word) → stream source text r.next ≡ b ∷ x → length read < most → digit b ≡ false

nothing_ran : (source : Source) (text : List ℕ) (most n k i : ℕ)
    → ((b : ℕ) (x : Word) → stream source text i ≡ b ∷ x → 0 < most → digit b ≡ false)
    → Ran source text most n k i (record { value = n; count = k; next = i })
unfolding all number
nothing_ran source text most n k i h = record {
  read = [];
  all_digits = refl;
  few = omega arith;
  counted = omega arith;
  valued = refl;
  ahead = omega arith;
  place = sym (behind_none source text i);
  splits = refl;
  stops = h;
}

one_ran : (source : Source) (text : List ℕ) (m n k i b j : ℕ) (r : Run) → char_at source text i ≡ Some (b, j) → digit b ≡ true
    → Ran source text m (n * 10 + (b - 48)) (k + 1) j r → Ran source text (suc m) n k i r
unfolding all number
one_ran source text m n k i b j r e d h =
    let s = char_byte source text i refl e in
    record {
      read = b ∷ h.read;
      all_digits = rw (d, h.all_digits) refl;
      few = omega (arith, h.few);
      counted = omega (arith, h.counted);
      valued = h.valued;
      ahead = omega (arith, s.ahead, h.ahead);
      place = h.place ∙ sym (behind_one source text i e (length h.read));
      splits = s.splits ∙ ap (λ l. b ∷ l) h.splits;
      stops = λ c x q l. h.stops c x q (omega arith);
    }

pub run_suc : (source : Source) (text : List ℕ) (m n k i : ℕ)
    → digits_at source text (suc m) n k i
    ≡ digits_by (char_at source text i) (record { value = n; count = k; next = i })
    (λ b j. digits_at source text m (n * 10 + (b - 48)) (k + 1) j)
unfolding digits_at
run_suc source text m n k i = refl

first_is : {b c : ℕ} {w x : Word} → b ∷ w ≡ c ∷ x → b ≡ c
first_is e = cc

pub digits_law : (source : Source) (text : List ℕ) (most n k i : ℕ) → Ran source text most n k i (digits_at source text most n k i)
unfolding digits_at digits_by
digits_law source text zero n k i = nothing_ran source text 0 n k i λ b x e l. absurd (omega arith)
digits_law source text (suc m) n k i = go (char_at source text i) refl λ n₁ k₁ j. digits_law source text m n₁ k₁ j
  where
    tested : (b j : ℕ) → char_at source text i ≡ Some (b, j) → (t : Bool) → digit b ≡ t
        → Ran source text m (n * 10 + (b - 48)) (k + 1) j (digits_at source text m (n * 10 + (b - 48)) (k + 1) j)
        → Ran source text (suc m) n k i (cond t (digits_at source text m (n * 10 + (b - 48)) (k + 1) j)
        (record { value = n; count = k; next = i }))
    tested b j e true d h = one_ran source text m n k i b j _ e d h
    tested b j e false d h =
        let s = char_byte source text i refl e in
        nothing_ran source text (suc m) n k i λ c x q l. (let z : b ≡ c = first_is (sym s.splits ∙ q) in rw z at d)

    go : (c : Option (ℕ × ℕ)) → char_at source text i ≡ c → ((n₁ k₁ j : ℕ) → Ran source text m n₁ k₁ j (digits_at source text m n₁ k₁ j))
        → Ran source text (suc m) n k i (digits_by c (record { value = n; count = k; next = i })
        (λ b j. digits_at source text m (n * 10 + (b - 48)) (k + 1) j))
    go None e ih = nothing_ran source text (suc m) n k i λ b x q l. (let s = char_end source text i refl e in clash (cc))
    go (Some (b, j)) e ih = tested b j e (digit b) refl (ih (n * 10 + (b - 48)) (k + 1) j)

-- A RUN OF BLANKS: the words ahead stay, and what is ahead begins with none
pub record Blanked (text : List ℕ) (i j : ℕ) : Type 0 where
  pub same_words : words (stream Contents text i) ≡ words (stream Contents text j)
  pub no_blank : (b : ℕ) (x : Word) → stream Contents text j ≡ b ∷ x → blank b ≡ false

pub blanked : (n : ℕ) (text : List ℕ) (i : ℕ) → leading blank (stream Contents text i) ≡ n → Blanked text i (behind Contents text n i)
unfolding leading
blanked zero text i e = record {
  same_words = rw (behind_none Contents text i) refl;
  no_blank = λ b x q. go b x (blank b) refl
      (sym (ap (leading blank) (ap (stream Contents text) (sym (behind_none Contents text i)) ∙ q)) ∙ e);
}
  where
    go : (b : ℕ) (x : Word) (t : Bool) → blank b ≡ t → leading blank (b ∷ x) ≡ 0 → blank b ≡ false
    go b x false h k = h
    go b x true h k = let z : suc (leading blank x) ≡ 0 = sym (rw h refl) ∙ k in absurd (omega arith)
blanked (suc n) text i e = step (char_at Contents text i) refl λ j k. blanked n text j k
  where
    counted : (b : ℕ) (w : Word) (t : Bool) → blank b ≡ t → leading blank (b ∷ w) ≡ suc n → (blank b ≡ true) × (leading blank w ≡ n)
    counted b w true h k = let z : suc (leading blank w) ≡ suc n = sym (rw h refl) ∙ k in (h, omega arith)
    counted b w false h k = let z : ◌≡◌ {A = ℕ} 0 (suc n) = sym (rw h refl) ∙ k in absurd (omega arith)

    step : (c : Option (ℕ × ℕ)) → char_at Contents text i ≡ c
        → ((j : ℕ) → leading blank (stream Contents text j) ≡ n → Blanked text j (behind Contents text n j))
        → Blanked text i (behind Contents text (suc n) i)
    step None q ih = let z : ◌≡◌ {A = ℕ} 0 (suc n) = sym (ap (leading blank) (char_end Contents text i refl q)) ∙ e in absurd (omega arith)
    step (Some (b, j)) q ih =
        let s = char_byte Contents text i refl q in
        let f = counted b (stream Contents text j) (blank b) refl (sym (ap (leading blank) s.splits) ∙ e) in
        let h = ih j f.1 in
        rw (behind_one Contents text i q n) (record {
          same_words = ap words s.splits ∙ words_blank b (stream Contents text j) f.0 ∙ h.same_words;
          no_blank = h.no_blank;
        })
