-- The decision, from what the reader answers.
use Rattle.std.specs.Prelude.{◌≡◌, refl, List, [], ◌∷◌, Bool, true, false, ◌||◌, not, ℕ, suc, ◌≤◌, ◌<◌, length, take, replicate, Option, Some, None}
use Rattle.std.proofs.Common.{sym, ap, ◌∙◌, arith, rules, le-leb}
use Rattle.std.proofs.lemmas.Bool.{lt-leb}
use Rattle.std.proofs.Math.Dec.{eqb, ltb}
use Rattle.grammar.specs.Bytes.{between}
use Rattle.grammar.specs.Parser.{parse, computing}
use Rattle.lists.specs.Lists.{lists, any}
use Rattle.lists.proofs.Laws.Booleans.{clash}
use Rattle.cifti.specs.Conditions.{lengths_wrong, condition_words, refusal}
use Rattle.cifti.specs.Answer.{answer_by, records_by, answer_to, records_after, refused_with, Reads}
use Rattle.cifti.proofs.Laws.Text.{answers_is}
use Rattle.cifti.specs.declared.answer.Answer.{Answer}
use Rattle.input.specs.Lengths.{lengths_in, first_by}
use Rattle.input.proofs.Laws.Lengths.{two_of_lem, three_of}
use Rattle.input.specs.Limits.{most_text}
use Rattle.lister.specs.Decision.{Chooses, bad_lengths, too_long, as_read, Decides, bad_form, good_form}
use Rattle.input.specs.declared.lengths.FirstLine.{FirstLine}
use Rattle.input.specs.declared.lengths.FirstLine.TheVariants.{Two, Three, Other}

-- what a refusal leaves
record Refuses (number : ℕ) (records work : List ℕ) (a : Answer) (s v : List ℕ) : Type 0 where
  pub answered : a ≡ refused_with number
  pub kept : s ≡ records
  pub cleared : v ≡ replicate (length work) 0

module _ {text lengths records work : List ℕ} {a : Answer} {s v : List ℕ} (r : Reads text lengths records work a s v) where
  wrong_refuses : lengths_wrong lengths ≡ true → Refuses 1 records work a s v
  unfolding refusal condition_words answer_by records_by answer_to records_after
  wrong_refuses h = record { answered = r.answered.answered ∙ rw h refl; kept = r.filled.answered ∙ rw h refl; cleared = r.cleared }

no_document_lem : parse [] ≡ None
unfolding computing
no_document_lem = refl

module _ {lengths records work : List ℕ} {a : Answer} {s v : List ℕ} (r : Reads [] lengths records work a s v) where
  empty_refuses : lengths_wrong lengths ≡ false → Refuses 3 records work a s v
  unfolding refusal condition_words answer_by records_by answer_to records_after lists
  empty_refuses h = record {
    answered = answers_is r.answered ∙ rw (h, no_document_lem) refl;
    kept = answers_is r.filled ∙ rw (h, no_document_lem) refl;
    cleared = r.cleared;
  }

bare_empty : {bare lengths records work : List ℕ} {a : Answer} {s v : List ℕ}
    → bare ≡ [] → Reads bare lengths records work a s v → Reads [] lengths records work a s v
bare_empty e r = rw e at r

module _ {lengths buffer : List ℕ} {came : ℕ} {records work : List ℕ} {a : Answer} {s v : List ℕ} where
  refused_lengths : lengths_wrong lengths ≡ true → Refuses 1 records work a s v → Chooses lengths buffer came records work a s v
  refused_lengths h r = rw (r.answered, r.kept, r.cleared) (bad_lengths h)

  pub choose_read : came ≤ most_text → Reads (take came buffer) lengths records work a s v → Chooses lengths buffer came records work a s v
  choose_read m r = go (lengths_wrong lengths) refl
    where
      go : (b : Bool) → lengths_wrong lengths ≡ b → Chooses lengths buffer came records work a s v
      go true h = refused_lengths h (wrong_refuses r h)
      go false h = as_read h m r

  module _ {bare : List ℕ} (empty : bare ≡ []) where
    pub choose_wrong : Reads bare lengths records work a s v → a.number ≡ 1 → Chooses lengths buffer came records work a s v
    choose_wrong r e = go (lengths_wrong lengths) refl
      where
        go : (b : Bool) → lengths_wrong lengths ≡ b → Chooses lengths buffer came records work a s v
        go true h = refused_lengths h (wrong_refuses r h)
        go false h =
            let k = empty_refuses (bare_empty empty r) h in
            let z : a.number ≡ 3 = ap (λ (x : Answer). x.number) k.answered in
            absurd (omega arith)

    pub choose_long : {limit : ℕ} → limit < came → most_text ≤ limit → Reads bare lengths records work a s v → (a.number ≡ 1 → ⊥)
        → {b : Answer} → b ≡ refused_with 2 → Chooses lengths buffer came records work b s v
    choose_long m n r e {b} q = go (lengths_wrong lengths) refl
      where
        go : (t : Bool) → lengths_wrong lengths ≡ t → Chooses lengths buffer came records work b s v
        go true h = absurd (e (ap (λ (x : Answer). x.number) (wrong_refuses r h).answered))
        go false h = let k = empty_refuses (bare_empty empty r) h in rw (q, k.kept, k.cleared) (too_long h (omega arith))

pub ruleset chooseSteps = (choose_read, choose_wrong, choose_long, rules)

-- ---- With the first line.

many : (n : ℕ) (b : Bool) → (not (between 2 3 (suc (suc (suc (suc n))))) || b) ≡ true
many n b =
    let low : 2 ≤ suc (suc (suc (suc n))) = omega arith in
    let high : 3 < suc (suc (suc (suc n))) = omega arith in
    rw (le-leb 2 (suc (suc (suc (suc n)))) low, lt-leb (suc (suc (suc (suc n)))) 3 high) refl

module _ {line buffer : List ℕ} {came : ℕ} {records work : List ℕ} where
  -- another count of lengths is one that condition 1 refuses
  other_of : (o : Option (List ℕ)) → lengths_in line ≡ o → Other ≡ first_by o
      → Decides line buffer came records work (refused_with 1) records (replicate (length work) 0)
  unfolding first_by lengths_wrong
  other_of None e h = bad_form e
  other_of (Some []) e h = good_form e (bad_lengths refl)
  other_of (Some (a ∷ [])) e h = good_form e (bad_lengths refl)
  other_of (Some (a ∷ b ∷ [])) e h = clash (cc)
  other_of (Some (a ∷ b ∷ c ∷ [])) e h = clash (cc)
  other_of (Some (a ∷ b ∷ c ∷ d ∷ l)) e h =
      good_form e (bad_lengths (many (length l) (any (λ n. eqb n 0 || ltb 1048576 n) (a ∷ b ∷ c ∷ d ∷ l))))

  module _ {f : FirstLine} (told : f ≡ first_by (lengths_in line)) {a : Answer} {s v : List ℕ} where
    pub decide_two : {x y : ℕ} → f ≡ Two x y → Chooses (x ∷ y ∷ []) buffer came records work a s v
        → Decides line buffer came records work a s v
    decide_two e c = good_form (two_of_lem (lengths_in line) (sym e ∙ told)) c

    pub decide_three : {x y z : ℕ} → f ≡ Three x y z → Chooses (x ∷ y ∷ z ∷ []) buffer came records work a s v
        → Decides line buffer came records work a s v
    decide_three e c = good_form (three_of (lengths_in line) (sym e ∙ told)) c

    pub decide_other : f ≡ Other → v ≡ replicate (length work) 0 → s ≡ records → a ≡ refused_with 1
        → Decides line buffer came records work a s v
    decide_other e cleared kept refused = rw (refused, kept, cleared) (other_of (lengths_in line) refl (sym e ∙ told))

pub ruleset decideSteps = (decide_two, decide_three, decide_other, rules)
