-- THE LIST POSITION NEVER RESTARTS: the n-th number that `next_number` hands out, from a place on, is the n-th of the list that is
-- written from there on.
use Rattle.std.specs.Prelude.{◌≡◌, refl, List, Bool, true, false, ℕ, zero, suc, ◌≤◌, ◌<◌, length, drop, get_or, Some}
use Rattle.std.proofs.Common.{sym, ap, ◌∙◌, arith}
use Rattle.lists.proofs.Laws.Booleans.{clash}
use Rattle.grammar.specs.Look.{Word, text_of}
use Rattle.lists.specs.Lists.{all, each}
use Rattle.nodes.specs.Places.{Stands, the}
use Rattle.nodes.specs.Texts.{says_at}
use Rattle.nodes.specs.Texts.{inside}
use Rattle.nodes.proofs.Laws.TextSteps.{text_law, text_some}
use Rattle.numbers.specs.Numbers.{digits, words, values}
use Rattle.numbers.specs.Answers.{next_number}
use Rattle.numbers.proofs.Laws.Walk.{number_law, end_law, bad_law}
use Rattle.numbers.specs.declared.Next.{Next}
use Rattle.numbers.specs.declared.Next.TheVariants.{Number, End, Bad}

-- the n-th answer, from 0, of a walk that goes on behind each number
unfoldable pub after : Next → (ℕ → Next) → Next
after (Number v j) f = f j
after End f = End
after Bad f = Bad

unfoldable pub handed : ℕ → List ℕ → ℕ → Next
handed zero text i = next_number text i
handed (suc n) text i = after (next_number text i) (handed n text)

-- every word is a whole number of 1 to 7 digits
unfoldable pub in_form : Word → Bool
in_form w = all (digits 1 7) (words w)

-- what the n-th answer says
pub record Nth (text : List ℕ) (i n v j : ℕ) : Type 0 where
  pub valued : get_or (values (says_at text i)) n 0 ≡ v
  pub counted : n < length (values (says_at text i))
  pub left : words (says_at text j) ≡ drop (suc n) (words (says_at text i))

handed_suc : (n : ℕ) (text : List ℕ) (i : ℕ) → handed (suc n) text i ≡ after (next_number text i) (handed n text)
unfolding handed
handed_suc n text i = refl

pub nth : (n : ℕ) (text : List ℕ) (i : ℕ) {v j : ℕ} → handed n text i ≡ Number v j → Nth text i n v j
unfolding handed after values each
nth zero text i {v} {j} e =
    let h = number_law text i refl e in
    record { valued = rw h.splits h.valued; counted = rw h.splits (omega arith); left = rw h.splits refl }
nth (suc n) text i {v} {j} e = go (next_number text i) refl (sym (handed_suc n text i) ∙ e) λ k q. nth n text k q
  where
    go : (x : Next) → next_number text i ≡ x → after x (handed n text) ≡ Number v j
        → ((k : ℕ) → handed n text k ≡ Number v j → Nth text k n v j) → Nth text i (suc n) v j
    go End q h ih = clash (cc)
    go Bad q h ih = clash (cc)
    go (Number u k) q h ih =
        let f = number_law text i refl q in
        let r = ih k h in
        record {
          valued = rw f.splits r.valued;
          counted = rw f.splits (omega (arith, r.counted));
          left = rw f.splits r.left;
        }

-- In form, each is handed out, and then the end; out of form, some answer is `Bad`.
first_form : (text : List ℕ) (i : ℕ) {v j : ℕ} → next_number text i ≡ Number v j → in_form (says_at text i) ≡ in_form (says_at text j)
unfolding in_form all
first_form text i e = let h = number_law text i refl e in rw (h.splits, h.in_form_lem) refl

bad_form : (text : List ℕ) (i : ℕ) → next_number text i ≡ Bad → in_form (says_at text i) ≡ false
unfolding in_form all
bad_form text i e = let h = bad_law text i refl e in rw (h.splits, h.out_of_form) refl

pub never_bad : (n : ℕ) (text : List ℕ) (i : ℕ) → handed n text i ≡ Bad → in_form (says_at text i) ≡ false
unfolding handed after
never_bad zero text i e = bad_form text i e
never_bad (suc n) text i e = go (next_number text i) refl (sym (handed_suc n text i) ∙ e) λ k q. never_bad n text k q
  where
    go : (x : Next) → next_number text i ≡ x → after x (handed n text) ≡ Bad
        → ((k : ℕ) → handed n text k ≡ Bad → in_form (says_at text k) ≡ false) → in_form (says_at text i) ≡ false
    go End q h ih = clash (cc)
    go Bad q h ih = bad_form text i q
    go (Number u k) q h ih = first_form text i q ∙ ih k h

pub ended : (n : ℕ) (text : List ℕ) (i : ℕ) → handed n text i ≡ End → (in_form (says_at text i) ≡ true)
    × (length (values (says_at text i)) ≤ n)
unfolding handed after in_form all values each
ended zero text i e = let h = end_law text i refl e in rw h (refl, omega arith)
ended (suc n) text i e = go (next_number text i) refl (sym (handed_suc n text i) ∙ e) λ k q. ended n text k q
  where
    go : (x : Next) → next_number text i ≡ x → after x (handed n text) ≡ End
        → ((k : ℕ) → handed n text k ≡ End → (in_form (says_at text k) ≡ true) × (length (values (says_at text k)) ≤ n))
        → (in_form (says_at text i) ≡ true) × (length (values (says_at text i)) ≤ suc n)
    go Bad q h ih = clash (cc)
    go End q h ih = let f = end_law text i refl q in rw f (refl, omega arith)
    go (Number u k) q h ih =
        let f = number_law text i refl q in
        let r = ih k h in
        rw (f.splits, f.in_form_lem) (r.0, omega (arith, r.1))

-- one of the three, for every n
pub data Answer (text : List ℕ) (i n : ℕ) : Type 0 where
  a_number : {v j : ℕ} → handed n text i ≡ Number v j → Nth text i n v j → Answer text i n
  the_end : handed n text i ≡ End → in_form (says_at text i) ≡ true → length (values (says_at text i)) ≤ n → Answer text i n
  out_of_form : handed n text i ≡ Bad → in_form (says_at text i) ≡ false → Answer text i n

pub answers : (n : ℕ) (text : List ℕ) (i : ℕ) → Answer text i n
answers n text i = go (handed n text i) refl
  where
    go : (x : Next) → handed n text i ≡ x → Answer text i n
    go (Number v j) e = a_number e (nth n text i e)
    go End e = let h = ended n text i e in the_end e h.0 h.1
    go Bad e = out_of_form e (never_bad n text i e)

-- so a list in form hands out its numbers, all of them, and then the end
pub all_handed : (n : ℕ) (text : List ℕ) (i : ℕ) → in_form (says_at text i) ≡ true → n < length (values (says_at text i))
    → (j : ℕ) × (handed n text i ≡ Number (get_or (values (says_at text i)) n 0) j)
all_handed n text i f l = go (answers n text i)
  where
    go : Answer text i n → (j : ℕ) × (handed n text i ≡ Number (get_or (values (says_at text i)) n 0) j)
    go (a_number {v = v} {j = j} e h) = (j, e ∙ ap (λ z. Number z j) (sym h.valued))
    go (the_end e g h) = absurd (omega arith)
    go (out_of_form e h) = clash (cc)

text_is : {text : List ℕ} {at i : ℕ} → Stands text at → inside text at ≡ Some i → says_at text i ≡ text_of (the text at)
text_is {text} {at} {i} st e = sym (text_some text at e) ∙ text_law st

-- THE SAME, OF THE DOCUMENT: the n-th number handed out from where the contents begin is the n-th of the element's text.
pub of_the_document : {text : List ℕ} {at i : ℕ} → Stands text at → inside text at ≡ Some i → (n : ℕ) {v j : ℕ}
    → handed n text i ≡ Number v j → get_or (values (text_of (the text at))) n 0 ≡ v
of_the_document {text} {at} {i} st e n h = ap (λ w. get_or (values w) n 0) (sym (text_is st e)) ∙ (nth n text i h).valued
