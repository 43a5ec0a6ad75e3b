-- CDATA, at a position of the text: one law for each way through the code.
use Rattle.std.specs.Prelude.{◌≡◌, refl, List, [], ◌∷◌, ◌++◌, ℕ, ◌+◌, ◌-◌, ◌≤◌, ◌<◌, Bool, true, false, not, eqb, length, drop, get_or, Option, Some, None}
use Rattle.std.proofs.Math.Path.{ap}
use Rattle.std.proofs.Common.{sym, ◌∙◌, subst, arith, rules}
use borrow.Author.Tests.{ne_eqb, not-true}
use Rattle.lists.proofs.Laws.Booleans.{not_so, and_left, and_right}
use Rattle.grammar.specs.Bytes.{ascii, begins, parted, Each, no_byte, a_byte}
use Rattle.grammar.specs.Characters.{utf8_1, lead1}
use Rattle.grammar.specs.Grammar.{DataCharacter}
use Rattle.grammar.specs.Document.{together}
use Rattle.grammar.specs.Read.{Read, fail, got, bind, byte, mark, alt, all_of, span}
use Rattle.grammar.proofs.Laws.Read.{span_sound, Ok, ok_got}
use Rattle.grammar.specs.Parser.{literal_at, feed_at, line_end_at, data_byte, data_character_at, data_at_lem}
use Rattle.grammar.proofs.Laws.Tokens.{line_end_other}
use Rattle.grammar.proofs.Laws.Data.{data_character_reads}
use Rattle.steps.specs.Step.{stepped, Went}
use Rattle.steps.proofs.Laws.Step.{at_byte, at_end, refuses, went}
use Rattle.steps.proofs.Laws.Until.{Going, going_start, going_stops, going_fails, going_stuck, going_goes, moved, stepped_value}
use Rattle.steps.specs.Until.{until}
use Rattle.steps.proofs.Laws.Until.{stepped_each, until_go}
use Rattle.steps.proofs.Laws.Parsing.{stuck, follows}
use Rattle.steps.proofs.Laws.Feeds.{feed_got, return_read}
use Rattle.steps.specs.Leaves.{character_at, data_plain, data_rest_at}
use Rattle.steps.proofs.Laws.Leaves.{literal_is, mark_tails, span_tails, data_character_eats}
use Rattle.steps.proofs.Laws.Leaves.{data_character_tails}

-- `]]>`
module _ (text : List ℕ) (at : ℕ) where
  pub brackets_none : length text ≤ at → false ≡ begins (ascii "]]>") (drop at text)
  unfolding begins
  brackets_none h = rw (at_end text at h)

  pub brackets_other : at < length text → (get_or text at 0 ≡ 93 → ⊥) → false ≡ begins (ascii "]]>") (drop at text)
  unfolding begins
  brackets_other h f = rw (at_byte text at h, ne_eqb (get_or text at 0) 93 f)

-- one character, or the end of a line
pub data_nil : data_character_at [] ≡ fail
unfolding data_character_at line_end_at literal_at mark byte alt bind
data_nil = refl

pub data_return : (s : List ℕ) → data_character_at (13 ∷ s) ≡ feed_at (ascii "\n") s
unfolding data_character_at alt
data_return s = let known = return_read (ascii "\n") s in let read = feed_got (ascii "\n") s in rw (known, read)

data_literal : (a : ℕ) (s : List ℕ) → (a ≡ 13 → ⊥) → data_character_at (a ∷ s) ≡ character_at (a ∷ s)
unfolding data_character_at alt data_byte
data_literal a s f =
    let e = ne_eqb a 13 f in
    let passes : data_byte a ≡ true = not_so e in
    rw (line_end_other (ascii "\n") a e s) (literal_is data_byte a s passes)

module _ (text : List ℕ) (at : ℕ) where
  abbrev Character : Option ℕ → Type 0
  Character r = r ≡ stepped (length text) (data_character_at (drop at text))

  pub data_none : length text ≤ at → Character None
  data_none h = refuses (length text) (data_character_at (drop at text)) (rw (at_end text at h) data_nil)

  module _ (h : at < length text) where
    pub data_fed : get_or text at 0 ≡ 13 → {j : ℕ} → Some j ≡ stepped (length text) (feed_at (ascii "\n") (drop (at + 1) text))
        → Character (Some j)
    data_fed e k =
        let here : drop at text ≡ 13 ∷ drop (at + 1) text = rw (at_byte text at h, e) in
        k ∙ ap (stepped (length text)) (sym (data_return (drop (at + 1) text)) ∙ ap data_character_at (sym here))

    pub data_other : (get_or text at 0 ≡ 13 → ⊥) → {r : Option ℕ} → r ≡ stepped (length text) (character_at (drop at text)) → Character r
    data_other f k = k ∙ rw (at_byte text at h) (ap (stepped (length text)) (sym (data_literal (get_or text at 0) (drop (at + 1) text) f)))

-- up to `]]>`
abbrev pub InData : List ℕ → ℕ → ℕ → Type 0
InData text at i = Going (begins (ascii "]]>")) data_character_at (mark (ascii "]]>")) text at i

pub data_start : (text : List ℕ) (at : ℕ) → InData text at at
data_start text at = going_start (begins (ascii "]]>")) data_character_at (mark (ascii "]]>")) text at

-- plain bytes are passed over at once
plain_on : (a : ℕ) (s : List ℕ) → data_plain a ≡ true → data_rest_at (a ∷ s) ≡ data_rest_at s
unfolding data_plain data_rest_at begins parted bind
plain_on a s e =
    let others = and_right (lead1 a) _ e in
    let no_bracket : eqb a 93 ≡ false = not-true (eqb a 93) (and_left (not (eqb a 93)) _ others) in
    let no_return : eqb a 13 ≡ false = not-true (eqb a 13) (and_right (not (eqb a 93)) _ others) in
    let open_here : begins (ascii "]]>") (a ∷ s) ≡ false = rw no_bracket in
    let alone : parted (a ∷ []) s ≡ false = rw no_return in
    let read = data_character_reads (DataCharacter.literal (utf8_1 (and_left (lead1 a) _ e)) no_return) s alone in
    until_go (begins (ascii "]]>")) data_character_at (mark (ascii "]]>")) data_character_eats (a ∷ s) open_here ∙ rw read

plain_over : {w : List ℕ} → Each data_plain w → (r : List ℕ) → data_rest_at (w ++ r) ≡ data_rest_at r
plain_over no_byte r = refl
plain_over (a_byte {a} {w} e h) r = plain_on a (w ++ r) e ∙ plain_over h r

module _ (text : List ℕ) (i : ℕ) {j : ℕ} (q : Some j ≡ stepped (length text) (span data_plain (drop i text))) where
  spanned : Went (span data_plain) text i j
  spanned = went (span data_plain) text i j (span_tails data_plain (drop i text)) q

  whole : (drop i text ≡ spanned.value ++ drop j text) × Each data_plain spanned.value
  whole = ok_got (subst (λ (m : Read (List ℕ)). Ok (λ w r. (drop i text ≡ w ++ r) × Each data_plain w) m) spanned.reads
      (span_sound data_plain (drop i text)))

  pub data_over : (at : ℕ) → InData text at i → InData text at j
  unfolding data_rest_at
  data_over at go = record {
    same_end = go.same_end ∙ ap (λ s. stepped (length text) (data_rest_at s)) whole.0
        ∙ ap (stepped (length text)) (plain_over whole.1 (drop j text));
  }

  pub data_falls : i < length text → {r : Option ℕ} → r ≡ stepped (length text) (data_character_at (drop j text)) → {k : ℕ} → r ≡ Some k
      → length text - k < length text - i
  data_falls h is {k} n =
      let on : j < k = moved data_character_at data_character_eats data_character_tails text j is n in
      omega (arith, spanned.ahead (omega arith))

module _ (text : List ℕ) (at i : ℕ) (go : InData text at i) where
  abbrev Rest : Option ℕ → Type 0
  Rest r = r ≡ stepped (length text) (data_rest_at (drop at text))

  pub data_open : length text ≤ i → Rest None
  unfolding data_rest_at
  data_open h =
      let k : data_character_at (drop i text) ≡ fail = rw (at_end text i h) data_nil in
      going_fails (begins (ascii "]]>")) data_character_at (mark (ascii "]]>")) data_character_eats text at i go
      (sym (brackets_none text i h)) k

  module _ {t : Bool} (is : t ≡ begins (ascii "]]>") (drop i text)) where
    pub data_closes : t ≡ true → {r : Option ℕ} → r ≡ stepped (length text) (mark (ascii "]]>") (drop i text)) → Rest r
    unfolding data_rest_at
    data_closes e k = going_stops (begins (ascii "]]>")) data_character_at (mark (ascii "]]>")) data_character_eats text at i go
        (sym is ∙ e) k

    module _ (e : t ≡ false) {r : Option ℕ} (s : r ≡ stepped (length text) (data_character_at (drop i text))) where
      pub data_stuck : r ≡ None → Rest None
      unfolding data_rest_at
      data_stuck n = going_stuck (begins (ascii "]]>")) data_character_at (mark (ascii "]]>")) data_character_eats text at i go
          (sym is ∙ e) s n

      pub data_more : {j : ℕ} → r ≡ Some j → InData text at j
      data_more n = going_goes (begins (ascii "]]>")) data_character_at (mark (ascii "]]>")) data_character_eats text at i go
          (sym is ∙ e) data_character_tails s n

-- the whole, behind its mark: the answer does not see the characters
unfoldable pub inner_at : List ℕ → Read (List ℕ)
inner_at s = bind (all_of (begins (ascii "]]>")) data_character_at s) (λ bs r. bind (mark (ascii "]]>") r) (λ _ r₁. got (together bs) r₁))

rest_is : (n : ℕ) (s : List ℕ) → stepped n (data_rest_at s) ≡ stepped n (inner_at s)
unfolding data_rest_at until inner_at
rest_is n s = stepped_each n (all_of (begins (ascii "]]>")) data_character_at s) (λ _ r. mark (ascii "]]>") r)
    (λ bs r. bind (mark (ascii "]]>") r) (λ _ r₁. got (together bs) r₁))
    (λ bs r. sym (stepped_value n (mark (ascii "]]>") r) (λ _. together bs)))

module _ (text : List ℕ) (at : ℕ) {r : Option ℕ} (is : r ≡ stepped (length text) (mark (ascii "<![CDATA[") (drop at text))) where
  pub data_missing : r ≡ None → None ≡ stepped (length text) (data_at_lem (drop at text))
  unfolding data_at_lem
  data_missing n = stuck (length text) (mark (ascii "<![CDATA[") (drop at text)) _ is n

  pub data_there : {i : ℕ} → r ≡ Some i → {x : Option ℕ} → x ≡ stepped (length text) (data_rest_at (drop i text))
      → x ≡ stepped (length text) (data_at_lem (drop at text))
  unfolding data_at_lem inner_at
  data_there {i} n k = follows (mark (ascii "<![CDATA[")) (mark_tails (ascii "<![CDATA[")) text at _ is i n λ _ _.
      k ∙ rest_is (length text) (drop i text)

pub ruleset brackets_there = (brackets_none, brackets_other, rules)

pub ruleset data_characters = (data_none, data_fed, data_other, rules)

pub ruleset in_data_laws = (data_start, data_over, data_open, data_closes, data_stuck, data_more, data_falls, rules)

pub ruleset data_whole = (data_missing, data_there, rules)
