-- CDATA THAT HOLDS BLANKS ALONE is its mark, blanks, and `]]>`: what a program reads in a gap where no words may stand.
use Rattle.std.specs.Prelude.{◌≡◌, List, [], ◌∷◌, ◌++◌, Bool, ℕ, zero, suc, ◌≤◌, ◌<◌, eqb, length, drop, Option, Some, None}
use Rattle.std.proofs.Math.Path.{refl, ap, sym}
use Rattle.std.proofs.Common.{◌∙◌, arith, rules}
use Rattle.std.proofs.Math.Bool.{true, false}
use borrow.Author.Tests.{eqb-true, ne_eqb}
use Rattle.lists.specs.Lists.{all}
use Rattle.lists.proofs.Laws.Booleans.{clash}
use Rattle.lists.proofs.Laws.Lists.{all_append}
use Rattle.grammar.specs.Bytes.{ascii, blank, begins, parted}
use Rattle.grammar.specs.Characters.{utf8_1, lead1}
use Rattle.grammar.specs.Document.{together}
use Rattle.grammar.specs.Grammar
use Rattle.grammar.specs.Grammar.{DataCharacter}
use Rattle.grammar.specs.Read.{Read, fail, got, bind, mark, span, all_of, many_step}
use Rattle.grammar.proofs.Laws.Read.{Ok, good, Takes}
use Rattle.grammar.specs.Parser.{data_character_at, data_at_lem}
use Rattle.grammar.proofs.Laws.Facts.{blank_in}
use Rattle.grammar.proofs.Laws.Sound.{data_character_sound}
use Rattle.grammar.proofs.Laws.Data.{data_character_reads}
use Rattle.grammar.proofs.Laws.Unfuelled.{all_of_step}
use Rattle.steps.proofs.Laws.Leaves.{data_character_eats}
use Rattle.steps.proofs.Laws.Until.{bind_assoc, bind_each}
use Rattle.steps.proofs.Laws.Feeds.{fed, left_by, feed_got}
use Rattle.steps.proofs.Laws.Characters.{mark_fails}
use Rattle.steps.proofs.Laws.Data.{inner_at, data_return, data_nil}
use Rattle.steps.specs.Step.{stepped}
use Rattle.steps.proofs.Laws.Leaves.{mark_tails, span_tails}
use Rattle.steps.proofs.Laws.Parsing.{stuck, follows}
use Rattle.nodes.specs.Ahead.{gap_data}
use Rattle.nodes.specs.BlankData.{blanks_at, blank_data_at}

-- the characters of CDATA, one by one
inner_stop : (s : List ℕ) → begins (ascii "]]>") s ≡ true → inner_at s ≡ bind (mark (ascii "]]>") s) (λ _ r. got [] r)
unfolding inner_at many_step bind
inner_stop s e = rw (all_of_step data_character_at (begins (ascii "]]>")) data_character_eats s, e)

inner_go : (s : List ℕ) → begins (ascii "]]>") s ≡ false
    → inner_at s ≡ bind (data_character_at s) (λ b r. bind (inner_at r) (λ w r₁. got (b ++ w) r₁))
unfolding inner_at many_step bind
inner_go s e = rw (all_of_step data_character_at (begins (ascii "]]>")) data_character_eats s, e, bind_assoc (data_character_at s))
    (bind_each (data_character_at s) _ _ λ b r. go b (all_of (begins (ascii "]]>")) data_character_at r))
  where
    last : (b : List ℕ) (bs : List (List ℕ)) (m : Read (Unit {0}))
        → bind m (λ _ r. got (b ++ together bs) r) ≡ bind (bind m (λ _ r. got (together bs) r)) (λ w r. got (b ++ w) r)
    last b bs fail = refl
    last b bs (got u r) = refl

    go : (b : List ℕ) (m : Read (List (List ℕ)))
        → bind (bind m (λ bs r. got (b ∷ bs) r)) (λ bs r. bind (mark (ascii "]]>") r) (λ _ r₁. got (together bs) r₁))
        ≡ bind (bind m (λ bs r. bind (mark (ascii "]]>") r) (λ _ r₁. got (together bs) r₁))) (λ w r₁. got (b ++ w) r₁)
    go b fail = refl
    go b (got bs r) = last b bs (mark (ascii "]]>") r)

-- what is blank in front changes nothing, and what is not decides
front_blank : (b : List ℕ) → all blank b ≡ true → (m : Read (List ℕ)) → gap_data false (bind m (λ w r. got (b ++ w) r)) ≡ gap_data false m
unfolding gap_data bind
front_blank b e fail = refl
front_blank b e (got w r) = rw (all_append blank b w, e)

front_dark : (b : List ℕ) → all blank b ≡ false → (m : Read (List ℕ)) → gap_data false (bind m (λ w r. got (b ++ w) r)) ≡ fail
unfolding gap_data bind
front_dark b e fail = refl
front_dark b e (got w r) = rw (all_append blank b w, e)

-- the blanks
blanks_over : (a : ℕ) (s : List ℕ) → blank a ≡ true → blanks_at (a ∷ s) ≡ blanks_at s
unfolding blanks_at bind span
blanks_over a s e = rw (e, span) (go (span blank s))
  where
    go : (m : Read (List ℕ)) → bind (bind m (λ w r. got (a ∷ w) r)) (λ _ r. mark (ascii "]]>") r) ≡ bind m (λ _ r. mark (ascii "]]>") r)
    go fail = refl
    go (got w r) = refl

blanks_here : (a : ℕ) (s : List ℕ) → blank a ≡ false → blanks_at (a ∷ s) ≡ mark (ascii "]]>") (a ∷ s)
unfolding blanks_at bind span
blanks_here a s e = rw (e, span)

blanks_fed : (s : List ℕ) → blanks_at (fed s) ≡ blanks_at s
unfolding fed left_by blank
blanks_fed [] = refl
blanks_fed (b ∷ s) = go (eqb b 10) refl
  where
    go : (t : Bool) → eqb b 10 ≡ t → blanks_at (left_by t b s) ≡ blanks_at (b ∷ s)
    go true e = let same = eqb-true b 10 e in rw same (sym (blanks_over 10 s refl))
    go false e = refl

no_bracket : (a : ℕ) (s : List ℕ) → blank a ≡ true → begins (ascii "]]>") (a ∷ s) ≡ false
unfolding begins
no_bracket a s h = let x = blank_in a h in rw (ne_eqb a 93 (λ e. omega arith))

-- a blank byte is a character by itself
blank_read : (a : ℕ) (s : List ℕ) → blank a ≡ true → eqb a 13 ≡ false → data_character_at (a ∷ s) ≡ got (a ∷ []) s
unfolding lead1 parted
blank_read a s h e =
    let one : lead1 a ≡ true = rw h in
    let alone : parted (a ∷ []) s ≡ false = rw e in
    data_character_reads (DataCharacter.literal (utf8_1 one) e) s alone

-- a character whose first byte is no blank is none
first_dark : {b w : List ℕ} → DataCharacter b w → (a : ℕ) (s r : List ℕ) → a ∷ s ≡ w ++ r → blank a ≡ false → all blank b ≡ false
unfolding all blank
first_dark (DataCharacter.literal {a = c} k f) a s r e h = let same : c ≡ a = cc in rw (same, h)
first_dark (DataCharacter.line_end Grammar.pair) a s r e h = let same : a ≡ 13 = cc in let bad : true ≡ false = rw same at h in clash (cc)
first_dark (DataCharacter.line_end Grammar.lone) a s r e h = let same : a ≡ 13 = cc in let bad : true ≡ false = rw same at h in clash (cc)

dark : (a : ℕ) (s : List ℕ) → blank a ≡ false
    → gap_data false (bind (data_character_at (a ∷ s)) (λ b r. bind (inner_at r) (λ w r₁. got (b ++ w) r₁))) ≡ fail
unfolding gap_data bind
dark a s h = go (data_character_at (a ∷ s)) (data_character_sound (a ∷ s))
  where
    go : (m : Read (List ℕ)) → Ok (Takes DataCharacter (a ∷ s)) m
        → gap_data false (bind m (λ b r. bind (inner_at r) (λ w r₁. got (b ++ w) r₁))) ≡ fail
    go fail k = refl
    go (got b r) (good k) = front_dark b (first_dark k.2 a s r k.1 h) (inner_at r)

closes : (m : Read (Unit {0})) → gap_data false (bind m (λ _ r. got [] r)) ≡ m
unfolding gap_data bind all
closes fail = refl
closes (got _ r) = refl

nothing_there : gap_data false (inner_at []) ≡ blanks_at []
unfolding gap_data blanks_at span begins bind mark
nothing_there = let none : inner_at [] ≡ fail = inner_go [] refl ∙ rw data_nil in rw none

fed_short : (s : List ℕ) → length (fed s) ≤ length s
unfolding fed left_by
fed_short [] = omega arith
fed_short (b ∷ s) = go (eqb b 10)
  where
    go : (t : Bool) → length (left_by t b s) ≤ length (b ∷ s)
    go true = omega arith
    go false = omega arith

module _ (n : ℕ) (ih : (r : List ℕ) → length r < n → gap_data false (inner_at r) ≡ blanks_at r) where
  light : (a : ℕ) (s : List ℕ) → length s < n → blank a ≡ true → (t : Bool) → eqb a 13 ≡ t
      → gap_data false (inner_at (a ∷ s)) ≡ blanks_at (a ∷ s)
  unfolding bind blank all
  light a s l h false e =
      ap (gap_data false) (inner_go (a ∷ s) (no_bracket a s h) ∙ rw (blank_read a s h e))
      ∙ front_blank (a ∷ []) (rw h) (inner_at s) ∙ ih s l ∙ sym (blanks_over a s h)
  light a s l h true e =
      let same = eqb-true a 13 e in
      let read : data_character_at (13 ∷ s) ≡ got (ascii "\n") (fed s) = data_return s ∙ feed_got (ascii "\n") s in
      rw same (ap (gap_data false) (inner_go (13 ∷ s) (no_bracket 13 s refl) ∙ rw read)
      ∙ front_blank (ascii "\n") refl (inner_at (fed s)) ∙ ih (fed s) (omega (arith, fed_short s))
      ∙ blanks_fed s ∙ sym (blanks_over 13 s refl))

  shaded : (a : ℕ) (s : List ℕ) → blank a ≡ false → (t : Bool) → begins (ascii "]]>") (a ∷ s) ≡ t
      → gap_data false (inner_at (a ∷ s)) ≡ blanks_at (a ∷ s)
  shaded a s h false e =
      ap (gap_data false) (inner_go (a ∷ s) e) ∙ dark a s h ∙ sym (blanks_here a s h ∙ mark_fails (ascii "]]>") (a ∷ s) e)
  shaded a s h true e = ap (gap_data false) (inner_stop (a ∷ s) e) ∙ closes (mark (ascii "]]>") (a ∷ s)) ∙ sym (blanks_here a s h)

  inner_by : (s : List ℕ) → length s < suc n → gap_data false (inner_at s) ≡ blanks_at s
  inner_by [] l = nothing_there
  inner_by (a ∷ s) l = go (blank a) refl
    where
      go : (t : Bool) → blank a ≡ t → gap_data false (inner_at (a ∷ s)) ≡ blanks_at (a ∷ s)
      go true h = light a s (omega arith) h (eqb a 13) refl
      go false h = shaded a s h (begins (ascii "]]>") (a ∷ s)) refl

inner_blank : (n : ℕ) (s : List ℕ) → length s < n → gap_data false (inner_at s) ≡ blanks_at s
inner_blank zero s h = absurd (omega arith)
inner_blank (suc n) s h = inner_by n (λ r l. inner_blank n r l) s h

-- THE LAW
pub blank_data : (s : List ℕ) → gap_data false (data_at_lem s) ≡ blank_data_at s
unfolding data_at_lem blank_data_at inner_at gap_data bind
blank_data s = go (mark (ascii "<![CDATA[") s)
  where
    go : (m : Read (Unit {0})) → gap_data false (bind m (λ _ r. inner_at r)) ≡ bind m (λ _ r. blanks_at r)
    go fail = refl
    go (got u r) = inner_blank (suc (length r)) r (omega arith)

-- at a position of the text: one law for each way through the code
module _ (text : List ℕ) (at : ℕ) (words : Bool) where
  abbrev Gap : Option ℕ → Type 0
  Gap x = x ≡ stepped (length text) (gap_data words (data_at_lem (drop at text)))

  pub gap_any : words ≡ true → {x : Option ℕ} → x ≡ stepped (length text) (data_at_lem (drop at text)) → Gap x
  unfolding gap_data stepped
  gap_any e k = k ∙ rw e (go (data_at_lem (drop at text)))
    where
      go : (m : Read (List ℕ)) → stepped (length text) m ≡ stepped (length text) (gap_data true m)
      go fail = refl
      go (got b r) = refl

  pub gap_blank : words ≡ false → {x : Option ℕ} → x ≡ stepped (length text) (blank_data_at (drop at text)) → Gap x
  gap_blank e k = k ∙ rw e (ap (stepped (length text)) (sym (blank_data (drop at text))))

module _ (text : List ℕ) (at : ℕ) {x : Option ℕ} (q : x ≡ stepped (length text) (mark (ascii "<![CDATA[") (drop at text))) where
  pub blank_missing : x ≡ None → None ≡ stepped (length text) (blank_data_at (drop at text))
  unfolding blank_data_at
  blank_missing z = stuck (length text) (mark (ascii "<![CDATA[") (drop at text)) _ q z

  pub blank_there : {i : ℕ} → x ≡ Some i → {j : ℕ} → Some j ≡ stepped (length text) (span blank (drop i text)) → {y : Option ℕ}
      → y ≡ stepped (length text) (mark (ascii "]]>") (drop j text)) → y ≡ stepped (length text) (blank_data_at (drop at text))
  unfolding blank_data_at blanks_at
  blank_there {i} z {j} w k = follows (mark (ascii "<![CDATA[")) (mark_tails (ascii "<![CDATA[")) text at _ q i z λ _ _.
      follows (span blank) (span_tails blank) text i _ w j refl λ _ _. k

pub ruleset gap_marked = (gap_any, gap_blank, rules)

pub ruleset blank_marked = (blank_missing, blank_there, rules)
