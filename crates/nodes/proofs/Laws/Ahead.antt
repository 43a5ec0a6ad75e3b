-- What stands ahead, at a position of the text: one law for each way through the code.
use Rattle.std.specs.Prelude.{◌≡◌, List, ◌++◌, ℕ, ◌+◌, ◌-◌, ◌≤◌, ◌<◌, Bool, true, false, ◌||◌, drop, Option, Some, None}
use Rattle.std.proofs.Math.Path.{refl, ap, sym}
use Rattle.std.proofs.Common.{◌∙◌, arith, rules, length-drop}
use Rattle.std.proofs.Math.ListN.{length}
use Rattle.lists.specs.Lists.{all}
use Rattle.lists.proofs.Laws.Booleans.{clash}
use Rattle.grammar.specs.Bytes.{blank}
use Rattle.grammar.specs.Read.{Read, fail, got, Reader, span}
use Rattle.grammar.proofs.Laws.Read.{Ok, failed, good, ok_got}
use Rattle.grammar.specs.Parser.{comment_at, data_at_lem, Look, at_close, at_comment, at_data, at_element, at_text, look}
use Rattle.grammar.proofs.Laws.Sound.{comment_sound, data_sound}
use Rattle.steps.specs.Step.{stepped, Went}
use Rattle.steps.proofs.Laws.Step.{at_end, fell, Tails, tails, went}
use Rattle.nodes.specs.Places.{pick}
use Rattle.nodes.proofs.Laws.Places.{tail_of}
use Rattle.nodes.proofs.Laws.Depth.{comment_eats}
use Rattle.nodes.specs.Scan.{to_tag, past_tag, tag_from, tag_at, InTag}
use Rattle.nodes.proofs.Laws.Scanned.{tag_from_less}
use Rattle.nodes.specs.ScanSteps.{tag_told}
use Rattle.nodes.specs.Ahead.{after_gap, past_gap, ending, ahead_then, ahead_by, ahead_at, first_ahead_by}
use Rattle.nodes.proofs.Laws.AheadSteps.{gap_short, ahead_step}
use Rattle.nodes.specs.Ahead.{first_ahead, ahead_in_tag, gap_data, tag_passed}
use Rattle.nodes.proofs.Laws.AheadSteps.{gap_data_eats}
use Rattle.nodes.proofs.Laws.AheadElements.{gap_tail}
use Rattle.nodes.specs.declared.ahead.Ahead.{Ahead}
use Rattle.nodes.specs.declared.ahead.Ahead.TheVariants.{Child, End, Stray}
use Rattle.steps.specs.Pieces.{front}
use Rattle.steps.specs.declared.pieces.Front.{Front}
use Rattle.steps.specs.declared.pieces.Front.TheVariants as front_is
use Rattle.nodes.specs.declared.scan.Tag.{Tag}
use Rattle.nodes.specs.declared.scan.Tag.TheVariants as tag_is
use Rattle.nodes.proofs.Laws.Scan.{looks_close, looks_comment, looks_data, looks_start, looks_text, tag_opens}
use Rattle.nodes.proofs.Laws.Skip.{place, Lies, lies, opens_so, bare_so, none_so}

module _ (text : List ℕ) (at : ℕ) {words : Bool} {r : ℕ} where
  pub gap_words : words ≡ true → r ≡ length text - length (to_tag (drop at text)) → r ≡ length text - length (past_gap words (drop at text))
  unfolding past_gap
  gap_words e h = rw e h

  pub gap_blanks : words ≡ false → Some r ≡ stepped (length text) (span blank (drop at text))
      → r ≡ length text - length (past_gap words (drop at text))
  unfolding past_gap stepped after_gap
  gap_blanks e h = rw e (go (span blank (drop at text)) h)
    where
      go : (m : Read (List ℕ)) → Some r ≡ stepped (length text) m → r ≡ length text - length (after_gap m)
      go fail k = clash (cc)
      go (got w s) k = cc

pub ruleset gaps = (gap_words, gap_blanks, rules)

module _ (n : ℕ) (m : Read (Unit {0})) {x : Option ℕ} (k : x ≡ stepped n m) where
  pub end_there : {j : ℕ} → x ≡ Some j → End j ≡ ending n m
  unfolding stepped ending
  end_there {j} z = go m (sym k ∙ z)
    where
      go : (m : Read (Unit {0})) → stepped n m ≡ Some j → End j ≡ ending n m
      go fail e = clash (cc)
      go (got u r) e = let q : n - length r ≡ j = cc in cc

  pub end_missing : x ≡ None → Stray ≡ ending n m
  unfolding ending
  end_missing z = sym (rw (fell n m (sym z ∙ k)))

pub ruleset ends = (end_there, end_missing, rules)

comment_tails : (s : List ℕ) → Ok (Tails s) (comment_at s)
comment_tails s = tails (comment_sound s)

gap_data_tails : (words : Bool) (s : List ℕ) → Ok (Tails s) (gap_data words (data_at_lem s))
unfolding gap_data
gap_data_tails words s = go (data_at_lem s) (tails (data_sound s))
  where
    by : (t : Bool) (r : List ℕ) → (w : List ℕ) × (s ≡ w ++ r) → Ok (Tails s) (pick {A = Read (Unit {0})} t (got tt r) fail)
    by true r h = good h
    by false r h = failed

    go : (m : Read (List ℕ)) → Ok (Tails s) m → Ok (Tails s) (gap_data words m)
    go fail h = failed
    go (got b r) (good h) = by (words || all blank b) r h

pub record Heading (text : List ℕ) (words : Bool) (at i : ℕ) : Type 0 where
  same_ahead : ahead_at words (length text) (drop at text) ≡ ahead_at words (length text) (drop i text)

pub heading_start : (text : List ℕ) (words : Bool) (at : ℕ) → Heading text words at at
heading_start text words at = record { same_ahead = refl }

module _ (text : List ℕ) (words : Bool) (at i : ℕ) (go : Heading text words at i) {t : ℕ}
    (et : t ≡ length text - length (past_gap words (drop i text))) {f : Front} (ef : f ≡ front (look (drop t text))) where
  gap_lies : Lies text (past_gap words (drop i text)) t
  gap_lies = lies (gap_tail text words (drop i text) (tail_of text i)) (sym et)

  by_look : (l : Look) → look (drop t text) ≡ l
      → ahead_at words (length text) (drop at text) ≡ ahead_by words l (ahead_at words (length text)) (length text) (drop t text)
  by_look l q = let z : past_gap words (drop i text) ≡ drop t text = gap_lies.rest in go.same_ahead
      ∙ ahead_step words (length text) (drop i text) ∙ rw (z, q)

  pub heading_text : f ≡ front_is.Text → Stray ≡ ahead_at words (length text) (drop at text)
  unfolding ahead_by
  heading_text q = sym (by_look at_text (looks_text (drop t text) ef q))

  pub heading_close : f ≡ front_is.Close → {r : Ahead} → r ≡ ending (length text) (past_tag (drop t text))
      → r ≡ ahead_at words (length text) (drop at text)
  unfolding ahead_by
  heading_close q w = w ∙ sym (by_look at_close (looks_close (drop t text) ef q))

  pub heading_child : f ≡ front_is.Start → Child t ≡ ahead_at words (length text) (drop at text)
  unfolding ahead_by
  heading_child q = sym (by_look at_element (looks_start (drop t text) ef q) ∙ ap Child (place text t gap_lies.inside))

  -- where an end tag is told by where it begins
  pub leading_text : f ≡ front_is.Text → tag_passed text Stray ≡ ahead_at words (length text) (drop at text)
  unfolding tag_passed
  leading_text q = heading_text q

  pub leading_close : f ≡ front_is.Close → tag_passed text (End t) ≡ ahead_at words (length text) (drop at text)
  unfolding tag_passed
  leading_close q = heading_close q refl

  pub leading_child : f ≡ front_is.Start → tag_passed text (Child t) ≡ ahead_at words (length text) (drop at text)
  unfolding tag_passed
  leading_child q = heading_child q

  -- what is passed over, a comment or CDATA
  module _ (l : Look) (q : look (drop t text) ≡ l) (p : Reader (Unit {0}))
      (by : ahead_by words l (ahead_at words (length text)) (length text) (drop t text)
      ≡ ahead_then (p (drop t text)) (ahead_at words (length text)))
      (eats : (s : List ℕ) → Ok (λ _ r. length r < length s) (p s)) (leaves : (s : List ℕ) → Ok (Tails s) (p s))
      {x : Option ℕ} (k : x ≡ stepped (length text) (p (drop t text))) where
    over : ahead_at words (length text) (drop at text) ≡ ahead_then (p (drop t text)) (ahead_at words (length text))
    over = by_look l q ∙ by

    over_stuck : x ≡ None → Stray ≡ ahead_at words (length text) (drop at text)
    unfolding ahead_then
    over_stuck z = sym (over ∙ rw (fell (length text) (p (drop t text)) (sym z ∙ k)))

    module _ {j : ℕ} (z : x ≡ Some j) where
      passed : Went p text t j
      passed = went p text t j (leaves (drop t text)) (sym z ∙ k)

      over_on : Heading text words at j
      unfolding ahead_then
      over_on = record { same_ahead = over ∙ rw passed.reads }

      over_less : length text - j < length text - i
      over_less =
          let h : length (drop j text) < length (drop t text) = ok_got (rw passed.reads at (eats (drop t text))) in
          omega (arith, gap_short words (drop i text), length-drop i text, length-drop j text, length-drop t text)

  module _ (q : f ≡ front_is.Comment) {x : Option ℕ} (k : x ≡ stepped (length text) (comment_at (drop t text))) where
    pub heading_stuck : x ≡ None → Stray ≡ ahead_at words (length text) (drop at text)
    unfolding ahead_by
    heading_stuck z = over_stuck at_comment (looks_comment (drop t text) ef q) comment_at refl comment_eats comment_tails k z

    pub leading_stuck : x ≡ None → tag_passed text Stray ≡ ahead_at words (length text) (drop at text)
    unfolding tag_passed
    leading_stuck z = heading_stuck z

    pub heading_on : {j : ℕ} → x ≡ Some j → Heading text words at j
    unfolding ahead_by
    heading_on z = over_on at_comment (looks_comment (drop t text) ef q) comment_at refl comment_eats comment_tails k z

    pub heading_less : {j : ℕ} → x ≡ Some j → length text - j < length text - i
    unfolding ahead_by
    heading_less z = over_less at_comment (looks_comment (drop t text) ef q) comment_at refl comment_eats comment_tails k z

  module _ (q : f ≡ front_is.Data) {x : Option ℕ} (k : x ≡ stepped (length text) (gap_data words (data_at_lem (drop t text)))) where
    pub marked_stuck : x ≡ None → Stray ≡ ahead_at words (length text) (drop at text)
    unfolding ahead_by
    marked_stuck z = over_stuck at_data (looks_data (drop t text) ef q) (λ s. gap_data words (data_at_lem s)) refl (gap_data_eats words)
        (gap_data_tails words) k z

    pub leading_marked : x ≡ None → tag_passed text Stray ≡ ahead_at words (length text) (drop at text)
    unfolding tag_passed
    leading_marked z = marked_stuck z

    pub marked_on : {j : ℕ} → x ≡ Some j → Heading text words at j
    unfolding ahead_by
    marked_on z = over_on at_data (looks_data (drop t text) ef q) (λ s. gap_data words (data_at_lem s)) refl (gap_data_eats words)
        (gap_data_tails words) k z

    pub marked_less : {j : ℕ} → x ≡ Some j → length text - j < length text - i
    unfolding ahead_by
    marked_less z = over_less at_data (looks_data (drop t text) ef q) (λ s. gap_data words (data_at_lem s)) refl (gap_data_eats words)
        (gap_data_tails words) k z

pub ruleset heading = (
  heading_start,
  heading_text,
  heading_close,
  heading_child,
  heading_stuck,
  heading_on,
  heading_less,
  marked_stuck,
  marked_on,
  marked_less,
  rules,
)

pub ruleset leading = (
  heading_start,
  leading_text,
  leading_close,
  leading_child,
  leading_stuck,
  heading_on,
  heading_less,
  leading_marked,
  marked_on,
  marked_less,
  rules,
)

-- from where the end tag begins to where it ends
module _ (text : List ℕ) {x y : Ahead} (k : tag_passed text x ≡ y) where
  pub passed_child : {t : ℕ} → x ≡ Child t → Child t ≡ y
  unfolding tag_passed
  passed_child z = rw z at k

  pub passed_close : {t : ℕ} → x ≡ End t → {r : Ahead} → r ≡ ending (length text) (past_tag (drop t text)) → r ≡ y
  unfolding tag_passed
  passed_close z w = w ∙ (rw z at k)

  pub passed_stray : x ≡ Stray → Stray ≡ y
  unfolding tag_passed
  passed_stray z = rw z at k

pub ruleset passing = (passed_child, passed_close, passed_stray, rules)

-- from a place in a start tag
module _ (text : List ℕ) (at : ℕ) (words : Bool) {x : Option Tag} (k : x ≡ tag_told (length text) (tag_from 0 (drop at text))) where
  pub ahead_none : x ≡ None → Stray ≡ ahead_in_tag words text at
  unfolding ahead_in_tag first_ahead_by
  ahead_none z = rw (none_so (length text) (tag_from 0 (drop at text)) (sym k ∙ z))

  pub ahead_bare : {y : Tag} {j : ℕ} → x ≡ Some y → y ≡ tag_is.Bare j → End j ≡ ahead_in_tag words text at
  unfolding ahead_in_tag first_ahead_by
  ahead_bare {j = j} z w =
      let b = bare_so text at (tag_from 0 (drop at text)) (tag_from_less 0 (drop at text)) (sym k ∙ z ∙ ap Some w) in
      rw (b.reads, place text j b.inside)

  pub ahead_open : {y : Tag} {j : ℕ} → x ≡ Some y → y ≡ tag_is.Open j → {r : Ahead} → r ≡ ahead_at words (length text) (drop j text)
      → r ≡ ahead_in_tag words text at
  unfolding ahead_in_tag first_ahead_by
  ahead_open z w q = q ∙ sym (rw (opens_so text at (tag_from 0 (drop at text)) (tag_from_less 0 (drop at text)) (sym k ∙ z ∙ ap Some w)).reads)

pub ruleset in_tag_ahead = (ahead_none, ahead_bare, ahead_open, rules)

-- what stands ahead from there is what stands ahead from the tag's start
pub in_tag_first : {text : List ℕ} {at i : ℕ} → InTag text at i → (words : Bool) → ahead_in_tag words text i ≡ first_ahead words text at
unfolding first_ahead ahead_in_tag
in_tag_first t words = rw t.same_tag

module _ (text : List ℕ) (at : ℕ) (words : Bool) where
  pub first_past : length text ≤ at → Stray ≡ first_ahead words text at
  unfolding first_ahead first_ahead_by tag_at
  first_past h = rw (at_end text at h)

  pub first_behind : at < length text → {r : Ahead} → r ≡ ahead_in_tag words text (at + 1) → r ≡ first_ahead words text at
  first_behind h e = e ∙ in_tag_first (tag_opens text at h) words

pub ruleset starts_ahead = (first_past, first_behind, rules)
