-- Texts, at a position of the text: one law for each way through the code.
use Rattle.std.specs.Prelude.{◌≡◌, List, [], Bool, true, false, drop, get_or, Option, Some, None, ℕ}
use Rattle.std.proofs.Math.Path.{refl, sym}
use Rattle.std.proofs.Common.{ap, ◌∙◌, rules, ne_eqb}
use Rattle.std.proofs.lemmas.Option.{some_pair_parts}
use Prim.Native.Nat.{ℕ, suc, ◌+◌, ◌-◌, ◌≤◌, ◌<◌}
use native.Mathlib.Omega.{arith}
use Rattle.std.proofs.Math.ListN.{length, length-drop}
use Rattle.lists.proofs.Laws.Booleans.{clash}
use Rattle.grammar.specs.Bytes.{ascii, begins}
use Rattle.grammar.specs.Read.{Read, fail, got, mark, before}
use Rattle.grammar.proofs.Laws.Read.{Ok, good}
use Rattle.grammar.specs.Parser.{reference_at, feed_at, comment_at, Look, at_close, at_comment, at_data, at_element, at_text}
use Rattle.grammar.specs.Parser.{look}
use Rattle.grammar.proofs.Laws.Tokens.{reference_other, line_end_other}
use Rattle.steps.proofs.Laws.Feeds.{fed, feed_got, return_read}
use Rattle.steps.specs.Step.{stepped, Went}
use Rattle.steps.proofs.Laws.Step.{at_byte, at_end, fell, went}
use Rattle.steps.specs.Noted.{part}
use Rattle.nodes.proofs.Laws.Places.{tail_of, tail_more}
use Rattle.steps.specs.Leaves.{referred, first_byte}
use Rattle.steps.proofs.Laws.Characters.{starts_so, starts_not}
use Rattle.steps.proofs.Laws.Data.{brackets_other}
use Rattle.nodes.specs.Scan.{tag_at, skip_at, scan}
use Rattle.nodes.proofs.Laws.Scanned.{tag_less, Less, scan_tails}
use Rattle.nodes.specs.ScanSteps.{tag_told}
use Rattle.nodes.specs.TextBytes.{Rest, outside, within, Move, past, referring, bare_char, step_by, step_in, step}
use Rattle.nodes.specs.Texts.{inside, inside_by, place_of, as_text, text_step}
use Rattle.nodes.proofs.Laws.TextSteps.{rest_outside, rest_within}
use Rattle.nodes.specs.Inside.{between_tags, within_by, up_to}
use Rattle.nodes.specs.declared.Text.{Text}
use Rattle.nodes.specs.declared.Text.TheVariants.{Stop, Skip, Letter}
use Rattle.steps.specs.Pieces.{front}
use Rattle.steps.specs.declared.pieces.Front.{Front}
use Rattle.steps.specs.declared.pieces.Front.TheVariants as front_is
use Rattle.nodes.specs.declared.scan.Tag.{Tag}
use Rattle.nodes.specs.declared.scan.Tag.TheVariants as tag_is
use Rattle.nodes.proofs.Laws.Scan.{looks_close, looks_comment, looks_data, looks_start, looks_text}
use Rattle.nodes.proofs.Laws.Skip.{opens_at, bare_at_lem, no_tag, lies}

-- WHERE CONTENTS BEGIN
module _ (text : List ℕ) (at : ℕ) {x : Option Tag} (k : x ≡ tag_told (length text) (tag_at (drop at text))) where
  pub inside_none : x ≡ None → None ≡ inside text at
  unfolding inside inside_by
  inside_none z = rw (no_tag text at k z)

  pub inside_bare : {y : Tag} {j : ℕ} → x ≡ Some y → y ≡ tag_is.Bare j → None ≡ inside text at
  unfolding inside inside_by
  inside_bare z w = rw (bare_at_lem text at k (z ∙ ap Some w)).reads

  pub inside_open : {y : Tag} {j : ℕ} → x ≡ Some y → y ≡ tag_is.Open j → Some j ≡ inside text at
  unfolding inside inside_by
  inside_open {j = j} z w = let o = opens_at text at k (z ∙ ap Some w) in let p : length text - length (drop j text) ≡ j =
      simp length-drop (omega (arith, o.inside)) in rw (o.reads, p)

pub ruleset beginning = (inside_none, inside_bare, inside_open, rules)

-- A CHARACTER
refer_byte : (n : ℕ) (m : Read (List ℕ)) (x : Move) {d j : ℕ} → referred n m ≡ Some (d, j)
    → Letter d j ≡ as_text n (referring outside m x)
unfolding referred as_text place_of referring
refer_byte n fail x e = clash (cc)
refer_byte n (got b r) x {d} {j} e = let p = some_pair_parts _ _ _ _ e in rw (p.0, p.1)

refer_end : (n : ℕ) (m : Read (List ℕ)) (x : Move) → referred n m ≡ None → referring outside m x ≡ x
unfolding referred referring
refer_end n fail x e = refl
refer_end n (got b r) x e = clash (cc)

pub letter_past : (text : List ℕ) (at : ℕ) → length text ≤ at → Stop ≡ as_text (length text) (step_by at_text (drop at text))
unfolding step_by as_text
letter_past text at h = rw (at_end text at h)

module _ (text : List ℕ) (at : ℕ) (h : at < length text) where
  opened : step_by at_text (drop at text)
      ≡ referring outside (reference_at (drop at text)) (bare_char outside (get_or text at 0) (drop (at + 1) text))
  unfolding step_by
  opened = rw (at_byte text at h)

  place : length text - length (drop (at + 1) text) ≡ at + 1
  place = simp length-drop (omega arith)

  pub letter_reference : {c : Option (ℕ × ℕ)} → c ≡ referred (length text) (reference_at (drop at text)) → {d j : ℕ} → c ≡ Some (d, j)
      → Letter d j ≡ as_text (length text) (step_by at_text (drop at text))
  letter_reference w z = refer_byte (length text) (reference_at (drop at text)) _ (sym w ∙ z) ∙ ap (as_text (length text)) (sym opened)

  pub letter_ampersand : get_or text at 0 ≡ 38 → {c : Option (ℕ × ℕ)} → c ≡ referred (length text) (reference_at (drop at text))
      → c ≡ None → Letter 38 (at + 1) ≡ as_text (length text) (step_by at_text (drop at text))
  unfolding as_text place_of bare_char referring
  letter_ampersand e w z = sym (ap (as_text (length text))
      (opened ∙ refer_end (length text) (reference_at (drop at text)) (bare_char outside (get_or text at 0) (drop (at + 1) text)) (sym w ∙ z))
      ∙ rw (e, line_end_other (ascii "\n") 38 refl (drop (at + 1) text), place))

  pub letter_return : get_or text at 0 ≡ 13 → {j : ℕ} → Some j ≡ stepped (length text) (feed_at (ascii "\n") (drop (at + 1) text))
      → Letter 10 j ≡ as_text (length text) (step_by at_text (drop at text))
  unfolding as_text place_of bare_char referring first_byte stepped
  letter_return e {j} k =
      let fits : Some j ≡ Some (length text - length (fed (drop (at + 1) text))) = k ∙ rw (feed_got (ascii "\n") (drop (at + 1) text)) in
      let here : j ≡ length text - length (fed (drop (at + 1) text)) = cc in
      rw here (sym (rw (
        opened,
        at_byte text at h,
        e,
        reference_other 13 refl (drop (at + 1) text),
        return_read (ascii "\n") (drop (at + 1) text),
        feed_got (ascii "\n") (drop (at + 1) text),
      )))

  pub letter_plain : (get_or text at 0 ≡ 38 → ⊥) → (get_or text at 0 ≡ 13 → ⊥)
      → Letter (get_or text at 0) (at + 1) ≡ as_text (length text) (step_by at_text (drop at text))
  unfolding as_text place_of bare_char referring
  letter_plain na nr = sym (rw (
    opened,
    at_byte text at h,
    reference_other (get_or text at 0) (ne_eqb _ _ na) (drop (at + 1) text),
    line_end_other (ascii "\n") (get_or text at 0) (ne_eqb _ _ nr) (drop (at + 1) text),
    place,
  ))

pub ruleset lettering = (letter_past, letter_reference, letter_ampersand, letter_return, letter_plain, rules)

-- where a reader ends is in the text
pub ends_inside : {A : Type 0} (n : ℕ) (m : Read A) {x : Option ℕ} → x ≡ stepped n m → {j : ℕ} → x ≡ Some j → j ≤ n
unfolding stepped
ends_inside n fail e z = clash (cc)
ends_inside n (got a r) e {j} z = let q : j ≡ n - length r = cc in omega arith

-- A STEP
past_to : (n : ℕ) (m : Read (Unit {0})) {j : ℕ} → stepped n m ≡ Some j → Skip j ≡ as_text n (past outside m)
unfolding stepped as_text place_of past
past_to n fail e = clash (cc)
past_to n (got u r) {j} e = let q : n - length r ≡ j = cc in cc

into : (n : ℕ) (m : Read (Unit {0})) {j : ℕ} → stepped n m ≡ Some j → Skip (n + 1 + j) ≡ as_text n (past within m)
unfolding stepped as_text place_of past
into n fail e = clash (cc)
into n (got u r) {j} e = let q : n - length r ≡ j = cc in cc

past_no : (side : List ℕ → Rest) (n : ℕ) (m : Read (Unit {0})) → stepped n m ≡ None → Stop ≡ as_text n (past side m)
unfolding stepped as_text past
past_no side n fail e = refl
past_no side n (got u r) e = clash (cc)

-- outside of CDATA
module _ (text : List ℕ) (at : ℕ) {f : Front} (ef : f ≡ front (look (drop at text))) where
  abbrev Outside : Text → Type 0
  Outside r = r ≡ as_text (length text) (step (outside (drop at text)))

  step_is : (l : Look) → look (drop at text) ≡ l
      → as_text (length text) (step (outside (drop at text))) ≡ as_text (length text) (step_by l (drop at text))
  unfolding step
  step_is l q = rw q

  pub step_text : f ≡ front_is.Text → {r : Text} → r ≡ as_text (length text) (step_by at_text (drop at text)) → Outside r
  step_text q w = w ∙ sym (step_is at_text (looks_text (drop at text) ef q))

  pub step_close : f ≡ front_is.Close → Outside Stop
  unfolding step_by as_text
  step_close q = sym (step_is at_close (looks_close (drop at text) ef q))

  module _ (q : f ≡ front_is.Start) {x : Option ℕ} (k : x ≡ stepped (length text) (skip_at (drop at text))) where
    child_is : as_text (length text) (step (outside (drop at text))) ≡ as_text (length text) (past outside (skip_at (drop at text)))
    unfolding step_by
    child_is = step_is at_element (looks_start (drop at text) ef q)

    pub step_child : {j : ℕ} → x ≡ Some j → Outside (Skip j)
    step_child z = past_to (length text) (skip_at (drop at text)) (sym k ∙ z) ∙ sym child_is

    pub step_no_child : x ≡ None → Outside Stop
    step_no_child z = past_no outside (length text) (skip_at (drop at text)) (sym k ∙ z) ∙ sym child_is

  module _ (q : f ≡ front_is.Comment) {x : Option ℕ} (k : x ≡ stepped (length text) (comment_at (drop at text))) where
    comment_is : as_text (length text) (step (outside (drop at text))) ≡ as_text (length text) (past outside (comment_at (drop at text)))
    unfolding step_by
    comment_is = step_is at_comment (looks_comment (drop at text) ef q)

    pub step_comment : {j : ℕ} → x ≡ Some j → Outside (Skip j)
    step_comment z = past_to (length text) (comment_at (drop at text)) (sym k ∙ z) ∙ sym comment_is

    pub step_broken : x ≡ None → Outside Stop
    step_broken z = past_no outside (length text) (comment_at (drop at text)) (sym k ∙ z) ∙ sym comment_is

  -- into CDATA
  module _ (q : f ≡ front_is.Data) {x : Option ℕ} (k : x ≡ stepped (length text) (mark (ascii "<![CDATA[") (drop at text))) where
    data_is : as_text (length text) (step (outside (drop at text)))
        ≡ as_text (length text) (past within (mark (ascii "<![CDATA[") (drop at text)))
    unfolding step_by
    data_is = step_is at_data (looks_data (drop at text) ef q)

    pub step_data : {j : ℕ} → x ≡ Some j → Outside (Skip (length text + 1 + j))
    step_data z = into (length text) (mark (ascii "<![CDATA[") (drop at text)) (sym k ∙ z) ∙ sym data_is

    pub step_no_data : x ≡ None → Outside Stop
    step_no_data z = past_no within (length text) (mark (ascii "<![CDATA[") (drop at text)) (sym k ∙ z) ∙ sym data_is

pub ruleset stepping = (step_text, step_close, step_child, step_no_child, step_comment, step_broken, step_data, step_no_data, rules)

-- within CDATA
module _ (text : List ℕ) (at : ℕ) where
  abbrev Within : Text → Type 0
  Within r = r ≡ as_text (length text) (step (within (drop at text)))

  pub within_end : length text ≤ at → Within Stop
  unfolding step step_in as_text begins
  within_end h = rw (at_end text at h)

  module _ (h : at < length text) where
    place_behind : length text + 1 + (length text - length (drop (at + 1) text)) ≡ length text + 1 + (at + 1)
    place_behind = ap (λ k. length text + 1 + k) (place text at h)

    letter_in : begins (ascii "]]>") (drop at text) ≡ false → (get_or text at 0 ≡ 13 → ⊥)
        → Within (Letter (get_or text at 0) (length text + 1 + (at + 1)))
    unfolding step step_in as_text place_of bare_char referring
    letter_in e f = sym (rw (
      e,
      at_byte text at h,
      line_end_other (ascii "\n") (get_or text at 0) (ne_eqb _ _ f) (drop (at + 1) text),
      place_behind,
    ))

    pub within_letter : (get_or text at 0 ≡ 93 → ⊥) → (get_or text at 0 ≡ 13 → ⊥)
        → Within (Letter (get_or text at 0) (length text + 1 + (at + 1)))
    within_letter g f = letter_in (sym (brackets_other text at h g)) f

    pub within_return : get_or text at 0 ≡ 13 → {j : ℕ} → Some j ≡ stepped (length text) (feed_at (ascii "\n") (drop (at + 1) text))
        → Within (Letter 10 (length text + 1 + j))
    unfolding step step_in as_text place_of bare_char referring first_byte stepped begins
    within_return e {j} k =
        let fits : Some j ≡ Some (length text - length (fed (drop (at + 1) text))) = k ∙ rw (feed_got (ascii "\n") (drop (at + 1) text)) in
        let here : j ≡ length text - length (fed (drop (at + 1) text)) = cc in
        rw here (sym (rw (
          at_byte text at h,
          e,
          return_read (ascii "\n") (drop (at + 1) text),
          feed_got (ascii "\n") (drop (at + 1) text),
        )))

    module _ (e : get_or text at 0 ≡ 93) {x : Option ℕ} (k : x ≡ stepped (length text) (mark (ascii "]]>") (drop at text))) where
      pub within_out : {j : ℕ} → x ≡ Some j → Within (Skip j)
      unfolding step step_in
      within_out z = past_to (length text) (mark (ascii "]]>") (drop at text)) (sym k ∙ z)
          ∙ rw (sym (starts_so text at (ascii "]]>") k z))

      pub within_bracket : x ≡ None → Within (Letter 93 (length text + 1 + (at + 1)))
      within_bracket z =
          let other : get_or text at 0 ≡ 13 → ⊥ = λ r. omega arith in
          rw e at (letter_in (sym (starts_not text at (ascii "]]>") k z)) other)

pub ruleset within_data = (within_end, within_letter, within_return, within_out, within_bracket, rules)

-- by the place
module _ (text : List ℕ) (at : ℕ) where
  pub place_outside : at ≤ length text → {r : Text} → r ≡ as_text (length text) (step (outside (drop at text))) → r ≡ text_step text at
  unfolding text_step
  place_outside h k = k ∙ rw (rest_outside text at h)

  pub place_within : length text < at → {i : ℕ} → i ≡ at - (length text + 1) → {r : Text}
      → r ≡ as_text (length text) (step (within (drop i text))) → r ≡ text_step text at
  unfolding text_step
  place_within h {i} e k =
      let same : i ≡ at - suc (length text) = omega arith in
      k ∙ rw (rest_within text at h, same)

pub ruleset placing = (place_outside, place_within, rules)

-- WHAT IS WRITTEN BETWEEN THE TAGS
record Begins (text : List ℕ) (at i : ℕ) : Type 0 where
  within_text : i ≤ length text
  reads : tag_at (drop at text) ≡ got true (drop i text)

begins_there : (text : List ℕ) (at i : ℕ) → inside text at ≡ Some i → Begins text at i
unfolding inside inside_by
begins_there text at i e = go (tag_at (drop at text)) refl (tag_less (drop at text)) e
  where
    go : (m : Read Bool) → tag_at (drop at text) ≡ m → Ok (Less (drop at text)) m → inside_by (length text) m ≡ Some i → Begins text at i
    go fail q h k = clash (cc)
    go (got false r) q h k = clash (cc)
    go (got true r) q (good h) k =
        let p : length text - length r ≡ i = cc in
        let l = lies (tail_more h.front r h.whole (tail_of text at)) p in
        record { within_text = l.inside; reads = q ∙ ap (got true) l.rest }

unbegun : (text : List ℕ) (at : ℕ) → inside text at ≡ None → between_tags text at ≡ []
unfolding inside inside_by between_tags within_by
unbegun text at e = go (tag_at (drop at text)) e
  where
    go : (m : Read Bool) → inside_by (length text) m ≡ None → within_by m ≡ []
    go fail k = refl
    go (got false r) k = refl
    go (got true r) k = clash (cc)

module _ (text : List ℕ) (at : ℕ) {f : Option ℕ} (ef : f ≡ inside text at) where
  pub written_none : f ≡ None → part 0 0 text ≡ between_tags text at
  written_none z = sym (unbegun text at (sym ef ∙ z))

  module _ {i : ℕ} (z : f ≡ Some i) {c : Option ℕ} (ec : c ≡ stepped (length text) (scan 0 (drop i text))) where
    begun : Begins text at i
    begun = begins_there text at i (sym ef ∙ z)

    so_far : between_tags text at ≡ up_to (drop i text) (scan 0 (drop i text))
    unfolding between_tags within_by
    so_far = rw begun.reads

    pub written_stuck : c ≡ None → part 0 0 text ≡ between_tags text at
    unfolding up_to
    written_stuck w = sym (so_far ∙ rw (fell (length text) (scan 0 (drop i text)) (sym w ∙ ec)))

    module _ {j : ℕ} (w : c ≡ Some j) where
      ends_at : Went (scan 0) text i j
      ends_at = went (scan 0) text i j (scan_tails 0 (drop i text)) (sym w ∙ ec)

      pub written_some : part i j text ≡ between_tags text at
      unfolding up_to before
      written_some =
          let n : length (drop i text) - length (drop j text) ≡ j - i =
          simp length-drop (omega (arith, ends_at.inside, begun.within_text)) in
          sym (so_far ∙ rw (ends_at.reads, n))

      pub written_ahead : i ≤ j
      written_ahead = ends_at.ahead begun.within_text

pub written_inside : (text : List ℕ) (i : ℕ) {j : ℕ} {c : Option ℕ} → c ≡ stepped (length text) (scan 0 (drop i text)) → c ≡ Some j
    → j ≤ length text
written_inside text i {j} ec w = (went (scan 0) text i j (scan_tails 0 (drop i text)) (sym w ∙ ec)).inside

pub ruleset writing = (written_none, written_stuck, written_some, written_ahead, written_inside, rules)
