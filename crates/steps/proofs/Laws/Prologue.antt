-- The readers of what stands round the root, step by step.
use Rattle.std.specs.Prelude.{◌≡◌, ℕ, ◌<◌, ◌+◌, ◌≤◌, Bool, not, eqb, drop, get_or, Option, Some, None}
use Rattle.std.proofs.Math.Path.{refl, ap, sym}
use mathlib.Core.List.{List, [], ◌∷◌, ◌++◌, append_assoc}
use Rattle.std.proofs.Math.ListN.{length, length-drop}
use Rattle.grammar.specs.Bytes.{ascii, begins}
use Rattle.grammar.specs.Read.{Read, got, Reader, bind, mark, byte}
use Rattle.grammar.proofs.Laws.Read.{Ok, good, bind_ok, ok_map}
use Rattle.grammar.proofs.Laws.Read.{all_of_sound}
use Rattle.grammar.specs.Bytes.{quote}
use Rattle.grammar.specs.Parser.{declaration_at, no_aside, aside_at, doctype_at, prologue_at, setting_at, encoding_if_lem, ends}
use Rattle.grammar.specs.Parser.{asking}
use Rattle.grammar.proofs.Laws.Sound.{aside_sound, declaration_sound, doctype_sound, prologue_sound}
use Rattle.grammar.proofs.Laws.Complete.{aside_long}
use Rattle.grammar.proofs.Laws.Unfuelled.{less}
use Rattle.steps.proofs.Laws.Step.{Tails, tails}
use Rattle.steps.specs.Prologue.{asides_at, preamble_at}
use Rattle.std.proofs.Common.{◌∙◌, subst, arith, rules, length-append}
use Rattle.std.proofs.Math.Bool.{true, false}
use borrow.Author.Tests.{ne_eqb, not-true, not-false, eqb-true}
use Rattle.lists.proofs.Laws.Booleans.{and_left, clash, and_false}
use Rattle.grammar.specs.Bytes.{blank, Each, no_byte, a_byte}
use Rattle.grammar.specs.Read.{alt}
use Rattle.grammar.proofs.Laws.Read.{mark_complete, mark_other, byte_complete, byte_other}
use Rattle.grammar.specs.Read.{span, stops, many_step}
use Rattle.grammar.proofs.Laws.Read.{span_sound, ok_got}
use Rattle.grammar.proofs.Laws.Sound.{comment_sound, setting_sound}
use Rattle.grammar.specs.Parser.{declaration_if, blank_at, remarked_at, comment_at}
use Rattle.grammar.specs.Parser.{gap_at, equals_at}
use Rattle.grammar.proofs.Laws.Unfuelled.{all_of_step}
use Rattle.grammar.proofs.Laws.Complete.{comment_long}
use Rattle.steps.specs.Step.{stepped, Went}
use Rattle.steps.proofs.Laws.Step.{went, went_on, arrives, refuses, at_byte, at_end}
use Rattle.steps.proofs.Laws.Leaves.{span_tails, mark_tails, gap_tails, equals_tails}
use Rattle.steps.proofs.Laws.Until.{bind_assoc, stepped_value, stepped_each}
use Rattle.steps.specs.Prologue.{quoted_at, encoding_at}
use Rattle.steps.proofs.Laws.Parsing.{stuck, follows}

pub asides_tails : (s : List ℕ) → Ok (Tails s) (asides_at s)
unfolding asides_at
asides_tails s = tails (all_of_sound aside_sound no_aside s)

pub aside_eats : (s : List ℕ) → Ok (λ _ r. length r < length s) (aside_at s)
aside_eats s = less (λ b w h. aside_long h) (aside_sound s)

pub declaration_tails : (s : List ℕ) → Ok (Tails s) (declaration_at s)
declaration_tails s = tails (declaration_sound s)

pub doctype_tails : (s : List ℕ) → Ok (Tails s) (doctype_at s)
doctype_tails s = tails (doctype_sound s)

pub preamble_tails : (s : List ℕ) → Ok (Tails s) (preamble_at s)
unfolding preamble_at
preamble_tails s =
    bind_ok (declaration_tails s) λ _ r h.
    ok_map (prologue_sound r) λ l r₁ k. (h.0 ++ k.0, simp append_assoc (let a = h.1 in let b = k.1 in cc))

-- BLANKS AND COMMENTS
asides_stop : (s : List ℕ) → no_aside s ≡ true → asides_at s ≡ got [] s
unfolding asides_at many_step
asides_stop s e = rw (all_of_step aside_at no_aside aside_eats s, e)

asides_go : (s : List ℕ) → no_aside s ≡ false → asides_at s ≡ bind (aside_at s) (λ b r. bind (asides_at r) (λ l r₁. got (b ∷ l) r₁))
unfolding asides_at many_step
asides_go s e = rw (all_of_step aside_at no_aside aside_eats s, e)

module _ (n : ℕ) where
  aside_blank : (a : ℕ) (s : List ℕ) → blank a ≡ true → stepped n (asides_at (a ∷ s)) ≡ stepped n (asides_at s)
  unfolding no_aside stops aside_at blank_at alt bind
  aside_blank a s e =
      let on : no_aside (a ∷ s) ≡ false = rw e in
      rw (asides_go (a ∷ s) on, byte_complete blank a e s) (stepped_value n (asides_at s) (λ l. [] ∷ l))

  asides_blank : {w : List ℕ} → Each blank w → (r : List ℕ) → stepped n (asides_at (w ++ r)) ≡ stepped n (asides_at r)
  asides_blank no_byte r = refl
  asides_blank (a_byte {a} {w} e h) r = aside_blank a (w ++ r) e ∙ asides_blank h r

-- where blanks end
span_ends : (p : ℕ → Bool) (s : List ℕ) → Ok (λ _ r. stops p r ≡ true) (span p s)
unfolding span stops
span_ends p [] = good refl
span_ends p (a ∷ s) = go (p a) refl (span_ends p s)
  where
    go : (t : Bool) → p a ≡ t → Ok (λ _ r. stops p r ≡ true) (span p s) → Ok (λ _ r. stops p r ≡ true) (span p (a ∷ s))
    go true e ih = rw (e, span) (bind_ok ih λ w r h. good h)
    go false e ih = let f : not (p a) ≡ true = rw e in rw (e, span) (good f)

-- `<` is no blank
open_no_blank : (s : List ℕ) → begins (ascii "<!-") s ≡ true → aside_at s ≡ remarked_at s
unfolding begins aside_at blank_at alt bind blank
open_no_blank [] e = clash (cc)
open_no_blank (a ∷ s) e =
    let q = eqb-true a 60 (and_left (eqb a 60) _ e) in
    let other : blank a ≡ false = rw q in
    rw (byte_other blank a other s)

aside_turn : (n : ℕ) (s : List ℕ) → begins (ascii "<!-") s ≡ true
    → stepped n (asides_at s) ≡ stepped n (bind (comment_at s) (λ _ r. asides_at r))
unfolding no_aside remarked_at bind
aside_turn n s e =
    let on : no_aside s ≡ false = rw e (and_false (stops blank s)) in
    rw (asides_go s on, open_no_blank s e, bind_assoc (comment_at s))
    (stepped_each n (comment_at s) _ _ λ _ r. stepped_value n (asides_at r) (λ l. [] ∷ l))

abbrev pub Asides : List ℕ → ℕ → ℕ → Type 0
Asides text at i = stepped (length text) (asides_at (drop at text)) ≡ stepped (length text) (asides_at (drop i text))

module _ (text : List ℕ) (at i : ℕ) (inv : Asides text at i) {j : ℕ}
    (q : Some j ≡ stepped (length text) (span blank (drop i text))) {t : Bool} (b : t ≡ begins (ascii "<!-") (drop j text)) where
  skipped : Went (span blank) text i j
  skipped = went (span blank) text i j (span_tails blank (drop i text)) q

  parted : (drop i text ≡ skipped.value ++ drop j text) × Each blank skipped.value
  parted = ok_got (subst (λ (m : Read (List ℕ)). Ok (λ w r. (drop i text ≡ w ++ r) × Each blank w) m) skipped.reads
      (span_sound blank (drop i text)))

  skips : Asides text at j
  skips = inv ∙ ap (λ s. stepped (length text) (asides_at s)) parted.0 ∙ asides_blank (length text) parted.1 (drop j text)

  stopped : stops blank (drop j text) ≡ true
  stopped = ok_got (rw skipped.reads at (span_ends blank (drop i text)))

  pub asides_end : not t ≡ true → Some j ≡ stepped (length text) (asides_at (drop at text))
  unfolding no_aside
  asides_end e =
      let none : no_aside (drop j text) ≡ true = rw (stopped, ← b) e in
      arrives text (asides_at (drop j text)) j skipped.inside (asides_stop (drop j text) none) ∙ sym skips

  module _ (e : not t ≡ false) {r : Option ℕ} (q₂ : r ≡ stepped (length text) (comment_at (drop j text))) where
    turn : stepped (length text) (asides_at (drop j text)) ≡ stepped (length text) (bind (comment_at (drop j text)) (λ _ r. asides_at r))
    turn =
        aside_turn (length text) (drop j text) (sym b ∙ not-false t e)

    pub asides_stuck : r ≡ None → None ≡ stepped (length text) (asides_at (drop at text))
    asides_stuck k = stuck (length text) (comment_at (drop j text)) (λ _ r. asides_at r) q₂ k ∙ sym (skips ∙ turn)

    module _ {k : ℕ} (h : r ≡ Some k) where
      pub asides_on : Asides text at k
      asides_on = skips ∙ turn ∙ sym (follows comment_at (λ s. tails (comment_sound s)) text j (λ _ r. asides_at r) q₂ k h λ _ _. refl)

      pub asides_less : length (drop k text) < length (drop i text)
      asides_less =
          let w = went comment_at text j k (tails (comment_sound (drop j text))) (sym h ∙ q₂) in
          omega (
            arith,
            length-drop k text,
            length-drop j text,
            went_on w (less (λ _ w h. comment_long h) (comment_sound (drop j text))),
            w.inside,
            ap length parted.0,
            length-append skipped.value (drop j text),
          )

-- THE DECLARATION
module _ (text : List ℕ) (at : ℕ) (value : List ℕ) where
  pub quoted_none : length text ≤ at → None ≡ stepped (length text) (quoted_at value (drop at text))
  unfolding quoted_at byte bind
  quoted_none h = refuses (length text) (quoted_at value (drop at text)) (rw (at_end text at h))

  module _ (h : at < length text) {t : Bool} (b : t ≡ quote (get_or text at 0)) where
    pub quoted_other : not t ≡ true → None ≡ stepped (length text) (quoted_at value (drop at text))
    unfolding quoted_at bind
    quoted_other e = refuses (length text) (quoted_at value (drop at text))
        (rw (at_byte text at h, byte_other quote (get_or text at 0) (sym b ∙ not-true t e) (drop (at + 1) text)))

    module _ (e : not t ≡ false) {r : Option ℕ} (q : r ≡ stepped (length text) (mark value (drop (at + 1) text))) where
      inner : quoted_at value (drop at text) ≡ bind (mark value (drop (at + 1) text)) (λ _ r. mark (get_or text at 0 ∷ []) r)
      unfolding quoted_at bind
      inner = rw (at_byte text at h, byte_complete quote (get_or text at 0) (sym b ∙ not-false t e) (drop (at + 1) text))

      pub quoted_stuck : r ≡ None → None ≡ stepped (length text) (quoted_at value (drop at text))
      quoted_stuck k = stuck (length text) (mark value (drop (at + 1) text)) (λ _ r. mark (get_or text at 0 ∷ []) r) q k
          ∙ ap (stepped (length text)) (sym inner)

      module _ {i : ℕ} (k : r ≡ Some i) where
        on : {x : Option ℕ} → x ≡ stepped (length text) (mark (get_or text at 0 ∷ []) (drop i text))
            → x ≡ stepped (length text) (quoted_at value (drop at text))
        on l = follows (mark value) (mark_tails value) text (at + 1) (λ _ r. mark (get_or text at 0 ∷ []) r) q i k (λ _ _. l)
            ∙ ap (stepped (length text)) (sym inner)

        pub quoted_cut : length text ≤ i → None ≡ stepped (length text) (quoted_at value (drop at text))
        unfolding mark
        quoted_cut l = on (refuses (length text) (mark (get_or text at 0 ∷ []) (drop i text)) (rw (at_end text i l)))

        module _ (l : i < length text) where
          pub quoted_open : (get_or text i 0 ≡ get_or text at 0 → ⊥) → None ≡ stepped (length text) (quoted_at value (drop at text))
          quoted_open f = on (refuses (length text) (mark (get_or text at 0 ∷ []) (drop i text))
              (rw (at_byte text i l) (mark_other (get_or text at 0) (get_or text i 0) [] (drop (i + 1) text)
              (ne_eqb (get_or text i 0) (get_or text at 0) f))))

          pub quoted_whole : get_or text i 0 ≡ get_or text at 0 → Some (i + 1) ≡ stepped (length text) (quoted_at value (drop at text))
          quoted_whole f =
              let k : i + 1 ≤ length text = omega arith in
              on (arrives text (mark (get_or text at 0 ∷ []) (drop i text)) (i + 1) k
              (rw (at_byte text i l, f) (mark_complete (get_or text at 0 ∷ []) (drop (i + 1) text))))

module _ (text : List ℕ) (at : ℕ) (key value : List ℕ) where
  quoted_last : List ℕ → Read (Unit {0})
  quoted_last s = bind (gap_at s) (λ _ r. bind (mark key r) (λ _ r₁. bind (equals_at r₁) (λ _ r₂. quoted_at value r₂)))

  setting_is : (s : List ℕ) → setting_at key value s ≡ quoted_last s
  unfolding setting_at quoted_at quoted_last
  setting_is s = refl

  module _ {r : Option ℕ} (q : r ≡ stepped (length text) (gap_at (drop at text))) where
    pub setting_none : r ≡ None → None ≡ stepped (length text) (setting_at key value (drop at text))
    unfolding quoted_last
    setting_none e = stuck (length text) (gap_at (drop at text)) _ q e ∙ ap (stepped (length text)) (sym (setting_is (drop at text)))

    module _ {i : ℕ} (e : r ≡ Some i) {r₂ : Option ℕ} (q₂ : r₂ ≡ stepped (length text) (mark key (drop i text))) where
      on₁ : {x : Option ℕ} → x ≡ stepped (length text)
          (bind (mark key (drop i text)) (λ _ r₁. bind (equals_at r₁) (λ _ r₂. quoted_at value r₂)))
          → x ≡ stepped (length text) (setting_at key value (drop at text))
      unfolding quoted_last
      on₁ l = follows gap_at gap_tails text at _ q i e (λ _ _. l) ∙ ap (stepped (length text)) (sym (setting_is (drop at text)))

      pub setting_other : r₂ ≡ None → None ≡ stepped (length text) (setting_at key value (drop at text))
      setting_other e₂ = on₁ (stuck (length text) (mark key (drop i text)) _ q₂ e₂)

      module _ {j : ℕ} (e₂ : r₂ ≡ Some j) {r₃ : Option ℕ} (q₃ : r₃ ≡ stepped (length text) (equals_at (drop j text))) where
        on₂ : {x : Option ℕ} → x ≡ stepped (length text) (bind (equals_at (drop j text)) (λ _ r₂. quoted_at value r₂))
            → x ≡ stepped (length text) (setting_at key value (drop at text))
        on₂ l = on₁ (follows (mark key) (mark_tails key) text i _ q₂ j e₂ λ _ _. l)

        pub setting_unequal : r₃ ≡ None → None ≡ stepped (length text) (setting_at key value (drop at text))
        setting_unequal e₃ = on₂ (stuck (length text) (equals_at (drop j text)) _ q₃ e₃)

        pub setting_whole : {k : ℕ} → r₃ ≡ Some k → {x : Option ℕ} → x ≡ stepped (length text) (quoted_at value (drop k text))
            → x ≡ stepped (length text) (setting_at key value (drop at text))
        setting_whole {k} e₃ l = on₂ (follows equals_at equals_tails text j _ q₃ k e₃ λ _ _. l)

-- the encoding
ends_some : (p : ℕ → Bool) (s : List ℕ) → ends p s ≡ true → 0 < length s
unfolding ends
ends_some p [] e = clash (cc)
ends_some p (a ∷ s) e = omega arith

module _ (text : List ℕ) (at : ℕ) {t : Bool} (q : t ≡ ends asking (drop at text)) where
  pub encoding_none : t ≡ true → Some at ≡ stepped (length text) (encoding_at (drop at text))
  unfolding encoding_at encoding_if_lem
  encoding_none e =
      let inside : at ≤ length text = omega (arith, ends_some asking (drop at text) (sym q ∙ e), length-drop at text) in
      arrives text (encoding_at (drop at text)) at inside (rw (sym q ∙ e))

  pub encoding_some : t ≡ false → {x : Option ℕ} → x ≡ stepped (length text) (setting_at (ascii "encoding") (ascii "UTF-8") (drop at text))
      → x ≡ stepped (length text) (encoding_at (drop at text))
  unfolding encoding_at encoding_if_lem
  encoding_some e k = k ∙ sym (rw (sym q ∙ e))

encoding_tails : (s : List ℕ) → Ok (Tails s) (encoding_at s)
unfolding encoding_at encoding_if_lem
encoding_tails s = go (ends asking s)
  where
    go : (t : Bool) → Ok (Tails s) (encoding_if_lem t s)
    go true = good ([], refl)
    go false = tails (setting_sound (ascii "encoding") (ascii "UTF-8") s)

last_at : Reader (Unit {0})
last_at s = bind (span blank s) (λ _ r. mark (ascii "?>") r)

declared_at : Reader (Unit {0})
declared_at s = bind (mark (ascii "<?xml") s)
    (λ _ r. bind (setting_at (ascii "version") (ascii "1.0") r) (λ _ r₁. bind (encoding_at r₁) (λ _ r₂. last_at r₂)))

module _ (text : List ℕ) {t : Bool} (b : t ≡ begins (ascii "<?") text) where
  pub declaration_none : not t ≡ true → Some 0 ≡ stepped (length text) (declaration_at text)
  unfolding declaration_at declaration_if
  declaration_none e = arrives text (declaration_at text) 0 (omega arith) (rw (sym b ∙ not-true t e))

  module _ (e : not t ≡ false) {r : Option ℕ} (q : r ≡ stepped (length text) (mark (ascii "<?xml") text)) where
    declared : declaration_at text ≡ declared_at text
    unfolding declaration_at declaration_if encoding_at declared_at last_at
    declared = rw (sym b ∙ not-false t e)

    pub declaration_other : r ≡ None → None ≡ stepped (length text) (declaration_at text)
    unfolding declared_at
    declaration_other k = stuck (length text) (mark (ascii "<?xml") text) _ q k ∙ ap (stepped (length text)) (sym declared)

    module _ {i : ℕ} (k : r ≡ Some i) {r₂ : Option ℕ}
        (q₂ : r₂ ≡ stepped (length text) (setting_at (ascii "version") (ascii "1.0") (drop i text))) where
      to₁ : {x : Option ℕ} → x ≡ stepped (length text)
          (bind (setting_at (ascii "version") (ascii "1.0") (drop i text)) (λ _ r₁. bind (encoding_at r₁) (λ _ r₂. last_at r₂)))
          → x ≡ stepped (length text) (declaration_at text)
      unfolding declared_at
      to₁ l = follows (mark (ascii "<?xml")) (mark_tails (ascii "<?xml")) text 0 _ q i k (λ _ _. l)
          ∙ ap (stepped (length text)) (sym declared)

      pub declaration_unversioned : r₂ ≡ None → None ≡ stepped (length text) (declaration_at text)
      declaration_unversioned k₂ = to₁ (stuck (length text) (setting_at (ascii "version") (ascii "1.0") (drop i text)) _ q₂ k₂)

      module _ {j : ℕ} (k₂ : r₂ ≡ Some j) {r₃ : Option ℕ} (q₃ : r₃ ≡ stepped (length text) (encoding_at (drop j text))) where
        to₂ : {x : Option ℕ} → x ≡ stepped (length text) (bind (encoding_at (drop j text)) (λ _ r₂. last_at r₂))
            → x ≡ stepped (length text) (declaration_at text)
        to₂ l = to₁ (follows (setting_at (ascii "version") (ascii "1.0"))
            (λ s. tails (setting_sound (ascii "version") (ascii "1.0") s)) text i _ q₂ j k₂ λ _ _. l)

        pub declaration_uncoded : r₃ ≡ None → None ≡ stepped (length text) (declaration_at text)
        declaration_uncoded k₃ = to₂ (stuck (length text) (encoding_at (drop j text)) _ q₃ k₃)

        pub declaration_whole : {k : ℕ} → r₃ ≡ Some k → {b : ℕ} → Some b ≡ stepped (length text) (span blank (drop k text)) → {x : Option ℕ}
            → x ≡ stepped (length text) (mark (ascii "?>") (drop b text)) → x ≡ stepped (length text) (declaration_at text)
        unfolding last_at
        declaration_whole {k} k₃ {b} q₄ l =
            to₂ (follows encoding_at encoding_tails text j _ q₃ k k₃ λ _ _. follows (span blank)
            (span_tails blank) text k _ q₄ b refl λ _ _. l)

-- ALL THAT STANDS BEFORE THE ROOT
module _ (text : List ℕ) {r : Option ℕ} (q : r ≡ stepped (length text) (declaration_at text)) where
  pub preamble_none : r ≡ None → None ≡ stepped (length text) (preamble_at text)
  unfolding preamble_at
  preamble_none e = stuck (length text) (declaration_at text) _ q e

  pub preamble_some : {i : ℕ} → r ≡ Some i → {x : Option ℕ} → x ≡ stepped (length text) (prologue_at (drop i text))
      → x ≡ stepped (length text) (preamble_at text)
  unfolding preamble_at
  preamble_some {i} e l = follows declaration_at declaration_tails text 0 _ q i e λ _ _. l

pub ruleset asides = (asides_end, asides_stuck, asides_on, asides_less, rules)

pub ruleset quoted = (quoted_none, quoted_other, quoted_stuck, quoted_cut, quoted_open, quoted_whole, rules)

pub ruleset settings = (setting_none, setting_other, setting_unequal, setting_whole, rules)

pub ruleset encodings = (encoding_none, encoding_some, rules)

pub ruleset declarations = (declaration_none, declaration_other, declaration_unversioned, declaration_uncoded, declaration_whole, rules)

pub ruleset preambles = (preamble_none, preamble_some, rules)
