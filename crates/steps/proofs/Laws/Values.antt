-- Values, at a position of the text: one law for each way through the code.
use Rattle.std.specs.Prelude.{◌≡◌, List, [], ◌∷◌, ℕ, ◌+◌, ◌-◌, ◌≤◌, ◌<◌, Bool, not, ◌&&◌, ◌||◌, eqb, length, Option, Some, None}
use Rattle.std.proofs.Math.Path.{refl}
use Rattle.std.proofs.Common.{ap, sym, ◌∙◌, arith}
use Rattle.std.proofs.Math.Bool.{true, false}
use borrow.Author.Tests.{not-true, not-false, eq-eqb, ne_eqb, eqb-false}
use Rattle.std.proofs.Math.ListN.{drop, get_or}
use Rattle.lists.proofs.Laws.Booleans.{and_left, and_right, or_left, or_right, clash}
use Rattle.grammar.specs.Bytes.{ascii, between, blank, quote, special, begins}
use Rattle.grammar.specs.Document.{together}
use Rattle.grammar.specs.Read.{fail, got, bind, byte, mark, alt, all_of}
use Rattle.grammar.proofs.Laws.Read.{mark_complete, byte_complete, byte_other, alt_fail}
use Rattle.grammar.specs.Parser.{stands_for, reference_at, feed_at, line_end_at, spacing, space_at, literal_at, value_byte}
use Rattle.grammar.specs.Parser.{value_character_at, value_at}
use Rattle.grammar.proofs.Laws.Facts.{no_return, within}
use Rattle.grammar.proofs.Laws.Tokens.{reference_other, line_end_other}
use Rattle.steps.specs.Step.{stepped}
use Rattle.steps.proofs.Laws.Step.{at_byte, at_end, arrives, refuses}
use Rattle.steps.proofs.Laws.Until.{Going, going_start, going_stops, going_fails, going_stuck, going_goes, moved}
use Rattle.steps.specs.Until.{until}
use Rattle.steps.proofs.Laws.Until.{stepped_each, stepped_value}
use Rattle.steps.proofs.Laws.Feeds.{feed_got, feed_steps, return_read}
use Rattle.steps.specs.Leaves.{character_at, value_rest_at}
use Rattle.steps.proofs.Laws.Leaves.{literal_is, literal_not, value_character_eats, value_character_tails}
use Rattle.steps.proofs.Laws.Characters.{plain_step}

-- one character, by its first byte
module _ (q b : ℕ) (s : List ℕ) where
  first_blank : (b ≡ 38 → ⊥) → (b ≡ 13 → ⊥) → blank b ≡ true → value_character_at q (b ∷ s) ≡ got (ascii " ") s
  unfolding value_character_at alt space_at bind spacing
  first_blank f g e =
      let other = ne_eqb b 13 g in
      let fits : spacing b ≡ true = rw (e, other) in
      rw (reference_other b (ne_eqb b 38 f) s, line_end_other (ascii " ") b other s, byte_complete spacing b fits s)

  first_other : (b ≡ 38 → ⊥) → blank b ≡ false → value_character_at q (b ∷ s) ≡ literal_at (value_byte q) (b ∷ s)
  unfolding value_character_at alt space_at bind spacing
  first_other f e =
      let unfit : spacing b ≡ false = rw e in
      rw (reference_other b (ne_eqb b 38 f) s, line_end_other (ascii " ") b (no_return b e) s, byte_other spacing b unfit s)

  in_value_lem : (b ≡ 38 → ⊥) → blank b ≡ false → (eqb b 60 || eqb b q) ≡ false → value_byte q b ≡ true
  unfolding value_byte special
  in_value_lem f e k = rw (or_left (eqb b 60) (eqb b q) k, ne_eqb b 38 f, or_right (eqb b 60) (eqb b q) k, e)

not_in_value : (q b : ℕ) → (eqb b 60 || eqb b q) ≡ true → value_byte q b ≡ false
unfolding value_byte special
not_in_value q b e = go (eqb b 60) (eqb b 38) (eqb b q) e
  where
    go : (x y z : Bool) → (x || z) ≡ true → (not (x || y) && (not z && not (blank b))) ≡ false
    go true y z e = refl
    go false true true e = refl
    go false false true e = refl
    go false y false e = clash (cc)

amp_out : (q : ℕ) → value_byte q 38 ≡ false
unfolding value_byte special
amp_out q = refl

amp_alone : (q : ℕ) (s : List ℕ) → value_character_at q (38 ∷ s) ≡ reference_at (38 ∷ s)
unfolding value_character_at space_at bind alt spacing blank
amp_alone q s = alt_fail (reference_at (38 ∷ s))
    (rw (line_end_other (ascii " ") 38 refl s, byte_other spacing 38 refl s) (literal_not (value_byte q) 38 s (amp_out q)))

return_value : (q : ℕ) (s : List ℕ) → value_character_at q (13 ∷ s) ≡ feed_at (ascii " ") s
unfolding value_character_at alt
return_value q s =
    let known = return_read (ascii " ") s in
    let read = feed_got (ascii " ") s in
    rw (reference_other 13 refl s, known, read)

module _ (text : List ℕ) (at q : ℕ) where
  abbrev Character : Option ℕ → Type 0
  Character r = r ≡ stepped (length text) (value_character_at q (drop at text))

  pub character_none : length text ≤ at → Character None
  unfolding value_character_at reference_at stands_for line_end_at space_at literal_at alt bind mark byte
  character_none h = refuses (length text) (value_character_at q (drop at text)) (rw (at_end text at h))

  module _ (h : at < length text) where
    pub character_reference : get_or text at 0 ≡ 38 → {r : Option ℕ} → r ≡ stepped (length text) (reference_at (drop at text)) → Character r
    character_reference e {r} k =
        let here : drop at text ≡ 38 ∷ drop (at + 1) text = rw (at_byte text at h, e) in
        k ∙ ap (stepped (length text)) (ap reference_at here ∙ sym (amp_alone q (drop (at + 1) text))
        ∙ ap (value_character_at q) (sym here))

    pub character_return : get_or text at 0 ≡ 13 → {j : ℕ} → Some j ≡ stepped (length text) (feed_at (ascii "\n") (drop (at + 1) text))
        → Character (Some j)
    character_return e k =
        let here : drop at text ≡ 13 ∷ drop (at + 1) text = rw (at_byte text at h, e) in
        k ∙ feed_steps (length text) (ascii "\n") (ascii " ") (drop (at + 1) text)
        ∙ ap (stepped (length text)) (sym (return_value q (drop (at + 1) text)) ∙ ap (value_character_at q) (sym here))

    module _ (f : get_or text at 0 ≡ 38 → ⊥) {t : Bool} (is : t ≡ blank (get_or text at 0)) where
      pub character_blank : (get_or text at 0 ≡ 13 → ⊥) → t ≡ true → Character (Some (at + 1))
      character_blank g e = arrives text (value_character_at q (drop at text)) {a = ascii " "} (at + 1) (omega arith)
          (rw (at_byte text at h) (first_blank q (get_or text at 0) (drop (at + 1) text) f g (sym is ∙ e)))

      module _ (e : t ≡ false) where
        from_here : value_character_at q (drop at text) ≡ literal_at (value_byte q) (get_or text at 0 ∷ drop (at + 1) text)
        from_here = rw (at_byte text at h) (first_other q (get_or text at 0) (drop (at + 1) text) f (sym is ∙ e))

        pub character_out : (eqb (get_or text at 0) 60 || eqb (get_or text at 0) q) ≡ true → Character None
        character_out k = refuses (length text) (value_character_at q (drop at text))
            (from_here ∙ literal_not (value_byte q) (get_or text at 0) (drop (at + 1) text) (not_in_value q (get_or text at 0) k))

        pub character_in : (eqb (get_or text at 0) 60 || eqb (get_or text at 0) q) ≡ false → {r : Option ℕ}
            → r ≡ stepped (length text) (character_at (drop at text)) → Character r
        character_in k l =
            l ∙ ap (stepped (length text))
            (ap character_at (at_byte text at h)
            ∙ sym (from_here ∙ literal_is (value_byte q) (get_or text at 0) (drop (at + 1) text)
            (in_value_lem q (get_or text at 0) (drop (at + 1) text) f (sym is ∙ e) k)))

module _ (text : List ℕ) (at q : ℕ) (h : at < length text) {t : Bool}
    (is : t ≡ (between 32 127 (get_or text at 0) && (not (special (get_or text at 0)) && not (eqb (get_or text at 0) q)))) (e : t ≡ true) where
  low : between 32 127 (get_or text at 0) ≡ true
  low = and_left (between 32 127 (get_or text at 0)) _ (sym is ∙ e)

  free : special (get_or text at 0) ≡ false
  free = not-true (special (get_or text at 0))
      (and_left (not (special (get_or text at 0))) _ (and_right (between 32 127 (get_or text at 0)) _ (sym is ∙ e)))

  other : eqb (get_or text at 0) q ≡ false
  other = not-true (eqb (get_or text at 0) q)
      (and_right (not (special (get_or text at 0))) _ (and_right (between 32 127 (get_or text at 0)) _ (sym is ∙ e)))

  pub character_plain : Some (at + 1) ≡ stepped (length text) (value_character_at q (drop at text))
  unfolding special
  character_plain = go (blank (get_or text at 0)) refl
    where
      f : get_or text at 0 ≡ 38 → ⊥
      f = eqb-false (get_or text at 0) 38 (or_right (eqb (get_or text at 0) 60) (eqb (get_or text at 0) 38) free)

      g : get_or text at 0 ≡ 13 → ⊥
      g z = let above = (within 32 127 (get_or text at 0) low).0 in omega arith

      k : (eqb (get_or text at 0) 60 || eqb (get_or text at 0) q) ≡ false
      k = rw (or_left (eqb (get_or text at 0) 60) (eqb (get_or text at 0) 38) free, other)

      go : (t : Bool) → blank (get_or text at 0) ≡ t → Some (at + 1) ≡ stepped (length text) (value_character_at q (drop at text))
      go true b = character_blank text at q h f refl g b
      go false b = character_in text at q h f refl b k (plain_step text at h refl low)

-- up to the other quote
abbrev pub InValue : ℕ → List ℕ → ℕ → ℕ → Type 0
InValue q text at i = Going (begins (q ∷ [])) (value_character_at q) (mark (q ∷ [])) text at i

pub value_start : (q : ℕ) (text : List ℕ) (at : ℕ) → InValue q text at at
value_start q text at = going_start (begins (q ∷ [])) (value_character_at q) (mark (q ∷ [])) text at

module _ (q : ℕ) (text : List ℕ) (at i : ℕ) (go : InValue q text at i) where
  abbrev Rest : Option ℕ → Type 0
  Rest r = r ≡ stepped (length text) (value_rest_at q (drop at text))

  nothing_there : value_character_at q [] ≡ fail
  unfolding value_character_at reference_at stands_for line_end_at space_at literal_at alt bind mark byte
  nothing_there = refl

  pub value_open : length text ≤ i → Rest None
  unfolding value_rest_at begins
  value_open h =
      let e : begins (q ∷ []) (drop i text) ≡ false = rw (at_end text i h) in
      let k : value_character_at q (drop i text) ≡ fail = rw (at_end text i h) nothing_there in
      going_fails (begins (q ∷ [])) (value_character_at q) (mark (q ∷ [])) (value_character_eats q) text at i go e k

  module _ (h : i < length text) where
    pub value_closes : get_or text i 0 ≡ q → Rest (Some (i + 1))
    unfolding value_rest_at begins
    value_closes e =
        let here : drop i text ≡ q ∷ drop (i + 1) text = rw (at_byte text i h, e) in
        let stop : begins (q ∷ []) (drop i text) ≡ true = rw (here, eq-eqb q q refl) in
        let k : mark (q ∷ []) (drop i text) ≡ got tt (drop (i + 1) text) = rw here (mark_complete (q ∷ []) (drop (i + 1) text)) in
        going_stops (begins (q ∷ [])) (value_character_at q) (mark (q ∷ [])) (value_character_eats q) text at i go stop
        (arrives text (mark (q ∷ []) (drop i text)) (i + 1) (omega arith) k)

    module _ (f : get_or text i 0 ≡ q → ⊥) where
      goes_on : begins (q ∷ []) (drop i text) ≡ false
      unfolding begins
      goes_on = rw (at_byte text i h, ne_eqb (get_or text i 0) q f)

      module _ {r : Option ℕ} (is : r ≡ stepped (length text) (value_character_at q (drop i text))) where
        pub value_stuck : r ≡ None → Rest None
        unfolding value_rest_at
        value_stuck n = going_stuck (begins (q ∷ [])) (value_character_at q) (mark (q ∷ []))
            (value_character_eats q) text at i go goes_on is n

        pub value_more : {j : ℕ} → r ≡ Some j → InValue q text at j
        value_more n = going_goes (begins (q ∷ [])) (value_character_at q) (mark (q ∷ [])) (value_character_eats q) text at i go goes_on
            (value_character_tails q) is n

pub value_less : (q : ℕ) (text : List ℕ) (i : ℕ) {r : Option ℕ} {j : ℕ} → i < length text
    → r ≡ stepped (length text) (value_character_at q (drop i text)) → r ≡ Some j → length text - j < length text - i
value_less q text i {j = j} h is n = let on : i < j =
    moved (value_character_at q) (value_character_eats q) (value_character_tails q) text i is n in omega arith

-- the whole value
pub value_none : (text : List ℕ) (at : ℕ) → length text ≤ at → None ≡ stepped (length text) (value_at (drop at text))
unfolding value_at byte bind
value_none text at h = refuses (length text) (value_at (drop at text)) (rw (at_end text at h))

quoted : (n q : ℕ) (s : List ℕ) → quote q ≡ true → stepped n (value_at (q ∷ s)) ≡ stepped n (value_rest_at q s)
unfolding value_at value_rest_at until bind
quoted n q s e =
    rw (byte_complete quote q e s)
    (stepped_each n (all_of (begins (q ∷ [])) (value_character_at q) s) _ (λ _ r. mark (q ∷ []) r) λ bs r. stepped_value n
    (mark (q ∷ []) r) (λ _. together bs))

module _ (text : List ℕ) (at : ℕ) (h : at < length text) {t : Bool} (is : t ≡ quote (get_or text at 0)) where
  pub value_other : not t ≡ true → None ≡ stepped (length text) (value_at (drop at text))
  unfolding value_at bind
  value_other e = refuses (length text) (value_at (drop at text))
      (rw (at_byte text at h, byte_other quote (get_or text at 0) (sym is ∙ not-true t e) (drop (at + 1) text)))

  pub value_some : not t ≡ false → {r : Option ℕ} → r ≡ stepped (length text) (value_rest_at (get_or text at 0) (drop (at + 1) text))
      → r ≡ stepped (length text) (value_at (drop at text))
  value_some e k = k ∙ sym (rw (at_byte text at h) (quoted (length text) (get_or text at 0) (drop (at + 1) text) (sym is ∙ not-false t e)))
