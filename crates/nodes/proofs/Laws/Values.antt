-- Decoded values, at a position of the text: one law for each way through the code.
use Rattle.std.specs.Prelude.{◌≡◌, List, [], ◌∷◌, ℕ, ◌+◌, ◌-◌, ◌≤◌, ◌<◌, Bool, true, false, ◌&&◌, eqb, drop, get_or, Option, Some, None, unwrap_or}
use Rattle.std.proofs.Math.Path.{refl, ap, sym}
use Rattle.std.proofs.Common.{◌∙◌, arith, rules, length-drop}
use Rattle.std.proofs.lemmas.Option.{some_pair_parts}
use borrow.Author.Tests.{eq-eqb, ne_eqb}
use Rattle.std.proofs.Math.ListN.{length}
use Rattle.lists.proofs.Laws.Booleans.{clash}
use Rattle.grammar.specs.Bytes.{ascii, blank}
use Rattle.grammar.specs.Read.{Read, fail, got}
use Rattle.grammar.specs.Parser.{reference_at, feed_at, same_bytes}
use Rattle.grammar.proofs.Laws.Tokens.{reference_other, line_end_other}
use Rattle.steps.specs.Step.{stepped}
use Rattle.steps.proofs.Laws.Step.{at_byte, at_end}
use Rattle.steps.proofs.Laws.Feeds.{fed, feed_got, return_read}
use Rattle.steps.specs.Leaves.{referred, first_byte}
use Rattle.nodes.specs.Places.{pick}
use Rattle.nodes.specs.Values.{Next, a_byte, or_else_lem, bare_byte, next_byte, as_char, decoded_at, value_there, tells}
use Rattle.nodes.proofs.Laws.NextBytes.{Decodes, decoded_byte, decoded_end}
use Rattle.nodes.specs.Attributes.{place}
use Rattle.nodes.specs.Found.{value_at_name}
use Rattle.nodes.proofs.Laws.Found.{value_found, value_missing}

else_byte : (n : ℕ) (m : Read (List ℕ)) (x : Next) {d j : ℕ} → referred n m ≡ Some (d, j) → Some (d, j) ≡ as_char n (or_else_lem m x)
unfolding referred as_char or_else_lem
else_byte n fail x e = clash (cc)
else_byte n (got b r) x {d} {j} e = let p = some_pair_parts _ _ _ _ e in rw (p.0, p.1)

else_end : (n : ℕ) (m : Read (List ℕ)) (x : Next) → referred n m ≡ None → or_else_lem m x ≡ x
unfolding referred or_else_lem
else_end n fail x e = refl
else_end n (got b r) x e = clash (cc)

pub decode_past : (text : List ℕ) (at q : ℕ) → length text ≤ at → None ≡ decoded_at text at q
unfolding decoded_at next_byte as_char
decode_past text at q h = rw (at_end text at h)

pub decode_quote : (text : List ℕ) (at q : ℕ) → at < length text → get_or text at 0 ≡ q → None ≡ decoded_at text at q
unfolding decoded_at next_byte as_char
decode_quote text at q h e = rw (at_byte text at h, eq-eqb _ _ e)

module _ (text : List ℕ) (at q : ℕ) (h : at < length text) (nq : get_or text at 0 ≡ q → ⊥) where
  opened : next_byte q (drop at text) ≡ or_else_lem (reference_at (drop at text)) (bare_byte (get_or text at 0) (drop (at + 1) text))
  unfolding next_byte
  opened = rw (at_byte text at h, ne_eqb _ _ nq)

  spot : length text - length (drop (at + 1) text) ≡ at + 1
  spot = simp length-drop (omega arith)

  pub decode_reference : {c : Option (ℕ × ℕ)} → c ≡ referred (length text) (reference_at (drop at text)) → {d j : ℕ} → c ≡ Some (d, j)
      → Some (d, j) ≡ decoded_at text at q
  unfolding decoded_at
  decode_reference w z = else_byte (length text) (reference_at (drop at text)) _ (sym w ∙ z) ∙ ap (as_char (length text)) (sym opened)

  pub decode_ampersand : get_or text at 0 ≡ 38 → {c : Option (ℕ × ℕ)} → c ≡ referred (length text) (reference_at (drop at text))
      → c ≡ None → Some (38, (at + 1)) ≡ decoded_at text at q
  unfolding decoded_at as_char blank bare_byte or_else_lem
  decode_ampersand e w z = sym (ap (as_char (length text)) opened
      ∙ rw (
        else_end (length text) (reference_at (drop at text)) (bare_byte (get_or text at 0) (drop (at + 1) text)) (sym w ∙ z),
        e,
        line_end_other (ascii " ") 38 refl (drop (at + 1) text),
        spot,
      ))

  pub decode_ampersand_or : get_or text at 0 ≡ 38 → {c : Option (ℕ × ℕ)} → c ≡ referred (length text) (reference_at (drop at text))
      → {p : ℕ × ℕ} → p ≡ unwrap_or c (38, (at + 1)) → Some p ≡ decoded_at text at q
  decode_ampersand_or e {c} w {p} z = go c refl z
    where
      go : (x : Option (ℕ × ℕ)) → c ≡ x → p ≡ unwrap_or x (38, (at + 1)) → Some p ≡ decoded_at text at q
      go None r z = ap Some z ∙ decode_ampersand e w r
      go (Some (d, j)) r z = ap Some z ∙ decode_reference w r

  pub decode_return : get_or text at 0 ≡ 13 → {j : ℕ} → Some j ≡ stepped (length text) (feed_at (ascii "\n") (drop (at + 1) text))
      → Some (32, j) ≡ decoded_at text at q
  unfolding decoded_at as_char bare_byte or_else_lem first_byte stepped
  decode_return e {j} k =
      let fits : Some j ≡ Some (length text - length (fed (drop (at + 1) text))) = k ∙ rw (feed_got (ascii "\n") (drop (at + 1) text)) in
      let here : j ≡ length text - length (fed (drop (at + 1) text)) = cc in
      rw here (sym (rw (
        opened,
        at_byte text at h,
        e,
        reference_other 13 refl (drop (at + 1) text),
        return_read (ascii " ") (drop (at + 1) text),
        feed_got (ascii " ") (drop (at + 1) text),
      )))

  module _ (na : get_or text at 0 ≡ 38 → ⊥) (nr : get_or text at 0 ≡ 13 → ⊥) {t : Bool} (bl : t ≡ blank (get_or text at 0)) where
    bare : next_byte q (drop at text) ≡ a_byte (pick (blank (get_or text at 0)) 32 (get_or text at 0)) (drop (at + 1) text)
    unfolding or_else_lem bare_byte
    bare = opened ∙ rw (
      at_byte text at h,
      reference_other (get_or text at 0) (ne_eqb _ _ na) (drop (at + 1) text),
      line_end_other (ascii " ") (get_or text at 0) (ne_eqb _ _ nr) (drop (at + 1) text),
    )

    pub decode_blank : t ≡ true → Some (32, (at + 1)) ≡ decoded_at text at q
    unfolding decoded_at as_char
    decode_blank e = sym (rw (bare, sym bl ∙ e, spot))

    pub decode_plain : t ≡ false → Some ((get_or text at 0), (at + 1)) ≡ decoded_at text at q
    unfolding decoded_at as_char
    decode_plain e = sym (rw (bare, sym bl ∙ e, spot))

pub ruleset decoding = (decode_past, decode_quote, decode_reference, decode_ampersand, decode_return, decode_blank, decode_plain, rules)

-- DECODED BYTES UP TO A QUOTE, AND A WORD
same_empty : (w : List ℕ) → same_bytes [] w ≡ eqb (length w) 0
unfolding same_bytes
same_empty [] = refl
same_empty (a ∷ w) = sym (ne_eqb (length (a ∷ w)) 0 (λ e. omega arith))

pub record Wording (text : List ℕ) (at q : ℕ) (word : List ℕ) (k i : ℕ) : Type 0 where
  inside : k ≤ length word
  same_word : same_bytes (tells q (drop at text)) word ≡ same_bytes (tells q (drop i text)) (drop k word)

pub word_start : (text : List ℕ) (at q : ℕ) (word : List ℕ) → Wording text at q word 0 at
word_start text at q word = record { inside = omega arith; same_word = refl }

module _ (text : List ℕ) (at q : ℕ) (word : List ℕ) (k i : ℕ) (go : Wording text at q word k i) {c : Option (ℕ × ℕ)}
    (ec : c ≡ decoded_at text i q) where
  pub word_yes : c ≡ None → length word ≤ k → true ≡ same_bytes (tells q (drop at text)) word
  unfolding same_bytes
  word_yes e h = sym (go.same_word ∙ rw (decoded_end text q i ec e, at_end word k h))

  pub word_short : c ≡ None → k < length word → false ≡ same_bytes (tells q (drop at text)) word
  unfolding same_bytes
  word_short e h = sym (go.same_word ∙ rw (decoded_end text q i ec e, at_byte word k h))

  module _ {b j : ℕ} (is : c ≡ Some (b, j)) where
    says : Decodes text q i b j
    says = decoded_byte text q i ec is

    pub word_less : length text - j < length text - i
    word_less = omega (arith, says.inside, says.ahead)

    pub word_long : length word ≤ k → false ≡ same_bytes (tells q (drop at text)) word
    unfolding same_bytes
    word_long h = sym (go.same_word ∙ rw (says.splits, at_end word k h))

    both : k < length word
        → same_bytes (tells q (drop at text)) word ≡ (eqb b (get_or word k 0) && same_bytes (tells q (drop j text)) (drop (k + 1) word))
    unfolding same_bytes
    both h = go.same_word ∙ rw (says.splits, at_byte word k h)

    pub word_other : k < length word → (b ≡ get_or word k 0 → ⊥) → false ≡ same_bytes (tells q (drop at text)) word
    word_other h f = sym (both h ∙ rw (ne_eqb _ _ f))

    pub word_more : k < length word → b ≡ get_or word k 0 → Wording text at q word (k + 1) j
    word_more h e = record { inside = omega arith; same_word = both h ∙ rw (eq-eqb _ _ e) }

pub ruleset wording = (word_start, word_yes, word_short, word_less, word_long, word_other, word_more, rules)

-- THE VALUE OF A NAME
module _ (text : List ℕ) (at : ℕ) (name word : List ℕ) {f : Option ℕ} (e : f ≡ place text at name) where
  pub has_none : f ≡ None → eqb (length word) 0 ≡ same_bytes (value_at_name text at name) word
  has_none z = sym (rw (value_missing text at name e z) (same_empty word))

  pub has_some : {v : ℕ} → f ≡ Some v → {r : Bool} → r ≡ same_bytes (value_there text v) word → r ≡ same_bytes (value_at_name text at name) word
  has_some z w = w ∙ sym (rw (value_found text at name e z))

pub ruleset having = (has_none, has_some, rules)
