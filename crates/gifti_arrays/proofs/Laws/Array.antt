-- One array: how it writes its keys, and whether they are as many as they are to be.
use Rattle.std.specs.Prelude.{◌≡◌, Bool, ◌&&◌, cond, List, ℕ, ◌+◌, ◌*◌, ◌%◌, eqb, length, Option, Some, None}
use Rattle.std.proofs.Math.Path.{refl, sym, ap, subst}
use Rattle.std.proofs.Common.{◌∙◌, arith, eqb-true, eq-eqb, ne_eqb, rules}
use Rattle.std.proofs.Math.Bool.{true, false}
use Prim.Native.String.{String}
use Rattle.std.proofs.lemmas.Bool.{eqb-false}
use Rattle.grammar.specs.Bytes.{ascii}
use Rattle.grammar.specs.Document.{Element}
use Rattle.grammar.specs.Look.{is, name_of, attr, has, contents_of, elements, children, text_of}
use Rattle.grammar.specs.Parser.{same_bytes}
use Rattle.nodes.specs.Places.{Stands, the}
use Rattle.nodes.specs.Found.{value_at_name}
use Rattle.nodes.proofs.Laws.Found.{has_law}
use Rattle.nodes.specs.Texts.{text_of_lem}
use Rattle.nodes.proofs.Laws.TextSteps.{text_law}
use Rattle.inside.specs.Way.{nth}
use Rattle.inside.proofs.Laws.Walked.{child_same, child_agrees, Agrees, not_there, stands_there}
use Rattle.inside.specs.Treads.{child_named}
use Rattle.inside.proofs.Laws.Treads.{called_alike}
use Rattle.gifti.specs.Arrays.{is_coded, endian_of, data_of, dim0, array_keys, fills_dim0}
use Rattle.array_keys.specs.Ahead.{keys_ahead, spare_bytes, keys_start}
use Rattle.array_keys.specs.declared.Encoding.{Encoding}
use Rattle.array_keys.specs.declared.Encoding.TheVariants.{Plain, Big, Little}
use Rattle.lists.specs.Lists.{all, those}
use Rattle.lists.proofs.Laws.Booleans.{never_some, and_true}
use Rattle.numbers.specs.Numbers.{in_keys, listed_keys, value, key_list}
use Rattle.base64_text.specs.Base64.{bytes_in, coded}
use Rattle.base64_text.specs.Fours.{big, little, bytes_or, coded_keys, coded_bytes}
use Rattle.maps.specs.Fields.{attribute_word, number_seen}
use Rattle.maps.proofs.Laws.Fields.{word_at, number_seen_lem}
use Rattle.array_keys.proofs.Laws.Ahead.{plain_keys, big_keys, little_keys, big_spare, little_spare, key_bytes_lem}
use Rattle.gifti.proofs.Laws.Held.{data_of_lem}
use Rattle.gifti_arrays.specs.Ready.{ArrayHere}
use Rattle.known_keys.specs.Known.{known_in}
use Rattle.known_keys.specs.Known.{codes_of}
use Rattle.gifti_arrays.specs.Tally.{Tallied}
use Rattle.gifti_arrays.specs.Arrays.{encoding_of, or_start, data_at, spare_of, ArrayNoted, ToldArray}
use Rattle.gifti_arrays.specs.declared.array.ArrayNote.{ArrayNote}
use Rattle.gifti_arrays.specs.declared.tally.Tally.{Tally}

-- ---- A child of a name, by its place.

pub named_agrees : (s : String) (n : ℕ) {text : List ℕ} {at : ℕ} → Stands text at
    → Agrees text (child_named (ascii s) n text at) (nth n (children s (the text at)))
unfolding child_named children
named_agrees s n {text} {at} st =
    subst (λ (f : Option ℕ). Agrees text f (nth n (those (λ d. is s (name_of d)) (elements (contents_of (the text at))))))
    (sym (child_same n st (λ k h. called_alike text s k h)))
    (child_agrees (λ d. is s (name_of d)) n st)

-- what agrees with an element stands where it was found
found_element : {text : List ℕ} {k : ℕ} {o : Option Element} {a : Element} → Agrees text (Some k) o → o ≡ Some a
    → (Stands text k) × (the text k ≡ a)
found_element (stands_there st) q = (st, cc)

never_nothing : {text : List ℕ} {o : Option Element} {a : Element} → Agrees text None o → o ≡ Some a → {A : Type 0} → A
never_nothing not_there q = never_some q

module _ {text : List ℕ} {f : Option ℕ} {a : Element} (g : Agrees text f (Some a)) where
  pub found_there : {k : ℕ} → f ≡ Some k → (Stands text k) × (the text k ≡ a)
  found_there {k} e = found_element (subst (λ (x : Option ℕ). Agrees text x (Some a)) e g) refl

  pub found_nowhere : f ≡ None → {A : Type 0} → A
  found_nowhere e = never_nothing (subst (λ (x : Option ℕ). Agrees text x (Some a)) e g) refl

-- ---- The encoding.

module _ {text : List ℕ} {at : ℕ} (st : Stands text at) {b : Bool}
    (p : b ≡ same_bytes (value_at_name text at (ascii "Encoding")) (ascii "Base64Binary")) where
  coded_so : is_coded (the text at) ≡ b
  unfolding is_coded
  coded_so = sym (p ∙ has_law "Encoding" "Base64Binary" st)

  pub encoding_plain : b ≡ false → Plain ≡ encoding_of (the text at)
  unfolding encoding_of
  encoding_plain f = sym (rw (coded_so ∙ f) refl)

  module _ (t : b ≡ true) {c : Bool} (q : c ≡ same_bytes (value_at_name text at (ascii "Endian")) (ascii "BigEndian")) where
    big_so : has "Endian" "BigEndian" (the text at) ≡ c
    big_so = sym (q ∙ has_law "Endian" "BigEndian" st)

    pub encoding_big : c ≡ true → Big ≡ encoding_of (the text at)
    unfolding encoding_of
    encoding_big y = sym (rw (coded_so ∙ t, big_so ∙ y) refl)

    pub encoding_little : c ≡ false → Little ≡ encoding_of (the text at)
    unfolding encoding_of
    encoding_little n = sym (rw (coded_so ∙ t, big_so ∙ n) refl)

pub ruleset encoding = (encoding_plain, encoding_big, encoding_little, rules)

-- ---- The Data.

module _ (text : List ℕ) (at : ℕ) {f : Option ℕ} (e : f ≡ child_named (ascii "Data") 0 text at) where
  pub data_found : {k : ℕ} → f ≡ Some k → k ≡ data_at text at
  unfolding data_at or_start
  data_found h = sym (ap or_start (sym e ∙ h))

  pub data_missing : f ≡ None → 0 ≡ data_at text at
  unfolding data_at or_start
  data_missing h = sym (ap or_start (sym e ∙ h))

pub ruleset placing = (data_found, data_missing, rules)

-- ---- As many keys as there are to be.

-- so many keys and no byte more, or four times as many bytes
fours_fit : (keys bytes n : ℕ) → bytes ≡ 4 * keys + bytes % 4 → (eqb keys n && eqb (bytes % 4) 0) ≡ eqb bytes (4 * n)
fours_fit keys bytes n e = go (eqb keys n) (eqb (bytes % 4) 0) refl refl
  where
    go : (t u : Bool) → eqb keys n ≡ t → eqb (bytes % 4) 0 ≡ u → (t && u) ≡ eqb bytes (4 * n)
    go true true p q =
        let h = eqb-true keys n p in
        let k = eqb-true (bytes % 4) 0 q in
        sym (eq-eqb bytes (4 * n) (omega arith))
    go true false p q = sym (ne_eqb bytes (4 * n) (λ h. eqb-false (bytes % 4) 0 q (omega arith)))
    go false u p q = sym (ne_eqb bytes (4 * n) (λ h. eqb-false keys n p (omega arith)))

fills_so : (a : Element) → (eqb (length (array_keys a)) (dim0 a) && eqb (spare_of a) 0) ≡ fills_dim0 a
unfolding array_keys spare_of fills_dim0 coded_keys coded_bytes
fills_so a = go (is_coded a)
  where
    go : (b : Bool) → (eqb (length (cond b (coded_keys (endian_of a) (data_of a)) (listed_keys (data_of a)))) (dim0 a)
        && eqb (cond b (coded_bytes (data_of a) % 4) 0) 0)
        ≡ cond b (eqb (coded_bytes (data_of a)) (4 * dim0 a)) (eqb (length (listed_keys (data_of a))) (dim0 a))
    go true =
        fours_fit (length (coded_keys (endian_of a) (data_of a))) (coded_bytes (data_of a)) (dim0 a)
        (key_bytes_lem (endian_of a) (bytes_or (bytes_in (data_of a))))
    go false = and_true (eqb (length (listed_keys (data_of a))) (dim0 a))

-- ---- What is told of the array.

module _ {text : List ℕ} {a : Element} {n : ArrayNote} (o : ArrayNoted text a n) {codes : List ℕ} {t : Tally}
    (c : Tallied n.encoding text (keys_start text n.from) codes t) where
  keys_so : t.keys ≡ length (array_keys a)
  keys_so = c.counted ∙ ap length o.keys_are

  spare_so : t.spare ≡ spare_of a
  spare_so = c.left_over ∙ o.spare_is

  pub array_so : ToldArray text a codes
      (record { fits = eqb t.keys n.count && eqb t.spare 0; keys = t.keys; known = t.known })
  array_so = record {
    fitting = rw (keys_so, spare_so, o.count_is) (fills_so a);
    counted = keys_so;
    found = c.found ∙ ap (λ l. known_in codes (codes_of l)) o.keys_are;
    in_range_lem = ap (all in_keys) (sym o.keys_are) ∙ c.in_range_lem;
    few = c.few;
  }

-- ---- What is noted of an array that is as its row says.

module _ {text : List ℕ} {at : ℕ} (h : ArrayHere text at) where
  data_there : Agrees text (child_named (ascii "Data") 0 text at) (Some h.good.held)
  unfolding nth
  data_there =
      subst (λ (o : Option Element). Agrees text (child_named (ascii "Data") 0 text at) o)
      (ap (nth 0) h.good.one_data) (named_agrees "Data" 0 h.stands)

  text_at : (f : Option ℕ) → child_named (ascii "Data") 0 text at ≡ f → text_of_lem text (or_start f) ≡ text_of h.good.held
  unfolding or_start
  text_at None e = found_nowhere data_there e
  text_at (Some k) e = let (st, q) = found_there data_there e in text_law st ∙ ap text_of q

  -- the text of the Data
  text_so : text_of_lem text (data_at text at) ≡ text_of h.good.held
  unfolding data_at
  text_so = text_at (child_named (ascii "Data") 0 text at) refl

  data_so : text_of_lem text (data_at text at) ≡ data_of (the text at)
  data_so = text_so ∙ sym (data_of_lem (the text at) h.good.held h.good.one_data)

  plain_so : is_coded (the text at) ≡ false
      → keys_ahead (encoding_of (the text at)) text (keys_start text (data_at text at)) ≡ array_keys (the text at)
  unfolding encoding_of array_keys
  plain_so f =
      rw f (plain_keys text (data_at text at) (ap key_list text_so ∙ h.good.plain f) ∙ ap listed_keys data_so)

  coded_by : is_coded (the text at) ≡ true → (b : Bool)
      → keys_ahead (cond b Big Little) text (keys_start text (data_at text at)) ≡ coded_keys (cond b big little) (data_of (the text at))
  coded_by t true = big_keys text (data_at text at) (ap coded text_so ∙ h.good.bytes t) ∙ ap (coded_keys big) data_so
  coded_by t false = little_keys text (data_at text at) (ap coded text_so ∙ h.good.bytes t) ∙ ap (coded_keys little) data_so

  bytes_so : is_coded (the text at) ≡ true
      → keys_ahead (encoding_of (the text at)) text (keys_start text (data_at text at)) ≡ array_keys (the text at)
  unfolding encoding_of array_keys endian_of
  bytes_so t = rw t (coded_by t (has "Endian" "BigEndian" (the text at)))

  keys_here : (b : Bool) → is_coded (the text at) ≡ b
      → keys_ahead (encoding_of (the text at)) text (keys_start text (data_at text at)) ≡ array_keys (the text at)
  keys_here true t = bytes_so t
  keys_here false f = plain_so f

  spare_by : is_coded (the text at) ≡ true → (b : Bool)
      → spare_bytes (cond b Big Little) text (keys_start text (data_at text at)) ≡ coded_bytes (data_of (the text at)) % 4
  spare_by t true =
      big_spare text (data_at text at) (ap coded text_so ∙ h.good.bytes t) ∙ ap (λ w. coded_bytes w % 4) data_so
  spare_by t false =
      little_spare text (data_at text at) (ap coded text_so ∙ h.good.bytes t) ∙ ap (λ w. coded_bytes w % 4) data_so

  spare_here : (b : Bool) → is_coded (the text at) ≡ b
      → spare_bytes (encoding_of (the text at)) text (keys_start text (data_at text at)) ≡ spare_of (the text at)
  unfolding encoding_of spare_of spare_bytes
  spare_here true t = rw t (spare_by t (has "Endian" "BigEndian" (the text at)))
  spare_here false f = rw f refl

  pub noted_so : {d : ℕ} → d ≡ data_at text at → {e : Encoding} → e ≡ encoding_of (the text at) → {n : ℕ}
      → (Stands text at → n ≡ number_seen 1 1048576 (attribute_word (ascii "Dim0") (the text at)))
      → ArrayNoted text (the text at) (record { from = d; encoding = e; count = n })
  unfolding dim0
  noted_so {d} p {e} q {n} s =
      let said : n ≡ value (attr "Dim0" (the text at)) = s h.stands ∙ ap (number_seen 1 1048576) (word_at "Dim0" (the text at))
      ∙ number_seen_lem 1 1048576 (attr "Dim0" (the text at)) h.good.length_said in
      record {
        keys_are = rw (p, q) (keys_here (is_coded (the text at)) refl);
        spare_is = rw (p, q) (spare_here (is_coded (the text at)) refl);
        count_is = said;
      }
