-- Values of attributes: whole numbers, three lengths, dimension lists, exponents.
use Rattle.std.specs.Prelude.{◌≡◌, refl, List, [], ◌∷◌, true, false, ℕ, ◌+◌, ◌≤◌, ◌<◌, length, get_or, Some, None}
use Rattle.std.proofs.Math.Path.{sym}
use Rattle.std.proofs.Common.{ap, ◌∙◌, arith, rules, drop_of_length-le}
use Rattle.lists.proofs.Laws.Booleans.{clash}
use Rattle.grammar.specs.Look.{Word}
use Rattle.lists.specs.Lists.{all}
use Rattle.nodes.specs.Values.{value_there}
use Rattle.nodes.proofs.Laws.NextBytes.{value_begins, tells_none}
use Rattle.numbers.specs.Numbers.{digits, value, parts, comma, whole}
use Rattle.numbers.proofs.Laws.Cuts.{parts_some}
use Rattle.numbers.specs.Stream.{stream, left_in}
use Rattle.numbers.specs.Parted.{numeral, Parted, part_comma, part_last, part_no}
use Rattle.numbers.proofs.Laws.Forms.{parts_one, numeral_two, numeral_first}
use Rattle.numbers.specs.Answers.{whole_in}
use Rattle.numbers.specs.declared.Source.{Source}
use Rattle.numbers.specs.declared.Source.TheVariants.{Value}
use Rattle.numbers.specs.declared.Part.{Part}
use Rattle.numbers.specs.declared.Part.TheVariants.{Comma, Last, No}

-- where a value is read: behind its quote
pub there : (text : List ℕ) (at : ℕ) → value_there text at ≡ stream (Value (get_or text at 0)) text (at + 1)
unfolding stream
there text at = value_begins text at

pub past : (text : List ℕ) (at : ℕ) → length text ≤ at → value_there text at ≡ []
past text at h = let l : length text ≤ at + 1 = omega arith in value_begins text at ∙ rw (drop_of_length-le text l) (tells_none _)

-- what a part says, by what its reader answers
pub record CommaSays (source : Source) (text : List ℕ) (most lo hi at n j : ℕ) : Type 0 where
  pub word : Word
  pub valued : value word ≡ n
  pub right : numeral most lo hi word ≡ true
  pub are : parts comma (stream source text at) ≡ word ∷ parts comma (stream source text j)
  pub ahead : left_in source text j < left_in source text at

pub record LastSays (source : Source) (text : List ℕ) (most lo hi at n : ℕ) : Type 0 where
  pub word : Word
  pub valued : value word ≡ n
  pub right : numeral most lo hi word ≡ true
  pub are : parts comma (stream source text at) ≡ word ∷ []

pub record NoSays (source : Source) (text : List ℕ) (most lo hi at : ℕ) : Type 0 where
  pub word : Word
  pub others : List Word
  pub wrong : numeral most lo hi word ≡ false
  pub are : parts comma (stream source text at) ≡ word ∷ others

module _ {source : Source} {text : List ℕ} {most lo hi at : ℕ} where
  pub says_comma : {r : Part} → Parted source text most lo hi at r → {n j : ℕ} → r ≡ Comma n j → CommaSays source text most lo hi at n j
  says_comma (part_comma x {j = k} f e a) {n} {j} q =
      let v : value x ≡ n = cc in
      let w : k ≡ j = cc in
      record { word = x; valued = v; right = f; are = rw w at e; ahead = rw w at a }
  says_comma (part_last x f e) {n} {j} q = clash (cc)
  says_comma (part_no x l f e) {n} {j} q = clash (cc)

  pub says_last : {r : Part} → Parted source text most lo hi at r → {n : ℕ} → r ≡ Last n → LastSays source text most lo hi at n
  says_last (part_comma x f e a) {n} q = clash (cc)
  says_last (part_last x f e) {n} q = let v : value x ≡ n = cc in record { word = x; valued = v; right = f; are = e }
  says_last (part_no x l f e) {n} q = clash (cc)

  pub says_no : {r : Part} → Parted source text most lo hi at r → r ≡ No → NoSays source text most lo hi at
  says_no (part_comma x f e a) q = clash (cc)
  says_no (part_last x f e) q = clash (cc)
  says_no (part_no x l f e) q = record { word = x; others = l; wrong = f; are = e }

  -- the whole of it is a number if it is the last and right
  pub whole_last : {n : ℕ} → LastSays source text most lo hi at n → (numeral most lo hi (stream source text at) ≡ true)
      × (value (stream source text at) ≡ n)
  whole_last h = let e = parts_one comma (stream source text at) h.word h.are in (rw e h.right, rw e h.valued)

  pub whole_comma : {n j : ℕ} → CommaSays source text most lo hi at n j → numeral most lo hi (stream source text at) ≡ false
  whole_comma {n} {j} h =
      let k = parts_some comma (stream source text j) in
      numeral_two most lo hi (stream source text at) h.word k.first k.others (h.are ∙ ap (λ l. h.word ∷ l) k.are)

  pub whole_no : NoSays source text most lo hi at → numeral most lo hi (stream source text at) ≡ false
  whole_no h = numeral_first most lo hi (stream source text at) h.word h.others h.are h.wrong

-- whole numbers
pub is_numeral : (lo hi : ℕ) (w : Word) → whole lo hi w ≡ numeral 7 lo hi w
unfolding whole numeral
is_numeral lo hi w = refl

no_whole : (lo hi : ℕ) (w : Word) → numeral 7 lo hi w ≡ false → None ≡ whole_in lo hi w
unfolding whole_in
no_whole lo hi w h = sym (rw (is_numeral lo hi w, h) refl)

module _ (text : List ℕ) (at lo hi : ℕ) where
  pub whole_past : length text ≤ at → None ≡ whole_in lo hi (value_there text at)
  unfolding whole_in whole digits all
  whole_past h = sym (rw (past text at h) refl)

  module _ {r : Part} (p : Parted (Value (get_or text at 0)) text 7 lo hi (at + 1) r) where
    pub whole_is : {n : ℕ} → r ≡ Last n → Some n ≡ whole_in lo hi (value_there text at)
    unfolding whole_in
    whole_is e = let k = whole_last (says_last p e) in
        sym (rw (there text at, is_numeral lo hi (stream (Value (get_or text at 0)) text (at + 1)), k.0, k.1) refl)

    pub whole_is_comma : {n j : ℕ} → r ≡ Comma n j → None ≡ whole_in lo hi (value_there text at)
    whole_is_comma e = rw (there text at) (no_whole lo hi _ (whole_comma (says_comma p e)))

    pub whole_is_no : r ≡ No → None ≡ whole_in lo hi (value_there text at)
    whole_is_no e = rw (there text at) (no_whole lo hi _ (whole_no (says_no p e)))

pub ruleset wholing = (whole_past, whole_is, whole_is_comma, whole_is_no, rules)
