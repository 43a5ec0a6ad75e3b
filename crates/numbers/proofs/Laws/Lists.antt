-- Dimension lists: their entries, counted one by one.
use Rattle.std.specs.Prelude.{◌≡◌, List, [], ◌∷◌, Bool, ℕ, ◌+◌, ◌≤◌, ◌<◌, leb, length, get_or, Option, Some, None}
use Rattle.std.proofs.Math.Path.{refl, sym}
use Rattle.std.proofs.Common.{ap, ◌∙◌, arith, rules, le-leb}
use Rattle.std.proofs.Math.Bool.{true, false, cond, and-false}
use Rattle.std.proofs.lemmas.Bool.{lt-leb}
use Rattle.lists.proofs.Laws.Booleans.{and_left, and_right}
use Rattle.grammar.specs.Bytes.{between}
use Rattle.grammar.specs.Look.{Word}
use Rattle.lists.specs.Lists.{all, each, count}
use Rattle.nodes.specs.Values.{value_there}
use Rattle.numbers.specs.Numbers.{digits, value, parts, comma, dimension_list, comma_values}
use Rattle.numbers.specs.Stream.{stream, left_in}
use Rattle.numbers.specs.Parted.{numeral, Parted}
use Rattle.numbers.proofs.Laws.Forms.{numeral_single}
use Rattle.numbers.specs.Answers.{listed_in, between_in}
use Rattle.numbers.proofs.Laws.Values.{there, past, says_comma, says_last, says_no}
use Rattle.numbers.specs.declared.Source.{Source}
use Rattle.numbers.specs.declared.Source.TheVariants.{Value}
use Rattle.numbers.specs.declared.Part.{Part}
use Rattle.numbers.specs.declared.Part.TheVariants.{Comma, Last, No}

-- one entry
pub within_low : (lo hi : ℕ) {d : ℕ} → d < lo → ◌≡◌ {A = ℕ} 0 (cond (between lo hi d) 1 0)
within_low lo hi {d} h = rw (lt-leb lo d h) refl

pub within_high : (lo hi : ℕ) {d : ℕ} → hi < d → ◌≡◌ {A = ℕ} 0 (cond (between lo hi d) 1 0)
within_high lo hi {d} h = rw (lt-leb d hi h, and-false (leb lo d)) refl

pub within_yes : (lo hi : ℕ) {d : ℕ} → lo ≤ d → d ≤ hi → ◌≡◌ {A = ℕ} 1 (cond (between lo hi d) 1 0)
within_yes lo hi {d} h k = rw (le-leb lo d h, le-leb d hi k) refl

pub ruleset within_it = (within_low, within_high, within_yes, rules)

at_most_one : (t : Bool) {r : ℕ} → r ≡ cond t 1 0 → r ≤ 1
at_most_one true e = omega arith
at_most_one false e = omega arith

-- a sum where there is one
pub add_to : ℕ → Option ℕ → Option ℕ
add_to n None = None
add_to n (Some m) = Some (n + m)

add_again : (n m : ℕ) (x : Option ℕ) → add_to n (add_to m x) ≡ add_to (n + m) x
unfolding add_to
add_again n m None = refl
add_again n m (Some k) = ap Some (omega arith)

add_none : (x : Option ℕ) → add_to 0 x ≡ x
unfolding add_to
add_none None = refl
add_none (Some k) = ap Some (omega arith)

module _ (lo hi : ℕ) where
  between_more : (w v x : Word) → parts comma w ≡ x ∷ parts comma v → digits 1 1 x ≡ true
      → between_in lo hi w ≡ add_to (cond (between lo hi (value x)) 1 0) (between_in lo hi v)
  unfolding between_in dimension_list comma_values all each count add_to
  between_more w v x e h = rw (e, h) (go (all (digits 1 1) (parts comma v)))
    where
      go : (t : Bool) → cond t (Some (cond (between lo hi (value x)) 1 0 + count (between lo hi) (each value (parts comma v))))
          None ≡ add_to (cond (between lo hi (value x)) 1 0)
          (cond t (Some (count (between lo hi) (each value (parts comma v)))) None)
      go true = refl
      go false = refl

  between_last : (w x : Word) → parts comma w ≡ x ∷ [] → digits 1 1 x ≡ true
      → between_in lo hi w ≡ Some (cond (between lo hi (value x)) 1 0)
  unfolding between_in dimension_list comma_values all each count
  between_last w x e h = rw (e, h) (ap Some (omega arith))

  between_wrong : (w x : Word) (l : List Word) → parts comma w ≡ x ∷ l → digits 1 1 x ≡ false → between_in lo hi w ≡ None
  unfolding between_in dimension_list all
  between_wrong w x l e h = rw (e, h) refl

pub record Listing (text : List ℕ) (at lo hi : ℕ) (source : Source) (n i : ℕ) : Type 0 where
  pub quoted : source ≡ Value (get_or text at 0)
  pub same : between_in lo hi (value_there text at) ≡ add_to n (between_in lo hi (stream source text i))
  pub room : n + left_in source text i < length text

pub list_past : (text : List ℕ) (at lo hi : ℕ) → length text ≤ at → None ≡ between_in lo hi (value_there text at)
unfolding between_in dimension_list parts all digits
list_past text at lo hi h = sym (rw (past text at h) refl)

pub list_start_lem : (text : List ℕ) (at lo hi : ℕ) → at < length text → Listing text at lo hi (Value (get_or text at 0)) 0 (at + 1)
unfolding left_in
list_start_lem text at lo hi h = record {
  quoted = refl;
  same = ap (between_in lo hi) (there text at) ∙ sym (add_none (between_in lo hi (stream (Value (get_or text at 0)) text (at + 1))));
  room = omega arith;
}

module _ {text : List ℕ} {at lo hi : ℕ} {source : Source} {n i : ℕ} (go : Listing text at lo hi source n i) {r : Part}
    (p : Parted source text 1 0 9 i r) where
  pub list_no : r ≡ No → None ≡ between_in lo hi (value_there text at)
  unfolding add_to
  list_no e =
      let h = says_no p e in
      sym (go.same ∙ rw (between_wrong lo hi (stream source text i) h.word h.others h.are
      (sym (numeral_single h.word) ∙ h.wrong)) refl)

  module _ (d : ℕ) {k : ℕ} (w : k ≡ cond (between lo hi d) 1 0) where
    pub list_room : n + k ≤ length text
    list_room = omega (arith, at_most_one (between lo hi d) w, go.room)

    pub list_last : r ≡ Last d → Some (n + k) ≡ between_in lo hi (value_there text at)
    unfolding add_to
    list_last e =
        let h = says_last p e in
        sym (go.same ∙ rw (
          between_last lo hi (stream source text i) h.word h.are (sym (numeral_single h.word) ∙ h.right),
          h.valued,
          w,
        ) refl)

    module _ {j : ℕ} (e : r ≡ Comma d j) where
      pub list_less : left_in source text j < left_in source text i
      list_less = (says_comma p e).ahead

      pub list_on : Listing text at lo hi source (n + k) j
      list_on =
          let h = says_comma p e in
          let q = between_more lo hi (stream source text i) (stream source text j) h.word h.are
          (sym (numeral_single h.word) ∙ h.right) in
          record {
            quoted = go.quoted;
            same = go.same ∙ ap (add_to n) (q ∙ rw (h.valued, w) refl) ∙ add_again n k _;
            room = omega (arith, at_most_one (between lo hi d) w, go.room, h.ahead);
          }

pub ruleset listing = (list_past, list_start_lem, list_no, list_room, list_last, list_less, list_on, rules)

-- every entry is from 0 to 9
all_counted : (l : List Word) → all (digits 1 1) l ≡ true → count (between 0 9) (each value l) ≡ length (each value l)
unfolding all each count numeral
all_counted [] h = refl
all_counted (x ∷ l) h =
    let d = and_left (digits 1 1 x) _ h in
    let b = single x (numeral_single x ∙ d) in
    rw (b, all_counted l (and_right (digits 1 1 x) _ h)) (omega arith)
  where
    single : (x : Word) → numeral 1 0 9 x ≡ true → between 0 9 (value x) ≡ true
    single x e = and_right (digits 1 1 x) _ e

pub all_listed : (w : Word) {r : Option ℕ} → r ≡ between_in 0 9 w → r ≡ listed_in w
unfolding between_in listed_in dimension_list comma_values
all_listed w e = e ∙ go (all (digits 1 1) (parts comma w)) refl
  where
    go : (t : Bool) → all (digits 1 1) (parts comma w) ≡ t
        → cond t (Some (count (between 0 9) (each value (parts comma w)))) None
        ≡ cond t (Some (length (each value (parts comma w)))) None
    go false h = refl
    go true h = ap Some (all_counted (parts comma w) h)

pub ruleset counting_all = (all_listed, rules)
