-- Numbers in order are twice there where two neighbours are equal; a table is told part by part.
use Rattle.std.specs.Prelude.{◌≡◌, List, [], ◌∷◌, ◌++◌, Bool, ◌&&◌, ◌||◌, ℕ, ◌+◌, ◌^◌, ◌≤◌, ◌<◌, leb, get_or, take, Option, Some, None}
use Rattle.std.proofs.Math.Path.{refl, sym, ap}
use Rattle.std.proofs.Common.{◌∙◌, add-one, drop-cons, rules}
use Rattle.std.proofs.Math.Bool.{true, false}
use Rattle.std.proofs.lemmas.Bool.{false≢true}
use native.Mathlib.Omega.{arith}
use Rattle.std.proofs.Math.Dec.{eqb}
use Rattle.std.proofs.Math.ListN.{length, drop}
use Rattle.std.proofs.Math.Seq.{drop-length}
use borrow.Author.Tests.{leb-true, eq-eqb, ne_eqb}
use Rattle.lists.specs.Lists.{any, two_of}
use Rattle.lists.proofs.Laws.Lists.{any_same, two_append}
use Rattle.lists.proofs.Laws.Booleans.{and_left, and_right, or_first, or_true, refute}
use Rattle.lists.proofs.Laws.Permuted.{two_permuted, append_turned}
use Rattle.lists.proofs.Laws.Numbers.{eqb_turned}
use Rattle.lists.proofs.Laws.Reordered.{two_kept}
use Rattle.lists.specs.Reordered.{Reordered}
use Rattle.lists.specs.Reordered.{member}
use Rattle.label_table.specs.Labels.{twice_at, first_label, next_label}
use Rattle.label_table.specs.Codes.{code_here}
use Rattle.label_table.proofs.Laws.Codes.{twice_codes}
use Rattle.label_table.proofs.Laws.Walks.{walk_less, come_more, come_first, come_done}
use Rattle.label_table.specs.Walks.{to_come}
use Rattle.known_keys.specs.Order.{ordered_from, in_order}
use Rattle.known_keys.specs.Known.{Placed, Taken}
use Rattle.known_keys.specs.Sieve.{sifted, Sieve, Sifting}
use Rattle.known_keys.proofs.Laws.Search.{placed_member}
use Rattle.known_keys.proofs.Laws.Turns.{member_any, taken_less}
use Rattle.key_twice.specs.Parts.{some_in, part_twice}

-- ---- Neighbours.

none_under : (a n : ℕ) (l : List ℕ) → a < n → ordered_from n l ≡ true → any (eqb a) l ≡ false
unfolding ordered_from any
none_under a n [] h o = refl
none_under a n (c ∷ l) h o =
    let m = leb-true n c (and_left (leb n c) (ordered_from c l) o) in
    rw (ne_eqb a c (λ e. omega arith)) (none_under a c l (omega arith) (and_right (leb n c) (ordered_from c l) o))

pub record Looking (keys : List ℕ) (last i : ℕ) : Type 0 where
  pub inside : i ≤ length keys
  pub ordered : ordered_from last (drop i keys) ≡ true
  pub so_far : two_of eqb keys ≡ two_of eqb (last ∷ drop i keys)

pub looking_none : (keys : List ℕ) → length keys ≡ 0 → false ≡ two_of eqb keys
unfolding two_of
looking_none [] h = refl
looking_none (a ∷ l) h = absurd (omega arith)

pub looking_start : (keys : List ℕ) → in_order keys ≡ true → (length keys ≡ 0 → ⊥) → Looking keys (get_or keys 0 0) 1
unfolding in_order ordered_from
looking_start [] o h = absurd (h refl)
looking_start (a ∷ l) o h = record { inside = omega arith; ordered = and_right (leb 0 a) (ordered_from a l) o; so_far = refl }

module _ {keys : List ℕ} {last i : ℕ} (go : Looking keys last i) where
  pub looking_done : length keys ≤ i → false ≡ two_of eqb keys
  unfolding two_of any
  looking_done h =
      let u = go.inside in
      let e : i ≡ length keys = omega arith in
      sym (go.so_far ∙ ap (λ n. two_of eqb (last ∷ drop n keys)) e ∙ ap (λ l. two_of eqb (last ∷ l)) (drop-length keys))

  module _ (h : i < length keys) where
    ahead : drop i keys ≡ get_or keys i 0 ∷ drop (i + 1) keys
    ahead = drop-cons keys i 0 h ∙ ap (λ n. get_or keys i 0 ∷ drop n keys) (sym (add-one i))

    above : (leb last (get_or keys i 0) && ordered_from (get_or keys i 0) (drop (i + 1) keys)) ≡ true
    unfolding ordered_from
    above = sym (ap (ordered_from last) ahead) ∙ go.ordered

    pub looking_alike : get_or keys i 0 ≡ last → true ≡ two_of eqb keys
    unfolding two_of any
    looking_alike e =
        sym (go.so_far ∙ ap (λ l. two_of eqb (last ∷ l)) ahead ∙ rw (eq-eqb last (get_or keys i 0) (sym e)) refl)

    module _ (f : get_or keys i 0 ≡ last → ⊥) where
      apart : any (eqb last) (get_or keys i 0 ∷ drop (i + 1) keys) ≡ false
      unfolding any
      apart =
          let m = leb-true last (get_or keys i 0) (and_left (leb last (get_or keys i 0)) _ above) in
          rw (ne_eqb last (get_or keys i 0) (λ e. f (sym e)))
          (none_under last (get_or keys i 0) (drop (i + 1) keys) (omega arith) (and_right (leb last (get_or keys i 0)) _ above))

      pub looking_more : Looking keys (get_or keys i 0) (i + 1)
      unfolding two_of
      looking_more = record {
        inside = omega arith;
        ordered = and_right (leb last (get_or keys i 0)) _ above;
        so_far = go.so_far ∙ ap (λ l. two_of eqb (last ∷ l)) ahead
            ∙ ap (λ b. b || two_of eqb (get_or keys i 0 ∷ drop (i + 1) keys)) apart;
      }

pub ruleset looking = (looking_none, looking_start, looking_done, looking_alike, looking_more, rules)

-- ---- The Labels behind a part.

pub record Meeting (text keys words : List ℕ) (from kid : Option ℕ) : Type 0 where
  pub sifting : Sifting keys words
  pub so_far : some_in keys (to_come text from) ≡ some_in keys (to_come text kid)

pub meeting_start : (text : List ℕ) {keys words : List ℕ} (from : Option ℕ) → Sifting keys words → Meeting text keys words from from
meeting_start text from s = record { sifting = s; so_far = refl }

module _ {text keys words : List ℕ} {from kid : Option ℕ} (go : Meeting text keys words from kid) where
  pub meeting_ordered : in_order keys ≡ true
  meeting_ordered = go.sifting.in_order_so

  pub meeting_done : kid ≡ None → false ≡ some_in keys (to_come text from)
  unfolding some_in any
  meeting_done e = sym (go.so_far ∙ ap (some_in keys) (come_done text e))

  module _ {k : ℕ} (is_child : kid ≡ Some k) {kid₁ : Option ℕ} (e : kid₁ ≡ next_label text k) {c : ℕ}
      (q : (c ≡ code_here text k) × (c < 2 ^ 32)) where
    splits : some_in keys (to_come text from) ≡ (member c keys || some_in keys (to_come text kid₁))
    unfolding some_in any
    splits = go.so_far ∙ ap (some_in keys) (come_more text is_child e)
        ∙ ap (λ i. member i keys || some_in keys (to_come text kid₁)) (sym q.0)

    missing : member c keys ≡ false → Meeting text keys words from kid₁
    missing m = record { sifting = go.sifting; so_far = splits ∙ rw m refl }

    pub meeting_sifted : {b : Bool} → b ≡ sifted words c → b ≡ false → Meeting text keys words from kid₁
    meeting_sifted h f = missing (refute (member c keys) (λ m. false≢true (sym f ∙ h ∙ go.sifting.passes.passing c m)))

    module _ {at : ℕ} (p : Placed keys c at) where
      pub meeting_found : at < length keys → true ≡ some_in keys (to_come text from)
      meeting_found h = sym (splits ∙ rw (placed_member p h) refl)

      pub meeting_more : length keys ≤ at → Meeting text keys words from kid₁
      meeting_more h = missing (p.missed h)

pub ruleset meeting = (meeting_start, meeting_ordered, meeting_done, walk_less, meeting_sifted, meeting_found, meeting_more, rules)

-- a sieve of the numbers
pub with_sieve : {keys words : List ℕ} → in_order keys ≡ true → Sieve keys words → Sifting keys words
with_sieve o s = record { in_order_so = o; passes = s }

pub none_later : (text keys : List ℕ) {from : Option ℕ} → from ≡ None → false ≡ some_in keys (to_come text from)
unfolding some_in any
none_later text keys e = sym (ap (some_in keys) (come_done text e))

pub ruleset sieved = (with_sieve, none_later, rules)

-- ---- A part.

module _ (part later : List ℕ) {b : Bool} (q : b ≡ two_of eqb part) where
  pub part_alike : b ≡ true → true ≡ part_twice part later
  unfolding part_twice
  part_alike t = sym (or_first (two_of eqb part) (some_in part later) (sym q ∙ t))

  pub part_later : b ≡ false → {m : Bool} → m ≡ some_in part later → m ≡ part_twice part later
  unfolding part_twice
  part_later f r = r ∙ ap (λ x. x || some_in part later) (sym f ∙ q)

pub ruleset parting = (part_alike, part_later, rules)

-- ---- Part by part.

module _ {codes part : List ℕ} (r : Reordered codes part) (same : (c : ℕ) → member c part ≡ member c codes) (later : List ℕ) where
  in_both : any (λ c. any (eqb c) codes) later ≡ some_in part later
  unfolding some_in
  in_both = any_same (λ c. sym (same c ∙ member_any c codes)) later

  two_parts : two_of eqb (codes ++ later) ≡ (part_twice part later || two_of eqb later)
  unfolding part_twice
  two_parts =
      two_permuted eqb eqb_turned (append_turned codes later) ∙ two_append eqb later codes ∙ rw (in_both, ← two_kept r)
      (round (two_of eqb later) (some_in part later) (two_of eqb part))
    where
      round : (x s k : Bool) → ((x || s) || k) ≡ ((k || s) || x)
      round true s k = sym (or_true (k || s))
      round false true true = refl
      round false true false = refl
      round false false true = refl
      round false false false = refl

pub record Searching (text : List ℕ) (at : ℕ) (work₀ work : List ℕ) (kid : Option ℕ) : Type 0 where
  pub same_answer : twice_at text at ≡ two_of eqb (to_come text kid)
  pub some : 0 < length work
  pub long : length work ≡ length work₀

pub searching_start : (text : List ℕ) (at : ℕ) {work : List ℕ} → 0 < length work → {kid : Option ℕ} → kid ≡ first_label text at
    → Searching text at work work kid
searching_start text at h e = record {
  same_answer = twice_codes text at ∙ ap (two_of eqb) (sym (come_first text at e));
  some = h;
  long = refl;
}

module _ {text : List ℕ} {at : ℕ} {work₀ work : List ℕ} {kid : Option ℕ} (go : Searching text at work₀ work kid) where
  pub searching_none : kid ≡ None → false ≡ twice_at text at
  unfolding two_of
  searching_none e = sym (go.same_answer ∙ ap (two_of eqb) (come_done text e))

  module _ {work₁ : List ℕ} {n : ℕ} {next : Option ℕ} (t : Taken text kid work₁ n next) where
    pub searching_within : n ≤ length work₁
    searching_within = t.inside

    pub searching_ordered : in_order (take n work₁) ≡ true
    searching_ordered = t.ordered

    module _ (l : length work₁ ≡ length work) where
      pub searching_less : {k : ℕ} → kid ≡ Some k → length (to_come text next) < length (to_come text kid)
      searching_less e = let s = go.some in taken_less t e (omega arith)

      module _ {b : Bool} (q : b ≡ part_twice (take n work₁) (to_come text next)) where
        in_parts : twice_at text at ≡ (b || two_of eqb (to_come text next))
        in_parts = go.same_answer ∙ ap (two_of eqb) (sym t.parts) ∙ two_parts t.reordered t.same (to_come text next)
            ∙ ap (λ x. x || two_of eqb (to_come text next)) (sym q)

        pub searching_found : b ≡ true → true ≡ twice_at text at
        searching_found e = sym (in_parts ∙ rw e refl)

        pub searching_on : b ≡ false → Searching text at work₀ work₁ next
        searching_on e = let s = go.some in record { same_answer = in_parts ∙ rw e refl; some = omega arith; long = l ∙ go.long }

pub ruleset searching = (
  searching_start,
  searching_none,
  searching_within,
  searching_ordered,
  searching_less,
  searching_found,
  searching_on,
  rules,
)
