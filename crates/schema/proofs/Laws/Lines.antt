-- The turns of the functions on the lines of children.
use Rattle.std.specs.Prelude.{◌≡◌, List, Bool, leb, ltb, length, drop, Option, Some, None, ℕ}
use Rattle.std.proofs.Math.Path.{refl, sym}
use Rattle.std.proofs.Common.{ap, ◌∙◌, drop-drop, rules}
use Rattle.std.proofs.Math.Bool.{true, false, not, cond}
use Prim.Native.Nat.{ℕ, zero, suc, ◌+◌, ◌-◌, ◌<◌, ◌≤◌}
use Prim.Native.String.{String}
use native.Mathlib.Omega.{arith}
use borrow.Author.Tests.{ltb-true, ltb-false, lt-ltb, le-ltb, le-leb, lt-leb}
use Rattle.lists.specs.Lists.{count_up}
use Rattle.lists.proofs.Laws.Tables.{up_one, up_done}
use Rattle.grammar.specs.Bytes.{ascii}
use Rattle.grammar.specs.Document.{Element}
use Rattle.grammar.specs.Look.{Word, is, name_of, value_in, attributes_of}
use Rattle.grammar.specs.Parser.{same_bytes, name_at}
use Rattle.grammar.specs.Read.{got}
use Rattle.steps.specs.Step.{stepped, Went}
use Rattle.steps.proofs.Laws.Step.{fell, went}
use Rattle.steps.proofs.Laws.Leaves.{name_tails}
use Rattle.steps.specs.Noted.{part}
use Rattle.schema.specs.Schema.{Case, row_place, kind_of, kind_by, kind_chosen, kind_among, or_else}
use Rattle.nodes.specs.Places.{Stands, the}
use Rattle.nodes.proofs.Laws.ReadSteps.{spelled}
use Rattle.nodes.proofs.Laws.Names.{ending_name}
use Rattle.nodes.specs.Attributes.{place}
use Rattle.nodes.specs.Values.{value_there}
use Rattle.nodes.proofs.Laws.Names.{part_is}
use Rattle.schema.specs.Words.{number_in}
use Rattle.schema.specs.Table.{word_at, entry_word, line_cell, choice_cell, case_cell, case_at, cases_of, choice_by, line_at, lines_of_kind}
use Rattle.schema.specs.Table.{order_at, kind_cell, which_at, which_by}
use Rattle.schema.specs.Lines.{KindRead, KindFor, kind_or_none, else_by, in_turn, line_place, kind_next}
use Rattle.std.specs.Option.{SomeIff, option_or}
use Rattle.std.proofs.lemmas.Option.{same_Some}
use Rattle.lists.proofs.Laws.Booleans.{never_some}
use Rattle.schema.specs.Asked.{Known, TurnAsked, Lined}
use Rattle.schema.proofs.Laws.Asked.{known_small}
use Rattle.schema.proofs.Laws.Searches.{less_suc}
use Rattle.schema.proofs.Laws.Attributes.{found_none, found_some}

-- THE NAME OF AN ELEMENT
module _ {text : List ℕ} {at : ℕ} (st : Stands text at) where
  named_reads : (r : List ℕ) × (name_at (drop (at + 1) text) ≡ got (name_of (the text at)) r)
  named_reads =
      let p = spelled (drop at text) (the text at) st.rest st.reads in
      let q : drop (at + 1) text ≡ p.behind_open = sym (drop-drop 1 at text) ∙ ap (drop 1) p.opens in
      (p.behind_name, rw (q, ending_name p.ending) p.names)

  pub name_place : at + 1 ≤ length text
  name_place = let h = st.here in omega arith

  module _ {x : Option ℕ} (ex : x ≡ stepped (length text) (name_at (drop (at + 1) text))) where
    walked : {e : ℕ} → x ≡ Some e → Went name_at text (at + 1) e
    walked {e} w = went name_at text (at + 1) e (name_tails (drop (at + 1) text)) (sym w ∙ ex)

    pub name_ahead : {e : ℕ} → x ≡ Some e → at + 1 ≤ e
    name_ahead w = (walked w).ahead name_place

    pub name_inside : {e : ℕ} → x ≡ Some e → e ≤ length text
    name_inside w = (walked w).inside

    pub name_there : {e : ℕ} → x ≡ Some e → {r : List ℕ} → r ≡ part (at + 1) e text → r ≡ name_of (the text at)
    name_there w k =
        let o = walked w in
        let a = o.reads in
        let b = named_reads.1 in
        let z : o.value ≡ name_of (the text at) = cc in
        k ∙ part_is o name_place ∙ z

    pub name_never : x ≡ None → {r : List ℕ} → r ≡ name_of (the text at)
    name_never w =
        let f = fell (length text) (name_at (drop (at + 1) text)) (sym w ∙ ex) in
        let b = named_reads.1 in
        let z : ◌≡◌ {A = ℕ} 0 1 = cc in absurd (omega arith)

pub ruleset naming_element = (name_place, name_ahead, name_inside, name_there, name_never, rules)

-- THE LINE OF A CHILD
place_is : (t l : List ℕ) (e : Element) (n i : ℕ) → row_place (count_up (line_at t l) i n) e ≡ line_place t l (name_of e) i n
unfolding row_place count_up line_at number_in entry_word
place_is t l e zero i = refl
place_is t l e (suc n) i = ap (λ p. cond (is (word_at t l (line_cell t i 0)) (name_of e)) 0 (suc p)) (place_is t l e n (suc i))

-- none before the place found has the name, and it has
module _ (f : ℕ → String) (w : Word) where
  pub place_before : (n i j : ℕ) → j < number_in (count_up f i n) w → is (f (i + j)) w ≡ false
  unfolding number_in count_up
  place_before zero i j h = absurd (omega arith)
  place_before (suc n) i j h = go (is (f i) w) refl (λ k. place_before n (suc i) k) j h
    where
      go : (b : Bool) → is (f i) w ≡ b → ((k : ℕ) → k < number_in (count_up f (suc i) n) w → is (f (suc i + k)) w ≡ false)
          → (j : ℕ) → j < cond b 0 (suc (number_in (count_up f (suc i) n) w)) → is (f (i + j)) w ≡ false
      go true e g j h = absurd (omega arith)
      go false e g zero h = let z : i + 0 ≡ i = omega arith in rw z e
      go false e g (suc j) h = let z : i + suc j ≡ suc i + j = omega arith in rw z (g j (omega arith))

  pub place_found : (n i : ℕ) → number_in (count_up f i n) w < n → is (f (i + number_in (count_up f i n) w)) w ≡ true
  unfolding number_in count_up
  place_found zero i h = absurd (omega arith)
  place_found (suc n) i h = go (is (f i) w) refl (place_found n (suc i)) h
    where
      go : (b : Bool) → is (f i) w ≡ b
          → (number_in (count_up f (suc i) n) w < n → is (f (suc i + number_in (count_up f (suc i) n) w)) w ≡ true)
          → cond b 0 (suc (number_in (count_up f (suc i) n) w)) < suc n
          → is (f (i + cond b 0 (suc (number_in (count_up f (suc i) n) w)))) w ≡ true
      go true e g h = let z : i + 0 ≡ i = omega arith in rw z e
      go false e g h =
          let z : i + suc (number_in (count_up f (suc i) n) w) ≡ suc i + number_in (count_up f (suc i) n) w = omega arith in
          rw z (g (omega arith))

-- A CHOSEN KIND
pub kind_some : (c : ℕ) → c < 4294967296 → kind_or_none c ≡ Some c
unfolding kind_or_none
kind_some c h = rw (lt-ltb c 4294967296 h)

pub kind_none : (c : ℕ) → 4294967296 ≤ c → kind_or_none c ≡ None
unfolding kind_or_none
kind_none c h = rw (le-ltb c 4294967296 h)

-- the kind at a line, by its number
pub is_kind : (c : ℕ) {line to : ℕ} {r o : Option ℕ} → r ≡ kind_or_none c → KindFor r line to o → kind_or_none c ≡ o
is_kind c e k = sym e ∙ k.read.same

read_some : {o : Option ℕ} {c : ℕ} → Some c ≡ o → c < 4294967296 → KindRead (Some c) o
read_some h u = record { same = h; small = λ e. (let z = same_Some _ _ e in rw z at u) }

read_none : {o : Option ℕ} → None ≡ o → KindRead None o
read_none h = record { same = h; small = λ e. never_some e }

reread : {r o p : Option ℕ} → KindRead r o → o ≡ p → KindRead r p
reread k e = record { same = k.same ∙ e; small = k.small }

pub record Choosing (t l : List ℕ) (x : Word) (from to i : ℕ) : Type 0 where
  pub same_kind : kind_among (count_up (case_at t l) from (to - from)) x ≡ kind_among (count_up (case_at t l) i (to - i)) x

pub choosing_start : (t l : List ℕ) (x : Word) (from to : ℕ) → Choosing t l x from to from
choosing_start t l x from to = record { same_kind = refl }

module _ {t l : List ℕ} {x : Word} {from to i : ℕ} (go : Choosing t l x from to i) where
  pub choosing_end : to ≤ i → KindRead None (kind_among (count_up (case_at t l) from (to - from)) x)
  unfolding kind_among
  choosing_end h = read_none (sym (go.same_kind ∙ rw (up_done (case_at t l) i to h)))

  module _ (h : i < to) {c : ℕ} (ce : c ≡ case_cell t i 0) {w : List ℕ} (e : w ≡ ascii (word_at t l c)) {b : Bool}
      (n : b ≡ same_bytes x w) where
    said : b ≡ is (word_at t l (case_cell t i 0)) x
    unfolding is
    said = n ∙ rw (e, ce)

    pub choosing_hit : b ≡ true → {k : ℕ} → k ≡ case_cell t i 1 → k < 4294967296
        → KindRead (Some k) (kind_among (count_up (case_at t l) from (to - from)) x)
    unfolding kind_among case_at
    choosing_hit o {k} f u = read_some (sym (go.same_kind ∙ rw (up_one (case_at t l) i to h, sym said ∙ o, f))) u

    pub choosing_on : b ≡ false → Choosing t l x from to (i + 1)
    unfolding kind_among case_at
    choosing_on o = record { same_kind = go.same_kind ∙ rw (up_one (case_at t l) i to h, sym said ∙ o) }

pub ruleset choosing_kind = (choosing_start, choosing_end, choosing_hit, choosing_on, rules)

module _ (t l : List ℕ) {text : List ℕ} {at c : ℕ} (p : Known text at c) {w : ℕ} (ew : w ≡ choice_cell t c 0) {x : List ℕ}
    (ex : x ≡ ascii (word_at t l w)) {f : Option ℕ} (a : f ≡ place text at x) where
  abbrev by_choice : Option ℕ
  by_choice = kind_chosen (cases_of t l c) (value_in (word_at t l (choice_cell t c 0)) (attributes_of (the text at)))

  spelt : x ≡ ascii (word_at t l (choice_cell t c 0))
  spelt = ex ∙ rw ew

  pub chosen_missing : f ≡ None → KindRead None by_choice
  unfolding kind_chosen
  chosen_missing e = read_none (rw (found_none p.stands (word_at t l (choice_cell t c 0)) spelt a e) refl)

  pub chosen_there : {v : ℕ} → f ≡ Some v → {from : ℕ} → from ≡ choice_cell t c 1 → {to : ℕ} → to ≡ choice_cell t c 2
      → (r : Option ℕ) → KindRead r (kind_among (count_up (case_at t l) from (to - from)) (value_there text v)) → KindRead r by_choice
  unfolding kind_chosen cases_of
  chosen_there e g h r k = reread k (rw (found_some p.stands (word_at t l (choice_cell t c 0)) spelt a e, g, h) refl)

pub ruleset by_word_lem = (chosen_missing, chosen_there, known_small, rules)

-- OR ELSE ANOTHER
other : (k m : Option ℕ) (o : ℕ) → SomeIff m (1 ≤ o) (o - 1) → option_or k m ≡ else_by o k
unfolding else_by or_else
other (Some x) m zero h = refl
other (Some x) m (suc o) h = refl
other None None zero h = refl
other None (Some y) zero h = absurd (omega (arith, h.0))
other None None (suc o) h = absurd (h (omega arith))
other None (Some y) (suc o) h = ap Some (omega (arith, h.1))

module _ (t : List ℕ) (c k : ℕ) {o : ℕ} (e : o ≡ choice_cell t c 3) where
  pub else_none : o ≡ 0 → kind_or_none k ≡ else_by (choice_cell t c 3) (kind_or_none k)
  unfolding else_by
  else_none z = rw (← e, z)

  else_is : (o ≡ 0 → ⊥) → (x : Option ℕ) → else_by o x ≡ or_else (o - 1) x
  unfolding else_by
  else_is n x = go o n
    where
      go : (o : ℕ) → (o ≡ 0 → ⊥) → else_by o x ≡ or_else (o - 1) x
      go zero n = absurd (n refl)
      go (suc o) n = let z : suc o - 1 ≡ o = omega arith in rw z

  module _ (n : o ≡ 0 → ⊥) where
    pub else_first : k < 4294967296 → kind_or_none k ≡ else_by (choice_cell t c 3) (kind_or_none k)
    unfolding or_else
    else_first h = sym (rw (← e) (else_is n (kind_or_none k) ∙ rw (kind_some k h)))

    pub else_other : 4294967296 ≤ k → o < 4294967296 → kind_or_none (o - 1) ≡ else_by (choice_cell t c 3) (kind_or_none k)
    unfolding or_else
    else_other h u = kind_some (o - 1) (omega arith) ∙ sym (rw (← e) (else_is n (kind_or_none k) ∙ rw (kind_none k h)))

pub ruleset or_else_lem = (else_none, else_first, else_other, rules)

-- THE KIND OF A LINE
kind_else : (n : ℕ) (a : String) (l : List (Case ℕ)) (e : Element)
    → kind_by (choice_by n a l) e ≡ else_by n (kind_chosen l (value_in a (attributes_of e)))
unfolding kind_by choice_by else_by
kind_else zero a l e = refl
kind_else (suc n) a l e = refl

which_chosen : (t l : List ℕ) (c k : ℕ) (e : Element) → (c ≡ 0 → ⊥) → kind_by (which_by t l c k) e
    ≡ else_by (choice_cell t (c - 1) 3) (kind_chosen (cases_of t l (c - 1)) (value_in (word_at t l (choice_cell t (c - 1) 0)) (attributes_of e)))
unfolding which_by
which_chosen t l zero k e h = absurd (h refl)
which_chosen t l (suc c) k e h =
    let z : suc c - 1 ≡ c = omega arith in rw z (kind_else (choice_cell t c 3) (word_at t l (choice_cell t c 0)) (cases_of t l c) e)

module _ (t l : List ℕ) {text : List ℕ} {at line : ℕ} (p : Known text at line) {c : ℕ} (ec : c ≡ line_cell t line 2) where
  pub line_always : c ≡ 0 → {k : ℕ} → k ≡ line_cell t line 3 → k < 4294967296
      → KindRead (Some k) (kind_by (which_at t l line) (the text at))
  unfolding which_at which_by kind_by
  line_always z {k} e h = read_some (rw (← ec, z, e) refl) h

  module _ (n : c ≡ 0 → ⊥) where
    pub line_choice : c < 4294967296 → Known text at (c - 1)
    line_choice u = record { stands = p.stands; known = omega arith }

    pub line_small : c < 4294967296 → c - 1 < 4294967304
    line_small u = omega arith

    pub line_chosen : {k : Option ℕ}
        → KindRead k (kind_chosen (cases_of t l (c - 1)) (value_in (word_at t l (choice_cell t (c - 1) 0)) (attributes_of (the text at))))
        → {o : ℕ} → o ≡ choice_cell t (c - 1) 3 → o < 4294967296 → (m : Option ℕ) → SomeIff m (1 ≤ o) (o - 1)
        → {r : Option ℕ} → r ≡ option_or k m → KindRead r (kind_by (which_at t l line) (the text at))
    unfolding which_at
    line_chosen {k} q {o} eo u m h {r} e = record {
      same = e ∙ other k m o h ∙ rw (eo, q.same) (sym (rw (← ec) (which_chosen t l c (line_cell t line 3) (the text at) n)));
      small = λ z. by k (λ i. q.small) m h (sym e ∙ z);
    }
      where
        by : (k : Option ℕ) → ((i : ℕ) → k ≡ Some i → i < 4294967296) → (m : Option ℕ) → SomeIff m (1 ≤ o) (o - 1) → {i : ℕ}
            → option_or k m ≡ Some i → i < 4294967296
        by (Some x) q m h z = q _ z
        by None q None h z = never_some z
        by None q (Some y) h z = let e = same_Some _ _ z in omega (arith, h.1, e, u)

pub ruleset of_line = (line_always, line_choice, line_small, line_chosen, known_small, rules)

-- IN TURN
module _ (t : List ℕ) {kind from line : ℕ} (p : TurnAsked kind from line) {o : ℕ} (e : o ≡ kind_cell t kind 5) where
  pub turn_free : (last : ℕ) → o ≡ 0 → false ≡ not (in_turn (order_at t kind) last (line - from))
  unfolding order_at in_turn
  turn_free last z = rw (← e, z)

  in_order_lem : (o : ℕ) → (o ≡ 0 → ⊥) → (last : ℕ) → in_turn o last (line - from) ≡ leb last (line - from)
  unfolding in_turn
  in_order_lem zero n last = absurd (n refl)
  in_order_lem (suc o) n last = refl

  turned : (a b : ℕ) → ltb a b ≡ not (leb b a)
  turned a b = go (ltb a b) refl
    where
      go : (x : Bool) → ltb a b ≡ x → ltb a b ≡ not (leb b a)
      go true h = h ∙ sym (rw (lt-leb b a (ltb-true a b h)))
      go false h = h ∙ sym (rw (le-leb b a (ltb-false a b h)))

  pub turn_tested : (last : ℕ) → (o ≡ 0 → ⊥) → ltb (line - from) last ≡ not (in_turn (order_at t kind) last (line - from))
  unfolding order_at
  turn_tested last n = turned (line - from) last ∙ sym (rw (← e) (ap not (in_order_lem o n last)))

pub turning_known : {kind from line : ℕ} → TurnAsked kind from line → kind < 4294967304
turning_known p = p.known

pub turning_behind : {kind from line : ℕ} → TurnAsked kind from line → from ≤ line
turning_behind p = p.behind

pub ruleset turning = (turn_free, turn_tested, turning_known, turning_behind, rules)

-- THE KIND OF A CHILD
kind_place_lem : (t l : List ℕ) (e : Element) (n i : ℕ)
    → kind_of (count_up (line_at t l) i n) e
    ≡ cond (ltb (line_place t l (name_of e) i n) n) (kind_by (which_at t l (i + line_place t l (name_of e) i n)) e) None
unfolding kind_of count_up line_at number_in entry_word
kind_place_lem t l e zero i = refl
kind_place_lem t l e (suc n) i =
    go (is (word_at t l (line_cell t i 0)) (name_of e)) (line_place t l (name_of e) (suc i) n) (kind_place_lem t l e n (suc i))
  where
    go : (b : Bool) (p : ℕ) → kind_of (count_up (line_at t l) (suc i) n) e ≡ cond (ltb p n) (kind_by (which_at t l (suc i + p)) e) None
        → cond b (kind_by (which_at t l i) e) (kind_of (count_up (line_at t l) (suc i) n) e)
        ≡ cond (ltb (cond b 0 (suc p)) (suc n)) (kind_by (which_at t l (i + cond b 0 (suc p))) e) None
    go true p h = let z : i + 0 ≡ i = omega arith in rw (z, lt-ltb 0 (suc n) (omega arith))
    go false p h = let z : i + suc p ≡ suc i + p = omega arith in h ∙ rw (z, less_suc p n)

none_either : {A : Type 0} (b : Bool) → ◌≡◌ {A = Option A} (cond b None None) None
none_either true = refl
none_either false = refl

module _ {t l text : List ℕ} {at kind from line to : ℕ} (p : Lined t l text at kind from line to) where
  spot : ℕ
  spot = line_place t l (name_of (the text at)) from (to - from)

  at_line : line ≡ from + spot
  unfolding spot
  at_line = p.line_is

  pub lined_place : row_place (lines_of_kind t l kind) (the text at) ≡ line - from
  unfolding lines_of_kind
  lined_place =
      let a = p.line_is in
      let z : line - from ≡ line_place t l (name_of (the text at)) from (to - from) = omega arith in
      rw (← p.starts, ← p.ends, z) (place_is t l (the text at) (to - from) from)

  kind_is : kind_of (lines_of_kind t l kind) (the text at) ≡ cond (ltb spot (to - from)) (kind_by (which_at t l line) (the text at)) None
  unfolding lines_of_kind spot
  kind_is = rw (at_line, ← p.starts, ← p.ends) (kind_place_lem t l (the text at) (to - from) from)

  pub lined_none : to ≤ line → (last : ℕ) → kind_next t l kind last (the text at) ≡ None
  unfolding kind_next
  lined_none h last =
      let z : to - from ≤ spot = omega (arith, at_line) in
      rw (kind_is, le-ltb spot (to - from) z) (none_either (in_turn (order_at t kind) last (row_place (lines_of_kind t l kind) (the text at))))

  pub child_none : to ≤ line → (last : ℕ) → KindFor None line to (kind_next t l kind last (the text at))
  child_none h last = record { read = read_none (sym (lined_none h last)); inside = λ e. never_some e }

  pub lined_behind : from ≤ line
  lined_behind = omega (arith, at_line)

  module _ (h : line < to) where
    inside : spot < to - from
    inside = omega (arith, at_line)

    pub child_turning : TurnAsked kind from line
    child_turning = record { known = p.known; behind = lined_behind }

    pub child_of_line : Known text at line
    child_of_line = record { stands = p.stands; known = let s = p.timed.small in omega arith }

    module _ {b : Bool} (last : ℕ) (e : b ≡ not (in_turn (order_at t kind) last (line - from))) where
      turn_is : in_turn (order_at t kind) last (row_place (lines_of_kind t l kind) (the text at)) ≡ not b
      turn_is = rw lined_place (go (in_turn (order_at t kind) last (line - from)) e)
        where
          go : (x : Bool) → b ≡ not x → x ≡ not b
          go true q = rw q
          go false q = rw q

      pub child_late : b ≡ true → KindFor None line to (kind_next t l kind last (the text at))
      unfolding kind_next
      child_late k = record { read = read_none (sym (rw (turn_is, k) refl)); inside = λ e. never_some e }

      pub child_some : b ≡ false → (r : Option ℕ) → KindRead r (kind_by (which_at t l line) (the text at))
          → KindFor r line to (kind_next t l kind last (the text at))
      unfolding kind_next
      child_some k r q = record {
        read = reread q (sym (rw (turn_is, k) (kind_is ∙ rw (lt-ltb spot (to - from) inside) refl)));
        inside = λ _. h;
      }

pub ruleset of_child = (child_none, child_turning, child_of_line, child_late, child_some, rules)
