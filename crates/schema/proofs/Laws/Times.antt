-- How often the lines are met.
use Rattle.std.specs.Prelude.{◌≡◌, refl, List, Bool, true, false, ◌||◌, cond, not, ℕ, ◌+◌, ◌-◌, ◌<◌, ◌≤◌, eqb, leb, ltb, get_or, set, length, Option, Some, None}
use Rattle.std.proofs.Common.{ap, ◌∙◌, arith, length-set, get_or-set_same, get_or-set_other, rules}
use Rattle.std.proofs.Math.Path.{sym}
use borrow.Author.Tests.{eqb-true, eqb-false, ltb-true, ltb-false, ne_eqb, lt-ltb, le-ltb, not-true, not-false}
use Rattle.lists.specs.Lists.{all, count_up}
use Rattle.lists.proofs.Laws.Tables.{up_one, up_done}
use Rattle.grammar.specs.Bytes.{ascii}
use Rattle.grammar.specs.Parser.{same_bytes}
use Rattle.grammar.specs.Look.{Word, is, name_of}
use Rattle.nodes.specs.Places.{Stands, the}
use Rattle.schema.specs.Table.{word_at, entry_word, line_cell, watched, watched_word}
use Rattle.schema.specs.Lines.{KindFor, line_name, line_place, kind_next}
use Rattle.schema.specs.Tallied.{stands_by, line_stands, times_by, here_one, watched_name, Counts, Joins, Meets}
use Rattle.std.proofs.lemmas.Option.{some_pair_parts}
use Rattle.lists.proofs.Laws.Booleans.{never_some}
use Rattle.schema.specs.Asked.{Timed, Here, Lined, Counting, Tallying}
use Rattle.schema.specs.declared.Tally.{Tally}
use Rattle.schema.proofs.Laws.Lines.{place_before, place_found, lined_place}

-- SO MANY
module _ (t n : ℕ) (met : Bool) where
  pub stands_once : t ≡ 0 → eqb n 1 ≡ stands_by t n met
  unfolding stands_by
  stands_once e = rw e

  pub stands_most : t ≡ 1 → leb n 1 ≡ stands_by t n met
  unfolding stands_by
  stands_most e = rw e

  pub stands_any : t ≡ 2 → true ≡ stands_by t n met
  unfolding stands_by
  stands_any e = rw e

  pub stands_some : t ≡ 3 → leb 1 n ≡ stands_by t n met
  unfolding stands_by
  stands_some e = rw e

  module _ (p : t ≡ 0 → ⊥) (q : t ≡ 1 → ⊥) (r : t ≡ 2 → ⊥) (s : t ≡ 3 → ⊥) where
    pub stands_needed : met ≡ true → eqb n 1 ≡ stands_by t n met
    unfolding stands_by
    stands_needed e = rw (ne_eqb t 0 p, ne_eqb t 1 q, ne_eqb t 2 r, ne_eqb t 3 s, e)

    pub stands_free : met ≡ false → leb n 1 ≡ stands_by t n met
    unfolding stands_by
    stands_free e = rw (ne_eqb t 0 p, ne_eqb t 1 q, ne_eqb t 2 r, ne_eqb t 3 s, e)

pub ruleset standing = (stands_once, stands_most, stands_any, stands_some, stands_needed, stands_free, rules)

-- EACH LINE
pub record Timing (t : List ℕ) (from to : ℕ) (counts : List ℕ) (met : Bool) (i : ℕ) : Type 0 where
  pub timed : Timed from to
  pub behind : from ≤ i
  pub same_times : times_by t from to counts met ≡ all (line_stands t from counts met) (count_up (λ i. i) i (to - i))

pub timing_start : (t : List ℕ) {from to : ℕ} (counts : List ℕ) (met : Bool) → Timed from to → Timing t from to counts met from
unfolding times_by
timing_start t counts met h = record { timed = h; behind = omega arith; same_times = refl }

module _ {t : List ℕ} {from to : ℕ} {counts : List ℕ} {met : Bool} {i : ℕ} (go : Timing t from to counts met i) where
  pub timing_end : to ≤ i → true ≡ times_by t from to counts met
  unfolding all
  timing_end h = sym (go.same_times ∙ rw (up_done (λ i. i) i to h))

  module _ (h : i < to) where
    pub timing_known : i ≤ 4294967304
    timing_known = let s = go.timed.small in omega arith

    pub timing_room : i + 1 < 18446744073709551616
    timing_room = let s = go.timed.small in omega arith

    pub timing_place : i - from < 8
    timing_place = let s = go.timed.few in omega (arith, go.behind)

    pub timing_behind : from ≤ i
    timing_behind = go.behind

    module _ {x : ℕ} (e : x ≡ line_cell t i 1) {b : Bool} (s : b ≡ stands_by x (get_or counts (i - from) 0) met) where
      right : b ≡ line_stands t from counts met i
      unfolding line_stands
      right = s ∙ rw e

      pub timing_wrong : not b ≡ true → false ≡ times_by t from to counts met
      unfolding all
      timing_wrong n = sym (go.same_times ∙ rw (up_one (λ i. i) i to h, sym right ∙ not-true b n))

      pub timing_on : not b ≡ false → Timing t from to counts met (i + 1)
      unfolding all
      timing_on n = record {
        timed = go.timed;
        behind = omega (arith, go.behind);
        same_times = go.same_times
            ∙ rw (up_one (λ i. i) i to h, sym right ∙ not-false b n);
      }

pub ruleset timing = (timing_start, timing_end, timing_known, timing_room, timing_place, timing_behind, timing_wrong, timing_on, rules)

-- ONE MORE
module _ {t l : List ℕ} {name : Word} {line i : ℕ} (p : Here t l name line i) where
  pub here_found : i ≡ line → 1 ≡ here_one t l i name
  unfolding here_one
  here_found e = rw (e, p.named)

  pub here_known : i < 4294967304
  here_known = p.known

  module _ {c : ℕ} (ce : c ≡ line_cell t i 0) {x : List ℕ} (e : x ≡ ascii (word_at t l c)) {b : Bool} (f : b ≡ same_bytes name x) where
    here_is : b ≡ is (line_name t l i) name
    unfolding entry_word is
    here_is = f ∙ rw (e, ce)

    pub here_yes : b ≡ true → 1 ≡ here_one t l i name
    unfolding here_one
    here_yes k = rw (sym here_is ∙ k)

    pub here_no : b ≡ false → 0 ≡ here_one t l i name
    unfolding here_one
    here_no k = rw (sym here_is ∙ k)

pub ruleset hereabout = (here_found, here_known, here_yes, here_no, rules)

pub watched_is : (t l : List ℕ) (name : Word) {c : ℕ} → c ≡ get_or t 7 0 → {x : List ℕ} → x ≡ ascii (word_at t l c) → {b : Bool}
    → b ≡ same_bytes name x → b ≡ watched_name t l name
unfolding watched_name watched_word watched is
watched_is t l name ce e f = f ∙ rw (e, ce)

pub ruleset watching = (watched_is, rules)

here_most : (t l : List ℕ) (i : ℕ) (w : Word) → here_one t l i w ≤ 1
unfolding here_one
here_most t l i w = go (is (line_name t l i) w)
  where
    go : (b : Bool) → cond b 1 0 ≤ 1
    go true = omega arith
    go false = omega arith

here_none : (t l : List ℕ) (i : ℕ) (w : Word) → is (line_name t l i) w ≡ false → here_one t l i w ≡ 0
unfolding here_one
here_none t l i w h = rw h

-- the counts of lines before i have one more
pub record Raised (one : ℕ → ℕ) (from i : ℕ) (a b : List ℕ) : Type 0 where
  pub size : length b ≡ 8
  pub raised : (p : ℕ) → get_or b p 0 ≡ get_or a p 0 + cond (ltb (from + p) i) (one (from + p)) 0

raised_start : (one : ℕ → ℕ) (from i : ℕ) (a : List ℕ) → length a ≡ 8 → ((p : ℕ) → from + p < i → one (from + p) ≡ 0)
    → Raised one from i a a
raised_start one from i a h none = record { size = h; raised = λ p. by p (ltb (from + p) i) refl }
  where
    by : (p : ℕ) (b : Bool) → ltb (from + p) i ≡ b → get_or a p 0 ≡ get_or a p 0 + cond (ltb (from + p) i) (one (from + p)) 0
    by p true e = rw (e, none p (ltb-true (from + p) i e)) (let z : get_or a p 0 ≡ get_or a p 0 + 0 = omega arith in z)
    by p false e = rw e (let z : get_or a p 0 ≡ get_or a p 0 + 0 = omega arith in z)

module _ {one : ℕ → ℕ} {from i : ℕ} {a b : List ℕ} (go : Raised one from i a b) (u : from ≤ i) where
  raised_here : get_or b (i - from) 0 ≡ get_or a (i - from) 0
  raised_here =
      let z : from + (i - from) ≡ i = omega arith in
      go.raised (i - from) ∙ rw (z, le-ltb i i (omega arith)) (let y : get_or a (i - from) 0 + 0 ≡ get_or a (i - from) 0 = omega arith in y)

  raised_on : i - from < 8 → {n : ℕ} → n ≡ one i → Raised one from (i + 1) a (set b (i - from) (get_or b (i - from) 0 + n))
  raised_on few {n} e = record { size = length-set b _ _ ∙ go.size; raised = λ p. at p (eqb p (i - from)) refl }
    where
      at : (p : ℕ) (o : Bool) → eqb p (i - from) ≡ o
          → get_or (set b (i - from) (get_or b (i - from) 0 + n)) p 0 ≡ get_or a p 0 + cond (ltb (from + p) (i + 1)) (one (from + p)) 0
      at p true k =
          let z : p ≡ i - from = eqb-true p (i - from) k in
          let y : from + p ≡ i = omega arith in
          let w : i - from < length b = omega (arith, go.size) in
          rw (z) (get_or-set_same b (i - from) (get_or b (i - from) 0 + n) 0 w ∙ rw (raised_here, e, ← z, y, lt-ltb i (i + 1) (omega arith)))
      at p false k =
          let z : (p ≡ i - from → ⊥) = eqb-false p (i - from) k in
          get_or-set_other b (i - from) p (get_or b (i - from) 0 + n) 0 z ∙ go.raised p
          ∙ ap (λ o. get_or a p 0 + cond o (one (from + p)) 0) (same_side p z)
        where
          same_side : (p : ℕ) → (p ≡ i - from → ⊥) → ltb (from + p) i ≡ ltb (from + p) (i + 1)
          same_side p z = by (ltb (from + p) i) refl
            where
              by : (o : Bool) → ltb (from + p) i ≡ o → ltb (from + p) i ≡ ltb (from + p) (i + 1)
              by true q = q ∙ sym (lt-ltb (from + p) (i + 1) (omega (arith, ltb-true (from + p) i q)))
              by false q = q ∙ sym (le-ltb (from + p) (i + 1) (let r = ltb-false (from + p) i q in omega arith))

most : {one : ℕ → ℕ} {from i : ℕ} {a b : List ℕ} → ((j : ℕ) → one j ≤ 1) → Raised one from i a b → (p : ℕ) → get_or b p 0 ≤ get_or a p 0 + 1
most {one} {from} {i} {a} {b} u r p = go (ltb (from + p) i) (r.raised p)
  where
    go : (o : Bool) → get_or b p 0 ≡ get_or a p 0 + cond o (one (from + p)) 0 → get_or b p 0 ≤ get_or a p 0 + 1
    go true e = let z = u (from + p) in omega arith
    go false e = omega arith

pub record Raising (t l : List ℕ) (name : Word) (from line to : ℕ) (tally more : Tally) (i : ℕ) : Type 0 where
  pub asks : Counting t l name from line to tally.counts
  pub behind : line ≤ i
  pub heres : Raised (λ i. here_one t l i name) from i tally.counts more.counts
  pub seen_same : more.seen ≡ tally.seen
  pub met_same : more.met ≡ tally.met

module _ {t l : List ℕ} {name : Word} {from line to : ℕ} {counts : List ℕ} (p : Counting t l name from line to counts) where
  counting_behind : from ≤ line
  counting_behind = omega (arith, p.line_is)

  nothing_before : (q : ℕ) → from + q < line → here_one t l (from + q) name ≡ 0
  nothing_before q h = here_none t l (from + q) name (place_before (line_name t l) name (to - from) from q (omega (arith, p.line_is)))

  line_named : is (line_name t l line) name ≡ true
  line_named = rw p.line_is (place_found (line_name t l) name (to - from) from (let a = p.line_is in let b = p.inside in omega arith))

pub raising_start : {t l : List ℕ} {name : Word} {from line to : ℕ} {tally : Tally} → Counting t l name from line to tally.counts
    → Raising t l name from line to tally tally line
raising_start {tally = tally} p = record {
  asks = p;
  behind = omega arith;
  heres = raised_start _ _ _ tally.counts p.roomy.size (nothing_before p);
  seen_same = refl;
  met_same = refl;
}

module _ {t l : List ℕ} {name : Word} {from line to : ℕ} {tally more : Tally} {i : ℕ} (go : Raising t l name from line to tally more i)
  where
    pub raising_behind : from ≤ i
    raising_behind = let a = counting_behind go.asks in omega (arith, go.behind)

    pub raising_line : from ≤ line
    raising_line = counting_behind go.asks

    module _ (h : i < to) where
      pub raising_place : i - from < 8
      raising_place = let s = go.asks.timed.few in let a = raising_behind in omega arith

      pub raising_next : i + 1 < 18446744073709551616
      raising_next = let s = go.asks.timed.small in omega arith

      pub raising_here : Here t l name line i
      raising_here = record { named = line_named go.asks; known = let s = go.asks.timed.small in omega arith }

      module _ {n : ℕ} (en : n ≡ here_one t l i name) where
        pub raising_room : get_or more.counts (i - from) 0 + n < 18446744073709551616
        raising_room = let a = raised_here go.heres raising_behind in let b = go.asks.roomy.room (i - from) in let c =
            here_most t l i name in omega arith

        pub raising_on : Raising t l name from line to tally
            (record {
              counts = set more.counts (i - from) (get_or more.counts (i - from) 0 + n);
              place = more.place;
              seen = more.seen;
              met = more.met;
            }) (i + 1)
        raising_on = record {
          asks = go.asks;
          behind = omega (arith, go.behind);
          heres = raised_on go.heres raising_behind raising_place en;
          seen_same = go.seen_same;
          met_same = go.met_same;
        }

    pub raising_end : to ≤ i → {b : Bool} → b ≡ watched_name t l name
        → Counts t l name from line to tally (record { counts = more.counts; place = line - from; seen = more.seen || b; met = more.met })
    raising_end h e = record {
      more = record {
        size = go.heres.size;
        counted = λ p q. go.heres.raised p ∙ rw (lt-ltb (from + p) i (omega arith));
        room = λ p. most (λ j. here_most t l j name) go.heres p;
        seen_is = rw (go.seen_same, e);
        met_is = go.met_same;
      };
      place_is = refl;
    }

pub ruleset raising = (
  raising_start,
  raising_behind,
  raising_line,
  raising_place,
  raising_next,
  raising_here,
  raising_room,
  raising_on,
  raising_end,
  rules,
)

-- A CHILD
module _ {t text : List ℕ} {at kind from to : ℕ} {counts : List ℕ} (p : Tallying t text at kind from to counts) where
  pub meeting_stands : Stands text at
  meeting_stands = p.stands

  pub meeting_small : to ≤ 4294967304
  meeting_small = p.timed.small

  module _ (l : List ℕ) {name : Word} {line : ℕ} (e : line ≡ from + line_place t l name from (to - from)) where
    pub meeting_lined : name ≡ name_of (the text at) → Lined t l text at kind from line to
    meeting_lined n =
        record { stands = p.stands; known = p.known; starts = p.starts; ends = p.ends; timed = p.timed; line_is = e ∙ rw n }

    pub meeting_counting : {r o : Option ℕ} → KindFor r line to o → {inner : ℕ} → r ≡ Some inner → Counting t l name from line to counts
    meeting_counting k h = record { timed = p.timed; inside = k.inside h; line_is = e; roomy = p.roomy }

module _ {t text : List ℕ} {at kind from to : ℕ} {tally : Tally} (p : Tallying t text at kind from to tally.counts) (l : List ℕ)
    {line : ℕ} {r : Option ℕ} (k : KindFor r line to (kind_next t l kind tally.place (the text at))) where
  pub meeting_none : r ≡ None → Meets t l kind from to (the text at) tally None
  meeting_none h = record { joins = λ e. never_some e; none = λ _. sym k.read.same ∙ h }

  pub meeting_counted : {inner : ℕ} → r ≡ Some inner → {name : Word} → name ≡ name_of (the text at)
      → line ≡ from + line_place t l name from (to - from) → {b : Tally} → Counts t l name from line to tally b
      → Meets t l kind from to (the text at) tally (Some (inner, b))
  meeting_counted {inner} h n e {b} c = record {
    joins = λ q. (let (z, y) = some_pair_parts _ _ _ _ q in rw (z, y) at joined);
    none = λ q. never_some (sym q);
  }
    where
      joined : Joins t l kind from to (the text at) tally inner b
      joined = record {
        kind_is = sym k.read.same ∙ h;
        small = k.read.small h;
        more = rw (← n) c.more;
        place_is = c.place_is ∙ sym (lined_place (meeting_lined p l e n));
      }

pub ruleset meeting = (meeting_stands, meeting_small, meeting_lined, meeting_none, meeting_counting, meeting_counted, rules)
