-- The turns of the walk over an element's children.
use Rattle.std.specs.Prelude.{◌≡◌, List, [], ◌∷◌, Bool, ◌||◌, ◌&&◌, cond, ℕ, zero, suc, ◌+◌, ◌-◌, ◌<◌, ◌≤◌, eqb, leb, get_or, length, drop, Option, None, Some}
use Rattle.std.proofs.Math.Path.{refl, ap, sym}
use Rattle.std.proofs.Common.{◌∙◌, true≢false, ne_eqb, leb-true, rules}
use Rattle.std.proofs.Math.Bool.{true, false, not}
use native.Mathlib.Omega.{arith}
use Rattle.lists.specs.Lists.{all, any, count}
use Rattle.lists.proofs.Laws.Booleans.{and_true, and_false, or_false, never_some}
use Rattle.grammar.specs.Document.{Element}
use Rattle.grammar.specs.Look.{Word, elements, contents_of, text_of}
use Rattle.schema.specs.Schema.{kind_of, row_place}
use Rattle.schema.proofs.Laws.Everywhere.{called, below_children}
use Rattle.nodes.specs.Places.{Stands, the}
use Rattle.nodes.specs.Children.{first_child, next}
use Rattle.nodes.proofs.Laws.Children.{left, first_falls}
use Rattle.nodes.specs.Scan.{skip_at, leave_at}
use Rattle.nodes.proofs.Laws.Skipping.{skip_element}
use Rattle.nodes.specs.ElementEnd.{Behind}
use Rattle.nodes.proofs.Laws.ElementEnd.{next_behind}
use Rattle.nodes.proofs.Laws.TextBytes.{says}
use Rattle.nodes.specs.Texts.{text_of_lem}
use Rattle.nodes.proofs.Laws.TextSteps.{text_law}
use Rattle.nodes.specs.Ahead.{ahead_at, ahead_in_tag}
use Rattle.nodes.proofs.Laws.Ahead.{in_tag_first}
use Rattle.nodes.proofs.Laws.AheadElements.{Facing, facing, facing_first, Met, Over, facing_child, facing_end, facing_stray, left_ahead}
use Rattle.nodes.proofs.Laws.AheadElements.{facing_left, behind_leaves, behind_says}
use Rattle.nodes.proofs.Laws.Walk.{Walk, Turn, kids, walk_children, kids_children, walk_none, turn_at, turn_splits, turn_falls, left_fits}
use Rattle.nodes.specs.declared.ahead.Ahead.{Ahead}
use Rattle.nodes.specs.declared.ahead.Ahead.TheVariants as ahead-is
use Rattle.grammar.specs.Read.{Read}
use Rattle.grammar.specs.Bytes.{blank}
use Rattle.schema.specs.Table.{kind_cell, lines_of_kind, lines_from, lines_to, text_at, order_at, watched_word}
use Rattle.schema.specs.Lines.{in_turn, kind_next}
use Rattle.schema.specs.Tallied.{times_by, holding, Joins, Meets}
use Rattle.schema.specs.Faults.{sooner, fault_of}
use Rattle.schema.specs.Parts.{own_fault, text_shaped, times_right, order_right, frame_right, kids_fault}
use Rattle.schema.specs.Asked.{Known, Timed, Tallying}
use Rattle.schema.specs.Walked.{Owns, Walks, refused_walk, finished_walk}
use Rattle.schema.specs.declared.Tally.{Tally}
use Rattle.schema.specs.declared.Walked.{Walked}
use Rattle.schema.proofs.Laws.Faults.{IsFault, is_fault, is_six, sooner_fault, sooner_three, sooner_turned, sooner_none, six_first}
use Rattle.schema.proofs.Laws.Kids.{kids_faulty, kids_none, kids_stranger, kids_one, six_whole, frame_wrong, frame_good}
use Rattle.schema.proofs.Laws.Attributes.{own_faulty}
use Rattle.schema.proofs.Laws.Counted.{times_law, order_start, order_end, Counted, counted_turn, counted_on}

first_deeper : {text : List ℕ} {at : ℕ} → Stands text at → left text (first_child text at) < length text - at
unfolding left
first_deeper st = first_falls st

pub record Walking (t l text : List ℕ) (at kind from to : ℕ) (words : Bool) (worst : ℕ) (tally : Tally) (next : Ahead) : Type 0 where
  pub of_kind_lem : Known text at kind
  pub starts : from ≡ lines_from t kind
  pub stops : to ≡ lines_to t kind
  pub timed : Timed from to
  pub words_so : words ≡ not (eqb (text_at t kind) 0)
  pub kid : Option ℕ
  pub blanks : Bool
  pub leaves : Read (Unit {0})
  pub facing : Facing text words blanks leaves kid next
  pub blank_so : words ≡ false → all blank (text_of (the text at)) ≡ blanks
  pub leave_so : skip_at (drop at text) ≡ leaves
  pub walk : Walk text kid
  pub deeper : left text kid < length text - at
  pub faulty : IsFault worst
  pub faults : sooner (own_fault t l kind (the text at)) (kids_fault t l kind (elements (contents_of (the text at))))
      ≡ sooner worst (kids_fault t l kind (kids text kid))
  pub counted : Counted t l kind from to tally (elements (contents_of (the text at))) (kids text kid)
  pub room : (p : ℕ) → get_or tally.counts p 0 + left text kid ≤ length text

-- the text's shape, as the walk sees it
frame_blank : (t : ℕ) (w : Word) (words : Bool) → words ≡ not (eqb t 0) → (words ≡ false → all blank w ≡ true) → text_shaped t w ≡ true
unfolding text_shaped
frame_blank zero w words e f = f e
frame_blank (suc t) w words e f = refl

frame_dark : (t : ℕ) (w : Word) (words : Bool) → words ≡ not (eqb t 0) → words ≡ false → all blank w ≡ false → text_shaped t w ≡ false
unfolding text_shaped
frame_dark zero w words e f g = g
frame_dark (suc t) w words e f g = absurd (true≢false (sym (e ∙ ap not (ne_eqb (suc t) 0 (λ z. omega arith))) ∙ f))

nothing_yet : (p : ℕ) → ◌≡◌ {A = ℕ} (get_or (0 ∷ 0 ∷ 0 ∷ 0 ∷ 0 ∷ 0 ∷ 0 ∷ 0 ∷ []) p 0) 0
nothing_yet zero = refl
nothing_yet (suc zero) = refl
nothing_yet (suc (suc zero)) = refl
nothing_yet (suc (suc (suc zero))) = refl
nothing_yet (suc (suc (suc (suc zero)))) = refl
nothing_yet (suc (suc (suc (suc (suc zero))))) = refl
nothing_yet (suc (suc (suc (suc (suc (suc zero)))))) = refl
nothing_yet (suc (suc (suc (suc (suc (suc (suc zero))))))) = refl
nothing_yet (suc (suc (suc (suc (suc (suc (suc (suc p)))))))) = refl

abbrev pub empty_tally : Tally
empty_tally = record { counts = 0 ∷ 0 ∷ 0 ∷ 0 ∷ 0 ∷ 0 ∷ 0 ∷ 0 ∷ []; place = 0; seen = false; met = false }

none_counted : (t l : List ℕ) (kind from to : ℕ) (es rest : List Element) → es ≡ rest → Counted t l kind from to empty_tally es rest
none_counted t l kind from to es rest e = record {
  size = refl;
  lines = λ p h. rw (nothing_yet p, e) (zero_add _);
  seen_so = rw e;
  met_so = rw e;
  order_so = rw e (order_start t l kind rest);
}
  where
    zero_add : (a : ℕ) → a ≡ 0 + a
    zero_add a = omega arith

few_lines : (t : List ℕ) (k : ℕ) → lines_to t k ≤ lines_from t k + 8
unfolding lines_to
few_lines t k = go (eqb (text_at t k) 0) (leb (kind_cell t k 3) (lines_from t k + 8)) refl
  where
    go : (a b : Bool) → leb (kind_cell t k 3) (lines_from t k + 8) ≡ b
        → cond a (cond b (kind_cell t k 3) (lines_from t k + 8)) (lines_from t k) ≤ lines_from t k + 8
    go true true e = leb-true _ _ e
    go true false e = omega arith
    go false b e = omega arith

module _ (t l : List ℕ) {text : List ℕ} {at kind : ℕ} (p : Known text at kind) {worst i : ℕ} (own : Owns t l text at kind worst i)
  where
    pub walking_start : {from : ℕ} → from ≡ kind_cell t kind 2 → {to : ℕ} → to ≡ lines_to t kind → to < 4294967304 → {form : ℕ}
        → form ≡ kind_cell t kind 4 → {next : Ahead} → next ≡ ahead_in_tag (not (eqb form 0)) text i
        → Walking t l text at kind from to (not (eqb form 0)) worst empty_tally next
    unfolding lines_from text_at
    walking_start {from} f {to} g s {form} o e =
        rw (e, in_tag_first own.inside (not (eqb form 0))) (record {
          of_kind_lem = p;
          starts = f;
          stops = g;
          timed = record { few = rw (f, g) (few_lines t kind); small = omega arith };
          words_so = ap (λ n. not (eqb n 0)) o;
          kid = first_child text at;
          blanks = all blank (text_of_lem text at);
          leaves = skip_at (drop at text);
          facing = facing_first text (not (eqb form 0)) at;
          blank_so = λ _. ap (all blank) (sym (text_law p.stands));
          leave_so = refl;
          walk = walk_children p.stands;
          deeper = first_deeper p.stands;
          faulty = rw own.fault_is (own_faulty t l kind (the text at));
          faults = rw (own.fault_is, kids_children p.stands);
          counted = none_counted t l kind from to _ _ (sym (kids_children p.stands));
          room = λ q. rw (nothing_yet q) (let z = left_fits text (first_child text at) in omega arith);
        })

-- the answers
pub walks_refused : {t l text : List ℕ} {at kind : ℕ} → 6 ≡ fault_of t l kind (the text at) → {r : Walked} → r ≡ refused_walk
    → Walks t l text at kind r
walks_refused e q = rw q (record { fault_is = e; ends = λ k. absurd (k refl); holds_is = λ k. absurd (k refl) })

-- the end of an element
module _ {b c : Bool} (e : b ≡ c) (worst behind : ℕ) (holds : Bool) where
  pub finish_right : b ≡ true → record { fault = worst; behind = behind; holds = holds } ≡ finished_walk c worst behind holds
  unfolding finished_walk
  finish_right t = rw (sym e ∙ t)

  pub finish_wrong : b ≡ false → {r : Walked} → r ≡ refused_walk → r ≡ finished_walk c worst behind holds
  unfolding finished_walk
  finish_wrong t q = q ∙ rw (sym e ∙ t)

pub ruleset finishing = (finish_right, finish_wrong, rules)

holds_by : (t l : List ℕ) (e : Element) {x y : Bool} → any (called (watched_word t l)) (elements (contents_of e)) ≡ x
    → any (holding t l) (elements (contents_of e)) ≡ y → holding t l e ≡ (x || y)
unfolding holding
holds_by t l e p q = below_children (watched_word t l) e ∙ rw (p, q)

module _ {t l text : List ℕ} {at kind from to : ℕ} {words : Bool} {worst : ℕ} {tally : Tally} {next₀ : Ahead}
    (go : Walking t l text at kind from to words worst tally next₀) where
  pub walking_timed : Timed from to
  walking_timed = go.timed

  pub walking_stray : next₀ ≡ ahead-is.Stray → 6 ≡ fault_of t l kind (the text at)
  unfolding frame_right
  walking_stray e =
      let st = go.of_kind_lem.stands in
      let (w, b) = facing_stray go.facing e st.rest
      (sym go.leave_so ∙ skip_element (drop at text) (the text at) st.rest st.reads) in
      let dark : text_shaped (text_at t kind) (text_of (the text at)) ≡ false =
      frame_dark (text_at t kind) (text_of (the text at)) words go.words_so w (go.blank_so w ∙ b) in
      frame_wrong t l kind (the text at) (rw dark)

  module _ {j : ℕ} (end : next₀ ≡ ahead-is.End j) where
    over : Over text words go.blanks go.leaves go.kid j
    over = facing_end go.facing end

    ends_there : Behind text at j
    ends_there = record { ends = go.leave_so ∙ over.ends; inside = over.inside; after = over.after }

    none_left : kids text go.kid ≡ []
    none_left = walk_none go.walk over.no_next

    met_all : any (holding t l) (elements (contents_of (the text at))) ≡ tally.met
    unfolding any
    met_all = go.counted.met_so ∙ rw none_left (or_false tally.met)

    seen_all : any (called (watched_word t l)) (elements (contents_of (the text at))) ≡ tally.seen
    unfolding any
    seen_all = go.counted.seen_so ∙ rw none_left (or_false tally.seen)

    in_order_lem : order_right t l kind (elements (contents_of (the text at))) ≡ true
    in_order_lem = go.counted.order_so ∙ rw none_left (order_end t l kind (order_at t kind) tally.place)

    holds_all : (tally.seen || tally.met) ≡ holding t l (the text at)
    holds_all = sym (holds_by t l (the text at) seen_all met_all)

    module _ {b : Bool} (u : b ≡ times_by t from to tally.counts tally.met) where
      times : times_right t l kind (elements (contents_of (the text at))) ≡ b
      unfolding count
      times =
          times_law t l kind from to go.starts go.stops (elements (contents_of (the text at))) tally.counts tally.met
          (λ p h. go.counted.lines p h ∙ rw none_left (add_none (get_or tally.counts p 0))) met_all
          ∙ sym u
        where
          add_none : (a : ℕ) → a + 0 ≡ a
          add_none a = omega arith

      frame : frame_right t l kind (the text at) ≡ b
      unfolding frame_right
      frame = rw (
        frame_blank (text_at t kind) (text_of (the text at)) words go.words_so (λ w. go.blank_so w ∙ over.all_blank w),
        in_order_lem,
      ) (and_true _ ∙ times)

    pub walking_finished : {r : Walked}
        → r ≡ finished_walk (times_by t from to tally.counts tally.met) worst j (tally.seen || tally.met) → Walks t l text at kind r
    unfolding finished_walk
    walking_finished e = rw e (go₁ (times_by t from to tally.counts tally.met) refl)
      where
        go₁ : (b : Bool) → times_by t from to tally.counts tally.met ≡ b
            → Walks t l text at kind (finished_walk b worst j (tally.seen || tally.met))
        go₁ false u = walks_refused (frame_wrong t l kind (the text at) (frame (sym u))) refl
        go₁ true u = record {
          fault_is = sym (frame_good t l kind (the text at) (frame (sym u)) ∙ go.faults
              ∙ rw (none_left, kids_none t l kind) (sooner_none worst));
          ends = λ _. ends_there;
          holds_is = λ _. holds_all;
        }

  module _ {k : ℕ} (ahead : next₀ ≡ ahead-is.Child k) where
    met : Met text words go.blanks go.leaves go.kid k
    met = facing_child go.facing ahead

    turn : Turn text k
    turn = turn_at go.walk met.is_next

    splits : kids text go.kid ≡ the text k ∷ kids text (next text k)
    splits = turn_splits go.walk met.is_next

    falls_on : left text (next text k) < left text go.kid
    falls_on = turn_falls go.walk met.is_next

    pub walking_deeper : length text - k < length text - at
    unfolding left
    walking_deeper = rw met.is_next at go.deeper

    pub walking_tallying : length text < 18446744073709551616 → Tallying t text k kind from to tally.counts
    unfolding left
    walking_tallying u = record {
      stands = turn.stands;
      known = go.of_kind_lem.known;
      starts = go.starts;
      ends = go.stops;
      timed = go.timed;
      roomy = record {
        size = go.counted.size;
        room = λ p. let z = rw met.is_next at (go.room p) in let s = turn.stands.here in
            omega arith;
      };
    }

    module _ {r : Option (ℕ × Tally)} (mt : Meets t l kind from to (the text k) tally r) where
      abbrev place : ℕ
      place = row_place (lines_of_kind t l kind) (the text k)

      counted : Counted t l kind from to tally (elements (contents_of (the text at))) (the text k ∷ kids text (next text k))
      counted = rw splits at go.counted

      stranger : kind_of (lines_of_kind t l kind) (the text k) ≡ None → 6 ≡ fault_of t l kind (the text at)
      stranger z = six_whole t l kind (the text at)
          (go.faults ∙ rw (splits, kids_stranger t l kind (the text k) (kids text (next text k)) z)
          (sooner_turned go.faulty is_six ∙ six_first go.faulty))

      late : in_turn (order_at t kind) tally.place place ≡ false → 6 ≡ fault_of t l kind (the text at)
      unfolding frame_right
      late z = frame_wrong t l kind (the text at)
          (rw (counted_turn counted z) (no_more (text_shaped (text_at t kind) (text_of (the text at)))
          (times_right t l kind (elements (contents_of (the text at))))))
        where
          no_more : (a b : Bool) → (a && (b && false)) ≡ false
          no_more a b = ap (λ c. a && c) (and_false b) ∙ and_false a

      pub walking_none : r ≡ None → 6 ≡ fault_of t l kind (the text at)
      unfolding kind_next
      walking_none h = by (in_turn (order_at t kind) tally.place place) refl
        where
          by : (b : Bool) → in_turn (order_at t kind) tally.place place ≡ b → 6 ≡ fault_of t l kind (the text at)
          by true e = stranger (rw e at (mt.none h))
          by false e = late e

      module _ {inner : ℕ} {tally₁ : Tally} (there : r ≡ Some (inner, tally₁)) where
        joins : Joins t l kind from to (the text k) tally inner tally₁
        joins = mt.joins there

        pub walking_inner : Known text k inner
        walking_inner = record { stands = turn.stands; known = omega (arith, joins.small) }

        known : (in_turn (order_at t kind) tally.place place ≡ true) × (kind_of (lines_of_kind t l kind) (the text k) ≡ Some inner)
        unfolding kind_next
        known = by (in_turn (order_at t kind) tally.place place) refl
          where
            by : (b : Bool) → in_turn (order_at t kind) tally.place place ≡ b
                → (in_turn (order_at t kind) tally.place place ≡ true) × (kind_of (lines_of_kind t l kind) (the text k) ≡ Some inner)
            by true e = (e, rw e at joins.kind_is)
            by false e = never_some (rw e at joins.kind_is)

        one : kids_fault t l kind (kids text go.kid)
            ≡ sooner (fault_of t l inner (the text k)) (kids_fault t l kind (kids text (next text k)))
        one = ap (kids_fault t l kind) splits ∙ kids_one t l kind (the text k) (kids text (next text k)) inner known.1

        inner_faulty : IsFault (fault_of t l inner (the text k))
        unfolding fault_of
        inner_faulty = is_fault _ _

        module _ {w : Walked} (wk : Walks t l text k inner w) {worst₁ : ℕ} (wf : worst₁ ≡ sooner worst w.fault) where
          faults₁ : sooner (own_fault t l kind (the text at)) (kids_fault t l kind (elements (contents_of (the text at))))
              ≡ sooner worst₁ (kids_fault t l kind (kids text (next text k)))
          faults₁ =
              go.faults ∙ ap (sooner worst) one
              ∙ rw (wf, wk.fault_is) (sym (sooner_three go.faulty inner_faulty (kids_faulty t l kind (kids text (next text k)))))

          pub walking_six : worst₁ ≡ 6 → 6 ≡ fault_of t l kind (the text at)
          walking_six e = six_whole t l kind (the text at) (faults₁ ∙ rw e (six_first (kids_faulty t l kind (kids text (next text k)))))

          module _ (sound : worst₁ ≡ 6 → ⊥) where
            not_six : w.fault ≡ 6 → ⊥
            not_six z = sound (wf ∙ rw z (sooner_turned go.faulty is_six ∙ six_first go.faulty))

            behind : Behind text k w.behind
            behind = wk.ends not_six

            onward : Facing text words (all blank (says (drop w.behind text))) (leave_at (drop w.behind text)) (next text k)
                (ahead_at words (length text) (drop w.behind text))
            onward = rw (next_behind behind) (facing text words w.behind)

            pub walking_less : {next₁ : Ahead} → next₁ ≡ ahead_at words (length text) (drop w.behind text)
                → left_ahead text next₁ < left_ahead text next₀
            unfolding left_ahead left
            walking_less e = rw (e, ahead) (let f = facing_left onward in let d = turn.falls in omega arith)

            pub walking_on : {next₁ : Ahead} → next₁ ≡ ahead_at words (length text) (drop w.behind text)
                → Walking t l text at kind from to words worst₁
                (record {
                  counts = tally₁.counts;
                  place = tally₁.place;
                  seen = tally₁.seen;
                  met = tally₁.met || w.holds;
                }) next₁
            walking_on e =
                rw e (record {
                  of_kind_lem = go.of_kind_lem;
                  starts = go.starts;
                  stops = go.stops;
                  timed = go.timed;
                  words_so = go.words_so;
                  kid = next text k;
                  blanks = all blank (says (drop w.behind text));
                  leaves = leave_at (drop w.behind text);
                  facing = onward;
                  blank_so = λ o. go.blank_so o ∙ met.blanks_so o ∙ ap (all blank) (behind_says turn.stands behind met.looks);
                  leave_so = go.leave_so ∙ met.leaves_so ∙ behind_leaves turn.stands behind met.looks;
                  walk = turn.then;
                  deeper = let f = falls_on in omega (arith, go.deeper);
                  faulty = rw (wf, wk.fault_is) (sooner_fault go.faulty inner_faulty);
                  faults = faults₁;
                  counted = counted_on counted known.0 joins.more joins.place_is (wk.holds_is not_six);
                  room = λ p. let y = joins.more.room p in let z = go.room p in let f = falls_on in omega arith;
                })

pub ruleset walking = (
  walks_refused,
  walking_start,
  walking_timed,
  walking_stray,
  walking_finished,
  walking_less,
  walking_deeper,
  walking_tallying,
  walking_none,
  walking_inner,
  walking_six,
  walking_on,
  rules,
)
