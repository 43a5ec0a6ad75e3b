-- The turns of a start tag, at a position of the text: one law for each way through the code.
use Rattle.std.proofs.Math.Path.{◌≡◌, refl}
use Rattle.std.proofs.Common.{sym, ap, ◌∙◌, rules}
use Rattle.std.specs.Prelude.{List, ◌∷◌, Bool, ◌||◌, ℕ, zero, suc, ◌+◌, ◌-◌, ◌≤◌, ◌<◌, length, drop, Option, None}
use Rattle.std.proofs.Math.Bool.{true, false}
use native.Mathlib.Omega.{arith}
use Rattle.std.proofs.Math.Dec.{eqb}
use Rattle.std.proofs.Math.ListN.{get_or}
use borrow.Author.Tests.{eq-eqb, ne_eqb}
use Rattle.grammar.specs.Bytes.{quote}
use Rattle.grammar.specs.Parser.{closing}
use Rattle.steps.proofs.Laws.Step.{at_byte}
use Rattle.nodes.specs.Places.{pick}
use Rattle.nodes.specs.Scan.{Quoted, quoting, finishes, finish, tag_from}
use Rattle.nodes.specs.ScanSteps.{tag_told}
use Rattle.nodes.proofs.Laws.Scan.{Tagging, tag_start, tag_none, tag_stops, tag_goes, tag_jumps, quote_from}
use Rattle.nodes.specs.declared.scan.Tag.{Tag}
use Rattle.elements.specs.Tags.{turns, Turning, Nearby}

-- THE BYTES AT WHICH A TAG TURNS
pub closes_so : (b : ℕ) → (eqb b 62 || eqb b 47) ≡ closing b
unfolding closing
closes_so b = refl

pub turns_so : (b : ℕ) {s t : Bool} → s ≡ closing b → t ≡ quote b → (s || t) ≡ turns 0 b
unfolding turns
turns_so b e f = rw (e, f)

pub ruleset byte_turns = (closes_so, turns_so, rules)

module _ (q b : ℕ) (k : q ≡ 0 → ⊥) where
  quote_turns : b ≡ q → turns q b ≡ true
  unfolding turns
  quote_turns e = rw (ne_eqb q 0 k, eq-eqb b q e)

  quote_stays : (b ≡ q → ⊥) → turns q b ≡ false
  unfolding turns
  quote_stays f = rw (ne_eqb q 0 k, ne_eqb b q f)

-- a byte at which the tag does not turn changes nothing
steady_in : (q a : ℕ) (s : List ℕ) → (q ≡ 0 → ⊥) → turns q a ≡ false → tag_from q (a ∷ s) ≡ tag_from q s
unfolding turns tag_from finishes quoting
steady_in q a s k f =
    let n : eqb q 0 ≡ false = ne_eqb q 0 k in
    let g : eqb a q ≡ false = rw n at f in
    rw (n, g)

steady : (q a : ℕ) (s : List ℕ) → turns q a ≡ false → tag_from q (a ∷ s) ≡ tag_from q s
unfolding turns tag_from finishes quoting
steady zero a s f = go (closing a) (quote a) f
  where
    go : (c t : Bool) → (c || t) ≡ false → pick c (finish a s) (tag_from (pick t a 0) s) ≡ tag_from 0 s
    go false false f = refl
    go false true f = absurd (let z : ◌≡◌ {A = ℕ} 0 1 = cc in omega arith)
    go true t f = absurd (let z : ◌≡◌ {A = ℕ} 0 1 = cc in omega arith)
steady (suc q) a s f = steady_in (suc q) a s (λ e. omega arith) f

-- GOING ON
module _ {text : List ℕ} {q at : ℕ} where
  pub turn_start : Quoted text q at at
  turn_start = record { ahead = omega arith; same = refl }

  module _ {i : ℕ} (g : Quoted text q at i) where
    pub turn_end : length text ≤ i → Turning text q at i
    turn_end h = record { goes = g; here = λ u. absurd (omega arith) }

    turn_on : i < length text → turns q (get_or text i 0) ≡ false → Quoted text q at (i + 1)
    turn_on h f =
        let a = g.ahead in
        record {
          ahead = omega arith;
          same = g.same ∙ ap (tag_from q) (at_byte text i h) ∙ steady q (get_or text i 0) (drop (i + 1) text) f;
        }

    turn_here : turns q (get_or text i 0) ≡ true → Turning text q at i
    turn_here e = record { goes = g; here = λ u. e }

module _ {text : List ℕ} {at i : ℕ} (g : Quoted text 0 at i) (h : i < length text) {t : Bool} (e : t ≡ turns 0 (get_or text i 0)) where
  pub sign_on : t ≡ false → Quoted text 0 at (i + 1)
  sign_on f = turn_on g h (sym e ∙ f)

  pub sign_here : t ≡ true → Turning text 0 at i
  sign_here f = turn_here g (sym e ∙ f)

pub ruleset signs_on = (turn_start, turn_end, sign_on, sign_here, rules)

module _ {text : List ℕ} {q at i : ℕ} (k : q ≡ 0 → ⊥) (g : Quoted text q at i) (h : i < length text) where
  pub value_on : (get_or text i 0 ≡ q → ⊥) → Quoted text q at (i + 1)
  value_on f = turn_on g h (quote_stays q (get_or text i 0) k f)

  pub value_here : get_or text i 0 ≡ q → Turning text q at i
  value_here e = turn_here g (quote_turns q (get_or text i 0) k e)

pub ruleset values_on = (quote_from, turn_end, value_on, value_here, rules)

-- AMONG SIXTEEN BYTES
pub record Nearing (text : List ℕ) (q at n : ℕ) : Type 0 where
  inside : at + 16 ≤ length text
  few : n ≤ 16
  goes : Quoted text q at (at + n)

pub near_start : {text : List ℕ} {q at : ℕ} → at + 16 ≤ length text → Nearing text q at 0
near_start {text} {q} {at} h =
    let z : at + 0 ≡ at = omega arith in
    record { inside = h; few = omega arith; goes = rw z turn_start }

module _ {text : List ℕ} {q at n : ℕ} (g : Nearing text q at n) where
  pub near_all : 16 ≤ n → Nearby text q at 16
  near_all h =
      let k = g.few in
      let e : n ≡ 16 = omega arith in
      record { few = omega arith; goes = rw e at g.goes; here = λ u. absurd (omega arith) }

  module _ (u : n < 16) where
    pub near_inside : at + n < length text
    near_inside = let h = g.inside in omega arith

    near_on : turns q (get_or text (at + n) 0) ≡ false → Nearing text q at (n + 1)
    near_on f =
        let z : at + (n + 1) ≡ at + n + 1 = omega arith in
        record { inside = g.inside; few = omega arith; goes = rw z (turn_on g.goes near_inside f) }

    near_here : turns q (get_or text (at + n) 0) ≡ true → Nearby text q at n
    near_here e = record { few = g.few; goes = g.goes; here = λ v. e }

module _ {text : List ℕ} {at n : ℕ} (g : Nearing text 0 at n) (u : n < 16) {t : Bool} (e : t ≡ turns 0 (get_or text (at + n) 0)) where
  pub near_sign_on : t ≡ false → Nearing text 0 at (n + 1)
  near_sign_on f = near_on g u (sym e ∙ f)

  pub near_sign_here : t ≡ true → Nearby text 0 at n
  near_sign_here f = near_here g u (sym e ∙ f)

module _ {text : List ℕ} {q at n : ℕ} (k : q ≡ 0 → ⊥) (g : Nearing text q at n) (u : n < 16) where
  pub near_value_on : (get_or text (at + n) 0 ≡ q → ⊥) → Nearing text q at (n + 1)
  near_value_on f = near_on g u (quote_stays q (get_or text (at + n) 0) k f)

  pub near_value_here : get_or text (at + n) 0 ≡ q → Nearby text q at n
  near_value_here e = near_here g u (quote_turns q (get_or text (at + n) 0) k e)

pub ruleset nearing = (near_start, near_all, near_inside, near_sign_on, near_sign_here, near_value_on, near_value_here, rules)

-- from near to far
module _ {text : List ℕ} {q at n : ℕ} (g : Nearby text q at n) where
  pub near_turns : n < 16 → Turning text q at (at + n)
  near_turns u = record { goes = g.goes; here = λ v. g.here u }

  pub near_far : 16 ≤ n → {to : ℕ} → Turning text q (at + 16) to → Turning text q at to
  near_far h t =
      let k = g.few in
      let e : n ≡ 16 = omega arith in
      let a = t.goes.ahead in
      let s = g.goes.same ∙ ap (λ m. tag_from q (drop (at + m) text)) e ∙ t.goes.same in
      record { goes = record { ahead = omega arith; same = s }; here = t.here }

pub ruleset near_then_far = (near_turns, near_far, rules)

-- A TAG THAT ENDS HERE
pub sign_now : (text : List ℕ) (at : ℕ) → at < length text → {c : Bool} → c ≡ closing (get_or text at 0) → c ≡ true → {r : Option Tag}
    → r ≡ tag_told (length text) (finish (get_or text at 0) (drop (at + 1) text)) → r ≡ tag_told (length text) (tag_from 0 (drop at text))
unfolding finishes
sign_now text at u e y z = tag_stops text at 0 at (tag_start text at) u e y z

pub ruleset tag_now = (sign_now, rules)

-- THE REST OF A TAG
module _ {text : List ℕ} {at i j : ℕ} (t : Tagging text at 0 i) (s : Turning text 0 i j) where
  pub sign_none : length text ≤ j → None ≡ tag_told (length text) (tag_from 0 (drop at text))
  sign_none h = tag_none text at 0 j (tag_jumps t s.goes) h

  module _ (u : j < length text) {c : Bool} (e : c ≡ closing (get_or text j 0)) where
    pub sign_ends : c ≡ true → {r : Option Tag} → r ≡ tag_told (length text) (finish (get_or text j 0) (drop (j + 1) text))
        → r ≡ tag_told (length text) (tag_from 0 (drop at text))
    unfolding finishes
    sign_ends y z = tag_stops text at 0 j (tag_jumps t s.goes) u e y z

    module _ (f : c ≡ false) where
      is_quote : quote (get_or text j 0) ≡ true
      unfolding turns
      is_quote = let h = s.here u in rw (sym e ∙ f) at h

      pub sign_some : get_or text j 0 ≡ 0 → ⊥
      unfolding quote
      sign_some z = let h = rw z at is_quote in let z : ◌≡◌ {A = ℕ} 0 1 = cc in omega arith

      opens : Tagging text at (get_or text j 0) (j + 1)
      unfolding finishes quoting
      opens = tag_goes text at 0 j (tag_jumps t s.goes) u e f (rw is_quote)

      module _ {k : ℕ} (v : Turning text (get_or text j 0) (j + 1) k) where
        pub value_none : length text ≤ k → None ≡ tag_told (length text) (tag_from 0 (drop at text))
        value_none h = tag_none text at _ k (tag_jumps opens v.goes) h

        pub value_less : k < length text → length text - (k + 1) < length text - i
        value_less h = let a = s.goes.ahead in let b = v.goes.ahead in omega arith

        pub value_ends : k < length text → Tagging text at 0 (k + 1)
        unfolding turns finishes quoting
        value_ends h =
            let b = get_or text j 0 in
            let n : eqb b 0 ≡ false = ne_eqb b 0 sign_some in
            let y : eqb (get_or text k 0) b ≡ true = rw n at (v.here h) in
            tag_goes text at b k (tag_jumps opens v.goes) h {t = false} (rw n) refl (rw (n, y))

pub ruleset tag_turns = (tag_start, sign_none, sign_ends, sign_some, value_none, value_less, value_ends, rules)
