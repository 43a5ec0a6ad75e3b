use mathlib.Core.Path.{◌≡◌, refl, sym, ap}
use mathlib.Core.Bool.{true, not}
use mathlib.Core.List.{List}
use Prim.Native.Nat.{ℕ, ◌<◌}
use lib.Dec.{eqb}
use lib.ListN.{length, get_or}
use borrow.Author.Tests.{eq-eqb, eqb-true}
use Rattle.lists.proofs.Laws.Booleans.{refute}
use Rattle.lists.specs.Lists.{any}
use Rattle.lists.proofs.Laws.Quantifiers.{any_iff}
use Rattle.records.specs.Outcome.{ends, applies, passes, gives_first}
use Rattle.records.specs.Find.{AbsentBelow, FirstPlace, find_refusal}
use native.Mathlib.Omega.{arith}
use Rattle.record_fields.proofs.search.find.Goals as goal

-- the paper's number
module _ (rs : List ℕ) (x : ℕ) where
  accepted : {p : ℕ} → FirstPlace rs x p → 0 ≡ find_refusal rs x
  unfolding find_refusal
  accepted {p} f =
      let there = (any_iff 0 (eqb x) rs).1 (p, f.inside, eq-eqb x (get_or rs p 0) (sym f.stands)) in
      sym (gives_first (passes (ap not there) ends))

  nowhere : AbsentBelow (length rs) rs x → 19 ≡ find_refusal rs x
  unfolding find_refusal
  nowhere n = sym (gives_first (applies (ap not (refute (any (eqb x) rs) (λ h. some ((any_iff 0 (eqb x) rs).0 h))))))
    where
      some : (i : ℕ) × (i < length rs) × (eqb x (get_or rs i 0) ≡ true) → ⊥
      some (i, u, v) = n i u (sym (eqb-true x (get_or rs i 0) v))

pub returns-then-records-i : goal.returns-then-records-i
returns-then-records-i c =
    let a = c.args in
    let f : FirstPlace a.records.now a.number c.loop-i.i =
    record { inside = omega arith; stands = c.if-records-i.true; absent = c.loop-i.invariant.1 } in
    record { numbered = accepted a.records.now a.number f; found = λ z. f; refused = λ ne. absurd (ne refl) }

pub returns : goal.returns
returns c =
    let a = c.args in
    let n : AbsentBelow (length a.records.now) a.records.now a.number = λ k h. c.loop-i.invariant.1 k (omega arith) in
    record { numbered = nowhere a.records.now a.number n; found = λ z. absurd (omega arith); refused = λ ne. refl }
