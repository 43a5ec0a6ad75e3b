-- What is proved of Reading: however a text is cut, the verdict is the one on the joined text; behind the end nothing changes.
use Rattle.std.specs.Prelude.{◌≡◌, refl, List, [], ◌∷◌, ◌++◌, ℕ, ◌+◌, Bool, true, false, ◌&&◌, leb, length, Some, None}
use Rattle.std.proofs.Common.{ap, sym, ◌∙◌, arith, length-append, leb-true, le-leb}
use Rattle.lists.proofs.Laws.Booleans.{both_ways, clash}
use Rattle.grammar.specs.Document.{together}
use Rattle.steps.specs.WellFormed.{WellFormed, well_formed_unique}
use Rattle.stream.specs.Jobs.{Left, read_byte, outset, idle_left}
use Rattle.stream.specs.Reading.{Verdict, Arrival, arrival, awaited, read_on, add_part, add_parts, add_end, verdict_of, number_behind}
use Rattle.stream.specs.Reading.{number_of}
use Rattle.stream.proofs.Laws.Verdict.{whole_so}

-- there is one such answer
pub verdict_unique : {text : List ℕ} {a b : Bool} → Verdict text a → Verdict text b → a ≡ b
verdict_unique {a = true} {b = true} h k = refl
verdict_unique {a = true} {b = false} h k = let p = h.accepts refl in well_formed_unique p.1 (k.refuses refl p.0)
verdict_unique {a = false} {b = true} h k = let p = k.accepts refl in well_formed_unique (h.refuses refl p.0) p.1
verdict_unique {a = false} {b = false} h k = refl

-- PARTS, one after another, and the joined text
pub read_append : (x : Left) (s t : List ℕ) → read_on x (s ++ t) ≡ read_on (read_on x s) t
unfolding read_on
read_append x [] t = refl
read_append x (a ∷ s) t = read_append (read_byte x a) s t

pub parts_so : (x : Left) (n : ℕ) (ps : List (List ℕ))
    → add_parts (arrival x n None) ps ≡ arrival (read_on x (together ps)) (n + length (together ps)) None
unfolding add_parts add_part read_on
parts_so x n [] = let z : n ≡ n + 0 = omega arith in ap (λ m. arrival x m None) z
parts_so x n (p ∷ ps) =
    let z : (n + length p) + length (together ps) ≡ n + length (p ++ together ps) = omega (arith, length-append p (together ps)) in
    parts_so (read_on x p) (n + length p) ps
    ∙ ap (λ m. arrival (read_on (read_on x p) (together ps)) m None) z
    ∙ ap (λ y. arrival y (n + length (p ++ together ps)) None) (sym (read_append x p (together ps)))

-- the answer at the end
pub answered : List ℕ → Bool
answered s = leb (length s) 16777216 && idle_left (read_on outset s)

pub end_so : (ps : List (List ℕ)) → verdict_of (add_end (add_parts awaited ps)) ≡ Some (answered (together ps))
unfolding verdict_of add_end awaited answered
end_so ps =
    let z : 0 + length (together ps) ≡ length (together ps) = omega arith in
    rw (parts_so outset 0 ps, z)

answered_so : (s : List ℕ) → Verdict s (answered s)
unfolding answered
answered_so s = go (leb (length s) 16777216) (idle_left (read_on outset s)) refl (whole_so s)
  where
    go : (t u : Bool) → leb (length s) 16777216 ≡ t → WellFormed s u → Verdict s (t && u)
    go true true e w = record { accepts = λ _. (leb-true (length s) 16777216 e, w); refuses = λ q. clash (cc) }
    go true false e w = record { accepts = λ q. clash (cc); refuses = λ _ _. w }
    go false u e w = record { accepts = λ q. clash (cc); refuses = λ _ h. both_ways (le-leb (length s) 16777216 h) e }

-- THE THEOREM: the verdict is given at the end, and it is the one on the joined text, into whatever parts it was cut, parts of no bytes too
pub verdict_so : (ps : List (List ℕ)) → (v : Bool) × (verdict_of (add_end (add_parts awaited ps)) ≡ Some v) × Verdict (together ps) v
verdict_so ps = (answered (together ps), end_so ps, answered_so (together ps))

-- two ways to cut one text
pub cut_anyhow : (ps qs : List (List ℕ)) → together ps ≡ together qs
    → verdict_of (add_end (add_parts awaited ps)) ≡ verdict_of (add_end (add_parts awaited qs))
cut_anyhow ps qs e = end_so ps ∙ ap (λ s. Some (answered s)) e ∙ sym (end_so qs)

-- NUMBERS: before the end a part and the end are answered with 0 and no verdict is given
pub before_end : (ps : List (List ℕ)) → (number_of (add_parts awaited ps) ≡ 0) × (verdict_of (add_parts awaited ps) ≡ None)
unfolding number_of number_behind verdict_of awaited
before_end ps = rw (parts_so outset 0 ps) (refl, refl)

-- behind it 28, for a part and for a second end
pub behind_end : (r : Arrival) → number_of (add_end r) ≡ 28
unfolding number_of number_behind verdict_of add_end
behind_end (arrival x n None) = refl
behind_end (arrival x n (Some v)) = refl

-- and nothing changes: the verdict given stays
pub part_behind : (r : Arrival) (p : List ℕ) → add_part (add_end r) p ≡ add_end r
unfolding add_part add_end
part_behind (arrival x n None) p = refl
part_behind (arrival x n (Some v)) p = refl

pub end_behind : (r : Arrival) → add_end (add_end r) ≡ add_end r
unfolding add_end
end_behind (arrival x n None) = refl
end_behind (arrival x n (Some v)) = refl
