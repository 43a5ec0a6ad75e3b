-- FILLS: a list written over another from a place, what lies before and past it left. Assumes nothing.
use Rattle.std.specs.Prelude.{◌≡◌, List, [], ◌∷◌, ◌++◌, ℕ, suc, ◌+◌, ◌≤◌, ◌<◌, length, get_or, set, take, drop}
use Rattle.std.proofs.Common.{sym, ap, ◌∙◌, append_assoc, append-nil, arith, add-one, add-zero, length-append, length-drop, take-append-drop, take_at, take-suc, drop-drop, length-take-le}
pub use Rattle.lists.specs.Filling.{wrote}
use Rattle.std.proofs.lemmas.List.{set_split}
use Rattle.std.proofs.Math.Seq.{drop-append-add, append_snoc}

pub wrote_none : (at : ℕ) (s : List ℕ) → wrote at [] s ≡ s
wrote_none at s =
    ap (λ (l : List ℕ). l ++ drop (at + 0) s) (append-nil (take at s)) ∙ ap (λ (n : ℕ). take at s ++ drop n s) (add-zero at)
    ∙ take-append-drop at s

pub length_wrote : (at : ℕ) (v s : List ℕ) → at + length v ≤ length s → length (wrote at v s) ≡ length s
length_wrote at v s h =
    omega (
      arith,
      length-append (take at s ++ v) (drop (at + length v) s),
      length-append (take at s) v,
      length-take-le at s (omega arith),
      length-drop (at + length v) s,
    )

-- writing on where the last write ended
pub wrote_on : (at next : ℕ) (u v s : List ℕ) → next ≡ at + length u → next ≤ length s → wrote next v (wrote at u s) ≡ wrote at (u ++ v) s
wrote_on at next u v s e h =
    let front : List ℕ = take at s ++ u in
    let long : length front ≡ next = length-append (take at s) u ∙ ap (λ (n : ℕ). n + length u) (length-take-le at s (omega arith))
    ∙ sym e in
    let t : take next (wrote at u s) ≡ front = take_at front (drop (at + length u) s) next long in
    let sum : at + length u + length v ≡ at + length (u ++ v) = omega (arith, length-append u v) in
    let d : drop (next + length v) (wrote at u s) ≡ drop (at + length (u ++ v)) s =
    ap (λ (n : ℕ). drop (n + length v) (wrote at u s)) (sym long)
    ∙ drop-append-add front (drop (at + length u) s) (length v)
    ∙ drop-drop (length v) (at + length u) s
    ∙ ap (λ (n : ℕ). drop n s) sum in
    ap (λ (l : List ℕ). l ++ v ++ drop (next + length v) (wrote at u s)) t
    ∙ ap (λ (l : List ℕ). front ++ v ++ l) d
    ∙ ap (λ (l : List ℕ). l ++ drop (at + length (u ++ v)) s) (append_assoc (take at s) u v)

-- one number stored
pub wrote_one : (at v : ℕ) (s : List ℕ) → at < length s → set s at v ≡ wrote at (v ∷ []) s
wrote_one at v s h =
    set_split s at v h ∙ sym (append_snoc (take at s) v (drop (suc at) s))
    ∙ ap (λ (n : ℕ). take at s ++ (v ∷ []) ++ drop n s) (sym (add-one at))

-- the first i numbers of a list are written, and then the next
pub wrote_next : (at i v : ℕ) (vs s : List ℕ) → i < length vs → at + i < length s → v ≡ get_or vs i 0
    → set (wrote at (take i vs) s) (at + i) v ≡ wrote at (take (i + 1) vs) s
wrote_next at i v vs s h k e =
    let long : length (take i vs) ≡ i = length-take-le i vs (omega arith) in
    let more : take i vs ++ (v ∷ []) ≡ take (i + 1) vs = ap (λ (x : ℕ). take i vs ++ (x ∷ [])) e ∙ sym (take-suc vs i 0 h)
    ∙ ap (λ (n : ℕ). take n vs) (sym (add-one i)) in
    wrote_one (at + i) v (wrote at (take i vs) s) (omega (arith, length_wrote at (take i vs) s (omega arith)))
    ∙ wrote_on at (at + i) (take i vs) (v ∷ []) s (omega arith) (omega arith)
    ∙ ap (λ (l : List ℕ). wrote at l s) more
