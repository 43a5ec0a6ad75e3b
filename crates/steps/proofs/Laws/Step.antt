-- What is proved of Step.
use Rattle.std.specs.Prelude.{◌≡◌, refl, List, [], ◌∷◌, ◌++◌, ℕ, ◌+◌, ◌-◌, ◌≤◌, ◌<◌, length, take, drop, get_or, Some, None}
use Rattle.std.proofs.Common.{ap, sym, ◌∙◌, append_assoc, add-one, arith, length-append, length-drop, take-append-drop, drop_of_length-le, drop-cons, drop_at}
use Rattle.lists.proofs.Laws.Booleans.{clash}
use Rattle.grammar.specs.Read.{Read, fail, got, Reader}
use Rattle.grammar.proofs.Laws.Read.{Ok, failed, good, ok_map, Takes}
use Rattle.steps.specs.Step.{stepped, Went}

-- the text at a position
pub at_byte : (text : List ℕ) (at : ℕ) → at < length text → drop at text ≡ get_or text at 0 ∷ drop (at + 1) text
at_byte text at h = rw (drop-cons text at 0 h, add-one)

pub at_end : (text : List ℕ) (at : ℕ) → length text ≤ at → drop at text ≡ []
at_end text at h = drop_of_length-le text h

-- from a result to the answer
pub arrives : {A : Type 0} (text : List ℕ) (m : Read A) {a : A} (to : ℕ) → to ≤ length text → m ≡ got a (drop to text)
    → Some to ≡ stepped (length text) m
unfolding stepped
arrives text m to h e =
    let z : to ≡ length text - length (drop to text) = simp length-drop (omega arith) in
    rw e (ap Some z)

pub refuses : {A : Type 0} (n : ℕ) (m : Read A) → m ≡ fail → None ≡ stepped n m
unfolding stepped
refuses n m e = rw e

-- from the answer to a result
pub fell : {A : Type 0} (n : ℕ) (m : Read A) → None ≡ stepped n m → m ≡ fail
unfolding stepped
fell n fail e = refl
fell n (got a r) e = clash (cc)

-- what a read leaves is the end of what it was given
abbrev pub Tails : {A : Type 0} → List ℕ → A → List ℕ → Type 0
Tails s _ r = (w : List ℕ) × (s ≡ w ++ r)

pub tails : {A : Type 0} {P : A → List ℕ → Type 0} {s : List ℕ} {m : Read A} → Ok (Takes P s) m → Ok (Tails s) m
tails h = ok_map h λ a r k. (k.0, k.1)

end_is : (v r : List ℕ) → drop (length (v ++ r) - length r) (v ++ r) ≡ r
end_is v r = let n : length v ≡ length (v ++ r) - length r = omega (arith, length-append v r) in drop_at v r (length (v ++ r) - length r) n

pub went : {A : Type 0} (p : Reader A) (text : List ℕ) (at to : ℕ) → Ok (Tails (drop at text)) (p (drop at text))
    → Some to ≡ stepped (length text) (p (drop at text)) → Went p text at to
unfolding stepped
went {A} p text at to h e = go (p (drop at text)) refl h e
  where
    go : (m : Read A) → p (drop at text) ≡ m → Ok (Tails (drop at text)) m → Some to ≡ stepped (length text) m → Went p text at to
    go _ q failed e = clash (cc)
    go _ q (good {a} {r} k) e =
        let w = k.0 in
        let here : to ≡ length text - length r = cc in
        let whole : text ≡ (take at text ++ w) ++ r = sym (take-append-drop at text) ∙ ap (λ s. take at text ++ s) k.1
        ∙ sym (append_assoc (take at text) w r) in
        let rest : drop to text ≡ r = ap (λ n. drop n text) here ∙ ap (λ s. drop (length s - length r) s) whole
        ∙ end_is (take at text ++ w) r in
        let long : length (drop at text) ≡ length w + length r = ap length k.1 ∙ length-append w r in
        record { value = a; reads = q ∙ ap (got a) (sym rest); inside = omega arith; ahead = λ l. omega (arith, length-drop at text) }

-- something was read
pub went_on : {A : Type 0} {p : Reader A} {text : List ℕ} {at to : ℕ} → Went p text at to
    → Ok (λ _ r. length r < length (drop at text)) (p (drop at text)) → at < to
went_on {A} {p} {text} {at} {to} w h = go (p (drop at text)) w.reads h
  where
    go : (m : Read A) → m ≡ got w.value (drop to text) → Ok (λ _ r. length r < length (drop at text)) m → at < to
    go _ e failed = clash (cc)
    go _ e (good {r = r} k) =
        let q : r ≡ drop to text = cc in
        omega (arith, ap length q, length-drop to text, length-drop at text, w.inside)
