-- What is proved of Places.
use Rattle.std.specs.Prelude.{◌≡◌, refl, List, [], ◌++◌, ℕ, ◌+◌, ◌-◌, ◌≤◌, ◌<◌, Bool, true, false, leb, length, drop}
use Rattle.std.proofs.Common.{ap, ◌∙◌, arith, leb-true, leb-false, length-append, length-drop, drop_of_length-le, drop-drop}
use Rattle.std.proofs.Math.Seq.{drop-append_seam, drop-length}
use Rattle.lists.proofs.Laws.Booleans.{clash}
use Rattle.grammar.specs.Document.{Element}
use Rattle.grammar.specs.Read.{Read, fail, got, bind}
use Rattle.grammar.proofs.Laws.Read.{Ok, ok_got}
use Rattle.steps.proofs.Laws.Step.{Tails}
use Rattle.nodes.specs.Places.{element₁₆, found_in, the, Stands}

pub stands_read : (text : List ℕ) (at : ℕ) {e : Element} {r : List ℕ} → at < length text → element₁₆ (drop at text) ≡ got e r
    → Stands text at
unfolding the found_in
stands_read text at {e} {r} h k = record { here = h; rest = r; reads = rw k }

pub the_read : (text : List ℕ) (at : ℕ) {e : Element} {r : List ℕ} → element₁₆ (drop at text) ≡ got e r → the text at ≡ e
unfolding the found_in
the_read text at k = rw k

-- what was read in two steps
pub record Bound {A B : Type 0} (m : Read A) (f : A → List ℕ → Read B) (b : B) (r : List ℕ) : Type 0 where
  pub value : A
  pub rest : List ℕ
  pub reads : m ≡ got value rest
  pub then : f value rest ≡ got b r

pub unbind : {A B : Type 0} (m : Read A) (f : A → List ℕ → Read B) {b : B} {r : List ℕ} → bind m f ≡ got b r → Bound m f b r
unfolding bind
unbind fail f e = clash (cc)
unbind (got a r₁) f e = record { value = a; rest = r₁; reads = refl; then = e }

-- the end of a text
pub record Tail (text s : List ℕ) : Type 0 where
  pub fits : length s ≤ length text
  pub stands : drop (length text - length s) text ≡ s

tail_inside : (text : List ℕ) (at : ℕ) → at ≤ length text → Tail text (drop at text)
tail_inside text at h =
    let n : length (drop at text) ≡ length text - at = length-drop at text in
    let k : length text - length (drop at text) ≡ at = omega arith in
    record { fits = omega arith; stands = rw k }

tail_past : (text : List ℕ) (at : ℕ) → length text ≤ at → Tail text (drop at text)
tail_past text at h =
    let n : drop at text ≡ [] = drop_of_length-le text h in
    let k : length text - 0 ≡ length text = omega arith in
    rw n (record { fits = omega arith; stands = rw k (drop-length text) })

pub tail_of : (text : List ℕ) (at : ℕ) → Tail text (drop at text)
tail_of text at = go (leb at (length text)) refl
  where
    go : (t : Bool) → leb at (length text) ≡ t → Tail text (drop at text)
    go true e = tail_inside text at (leb-true at (length text) e)
    go false e = let h = leb-false at (length text) e in tail_past text at (omega arith)

pub tail_more : {text s : List ℕ} (w r : List ℕ) → s ≡ w ++ r → Tail text s → Tail text r
tail_more {text} {s} w r e t =
    let n : length s ≡ length w + length r = ap length e ∙ length-append w r in
    let a : ℕ = length text - length s in
    let m : length text - length r ≡ a + length w = omega (arith, t.fits) in
    let q : drop (length w) (drop a text) ≡ r = rw (t.stands, e, drop-append_seam w r) in
    record { fits = omega (arith, t.fits); stands = rw (m, ← drop-drop (length w) a text) q }

pub tail_read : {A : Type 0} {text s r : List ℕ} {m : Read A} {a : A} → Ok (Tails s) m → m ≡ got a r → Tail text s → Tail text r
tail_read {text = text} {s} {r} {m} {a} h e t = let k = ok_got (rw e at h) in tail_more k.0 r k.1 t
