-- What is proved of Walked.
use Rattle.std.specs.Prelude.{◌≡◌, refl, List, [], ◌∷◌, Bool, true, false, cond, ℕ, zero, suc, ◌<◌, length, Option, Some, None}
use Rattle.std.proofs.Common.{ap, arith}
use Rattle.lists.specs.Lists.{those}
use Rattle.grammar.specs.Document.{Element}
use Rattle.grammar.specs.Look.{contents_of, elements}
use Rattle.grammar.specs.Parser.{parse}
use Rattle.nodes.specs.Places.{Stands, the}
use Rattle.nodes.specs.Children.{first_child}
use Rattle.nodes.proofs.Laws.Children.{left, Siblings, no_more, one_more, children}
use Rattle.nodes.proofs.Laws.Walk.{left_fits}
use Rattle.nodes.proofs.Laws.Root.{Rooted, root_law}
use Rattle.inside.specs.Way.{WayStep, step, nth, onward, reached}
use Rattle.inside.specs.Walked.{places_within, places_from, nth_place, child_at, thence, walked, walked_from, way_at}

-- ---- At the places stand the elements.

pub data Stood (text : List ℕ) : List ℕ → List Element → Type 0 where
  none : Stood text [] []
  one : {k : ℕ} {ks : List ℕ} {es : List Element} → Stands text k → Stood text ks es → Stood text (k ∷ ks) (the text k ∷ es)

row_stood : (m : ℕ) {text : List ℕ} {kid : Option ℕ} {l : List Element} → left text kid < m → Siblings text kid l
    → Stood text (places_within m text kid) l
unfolding places_within
row_stood zero h no_more = none
row_stood (suc m) h no_more = none
row_stood zero h (one_more st f r) = absurd (omega arith)
row_stood (suc m) h (one_more st f r) = one st (row_stood m (omega arith) r)

pub children_stood : {text : List ℕ} {at : ℕ} → Stands text at
    → Stood text (places_from text (first_child text at)) (elements (contents_of (the text at)))
unfolding places_from
children_stood {text} {at} st = let n = left_fits text (first_child text at) in row_stood (suc (length text)) (omega arith) (children st)

pub those_stood : (p : Element → Bool) {text ks : List ℕ} {es : List Element} → Stood text ks es
    → Stood text (those (λ k. p (the text k)) ks) (those p es)
unfolding those
those_stood p none = none
those_stood p {text} (one {k} {ks} {es} st s) = go (p (the text k)) (those_stood p s)
  where
    go : (b : Bool) → Stood text (those (λ k. p (the text k)) ks) (those p es)
        → Stood text (cond b (k ∷ those (λ k. p (the text k)) ks) (those (λ k. p (the text k)) ks))
        (cond b (the text k ∷ those p es) (those p es))
    go true h = one st h
    go false h = h

-- a test by places that agrees on what stands
pub those_same : {t u : ℕ → Bool} {text : List ℕ} → ((k : ℕ) → Stands text k → t k ≡ u k) → {ks : List ℕ} {es : List Element}
    → Stood text ks es → those t ks ≡ those u ks
unfolding those
those_same h none = refl
those_same {t} {u} h (one {k} {ks} st s) = rw (h k st, those_same {t = t} {u = u} h s)

pub child_same : {t u : ℕ → Bool} (n : ℕ) {text : List ℕ} {at : ℕ} → Stands text at → ((k : ℕ) → Stands text k → t k ≡ u k)
    → child_at t n text at ≡ child_at u n text at
unfolding child_at
child_same {t} {u} n st h = ap (nth_place n) (those_same {t = t} {u = u} h (children_stood st))

-- ---- What is found is what is reached.

pub data Agrees (text : List ℕ) : Option ℕ → Option Element → Type 0 where
  not_there : Agrees text None None
  stands_there : {k : ℕ} → Stands text k → Agrees text (Some k) (Some (the text k))

nth_agrees : (n : ℕ) {text ks : List ℕ} {es : List Element} → Stood text ks es → Agrees text (nth_place n ks) (nth n es)
unfolding nth_place nth
nth_agrees zero none = not_there
nth_agrees (suc n) none = not_there
nth_agrees zero (one st s) = stands_there st
nth_agrees (suc n) (one st s) = nth_agrees n s

thence_agrees : {text : List ℕ} (f : ℕ → Option ℕ) (g : Element → Option Element)
    → ((k : ℕ) → Stands text k → Agrees text (f k) (g (the text k)))
    → {r : Option ℕ} {o : Option Element} → Agrees text r o → Agrees text (thence f r) (onward g o)
unfolding thence onward
thence_agrees f g h not_there = not_there
thence_agrees f g h (stands_there {k} st) = h k st

pub child_agrees : (p : Element → Bool) (n : ℕ) {text : List ℕ} {at : ℕ} → Stands text at
    → Agrees text (child_at (λ k. p (the text k)) n text at) (nth n (those p (elements (contents_of (the text at)))))
unfolding child_at
child_agrees p n st = nth_agrees n (those_stood p (children_stood st))

pub walked_agrees : (way : List WayStep) {text : List ℕ} {at : ℕ} → Stands text at
    → Agrees text (walked way text at) (reached way (the text at))
unfolding walked reached
walked_agrees [] st = stands_there st
walked_agrees (step p n ∷ way) {text} st = thence_agrees (walked way text) (reached way) (λ k h. walked_agrees way h) (child_agrees p n st)

rooted_agrees : (way : List WayStep) {text : List ℕ} {e : Element} → Rooted text e → Agrees text (way_at way text) (reached way e)
unfolding way_at walked_from
rooted_agrees way r = rw (r.found, ← r.is) (walked_agrees way r.stands)

-- THE LAW: from the root, a walk by places finds what the way reaches in the document
pub way_agrees : (way : List WayStep) (text : List ℕ) {e : Element} → parse text ≡ Some e → Agrees text (way_at way text) (reached way e)
way_agrees way text {e} p = rooted_agrees way (root_law text e p)
