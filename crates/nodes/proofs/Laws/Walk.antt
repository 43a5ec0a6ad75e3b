-- Laws for a loop over children: the children from a cursor on, as a list.
use Rattle.std.specs.Prelude.{◌≡◌, refl, List, [], ◌∷◌, ℕ, zero, suc, ◌≤◌, ◌<◌, length, Option, Some, None}
use Rattle.std.proofs.Common.{ap, sym, ◌∙◌, subst, arith}
use Rattle.grammar.specs.Document.{Element}
use Rattle.grammar.specs.Look.{contents_of, elements}
use Rattle.nodes.specs.Places.{Stands, the}
use Rattle.nodes.specs.Children.{first_child, next}
use Rattle.nodes.proofs.Laws.Children.{left, Siblings, no_more, one_more, children}

-- the elements from a cursor on, each behind the other
unfoldable pub kids_within : ℕ → List ℕ → Option ℕ → List Element
kids_within zero text kid = []
kids_within (suc m) text None = []
kids_within (suc m) text (Some k) = the text k ∷ kids_within m text (next text k)

unfoldable pub kids : List ℕ → Option ℕ → List Element
kids text kid = kids_within (suc (length text)) text kid

-- a cursor in a row of children
pub record Walk (text : List ℕ) (kid : Option ℕ) : Type 0 where
  row : Siblings text kid (kids text kid)

left_done : (text : List ℕ) → left text None ≡ 0
unfolding left
left_done text = refl

pub left_fits : (text : List ℕ) (kid : Option ℕ) → left text kid ≤ length text
unfolding left
left_fits text None = omega arith
left_fits text (Some k) = omega arith

within_done : (m : ℕ) (text : List ℕ) → kids_within m text None ≡ []
unfolding kids_within
within_done zero text = refl
within_done (suc m) text = refl

within_child : (m : ℕ) (text : List ℕ) (k : ℕ) → kids_within (suc m) text (Some k) ≡ the text k ∷ kids_within m text (next text k)
unfolding kids_within
within_child m text k = refl

kids_row : {text : List ℕ} (m : ℕ) {kid : Option ℕ} {l : List Element} → left text kid < m → Siblings text kid l → kids_within m text kid ≡ l
kids_row {text} m h no_more = within_done m text
kids_row zero h (one_more st f r) = absurd (omega arith)
kids_row {text} (suc m) h (one_more {k} st f r) = within_child m text k ∙ ap (λ l. the text k ∷ l) (kids_row m (omega arith) r)

row_kids : {text : List ℕ} {kid : Option ℕ} {l : List Element} → Siblings text kid l → kids text kid ≡ l
unfolding kids
row_kids {text} {kid} r = kids_row (suc (length text)) (omega (arith, left_fits text kid)) r

walk_of : {text : List ℕ} {kid : Option ℕ} {l : List Element} → Siblings text kid l → Walk text kid
walk_of r = record { row = rw (row_kids r) r }

-- at the start: all children
pub walk_children : {text : List ℕ} {at : ℕ} → Stands text at → Walk text (first_child text at)
walk_children st = walk_of (children st)

pub kids_children : {text : List ℕ} {at : ℕ} → Stands text at → kids text (first_child text at) ≡ elements (contents_of (the text at))
kids_children st = row_kids (children st)

-- at the end: none
pub kids_done : (text : List ℕ) → kids text None ≡ []
unfolding kids
kids_done text = within_done (suc (length text)) text

-- at a child: it stands, and the rest is behind it
pub record Turn (text : List ℕ) (k : ℕ) : Type 0 where
  pub stands : Stands text k
  pub falls : left text (next text k) < left text (Some k)
  pub then : Walk text (next text k)
  pub splits : kids text (Some k) ≡ the text k ∷ kids text (next text k)

turn_row : {text : List ℕ} {k : ℕ} {l : List Element} → Siblings text (Some k) l → Turn text k
turn_row {text} {k} (one_more st f r) =
    record { stands = st; falls = f; then = walk_of r; splits = row_kids (one_more st f r) ∙ ap (λ l. the text k ∷ l) (sym (row_kids r)) }

pub walk_turn : {text : List ℕ} {k : ℕ} → Walk text (Some k) → Turn text k
walk_turn w = turn_row w.row

-- the same for a cursor `kid`, as a loop has it
module _ {text : List ℕ} {kid : Option ℕ} (w : Walk text kid) where
  pub walk_none : kid ≡ None → kids text kid ≡ []
  walk_none e = rw e (kids_done text)

  module _ {k : ℕ} (e : kid ≡ Some k) where
    pub turn_at : Turn text k
    turn_at = walk_turn (subst (λ (x : Option ℕ). Walk text x) e w)

    pub turn_splits : kids text kid ≡ the text k ∷ kids text (next text k)
    turn_splits = ap (kids text) e ∙ turn_at.splits

    pub turn_falls : left text (next text k) < left text kid
    turn_falls = rw e turn_at.falls
