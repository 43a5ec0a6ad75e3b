-- A LOOP OVER THE CHILDREN OF AN ELEMENT: what is known of the children that are ahead, from the first to the last.
-- At the start all children are ahead; each turn takes one from the front; at the end none is left.
use Rattle.std.specs.Prelude.{◌≡◌, refl, List, [], ◌∷◌, Bool, true, ℕ, ◌≤◌, ◌<◌, length, drop, Option, Some, None}
use Rattle.std.proofs.Common.{sym, ◌∙◌, true≢false, arith}
use Rattle.lists.specs.Lists.{all}
use Rattle.grammar.specs.Bytes.{blank}
use Rattle.grammar.specs.Document.{Element}
use Rattle.grammar.specs.Look.{contents_of, elements}
use Rattle.grammar.specs.Read.{Read}
use Rattle.nodes.specs.Places.{Stands, the}
use Rattle.nodes.specs.Scan.{skip_at, leave_at}
use Rattle.nodes.proofs.Laws.Skipping.{skip_element}
use Rattle.nodes.specs.Children.{first_child, next}
use Rattle.nodes.proofs.Laws.Children.{left, Siblings, no_more, one_more, children}
use Rattle.nodes.specs.ElementEnd.{Behind}
use Rattle.nodes.proofs.Laws.ElementEnd.{next_behind}
use Rattle.nodes.proofs.Laws.TextBytes.{says}
use Rattle.nodes.specs.Texts.{text_of_lem}
use Rattle.nodes.specs.Ahead.{ahead_at, first_ahead}
use Rattle.nodes.proofs.Laws.AheadElements.{Facing, facing, facing_first, Met, Over, facing_child, facing_end, facing_stray}
use Rattle.nodes.proofs.Laws.AheadElements.{behind_leaves}
use Rattle.nodes.proofs.Laws.AheadElements.{left_ahead, facing_left}
use Rattle.nodes.proofs.Laws.Walk.{kids, Walk, Turn, walk_children, kids_children, walk_none, turn_at, turn_splits, turn_falls}
use Rattle.nodes.proofs.Laws.Walk.{left_fits}
use Rattle.nodes.specs.declared.ahead.Ahead.{Ahead}
use Rattle.nodes.specs.declared.ahead.Ahead.TheVariants as ahead-is

-- an element has no more children than the text has bytes
row_few : {text : List ℕ} {kid : Option ℕ} {l : List Element} → Siblings text kid l → length l ≤ left text kid
row_few no_more = omega arith
row_few (one_more st f r) = omega (arith, row_few r)

pub children_few : {text : List ℕ} {at : ℕ} → Stands text at → length (elements (contents_of (the text at))) ≤ length text
children_few {text} {at} st = omega (arith, row_few (children st), left_fits text (first_child text at))

-- ---- By the first child and the next.

-- P of the children that are ahead, at a cursor
pub record Along (text : List ℕ) (P : List Element → Type 0) (kid : Option ℕ) : Type 0 where
  pub walk : Walk text kid
  pub ahead : P (kids text kid)

module _ {text : List ℕ} {P : List Element → Type 0} where
  pub along_start : {at : ℕ} → Stands text at → P (elements (contents_of (the text at))) → {kid : Option ℕ} → kid ≡ first_child text at
      → Along text P kid
  along_start st p e = rw e (record { walk = walk_children st; ahead = rw (kids_children st) p })

  module _ {kid : Option ℕ} (go : Along text P kid) where
    pub along_done : kid ≡ None → P []
    along_done e = rw (walk_none go.walk e) at go.ahead

    module _ {k : ℕ} (is_child : kid ≡ Some k) where
      turn : Turn text k
      turn = turn_at go.walk is_child

      pub along_stands : Stands text k
      along_stands = turn.stands

      -- what is known of the child and those behind it
      pub along_here : P (the text k ∷ kids text (next text k))
      along_here = rw (turn_splits go.walk is_child) at go.ahead

      pub along_less : {kid₁ : Option ℕ} → kid₁ ≡ next text k → left text kid₁ < left text kid
      along_less e = rw e (turn_falls go.walk is_child)

      pub along_next : {Q : List Element → Type 0} → ((l : List Element) → P (the text k ∷ l) → Q l) → {kid₁ : Option ℕ} → kid₁ ≡ next text k
          → Along text Q kid₁
      along_next f e = rw e (record { walk = turn.then; ahead = f (kids text (next text k)) along_here })

-- ---- By what stands ahead: the end tells the place behind the element.

-- the same, where `words` says whether characters may stand among the children
pub record AlongAhead (text : List ℕ) (at : ℕ) (words : Bool) (P : List Element → Type 0) (next : Ahead) : Type 0 where
  pub stands : Stands text at
  pub kid : Option ℕ
  pub blanks : Bool
  pub leaves : Read (Unit {0})
  pub facing : Facing text words blanks leaves kid next
  pub leave_so : skip_at (drop at text) ≡ leaves
  pub along : Along text P kid

module _ {text : List ℕ} {at : ℕ} {words : Bool} {P : List Element → Type 0} where
  pub ahead_start : Stands text at → P (elements (contents_of (the text at))) → {next : Ahead} → next ≡ first_ahead words text at
      → AlongAhead text at words P next
  ahead_start st p e =
      rw e (record {
        stands = st;
        kid = first_child text at;
        blanks = all blank (text_of_lem text at);
        leaves = skip_at (drop at text);
        facing = facing_first text words at;
        leave_so = refl;
        along = along_start st p refl;
      })

  module _ {next₀ : Ahead} (go : AlongAhead text at words P next₀) where
    -- where words may stand, nothing is stray
    pub ahead_never : words ≡ true → {A : Type 0} → next₀ ≡ ahead-is.Stray → A
    ahead_never t e =
        let st = go.stands in
        let ends = skip_element (drop at text) (the text at) st.rest st.reads in
        let (w, _) = facing_stray go.facing e st.rest (sym go.leave_so ∙ ends) in
        absurd (true≢false (sym t ∙ w))

    module _ {j : ℕ} (ends : next₀ ≡ ahead-is.End j) where
      over : Over text words go.blanks go.leaves go.kid j
      over = facing_end go.facing ends

      pub ahead_done : P []
      ahead_done = along_done go.along over.no_next

      pub ahead_ends : Behind text at j
      ahead_ends = record { ends = go.leave_so ∙ over.ends; inside = over.inside; after = over.after }

    module _ {k : ℕ} (is_child : next₀ ≡ ahead-is.Child k) where
      met : Met text words go.blanks go.leaves go.kid k
      met = facing_child go.facing is_child

      pub ahead_stands : Stands text k
      ahead_stands = along_stands go.along met.is_next

      pub ahead_here : P (the text k ∷ kids text (next text k))
      ahead_here = along_here go.along met.is_next

      module _ {j : ℕ} (b : Behind text k j) {next₁ : Ahead} (e : next₁ ≡ ahead_at words (length text) (drop j text)) where
        onward : Facing text words (all blank (says (drop j text))) (leave_at (drop j text)) (next text k) next₁
        onward = rw (e, next_behind b) (facing text words j)

        pub ahead_less : left_ahead text next₁ < left_ahead text next₀
        unfolding left_ahead left
        ahead_less = rw is_child (let f = facing_left onward in let d = (turn_at go.along.walk met.is_next).falls in omega arith)

        pub ahead_next : {Q : List Element → Type 0} → ((l : List Element) → P (the text k ∷ l) → Q l) → AlongAhead text at words Q next₁
        ahead_next f = record {
          stands = go.stands;
          kid = next text k;
          blanks = all blank (says (drop j text));
          leaves = leave_at (drop j text);
          facing = onward;
          leave_so = go.leave_so ∙ met.leaves_so ∙ behind_leaves ahead_stands b met.looks;
          along = along_next go.along met.is_next f refl;
        }
