-- A DOCUMENT IS AS THE PAPER SAYS: a name is a name, no name stands twice in a tag, at most 16 attributes, runs are never empty and never
-- side by side, elements at most 16 deep. And it holds no carriage return.
use Rattle.std.specs.Prelude.{List, ◌∷◌, ℕ, suc, ◌≤◌, length}
use Rattle.std.proofs.Common.{subst}
use Rattle.grammar.specs.Document.{Attribute, Element, Contents}
use Rattle.grammar.specs.Grammar.{Name, Distinct}
use Rattle.grammar.specs.Erased.{Node, node, Nodes, none, inner, characters, erased, erased_all, WritesDocument}
use Rattle.grammar.proofs.Laws.Tidy
use Rattle.grammar.proofs.Laws.Tidy.{NoRun, NoReturn, NoReturns, TidyElement, Tidy, writes_tidy}

-- contents that do not begin with a run
pub data NoCharacters : Nodes → Type 0 where
  at_none : NoCharacters none
  at_inner : {d : Node} {c : Nodes} → NoCharacters (inner d c)

mutual
  pub data TidyNode : ℕ → Node → Type 0 where
    tidy_node : {d : ℕ} {n : List ℕ} {l : List Attribute} {c : Nodes} → Name n → Distinct l → length l ≤ 16 → NoReturns l
        → TidyNodes d c → TidyNode (suc d) (node n l c)

  pub data TidyNodes : ℕ → Nodes → Type 0 where
    tidy_none : {d : ℕ} → TidyNodes d none
    tidy_inner : {d : ℕ} {e : Node} {c : Nodes} → TidyNode d e → TidyNodes d c → TidyNodes d (inner e c)
    tidy_characters : {d : ℕ} {a : ℕ} {w : List ℕ} {c : Nodes} → NoCharacters c → NoReturn (a ∷ w) → TidyNodes d c
        → TidyNodes d (characters (a ∷ w) c)

no_characters : {c : Contents} → NoRun c → NoCharacters (erased_all c)
unfolding erased
no_characters Tidy.no_contents = at_none
no_characters Tidy.no_run = at_inner

node_tidy : {d : ℕ} {e : Element} → TidyElement d e → TidyNode d (erased e)
unfolding erased
node_tidy t = elim t as (λ d e _. TidyNode d (erased e)) (λ d c _. TidyNodes d (erased_all c)) [
  | Tidy.tidy_element nm di le nr (c → ih) ↦ tidy_node nm di le nr ih
  | Tidy.tidy_nothing ↦ tidy_none
  | Tidy.tidy_child (e → ih₁) (c → ih₂) ↦ tidy_inner ih₁ ih₂
  | Tidy.tidy_run h nr (c → ih) ↦ tidy_characters (no_characters h) nr ih
]

pub documents_tidy : {d : Node} {s : List ℕ} → WritesDocument d s → TidyNode 16 d
documents_tidy w = subst (λ (x : Node). TidyNode 16 x) w.same (node_tidy (writes_tidy w.writes))
