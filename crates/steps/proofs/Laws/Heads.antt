-- The head of a tag, at a position of the text: one law for each way through the code.
use Rattle.std.specs.Prelude.{◌≡◌, ℕ, ◌+◌, ◌≤◌, ◌<◌, length, drop, get_or, Option, Some, None}
use mathlib.Core.List.{List, [], ◌∷◌}
use Rattle.std.proofs.Common.{ne_eqb}
use Rattle.grammar.specs.Bytes.{ascii, blank}
use Rattle.grammar.specs.Read.{bind, mark, span}
use Rattle.grammar.proofs.Laws.Read.{mark_other, mark_complete}
use Rattle.grammar.specs.Parser.{name_at, attributes_at}
use Rattle.steps.specs.Step.{stepped, Went}
use Rattle.steps.proofs.Laws.Step.{at_byte, at_end, arrives, refuses}
use Rattle.steps.proofs.Laws.Leaves.{name_tails}
use Rattle.steps.specs.Keys.{head, head_at}
use Rattle.steps.proofs.Laws.Keys.{attributes_tails}
use Rattle.steps.proofs.Laws.Keys.{stuck, step}
use Rattle.steps.proofs.Laws.Steps.{spanned}

module _ (text : List ℕ) (at : ℕ) where
  abbrev Heads : Option ℕ → Type 0
  Heads r = r ≡ stepped (length text) (head_at (drop at text))

  pub head_none : length text ≤ at → Heads None
  unfolding head_at mark bind
  head_none h = refuses (length text) (head_at (drop at text)) (rw (at_end text at h))

  module _ (h : at < length text) where
    pub head_other : (get_or text at 0 ≡ 60 → ⊥) → Heads None
    unfolding head_at bind
    head_other f = refuses (length text) (head_at (drop at text))
        (rw (at_byte text at h, mark_other 60 (get_or text at 0) [] (drop (at + 1) text) (ne_eqb (get_or text at 0) 60 f)))

    module _ (e : get_or text at 0 ≡ 60) {r₁ : Option ℕ} (s₁ : r₁ ≡ stepped (length text) (name_at (drop (at + 1) text))) where
      opened : drop at text ≡ 60 ∷ drop (at + 1) text
      opened = rw (at_byte text at h, e)

      pub head_no_name : r₁ ≡ None → Heads None
      unfolding head_at bind
      head_no_name k = refuses (length text) (head_at (drop at text))
          (rw (opened, mark_complete (ascii "<") (drop (at + 1) text), stuck name_at text (at + 1) s₁ k))

      module _ {i : ℕ} (e₁ : r₁ ≡ Some i) {r₂ : Option ℕ} (s₂ : r₂ ≡ stepped (length text) (attributes_at (drop i text))) where
        name : Went name_at text (at + 1) i
        name = step name_at text (at + 1) s₁ name_tails e₁

        pub head_no_list : r₂ ≡ None → Heads None
        unfolding head_at bind
        head_no_list k = refuses (length text) (head_at (drop at text))
            (rw (opened, mark_complete (ascii "<") (drop (at + 1) text), name.reads, stuck attributes_at text i s₂ k))

        pub head_all : {j : ℕ} → r₂ ≡ Some j → {to : ℕ} → Some to ≡ stepped (length text) (span blank (drop j text)) → Heads (Some to)
        unfolding head_at bind
        head_all {j} k {to} q =
            let list = step attributes_at text i s₂ attributes_tails k in
            let gap = spanned blank text j to q in
            arrives text (head_at (drop at text)) {a = head name.value list.value} to gap.inside
            (rw (opened, mark_complete (ascii "<") (drop (at + 1) text), name.reads, list.reads, gap.reads))
