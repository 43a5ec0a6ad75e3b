-- What a look at a place of the text finds.
use Rattle.std.specs.Prelude.{◌≡◌, List, ℕ, Bool, eqb, length, drop, get_or, Option, Some, None}
use Rattle.std.proofs.Common.{ap, ◌∙◌, Bor}
use Rattle.std.specs.Option.{option_eq}
use Rattle.std.specs.Slice.{IsItemAt}
use Rattle.grammar.specs.Bytes.{blank}
use Rattle.grammar.specs.Read.{span}
use Rattle.grammar.specs.Parser.{ends, asking}
use Rattle.steps.specs.Step.{stepped}
use Rattle.steps.proofs.Laws.Steps.{ends_none, asking_some}

abbrev same_byte : Bor ℕ → Bor ℕ → Bool
same_byte x y = eqb x.now y.now

pub asks_there : (text : List ℕ) (at i : ℕ) → Some i ≡ stepped (length text) (span blank (drop at text))
    → (r : Option (Bor ℕ)) → IsItemAt text i r → {t : Bool} (v : Bor ℕ) → v.now ≡ 63 → t ≡ option_eq same_byte r (Some v) → t ≡ ends asking (drop at text)
asks_there text at i q None there v w e = e ∙ ends_none asking text at i q there.3
asks_there text at i q (Some x) there v w e = e ∙ ap (λ b. eqb b v.now) (there.3.1 0) ∙ ap (λ n. eqb (get_or text i 0) n) w ∙ asking_some text at i q there.3.0
