-- THE ORDER: of keys and of label names the number given is that of a row that applies, and no row before it does; or none applies.
use Rattle.std.proofs.Common.{sym, subst, Option}
use Rattle.std.specs.Prelude.{List, [], ◌∷◌, ◌++◌, ℕ, ℤ, length}
use Rattle.lists.specs.Refusals.{Refusal, ◌when◌, first, FirstOf}
use Rattle.lists.proofs.Laws.Refusals.{refusal_first}
use Rattle.grammar.specs.Document.{Element}
use Rattle.cifti.specs.Conditions.{of_maps}
use Rattle.cifti.specs.Labels.{labels_refusals, keys_short, keys_refusal, no_key, label_refusal, Keys, LabelNumber}
use Rattle.cifti.specs.Text.{Answers}

-- 1 to 9, 24, 25, 18, and then 17 or 19
abbrev pub keys_rows : (lengths : List ℕ) (size dimension index room : ℕ) → Option Element → List Refusal
keys_rows lengths size d i room e = labels_refusals lengths size d i e ++ (17 when of_maps (keys_short d i room) e ∷ [])

abbrev pub label_rows : (lengths : List ℕ) (size dimension index : ℕ) (key : ℤ) → Option Element → List Refusal
label_rows lengths size d i k e = labels_refusals lengths size d i e ++ (19 when of_maps (no_key d i k) e ∷ [])

by_first : {text : List ℕ} {number : ℕ} (rows : Option Element → List Refusal) (r : Answers text (λ e. first (rows e)) number)
    → FirstOf (rows r.document) number
by_first rows r = subst (FirstOf (rows r.document)) (sym r.answered) (refusal_first (rows r.document))

pub keys_first : {text lengths : List ℕ} {d i : ℕ} {keys : List ℤ} {number count : ℕ} {after : List ℤ}
    (r : Keys text lengths d i keys number count after)
    → FirstOf (keys_rows lengths (length text) d i (length keys) r.numbered.document) number
unfolding keys_refusal
keys_first {text} {lengths} {d} {i} {keys} r = by_first (keys_rows lengths (length text) d i (length keys)) r.numbered

pub label_first : {text lengths : List ℕ} {d i : ℕ} {key : ℤ} {number : ℕ} (r : LabelNumber text lengths d i key number)
    → FirstOf (label_rows lengths (length text) d i key r.asked.document) number
unfolding label_refusal
label_first {text} {lengths} {d} {i} {key} r = by_first (label_rows lengths (length text) d i key) r.asked
