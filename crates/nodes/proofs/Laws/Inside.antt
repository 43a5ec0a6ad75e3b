-- What is proved of Inside.
use Rattle.std.specs.Prelude.{◌≡◌, List, ℕ, drop}
use Rattle.std.proofs.Common.{◌∙◌}
use Rattle.grammar.specs.Document.{Attribute, Element}
use Rattle.grammar.specs.Look.{within_of}
use Rattle.grammar.specs.Read.{got}
use Rattle.nodes.specs.Places.{Stands, the}
use Rattle.nodes.proofs.Laws.ReadSteps.{Ending, bare, filled, spelled}
use Rattle.nodes.specs.Scan.{tag_from, scan}
use Rattle.nodes.proofs.Laws.Skipping.{tag_read, tag_bare, tag_filled, closes, scan_ends, scan_contents, name_of_lem}
use Rattle.grammar.specs.Grammar.{Name}
use Rattle.nodes.specs.Inside.{up_to, within_by, between_tags}

ending_within : (n : List ℕ) → Name n → {l : List Attribute} {s : List ℕ} {e : Element} {r : List ℕ} → Ending n l s e r
    → within_by (tag_from 0 s) ≡ within_of e
unfolding within_by within_of up_to
ending_within n h₀ {r = r} (bare k q) = rw (k, tag_bare r, q)
ending_within n h₀ (filled {t} {behind} {c} k h z q) =
    let m : scan 0 t ≡ got tt behind = scan_contents t c behind h 0 ∙ scan_ends (closes n behind _ h₀ z) in
    rw (k, tag_filled t, q, m)

-- THE LAW OF WHAT IS WITHIN
pub within_law : {text : List ℕ} {at : ℕ} → Stands text at → between_tags text at ≡ within_of (the text at)
unfolding between_tags
within_law {text} {at} st =
    let p = spelled (drop at text) (the text at) st.rest st.reads in
    rw (tag_read p) (ending_within p.name (name_of_lem p) p.ending)
