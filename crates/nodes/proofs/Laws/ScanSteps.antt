-- What is proved of ScanSteps.
use Rattle.std.specs.Prelude.{◌≡◌, refl, List, ℕ, zero, suc, Bool, true, false}
use Rattle.std.proofs.Common.{◌∙◌}
use Rattle.grammar.specs.Read.{Read, fail, got, bind}
use Rattle.grammar.specs.Parser.{comment_at, data_at_lem, Look, at_close, at_comment, at_data, at_element, at_text, look}
use Rattle.nodes.specs.Places.{pick}
use Rattle.nodes.specs.Scan.{to_tag, past_tag, tag_at, scan_by, scan}
use Rattle.nodes.proofs.Laws.Scanned.{scan_step}
use Rattle.nodes.specs.ScanSteps.{Mark, flat, closes, opens, none, flat_of, mark_of, sign_by, sign}

-- how the scan goes on
unfoldable pub go_on : Mark → ℕ → Read (Unit {0})
go_on (closes s) zero = got tt s
go_on (closes s) (suc d) = bind (past_tag s) (λ _ r. scan d r)
go_on (opens r) d = scan (suc d) r
go_on (flat r) d = scan d r
go_on none d = fail

flat_on : {A : Type 0} (m : Read A) (d : ℕ) → bind m (λ _ r. scan d r) ≡ go_on (flat_of m) d
unfolding bind flat_of go_on
flat_on fail d = refl
flat_on (got u r) d = refl

mark_on : (m : Read Bool) (d : ℕ) → bind m (λ wide r. scan (pick wide (suc d) d) r) ≡ go_on (mark_of m) d
unfolding bind mark_of go_on
mark_on fail d = refl
mark_on (got true r) d = refl
mark_on (got false r) d = refl

by_on : (l : Look) (d : ℕ) (s : List ℕ) → scan_by l scan d s ≡ go_on (sign_by l s) d
unfolding scan_by sign_by go_on
by_on at_close zero s = refl
by_on at_close (suc d) s = refl
by_on at_comment d s = flat_on (comment_at s) d
by_on at_data d s = flat_on (data_at_lem s) d
by_on at_element d s = mark_on (tag_at s) d
by_on at_text d s = refl

pub scan_on : (d : ℕ) (s : List ℕ) → scan d s ≡ go_on (sign (to_tag s)) d
unfolding sign
scan_on d s = scan_step d s ∙ by_on (look (to_tag s)) d (to_tag s)
