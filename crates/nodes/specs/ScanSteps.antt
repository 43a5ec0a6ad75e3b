-- The scan as a program takes it: what it answers at each turn.
use Rattle.std.specs.Prelude.{List, ℕ, ◌-◌, Bool, true, false, length, Option, Some, None}
use Rattle.grammar.specs.Read.{Read, fail, got}
use Rattle.grammar.specs.Parser.{comment_at, data_at_lem, Look, at_close, at_comment, at_data, at_element, at_text, look}
use Rattle.nodes.specs.Scan.{tag_at}
use Rattle.nodes.specs.declared.scan.Tag.{Tag}
use Rattle.nodes.specs.declared.scan.Tag.TheVariants as tag_is
use Rattle.nodes.specs.declared.scan.Sign.{Sign}
use Rattle.nodes.specs.declared.scan.Sign.TheVariants as sign-is

unfoldable pub tag_told : ℕ → Read Bool → Option Tag
tag_told n fail = None
tag_told n (got true r) = Some (tag_is.Open (n - length r))
tag_told n (got false r) = Some (tag_is.Bare (n - length r))

-- what stands where contents go on with a tag, and what is left
pub data Mark : Type 0 where
  closes : List ℕ → Mark
  opens : List ℕ → Mark
  flat : List ℕ → Mark
  none : Mark

unfoldable pub flat_of : {A : Type 0} → Read A → Mark
flat_of fail = none
flat_of (got u r) = flat r

unfoldable pub mark_of : Read Bool → Mark
mark_of fail = none
mark_of (got true r) = opens r
mark_of (got false r) = flat r

unfoldable pub sign_by : Look → List ℕ → Mark
sign_by at_close s = closes s
sign_by at_comment s = flat_of (comment_at s)
sign_by at_data s = flat_of (data_at_lem s)
sign_by at_element s = mark_of (tag_at s)
sign_by at_text s = none

unfoldable pub sign : List ℕ → Mark
sign s = sign_by (look s) s

unfoldable pub sign_told : ℕ → Mark → Option Sign
sign_told n (closes s) = Some (sign-is.Close (n - length s))
sign_told n (opens r) = Some (sign-is.Open (n - length r))
sign_told n (flat r) = Some (sign-is.Flat (n - length r))
sign_told n none = None
