-- The children of the element at a position.
use Rattle.std.specs.Prelude.{List, ℕ, zero, suc, ◌-◌, Bool, true, false, length, drop, Option, Some, None}
use Rattle.grammar.specs.Read.{Read, fail, got}
use Rattle.grammar.specs.Parser.{Look, at_close, at_comment, at_data, at_element, at_text, look, comment_at, data_at_lem}
use Rattle.nodes.specs.Scan.{to_tag, tag_at, skip_at}

-- ON BYTES: the next child in what is left of contents, behind characters, comments and CDATA; `n` is the length of the whole text
unfoldable pub kid_then : {A : Type 0} → Read A → (List ℕ → Option ℕ) → Option ℕ
kid_then fail more = None
kid_then (got u r) more = more r

unfoldable pub kid_by : Look → (List ℕ → Option ℕ) → ℕ → List ℕ → Option ℕ
kid_by at_close more n s = None
kid_by at_comment more n s = kid_then (comment_at s) more
kid_by at_data more n s = kid_then (data_at_lem s) more
kid_by at_element more n s = Some (n - length s)
kid_by at_text more n s = None

unfoldable pub kid_within : ℕ → ℕ → List ℕ → Option ℕ
kid_within zero n s = None
kid_within (suc m) n s = kid_by (look (to_tag s)) (kid_within m n) n (to_tag s)

unfoldable pub kid_at : ℕ → List ℕ → Option ℕ
kid_at n s = kid_within (suc (length s)) n s

-- the first child of the element at a position: any bytes
unfoldable pub first_by : ℕ → Read Bool → Option ℕ
first_by n fail = None
first_by n (got true r) = kid_at n r
first_by n (got false r) = None

unfoldable pub first_child : List ℕ → ℕ → Option ℕ
first_child text at = first_by (length text) (tag_at (drop at text))

-- the next child behind the element at a position: any bytes
unfoldable pub next : List ℕ → ℕ → Option ℕ
next text at = kid_then (skip_at (drop at text)) (kid_at (length text))
