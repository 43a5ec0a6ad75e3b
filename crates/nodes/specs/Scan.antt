-- Passing over what is known to be well formed: only tags matter. Total on any bytes.
use Rattle.std.specs.Prelude.{◌≡◌, List, [], ◌∷◌, ℕ, zero, suc, ◌≤◌, Bool, true, false, ◌&&◌, eqb, length, drop}
use Rattle.grammar.specs.Bytes.{ascii, quote}
use Rattle.grammar.specs.Read.{fail, got, Reader, bind, mark}
use Rattle.grammar.specs.Parser.{closing, comment_at, data_at_lem, Look, at_close, at_comment, at_data, at_element, at_text, look}
use Rattle.nodes.specs.Places.{pick}

-- from the first `<` on
unfoldable pub to_tag : List ℕ → List ℕ
to_tag [] = []
to_tag (a ∷ s) = pick (eqb a 60) (a ∷ s) (to_tag s)

-- up to the first `>`, and it
unfoldable pub past_tag : Reader (Unit {0})
past_tag [] = fail
past_tag (a ∷ s) = pick (eqb a 62) (got tt s) (past_tag s)

-- A start tag, behind `<`. The quote in which a byte stands: 0 is none.
unfoldable pub quoting : ℕ → ℕ → ℕ
quoting q a = pick (eqb q 0) (pick (quote a) a 0) (pick (eqb a q) 0 q)

-- `>` or `/`, outside of quotes
unfoldable pub finishes : ℕ → ℕ → Bool
finishes q a = eqb q 0 && closing a

-- whether the element is left open: by `>`, not by `/>`
unfoldable pub finish : ℕ → Reader Bool
finish a s = pick (eqb a 62) (got true s) (bind (mark (ascii ">") s) (λ _ r. got false r))

unfoldable pub tag_from : ℕ → Reader Bool
tag_from q [] = fail
tag_from q (a ∷ s) = pick (finishes q a) (finish a s) (tag_from (quoting q a) s)

-- from `at` to `to` the tag goes on in the quote
pub record Quoted (text : List ℕ) (q at to : ℕ) : Type 0 where
  pub ahead : at ≤ to
  pub same : tag_from q (drop at text) ≡ tag_from q (drop to text)

-- a whole start tag
unfoldable pub tag_at : Reader Bool
tag_at [] = fail
tag_at (a ∷ s) = tag_from 0 s

-- a place in the start tag at `at`, outside of quotes: the tag goes on there as it does from its start
pub record InTag (text : List ℕ) (at i : ℕ) : Type 0 where
  pub same_tag : tag_at (drop at text) ≡ tag_from 0 (drop i text)

-- The end of contents in which `d` elements are still open: the end tag behind them.
unfoldable pub scan_by : Look → (ℕ → Reader (Unit {0})) → ℕ → Reader (Unit {0})
scan_by at_close more zero s = got tt s
scan_by at_close more (suc d) s = bind (past_tag s) (λ _ r. more d r)
scan_by at_comment more d s = bind (comment_at s) (λ _ r. more d r)
scan_by at_data more d s = bind (data_at_lem s) (λ _ r. more d r)
scan_by at_element more d s = bind (tag_at s) (λ wide r. more (pick wide (suc d) d) r)
scan_by at_text more d s = fail

unfoldable pub scan_within : ℕ → ℕ → Reader (Unit {0})
scan_within zero d s = fail
scan_within (suc n) d s = scan_by (look (to_tag s)) (scan_within n) d (to_tag s)

unfoldable pub scan : ℕ → Reader (Unit {0})
scan d s = scan_within (suc (length s)) d s

-- the rest of an element's contents, and its end tag
unfoldable pub leave_at : Reader (Unit {0})
leave_at s = bind (scan 0 s) (λ _ r. past_tag r)

-- an element, from its `<` on
unfoldable pub passed : Bool → Reader (Unit {0})
passed true s = leave_at s
passed false s = got tt s

unfoldable pub skip_at : Reader (Unit {0})
skip_at s = bind (tag_at s) (λ wide r. passed wide r)
