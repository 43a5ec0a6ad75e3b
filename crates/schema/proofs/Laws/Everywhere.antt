-- What is proved of Walk.
use Rattle.std.specs.Prelude.{◌≡◌, refl, Bool, true, false, ◌||◌}
use Rattle.std.proofs.Common.{ap, ◌∙◌}
use Prim.Native.String.{String}
use Rattle.lists.specs.Lists.{any}
use Rattle.grammar.specs.Document.{Element, element, Contents, nothing, child as inside, run}
use Rattle.grammar.specs.Look.{is, name_of, elements, contents_of}
use Rattle.schema.specs.Schema.{below, below_in}

-- WHAT STANDS BELOW, one element at a time: a child has the name, or it stands below a child
unfoldable pub called : String → Element → Bool
called s e = is s (name_of e)

below_in_lem : (s : String) (c : Contents) → below_in s c ≡ (any (called s) (elements c) || any (below s) (elements c))
unfolding below_in any elements called
below_in_lem s nothing = refl
below_in_lem s (run w c) = below_in_lem s c
below_in_lem s (inside e c) =
    ap (λ b. (is s (name_of e) || below s e) || b) (below_in_lem s c)
    ∙ go (is s (name_of e)) (below s e) (any (called s) (elements c)) (any (below s) (elements c))
  where
    go : (a b c d : Bool) → ((a || b) || (c || d)) ≡ ((a || c) || (b || d))
    go true b c d = refl
    go false true true d = refl
    go false true false d = refl
    go false false c d = refl

pub below_children : (s : String) (e : Element)
    → below s e ≡ (any (called s) (elements (contents_of e)) || any (below s) (elements (contents_of e)))
unfolding below contents_of
below_children s (element n l c w) = below_in_lem s c
