-- Tables of labels, computed: one key written in two ways, the names of a key.
use Rattle.std.specs.Prelude.{◌≡◌, refl, [], ◌∷◌, true, false, pos, negsuc, Option, Some, None}
use Prim.Native.String.{String}
use Rattle.lists.specs.Lists.{lists}
use Rattle.grammar.specs.Bytes.{ascii}
use Rattle.grammar.specs.Document.{Element}
use Rattle.grammar.specs.Parser.{parse, computing}
use Rattle.grammar.specs.Look.{looks}
use Rattle.numbers.specs.Numbers.{numbers}
use Rattle.cifti.specs.LabelTable.{label_words, keys_right, table_keys, key_twice_in, names_with}

unfoldable told : {A : Type 0} → A → (Element → A) → Option Element → A
told a f None = a
told a f (Some e) = f e

unfoldable asked : {A : Type 0} → A → (Element → A) → String → A
asked a f s = told a f (parse (ascii s))

unfoldable table : String
table = "<LabelTable><Label Key='5'>A</Label><!-- --><Label Key='-2147483648'/><Other Key='5'/><Label Key='05'>C&lt;D</Label></LabelTable>"

keys : asked [] table_keys table ≡ pos 5 ∷ negsuc 2147483647 ∷ pos 5 ∷ []
unfolding told asked table computing lists looks numbers label_words
keys = refl

five_twice : asked false key_twice_in table ≡ true
unfolding told asked table computing lists looks numbers label_words
five_twice = refl

in_form_lem : asked false keys_right table ≡ true
unfolding told asked table computing lists looks numbers label_words
in_form_lem = refl

names : asked [] (names_with (pos 5)) table ≡ ascii "A" ∷ ascii "C&lt;D" ∷ []
unfolding told asked table computing lists looks numbers label_words
names = refl

no_name_lem : (asked [] (names_with (negsuc 2147483647)) table ≡ [] ∷ []) × (asked [] (names_with (pos 4)) table ≡ [])
unfolding told asked table computing lists looks numbers label_words
no_name_lem = (refl, refl)

zero_twice : asked false key_twice_in "<LabelTable><Label Key='0'/><Label Key='-0'/></LabelTable>" ≡ true
unfolding told asked computing lists looks numbers label_words
zero_twice = refl

once : asked true key_twice_in "<LabelTable><Label Key='0'/><Label Key='-1'/><Label Key='1'/></LabelTable>" ≡ false
unfolding told asked computing lists looks numbers label_words
once = refl

empty : (asked true key_twice_in "<LabelTable/>" ≡ false) × (asked (pos 1 ∷ []) table_keys "<LabelTable/>" ≡ [])
unfolding told asked computing lists looks numbers label_words
empty = (refl, refl)
