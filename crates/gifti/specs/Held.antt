-- WHAT A DOCUMENT HOLDS THAT PASSES 6, 29 AND 7: one table whose keys are in form, and arrays with one Data each, in its encoding's form.
use Rattle.std.specs.Prelude.{◌≡◌, List, [], ◌∷◌, true, false}
use Rattle.grammar.specs.Document.{Element}
use Rattle.grammar.specs.Look.{attr, children, text_of}
use Rattle.numbers.specs.Numbers.{whole, key_list}
use Rattle.base64_text.specs.Base64.{coded}
use Rattle.cifti.specs.LabelTable.{keys_right}
use Rattle.gifti.specs.Arrays.{is_coded, label_tables}

-- of the root
pub record GoodTable (e : Element) : Type 0 where
  pub table : Element
  pub one_table : label_tables e ≡ table ∷ []
  pub keys_right_lem : keys_right table ≡ true

-- an array that is as its row says
pub record GoodArray (a : Element) : Type 0 where
  pub held : Element
  pub one_data : children "Data" a ≡ held ∷ []
  pub length_said : whole 1 1048576 (attr "Dim0" a) ≡ true
  pub plain : is_coded a ≡ false → key_list (text_of held) ≡ true
  pub bytes : is_coded a ≡ true → coded (text_of held) ≡ true

pub data GoodArrays : List Element → Type 0 where
  no_array_lem : GoodArrays []
  one_array : {a : Element} {l : List Element} → GoodArray a → GoodArrays l → GoodArrays (a ∷ l)
