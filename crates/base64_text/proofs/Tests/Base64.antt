-- RFC 4648's own rows, and what is no Base64, computed.
use Rattle.std.specs.Prelude.{◌≡◌, refl, List, [], ◌∷◌, true, not, pos, negsuc, Some}
use Prim.Native.String.{String}
use Rattle.lists.specs.Lists.{lists, all, each}
use Rattle.grammar.specs.Bytes.{ascii, blank}
use Rattle.grammar.specs.Look.{Word}
use Rattle.base64_text.specs.Base64.{base64, encode, bytes_in, coded}
use Rattle.base64_text.specs.Fours.{fours, big, little, coded_keys, coded_bytes}

unfoldable rows : List String → List Word
rows l = each ascii l

written : each encode (rows ("" ∷ "f" ∷ "fo" ∷ "foo" ∷ "foob" ∷ "fooba" ∷ "foobar" ∷ []))
    ≡ rows ("" ∷ "Zg==" ∷ "Zm8=" ∷ "Zm9v" ∷ "Zm9vYg==" ∷ "Zm9vYmE=" ∷ "Zm9vYmFy" ∷ [])
unfolding base64 lists rows
written = refl

found : each bytes_in (rows ("" ∷ " Z g = =\n" ∷ "Zm9v\nYmE=" ∷ [])) ≡ each Some (rows ("" ∷ "f" ∷ "fooba" ∷ []))
unfolding base64 lists blank rows
found = refl

-- padding left out or too much, spare bits that are set, text behind the padding, other letters
none_found : all (λ s. not (coded (ascii s)))
    ("Zg" ∷ "Zg=" ∷ "Zg===" ∷ "=" ∷ "====" ∷ "Z===" ∷ "Zh==" ∷ "Zm9=" ∷ "Zg==Zg==" ∷ "Zm8=Zm9v" ∷ "Zm9v=" ∷ "Zm-_" ∷ "Zm9v,"
    ∷ "Zm9vYmF" ∷ [])
    ≡ true
unfolding base64 lists blank
none_found = refl

keys_found : (coded_keys little (ascii "AQAAAP////8AAACA") ≡ pos 1 ∷ negsuc 0 ∷ negsuc 2147483647 ∷ [])
    × ((coded_keys big (ascii "AAAAAf////+AAAAA") ≡ pos 1 ∷ negsuc 0 ∷ negsuc 2147483647 ∷ [])
    × ((coded_keys big (ascii "AAAAAQA=") ≡ pos 1 ∷ []) × (coded_bytes (ascii "AAAAAQA=") ≡ 5)))
unfolding base64 fours lists blank
keys_found = (refl, (refl, (refl, refl)))
