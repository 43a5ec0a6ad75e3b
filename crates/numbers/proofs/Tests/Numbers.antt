-- The limits from both sides, computed.
use Rattle.std.specs.Prelude.{◌≡◌, refl, List, [], ◌∷◌, Bool, true, false, not, pos, negsuc}
use Prim.Native.String.{String}
use Rattle.grammar.specs.Bytes.{ascii}
use Rattle.grammar.specs.Look.{Word}
use Rattle.lists.specs.Lists.{lists, all}
use Rattle.numbers.specs.Numbers.{numbers, whole}
use Rattle.numbers.specs.Numbers.{volume_dimensions, dimension_list, exponent, exponent_value}
use Rattle.numbers.specs.Numbers.{decimal, decimal_value, equal_to, at_most, wholes, values}
use Rattle.numbers.specs.Numbers.{sixteen, key_value, key, key_list, listed_keys, same_key, colour}

-- every text of the list passes, or none does
abbrev Every : (Word → Bool) → List String → Type 0
Every p l = all (λ s. p (ascii s)) l ≡ true

abbrev None : (Word → Bool) → List String → Type 0
None p l = all (λ s. not (p (ascii s))) l ≡ true

whole_yes : Every (whole 0 1048576) ("0" ∷ "7" ∷ "0000007" ∷ "1048575" ∷ "1048576" ∷ [])
unfolding numbers lists
whole_yes = refl

whole_no : None (whole 0 1048576) ("" ∷ "00000007" ∷ "1048577" ∷ "9999999" ∷ "+1" ∷ "-1" ∷ "-0" ∷ " 1" ∷ "1 " ∷ "1,2" ∷ "1.0" ∷ "a" ∷ "/"
    ∷ ":" ∷ [])
unfolding numbers lists
whole_no = refl

from_one : (whole 1 9999999 (ascii "0") ≡ false) × ((whole 1 9999999 (ascii "1") ≡ true) × (whole 1 9999999 (ascii "9999999") ≡ true))
unfolding numbers lists
from_one = (refl, (refl, refl))

lists_yes : Every dimension_list ("0" ∷ "9" ∷ "0,1" ∷ "1,1,1" ∷ [])
unfolding numbers lists
lists_yes = refl

lists_no : None dimension_list ("" ∷ "10" ∷ "0," ∷ ",0" ∷ "0,,1" ∷ "0, 1" ∷ "-1" ∷ "x" ∷ [])
unfolding numbers lists
lists_no = refl

lengths_yes : Every (volume_dimensions 2048 2048 4096) ("1,1,1" ∷ "2048,2048,4096" ∷ "0000001,2,3" ∷ [])
unfolding numbers lists
lengths_yes = refl

lengths_no : None (volume_dimensions 2048 2048 4096)
    ("" ∷ "1,1" ∷ "1,1,1,1" ∷ "0,1,1" ∷ "2049,1,1" ∷ "1,2049,1" ∷ "1,1,4097" ∷ "1, 1,1" ∷ "1,1,1," ∷ [])
unfolding numbers lists
lengths_no = refl

exponents_yes : Every (exponent 30) ("0" ∷ "-0" ∷ "30" ∷ "-30" ∷ "05" ∷ "-3" ∷ [])
unfolding numbers lists
exponents_yes = refl

exponents_no : None (exponent 30) ("" ∷ "-" ∷ "31" ∷ "-31" ∷ "030" ∷ "+3" ∷ "--3" ∷ "3.0" ∷ [])
unfolding numbers lists
exponents_no = refl

exponent_values : (exponent_value (ascii "-30") ≡ negsuc 29) × ((exponent_value (ascii "-0") ≡ pos 0) × (exponent_value (ascii "07") ≡ pos 7))
unfolding numbers
exponent_values = (refl, (refl, refl))

-- keys: both limits, from both sides; ten digits and eleven; one key by value
keys_yes : Every key ("0" ∷ "-0" ∷ "5" ∷ "05" ∷ "0000000005" ∷ "-0000000005" ∷ "2147483647" ∷ "-2147483648" ∷ [])
unfolding numbers lists
keys_yes = refl

keys_no : None key ("" ∷ "-" ∷ "2147483648" ∷ "-2147483649" ∷ "9999999999" ∷ "00000000005" ∷ "-00000000000" ∷ "+5" ∷ "--5" ∷ " 5" ∷ "5 "
    ∷ "5.0" ∷ "1E0" ∷ "a" ∷ [])
unfolding numbers lists
keys_no = refl

key_values : (key_value (ascii "-2147483648") ≡ negsuc 2147483647) × ((key_value (ascii "2147483647") ≡ pos 2147483647)
    × ((key_value (ascii "05") ≡ pos 5) × ((key_value (ascii "-0") ≡ pos 0) × (key_value (ascii "-1") ≡ negsuc 0))))
unfolding numbers
key_values = (refl, (refl, (refl, (refl, refl))))

one_key : (same_key (key_value (ascii "5")) (key_value (ascii "05")) ≡ true) × ((same_key (key_value (ascii "0")) (key_value (ascii "-0")) ≡ true)
    × ((same_key (key_value (ascii "5")) (key_value (ascii "-5")) ≡ false) × (same_key (key_value (ascii "0")) (key_value (ascii "-1")) ≡ false)))
unfolding numbers
one_key = (refl, (refl, (refl, refl)))

decimals_yes : Every decimal ("0" ∷ "-0" ∷ "-0.0" ∷ "+2.0" ∷ "2.0" ∷ "123456789012345" ∷ "1.23456789012345" ∷ "-12345678901234.5"
    ∷ "000000000000000" ∷ [])
unfolding numbers lists
decimals_yes = refl

decimals_no : None decimal ("" ∷ "." ∷ ".5" ∷ "5." ∷ "-" ∷ "+" ∷ "+-1" ∷ "1.2.3" ∷ "1234567890123456" ∷ "1.234567890123456"
    ∷ "123456789012345.6" ∷ "1 " ∷ " 1" ∷ "-.5" ∷ [])
unfolding numbers lists
decimals_no = refl

-- powers, their limit from both sides, after the places are subtracted
powers_yes : Every decimal ("7.2E-1" ∷ "7.2e-1" ∷ "1.5E+1" ∷ "1E5" ∷ "1E05" ∷ "1E-5" ∷ "1E0" ∷ "1E-0" ∷ "-1E+00" ∷ "1E45" ∷ "1E-45"
    ∷ "1.0E46" ∷ "1.0E-44" ∷ "0E45" ∷ "123456789012345E-30" ∷ "1.23456789012345E59" ∷ "1.23456789012345e-31" ∷ [])
unfolding numbers lists
powers_yes = refl

powers_no : None decimal ("1E46" ∷ "1E-46" ∷ "1.0E47" ∷ "1.0E-45" ∷ "0E46" ∷ "0.0E-45" ∷ "-0E-46" ∷ "1E99" ∷ "1.23456789012345E60"
    ∷ "1.23456789012345E-32" ∷ "1E005" ∷ "1E" ∷ "1E+" ∷ "1E-" ∷ "1E 5" ∷ "1 E5" ∷ "1E+-5" ∷ "1E5.0" ∷ "1E5E5" ∷ "1EE5" ∷ "1eE5" ∷ "E5"
    ∷ "1.E5" ∷ ".5E5" ∷ "1x5" ∷ "1E5x" ∷ "1E5 " ∷ "1234567890123456E-1" ∷ "1D5" ∷ "1F5" ∷ "1d5" ∷ "1f5" ∷ [])
unfolding numbers lists
powers_no = refl

decimal_values : (decimal_value (ascii "2.0") ≡ record { amount = pos 20; power = negsuc 0 })
    × ((decimal_value (ascii "-0") ≡ record { amount = pos 0; power = pos 0 })
    × ((decimal_value (ascii "-0.0") ≡ record { amount = pos 0; power = negsuc 0 })
    × ((decimal_value (ascii "+1.5") ≡ record { amount = pos 15; power = negsuc 0 })
    × (decimal_value (ascii "-12345678901234.5") ≡ record { amount = negsuc 123456789012344; power = negsuc 0 }))))
unfolding numbers
decimal_values = (refl, (refl, (refl, (refl, refl))))

power_values : (decimal_value (ascii "7.2E-1") ≡ record { amount = pos 72; power = negsuc 1 })
    × ((decimal_value (ascii "1.5E+1") ≡ record { amount = pos 15; power = pos 0 })
    × ((decimal_value (ascii "-7.25e3") ≡ record { amount = negsuc 724; power = pos 1 })
    × ((decimal_value (ascii "1.0E46") ≡ record { amount = pos 10; power = pos 45 })
    × ((decimal_value (ascii "1.0E-44") ≡ record { amount = pos 10; power = negsuc 44 })
    × (decimal_value (ascii "1E-0") ≡ record { amount = pos 1; power = pos 0 })))))
unfolding numbers
power_values = (refl, (refl, (refl, (refl, (refl, refl)))))

-- 0, 1 and what is at most 1, in value
zeros : Every (equal_to 0) ("0" ∷ "-0" ∷ "0.0" ∷ "0E-45" ∷ "-0.0E46" ∷ [])
unfolding numbers lists
zeros = refl

no_zeros : None (equal_to 0) ("1E-45" ∷ "1" ∷ "0.1" ∷ "-1" ∷ "1E45" ∷ [])
unfolding numbers lists
no_zeros = refl

ones : Every (equal_to 1) ("1" ∷ "1.00" ∷ "10E-1" ∷ "0.1E1" ∷ "100000000000000E-14" ∷ "0.00000000000001E14" ∷ [])
unfolding numbers lists
ones = refl

no_ones : None (equal_to 1) ("1E1" ∷ "1E-1" ∷ "10" ∷ "0" ∷ "-1" ∷ "-10E-1" ∷ "1.1E0" ∷ "11E-1" ∷ "100000000000000E-15" ∷ "1E45" ∷ [])
unfolding numbers lists
no_ones = refl

at_most_yes : Every (at_most 1) ("0" ∷ "1" ∷ "1.000" ∷ "10E-1" ∷ "0.9" ∷ "0E45" ∷ "-5" ∷ "1E-45" ∷ [])
unfolding numbers lists
at_most_yes = refl

at_most_no : None (at_most 1) ("2" ∷ "1.1" ∷ "1E1" ∷ "11E-1" ∷ "1.00000000000001" ∷ "1E45" ∷ [])
unfolding numbers lists
at_most_no = refl

lists_in_text : (values (ascii " 4 1\n5 ") ≡ 4 ∷ 1 ∷ 5 ∷ [])
    × ((values (ascii "  ") ≡ []) × ((wholes 1048575 (ascii "0 1048575") ≡ true) × (wholes 1048575 (ascii "0 1048576") ≡ false)))
unfolding numbers lists
lists_in_text = (refl, (refl, (refl, refl)))

keys_in_text : (listed_keys (ascii " 4 -1\n05 -0 ") ≡ pos 4 ∷ negsuc 0 ∷ pos 5 ∷ pos 0 ∷ [])
    × ((listed_keys (ascii "  ") ≡ []) × (key_list (ascii "-2147483648 2147483647\t0") ≡ true))
unfolding numbers lists
keys_in_text = (refl, (refl, refl))

key_lists_no : None key_list ("2147483648" ∷ "1 -2147483649" ∷ "1,2" ∷ "+1" ∷ "1 - 1" ∷ "00000000001" ∷ "1.0" ∷ "--1" ∷ [])
unfolding numbers lists
key_lists_no = refl

sixteens_yes : Every sixteen ("1 0 0 0 0 1 0 0 0 0 1 0 0 0 0 1" ∷ " 1 0 0 0 0 1 0 0 0 0 1 0 0.0 -0 +0 1.00\n"
    ∷ "1E1 0 0 0 0 1 0 0 0 0 1 0 0E-45 -0.0E46 0 10E-1" ∷ [])
unfolding numbers lists
sixteens_yes = refl

sixteens_no : None sixteen ("" ∷ "1 0 0 0 0 1 0 0 0 0 1 0 0 0 0" ∷ "1 0 0 0 0 1 0 0 0 0 1 0 0 0 0 1 0"
    ∷ "1 0 0 0 0 1 0 0 0 0 1 0 0 0 0 10" ∷ "1 0 0 0 0 1 0 0 0 0 1 0 0 0 1 1" ∷ "1 0 0 0 0 1 0 0 0 0 x 0 0 0 0 1"
    ∷ "1 0 0 0 0 1 0 0 0 0 1 0 0 0 0 -1" ∷ "1 0 0 0 0 1 0 0 0 0 1 0 0 0 0 1E1" ∷ "1 0 0 0 0 1 0 0 0 0 1 0 0 1E-45 0 1"
    ∷ "1E46 0 0 0 0 1 0 0 0 0 1 0 0 0 0 1" ∷ [])
unfolding numbers lists
sixteens_no = refl

-- colours: 0 and 1 are in, however they are written
colours_yes : Every colour ("0" ∷ "-0" ∷ "0.0" ∷ "-0.0E45" ∷ "1" ∷ "+1.0" ∷ "1e0" ∷ "10e-1" ∷ "0.1E1" ∷ "0.5" ∷ "1E-45" ∷ "0.99999999999999"
    ∷ "100000000000000E-14" ∷ "0E45" ∷ [])
unfolding numbers lists
colours_yes = refl

colours_no : None colour ("1.0000001" ∷ "2" ∷ "1E1" ∷ "11e-1" ∷ "1E45" ∷ "-1" ∷ "-0.1" ∷ "-1E-45" ∷ "100000000000001E-14" ∷ "" ∷ "a"
    ∷ "1E46" ∷ "0E46" ∷ ".5" ∷ "1." ∷ "0x1" ∷ "1 " ∷ [])
unfolding numbers lists
colours_no = refl
