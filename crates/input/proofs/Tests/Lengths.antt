-- Which first lines have the form, computed.
use Rattle.std.specs.Prelude.{◌≡◌, refl, [], ◌∷◌, ◌++◌, Some, None}
use Rattle.lists.specs.Lists.{lists}
use Rattle.grammar.specs.Bytes.{ascii}
use Rattle.numbers.specs.Numbers.{numbers}
use Rattle.input.specs.Lengths.{lengths_in, length_words}

pub two_lengths : lengths_in (ascii "2,3" ++ (10 ∷ [])) ≡ Some (2 ∷ 3 ∷ [])
unfolding lists numbers length_words
two_lengths = refl

pub leading_zeros : lengths_in (ascii "0000002,03,1048576" ++ (10 ∷ [])) ≡ Some (2 ∷ 3 ∷ 1048576 ∷ [])
unfolding lists numbers length_words
leading_zeros = refl

-- bad form: no line feed, a blank, nothing between commas, a sign, eight digits, a carriage return
pub no_line_feed : lengths_in (ascii "2,3") ≡ None
unfolding lists numbers length_words
no_line_feed = refl

pub no_line : lengths_in [] ≡ None
unfolding lists numbers length_words
no_line = refl

pub a_blank : lengths_in (ascii "2, 3" ++ (10 ∷ [])) ≡ None
unfolding lists numbers length_words
a_blank = refl

pub no_number : lengths_in (ascii "2,,3" ++ (10 ∷ [])) ≡ None
unfolding lists numbers length_words
no_number = refl

pub a_sign : lengths_in (ascii "+2,3" ++ (10 ∷ [])) ≡ None
unfolding lists numbers length_words
a_sign = refl

pub eight_digits : lengths_in (ascii "00000002,3" ++ (10 ∷ [])) ≡ None
unfolding lists numbers length_words
eight_digits = refl

pub a_return : lengths_in (ascii "2,3" ++ (13 ∷ 10 ∷ [])) ≡ None
unfolding lists numbers length_words
a_return = refl
