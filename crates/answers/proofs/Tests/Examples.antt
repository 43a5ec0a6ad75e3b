-- FURTHER TEXTS, by the number they get: each condition at its edges, in the first map and in the second; and what accepted texts answer.
use Rattle.std.specs.Prelude.{◌≡◌, refl, List, [], ◌∷◌, true, ℕ, zero, suc, eqb, pos, negsuc}
use Rattle.lists.specs.Lists.{all}
use Rattle.grammar.specs.Bytes.{◌⊹◌, ascii}
use Rattle.cifti.specs.Answer.{unused, no_series, refused_with}
use Rattle.cifti.proofs.Laws.Theorems.{number_of, answer_of, records_of, name_number_of, name_part_of}
use Rattle.cifti.proofs.Tests.Cases.{cases, three, two}
use Rattle.cifti.specs.declared.answer.Kind.TheVariants.{Brain, Series, Scalars}
use Rattle.cifti.proofs.Tests.Pieces.{root, doc, map, series, named, surface, voxels, volume_of, volume, name0, series0, brain1, brains}
use Rattle.cifti.proofs.Tests.Pieces.{gives, gives_brains, names}

-- 1 comes before all else, and 1,048,576 is a length
pub one : all (λ l. eqb (number_of [] l three three) 1)
    ([] ∷ (1 ∷ []) ∷ (1 ∷ 1 ∷ 1 ∷ 1 ∷ []) ∷ (0 ∷ 1 ∷ []) ∷ (1 ∷ 0 ∷ []) ∷ (1 ∷ 1 ∷ 1048577 ∷ []) ∷ []) ≡ true
unfolding cases
one = refl

pub one_not : number_of [] (1048576 ∷ 1 ∷ 1048576 ∷ []) three three ≡ 3
unfolding cases
one_not = refl

-- 4 before 5: another version with a kind that is not read
pub four : gives (1 ∷ 1 ∷ []) 4
    (root "1" (ascii "<Matrix>" ⊹ map "0" "PARCELS" [] ⊹ ascii "</Matrix>")
    ∷ root "1" (ascii "<x/>") ∷ root "2.0" [] ∷ ascii "<CIFTI/>" ∷ ascii "<cifti Version='2'/>" ∷ [])
    ≡ true
unfolding cases
four = refl

-- 16 elements deep, and 17
abbrev deep : ℕ → List ℕ
deep zero = []
deep (suc n) = ascii "<a>" ⊹ deep n ⊹ ascii "</a>"

pub sixteen : gives (1 ∷ 1 ∷ []) 4 (deep 16 ∷ []) ≡ true
unfolding cases
sixteen = refl

pub seventeen : gives (1 ∷ 1 ∷ []) 3 (deep 17 ∷ []) ≡ true
unfolding cases
seventeen = refl

-- 5, whatever else is wrong there
pub five : gives (1 ∷ 1 ∷ []) 5 (doc (map "9" "PARCELS" (ascii "x")) ∷ doc (name0 ⊹ map "" "PARCELS" []) ∷ []) ≡ true
unfolding cases
five = refl

-- 6: how often a child stands, what may stand, words, and text that is not blank
pub six : gives (1 ∷ 1 ∷ []) 6
    (root "2" (ascii "<Matrix/><Matrix/>")
    ∷ doc []
    ∷ doc (map "0,1" "SCALARS" (ascii "<NamedMap/>"))
    ∷ doc (map "0,1" "SCALARS" (ascii "<NamedMap><MapName/><MapName/></NamedMap>"))
    ∷ doc (map "0,1" "SCALARS" (ascii "<Volume/>"))
    ∷ doc (map "0,1" "SCALARS" (ascii "x" ⊹ named "a"))
    ∷ doc (map "0,1" "TIME_POINTS" [])
    ∷ doc (ascii "<MetaData/><MetaData/>" ⊹ map "0,1" "SCALARS" (named "a"))
    ∷ ascii "<CIFTI Version='2' a=''/>"
    ∷ brain1 []
    ∷ brain1 (volume ⊹ volume ⊹ voxels "0" "1" "BRAIN_STEM" "2 3 5")
    ∷ brain1 (surface "0" "1" "LUNG" "5" "4")
    ∷ series0 "0" "1" "0" "YEAR"
    ∷ [])
    ≡ true
unfolding cases
six = refl

-- 7: limits and forms
pub seven : gives (1 ∷ 1 ∷ []) 7
    (brain1 (surface "0" "0" "CORTEX" "5" "4")
    ∷ brain1 (surface "0" "1048577" "CORTEX" "5" "4")
    ∷ brain1 (surface "0" "1" "CORTEX" "1048577" "4")
    ∷ brain1 (surface "0" "1" "CORTEX" "5" "1048576")
    ∷ brain1 (surface "0" "1" "CORTEX" "5" "00000004")
    ∷ brain1 (volume ⊹ voxels "0" "1" "CORTEX" "2 3 65536")
    ∷ brain1 (volume_of "65537,1,1" "0" "1 0 0 0 0 1 0 0 0 0 1 0 0 0 0 1" ⊹ surface "0" "1" "CORTEX" "5" "4")
    ∷ brain1 (volume_of "8,8,8" "31" "1 0 0 0 0 1 0 0 0 0 1 0 0 0 0 1" ⊹ surface "0" "1" "CORTEX" "5" "4")
    ∷ brain1 (volume_of "8,8,8" "0" "1 0 0 0 0 1 0 0 0 0 1 0 0 0 0" ⊹ surface "0" "1" "CORTEX" "5" "4")
    ∷ brain1 (volume_of "8,8,8" "0" "1 0 0 0 0 1 0 0 0 0 1 0 0 0 0 2" ⊹ surface "0" "1" "CORTEX" "5" "4")
    ∷ series0 "1." "1" "0" "METER"
    ∷ series0 "1234567.12345678" "+1234567890123456" "0" "METER"
    ∷ doc (map "0,1," "SCALARS" (named "a"))
    ∷ [])
    ≡ true
unfolding cases
seven = refl

-- 8: a dimension listed by none, by two, twice by one, and one that does not exist
pub eight : gives (1 ∷ 1 ∷ []) 8 (doc name0 ∷ doc (name0 ⊹ map "0,1" "SCALARS" (named "a")) ∷ doc (map "0,1,1" "SCALARS" (named "a"))
    ∷ doc (map "0,1,2" "SCALARS" (named "a")) ∷ []) ≡ true
unfolding cases
eight = refl

-- 9: no name, two names, two points, a sum of two; and a length that fits one of two dimensions
pub nine : gives (1 ∷ 1 ∷ []) 9
    (doc (name0 ⊹ map "1" "SCALARS" []) ∷ doc (name0 ⊹ map "1" "SCALARS" (named "a" ⊹ named "b"))
    ∷ doc (name0 ⊹ series "1" "2" "0" "1" "0" "SECOND") ∷ brain1 (surface "0" "2" "CORTEX" "5" "4 1") ∷ [])
    ≡ true
unfolding cases
nine = refl

pub nine_two : gives (1 ∷ 2 ∷ []) 9 (doc (map "0,1" "SCALARS" (named "a")) ∷ doc (map "0,1" "SCALARS" (named "a" ⊹ named "b")) ∷ []) ≡ true
unfolding cases
nine_two = refl

-- ---- 10 to 14, in the second of two maps.

-- two models of one type and structure; of two types they may share it
pub ten : gives_brains 10 (brains (surface "0" "1" "CORTEX" "5" "4" ⊹ surface "1" "1" "CORTEX" "6" "4")
    ∷ brains (volume ⊹ voxels "0" "1" "CORTEX" "1 1 1" ⊹ voxels "1" "1" "CORTEX" "1 1 2") ∷ []) ≡ true
unfolding cases
ten = refl

-- an overlap that hides a gap; a range past the end; too few numbers; too many; voxels not in threes
pub eleven : gives_brains 11
    (brains (surface "0" "1" "CORTEX" "5" "4" ⊹ surface "0" "1" "CORTEX_LEFT" "5" "1")
    ∷ brains (surface "0" "1" "CORTEX" "5" "4" ⊹ surface "2" "1" "CORTEX_LEFT" "5" "1")
    ∷ brains (surface "0" "2" "CORTEX" "5" "4")
    ∷ brains (surface "0" "2" "CORTEX" "5" "4 1 2")
    ∷ brains (volume ⊹ voxels "0" "2" "CORTEX" "1 1 1 2 2")
    ∷ [])
    ≡ true
unfolding cases
eleven = refl

pub twelve : gives_brains 12
    (brains (surface "0" "2" "CORTEX" "4" "3 4")
    ∷ brains (volume ⊹ voxels "0" "2" "CORTEX" "1 1 1 8 1 1") ∷ brains (volume ⊹ voxels "0" "2" "CORTEX" "1 1 1 1 8 1")
    ∷ brains (volume ⊹ voxels "0" "2" "CORTEX" "1 1 1 1 1 8") ∷ [])
    ≡ true
unfolding cases
twelve = refl

-- room for both stretches, and work for the longer
pub thirteen : all (λ p. eqb p 13) (number_of (brains (surface "0" "2" "CORTEX" "5" "4 1")) (2 ∷ 2 ∷ []) three two
    ∷ number_of (brains (surface "0" "2" "CORTEX" "5" "4 1")) (2 ∷ 2 ∷ []) (9 ∷ three) (9 ∷ []) ∷ []) ≡ true
unfolding cases
thirteen = refl

-- one voxel in two structures is one voxel
pub fourteen : gives_brains 14
    (brains (surface "0" "2" "CORTEX" "5" "4 4")
    ∷ brains (volume ⊹ voxels "0" "2" "CORTEX" "1 1 1 1 1 1")
    ∷ brains (volume ⊹ voxels "0" "1" "CORTEX" "2 3 5" ⊹ voxels "1" "1" "BRAIN_STEM" "2 3 5")
    ∷ [])
    ≡ true
unfolding cases
fourteen = refl

-- ---- Accepted: a vertex number in two structures is two vertices; in another map again; the 2,048th voxel of a row.

pub accepted : gives_brains 0
    (brains (surface "1" "1" "CORTEX" "5" "4" ⊹ surface "0" "1" "CORTEX_RIGHT" "5" "4")
    ∷ brains (surface "0" "2" "CORTEX_LEFT" "5" "4 1")
    ∷ brains (volume ⊹ voxels "0" "1" "CORTEX" "2 3 5" ⊹ surface "1" "1" "CORTEX" "5" "4")
    ∷ brains (volume_of "65536,65536,65536" "-30" "1 0 0 0 0 1 0 0 0 0 1 0 0 -0.0 +0 1.00"
    ⊹ voxels "0" "2" "CORTEX" " 65535 65535\n65535 0 0 0 ")
    ∷ [])
    ≡ true
unfolding cases
accepted = refl

-- by IndexOffset and not in text order; the second stretch begins where the first ends; the place past it keeps its 7
pub filled : records_of (brains (surface "1" "1" "CORTEX" "5" "4" ⊹ surface "0" "1" "CORTEX_RIGHT" "5" "3")) (2 ∷ 2 ∷ [])
    (9 ∷ 9 ∷ 9 ∷ 9 ∷ 7 ∷ []) two
    ≡ 0x11000000000004 ∷ 0x11000000000001 ∷ 0x12000000000003 ∷ 0x10000000000004 ∷ 7 ∷ []
unfolding cases
filled = refl

pub starts : answer_of (brains (surface "0" "2" "CORTEX" "5" "4 1")) (2 ∷ 2 ∷ []) (9 ∷ three) two
    ≡ record {
      number = 0;
      dimensions = record { kind = Brain; length = 2; start = record { 0 = 0 }; series = no_series }
          ∷ record { kind = Brain; length = 2; start = record { 0 = 2 }; series = no_series }
          ∷ unused
          ∷ [];
    }
unfolding cases
starts = refl

pub told : answer_of (series0 "2.0" "-7.25" "-3" "HERTZ") (1 ∷ 1 ∷ []) [] []
    ≡ record {
      number = 0;
      dimensions = record {
        kind = Series;
        length = 1;
        start = record { 0 = 0 };
        series = record {
          start = record { amount = pos 20; power = negsuc 0 };
          step = record { amount = negsuc 724; power = negsuc 1 };
          exponent = negsuc 2;
          unit = 1;
        };
      }
          ∷ record { kind = Scalars; length = 1; start = record { 0 = 0 }; series = no_series }
          ∷ unused
          ∷ [];
    }
unfolding cases
told = refl

-- powers of ten: 7.2E-1 is 72 with power -2, 1.5E+1 is 15 with power 0
pub told_powers : answer_of (series0 "7.2E-1" "1.5E+1" "-3" "HERTZ") (1 ∷ 1 ∷ []) [] []
    ≡ record {
      number = 0;
      dimensions = record {
        kind = Series;
        length = 1;
        start = record { 0 = 0 };
        series = record {
          start = record { amount = pos 72; power = negsuc 1 };
          step = record { amount = pos 15; power = pos 0 };
          exponent = negsuc 2;
          unit = 1;
        };
      }
          ∷ record { kind = Scalars; length = 1; start = record { 0 = 0 }; series = no_series }
          ∷ unused
          ∷ [];
    }
unfolding cases
told_powers = refl

-- ---- Refused: zero but for the number, and the records keep their contents.

pub refused : answer_of (brains (surface "0" "2" "CORTEX" "5" "4 4")) (2 ∷ 2 ∷ []) (9 ∷ three) two ≡ refused_with 14
unfolding cases
refused = refl

pub kept : records_of (brains (surface "0" "2" "CORTEX" "5" "4 4")) (2 ∷ 2 ∷ []) (9 ∷ three) two ≡ 9 ∷ three
unfolding cases
kept = refl

-- ---- Map names.

pub part : name_part_of names (2 ∷ 2 ∷ 1 ∷ []) 0 0 ≡ ascii "a&amp;<!-- -->b"
unfolding cases
part = refl

-- no such dimension, not scalars, no such index; 9 comes before
pub eighteen : all (λ p. eqb p 18) (name_number_of names (2 ∷ 2 ∷ 1 ∷ []) 3 0 ∷ name_number_of names (2 ∷ 2 ∷ 1 ∷ []) 2 0
    ∷ name_number_of names (2 ∷ 2 ∷ 1 ∷ []) 0 2 ∷ []) ≡ true
unfolding cases
eighteen = refl

pub part_refused : (name_number_of names (2 ∷ 2 ∷ 2 ∷ []) 0 0 ≡ 9) × (name_part_of names (2 ∷ 2 ∷ 2 ∷ []) 0 0 ≡ [])
unfolding cases
part_refused = (refl, refl)
