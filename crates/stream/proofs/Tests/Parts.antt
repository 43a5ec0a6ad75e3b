-- Texts in parts, each line computed.
use Rattle.std.specs.Prelude.{◌≡◌, refl, List, [], ◌∷◌, ◌++◌, ℕ, zero, suc, Bool, true, false, ◌&&◌, Option, Some, None}
use Rattle.lists.specs.Lists.{all}
use Rattle.grammar.specs.Bytes.{ascii}
use Rattle.stream.specs.Jobs.{reading_jobs}
use Rattle.stream.specs.Reading.{awaited, read_on, add_part, add_parts, add_end, verdict_of}

-- each byte a part of its own, and a part of no bytes before it
unfoldable apart : List ℕ → List (List ℕ)
apart [] = []
apart (a ∷ s) = [] ∷ (a ∷ []) ∷ apart s

-- so many times a text; so many attributes, each of a name of its own
unfoldable times : ℕ → List ℕ → List ℕ
times zero s = []
times (suc n) s = s ++ times n s

unfoldable keys : ℕ → List ℕ
keys zero = []
keys (suc n) = ascii " " ++ (times (suc n) (ascii "k") ++ (ascii "=''" ++ keys n))

unfoldable yes : Option Bool → Bool
yes None = false
yes (Some v) = v

unfoldable no : Option Bool → Bool
no None = false
no (Some true) = false
no (Some false) = true

unfoldable legal : List ℕ → Bool
legal s = yes (verdict_of (add_end (add_parts awaited (s ∷ [])))) && yes (verdict_of (add_end (add_parts awaited (apart s))))

unfoldable illegal : List ℕ → Bool
illegal s = no (verdict_of (add_end (add_parts awaited (s ∷ [])))) && no (verdict_of (add_end (add_parts awaited (apart s))))

unfoldable cases : Unit {0}
unfolding reading_jobs awaited read_on add_part add_parts add_end verdict_of all apart times keys yes no legal illegal
cases = tt

-- documents
documents : all legal (
    ascii "<a/>"
    ∷ ascii "<?xml version = '1.0' encoding=\"UTF-8\" ?>\r\n<!-- - --><!DOCTYPE a SYSTEM \"b\"><!----> <a/>\n<!---->"
    ∷ ascii "<a b='\"' c=\"&amp;'\r\n\"><b \t>]] ]>]]]</b\n></a >"
    ∷ ascii "<?xml version=\"1.0\"?><a/>"
    ∷ ascii "<a><![CDATA[<&--]]]]></a>"
    ∷ ascii "<a>\r<![CDATA[\r]]>\n&lt;&apos;</a>"
    ∷ (ascii "<" ++ (times 64 (ascii "a") ++ ascii "/>"))
    ∷ (ascii "<a" ++ (keys 16 ++ ascii "/>"))
    ∷ (times 16 (ascii "<a>") ++ times 16 (ascii "</a>"))
    ∷ (ascii "<a>" ++ (195 ∷ 169 ∷ 226 ∷ 130 ∷ 172 ∷ 240 ∷ 159 ∷ 152 ∷ 128 ∷ ascii "</a>"))
    ∷ [])
    ≡ true
unfolding cases
documents = refl

-- no documents
others : all illegal (
    []
    ∷ ascii "<a>"
    ∷ ascii "<a></b>"
    ∷ ascii "<a>]]></a>"
    ∷ ascii "<a b='1' b='2'/>"
    ∷ ascii "<a>&gtt;</a>"
    ∷ ascii "<a><!-- -- --></a>"
    ∷ ascii "<a><![CDATA[]></a>"
    ∷ ascii "<a><!DOCTYPE a></a>"
    ∷ ascii "<!DOCTYPE a><!DOCTYPE a><a/>"
    ∷ ascii "<!DOCTYPE a [ ]><a/>"
    ∷ ascii "<a/><!DOCTYPE a>"
    ∷ ascii "<a/><a/>"
    ∷ ascii " <?xml version='1.0'?><a/>"
    ∷ (ascii "<" ++ (times 65 (ascii "a") ++ ascii "/>"))
    ∷ (ascii "<a" ++ (keys 17 ++ ascii "/>"))
    ∷ (times 17 (ascii "<a>") ++ times 17 (ascii "</a>"))
    ∷ (ascii "<a>" ++ (226 ∷ 130 ∷ ascii "</a>"))
    ∷ (ascii "<a>" ++ (239 ∷ 191 ∷ 191 ∷ ascii "</a>"))
    ∷ [])
    ≡ true
unfolding cases
others = refl
