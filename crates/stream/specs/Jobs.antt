-- JOBS: what is still to be read of a text that arrives a bit at a time, and what one byte makes of it. A job is something of the grammar,
-- or the rest of it where its first bytes are gone. proofs/Laws/Meets says of each which of the grammar's readers it is.
use Rattle.std.specs.Prelude.{List, [], ◌∷◌, ◌++◌, ℕ, zero, suc, Bool, true, false, cond, ◌&&◌, not, eqb, leb, ltb, length, Option, Some, None}
use Rattle.grammar.specs.Bytes.{ascii, blank, letter, name_start, name_byte, quote, skipped}
use Rattle.grammar.specs.Characters.{lead1, lead2, lead3, lead4, continues, noncharacter}
use Rattle.grammar.specs.Parser.{CharacterWidth, one, two, three, four, width_by, width, same_bytes}
use Rattle.steps.specs.Noted.{among}

pub data Job : Type 0 where
  -- these bytes; blanks; blanks, one at least
  fixed : List ℕ → Job
  blanks : Job
  some_blanks : Job
  -- the last byte of a character; the second byte and the rest of one of three, of which the first is given; the third; of one of four
  tail : Job
  second_of_three : ℕ → Job
  third_of_three : ℕ → ℕ → Job
  second_of_four : ℕ → Job
  -- a reference behind `&`; behind `&a`
  ampersand : Job
  ampersand_a : Job
  -- a comment behind `<!--`; the same, a `-` gone
  remarks : Job
  remarks_dash : Job
  -- CDATA behind `<![CDATA[`; the same, `]` gone; `]]` gone
  raw : Job
  raw_bracket : Job
  raw_brackets : Job
  -- a DOCTYPE behind `<!DOCTYPE`
  skipping : Job
  -- a value; its rest behind a double quote, or behind a single one
  quoted : Job
  valuing : Bool → Job
  -- an element whose contents may be so deep, behind `<` and these bytes of its name
  naming : ℕ → List ℕ → Job
  -- the same behind its name and attributes of these names; a blank more gone
  tagging : ℕ → List ℕ → List (List ℕ) → Job
  gapped : ℕ → List ℕ → List (List ℕ) → Job
  -- the same behind these bytes of an attribute's name
  keying : ℕ → List ℕ → List (List ℕ) → List ℕ → Job
  -- contents that may be so deep, and the end tag of this name; the same, `]`, `]]`, `<` or `<!` gone
  enclosing : ℕ → List ℕ → Job
  bracket : ℕ → List ℕ → Job
  brackets : ℕ → List ℕ → Job
  angle : ℕ → List ℕ → Job
  angle_mark : ℕ → List ℕ → Job
  -- blanks and comments, and the end of the text
  trailing : Job
  -- what stands before the root, a DOCTYPE too if one may still come, and the root; the same, `<` or `<!` gone
  prologue : Bool → Job
  prologue_angle : Bool → Job
  prologue_mark : Bool → Job
  -- the declaration or none, and all this; `<` gone
  starting : Job
  starting_angle : Job
  -- in the declaration: these bytes in quotes; the rest behind the version; a blank more gone
  saying : List ℕ → Job
  versioned : Job
  versioned_blank : Job

-- WHAT A BYTE MAKES OF A JOB: nothing can be right any more; the job was done before the byte; these jobs are left
pub data Change : Type 0 where
  dead : Change
  done : Change
  turn : List Job → Change

-- the first byte of a character, and what is left behind it
unfoldable pub lead_by : CharacterWidth → ℕ → List Job → Change
lead_by one a l = cond (lead1 a) (turn l) dead
lead_by two a l = cond (lead2 a) (turn (tail ∷ l)) dead
lead_by three a l = turn (second_of_three a ∷ l)
lead_by four a l = turn (second_of_four a ∷ l)

unfoldable pub lead : ℕ → List Job → Change
lead a l = lead_by (width a) a l

unfoldable pub change_ampersand : ℕ → Change
change_ampersand a =
    cond (eqb a 97) (turn (ampersand_a ∷ []))
    (cond (eqb a 108) (turn (fixed (ascii "t;") ∷ []))
    (cond (eqb a 103) (turn (fixed (ascii "t;") ∷ [])) (cond (eqb a 113) (turn (fixed (ascii "uot;") ∷ [])) dead)))

unfoldable pub change_ampersand_a : ℕ → Change
change_ampersand_a a = cond (eqb a 109) (turn (fixed (ascii "p;") ∷ [])) (cond (eqb a 112) (turn (fixed (ascii "os;") ∷ [])) dead)

unfoldable pub change_remarks : ℕ → Change
change_remarks a = cond (eqb a 45) (turn (remarks_dash ∷ [])) (lead a (remarks ∷ []))

unfoldable pub change_remarks_dash : ℕ → Change
change_remarks_dash a = cond (eqb a 45) (turn (fixed (ascii ">") ∷ [])) (lead a (remarks ∷ []))

unfoldable pub change_raw : ℕ → Change
change_raw a = cond (eqb a 93) (turn (raw_bracket ∷ [])) (lead a (raw ∷ []))

unfoldable pub change_raw_bracket : ℕ → Change
change_raw_bracket a = cond (eqb a 93) (turn (raw_brackets ∷ [])) (change_raw a)

-- behind `]]`: a third `]` takes the place of the first
unfoldable pub change_raw_brackets : ℕ → Change
change_raw_brackets a = cond (eqb a 62) (turn []) (cond (eqb a 93) (turn (raw_brackets ∷ [])) (change_raw a))

unfoldable pub change_skipping : ℕ → Change
change_skipping a = cond (eqb a 62) (turn []) (cond (skipped a) (lead a (skipping ∷ [])) dead)

-- " or '
unfoldable pub quote_of : Bool → ℕ
quote_of true = 34
quote_of false = 39

unfoldable pub change_quoted : ℕ → Change
change_quoted a = cond (eqb a 34) (turn (valuing true ∷ [])) (cond (eqb a 39) (turn (valuing false ∷ [])) dead)

unfoldable pub change_valuing : Bool → ℕ → Change
change_valuing b a =
    cond (eqb a (quote_of b)) (turn [])
    (cond (eqb a 38) (turn (ampersand ∷ valuing b ∷ [])) (cond (eqb a 60) dead (lead a (valuing b ∷ []))))

-- the end of a start tag, or else `other`
unfoldable pub close_tag : ℕ → List ℕ → ℕ → Change → Change
close_tag d n a other = cond (eqb a 62) (turn (enclosing d n ∷ [])) (cond (eqb a 47) (turn (fixed (ascii ">") ∷ [])) other)

unfoldable pub change_tagging : ℕ → List ℕ → List (List ℕ) → ℕ → Change
change_tagging d n l a = cond (blank a) (turn (gapped d n l ∷ [])) (close_tag d n a dead)

unfoldable pub change_gapped : ℕ → List ℕ → List (List ℕ) → ℕ → Change
change_gapped d n l a =
    cond (blank a) (turn (gapped d n l ∷ [])) (close_tag d n a (cond (name_start a) (turn (keying d n l (a ∷ []) ∷ [])) dead))

unfoldable pub change_naming : ℕ → List ℕ → ℕ → Change
change_naming d n a =
    cond (name_byte a) (cond (ltb (length n) 64) (turn (naming d (n ++ (a ∷ [])) ∷ [])) dead)
    (cond (leb (length n) 64) (change_tagging d n [] a) dead)

-- an attribute of the name `m` behind those of the names `l`: sixteen in all, no name twice
unfoldable pub admits : List (List ℕ) → List ℕ → Bool
admits l m = ltb (length l) 16 && not (among m l)

-- `=` and the blanks before it, and what is left behind it
unfoldable pub change_equals : List Job → ℕ → Change
change_equals l a = cond (blank a) (turn (blanks ∷ fixed (ascii "=") ∷ l)) (cond (eqb a 61) (turn l) dead)

unfoldable pub change_keying : ℕ → List ℕ → List (List ℕ) → List ℕ → ℕ → Change
change_keying d n l m a =
    cond (name_byte a) (cond (ltb (length m) 64) (turn (keying d n l (m ++ (a ∷ [])) ∷ [])) dead)
    (cond (leb (length m) 64 && admits l m) (change_equals (blanks ∷ quoted ∷ tagging d n (m ∷ l) ∷ []) a) dead)

unfoldable pub change_enclosing : ℕ → List ℕ → ℕ → Change
change_enclosing d n a =
    cond (eqb a 60) (turn (angle d n ∷ []))
    (cond (eqb a 38) (turn (ampersand ∷ enclosing d n ∷ []))
    (cond (eqb a 93) (turn (bracket d n ∷ [])) (lead a (enclosing d n ∷ []))))

unfoldable pub change_bracket : ℕ → List ℕ → ℕ → Change
change_bracket d n a = cond (eqb a 93) (turn (brackets d n ∷ [])) (change_enclosing d n a)

-- behind `]]`: no `>`
unfoldable pub change_brackets : ℕ → List ℕ → ℕ → Change
change_brackets d n a = cond (eqb a 62) dead (cond (eqb a 93) (turn (brackets d n ∷ [])) (change_enclosing d n a))

-- an element among contents that may be so deep
unfoldable pub deeper : ℕ → List ℕ → ℕ → Change
deeper zero n a = dead
deeper (suc e) n a = turn (naming e (a ∷ []) ∷ enclosing (suc e) n ∷ [])

unfoldable pub change_angle : ℕ → List ℕ → ℕ → Change
change_angle d n a =
    cond (eqb a 47) (turn (fixed n ∷ blanks ∷ fixed (ascii ">") ∷ []))
    (cond (eqb a 33) (turn (angle_mark d n ∷ [])) (cond (name_start a) (deeper d n a) dead))

unfoldable pub change_angle_mark : ℕ → List ℕ → ℕ → Change
change_angle_mark d n a =
    cond (eqb a 91) (turn (fixed (ascii "CDATA[") ∷ raw ∷ enclosing d n ∷ []))
    (cond (eqb a 45) (turn (fixed (ascii "-") ∷ remarks ∷ enclosing d n ∷ [])) dead)

unfoldable pub change_trailing : ℕ → Change
change_trailing a =
    cond (blank a) (turn (trailing ∷ [])) (cond (eqb a 60) (turn (fixed (ascii "!--") ∷ remarks ∷ trailing ∷ [])) dead)

unfoldable pub change_prologue : Bool → ℕ → Change
change_prologue t a = cond (blank a) (turn (prologue t ∷ [])) (cond (eqb a 60) (turn (prologue_angle t ∷ [])) dead)

unfoldable pub change_prologue_angle : Bool → ℕ → Change
change_prologue_angle t a =
    cond (eqb a 33) (turn (prologue_mark t ∷ [])) (cond (name_start a) (turn (naming 15 (a ∷ []) ∷ [])) dead)

-- behind a DOCTYPE no other may come
unfoldable pub change_prologue_mark : Bool → ℕ → Change
change_prologue_mark t a =
    cond (eqb a 45) (turn (fixed (ascii "-") ∷ remarks ∷ prologue t ∷ []))
    (cond (t && eqb a 68) (turn (fixed (ascii "OCTYPE") ∷ skipping ∷ prologue false ∷ [])) dead)

unfoldable pub change_starting : ℕ → Change
change_starting a = cond (eqb a 60) (turn (starting_angle ∷ [])) (change_prologue true a)

-- the declaration behind `<?`
unfoldable pub declaration_jobs : List Job
declaration_jobs =
    fixed (ascii "xml") ∷ some_blanks ∷ fixed (ascii "version") ∷ blanks ∷ fixed (ascii "=") ∷ blanks ∷ saying (ascii "1.0")
    ∷ versioned ∷ []

unfoldable pub change_starting_angle : ℕ → Change
change_starting_angle a = cond (eqb a 63) (turn (declaration_jobs ++ (prologue true ∷ []))) (change_prologue_angle true a)

unfoldable pub change_saying : List ℕ → ℕ → Change
change_saying v a = cond (quote a) (turn (fixed v ∷ fixed (a ∷ []) ∷ [])) dead

unfoldable pub change_versioned : ℕ → Change
change_versioned a = cond (blank a) (turn (versioned_blank ∷ [])) (cond (eqb a 63) (turn (fixed (ascii ">") ∷ [])) dead)

-- the encoding behind its first letter, and the end of the declaration
unfoldable pub encoding_jobs : List Job
encoding_jobs =
    fixed (ascii "ncoding") ∷ blanks ∷ fixed (ascii "=") ∷ blanks ∷ saying (ascii "UTF-8") ∷ blanks ∷ fixed (ascii "?>") ∷ []

unfoldable pub change_versioned_blank : ℕ → Change
change_versioned_blank a =
    cond (blank a) (turn (versioned_blank ∷ []))
    (cond (eqb a 63) (turn (fixed (ascii ">") ∷ [])) (cond (eqb a 101) (turn encoding_jobs) dead))

-- THE TABLE: what a byte makes of each job
unfoldable pub change : Job → ℕ → Change
change (fixed []) a = done
change (fixed (b ∷ w)) a = cond (eqb a b) (turn (fixed w ∷ [])) dead
change blanks a = cond (blank a) (turn (blanks ∷ [])) done
change some_blanks a = cond (blank a) (turn (blanks ∷ [])) dead
change tail a = cond (continues a) (turn []) dead
change (second_of_three b) a = cond (lead3 b a) (turn (third_of_three b a ∷ [])) dead
change (third_of_three b c) a = cond (continues a && not (noncharacter b c a)) (turn []) dead
change (second_of_four b) a = cond (lead4 b a) (turn (tail ∷ tail ∷ [])) dead
change ampersand a = change_ampersand a
change ampersand_a a = change_ampersand_a a
change remarks a = change_remarks a
change remarks_dash a = change_remarks_dash a
change raw a = change_raw a
change raw_bracket a = change_raw_bracket a
change raw_brackets a = change_raw_brackets a
change skipping a = change_skipping a
change quoted a = change_quoted a
change (valuing b) a = change_valuing b a
change (naming d n) a = change_naming d n a
change (tagging d n l) a = change_tagging d n l a
change (gapped d n l) a = change_gapped d n l a
change (keying d n l m) a = change_keying d n l m a
change (enclosing d n) a = change_enclosing d n a
change (bracket d n) a = change_bracket d n a
change (brackets d n) a = change_brackets d n a
change (angle d n) a = change_angle d n a
change (angle_mark d n) a = change_angle_mark d n a
change trailing a = change_trailing a
change (prologue t) a = change_prologue t a
change (prologue_angle t) a = change_prologue_angle t a
change (prologue_mark t) a = change_prologue_mark t a
change starting a = change_starting a
change starting_angle a = change_starting_angle a
change (saying v) a = change_saying v a
change versioned a = change_versioned a
change versioned_blank a = change_versioned_blank a

-- whether a job is done where the text ends
unfoldable pub idle : Job → Bool
idle (fixed []) = true
idle (fixed (b ∷ w)) = false
idle blanks = true
idle some_blanks = false
idle tail = false
idle (second_of_three a) = false
idle (third_of_three a b) = false
idle (second_of_four a) = false
idle ampersand = false
idle ampersand_a = false
idle remarks = false
idle remarks_dash = false
idle raw = false
idle raw_bracket = false
idle raw_brackets = false
idle skipping = false
idle quoted = false
idle (valuing b) = false
idle (naming d n) = false
idle (tagging d n l) = false
idle (gapped d n l) = false
idle (keying d n l m) = false
idle (enclosing d n) = false
idle (bracket d n) = false
idle (brackets d n) = false
idle (angle d n) = false
idle (angle_mark d n) = false
idle trailing = true
idle (prologue t) = false
idle (prologue_angle t) = false
idle (prologue_mark t) = false
idle starting = false
idle starting_angle = false
idle (saying v) = false
idle versioned = false
idle versioned_blank = false

-- WHAT IS LEFT OF A TEXT: jobs in a row, or nothing that could still be right
abbrev pub Left : Type 0
Left = Option (List Job)

-- the jobs behind a change, before the jobs `l`; `x` is what the byte makes of these
unfoldable pub put : Change → List Job → Left → Left
put dead l x = None
put done l x = x
put (turn m) l x = Some (m ++ l)

unfoldable pub jobs_on : List Job → ℕ → Left
jobs_on [] a = None
jobs_on (j ∷ l) a = put (change j a) l (jobs_on l a)

unfoldable pub read_byte : Left → ℕ → Left
read_byte None a = None
read_byte (Some l) a = jobs_on l a

-- the whole text
unfoldable pub outset : Left
outset = Some (starting ∷ trailing ∷ [])

unfoldable pub all_idle : List Job → Bool
all_idle [] = true
all_idle (j ∷ l) = idle j && all_idle l

-- where the text ends: whether all that is left is done there
unfoldable pub idle_left : Left → Bool
idle_left None = false
idle_left (Some l) = all_idle l

-- all this open: `unfolding reading_jobs` lets a proof compute what is left at a text that is given
unfoldable pub reading_jobs : Left → ℕ → Left
unfolding lead_by lead change_ampersand change_ampersand_a change_remarks change_remarks_dash change_raw change_raw_bracket
    change_raw_brackets change_skipping quote_of change_quoted change_valuing close_tag change_tagging change_gapped change_naming admits
    change_equals change_keying change_enclosing change_bracket change_brackets deeper change_angle change_angle_mark change_trailing
    change_prologue change_prologue_angle change_prologue_mark change_starting declaration_jobs change_starting_angle change_saying
    change_versioned encoding_jobs change_versioned_blank change idle put jobs_on read_byte outset all_idle idle_left
    blank letter name_start name_byte quote skipped lead1 lead2 lead3 lead4 continues noncharacter width_by width same_bytes among
reading_jobs x a = read_byte x a
