-- THE GRAMMAR: `Writes e s` says that the bytes `s` may write the document whose root is `e`. It is a relation, production by production;
-- `◌⊹◌` is one text after another. Nothing here reads: no production looks at what stands behind it, but for those on `]]>` and for a
-- carriage return, which is no end of a line by itself where a line feed stands right behind it (`parted`).
use Rattle.std.specs.Prelude.{◌≡◌, ◌≢◌, List, [], ◌∷◌, ℕ, suc, ◌≤◌, true, false, eqb, length}
use Rattle.grammar.specs.Bytes.{◌⊹◌, ascii, blank, name_start, name_byte, quote, special, Each, Sequence, SequenceUnless, begins}
use Rattle.grammar.specs.Bytes.{parted, closed, skipped}
use Rattle.grammar.specs.Characters.{Character}
use Rattle.grammar.specs.Document.{Attribute, attribute, Element, element, Contents, nothing, child, merged, together}

-- A name: a letter or `_`, then letters, digits, `_ - . :`; at most 64 bytes.
pub data Name : List ℕ → Type 0 where
  name : {a : ℕ} {w : List ℕ} → name_start a ≡ true → Each name_byte w → length (a ∷ w) ≤ 64 → Name (a ∷ w)

-- Blanks, one at least.
pub data Gap : List ℕ → Type 0 where
  gap : {a : ℕ} {w : List ℕ} → blank a ≡ true → Each blank w → Gap (a ∷ w)

-- `=`, with blanks round it or none.
pub data Equals : List ℕ → Type 0 where
  equals : {u v : List ℕ} → Each blank u → Each blank v → Equals (u ⊹ ascii "=" ⊹ v)

-- The five references: what each stands for, and how it is written.
pub data Reference : List ℕ → List ℕ → Type 0 where
  amp : Reference (ascii "&") (ascii "&amp;")
  lt : Reference (ascii "<") (ascii "&lt;")
  gt : Reference (ascii ">") (ascii "&gt;")
  quot : Reference (ascii "\"") (ascii "&quot;")
  apos : Reference (ascii "'") (ascii "&apos;")

-- The end of a line: a carriage return with a line feed right behind it, or a carriage return alone. (A line feed alone is a character
-- like others.)
pub data LineEnd : List ℕ → Type 0 where
  pair : LineEnd (ascii "\r\n")
  lone : LineEnd (ascii "\r")

-- A character of text, as it is read and as it is written: the end of a line reads as a line feed.
pub data TextCharacter : List ℕ → List ℕ → Type 0 where
  literal : {a : ℕ} {w : List ℕ} → Character a w → special a ≡ false → eqb a 13 ≡ false → TextCharacter (a ∷ w) (a ∷ w)
  line_end : {w : List ℕ} → LineEnd w → TextCharacter (ascii "\n") w
  reference : {b w : List ℕ} → Reference b w → TextCharacter b w

-- A character of a value between two quotes `q`: a blank reads as a space, and so does the end of a line.
pub data ValueCharacter (q : ℕ) : List ℕ → List ℕ → Type 0 where
  literal : {a : ℕ} {w : List ℕ} → Character a w → special a ≡ false → eqb a q ≡ false → blank a ≡ false → ValueCharacter q (a ∷ w) (a ∷ w)
  space : {a : ℕ} → blank a ≡ true → eqb a 13 ≡ false → ValueCharacter q (ascii " ") (a ∷ [])
  line_end : {w : List ℕ} → LineEnd w → ValueCharacter q (ascii " ") w
  reference : {b w : List ℕ} → Reference b w → ValueCharacter q b w

-- A value in quotes.
pub data Value : List ℕ → List ℕ → Type 0 where
  value : (q : ℕ) {bs : List (List ℕ)} {w : List ℕ} → quote q ≡ true → SequenceUnless (ValueCharacter q) parted bs w
      → Value (together bs) ((q ∷ []) ⊹ w ⊹ (q ∷ []))

-- An attribute, with the blanks before it.
pub data WritesAttribute : Attribute → List ℕ → Type 0 where
  written : {u n e v w : List ℕ} → Gap u → Name n → Equals e → Value v w → WritesAttribute (attribute n v) (u ⊹ n ⊹ e ⊹ w)

-- No attribute of the list has the name.
pub data Absent (n : List ℕ) : List Attribute → Type 0 where
  absent_none : Absent n []
  absent_more : {m v : List ℕ} {l : List Attribute} → n ≢ m → Absent n l → Absent n (attribute m v ∷ l)

-- No name stands twice.
pub data Distinct : List Attribute → Type 0 where
  distinct_none : Distinct []
  distinct_more : {n v : List ℕ} {l : List Attribute} → Absent n l → Distinct l → Distinct (attribute n v ∷ l)

-- The attributes of a tag.
pub data Attributes : List Attribute → List ℕ → Type 0 where
  attributes : {l : List Attribute} {w : List ℕ} → Sequence WritesAttribute l w → Distinct l → length l ≤ 16 → Attributes l w

-- A part of a comment: a character that is no `-`, or a `-` and such a character. So `--` never stands in one, and `-` is not the last.
pub data Remark : List ℕ → List ℕ → Type 0 where
  plain : {a : ℕ} {w : List ℕ} → Character a w → eqb a 45 ≡ false → Remark [] (a ∷ w)
  dashed : {a : ℕ} {w : List ℕ} → Character a w → eqb a 45 ≡ false → Remark [] (45 ∷ a ∷ w)

-- A comment.
pub data Comment : List ℕ → Type 0 where
  comment : {bs : List (List ℕ)} {w : List ℕ} → Sequence Remark bs w → Comment (ascii "<!--" ⊹ w ⊹ ascii "-->")

-- A character of CDATA, as it is read and as it is written.
pub data DataCharacter : List ℕ → List ℕ → Type 0 where
  literal : {a : ℕ} {w : List ℕ} → Character a w → eqb a 13 ≡ false → DataCharacter (a ∷ w) (a ∷ w)
  line_end : {w : List ℕ} → LineEnd w → DataCharacter (ascii "\n") w

-- CDATA: what it reads as, and how it is written. `]]>` stands nowhere among its characters.
pub data CData : List ℕ → List ℕ → Type 0 where
  cdata : {bs : List (List ℕ)} {w : List ℕ} → SequenceUnless DataCharacter closed bs w
      → CData (together bs) (ascii "<![CDATA[" ⊹ w ⊹ ascii "]]>")

mutual
  -- An element that holds elements at most so deep, itself counted.
  pub data WritesElement : ℕ → Element → List ℕ → Type 0 where
    full : {d : ℕ} {n t u k v : List ℕ} {l : List Attribute} {c : Contents}
        → Name n → Attributes l t → Each blank u → WritesContents d c k → Each blank v
        → WritesElement (suc d) (element n l c k) (ascii "<" ⊹ n ⊹ t ⊹ u ⊹ ascii ">" ⊹ k ⊹ ascii "</" ⊹ n ⊹ v ⊹ ascii ">")
    empty : {d : ℕ} {n t u : List ℕ} {l : List Attribute}
        → Name n → Attributes l t → Each blank u
        → WritesElement (suc d) (element n l nothing []) (ascii "<" ⊹ n ⊹ t ⊹ u ⊹ ascii "/>")

  -- Contents. A comment writes nothing; comments and CDATA part no run. The bytes `]]>` stand nowhere in text.
  pub data WritesContents : ℕ → Contents → List ℕ → Type 0 where
    none : {d : ℕ} → WritesContents d nothing []
    remark : {d : ℕ} {c : Contents} {w s : List ℕ} → Comment w → WritesContents d c s → WritesContents d c (w ⊹ s)
    character : {d : ℕ} {c : Contents} {b w s : List ℕ} → TextCharacter b w → parted w s ≡ false → begins (ascii "]]>") (w ⊹ s) ≡ false
        → WritesContents d c s → WritesContents d (merged b c) (w ⊹ s)
    marked : {d : ℕ} {c : Contents} {b w s : List ℕ} → CData b w → WritesContents d c s → WritesContents d (merged b c) (w ⊹ s)
    inner : {d : ℕ} {e : Element} {c : Contents} {w s : List ℕ} → WritesElement d e w → WritesContents d c s
        → WritesContents d (child e c) (w ⊹ s)

-- `k="v"` in the declaration, with the blanks before it.
pub data Setting (k v : List ℕ) : List ℕ → Type 0 where
  setting : {u e : List ℕ} (q : ℕ) → Gap u → Equals e → quote q ≡ true → Setting k v (u ⊹ k ⊹ e ⊹ (q ∷ []) ⊹ v ⊹ (q ∷ []))

-- The encoding, or nothing.
pub data Encoding : List ℕ → Type 0 where
  no_encoding : Encoding []
  encoding : {w : List ℕ} → Setting (ascii "encoding") (ascii "UTF-8") w → Encoding w

-- The declaration, or nothing.
pub data Declaration : List ℕ → Type 0 where
  no_declaration : Declaration []
  declaration : {v e u : List ℕ} → Setting (ascii "version") (ascii "1.0") v → Encoding e → Each blank u
      → Declaration (ascii "<?xml" ⊹ v ⊹ e ⊹ u ⊹ ascii "?>")

-- What may stand before and after the root: a blank, or a comment.
pub data Aside : List ℕ → List ℕ → Type 0 where
  blank_aside : {a : ℕ} → blank a ≡ true → Aside [] (a ∷ [])
  comment_aside : {w : List ℕ} → Comment w → Aside [] w

-- A character that a DOCTYPE passes over.
pub data Skipped : List ℕ → List ℕ → Type 0 where
  skip : {a : ℕ} {w : List ℕ} → Character a w → skipped a ≡ true → Skipped [] (a ∷ w)

pub data Doctype : List ℕ → Type 0 where
  doctype : {bs : List (List ℕ)} {w : List ℕ} → Sequence Skipped bs w → Doctype (ascii "<!DOCTYPE" ⊹ w ⊹ ascii ">")

-- What stands between the declaration and the root: blanks and comments, and at most one DOCTYPE among them.
pub data Prologue : List ℕ → Type 0 where
  untyped : {bs : List (List ℕ)} {u : List ℕ} → Sequence Aside bs u → Prologue u
  typed : {bs cs : List (List ℕ)} {u x v : List ℕ} → Sequence Aside bs u → Doctype x → Sequence Aside cs v → Prologue (u ⊹ x ⊹ v)

-- A document, its elements at most 16 deep.
pub data Writes : Element → List ℕ → Type 0 where
  document : {p u w v : List ℕ} {cs : List (List ℕ)} {e : Element}
      → Declaration p → Prologue u → WritesElement 16 e w → Sequence Aside cs v → Writes e (p ⊹ u ⊹ w ⊹ v)
