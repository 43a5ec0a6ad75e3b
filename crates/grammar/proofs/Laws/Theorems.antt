-- THE GRAMMAR IS DECIDED, AND UNAMBIGUOUS: of elements that keep the bytes between their tags, and of the paper's documents.
use Rattle.std.specs.Prelude.{◌≡◌, refl, ◌↔◌, List, ℕ, Option, Some, None}
use Rattle.std.proofs.Common.{ap}
use Rattle.lists.proofs.Laws.Booleans.{clash}
use Rattle.grammar.specs.Document.{Element}
use Rattle.grammar.specs.Grammar.{Writes}
use Rattle.grammar.specs.Erased.{Node, erased_in, WritesDocument, document_of}
use Rattle.grammar.specs.Parser.{parse}
use Rattle.grammar.proofs.Laws.SoundElements.{parse_sound}
use Rattle.grammar.proofs.Laws.Complete.{parse_complete}

-- The parser answers the document that writes the text, and nothing where none does.
pub parse_iff : (s : List ℕ) (e : Element) → (parse s ≡ Some e) ↔ Writes e s
parse_iff s e = (parse_sound s e, parse_complete)

-- No text is written by two documents.
pub unambiguous : {s : List ℕ} {d e : Element} → Writes d s → Writes e s → d ≡ e
unambiguous h k = let p = parse_complete h in let q = parse_complete k in cc

-- THE PAPER'S DOCUMENTS
document_by : (s : List ℕ) (d : Node) (m : Option Element) → parse s ≡ m → erased_in m ≡ Some d → WritesDocument d s
unfolding erased_in
document_by s d None e h = clash (cc)
document_by s d (Some x) e h = record { root = x; writes = parse_sound s x e; same = cc }

document_sound : (s : List ℕ) (d : Node) → document_of s ≡ Some d → WritesDocument d s
unfolding document_of
document_sound s d h = document_by s d (parse s) refl h

document_complete : {s : List ℕ} {d : Node} → WritesDocument d s → document_of s ≡ Some d
unfolding document_of erased_in
document_complete w = rw (parse_complete w.writes) (ap Some w.same)

-- A text is read to the document that writes it, and to nothing where none does.
pub document_iff : (s : List ℕ) (d : Node) → (document_of s ≡ Some d) ↔ WritesDocument d s
document_iff s d = (document_sound s d, document_complete)

-- No two documents can be written alike.
pub documents_unambiguous : {s : List ℕ} {d e : Node} → WritesDocument d s → WritesDocument e s → d ≡ e
documents_unambiguous h k = let p = document_complete h in let q = document_complete k in cc
