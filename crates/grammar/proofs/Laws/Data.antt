-- Completeness of CDATA and of a DOCTYPE: what each writes, its reader reads, and it leaves what stands behind.
use Rattle.std.specs.Prelude.{◌≡◌, refl, List, [], ◌∷◌, ◌++◌, ℕ, ◌<◌, Bool, true, false, ◌&&◌, not, eqb, length}
use Rattle.std.proofs.Common.{append_assoc, length-append, arith}
use Rattle.std.proofs.lemmas.Bool.{not-true}
use Rattle.lists.proofs.Laws.Booleans.{and_right, or_left, or_right, not_so}
use Rattle.grammar.specs.Bytes.{ascii, begins, parted, closed, skipped}
use Rattle.grammar.specs.Grammar
use Rattle.grammar.specs.Grammar.{DataCharacter, CData, Skipped, Doctype}
use Rattle.grammar.specs.Read.{got, bind, alt}
use Rattle.grammar.proofs.Laws.Read.{mark_complete, Item, all_of_complete, RowItem, row_complete}
use Rattle.grammar.specs.Parser.{data_byte, data_character_at, data_at_lem, skipped_at, doctype_at}
use Rattle.grammar.proofs.Laws.Tokens.{literal_complete, line_end_complete, line_end_other, line_end_long, parted_apart}

-- CDATA
pub data_character_reads : {b w : List ℕ} → DataCharacter b w → (r : List ℕ) → parted w r ≡ false → data_character_at (w ++ r) ≡ got b r
unfolding data_character_at alt data_byte
data_character_reads (DataCharacter.literal {a} {w} h e) r p =
    rw (line_end_other (ascii "\n") a e (w ++ r)) (literal_complete data_byte h (not_so e) r)
data_character_reads (DataCharacter.line_end k) r p = rw (line_end_complete (ascii "\n") k r p)

pub data_character_long : {b w : List ℕ} → DataCharacter b w → 0 < length w
data_character_long (DataCharacter.literal h e) = omega arith
data_character_long (DataCharacter.line_end k) = line_end_long k

-- what holds no `]]>` holds none where `]]>` stands behind it
begins_closing : (x r : List ℕ) → 0 < length x → begins (ascii "]]>") x ≡ false → begins (ascii "]]>") (x ++ (ascii "]]>" ++ r)) ≡ false
unfolding begins
begins_closing [] r h e = absurd (omega arith)
begins_closing (a ∷ []) r h e = go (eqb a 93)
  where
    go : (t : Bool) → (t && false) ≡ false
    go true = refl
    go false = refl
begins_closing (a ∷ b ∷ []) r h e = go (eqb a 93) (eqb b 93)
  where
    go : (t u : Bool) → (t && (u && false)) ≡ false
    go true true = refl
    go true false = refl
    go false u = refl
begins_closing (a ∷ b ∷ c ∷ x) r h e = e

pub open_apart : (w x r : List ℕ) → 0 < length w → closed w x ≡ false → closed w (x ++ (ascii "]]>" ++ r)) ≡ false
unfolding closed
open_apart w x r h e =
    let p = parted_apart w x 93 (93 ∷ 62 ∷ r) refl (or_left (parted w x) _ e) in
    let q : begins (ascii "]]>") (w ++ (x ++ (ascii "]]>" ++ r))) ≡ false =
    rw append_assoc at (begins_closing (w ++ x) r (omega (arith, length-append w x)) (or_right (parted w x) _ e)) in
    rw p q

data_item : (r : List ℕ) → RowItem DataCharacter closed (begins (ascii "]]>")) data_character_at (ascii "]]>" ++ r)
unfolding closed begins
data_item r = record {
  reads = λ {a} {w} k r e. data_character_reads k r (or_left (parted w r) _ e);
  goes = λ {a} {w} k r e. or_right (parted w r) _ e;
  long = λ k. data_character_long k;
  apart = λ {a} {w} k x e. open_apart w x r (data_character_long k) e;
  stops_there = refl;
}

pub data_complete : {b w : List ℕ} → CData b w → (r : List ℕ) → data_at_lem (w ++ r) ≡ got b r
unfolding data_at_lem bind
data_complete (Grammar.cdata {bs} {w} t) r =
    simp append_assoc (rw (
      mark_complete (ascii "<![CDATA[") (w ++ (ascii "]]>" ++ r)),
      row_complete (data_item r) t,
      mark_complete (ascii "]]>") r,
    ))

-- DOCTYPE
skipped_reads : {b w : List ℕ} → Skipped b w → (r : List ℕ) → skipped_at (w ++ r) ≡ got b r
unfolding skipped_at bind
skipped_reads (Grammar.skip {a} {w} h e) r = rw (literal_complete skipped h e r)

skipped_goes : {b w : List ℕ} → Skipped b w → (r : List ℕ) → begins (ascii ">") (w ++ r) ≡ false
unfolding begins skipped
skipped_goes (Grammar.skip {a} h e) r =
    let last = and_right (not (eqb a 60)) _ (and_right (not (eqb a 93)) _ (and_right (not (eqb a 91)) _ e)) in
    rw (not-true (eqb a 62) last)

pub skipped_long : {b w : List ℕ} → Skipped b w → 0 < length w
skipped_long (Grammar.skip h e) = omega arith

skipped_item : Item Skipped (begins (ascii ">")) skipped_at
skipped_item = record { reads = λ k r. skipped_reads k r; goes = λ k r. skipped_goes k r; long = λ k. skipped_long k }

pub doctype_complete : {w : List ℕ} → Doctype w → (r : List ℕ) → doctype_at (w ++ r) ≡ got tt r
unfolding doctype_at bind begins
doctype_complete (Grammar.doctype {bs} {w} t) r =
    simp append_assoc (rw (
      mark_complete (ascii "<!DOCTYPE") (w ++ (ascii ">" ++ r)),
      all_of_complete skipped_item t (ascii ">" ++ r) refl,
      mark_complete (ascii ">") r,
    ))
