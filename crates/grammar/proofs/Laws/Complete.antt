-- Completeness, elements and documents: what the grammar writes, the parser reads.
use Rattle.std.specs.Prelude.{◌≡◌, refl, List, [], ◌∷◌, ◌++◌, ℕ, suc, ◌≤◌, ◌<◌, Bool, true, false, ◌&&◌, not, eqb, length, Some}
use Rattle.std.proofs.Common.{append_assoc, append-nil, length-append, arith, ne_eqb}
use Rattle.std.proofs.lemmas.Bool.{not-true}
use Rattle.lists.proofs.Laws.Booleans.{or_left, not_so}
use Rattle.grammar.specs.Bytes.{◌⊹◌, ascii, blank, name_start, name_byte, letter, quote, special, Each, no_byte, a_byte, Sequence}
use Rattle.grammar.specs.Bytes.{no_more, one_more, begins, parted}
use Rattle.grammar.specs.Document.{Attribute, Element, element, Contents, nothing, child, merged}
use Rattle.grammar.specs.Grammar
use Rattle.grammar.specs.Grammar.{Name, TextCharacter, Attributes, Comment, CData, Doctype, Prologue}
use Rattle.grammar.specs.Grammar.{WritesElement, Setting, Encoding, Declaration, Aside, Writes}
use Rattle.grammar.specs.Read.{fail, got, bind, byte, stops, alt, all_of}
use Rattle.grammar.proofs.Laws.Read.{test_complete}
use Rattle.grammar.proofs.Laws.Read.{mark_complete, mark_other, byte_complete, byte_other, span_complete, Item, all_of_complete}
use Rattle.grammar.proofs.Laws.Read.{with_fuel, seen_complete}
use Rattle.grammar.proofs.Laws.Facts.{blank_in, name_start_in}
use Rattle.grammar.proofs.Laws.Tokens.{name_complete, gap_complete, equals_complete, blanks_end_name, high_no_blank}
use Rattle.grammar.proofs.Laws.Tokens.{quote_ends_blanks, text_complete, text_long, parted_apart, ends_blanks}
use Rattle.grammar.proofs.Laws.Tokens.{attributes_complete, attributes_end_name, comment_complete}
use Rattle.grammar.proofs.Laws.Data.{data_complete, doctype_complete}
use Rattle.grammar.specs.Parser.{ends, closing, at_close, at_comment, at_data, at_element}
use Rattle.grammar.specs.Parser.{at_text, look, look₂, look₃, look_third, look_by, look_if, empty_at, full_at, element_at}
use Rattle.grammar.specs.Parser.{contents_by, contents_at, setting_at, asking, encoding_if_lem, declaration_if, declaration_at}
use Rattle.grammar.specs.Parser.{blank_at, remarked_at, aside_at, no_aside, doctype_if, prologue_at, end_at, document_at, answer}
use Rattle.grammar.specs.Parser.{parse}

-- an element begins with `<` and the first byte of a name
pub data Opening : List ℕ → Type 0 where
  opening : (a : ℕ) (w : List ℕ) → name_start a ≡ true → Opening (60 ∷ a ∷ w)

name_opens : {n : List ℕ} → Name n → (x : List ℕ) → Opening (60 ∷ (n ++ x))
name_opens (Grammar.name {a} {w} h₁ h₂ h₃) x = opening a (w ++ x) h₁

name_start_is_not : (a b : ℕ) → name_start a ≡ true → b < 65 → eqb a b ≡ false
name_start_is_not a b h l = let x = name_start_in a h in ne_eqb a b λ e. omega arith

pub opening_looks : {w : List ℕ} → Opening w → (r : List ℕ) → look (w ++ r) ≡ at_element
unfolding look look₂ look_if look_by
opening_looks (opening a w h) r = rw (name_start_is_not a 47 h (omega arith), name_start_is_not a 33 h (omega arith))

opening_long : {w : List ℕ} → Opening w → 0 < length w
opening_long (opening a w h) = omega arith

-- > behind a tag
gt_ends_name : (r : List ℕ) → stops name_byte (62 ∷ r) ≡ true
unfolding stops name_byte letter
gt_ends_name r = refl

slash_ends_name : (r : List ℕ) → stops name_byte (47 ∷ r) ≡ true
unfolding stops name_byte letter
slash_ends_name r = refl

gt_ends_blanks : (r : List ℕ) → stops blank (62 ∷ r) ≡ true
unfolding stops blank
gt_ends_blanks r = refl

slash_ends_blanks : (r : List ℕ) → stops blank (47 ∷ r) ≡ true
unfolding stops blank
slash_ends_blanks r = refl

gt_closes : {u : List ℕ} → Each blank u → (r : List ℕ) → ends closing (u ++ (62 ∷ r)) ≡ true
unfolding ends closing blank
gt_closes h r = rw (ends_blanks closing h (62 ∷ r))

slash_closes : {u : List ℕ} → Each blank u → (r : List ℕ) → ends closing (u ++ (47 ∷ r)) ≡ true
unfolding ends closing blank
slash_closes h r = rw (ends_blanks closing h (47 ∷ r))

pub record ElementRead (d : ℕ) (e : Element) (w : List ℕ) : Type 0 where
  pub reads : (n : ℕ) → length w ≤ n → (r : List ℕ) → element_at (contents_at n) d (w ++ r) ≡ got e r
  pub opens : Opening w

record ContentsRead (d : ℕ) (c : Contents) (w : List ℕ) : Type 0 where
  reads : (n : ℕ) → length w < n → (r : List ℕ) → contents_at n d (w ++ (60 ∷ 47 ∷ r)) ≡ got c (60 ∷ 47 ∷ r)

full_read : {d : ℕ} {n t u k v : List ℕ} {l : List Attribute} {c : Contents}
    → Name n → Attributes l t → Each blank u → ContentsRead d c k → Each blank v
    → ElementRead (suc d) (element n l c k) (ascii "<" ⊹ n ⊹ t ⊹ u ⊹ ascii ">" ⊹ k ⊹ ascii "</" ⊹ n ⊹ v ⊹ ascii ">")
unfolding element_at empty_at full_at bind alt
full_read {d} {n} {t} {u} {k} {v} {l} {c} nm at hu ih hv = record {
  reads = λ m h r.
      let fits : length k < m = omega (arith, simp length-append at h) in
      let y : List ℕ = n ++ (v ++ (62 ∷ r)) in
      let x : List ℕ = k ++ (60 ∷ 47 ∷ (n ++ (v ++ (62 ∷ r)))) in
      simp append_assoc (rw (
        mark_complete (ascii "<") (n ++ (t ++ (u ++ (62 ∷ x)))),
        name_complete nm (t ++ (u ++ (62 ∷ x))) (attributes_end_name at (u ++ (62 ∷ x)) (blanks_end_name hu (62 ∷ x) (gt_ends_name x))),
        attributes_complete at (u ++ (62 ∷ x)) (gt_closes hu x),
        span_complete blank hu (62 ∷ x) (gt_ends_blanks x),
        mark_other 47 62 (ascii ">") x refl,
        mark_complete (ascii ">") x,
        seen_complete (contents_at m d) c k (60 ∷ 47 ∷ y) (ih.reads m fits y),
        mark_complete (ascii "</") y,
        mark_complete n (v ++ (62 ∷ r)),
        span_complete blank hv (62 ∷ r) (gt_ends_blanks r),
        mark_complete (ascii ">") r,
      ));
  opens = name_opens nm _;
}

empty_read : {d : ℕ} {n t u : List ℕ} {l : List Attribute}
    → Name n → Attributes l t → Each blank u
    → ElementRead (suc d) (element n l nothing []) (ascii "<" ⊹ n ⊹ t ⊹ u ⊹ ascii "/>")
unfolding element_at empty_at bind alt
empty_read {d} {n} {t} {u} {l} nm at hu = record {
  reads = λ m h r.
      let x : List ℕ = 62 ∷ r in
      simp append_assoc (rw (
        mark_complete (ascii "<") (n ++ (t ++ (u ++ (47 ∷ x)))),
        name_complete nm (t ++ (u ++ (47 ∷ x))) (attributes_end_name at (u ++ (47 ∷ x)) (blanks_end_name hu (47 ∷ x) (slash_ends_name x))),
        attributes_complete at (u ++ (47 ∷ x)) (slash_closes hu x),
        span_complete blank hu (47 ∷ x) (slash_ends_blanks x),
        mark_complete (ascii "/>") r,
      ));
  opens = name_opens nm _;
}

-- one step of the contents, with the calls below left as they are
pub contents_suc : (n d : ℕ) (s : List ℕ) → contents_at (suc n) d s ≡ contents_by (contents_at n) d (look s) s
unfolding contents_at
contents_suc n d s = refl

close_looks : (r : List ℕ) → look (60 ∷ 47 ∷ r) ≡ at_close
unfolding look look₂ look_if look_by
close_looks r = refl

none_read : {d : ℕ} → ContentsRead d nothing []
unfolding contents_by
none_read {d} = record {
  reads = λ n h r. with_fuel (λ n. contents_at n d (60 ∷ 47 ∷ r) ≡ got nothing (60 ∷ 47 ∷ r)) 0 n h λ m hm. rw
      (contents_suc, close_looks);
}

pub comment_looks : {w : List ℕ} → Comment w → (r : List ℕ) → look (w ++ r) ≡ at_comment
unfolding look look₂ look₃ look_third look_if look_by
comment_looks (Grammar.comment t) r = refl

pub comment_long : {w : List ℕ} → Comment w → 0 < length w
comment_long (Grammar.comment t) = omega arith

remark_read : {d : ℕ} {c : Contents} {w s : List ℕ} → Comment w → ContentsRead d c s → ContentsRead d c (w ⊹ s)
unfolding contents_by bind
remark_read {d} {c} {w} {s} k ih = record {
  reads = λ n h r.
      with_fuel (λ n. contents_at n d ((w ++ s) ++ (60 ∷ 47 ∷ r)) ≡ got c (60 ∷ 47 ∷ r)) (length (w ++ s)) n h λ m hm.
      let fits : length s < m = omega (arith, comment_long k, length-append w s) in
      rw (append_assoc w s, contents_suc, comment_looks k, comment_complete k) (ih.reads m fits r);
}

pub data_looks : {b w : List ℕ} → CData b w → (r : List ℕ) → look (w ++ r) ≡ at_data
unfolding look look₂ look₃ look_third look_if look_by
data_looks (Grammar.cdata t) r = refl

pub data_long : {b w : List ℕ} → CData b w → 0 < length w
data_long (Grammar.cdata t) = omega arith

marked_read : {d : ℕ} {c : Contents} {b w s : List ℕ} → CData b w → ContentsRead d c s → ContentsRead d (merged b c) (w ⊹ s)
unfolding contents_by bind
marked_read {d} {c} {b} {w} {s} k ih = record {
  reads = λ n h r.
      with_fuel (λ n. contents_at n d ((w ++ s) ++ (60 ∷ 47 ∷ r)) ≡ got (merged b c) (60 ∷ 47 ∷ r)) (length (w ++ s)) n h λ m hm.
      let fits : length s < m = omega (arith, data_long k, length-append w s) in
      rw (append_assoc w s, contents_suc, data_looks k, data_complete k, ih.reads m fits r);
}

text_looks : {b w : List ℕ} → TextCharacter b w → (r : List ℕ) → look (w ++ r) ≡ at_text
unfolding look look_if special
text_looks (TextCharacter.literal {a} h e f) r = rw (or_left (eqb a 60) (eqb a 38) e)
text_looks (TextCharacter.line_end Grammar.pair) r = refl
text_looks (TextCharacter.line_end Grammar.lone) r = refl
text_looks (TextCharacter.reference Grammar.amp) r = refl
text_looks (TextCharacter.reference Grammar.lt) r = refl
text_looks (TextCharacter.reference Grammar.gt) r = refl
text_looks (TextCharacter.reference Grammar.quot) r = refl
text_looks (TextCharacter.reference Grammar.apos) r = refl

-- what holds no `<` does not begin where a tag begins
begins_apart : (k x r : List ℕ) → Each (λ a. not (eqb 60 a)) k → begins k x ≡ false → begins k (x ++ (60 ∷ r)) ≡ false
unfolding begins
begins_apart [] x r h e = e
begins_apart (a ∷ k) [] r (a_byte h t) e = rw (not-true (eqb 60 a) h)
begins_apart (a ∷ k) (b ∷ x) r (a_byte h t) e = go (eqb b a) e (begins_apart k x r t)
  where
    go : (t : Bool) → (t && begins k x) ≡ false → (begins k x ≡ false → begins k (x ++ (60 ∷ r)) ≡ false)
        → (t && begins k (x ++ (60 ∷ r))) ≡ false
    go true e ih = ih e
    go false e ih = refl

character_read : {d : ℕ} {c : Contents} {b w s : List ℕ} → TextCharacter b w → parted w s ≡ false → begins (ascii "]]>") (w ⊹ s) ≡ false
    → ContentsRead d c s → ContentsRead d (merged b c) (w ⊹ s)
unfolding contents_by bind
character_read {d} {c} {b} {w} {s} k p e ih = record {
  reads = λ n h r.
      with_fuel (λ n. contents_at n d ((w ++ s) ++ (60 ∷ 47 ∷ r)) ≡ got (merged b c) (60 ∷ 47 ∷ r)) (length (w ++ s)) n h λ m hm.
      let fits : length s < m = omega (arith, text_long k, length-append w s) in
      let clear : begins (ascii "]]>") (w ++ (s ++ (60 ∷ 47 ∷ r))) ≡ false =
      rw append_assoc at (begins_apart (ascii "]]>") (w ++ s) (47 ∷ r) (a_byte refl (a_byte refl (a_byte refl no_byte))) e) in
      rw (
        append_assoc w s,
        contents_suc,
        text_looks k,
        test_complete (not_so clear) (w ++ (s ++ (60 ∷ 47 ∷ r))),
        text_complete k (s ++ (60 ∷ 47 ∷ r)) (parted_apart w s 60 (47 ∷ r) refl p),
        ih.reads m fits r,
      );
}

inner_read : {d : ℕ} {e : Element} {c : Contents} {w s : List ℕ} → ElementRead d e w → ContentsRead d c s
    → ContentsRead d (child e c) (w ⊹ s)
unfolding contents_by bind
inner_read {d} {e} {c} {w} {s} ih₁ ih₂ = record {
  reads = λ n h r.
      with_fuel (λ n. contents_at n d ((w ++ s) ++ (60 ∷ 47 ∷ r)) ≡ got (child e c) (60 ∷ 47 ∷ r)) (length (w ++ s)) n h λ m hm.
      let fits₁ : length w ≤ m = omega (arith, length-append w s) in
      let fits₂ : length s < m = omega (arith, opening_long ih₁.opens, length-append w s) in
      rw (append_assoc w s, contents_suc, opening_looks ih₁.opens, ih₁.reads m fits₁ (s ++ (60 ∷ 47 ∷ r)), ih₂.reads m fits₂ r);
}

pub element_read : {d : ℕ} {e : Element} {w : List ℕ} → WritesElement d e w → ElementRead d e w
element_read t = elim t as (λ d e w _. ElementRead d e w) (λ d c w _. ContentsRead d c w) [
  | Grammar.full nm at hu (kids → ih) hv ↦ full_read nm at hu ih hv
  | Grammar.empty nm at hu ↦ empty_read nm at hu
  | Grammar.none ↦ none_read
  | Grammar.remark k (t → ih) ↦ remark_read k ih
  | Grammar.character k p e (t → ih) ↦ character_read k p e ih
  | Grammar.marked k (t → ih) ↦ marked_read k ih
  | Grammar.inner (k → ih₁) (t → ih₂) ↦ inner_read ih₁ ih₂
]

pub element_long : {d : ℕ} {e : Element} {w : List ℕ} → WritesElement d e w → 0 < length w
element_long h = opening_long (element_read h).opens

-- the declaration
setting_complete : {k v w : List ℕ} → ((r : List ℕ) → stops blank (k ++ r) ≡ true) → Setting k v w → (r : List ℕ)
    → setting_at k v (w ++ r) ≡ got tt r
unfolding setting_at bind
setting_complete {k} {v} hk (Grammar.setting {u} {e} q h₁ h₂ h₃) r =
    simp append_assoc (rw (
      gap_complete h₁ (k ++ (e ++ (q ∷ (v ++ (q ∷ r))))) (hk _),
      mark_complete k (e ++ (q ∷ (v ++ (q ∷ r)))),
      equals_complete h₂ (q ∷ (v ++ (q ∷ r))) (quote_ends_blanks q h₃ _),
      byte_complete quote q h₃ (v ++ (q ∷ r)),
      mark_complete v (q ∷ r),
      mark_complete (q ∷ []) r,
    ))

setting_gap : {k v w : List ℕ} (p : ℕ → Bool) → Setting k v w → (r : List ℕ) → ((r : List ℕ) → ends p (k ++ r) ≡ false)
    → ends p (w ++ r) ≡ false
setting_gap {k} {v} p (Grammar.setting {e = e} q (Grammar.gap {w = w} h₀ h₁) h₂ h₃) r hk =
    simp append_assoc (rw (ends_blanks p (a_byte h₀ h₁) (k ++ (e ++ (q ∷ (v ++ (q ∷ r)))))) (hk _))

ask_closes : {u : List ℕ} → Each blank u → (r : List ℕ) → ends asking (u ++ (63 ∷ r)) ≡ true
unfolding ends asking blank
ask_closes h r = rw (ends_blanks asking h (63 ∷ r))

ask_ends_blanks : (r : List ℕ) → stops blank (63 ∷ r) ≡ true
unfolding stops blank
ask_ends_blanks r = refl

version_ends_blanks : (r : List ℕ) → stops blank (ascii "version" ++ r) ≡ true
unfolding stops blank
version_ends_blanks r = refl

encoding_ends_blanks : (r : List ℕ) → stops blank (ascii "encoding" ++ r) ≡ true
unfolding stops blank
encoding_ends_blanks r = refl

no_ask : (r : List ℕ) → ends asking (ascii "encoding" ++ r) ≡ false
unfolding ends asking blank
no_ask r = refl

encoding_complete : {e u : List ℕ} → Encoding e → Each blank u → (r : List ℕ)
    → encoding_if_lem (ends asking (e ++ (u ++ (63 ∷ r)))) (e ++ (u ++ (63 ∷ r))) ≡ got tt (u ++ (63 ∷ r))
unfolding encoding_if_lem
encoding_complete Grammar.no_encoding h r = rw (ask_closes h r)
encoding_complete {e} {u} (Grammar.encoding k) h r =
    rw (setting_gap asking k (u ++ (63 ∷ r)) no_ask) (setting_complete encoding_ends_blanks k (u ++ (63 ∷ r)))

asked : (r : List ℕ) → begins (ascii "<?") (60 ∷ 63 ∷ r) ≡ true
unfolding begins
asked r = refl

pub declaration_complete : {p : List ℕ} → Declaration p → (r : List ℕ) → begins (ascii "<?") r ≡ false → declaration_at (p ++ r) ≡ got tt r
unfolding declaration_at declaration_if bind
declaration_complete Grammar.no_declaration r h = rw h
declaration_complete (Grammar.declaration {v} {e} {u} h₁ h₂ h₃) r h =
    let x : List ℕ = 62 ∷ r in
    simp append_assoc (rw (
      asked (120 ∷ 109 ∷ 108 ∷ (v ++ (e ++ (u ++ (63 ∷ x))))),
      mark_complete (ascii "<?xml") (v ++ (e ++ (u ++ (63 ∷ x)))),
      setting_complete version_ends_blanks h₁ (e ++ (u ++ (63 ∷ x))),
      encoding_complete h₂ h₃ x,
      span_complete blank h₃ (63 ∷ x) (ask_ends_blanks x),
      mark_complete (ascii "?>") r,
    ))

-- blanks and comments round the root
aside_reads : {b w : List ℕ} → Aside b w → (r : List ℕ) → aside_at (w ++ r) ≡ got b r
unfolding aside_at blank_at remarked_at alt bind
aside_reads (Grammar.blank_aside {a} h) r = rw (byte_complete blank a h r)
aside_reads (Grammar.comment_aside k) r = rw (comment_no_blank k r, comment_complete k r)
  where
    comment_no_blank : {w : List ℕ} → Comment w → (r : List ℕ) → byte blank (w ++ r) ≡ fail
    comment_no_blank (Grammar.comment t) r = byte_other blank 60 (high_no_blank 60 (omega arith)) _

aside_goes : {b w : List ℕ} → Aside b w → (r : List ℕ) → no_aside (w ++ r) ≡ false
unfolding no_aside stops begins blank
aside_goes (Grammar.blank_aside {a} h) r = rw h
aside_goes (Grammar.comment_aside (Grammar.comment t)) r = refl

pub aside_long : {b w : List ℕ} → Aside b w → 0 < length w
aside_long (Grammar.blank_aside h) = omega arith
aside_long (Grammar.comment_aside k) = comment_long k

pub aside_item : Item Aside no_aside aside_at
aside_item = record { reads = λ k r. aside_reads k r; goes = λ k r. aside_goes k r; long = λ k. aside_long k }

pub opening_no_aside : {w : List ℕ} → Opening w → (r : List ℕ) → no_aside (w ++ r) ≡ true
unfolding no_aside stops begins blank
opening_no_aside (opening a w h) r = rw (name_start_is_not a 33 h (omega arith))

pub opening_no_ask : {w : List ℕ} → Opening w → (r : List ℕ) → begins (ascii "<?") (w ++ r) ≡ false
unfolding begins
opening_no_ask (opening a w h) r = rw (name_start_is_not a 63 h (omega arith))

pub asides_no_ask : {l : List (List ℕ)} {u : List ℕ} → Sequence Aside l u → (r : List ℕ) → begins (ascii "<?") r ≡ false
    → begins (ascii "<?") (u ++ r) ≡ false
unfolding begins
asides_no_ask no_more r e = e
asides_no_ask (one_more (Grammar.blank_aside {a} h) t) r e = let low = blank_in a h in rw (ne_eqb a 60 λ q. omega arith)
asides_no_ask (one_more (Grammar.comment_aside (Grammar.comment k)) t) r e = refl

none_left : no_aside [] ≡ true
unfolding no_aside stops begins
none_left = refl

-- the DOCTYPE
doctype_ends_asides : {x : List ℕ} → Doctype x → (r : List ℕ) → no_aside (x ++ r) ≡ true
unfolding no_aside stops begins blank
doctype_ends_asides (Grammar.doctype t) r = refl

doctype_begins : {x : List ℕ} → Doctype x → (r : List ℕ) → begins (ascii "<!D") (x ++ r) ≡ true
unfolding begins
doctype_begins (Grammar.doctype t) r = refl

doctype_no_ask : {x : List ℕ} → Doctype x → (r : List ℕ) → begins (ascii "<?") (x ++ r) ≡ false
unfolding begins
doctype_no_ask (Grammar.doctype t) r = refl

opening_no_doctype : {w : List ℕ} → Opening w → (r : List ℕ) → begins (ascii "<!D") (w ++ r) ≡ false
unfolding begins
opening_no_doctype (opening a w h) r = rw (name_start_is_not a 33 h (omega arith))

pub prologue_complete : {u w : List ℕ} → Prologue u → Opening w → (r : List ℕ) → prologue_at (u ++ (w ++ r)) ≡ got tt (w ++ r)
unfolding prologue_at doctype_if bind
prologue_complete {w = w} (Grammar.untyped h) o r =
    rw (all_of_complete aside_item h (w ++ r) (opening_no_aside o r), opening_no_doctype o r)
prologue_complete {w = w} (Grammar.typed {u = u} {x} {v} h k t) o r =
    simp append_assoc (rw (
      all_of_complete aside_item h (x ++ (v ++ (w ++ r))) (doctype_ends_asides k (v ++ (w ++ r))),
      doctype_begins k (v ++ (w ++ r)),
      doctype_complete k (v ++ (w ++ r)),
      all_of_complete aside_item t (w ++ r) (opening_no_aside o r),
    ))

pub prologue_no_ask : {u w : List ℕ} → Prologue u → Opening w → (r : List ℕ) → begins (ascii "<?") (u ++ (w ++ r)) ≡ false
prologue_no_ask {w = w} (Grammar.untyped h) o r = asides_no_ask h (w ++ r) (opening_no_ask o r)
prologue_no_ask {w = w} (Grammar.typed {u = u} {x} {v} h k t) o r =
    simp append_assoc (asides_no_ask h (x ++ (v ++ (w ++ r))) (doctype_no_ask k (v ++ (w ++ r))))

document_complete : {e : Element} {s : List ℕ} → Writes e s → (n : ℕ) → length s ≤ n → document_at n s ≡ got e []
unfolding document_at bind end_at
document_complete (Grammar.document {p} {u} {w} {v} {e = e} h₁ h₂ h₃ h₄) n h =
    let ih = element_read h₃ in
    let fits : length w ≤ n = omega (arith, simp length-append at h) in
    let last : all_of no_aside aside_at v ≡ got _ [] = rw append-nil at (all_of_complete aside_item h₄ [] none_left) in
    rw (
      declaration_complete h₁ (u ++ (w ++ v)) (prologue_no_ask h₂ ih.opens v),
      prologue_complete h₂ ih.opens v,
      ih.reads n fits v,
      last,
    )

pub parse_complete : {e : Element} {s : List ℕ} → Writes e s → parse s ≡ Some e
unfolding parse answer
parse_complete {e} {s} h = rw (document_complete h (length s) (omega arith))
