-- THE LAW OF SKIPPING: what the parser reads as an element, a scan for tags passes over.
use Rattle.std.specs.Prelude.{◌≡◌, refl, List, [], ◌∷◌, ◌++◌, ℕ, suc, ◌<◌, Bool, true, false, eqb, length}
use Rattle.std.proofs.Common.{ap, sym, ◌∙◌, arith, length-append}
use Rattle.lists.proofs.Laws.Booleans.{clash}
use Rattle.grammar.specs.Bytes.{ascii, blank}
use Rattle.grammar.specs.Document.{Attribute, Element, Contents}
use Rattle.grammar.specs.Read.{got, bind, mark, span, test}
use Rattle.grammar.proofs.Laws.Read.{ok_got, mark_sound, span_sound}
use Rattle.grammar.specs.Grammar.{Name}
use Rattle.grammar.specs.Parser.{Look, at_close, at_comment, at_data, at_element, at_text, look, look_if, look₂, look_by, comment_at}
use Rattle.grammar.specs.Parser.{data_at_lem}
use Rattle.grammar.specs.Parser.{closing}
use Rattle.grammar.proofs.Laws.Sound.{name_sound, attributes_sound}
use Rattle.grammar.specs.Unfuelled.{contents}
use Rattle.steps.specs.Tags.{close_at}
use Rattle.nodes.specs.Places.{element₁₆, pick}
use Rattle.nodes.proofs.Laws.Places.{unbind}
use Rattle.nodes.proofs.Laws.ReadSteps.{Ending, bare, filled, Spelled, spelled, eats_child, Induction, induction}
use Rattle.nodes.specs.Scan.{to_tag, past_tag, finishes, finish, tag_from, tag_at, scan_by, scan, passed, skip_at}
use Rattle.nodes.proofs.Laws.Scanned.{scan_step}
use Rattle.nodes.specs.Scan.{leave_at}
use Rattle.nodes.proofs.Laws.ScanEnds.{to_tag_free, text_free, past_free, past_end, name_free, blanks_free, tag_name, tag_blanks}
use Rattle.nodes.proofs.Laws.ScanEnds.{tag_attributes}

-- a `<`, or nothing, is where the scan looks next
pub tag_here : (s : List ℕ) (l : Look) → look s ≡ l → (l ≡ at_text → ⊥) → to_tag s ≡ s
unfolding look to_tag look_if
tag_here [] l e f = refl
tag_here (a ∷ s) l e f = go (eqb a 60) e
  where
    go : (t : Bool) → look_if t (look₂ s) ≡ l → pick t (a ∷ s) (to_tag s) ≡ a ∷ s
    go true q = refl
    go false q = absurd (f (sym q))

pub no_text : {l : Look} → l ≡ at_close → l ≡ at_text → ⊥
no_text e f = clash (cc)

pub no_text_comment : {l : Look} → l ≡ at_comment → l ≡ at_text → ⊥
no_text_comment e f = clash (cc)

pub no_text_data : {l : Look} → l ≡ at_data → l ≡ at_text → ⊥
no_text_data e f = clash (cc)

pub no_text_element : {l : Look} → l ≡ at_element → l ≡ at_text → ⊥
no_text_element e f = clash (cc)

-- the tag of an element
pub tag_read : {s : List ℕ} {e : Element} {r : List ℕ} (p : Spelled s e r) → tag_at s ≡ tag_from 0 p.behind_blanks
unfolding tag_at
tag_read p =
    let n = ok_got (rw p.names at (name_sound p.behind_open)) in
    let a = ok_got (rw p.lists at (attributes_sound p.behind_name)) in
    let u = ok_got (rw p.blank_so at (span_sound blank p.behind_all)) in
    ap tag_at p.opens ∙ ap (tag_from 0) n.0 ∙ tag_name n.1 p.behind_name ∙ ap (tag_from 0) a.1
    ∙ tag_attributes a.2 p.behind_all
    ∙ ap (tag_from 0) u.0 ∙ tag_blanks u.1 p.behind_blanks

pub tag_bare : (r : List ℕ) → tag_from 0 (47 ∷ 62 ∷ r) ≡ got false r
unfolding tag_from finishes finish bind mark test closing
tag_bare r = refl

pub tag_filled : (t : List ℕ) → tag_from 0 (62 ∷ t) ≡ got true t
unfolding tag_from finishes finish closing
tag_filled t = refl

-- an end tag
pub record Closes (s r : List ℕ) : Type 0 where
  pub looks : look s ≡ at_close
  pub passes : past_tag s ≡ got tt r

closes_so : (n u r : List ℕ) → Name n → past_tag (u ++ (62 ∷ r)) ≡ got tt r → Closes (60 ∷ 47 ∷ (n ++ (u ++ (62 ∷ r)))) r
unfolding look look_if look₂ look_by past_tag
closes_so n u r h k = record { looks = refl; passes = past_free (name_free h) (u ++ (62 ∷ r)) ∙ k }

pub closes : (n s r : List ℕ) → Name n → close_at n s ≡ got tt r → Closes s r
unfolding close_at
closes n s r h e =
    let b₁ = unbind (mark (ascii "</") s) _ e in
    let b₂ = unbind (mark n b₁.rest) _ b₁.then in
    let b₃ = unbind (span blank b₂.rest) (λ _ r. mark (ascii ">") r) b₂.then in
    let k₁ : s ≡ 60 ∷ 47 ∷ b₁.rest = ok_got (rw b₁.reads at (mark_sound (ascii "</") s)) in
    let k₂ : b₁.rest ≡ n ++ b₂.rest = ok_got (rw b₂.reads at (mark_sound n b₁.rest)) in
    let k₃ = ok_got (rw b₃.reads at (span_sound blank b₂.rest)) in
    let k₄ : b₃.rest ≡ 62 ∷ r = ok_got (rw b₃.then at (mark_sound (ascii ">") b₃.rest)) in
    let u : List ℕ = b₃.value in
    let whole : s ≡ 60 ∷ 47 ∷ (n ++ (u ++ (62 ∷ r))) = k₁ ∙ ap (λ l. 60 ∷ 47 ∷ l) (k₂ ∙ ap (λ l. n ++ l) (k₃.0 ∙ ap (λ l. u ++ l) k₄)) in
    rw whole (closes_so n u r h (past_free (blanks_free k₃.1) (62 ∷ r) ∙ past_end r))

scan_at : (d : ℕ) (s : List ℕ) (l : Look) → look s ≡ l → (l ≡ at_text → ⊥) → scan d s ≡ scan_by l scan d s
scan_at d s l e f = let z = tag_here s l e f in scan_step d s ∙ rw (z, e)

pub scan_ends : {s r : List ℕ} → Closes s r → scan 0 s ≡ got tt s
unfolding scan_by
scan_ends {s} c = scan_at 0 s at_close c.looks (no_text refl)

scan_closes : (d : ℕ) {s r : List ℕ} → Closes s r → scan (suc d) s ≡ scan d r
unfolding scan_by bind
scan_closes d {s} {r} c = scan_at (suc d) s at_close c.looks (no_text refl) ∙ rw c.passes

-- contents
record Scans (s : List ℕ) (c : Contents) (t : List ℕ) : Type 0 where
  same_end : (d : ℕ) → scan d s ≡ scan d t

pub name_of_lem : {s : List ℕ} {e : Element} {r : List ℕ} (p : Spelled s e r) → Name p.name
name_of_lem p = (ok_got (rw p.names at (name_sound p.behind_open))).1

scan_tag : (d : ℕ) (s : List ℕ) {e : Element} {r : List ℕ} (p : Spelled s e r) → look s ≡ at_element
    → scan d s ≡ bind (tag_from 0 p.behind_blanks) (λ wide r. scan (pick wide (suc d) d) r)
unfolding scan_by
scan_tag d s p q = scan_at d s at_element q (no_text_element refl) ∙ rw (tag_read p)

module _ (d : ℕ) (n : List ℕ) (name : Name n) where
  scan_ending : {l : List Attribute} {s : List ℕ} {e : Element} {r : List ℕ} → Ending n l s e r
      → ((t : List ℕ) (c : Contents) (u : List ℕ) → length t < length s → contents 16 t ≡ got c u → scan (suc d) t ≡ scan (suc d) u)
      → bind (tag_from 0 s) (λ wide r. scan (pick wide (suc d) d) r) ≡ scan d r
  unfolding bind
  scan_ending {r = r} (bare k _) ih = rw (k, tag_bare r)
  scan_ending (filled {t} {behind} {c} k h z _) ih =
      let m : scan (suc d) t ≡ scan (suc d) behind = ih t c behind (rw k (omega arith)) h in
      rw (k, tag_filled t) (m ∙ scan_closes d (closes n behind _ name z))

behind_shorter : {s : List ℕ} {e : Element} {r : List ℕ} (p : Spelled s e r) → length p.behind_blanks < length s
behind_shorter p =
    let n = ok_got (rw p.names at (name_sound p.behind_open)) in
    let a = ok_got (rw p.lists at (attributes_sound p.behind_name)) in
    let u = ok_got (rw p.blank_so at (span_sound blank p.behind_all)) in
    omega (
      arith,
      ap length p.opens,
      ap length n.0,
      length-append p.name p.behind_name,
      ap length a.1,
      length-append a.0 p.behind_all,
      ap length u.0,
      length-append p.blanks p.behind_blanks,
    )

scan_child : (s r : List ℕ) (x : Element) → look s ≡ at_element → element₁₆ s ≡ got x r
    → ((s₁ : List ℕ) (c₁ : Contents) (t₁ : List ℕ) → length s₁ < length s → contents 16 s₁ ≡ got c₁ t₁ → Scans s₁ c₁ t₁) → (d : ℕ)
    → scan d s ≡ scan d r
scan_child s r x q e ih d =
    let p = spelled s x r e in
    scan_tag d s p q ∙ scan_ending d p.name (name_of_lem p) p.ending
    (λ t c u l h. (ih t c u (omega (arith, behind_shorter p)) h).same_end (suc d))

scan_remark : (s r : List ℕ) → look s ≡ at_comment → comment_at s ≡ got tt r → (d : ℕ) → scan d s ≡ scan d r
unfolding scan_by bind
scan_remark s r q e d = scan_at d s at_comment q (no_text_comment refl) ∙ rw e

scan_data : (s r b : List ℕ) → look s ≡ at_data → data_at_lem s ≡ got b r → (d : ℕ) → scan d s ≡ scan d r
unfolding scan_by bind
scan_data s r b q e d = scan_at d s at_data q (no_text_data refl) ∙ rw e

scan_text : (w r : List ℕ) → to_tag (w ++ r) ≡ to_tag r → (d : ℕ) → scan d (w ++ r) ≡ scan d r
scan_text w r e d = scan_step d (w ++ r) ∙ rw e (sym (scan_step d r))

scanning : Induction Scans
scanning = record {
  closed = λ s q. record { same_end = λ d. refl };
  remarked = λ s r c t q e h. record { same_end = λ d. scan_remark s r q e d ∙ h.same_end d };
  lettered = λ b w r c t k _ h. record { same_end = λ d. scan_text w r (to_tag_free (text_free k) r) d ∙ h.same_end d };
  marked = λ s r b c t q e h. record { same_end = λ d. scan_data s r b q e d ∙ h.same_end d };
  childed = λ s r x c t q e inside h. record
      { same_end = λ d. scan_child s r x q e inside d ∙ (inside r c t (eats_child s e) h).same_end d };
}

pub scan_contents : (s : List ℕ) (c : Contents) (t : List ℕ) → contents 16 s ≡ got c t → (d : ℕ) → scan d s ≡ scan d t
scan_contents s c t e d = (induction Scans scanning s c t e).same_end d

-- an element in contents is passed over
pub scan_element : (d : ℕ) (s : List ℕ) (x : Element) (r : List ℕ) → look s ≡ at_element → element₁₆ s ≡ got x r → scan d s ≡ scan d r
scan_element d s x r q e = scan_child s r x q e (λ s₁ c₁ t₁ l h. record { same_end = λ n. scan_contents s₁ c₁ t₁ h n }) d

-- an element
skip_ending : (n : List ℕ) → Name n → {l : List Attribute} {s : List ℕ} {e : Element} {r : List ℕ} → Ending n l s e r
    → bind (tag_from 0 s) (λ wide r. passed wide r) ≡ got tt r
unfolding bind passed leave_at
skip_ending n h {r = r} (bare k _) = rw (k, tag_bare r)
skip_ending n h (filled {t} {behind} {c} k e z _) =
    let w = closes n behind _ h z in
    let m : scan 0 t ≡ got tt behind = scan_contents t c behind e 0 ∙ scan_ends w in
    rw (k, tag_filled t, m, w.passes)

pub skip_element : (s : List ℕ) (e : Element) (r : List ℕ) → element₁₆ s ≡ got e r → skip_at s ≡ got tt r
unfolding skip_at
skip_element s e r h = let p = spelled s e r h in rw (tag_read p) (skip_ending p.name (name_of_lem p) p.ending)
