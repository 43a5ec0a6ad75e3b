-- The scan over contents and elements, at a position of the text: one law for each way through the code.
use Rattle.std.specs.Prelude.{◌≡◌, List, Bool, drop, Option, Some, None, ℕ}
use Rattle.std.proofs.Math.Path.{refl, ap, sym}
use Rattle.std.proofs.Common.{◌∙◌, rules, length-drop}
use Prim.Native.Nat.{ℕ, suc, ◌+◌, ◌-◌, ◌≤◌, ◌<◌}
use native.Mathlib.Omega.{arith}
use Rattle.std.proofs.Math.Bool.{true, false}
use Rattle.std.proofs.Math.ListN.{length}
use Rattle.lists.proofs.Laws.Booleans.{clash}
use Rattle.grammar.specs.Read.{Read, fail, got, bind}
use Rattle.grammar.proofs.Laws.Read.{Ok, good, ok_got}
use Rattle.grammar.specs.Parser.{comment_at, data_at_lem, Look, at_close, at_comment, at_data, at_element, at_text, look}
use Rattle.grammar.proofs.Laws.Sound.{comment_sound, data_sound}
use Rattle.steps.specs.Step.{stepped, Went}
use Rattle.steps.proofs.Laws.Step.{arrives, refuses, fell, Tails, tails, went}
use Rattle.nodes.proofs.Laws.Places.{Tail, tail_of, tail_more}
use Rattle.nodes.proofs.Laws.Depth.{comment_eats, data_eats}
use Rattle.nodes.specs.Scan.{to_tag, past_tag, tag_at, scan, skip_at, passed}
use Rattle.nodes.proofs.Laws.Scanned.{to_tag_tail, to_tag_short, past_tag_less, tag_less}
use Rattle.nodes.specs.Scan.{leave_at}
use Rattle.nodes.proofs.Laws.Scanned.{scan_tails, Less, less_tails, less_falls}
use Rattle.nodes.specs.ScanSteps.{tag_told, Mark, closes, opens, flat, none, flat_of, mark_of, sign_by, sign, sign_told}
use Rattle.nodes.proofs.Laws.ScanSteps.{go_on, scan_on}
use Rattle.nodes.specs.declared.scan.Tag.{Tag}
use Rattle.nodes.specs.declared.scan.Tag.TheVariants as tag_is
use Rattle.nodes.specs.declared.scan.Sign.{Sign}
use Rattle.nodes.specs.declared.scan.Sign.TheVariants as sign-is

pub place : (text : List ℕ) (k : ℕ) → k ≤ length text → length text - length (drop k text) ≡ k
place text k h = simp length-drop (omega arith)

-- where an end of the text begins
pub record Lies (text r : List ℕ) (j : ℕ) : Type 0 where
  pub inside : j ≤ length text
  pub rest : r ≡ drop j text

pub lies : {text r : List ℕ} {j : ℕ} → Tail text r → length text - length r ≡ j → Lies text r j
lies {text} {r} t e = record { inside = omega arith; rest = sym (ap (λ n. drop n text) (sym e) ∙ t.stands) }

-- THE NEXT TAG
pub tag_lies : (text : List ℕ) (i : ℕ) {t : ℕ} → t ≡ length text - length (to_tag (drop i text)) → Lies text (to_tag (drop i text)) t
tag_lies text i e = let k = to_tag_tail (drop i text) in lies (tail_more k.0 (to_tag (drop i text)) k.1 (tail_of text i)) (sym e)

pub tag_short : (text : List ℕ) (i : ℕ) {t : ℕ} → t ≡ length text - length (to_tag (drop i text)) → length text - t ≤ length text - i
tag_short text i e = let h = to_tag_short (drop i text) in omega (arith, length-drop i text)

-- what a sign leaves
data Leaves (s : List ℕ) : Mark → Type 0 where
  leaves_close : Leaves s (closes s)
  leaves_open : {r : List ℕ} → Less {A = Unit {0}} s tt r → Leaves s (opens r)
  leaves_flat : {r : List ℕ} → Less {A = Unit {0}} s tt r → Leaves s (flat r)
  leaves_none : Leaves s none

less_any : {A B : Type 0} {s r : List ℕ} {a : A} (b : B) → Less s a r → Less s b r
less_any b k = record { front = k.front; whole = k.whole; falls = k.falls }

flat_leaves : {A : Type 0} (s : List ℕ) (m : Read A) → Ok (Tails s) m → Ok (λ _ r. length r < length s) m → Leaves s (flat_of m)
unfolding flat_of
flat_leaves s fail h k = leaves_none
flat_leaves s (got u r) (good h) (good k) = leaves_flat (record { front = h.0; whole = h.1; falls = k })

mark_leaves : (s : List ℕ) (m : Read Bool) → Ok (Less s) m → Leaves s (mark_of m)
unfolding mark_of
mark_leaves s fail h = leaves_none
mark_leaves s (got true r) (good h) = leaves_open (less_any tt h)
mark_leaves s (got false r) (good h) = leaves_flat (less_any tt h)

by_leaves : (l : Look) (s : List ℕ) → Leaves s (sign_by l s)
unfolding sign_by
by_leaves at_close s = leaves_close
by_leaves at_comment s = flat_leaves s (comment_at s) (tails (comment_sound s)) (comment_eats s)
by_leaves at_data s = flat_leaves s (data_at_lem s) (tails (data_sound s)) (data_eats s)
by_leaves at_element s = mark_leaves s (tag_at s) (tag_less s)
by_leaves at_text s = leaves_none

sign_leaves : (s : List ℕ) → Leaves s (sign s)
unfolding sign
sign_leaves s = by_leaves (look s) s

-- the place that a sign tells
record Told (text s : List ℕ) (m : Mark) (j : ℕ) (made : List ℕ → Mark) : Type 0 where
  inside : j ≤ length text
  is : m ≡ made (drop j text)
  falls : length text - j < length s

module _ (text s : List ℕ) (t : Tail text s) where
  told_of : (r : List ℕ) (j : ℕ) (made : List ℕ → Mark) → Less {A = Unit {0}} s tt r → length text - length r ≡ j
      → Told text s (made r) j made
  told_of r j made k e =
      let u : Tail text r = tail_more k.front r k.whole t in
      let l = lies u e in
      record { inside = l.inside; is = ap made l.rest; falls = omega (arith, u.fits, k.falls) }

  told_open : (m : Mark) {j : ℕ} → Leaves s m → sign_told (length text) m ≡ Some (sign-is.Open j) → Told text s m j opens
  unfolding sign_told
  told_open (closes r) k e = clash (cc)
  told_open (opens r) {j} (leaves_open k) e = told_of r j opens k (let q : length text - length r ≡ j = cc in q)
  told_open (flat r) k e = clash (cc)
  told_open none k e = clash (cc)

  told_flat : (m : Mark) {j : ℕ} → Leaves s m → sign_told (length text) m ≡ Some (sign-is.Flat j) → Told text s m j flat
  unfolding sign_told
  told_flat (closes r) k e = clash (cc)
  told_flat (opens r) k e = clash (cc)
  told_flat (flat r) {j} (leaves_flat k) e = told_of r j flat k (let q : length text - length r ≡ j = cc in q)
  told_flat none k e = clash (cc)

  told_close : (m : Mark) {j : ℕ} → Leaves s m → sign_told (length text) m ≡ Some (sign-is.Close j) → (m ≡ closes (drop j text))
      × (length text - j ≤ length s)
  unfolding sign_told
  told_close (closes _) {j} leaves_close e =
      let q : length text - length s ≡ j = cc in
      let l = lies t q in
      (ap closes l.rest, omega (arith, t.fits))
  told_close (opens r) k e = clash (cc)
  told_close (flat r) k e = clash (cc)
  told_close none k e = clash (cc)

  told_none : (m : Mark) → sign_told (length text) m ≡ None → m ≡ none
  unfolding sign_told
  told_none (closes r) e = clash (cc)
  told_none (opens r) e = clash (cc)
  told_none (flat r) e = clash (cc)
  told_none none e = refl

-- CONTENTS
pub record Scanning (text : List ℕ) (at depth i : ℕ) : Type 0 where
  same_end : scan 0 (drop at text) ≡ scan depth (drop i text)
  small : depth + (length text - i) ≤ length text

pub scan_start : (text : List ℕ) (at : ℕ) → Scanning text at 0 at
scan_start text at = record { same_end = refl; small = omega arith }

module _ (text : List ℕ) (at depth i : ℕ) (go : Scanning text at depth i) {t : ℕ}
    (et : t ≡ length text - length (to_tag (drop i text))) {g : Option Sign} (eg : g ≡ sign_told (length text) (sign (drop t text))) where
  abbrev s : List ℕ
  s = drop t text

  on : scan 0 (drop at text) ≡ go_on (sign s) depth
  on = go.same_end ∙ scan_on depth (drop i text) ∙ ap (λ l. go_on (sign l) depth) (tag_lies text i et).rest

  short : length s ≤ length text - i
  short = omega (arith, tag_short text i et, length-drop t text)

  pub scan_none : g ≡ None → None ≡ stepped (length text) (scan 0 (drop at text))
  unfolding go_on
  scan_none z = refuses (length text) (scan 0 (drop at text)) (on ∙ rw (told_none text s (tail_of text t) (sign s) (sym eg ∙ z)))

  module _ {y : Sign} (there : g ≡ Some y) {j : ℕ} (z : y ≡ sign-is.Open j) where
    opened : Told text s (sign s) j opens
    opened = told_open text s (tail_of text t) (sign s) (sign_leaves s) (sym eg ∙ there ∙ ap Some z)

    pub scan_room : depth < length text
    scan_room = omega (arith, go.small, opened.falls, short)

    pub scan_open : Scanning text at (depth + 1) j
    unfolding go_on
    scan_open =
        let n : suc depth ≡ depth + 1 = omega arith in
        record { same_end = on ∙ rw (opened.is, n); small = omega (arith, go.small, opened.falls, short) }

    pub scan_open_less : length text - j < length text - i
    scan_open_less = omega (arith, opened.falls, short)

  module _ {y : Sign} (there : g ≡ Some y) {j : ℕ} (z : y ≡ sign-is.Flat j) where
    flattened : Told text s (sign s) j flat
    flattened = told_flat text s (tail_of text t) (sign s) (sign_leaves s) (sym eg ∙ there ∙ ap Some z)

    pub scan_flat : Scanning text at depth j
    unfolding go_on
    scan_flat = record { same_end = on ∙ rw flattened.is; small = omega (arith, go.small, flattened.falls, short) }

    pub scan_flat_less : length text - j < length text - i
    scan_flat_less = omega (arith, flattened.falls, short)

  module _ {y : Sign} (there : g ≡ Some y) {j : ℕ} (z : y ≡ sign-is.Close j) where
    closed : (sign s ≡ closes (drop j text)) × (length text - j ≤ length s)
    closed = told_close text s (tail_of text t) (sign s) (sign_leaves s) (sym eg ∙ there ∙ ap Some z)

    inside : j ≤ length text
    unfolding sign_told
    inside = go_in (sign s) (sym eg ∙ there ∙ ap Some z)
      where
        go_in : (m : Mark) → sign_told (length text) m ≡ Some (sign-is.Close j) → j ≤ length text
        go_in (closes r) e = let q : length text - length r ≡ j = cc in omega arith
        go_in (opens r) e = clash (cc)
        go_in (flat r) e = clash (cc)
        go_in none e = clash (cc)

    pub scan_ends : depth ≡ 0 → Some j ≡ stepped (length text) (scan 0 (drop at text))
    unfolding go_on
    scan_ends e =
        let q : scan 0 (drop at text) ≡ got tt (drop j text) = on ∙ rw (closed.0, e) in
        arrives text (scan 0 (drop at text)) j inside q

    module _ (f : depth ≡ 0 → ⊥) {x : Option ℕ} (k : x ≡ stepped (length text) (past_tag (drop j text))) where
      deeper : scan 0 (drop at text) ≡ bind (past_tag (drop j text)) (λ _ r. scan (depth - 1) r)
      unfolding go_on
      deeper = let n : depth ≡ suc (depth - 1) = omega arith in on ∙ ap (λ m. go_on m depth) closed.0
          ∙ ap (go_on (closes (drop j text))) n

      pub scan_stuck : x ≡ None → None ≡ stepped (length text) (scan 0 (drop at text))
      unfolding bind
      scan_stuck w = refuses (length text) (scan 0 (drop at text)) (deeper ∙ rw (fell (length text) (past_tag (drop j text)) (sym w ∙ k)))

      module _ {k₁ : ℕ} (w : x ≡ Some k₁) where
        passed_on : Went past_tag text j k₁
        passed_on = went past_tag text j k₁ (less_tails (past_tag_less (drop j text))) (sym w ∙ k)

        falls : length text - k₁ < length text - j
        falls =
            let h : length (drop k₁ text) < length (drop j text) =
            ok_got (rw passed_on.reads at (less_falls (past_tag_less (drop j text)))) in
            omega (arith, length-drop k₁ text, length-drop j text)

        pub scan_past : {d : ℕ} → d ≡ depth - 1 → Scanning text at d k₁
        unfolding bind
        scan_past e = record { same_end = deeper ∙ rw (passed_on.reads, e); small = omega (arith, go.small, falls, closed.1, short) }

        pub scan_past_less : length text - k₁ < length text - i
        scan_past_less = omega (arith, falls, closed.1, short)

pub ruleset scanning = (
  scan_start,
  scan_none,
  scan_room,
  scan_open,
  scan_open_less,
  scan_flat,
  scan_flat_less,
  scan_ends,
  scan_stuck,
  scan_past,
  scan_past_less,
  rules,
)

-- ELEMENTS
-- what was read of a start tag ends at a place
pub record Opens (text : List ℕ) (m : Read Bool) (j : ℕ) (wide : Bool) : Type 0 where
  pub inside : j ≤ length text
  pub reads : m ≡ got wide (drop j text)

-- from a place on, which is its start or lies in it
module _ (text : List ℕ) (at : ℕ) where
  read_so : {wide : Bool} (r : List ℕ) {j : ℕ} → Less (drop at text) wide r → length text - length r ≡ j → Opens text (got wide r) j wide
  read_so {wide} r l w =
      let u = lies (tail_more l.front r l.whole (tail_of text at)) w in
      record { inside = u.inside; reads = ap (got wide) u.rest }

  pub opens_so : (m : Read Bool) → Ok (Less (drop at text)) m → {j : ℕ} → tag_told (length text) m ≡ Some (tag_is.Open j) → Opens text m j true
  unfolding tag_told
  opens_so fail h q = clash (cc)
  opens_so (got true r) (good h) {j} q = read_so r h (let w : length text - length r ≡ j = cc in w)
  opens_so (got false r) h q = clash (cc)

  pub bare_so : (m : Read Bool) → Ok (Less (drop at text)) m → {j : ℕ} → tag_told (length text) m ≡ Some (tag_is.Bare j) → Opens text m j false
  unfolding tag_told
  bare_so fail h q = clash (cc)
  bare_so (got true r) h q = clash (cc)
  bare_so (got false r) (good h) {j} q = read_so r h (let w : length text - length r ≡ j = cc in w)

pub none_so : (n : ℕ) (m : Read Bool) → tag_told n m ≡ None → m ≡ fail
unfolding tag_told
none_so n fail q = refl
none_so n (got true r) q = clash (cc)
none_so n (got false r) q = clash (cc)

module _ (text : List ℕ) (at : ℕ) {x : Option Tag} (k : x ≡ tag_told (length text) (tag_at (drop at text))) where
  pub opens_at : {j : ℕ} → x ≡ Some (tag_is.Open j) → Opens text (tag_at (drop at text)) j true
  opens_at z = opens_so text at (tag_at (drop at text)) (tag_less (drop at text)) (sym k ∙ z)

  pub bare_at_lem : {j : ℕ} → x ≡ Some (tag_is.Bare j) → Opens text (tag_at (drop at text)) j false
  bare_at_lem z = bare_so text at (tag_at (drop at text)) (tag_less (drop at text)) (sym k ∙ z)

  pub no_tag : x ≡ None → tag_at (drop at text) ≡ fail
  no_tag z = none_so (length text) (tag_at (drop at text)) (sym k ∙ z)

  pub skip_none : x ≡ None → None ≡ stepped (length text) (skip_at (drop at text))
  unfolding skip_at bind
  skip_none z = refuses (length text) (skip_at (drop at text)) (rw (no_tag z))

  pub skip_bare : {y : Tag} {j : ℕ} → x ≡ Some y → y ≡ tag_is.Bare j → Some j ≡ stepped (length text) (skip_at (drop at text))
  unfolding skip_at bind passed leave_at
  skip_bare {j = j} z w = let o = bare_at_lem (z ∙ ap Some w) in let q : skip_at (drop at text) ≡ got tt (drop j text) = rw o.reads in
      arrives text (skip_at (drop at text)) j o.inside q

  pub skip_open : {y : Tag} {i : ℕ} → x ≡ Some y → y ≡ tag_is.Open i → {r : Option ℕ} → r ≡ stepped (length text) (leave_at (drop i text))
      → r ≡ stepped (length text) (skip_at (drop at text))
  unfolding skip_at bind passed leave_at
  skip_open z w q = q ∙ sym (rw (opens_at (z ∙ ap Some w)).reads)

pub ruleset skipping = (skip_none, skip_bare, skip_open, rules)

module _ (text : List ℕ) (at : ℕ) {c : Option ℕ} (e : c ≡ stepped (length text) (scan 0 (drop at text))) where
  pub leave_stuck : c ≡ None → None ≡ stepped (length text) (leave_at (drop at text))
  unfolding leave_at bind
  leave_stuck w = refuses (length text) (leave_at (drop at text)) (rw (fell (length text) (scan 0 (drop at text)) (sym w ∙ e)))

  pub leave_past : {j : ℕ} → c ≡ Some j → {r : Option ℕ} → r ≡ stepped (length text) (past_tag (drop j text))
      → r ≡ stepped (length text) (leave_at (drop at text))
  unfolding leave_at bind
  leave_past {j} w q =
      let g : Went (scan 0) text at j = went (scan 0) text at j (scan_tails 0 (drop at text)) (sym w ∙ e) in
      q ∙ sym (ap (stepped (length text)) (rw g.reads))

pub ruleset leaving = (leave_stuck, leave_past, rules)
