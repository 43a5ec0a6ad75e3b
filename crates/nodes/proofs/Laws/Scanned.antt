-- What is proved of Scan.
use Rattle.std.specs.Prelude.{◌≡◌, refl, List, [], ◌∷◌, ◌++◌, ℕ, zero, suc, ◌≤◌, ◌<◌, Bool, true, false, eqb, length}
use Rattle.std.proofs.Common.{ap, sym, ◌∙◌, append_assoc, arith, length-append}
use Rattle.grammar.specs.Bytes.{ascii}
use Rattle.grammar.specs.Read.{Read, fail, got, Reader, bind, mark}
use Rattle.grammar.proofs.Laws.Read.{Ok, failed, good, ok_map, bind_ok, mark_sound}
use Rattle.grammar.specs.Parser.{Look, at_close, at_comment, at_data, at_element, at_text, look}
use Rattle.grammar.proofs.Laws.Sound.{comment_sound, data_sound}
use Rattle.grammar.proofs.Laws.Unfuelled.{bind_same}
use Rattle.steps.proofs.Laws.Step.{Tails}
use Rattle.nodes.specs.Places.{pick}
use Rattle.nodes.proofs.Laws.Depth.{comment_eats, data_eats}
use Rattle.nodes.specs.Scan.{to_tag, past_tag, quoting, finishes, finish, tag_from, tag_at, scan_by, scan_within, scan, leave_at}
use Rattle.nodes.specs.Scan.{passed, skip_at}

-- what each leaves
pub to_tag_short : (s : List ℕ) → length (to_tag s) ≤ length s
unfolding to_tag
to_tag_short [] = omega arith
to_tag_short (a ∷ s) = go (eqb a 60) (to_tag_short s)
  where
    go : (t : Bool) → length (to_tag s) ≤ length s → length (pick t (a ∷ s) (to_tag s)) ≤ length (a ∷ s)
    go true h = omega arith
    go false h = omega arith

pub to_tag_tail : (s : List ℕ) → (w : List ℕ) × (s ≡ w ++ to_tag s)
unfolding to_tag
to_tag_tail [] = ([], refl)
to_tag_tail (a ∷ s) = go (eqb a 60) (to_tag_tail s)
  where
    go : (t : Bool) → (w : List ℕ) × (s ≡ w ++ to_tag s) → (w : List ℕ) × (a ∷ s ≡ w ++ pick t (a ∷ s) (to_tag s))
    go true h = ([], refl)
    go false h = (a ∷ h.0, ap (λ l. a ∷ l) h.1)

-- a tail that is shorter
pub record Less {A : Type 0} (s : List ℕ) (a : A) (r : List ℕ) : Type 0 where
  pub front : List ℕ
  pub whole : s ≡ front ++ r
  pub falls : length r < length s

less_cons : {A : Type 0} {s : List ℕ} (b : ℕ) {m : Read A} → Ok (Less s) m → Ok (Less (b ∷ s)) m
less_cons {s = s} b h = ok_map h λ a r k. record
    { front = b ∷ k.front; whole = ap (λ l. b ∷ l) k.whole; falls = omega (arith, k.falls) }

one_less : {A : Type 0} (b : ℕ) (a : A) (s : List ℕ) → Less (b ∷ s) a s
one_less b a s = record { front = b ∷ []; whole = refl; falls = omega arith }

pub past_tag_less : (s : List ℕ) → Ok (Less s) (past_tag s)
unfolding past_tag
past_tag_less [] = failed
past_tag_less (a ∷ s) = go (eqb a 62) (past_tag_less s)
  where
    go : (t : Bool) → Ok (Less s) (past_tag s) → Ok (Less (a ∷ s)) (pick t (got tt s) (past_tag s))
    go true h = good (one_less a tt s)
    go false h = less_cons a h

finish_less : (a : ℕ) (s : List ℕ) → Ok (Less (a ∷ s)) (finish a s)
unfolding finish
finish_less a s = go (eqb a 62)
  where
    go : (t : Bool) → Ok (Less (a ∷ s)) (pick t (got true s) (bind (mark (ascii ">") s) (λ _ r. got false r)))
    go true = good (one_less a true s)
    go false = bind_ok (mark_sound (ascii ">") s) λ _ r e. good
        (record { front = a ∷ 62 ∷ []; whole = ap (λ l. a ∷ l) e; falls = omega (arith, ap length e) })

pub tag_from_less : (q : ℕ) (s : List ℕ) → Ok (Less s) (tag_from q s)
unfolding tag_from
tag_from_less q [] = failed
tag_from_less q (a ∷ s) = go (finishes q a) (tag_from_less (quoting q a) s)
  where
    go : (t : Bool) → Ok (Less s) (tag_from (quoting q a) s) → Ok (Less (a ∷ s)) (pick t (finish a s) (tag_from (quoting q a) s))
    go true h = finish_less a s
    go false h = less_cons a h

pub tag_less : (s : List ℕ) → Ok (Less s) (tag_at s)
unfolding tag_at
tag_less [] = failed
tag_less (a ∷ s) = less_cons a (tag_from_less 0 s)

-- fuel changes nothing
by_same : (f g : ℕ → Reader (Unit {0})) (l : Look) (d : ℕ) (s : List ℕ) → ((d : ℕ) (r : List ℕ) → length r < length s → f d r ≡ g d r)
    → scan_by l f d s ≡ scan_by l g d s
unfolding scan_by
by_same f g at_close zero s h = refl
by_same f g at_close (suc d) s h = bind_same _ _ (past_tag_less s) λ _ r k. h d r k.falls
by_same f g at_comment d s h = bind_same _ _ (comment_eats s) λ _ r k. h d r k
by_same f g at_data d s h = bind_same _ _ (data_eats s) λ _ r k. h d r k
by_same f g at_element d s h = bind_same _ _ (tag_less s) λ wide r k. h (pick wide (suc d) d) r k.falls
by_same f g at_text d s h = refl

scan_zero : (d : ℕ) (s : List ℕ) → scan_within zero d s ≡ fail
unfolding scan_within
scan_zero d s = refl

scan_suc : (n d : ℕ) (s : List ℕ) → scan_within (suc n) d s ≡ scan_by (look (to_tag s)) (scan_within n) d (to_tag s)
unfolding scan_within
scan_suc n d s = refl

scan_enough : (n m d : ℕ) (s : List ℕ) → length s < n → length s < m → scan_within n d s ≡ scan_within m d s
scan_enough zero m d s h k = absurd (omega arith)
scan_enough (suc n) zero d s h k = absurd (omega arith)
scan_enough (suc n) (suc m) d s h k =
    rw (scan_suc n d s, scan_suc m d s)
    (by_same (scan_within n) (scan_within m) (look (to_tag s)) d (to_tag s)
    (λ d r l. scan_enough n m d r (omega (arith, to_tag_short s)) (omega (arith, to_tag_short s))))

pub scan_step : (d : ℕ) (s : List ℕ) → scan d s ≡ scan_by (look (to_tag s)) scan d (to_tag s)
unfolding scan
scan_step d s =
    scan_suc (length s) d s
    ∙ by_same (scan_within (length s)) scan (look (to_tag s)) d (to_tag s)
    (λ d r l. scan_enough (length s) (suc (length r)) d r (omega (arith, to_tag_short s)) (omega arith))

joined_tails : {B : Type 0} {s r : List ℕ} {m : Read B} (w : List ℕ) → s ≡ w ++ r → Ok (Tails r) m → Ok (Tails s) m
joined_tails {s = s} {r} w e h = ok_map h λ b r₁ k. (w ++ k.0, e ∙ ap (λ l. w ++ l) k.1 ∙ sym (append_assoc w k.0 r₁))

by_tails : (f : ℕ → Reader (Unit {0})) → ((d : ℕ) (s : List ℕ) → Ok (Tails s) (f d s)) → (l : Look) (d : ℕ) (s : List ℕ)
    → Ok (Tails s) (scan_by l f d s)
unfolding scan_by
by_tails f ih at_close zero s = good ([], refl)
by_tails f ih at_close (suc d) s = bind_ok (past_tag_less s) λ _ r k. joined_tails k.front k.whole (ih d r)
by_tails f ih at_comment d s = bind_ok (comment_sound s) λ _ r k. joined_tails k.0 k.1 (ih d r)
by_tails f ih at_data d s = bind_ok (data_sound s) λ _ r k. joined_tails k.0 k.1 (ih d r)
by_tails f ih at_element d s = bind_ok (tag_less s) λ wide r k. joined_tails k.front k.whole (ih (pick wide (suc d) d) r)
by_tails f ih at_text d s = failed

within_tails : (m d : ℕ) (s : List ℕ) → Ok (Tails s) (scan_within m d s)
within_tails zero d s = rw (scan_zero d s) failed
within_tails (suc m) d s =
    let k = to_tag_tail s in
    rw (scan_suc m d s) (joined_tails k.0 k.1 (by_tails (scan_within m) (within_tails m) (look (to_tag s)) d (to_tag s)))

pub scan_tails : (d : ℕ) (s : List ℕ) → Ok (Tails s) (scan d s)
unfolding scan
scan_tails d s = within_tails (suc (length s)) d s

passed_less : (wide : Bool) (s : List ℕ) → Ok (Tails s) (passed wide s)
unfolding passed leave_at
passed_less true s = bind_ok (scan_tails 0 s) λ _ r k. joined_tails k.0 k.1 (ok_map (past_tag_less r) λ _ r₁ j. (j.front, j.whole))
passed_less false s = good ([], refl)

pub skip_less : (s : List ℕ) → Ok (Less s) (skip_at s)
unfolding skip_at
skip_less s = bind_ok (tag_less s) λ wide r k. ok_map (passed_less wide r) λ _ r₁ j.
    record {
      front = k.front ++ j.0;
      whole = k.whole ∙ ap (λ l. k.front ++ l) j.1 ∙ sym (append_assoc k.front j.0 r₁);
      falls = omega (arith, k.falls, ap length j.1, length-append j.0 r₁);
    }

pub less_tails : {A : Type 0} {s : List ℕ} {m : Read A} → Ok (Less s) m → Ok (Tails s) m
less_tails h = ok_map h λ a r k. (k.front, k.whole)

pub less_falls : {A : Type 0} {s : List ℕ} {m : Read A} → Ok (Less s) m → Ok (λ _ r. length r < length s) m
less_falls h = ok_map h λ a r k. k.falls
