-- WHAT HAS BEEN SEEN OF A LIST is what is true of it: whether it is bad, whether an entry reaches past the records, the entry that holds
-- the index, and the entry of the kind. Assumes nothing.
use Rattle.std.specs.Prelude.{◌≡◌, List, [], ◌∷◌, Bool, cond, not, ◌&&◌, ◌||◌, ℕ, ◌+◌, ◌-◌, ◌^◌, ◌<◌, leb, ltb, get_or}
use Rattle.std.specs.Prelude.{Some, None, Result, Ok, Err}
use Rattle.std.specs.Result.{is_err}
use Rattle.std.proofs.Math.Path.{refl, sym, ap}
use Rattle.std.proofs.Common.{◌∙◌, subst, arith}
use Rattle.std.proofs.Math.Bool.{true, false}
use Rattle.std.proofs.Math.Dec.{eqb}
use borrow.Author.Tests.{eqb-true, eqb-false, ltb-true, ltb-false, lt-ltb, le-ltb, lt-leb, eq-eqb, ne_eqb, not-false}
use Rattle.lists.specs.Lists.{any, those, two_of}
use Rattle.lists.proofs.Laws.Booleans.{clash, or_left, or_right, or_first, or_true, or_false, or_neither, and_right, and_halves, both_ways}
use Rattle.shortlist.specs.Runs.{kind_in, of_one_kind}
use Rattle.shortlist.specs.Asking.{empty, no_structure, past_end, runs_on_from, bad_list, holds_index, of_kind, the_model, no_model}
use Rattle.shortlist.specs.Asking.{told_in}
use Rattle.shortlist.specs.Search.{bit_set, begun, follows, bad_entry, with_entry, next_of, at_ok, folded}
use Rattle.shortlist.proofs.Laws.Named.{is_named, again, again_new, again_old, again_done, again_first}
use Rattle.shortlist.proofs.Laws.Bits.{bit_adds, bits_empty}
use Rattle.shortlist.specs.declared.answer.Model.{Model}
use Rattle.shortlist.specs.declared.answer.SearchFault.{SearchFault}
use Rattle.shortlist.specs.declared.state.Search.{Search}

-- ---- One entry.

-- no sum is needed to see that an entry begins where the one before it ends
follows_is : (s : Search) (m : Model) → follows s m ≡ eqb m.first.0 (s.first + s.count)
unfolding follows
follows_is s m = go m.first.0 s.first s.count
  where
    less : (a b c : ℕ) (t : Bool) → ltb a b ≡ t → (not t && eqb (a - b) c) ≡ eqb a (b + c)
    less a b c true e = let u = ltb-true a b e in sym (ne_eqb a (b + c) (λ z. omega arith))
    less a b c false e = let u = ltb-false a b e in same (eqb (a - b) c) refl
      where
        same : (t : Bool) → eqb (a - b) c ≡ t → t ≡ eqb a (b + c)
        same true q = let v = eqb-true (a - b) c q in let z : a ≡ b + c = (let w = ltb-false a b e in omega arith) in sym (eq-eqb a (b +
            c) z)
        same false q = sym (ne_eqb a (b + c) (λ z. eqb-false (a - b) c q (omega arith)))

    go : (a b c : ℕ) → (not (ltb a b) && eqb (a - b) c) ≡ eqb a (b + c)
    go a b c = less a b c (ltb a b) refl

-- the list is bad from here on: it is to begin at an index, and some kinds have been named
unfoldable bad_from : ℕ → (ℕ → Bool) → List Model → Bool
bad_from at named l = any empty l || (not (runs_on_from at l) || (again named l || any no_structure l))

bad_done : (at : ℕ) (named : ℕ → Bool) → bad_from at named [] ≡ false
unfolding bad_from any runs_on_from
bad_done at named = rw (again_done named)

-- what fails of one entry fails of the list, and else what follows tells
module _ (s : Search) (m : Model) (l : List Model) where
  bad_here : bad_entry s m ≡ true → bad_from (s.first + s.count) (bit_set s.named) (m ∷ l) ≡ true
  unfolding bad_from any runs_on_from bad_entry
  bad_here h =
      by (no_structure m) (empty m) (follows s m) (bit_set s.named (kind_in m)) refl refl (sym (follows_is s m)) refl h
    where
      by : (a b c d : Bool) → no_structure m ≡ a → empty m ≡ b → eqb m.first.0 (s.first + s.count) ≡ c
          → bit_set s.named (kind_in m) ≡ d → (a || (b || (not c || d))) ≡ true
          → ((empty m || any empty l)
          || (not (eqb m.first.0 (s.first + s.count) && runs_on_from (s.first + s.count + m.count) l)
          || (again (bit_set s.named) (m ∷ l) || (no_structure m || any no_structure l)))) ≡ true
      by a true c d p q u v h = rw q
      by a false false d p q u v h = rw (q, u) (or_true (any empty l))
      by a false true true p q u v h =
          rw (
            again_old (bit_set s.named) m l v,
            or_true (not (eqb m.first.0 (s.first + s.count) && runs_on_from (s.first + s.count + m.count) l)),
          ) (or_true (empty m || any empty l))
      by true false true false p q u v h =
          rw (
            p,
            or_true (again (bit_set s.named) (m ∷ l)),
            or_true (not (eqb m.first.0 (s.first + s.count) && runs_on_from (s.first + s.count + m.count) l)),
          ) (or_true (empty m || any empty l))
      by false false true false p q u v h = both_ways h refl

  good_here : bad_entry s m ≡ false
      → bad_from (s.first + s.count) (bit_set s.named) (m ∷ l) ≡ bad_from (m.first.0 + m.count) (bit_set (s.named + 2 ^ kind_in m)) l
  unfolding bad_from any runs_on_from bad_entry
  good_here h =
      let st = or_left (no_structure m) (empty m || (not (follows s m) || bit_set s.named (kind_in m))) h in
      let h₁ = or_right (no_structure m) (empty m || (not (follows s m) || bit_set s.named (kind_in m))) h in
      let em = or_left (empty m) (not (follows s m) || bit_set s.named (kind_in m)) h₁ in
      let h₂ = or_right (empty m) (not (follows s m) || bit_set s.named (kind_in m)) h₁ in
      let fo = or_left (not (follows s m)) (bit_set s.named (kind_in m)) h₂ in
      let new = or_right (not (follows s m)) (bit_set s.named (kind_in m)) h₂ in
      let at : eqb m.first.0 (s.first + s.count) ≡ true = sym (follows_is s m) ∙ not-false (follows s m) fo in
      let e : s.first + s.count ≡ m.first.0 = sym (eqb-true m.first.0 (s.first + s.count) at) in
      let on = again_new (bit_set s.named) (bit_set (s.named + 2 ^ kind_in m)) m l (bit_adds s.named (kind_in m) new) new in
      rw (em, at, st, on, e)

-- the kind of an entry that is not bad is new
fresh_entry : (s : Search) (m : Model) → bad_entry s m ≡ false → bit_set s.named (kind_in m) ≡ false
unfolding bad_entry
fresh_entry s m h = or_right (not (follows s m)) _ (or_right (empty m) _ (or_right (no_structure m) _ h))

-- ---- The whole list.

pub next_bad : (s : Search) (m : Model) → bad_entry s m ≡ true → next_of s m ≡ Err SearchFault.BadList
unfolding next_of
next_bad s m h = rw h

pub next_good : (s : Search) (m : Model) → bad_entry s m ≡ false → next_of s m ≡ Ok (with_entry s m)
unfolding next_of
next_good s m h = rw h

-- one entry before the others
after_next : (s : Search) (m : Model) (l : List Model) (r : Result Search SearchFault) → next_of s m ≡ r
    → folded next_of s (m ∷ l) ≡ at_ok r (λ t. folded next_of t l)
after_next s m l r e = ap (λ (x : Result Search SearchFault). at_ok x (λ t. folded next_of t l)) e

-- a bad list is told as such
seen_bad : (s : Search) (l : List Model) → bad_from (s.first + s.count) (bit_set s.named) l ≡ true
    → folded next_of s l ≡ Err SearchFault.BadList
unfolding with_entry
seen_bad s [] h = both_ways h (bad_done (s.first + s.count) (bit_set s.named))
seen_bad s (m ∷ l) h = by (bad_entry s m) refl (seen_bad (with_entry s m) l)
  where
    by : (b : Bool) → bad_entry s m ≡ b
        → (bad_from (m.first.0 + m.count) (bit_set (s.named + 2 ^ kind_in m)) l ≡ true
        → folded next_of (with_entry s m) l ≡ Err SearchFault.BadList)
        → folded next_of s (m ∷ l) ≡ Err SearchFault.BadList
    by true e ih = after_next s m l (Err SearchFault.BadList) (next_bad s m e)
    by false e ih = after_next s m l (Ok (with_entry s m)) (next_good s m e) ∙ ih (sym (good_here s m l e) ∙ h)

-- how many records there are is not changed
pub asked : (s t : Search) (l : List Model) → folded next_of s l ≡ Ok t → t.most ≡ s.most
unfolding with_entry
asked s t [] h = let q : s ≡ t = cc in sym (ap (λ x. x.most) q)
asked s t (m ∷ l) h = by (bad_entry s m) refl (asked (with_entry s m) t l)
  where
    by : (b : Bool) → bad_entry s m ≡ b → (folded next_of (with_entry s m) l ≡ Ok t → t.most ≡ s.most) → t.most ≡ s.most
    by true e ih = let z = sym (after_next s m l (Err SearchFault.BadList) (next_bad s m e)) ∙ h in clash (cc)
    by false e ih = ih (sym (after_next s m l (Ok (with_entry s m)) (next_good s m e)) ∙ h)

-- the first that passes
pub the_cons : (p : Model → Bool) (m : Model) (l : List Model) → the_model p (m ∷ l) ≡ cond (p m) m (the_model p l)
unfolding the_model those
the_cons p m l = by (p m)
  where
    by : (b : Bool) → get_or (cond b (m ∷ those p l) (those p l)) 0 no_model ≡ cond b m (get_or (those p l) 0 no_model)
    by true = refl
    by false = refl

-- where none passes, it is the one of no indices
the_or : (f : Model → ℕ) (p : Model → Bool) (l : List Model) → f no_model ≡ 0 → cond (any p l) (f (the_model p l)) 0 ≡ f (the_model p l)
unfolding any the_model those
the_or f p [] z = sym z
the_or f p (m ∷ l) z = by (p m) (the_or f p l z)
  where
    by : (b : Bool) → cond (any p l) (f (the_model p l)) 0 ≡ f (the_model p l)
        → cond (b || any p l) (f (get_or (cond b (m ∷ those p l) (those p l)) 0 no_model)) 0
        ≡ f (get_or (cond b (m ∷ those p l) (those p l)) 0 no_model)
    by true e = refl
    by false e = e

-- of the entries that pass, where the first is alone the last that was noted is the first
last_first : {A : Type 0} (p : Model → Bool) (f : Model → A) (m : Model) (l : List Model) (x : A) → (p m ≡ true → any p l ≡ false)
    → cond (any p l) (f (the_model p l)) (cond (p m) (f m) x) ≡ cond (p m || any p l) (f (the_model p (m ∷ l))) x
last_first {A} p f m l x alone =
    by (p m) (any p l) alone ∙ ap (λ n. cond (p m || any p l) (f n) x) (sym (the_cons p m l))
  where
    by : (a b : Bool) → (a ≡ true → b ≡ false)
        → cond b (f (the_model p l)) (cond a (f m) x) ≡ cond (a || b) (f (cond a m (the_model p l))) x
    by true true h = both_ways refl (h refl)
    by true false h = refl
    by false b h = refl

-- what lies before the list is in none of its ranges
before_all : (n at : ℕ) (l : List Model) → runs_on_from at l ≡ true → n < at → any (holds_index n) l ≡ false
unfolding runs_on_from any holds_index
before_all n at [] h u = refl
before_all n at (m ∷ l) h u =
    let (p, q) = and_halves (eqb m.first.0 at) (runs_on_from (at + m.count) l) h in
    let e = eqb-true m.first.0 at p in
    or_neither (ap (λ t. t && ltb n (m.first.0 + m.count)) (lt-leb m.first.0 n (omega arith)))
    (before_all n (at + m.count) l q (omega arith))

-- an index that the entry holds is held by no later one
held_once : (n : ℕ) (m : Model) (l : List Model) → runs_on_from (m.first.0 + m.count) l ≡ true → holds_index n m ≡ true
    → any (holds_index n) l ≡ false
unfolding holds_index
held_once n m l h k =
    before_all n (m.first.0 + m.count) l h
    (ltb-true n (m.first.0 + m.count) (and_right (leb m.first.0 n) (ltb n (m.first.0 + m.count)) k))

-- a kind that has been named is named by no later entry
kind_once : (named : ℕ → Bool) (k : ℕ) (l : List Model) → again named l ≡ false → named k ≡ true → any (of_kind k) l ≡ false
unfolding again is_named any
kind_once named k l h e = go l (or_left (any (is_named named) l) _ h)
  where
    one : (m : Model) → is_named named m ≡ false → of_kind k m ≡ false
    one m u = ne_eqb (kind_in m) k (λ z. both_ways e (ap named (sym z) ∙ u))

    go : (l : List Model) → any (is_named named) l ≡ false → any (of_kind k) l ≡ false
    go [] u = refl
    go (m ∷ l) u = or_neither (one m (or_left (is_named named m) _ u)) (go l (or_right (is_named named m) _ u))

-- what else has been seen of a list that is not bad
pub record Sees (s : Search) (l : List Model) (t : Search) : Type 0 where
  pub asked : t.most ≡ s.most
  pub past_is : ltb s.most (t.first + t.count) ≡ (ltb s.most (s.first + s.count) || any (past_end s.most) l)
  pub tells_is : t.tells ≡ cond (any (holds_index s.index.0) l) (Some (told_in (the_model (holds_index s.index.0) l))) s.tells
  pub from_is : t.from ≡ cond (any (of_kind s.kind) l) (the_model (of_kind s.kind) l).first.0 s.from
  pub size_is : t.size ≡ cond (any (of_kind s.kind) l) (the_model (of_kind s.kind) l).count s.size

sees_none : (s : Search) → Sees s [] s
unfolding any
sees_none s = record {
  asked = refl;
  past_is = sym (or_false (ltb s.most (s.first + s.count)));
  tells_is = refl;
  from_is = refl;
  size_is = refl;
}

-- one entry before those seen
module _ (s : Search) (m : Model) (l : List Model) (t : Search) (good : bad_entry s m ≡ false)
    (later : bad_from (m.first.0 + m.count) (bit_set (s.named + 2 ^ kind_in m)) l ≡ false) (h : Sees (with_entry s m) l t) where
  begins : m.first.0 ≡ s.first + s.count
  unfolding bad_entry
  begins =
      eqb-true m.first.0 (s.first + s.count) (sym (follows_is s m) ∙ not-false (follows s m)
      (or_left (not (follows s m)) _ (or_right (empty m) _ (or_right (no_structure m) _ good))))

  runs_on_lem : runs_on_from (m.first.0 + m.count) l ≡ true
  unfolding bad_from
  runs_on_lem = not-false _ (or_left (not (runs_on_from (m.first.0 + m.count) l)) _ (or_right (any empty l) _ later))

  not_again : again (bit_set (s.named + 2 ^ kind_in m)) l ≡ false
  unfolding bad_from
  not_again =
      or_left (again (bit_set (s.named + 2 ^ kind_in m)) l) _
      (or_right (not (runs_on_from (m.first.0 + m.count) l)) _ (or_right (any empty l) _ later))

  own_once : of_kind s.kind m ≡ true → any (of_kind s.kind) l ≡ false
  own_once e =
      let k : kind_in m ≡ s.kind = eqb-true (kind_in m) s.kind e in
      kind_once (bit_set (s.named + 2 ^ kind_in m)) s.kind l not_again
      (ap (bit_set (s.named + 2 ^ kind_in m)) (sym k)
      ∙ bit_adds s.named (kind_in m) (fresh_entry s m good) (kind_in m)
      ∙ or_first (eqb (kind_in m) (kind_in m)) _ (eq-eqb (kind_in m) (kind_in m) refl))

  more_past : (ltb s.most (m.first.0 + m.count) || any (past_end s.most) l)
      ≡ (ltb s.most (s.first + s.count) || (ltb s.most (m.first.0 + m.count) || any (past_end s.most) l))
  more_past = by (ltb s.most (s.first + s.count)) refl
    where
      by : (a : Bool) → ltb s.most (s.first + s.count) ≡ a
          → (ltb s.most (m.first.0 + m.count) || any (past_end s.most) l)
          ≡ (a || (ltb s.most (m.first.0 + m.count) || any (past_end s.most) l))
      by true e =
          let u = ltb-true s.most (s.first + s.count) e in
          or_first (ltb s.most (m.first.0 + m.count)) _ (lt-ltb s.most (m.first.0 + m.count) (omega (arith, begins)))
      by false e = refl

  sees_more : Sees s (m ∷ l) t
  unfolding with_entry any past_end
  sees_more = record {
    asked = h.asked;
    past_is = h.past_is ∙ more_past;
    tells_is = h.tells_is ∙ last_first (holds_index s.index.0) (λ n. Some (told_in n)) m l s.tells (held_once s.index.0 m l runs_on_lem);
    from_is = h.from_is ∙ last_first (of_kind s.kind) (λ n. n.first.0) m l s.from own_once;
    size_is = h.size_is ∙ last_first (of_kind s.kind) (λ n. n.count) m l s.size own_once;
  }

-- a state that has seen all of a list
abbrev pub Seeing : Search → List Model → Type 0
Seeing s l = (t : Search) × (folded next_of s l ≡ Ok t) × Sees s l t

seen_all : (s : Search) (l : List Model) → bad_from (s.first + s.count) (bit_set s.named) l ≡ false → Seeing s l
unfolding with_entry
seen_all s [] h = (s, refl, sees_none s)
seen_all s (m ∷ l) h = by (bad_entry s m) refl (seen_all (with_entry s m) l)
  where
    by : (b : Bool) → bad_entry s m ≡ b
        → (bad_from (m.first.0 + m.count) (bit_set (s.named + 2 ^ kind_in m)) l ≡ false → Seeing (with_entry s m) l)
        → Seeing s (m ∷ l)
    by true e ih = both_ways (bad_here s m l e) h
    by false e ih =
        let later = sym (good_here s m l e) ∙ h in
        let (t, u, v) = ih later in
        (t, after_next s m l (Ok (with_entry s m)) (next_good s m e) ∙ u, sees_more s m l t e later v)

-- ---- FROM THE BEGINNING.

module _ (n k most : ℕ) (l : List Model) where
  bad_begun : bad_from 0 (bit_set 0) l ≡ bad_list l
  unfolding bad_from bad_list
  bad_begun =
      let e : again (bit_set 0) l ≡ two_of of_one_kind l = again_first (bit_set 0) l bits_empty in
      ap (λ t. any empty l || (not (runs_on_from 0 l) || (t || any no_structure l))) e

  pub list_bad : bad_list l ≡ true → folded next_of (begun n k most) l ≡ Err SearchFault.BadList
  list_bad h = seen_bad (begun n k most) l (bad_begun ∙ h)

  list_seen : bad_list l ≡ false → Seeing (begun n k most) l
  list_seen h = seen_all (begun n k most) l (bad_begun ∙ h)

  -- there is a fault exactly where the list is bad
  pub bad_is : is_err (folded next_of (begun n k most) l) ≡ bad_list l
  bad_is = by (bad_list l) refl
    where
      by : (b : Bool) → bad_list l ≡ b → is_err (folded next_of (begun n k most) l) ≡ b
      by true q = ap is_err (list_bad q)
      by false q = let (t, u, v) = list_seen q in ap is_err u

  -- a fault is that the list is bad
  pub fault_is : (e : SearchFault) → folded next_of (begun n k most) l ≡ Err e → (bad_list l ≡ true) × (e ≡ SearchFault.BadList)
  fault_is e h = by (bad_list l) refl
    where
      by : (b : Bool) → bad_list l ≡ b → (bad_list l ≡ true) × (e ≡ SearchFault.BadList)
      by true q = let u = list_bad q in (q, cc)
      by false q = let (t, u, v) = list_seen q in absurd (let z : ⊥ = cc in z)

  -- what has been seen is what is true of a list that is not bad
  pub seen_is : (t : Search) → folded next_of (begun n k most) l ≡ Ok t → (bad_list l ≡ false) × Sees (begun n k most) l t
  seen_is t h = by (bad_list l) refl
    where
      by : (b : Bool) → bad_list l ≡ b → (bad_list l ≡ false) × Sees (begun n k most) l t
      by true q = let u = list_bad q in absurd (let z : ⊥ = cc in z)
      by false q =
          let (x, u, v) = list_seen q in
          let same : x ≡ t = cc in
          (q, subst (Sees (begun n k most) l) same v)

  module _ (t : Search) (w : Sees (begun n k most) l t) where
    pub past_seen : ltb most (t.first + t.count) ≡ any (past_end most) l
    past_seen = w.past_is ∙ ap (λ b. b || any (past_end most) l) (le-ltb most (0 + 0) (omega arith))

    pub tells_one : any (holds_index n) l ≡ true → t.tells ≡ Some (told_in (the_model (holds_index n) l))
    tells_one e = w.tells_is ∙ ap (λ b. cond b (Some (told_in (the_model (holds_index n) l))) None) e

    pub tells_none : any (holds_index n) l ≡ false → t.tells ≡ None
    tells_none e = w.tells_is ∙ ap (λ b. cond b (Some (told_in (the_model (holds_index n) l))) None) e

    pub from_seen : t.from ≡ (the_model (of_kind k) l).first.0
    from_seen = w.from_is ∙ the_or (λ m. m.first.0) (of_kind k) l refl

    pub size_seen : t.size ≡ (the_model (of_kind k) l).count
    size_seen = w.size_is ∙ the_or (λ m. m.count) (of_kind k) l refl

-- what no entry has, the one that is asked for has not
pub the_has_not : (p q : Model → Bool) (l : List Model) → any q l ≡ false → q no_model ≡ false → q (the_model p l) ≡ false
unfolding any the_model those
the_has_not p q [] h z = z
the_has_not p q (m ∷ l) h z =
    by (p m) (or_left (q m) (any q l) h) (the_has_not p q l (or_right (q m) (any q l) h) z)
  where
    by : (b : Bool) → q m ≡ false → q (the_model p l) ≡ false → q (get_or (cond b (m ∷ those p l) (those p l)) 0 no_model) ≡ false
    by true u v = u
    by false u v = v
