-- What is proved of Apart.
use Rattle.std.proofs.Math.Path.{◌≡◌, refl, sym, ap}
use Rattle.std.proofs.Common.{◌∙◌, append-nil, append_assoc, arith}
use Rattle.std.specs.Prelude.{List, [], ◌∷◌, ◌++◌, Bool, ◌||◌, ◌&&◌, ℕ, ◌%◌}
use Rattle.std.proofs.Math.Bool.{true, false}
use Rattle.std.proofs.Math.Decide.{ℕ_discrete}
use Rattle.lists.specs.Lists.{any, two_of}
use Rattle.lists.proofs.Laws.Booleans.{and_left, and_right}
use Rattle.marks.specs.Marks.{marked, Stay, Marked}
use Rattle.marks.specs.Apart.{Fresh, one_unmarked, none_marked, Apart, Marking}

pub none_apart : {A : Type 0} (same : A → A → Bool) (place : A → ℕ) (work : List ℕ) → Apart same place work []
unfolding two_of
none_apart same place work = record { no_two = refl; fresh = none_marked }

-- what is not marked now was not before
not_yet : (b a : ℕ) → (b % 2 ≡ 1 → a % 2 ≡ 1) → a % 2 ≡ 0 → b % 2 ≡ 0
not_yet b a f z = go (ℕ_discrete (b % 2) 1)
  where
    go : Dec (b % 2 ≡ 1) → b % 2 ≡ 0
    go (yes e) = let y = f e in absurd (omega arith)
    go (no k) = omega arith

fresh_before : {A : Type 0} {place : A → ℕ} {before after : List ℕ} → Stay before after → {l : List A} → Fresh place after l
    → Fresh place before l
fresh_before s none_marked = none_marked
fresh_before {place = place} s (one_unmarked {a = a} z h) = one_unmarked (not_yet _ _ (s.stays (place a)) z) (fresh_before s h)

pub apart_before : {A : Type 0} {same : A → A → Bool} {place : A → ℕ} {before after : List ℕ} → Stay before after → {l : List A}
    → Apart same place after l → Apart same place before l
apart_before s h = record { no_two = h.no_two; fresh = fresh_before s h.fresh }

-- ONE MORE, whose place was new
module _ {A : Type 0} {same : A → A → Bool} {place : A → ℕ} (equal : (a b : A) → same a b ≡ true → place a ≡ place b)
    {before after : List ℕ} {a : A} (m : Marked before (place a) true after) where
  unlike : {l : List A} → Fresh place after l → any (same a) l ≡ false
  unfolding any
  unlike none_marked = refl
  unlike (one_unmarked {a = b} {l = l} z h) = go (same a b) refl (unlike h)
    where
      go : (t : Bool) → same a b ≡ t → any (same a) l ≡ false → (t || any (same a) l) ≡ false
      go false e f = f
      go true e f =
          let y : ◌≡◌ {A = ℕ} 0 1 = sym z ∙ ap (marked after) (sym (equal a b e)) ∙ m.now_marked refl in
          absurd (omega arith)

  pub apart_more : {l : List A} → Apart same place after l → Apart same place before (a ∷ l)
  unfolding two_of
  apart_more h = record {
    no_two = rw (unlike h.fresh, h.no_two);
    fresh = one_unmarked (m.unmarked refl) (fresh_before m.kept h.fresh);
  }

pub all_stay : (work : List ℕ) → Stay work work
all_stay work = record { long = refl; stays = λ q h. h }

pub stay_then : {before now after : List ℕ} → Stay before now → Stay now after → Stay before after
stay_then s t = record { long = t.long ∙ s.long; stays = λ q h. t.stays q (s.stays q h) }

module _ {A : Type 0} {same : A → A → Bool} {place : A → ℕ} where
  pub marking_start : (l : List A) (work : List ℕ) → Marking same place l l true work work
  marking_start l work = record { kept = all_stay work; so_far = λ _ rest h. h }

  -- nothing is said
  pub marking_not : {all left : List A} {before now : List ℕ} → Stay before now → Marking same place all left false before now
  marking_not s = record { kept = s; so_far = λ e. absurd (let z : ◌≡◌ {A = ℕ} 0 1 = cc in omega arith) }

  -- other marks are made
  pub marking_none : (new : Bool) {before now : List ℕ} → Stay before now → Marking same place [] [] new before now
  marking_none new s = record { kept = s; so_far = λ _ rest h. apart_before s h }

  -- where all places were new, no two are the same
  pub marking_apart : {all : List A} {new : Bool} {before now : List ℕ} → Marking same place all [] new before now → new ≡ true
      → two_of same all ≡ false
  marking_apart {all} {now = now} m e =
      sym (ap (two_of same) (append-nil all)) ∙ (m.so_far e [] (none_apart same place now)).no_two

  module _ {all : List A} {new : Bool} {before now : List ℕ} where
    pub marking_one : ((a b : A) → same a b ≡ true → place a ≡ place b) → {a : A} {left : List A}
        → Marking same place all (a ∷ left) new before now → {b : Bool} {after : List ℕ} → Marked now (place a) b after
        → Marking same place all left (new && b) before after
    marking_one equal {a} go {b} {after} m = record {
      kept = stay_then go.kept m.kept;
      so_far = λ e rest h. go.so_far (and_left new b e) rest
          (apart_more equal (rw (and_right new b e) at m) h);
    }

    pub marking_list : {l left : List A} → Marking same place all (l ++ left) new before now → {b : Bool} {after : List ℕ}
        → Marking same place l [] b now after → Marking same place all left (new && b) before after
    marking_list {l} {left} go {b} {after} m = record {
      kept = stay_then go.kept m.kept;
      so_far = λ e rest h. go.so_far (and_left new b e) rest
          (rw (append_assoc l left rest) (m.so_far (and_right new b e) (left ++ rest) h));
    }
