-- What a byte makes of a job that holds an open element, or stands before the root, is so bounded as the job was.
use Rattle.std.specs.Prelude.{◌≡◌, Bool, false, ◌&&◌, leb, ltb}
use Rattle.std.proofs.Math.Path.{refl}
use Rattle.std.proofs.Common.{sym, subst}
use mathlib.Core.List.{List, [], ◌∷◌, ◌++◌}
use Prim.Native.Nat.{ℕ, zero, suc, ◌+◌, ◌≤◌}
use native.Mathlib.Omega.{arith}
use Rattle.std.proofs.Math.Bool.{true, not}
use Rattle.std.proofs.Math.Dec.{eqb}
use Rattle.std.proofs.Math.ListN.{length, length-append}
use borrow.Author.Tests.{leb-true}
use Rattle.lists.specs.Lists.{all}
use Rattle.lists.proofs.Laws.Booleans.{and_left, and_right, and_both}
use Rattle.grammar.specs.Bytes.{ascii, blank, name_start, name_byte}
use Rattle.steps.specs.Noted.{among}
use Rattle.stream.specs.Jobs
use Rattle.stream.specs.Jobs.{Job, Change, dead, turn, admits, close_tag, change_equals, deeper, change_tagging, change_gapped}
use Rattle.stream.specs.Jobs.{change_naming, change_keying, change_enclosing, change_bracket, change_brackets, change_angle}
use Rattle.stream.specs.Jobs.{change_angle_mark, change_prologue, change_prologue_angle, change_prologue_mark, change_starting}
use Rattle.stream.specs.Jobs.{declaration_jobs, change_starting_angle}
use Rattle.stream.specs.Bounds.{sort, jobs, held_by, holders, brief, TagKeys, Suited, InRow, row_none, row_more, nested, outer}
use Rattle.stream.proofs.Laws.Loose.{Good, good_dead, good_turn, by, small, good_lead, word_alone, before}

no_keys : TagKeys []
unfolding all
no_keys = record { few = omega arith; each_short = refl }

module _ (p q : ℕ) where
  -- IN A TAG AND IN CONTENTS
  module _ (d : ℕ) (n : List ℕ) (h : 5 + (d + p) ≤ 21) (k : suc d + q ≡ 16) where
    low : q ≤ 16
    low = omega arith

    module _ (l : List (List ℕ)) (m : List ℕ) (e₁ : length n ≤ 64) (e₂ : length m ≤ 64) (e₃ : TagKeys l) where
      nests : (j : Job) → sort j ≡ nested d n l m → InRow p q (j ∷ [])
      unfolding Suited jobs holders
      nests j e =
          row_more (subst (λ s. Suited s p q) (sym e)
          (record { short_name = e₁; short_key = e₂; tag_keys = e₃; jobs_fit = h; left_deep = k })) row_none

  module _ (d : ℕ) (n : List ℕ) (h : 5 + (d + p) ≤ 21) (k : suc d + q ≡ 16) (e : length n ≤ 64) where
    within : (j : Job) → sort j ≡ nested d n [] [] → InRow p q (j ∷ [])
    within j z = let none : length {A = ℕ} [] ≤ 64 = omega arith in nests d n h k [] [] e none no_keys j z

    end_word : Good p q (turn (Jobs.fixed (ascii ">") ∷ []))
    end_word = word_alone p q (ascii ">") (omega arith) (omega arith) (low d n h k)

    pub good_close : (a : ℕ) (c : Change) → Good p q c → Good p q (close_tag d n a c)
    unfolding close_tag sort
    good_close a c g =
        by p q (eqb a 62) _ _ (λ _. good_turn (within (Jobs.enclosing d n) refl)) λ _. by p q (eqb a 47) _ _ (λ _. end_word) λ _. g

    module _ (l : List (List ℕ)) (t : TagKeys l) where
      tagged_on : (j : Job) → sort j ≡ nested d n l [] → InRow p q (j ∷ [])
      tagged_on j z = let none : length {A = ℕ} [] ≤ 64 = omega arith in nests d n h k l [] e none t j z

      pub good_tagging : (a : ℕ) → Good p q (change_tagging d n l a)
      unfolding change_tagging sort
      good_tagging a = by p q (blank a) _ _ (λ _. good_turn (tagged_on (Jobs.gapped d n l) refl)) λ _. good_close a dead good_dead

      pub good_gapped : (a : ℕ) → Good p q (change_gapped d n l a)
      unfolding change_gapped sort
      good_gapped a =
          by p q (blank a) _ _ (λ _. good_turn (tagged_on (Jobs.gapped d n l) refl)) λ _.
          good_close a _ (by p q (name_start a) _ _
          (λ _. good_turn (nests d n h k l (a ∷ []) e (omega arith) t (Jobs.keying d n l (a ∷ [])) refl)) λ _. good_dead)

      pub good_keying : (m : List ℕ) (a : ℕ) → Good p q (change_keying d n l m a)
      unfolding change_keying change_equals sort admits jobs holders held_by all brief
      good_keying m a =
          by p q (name_byte a) _ _
          (λ _. by p q (ltb (length m) 64) _ _
          (λ z. let fewer : suc (length m) ≤ 64 = leb-true (suc (length m)) 64 z in
          let long : length (m ++ (a ∷ [])) ≤ 64 = omega (arith, length-append m (a ∷ [])) in
          good_turn (nests d n h k l (m ++ (a ∷ [])) e long t (Jobs.keying d n l (m ++ (a ∷ []))) refl)) λ _. good_dead) λ _.
          by p q (leb (length m) 64 && admits l m) _ _ (λ z.
          let next : InRow p q (Jobs.tagging d n (m ∷ l) ∷ []) = nests d n h k (m ∷ l) [] e (omega arith) (more m z)
          (Jobs.tagging d n (m ∷ l)) refl in
          let quotes : InRow p q (Jobs.quoted ∷ Jobs.tagging d n (m ∷ l) ∷ []) =
          small p q 3 [] Jobs.quoted _ refl (omega arith) (omega arith) (omega arith) (omega arith) next in
          let spaces : InRow p q (Jobs.blanks ∷ Jobs.quoted ∷ Jobs.tagging d n (m ∷ l) ∷ []) =
          small p q 1 [] Jobs.blanks _ refl (omega arith) (omega arith) (omega arith) (omega arith) quotes in
          by p q (blank a) _ _
          (λ _. good_turn (small p q 1 [] Jobs.blanks _ refl (omega arith) (omega arith) (omega arith) (omega arith)
          (before p q (ascii "=") _ (omega arith) (omega arith) (omega arith) spaces))) λ _.
          by p q (eqb a 61) _ _ (λ _. good_turn spaces) λ _. good_dead) λ _. good_dead
        where
          more : (m : List ℕ) → (leb (length m) 64 && (ltb (length l) 16 && not (among m l))) ≡ true → TagKeys (m ∷ l)
          more m z = record {
            few = leb-true (suc (length l)) 16 (and_left (ltb (length l) 16) _ (and_right (leb (length m) 64) _ z));
            each_short = and_both (and_left (leb (length m) 64) _ z) t.each_short;
          }

    pub good_naming : (a : ℕ) → Good p q (change_naming d n a)
    unfolding change_naming sort
    good_naming a =
        by p q (name_byte a) _ _
        (λ _. by p q (ltb (length n) 64) _ _
        (λ z. let fewer : suc (length n) ≤ 64 = leb-true (suc (length n)) 64 z in
        let long : length (n ++ (a ∷ [])) ≤ 64 = omega (arith, length-append n (a ∷ [])) in
        good_turn (nests d (n ++ (a ∷ [])) h k [] [] long (omega arith) no_keys (Jobs.naming d (n ++ (a ∷ []))) refl)) λ _. good_dead) λ _.
        by p q (leb (length n) 64) _ _ (λ _. good_tagging [] no_keys a) λ _. good_dead

    stay : InRow p q (Jobs.enclosing d n ∷ [])
    unfolding sort
    stay = within (Jobs.enclosing d n) refl

    pub good_enclosing : (a : ℕ) → Good p q (change_enclosing d n a)
    unfolding change_enclosing sort jobs holders held_by
    good_enclosing a =
        by p q (eqb a 60) _ _ (λ _. good_turn (within (Jobs.angle d n) refl)) λ _.
        by p q (eqb a 38) _ _
        (λ _. good_turn (small p q 1 [] Jobs.ampersand _ refl (omega arith) (omega arith) (omega arith) (omega arith) stay)) λ _.
        by p q (eqb a 93) _ _ (λ _. good_turn (within (Jobs.bracket d n) refl)) λ _.
        good_lead p q a _ (omega arith) (omega arith) stay

    pub good_bracket : (a : ℕ) → Good p q (change_bracket d n a)
    unfolding change_bracket sort
    good_bracket a = by p q (eqb a 93) _ _ (λ _. good_turn (within (Jobs.brackets d n) refl)) λ _. good_enclosing a

    pub good_brackets : (a : ℕ) → Good p q (change_brackets d n a)
    unfolding change_brackets sort
    good_brackets a =
        by p q (eqb a 62) _ _ (λ _. good_dead) λ _.
        by p q (eqb a 93) _ _ (λ _. good_turn (within (Jobs.brackets d n) refl)) λ _. good_enclosing a

    pub good_angle_mark : (a : ℕ) → Good p q (change_angle_mark d n a)
    unfolding change_angle_mark sort jobs holders held_by
    good_angle_mark a =
        by p q (eqb a 91) _ _
        (λ _. good_turn (before p q (ascii "CDATA[") _ (omega arith) (omega arith) (omega arith)
        (small p q 3 [] Jobs.raw _ refl (omega arith) (omega arith) (omega arith) (omega arith) stay))) λ _.
        by p q (eqb a 45) _ _
        (λ _. good_turn (before p q (ascii "-") _ (omega arith) (omega arith) (omega arith)
        (small p q 3 [] Jobs.remarks _ refl (omega arith) (omega arith) (omega arith) (omega arith) stay))) λ _. good_dead

  pub good_deeper : (d : ℕ) (n : List ℕ) (a : ℕ) → 5 + (d + p) ≤ 21 → suc d + q ≡ 16 → length n ≤ 64 → Good p q (deeper d n a)
  unfolding deeper sort Suited jobs holders held_by
  good_deeper zero n a h k e = good_dead
  good_deeper (suc c) n a h k e =
      good_turn (row_more {j = Jobs.naming c (a ∷ [])} {l = Jobs.enclosing (suc c) n ∷ []} (record {
        short_name = omega arith;
        short_key = omega arith;
        tag_keys = no_keys;
        jobs_fit = omega arith;
        left_deep = omega arith;
      }) (stay (suc c) n h k e))

  pub good_angle : (d : ℕ) (n : List ℕ) (a : ℕ) → 5 + (d + p) ≤ 21 → suc d + q ≡ 16 → length n ≤ 64 → Good p q (change_angle d n a)
  unfolding change_angle sort jobs holders held_by
  good_angle d n a h k e =
      by p q (eqb a 47) _ _
      (λ _. good_turn (before p q n _ e (omega arith) (omega arith)
      (small p q 1 [] Jobs.blanks _ refl (omega arith) (omega arith) (omega arith) (omega arith)
      (before p q (ascii ">") [] (omega arith) (omega arith) (omega arith) row_none)))) λ _.
      by p q (eqb a 33) _ _ (λ _. good_turn (within d n h k e (Jobs.angle_mark d n) refl)) λ _.
      by p q (name_start a) _ _ (λ _. good_deeper d n a h k e) λ _. good_dead

  -- BEFORE THE ROOT
  module _ (h : 20 + p ≤ 21) (k : q ≡ 0) where
    outside : (j : Job) → sort j ≡ outer → InRow p q (j ∷ [])
    unfolding Suited jobs holders
    outside j e = row_more (subst (λ s. Suited s p q) (sym e) (record { jobs_fit = h; none_open = k })) row_none

    pub good_prologue : (t : Bool) (a : ℕ) → Good p q (change_prologue t a)
    unfolding change_prologue sort
    good_prologue t a =
        by p q (blank a) _ _ (λ _. good_turn (outside (Jobs.prologue t) refl)) λ _.
        by p q (eqb a 60) _ _ (λ _. good_turn (outside (Jobs.prologue_angle t) refl)) λ _. good_dead

    pub good_prologue_angle : (t : Bool) (a : ℕ) → Good p q (change_prologue_angle t a)
    unfolding change_prologue_angle sort
    good_prologue_angle t a =
        by p q (eqb a 33) _ _ (λ _. good_turn (outside (Jobs.prologue_mark t) refl)) λ _.
        by p q (name_start a) _ _
        (λ _. let deep : suc 15 + q ≡ 16 = omega arith in let room : 5 + (15 + p) ≤ 21 = omega arith in
        let one : length (a ∷ []) ≤ 64 = omega arith in
        good_turn (within 15 (a ∷ []) room deep one (Jobs.naming 15 (a ∷ [])) refl)) λ _. good_dead

    pub good_prologue_mark : (t : Bool) (a : ℕ) → Good p q (change_prologue_mark t a)
    unfolding change_prologue_mark sort jobs holders held_by
    good_prologue_mark t a =
        by p q (eqb a 45) _ _
        (λ _. good_turn (before p q (ascii "-") _ (omega arith) (omega arith) (omega arith)
        (small p q 3 [] Jobs.remarks _ refl (omega arith) (omega arith) (omega arith) (omega arith) (outside (Jobs.prologue t) refl)))) λ _.
        by p q (t && eqb a 68) _ _
        (λ _. good_turn (before p q (ascii "OCTYPE") _ (omega arith) (omega arith) (omega arith)
        (small p q 3 [] Jobs.skipping _ refl (omega arith) (omega arith) (omega arith) (omega arith)
        (outside (Jobs.prologue false) refl)))) λ _.
        good_dead

    pub good_starting : (a : ℕ) → Good p q (change_starting a)
    unfolding change_starting sort
    good_starting a = by p q (eqb a 60) _ _ (λ _. good_turn (outside Jobs.starting_angle refl)) λ _. good_prologue true a

    pub good_starting_angle : (a : ℕ) → Good p q (change_starting_angle a)
    unfolding change_starting_angle declaration_jobs sort jobs holders held_by
    good_starting_angle a =
        by p q (eqb a 63) _ _
        (λ _. good_turn (before p q (ascii "xml") _ (omega arith) (omega arith) (omega arith)
        (small p q 1 [] Jobs.some_blanks _ refl (omega arith) (omega arith) (omega arith) (omega arith)
        (before p q (ascii "version") _ (omega arith) (omega arith) (omega arith)
        (small p q 1 [] Jobs.blanks _ refl (omega arith) (omega arith) (omega arith) (omega arith)
        (before p q (ascii "=") _ (omega arith) (omega arith) (omega arith)
        (small p q 1 [] Jobs.blanks _ refl (omega arith) (omega arith) (omega arith) (omega arith)
        (small p q 2 (ascii "1.0") (Jobs.saying (ascii "1.0")) _ refl (omega arith) (omega arith) (omega arith) (omega arith)
        (small p q 7 [] Jobs.versioned _ refl (omega arith) (omega arith) (omega arith) (omega arith)
        (outside (Jobs.prologue true) refl)))))))))) λ _.
        good_prologue_angle true a
