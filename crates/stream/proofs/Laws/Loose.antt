-- What a byte makes of a job that holds no element is so bounded as the job was.
use Rattle.std.specs.Prelude.{◌≡◌, ℕ, ◌+◌, ◌≤◌, Bool, true, false, cond, eqb, length}
use Rattle.std.proofs.Math.Path.{refl}
use Rattle.std.proofs.Common.{sym, subst, arith}
use mathlib.Core.List.{List, [], ◌∷◌}
use Rattle.grammar.specs.Bytes.{ascii, blank, quote, skipped}
use Rattle.grammar.specs.Characters.{lead1, lead2}
use Rattle.grammar.specs.Parser.{CharacterWidth, one, two, three, four, width}
use Rattle.stream.specs.Jobs
use Rattle.stream.specs.Jobs.{Job, Change, dead, done, turn, lead_by, lead, quote_of, change_ampersand, change_ampersand_a}
use Rattle.stream.specs.Jobs.{change_remarks, change_remarks_dash, change_raw, change_raw_bracket, change_raw_brackets}
use Rattle.stream.specs.Jobs.{change_skipping, change_quoted, change_valuing, change_trailing, change_saying, change_versioned}
use Rattle.stream.specs.Jobs.{encoding_jobs, change_versioned_blank}
use Rattle.stream.specs.Bounds.{sort, jobs, held_by, holders, Suited, InRow, row_none, row_more, loose}

module _ (p q : ℕ) where
  -- a change that leaves what is so bounded
  pub data Good : Change → Type 0 where
    good_dead : Good dead
    good_done : Good done
    good_turn : {l : List Job} → InRow p q l → Good (turn l)

  pub by : (t : Bool) (c d : Change) → (t ≡ true → Good c) → (t ≡ false → Good d) → Good (cond t c d)
  by true c d f g = f refl
  by false c d f g = g refl

  -- jobs that hold no element
  pub small : (h : ℕ) (w : List ℕ) (j : Job) (l : List Job) → sort j ≡ loose h w → length w ≤ 64 → 1 ≤ h → h + jobs p l ≤ 21
      → holders q l ≤ 16 → InRow p q l → InRow p q (j ∷ l)
  unfolding Suited
  small h w j l e a b c d o =
      row_more (subst (λ s. Suited s (jobs p l) (holders q l)) (sym e)
      (record { short_bytes = a; one_at_least = b; jobs_fit = c; shallow = d })) o

  pub alone : (j : Job) → Suited (sort j) p q → Good (turn (j ∷ []))
  unfolding jobs holders
  alone j f = good_turn (row_more f row_none)

  -- a character before others
  pub good_lead : (a : ℕ) (l : List Job) → 2 + jobs p l ≤ 21 → holders q l ≤ 16 → InRow p q l → Good (lead a l)
  unfolding lead lead_by sort
  good_lead a l h k o = go (width a)
    where
      go : (w : CharacterWidth) → Good (lead_by w a l)
      go one = by (lead1 a) _ _ (λ _. good_turn o) λ _. good_dead
      go two =
          by (lead2 a) _ _ (λ _. good_turn (small 1 [] Jobs.tail l refl (omega arith) (omega arith) (omega arith) k o)) λ _. good_dead
      go three = good_turn (small 1 [] (Jobs.second_of_three a) l refl (omega arith) (omega arith) (omega arith) k o)
      go four = good_turn (small 2 [] (Jobs.second_of_four a) l refl (omega arith) (omega arith) h k o)

  -- a word alone, and before others
  pub word_alone : (w : List ℕ) → length w ≤ 64 → 1 + p ≤ 21 → q ≤ 16 → Good (turn (Jobs.fixed w ∷ []))
  unfolding sort jobs holders
  word_alone w a b c = good_turn (small 1 w (Jobs.fixed w) [] refl a (omega arith) b c row_none)

  pub before : (w : List ℕ) (l : List Job) → length w ≤ 64 → 1 + jobs p l ≤ 21 → holders q l ≤ 16 → InRow p q l
      → InRow p q (Jobs.fixed w ∷ l)
  unfolding sort
  before w l a b c o = small 1 w (Jobs.fixed w) l refl a (omega arith) b c o

  -- REFERENCES, COMMENTS, CDATA, A DOCTYPE, VALUES
  module _ (jobs_fit : 1 + p ≤ 21) (shallow : q ≤ 16) where
    pub good_ampersand : (a : ℕ) → Good (change_ampersand a)
    unfolding change_ampersand sort Suited
    good_ampersand a =
        by (eqb a 97) _ _
        (λ _. alone Jobs.ampersand_a
        (record { short_bytes = omega arith; one_at_least = omega arith; jobs_fit = jobs_fit; shallow = shallow })) λ _.
        by (eqb a 108) _ _ (λ _. word_alone (ascii "t;") (omega arith) jobs_fit shallow) λ _.
        by (eqb a 103) _ _ (λ _. word_alone (ascii "t;") (omega arith) jobs_fit shallow) λ _.
        by (eqb a 113) _ _ (λ _. word_alone (ascii "uot;") (omega arith) jobs_fit shallow) λ _. good_dead

    pub good_ampersand_a : (a : ℕ) → Good (change_ampersand_a a)
    unfolding change_ampersand_a
    good_ampersand_a a =
        by (eqb a 109) _ _ (λ _. word_alone (ascii "p;") (omega arith) jobs_fit shallow) λ _.
        by (eqb a 112) _ _ (λ _. word_alone (ascii "os;") (omega arith) jobs_fit shallow) λ _. good_dead

  module _ (jobs_fit : 3 + p ≤ 21) (shallow : q ≤ 16) where
    -- a job of three at most, alone, or behind a character
    three_alone : (j : Job) → sort j ≡ loose 3 [] → InRow p q (j ∷ [])
    unfolding jobs holders
    three_alone j e = small 3 [] j [] e (omega arith) (omega arith) jobs_fit shallow row_none

    three_lead : (a : ℕ) (j : Job) → sort j ≡ loose 3 [] → Good (lead a (j ∷ []))
    unfolding jobs holders held_by
    three_lead a j e =
        good_lead a (j ∷ []) (omega arith) (subst (λ s. held_by s q ≤ 16) (sym e) shallow) (three_alone j e)

    pub good_remarks : (a : ℕ) → Good (change_remarks a)
    unfolding change_remarks sort
    good_remarks a = by (eqb a 45) _ _ (λ _. good_turn (three_alone Jobs.remarks_dash refl)) λ _. three_lead a Jobs.remarks refl

    pub good_remarks_dash : (a : ℕ) → Good (change_remarks_dash a)
    unfolding change_remarks_dash sort
    good_remarks_dash a =
        by (eqb a 45) _ _ (λ _. word_alone (ascii ">") (omega arith) (omega arith) shallow) λ _. three_lead a Jobs.remarks refl

    pub good_raw : (a : ℕ) → Good (change_raw a)
    unfolding change_raw sort
    good_raw a = by (eqb a 93) _ _ (λ _. good_turn (three_alone Jobs.raw_bracket refl)) λ _. three_lead a Jobs.raw refl

    pub good_raw_bracket : (a : ℕ) → Good (change_raw_bracket a)
    unfolding change_raw_bracket sort
    good_raw_bracket a = by (eqb a 93) _ _ (λ _. good_turn (three_alone Jobs.raw_brackets refl)) λ _. good_raw a

    pub good_raw_brackets : (a : ℕ) → Good (change_raw_brackets a)
    unfolding change_raw_brackets sort
    good_raw_brackets a =
        by (eqb a 62) _ _ (λ _. good_turn row_none) λ _.
        by (eqb a 93) _ _ (λ _. good_turn (three_alone Jobs.raw_brackets refl)) λ _. good_raw a

    pub good_skipping : (a : ℕ) → Good (change_skipping a)
    unfolding change_skipping sort
    good_skipping a =
        by (eqb a 62) _ _ (λ _. good_turn row_none) λ _. by (skipped a) _ _ (λ _. three_lead a Jobs.skipping refl) λ _. good_dead

    pub good_quoted : (a : ℕ) → Good (change_quoted a)
    unfolding change_quoted sort
    good_quoted a =
        by (eqb a 34) _ _ (λ _. good_turn (three_alone (Jobs.valuing true) refl)) λ _.
        by (eqb a 39) _ _ (λ _. good_turn (three_alone (Jobs.valuing false) refl)) λ _. good_dead

    pub good_valuing : (b : Bool) (a : ℕ) → Good (change_valuing b a)
    unfolding change_valuing sort jobs holders held_by
    good_valuing b a =
        by (eqb a (quote_of b)) _ _ (λ _. good_turn row_none) λ _.
        by (eqb a 38) _ _
        (λ _. good_turn (small 1 [] Jobs.ampersand (Jobs.valuing b ∷ []) refl (omega arith) (omega arith) (omega arith) shallow
        (three_alone (Jobs.valuing b) refl))) λ _.
        by (eqb a 60) _ _ (λ _. good_dead) λ _. three_lead a (Jobs.valuing b) refl

  pub good_trailing : (a : ℕ) → 4 + p ≤ 21 → q ≤ 16 → Good (change_trailing a)
  unfolding change_trailing sort jobs holders held_by
  good_trailing a h k =
      let last : InRow p q (Jobs.trailing ∷ []) = small 4 [] Jobs.trailing [] refl (omega arith) (omega arith) h k row_none in
      by (blank a) _ _ (λ _. good_turn last) λ _.
      by (eqb a 60) _ _
      (λ _. good_turn
      (small 1 (ascii "!--") (Jobs.fixed (ascii "!--")) (Jobs.remarks ∷ Jobs.trailing ∷ []) refl (omega arith) (omega arith) (omega arith) k
      (small 3 [] Jobs.remarks (Jobs.trailing ∷ []) refl (omega arith) (omega arith) (omega arith) k last))) λ _. good_dead

  -- THE DECLARATION
  pub good_saying : (v : List ℕ) (a : ℕ) → length v ≤ 64 → 2 + p ≤ 21 → q ≤ 16 → Good (change_saying v a)
  unfolding change_saying jobs holders held_by sort
  good_saying v a e h k =
      by (quote a) _ _
      (λ _. good_turn
      (before v _ e (omega arith) (omega arith) (before (a ∷ []) [] (omega arith) (omega arith) (omega arith) row_none))) λ _.
      good_dead

  module _ (h : 7 + p ≤ 21) (k : q ≤ 16) where
    ask : Good (turn (Jobs.fixed (ascii ">") ∷ []))
    ask = word_alone (ascii ">") (omega arith) (omega arith) k

    versions : Good (turn (Jobs.versioned_blank ∷ []))
    unfolding sort jobs holders
    versions = good_turn (small 7 [] Jobs.versioned_blank [] refl (omega arith) (omega arith) h k row_none)

    pub good_versioned : (a : ℕ) → Good (change_versioned a)
    unfolding change_versioned
    good_versioned a = by (blank a) _ _ (λ _. versions) λ _. by (eqb a 63) _ _ (λ _. ask) λ _. good_dead

    pub good_versioned_blank : (a : ℕ) → Good (change_versioned_blank a)
    unfolding change_versioned_blank encoding_jobs sort jobs holders held_by
    good_versioned_blank a =
        by (blank a) _ _ (λ _. versions) λ _.
        by (eqb a 63) _ _ (λ _. ask) λ _.
        by (eqb a 101) _ _
        (λ _. good_turn (before (ascii "ncoding") _ (omega arith) (omega arith) (omega arith)
        (small 1 [] Jobs.blanks _ refl (omega arith) (omega arith) (omega arith) (omega arith)
        (before (ascii "=") _ (omega arith) (omega arith) (omega arith)
        (small 1 [] Jobs.blanks _ refl (omega arith) (omega arith) (omega arith) (omega arith)
        (small 2 (ascii "UTF-8") (Jobs.saying (ascii "UTF-8")) _ refl (omega arith) (omega arith) (omega arith) (omega arith)
        (small 1 [] Jobs.blanks _ refl (omega arith) (omega arith) (omega arith) (omega arith)
        (before (ascii "?>") [] (omega arith) (omega arith) (omega arith) row_none)))))))) λ _. good_dead
