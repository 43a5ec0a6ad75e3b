-- What is proved of Bounds: all that is ever left of a text is so bounded.
use Rattle.std.specs.Prelude.{◌≡◌, ℕ, suc, ◌+◌, ◌≤◌, Bool, ◌&&◌, eqb, length, Option, Some, None}
use Rattle.std.proofs.Math.Path.{refl}
use Rattle.std.proofs.Common.{ap, sym, ◌∙◌, subst, arith}
use mathlib.Core.List.{List, [], ◌∷◌, ◌++◌}
use Rattle.std.proofs.Math.Bool.{not}
use Rattle.lists.proofs.Laws.Booleans.{never_some}
use Rattle.grammar.specs.Bytes.{blank}
use Rattle.grammar.specs.Document.{together}
use Rattle.grammar.specs.Characters.{lead3, lead4, continues, noncharacter}
use Rattle.stream.specs.Jobs
use Rattle.stream.specs.Jobs.{Job, Change, dead, done, turn, change, Left, put, jobs_on, read_byte, outset}
use Rattle.stream.specs.Reading.{read_on, Arrival, arrival, awaited, add_parts}
use Rattle.stream.proofs.Laws.Reading.{parts_so}
use Rattle.stream.specs.Bounds.{sort, jobs, held_by, holders, LooseSuited, OuterSuited, Suited, InRow, row_none, row_more, Limited}
use Rattle.stream.specs.Bounds.{Sort, loose, nested, outer}
use Rattle.stream.proofs.Laws.Loose.{Good, good_dead, good_done, good_turn, by, small, word_alone, good_ampersand, good_ampersand_a}
use Rattle.stream.proofs.Laws.Loose.{good_remarks, good_remarks_dash, good_raw, good_raw_bracket, good_raw_brackets, good_skipping}
use Rattle.stream.proofs.Laws.Loose.{good_quoted, good_valuing, good_trailing, good_saying, good_versioned, good_versioned_blank}
use Rattle.stream.proofs.Laws.Nested.{good_naming, good_tagging, good_gapped, good_keying, good_enclosing, good_bracket, good_brackets}
use Rattle.stream.proofs.Laws.Nested.{good_angle, good_angle_mark, good_prologue, good_prologue_angle, good_prologue_mark}
use Rattle.stream.proofs.Laws.Nested.{good_starting, good_starting_angle}

-- ANY JOB
module _ (p q : ℕ) where
  plain_word : (w : List ℕ) (a : ℕ) → length w ≤ 64 → 1 + p ≤ 21 → q ≤ 16 → Good p q (change (Jobs.fixed w) a)
  unfolding change
  plain_word [] a e h k = good_done
  plain_word (b ∷ w) a e h k = by p q (eqb a b) _ _ (λ _. word_alone p q w (omega arith) h k) λ _. good_dead

  single : (j : Job) → sort j ≡ loose 1 [] → 1 + p ≤ 21 → q ≤ 16 → Good p q (turn (j ∷ []))
  unfolding jobs holders
  single j e h k = good_turn (small p q 1 [] j [] e (omega arith) (omega arith) h k row_none)

  pub good : (j : Job) (a : ℕ) → Suited (sort j) p q → Good p q (change j a)
  unfolding sort Suited change jobs holders held_by
  good (Jobs.fixed w) a f = plain_word w a f.short_bytes f.jobs_fit f.shallow
  good Jobs.blanks a f = by p q (blank a) _ _ (λ _. single Jobs.blanks refl f.jobs_fit f.shallow) λ _. good_done
  good Jobs.some_blanks a f = by p q (blank a) _ _ (λ _. single Jobs.blanks refl f.jobs_fit f.shallow) λ _. good_dead
  good Jobs.tail a f = by p q (continues a) _ _ (λ _. good_turn row_none) λ _. good_dead
  good (Jobs.second_of_three b) a f =
      by p q (lead3 b a) _ _ (λ _. single (Jobs.third_of_three b a) refl f.jobs_fit f.shallow) λ _. good_dead
  good (Jobs.third_of_three b c) a f = by p q (continues a && not (noncharacter b c a)) _ _ (λ _. good_turn row_none) λ _. good_dead
  good (Jobs.second_of_four b) a f =
      let h = f.jobs_fit in
      let k = f.shallow in
      by p q (lead4 b a) _ _
      (λ _. good_turn (small p q 1 [] Jobs.tail (Jobs.tail ∷ []) refl (omega arith) (omega arith) (omega arith) k
      (small p q 1 [] Jobs.tail [] refl (omega arith) (omega arith) (omega arith) k row_none))) λ _. good_dead
  good Jobs.ampersand a f = good_ampersand p q f.jobs_fit f.shallow a
  good Jobs.ampersand_a a f = good_ampersand_a p q f.jobs_fit f.shallow a
  good Jobs.remarks a f = good_remarks p q f.jobs_fit f.shallow a
  good Jobs.remarks_dash a f = good_remarks_dash p q f.jobs_fit f.shallow a
  good Jobs.raw a f = good_raw p q f.jobs_fit f.shallow a
  good Jobs.raw_bracket a f = good_raw_bracket p q f.jobs_fit f.shallow a
  good Jobs.raw_brackets a f = good_raw_brackets p q f.jobs_fit f.shallow a
  good Jobs.skipping a f = good_skipping p q f.jobs_fit f.shallow a
  good Jobs.quoted a f = good_quoted p q f.jobs_fit f.shallow a
  good (Jobs.valuing b) a f = good_valuing p q f.jobs_fit f.shallow b a
  good (Jobs.naming d n) a f = good_naming p q d n f.jobs_fit f.left_deep f.short_name a
  good (Jobs.tagging d n l) a f = good_tagging p q d n f.jobs_fit f.left_deep f.short_name l f.tag_keys a
  good (Jobs.gapped d n l) a f = good_gapped p q d n f.jobs_fit f.left_deep f.short_name l f.tag_keys a
  good (Jobs.keying d n l m) a f = good_keying p q d n f.jobs_fit f.left_deep f.short_name l f.tag_keys m a
  good (Jobs.enclosing d n) a f = good_enclosing p q d n f.jobs_fit f.left_deep f.short_name a
  good (Jobs.bracket d n) a f = good_bracket p q d n f.jobs_fit f.left_deep f.short_name a
  good (Jobs.brackets d n) a f = good_brackets p q d n f.jobs_fit f.left_deep f.short_name a
  good (Jobs.angle d n) a f = good_angle p q d n a f.jobs_fit f.left_deep f.short_name
  good (Jobs.angle_mark d n) a f = good_angle_mark p q d n f.jobs_fit f.left_deep f.short_name a
  good Jobs.trailing a f = good_trailing p q a f.jobs_fit f.shallow
  good (Jobs.prologue t) a f = good_prologue p q f.jobs_fit f.none_open t a
  good (Jobs.prologue_angle t) a f = good_prologue_angle p q f.jobs_fit f.none_open t a
  good (Jobs.prologue_mark t) a f = good_prologue_mark p q f.jobs_fit f.none_open t a
  good Jobs.starting a f = good_starting p q f.jobs_fit f.none_open a
  good Jobs.starting_angle a f = good_starting_angle p q f.jobs_fit f.none_open a
  good (Jobs.saying v) a f = good_saying p q v a f.short_bytes f.jobs_fit f.shallow
  good Jobs.versioned a f = good_versioned p q f.jobs_fit f.shallow a
  good Jobs.versioned_blank a f = good_versioned_blank p q f.jobs_fit f.shallow a

-- rows, one after another
jobs_append : (p : ℕ) (m l : List Job) → jobs p (m ++ l) ≡ jobs (jobs p l) m
unfolding jobs
jobs_append p [] l = refl
jobs_append p (j ∷ m) l = ap suc (jobs_append p m l)

holders_append : (q : ℕ) (m l : List Job) → holders q (m ++ l) ≡ holders (holders q l) m
unfolding holders
holders_append q [] l = refl
holders_append q (j ∷ m) l = ap (held_by (sort j)) (holders_append q m l)

joined_rows : (p q : ℕ) (l : List Job) {m : List Job} → InRow (jobs p l) (holders q l) m → InRow p q l → InRow p q (m ++ l)
joined_rows p q l row_none o = o
joined_rows p q l (row_more {j} {l = m} f r) o =
    row_more {j = j} {l = m ++ l} (rw (jobs_append p m l, holders_append q m l) f) (joined_rows p q l r o)

-- what is left, if anything is
pub data Kept : Left → Type 0 where
  nothing_left : Kept None
  jobs_left : {l : List Job} → InRow 0 0 l → Kept (Some l)

put_kept : (c : Change) (l : List Job) (x : Left) → Good (jobs 0 l) (holders 0 l) c → InRow 0 0 l → Kept x → Kept (put c l x)
unfolding put
put_kept dead l x g o k = nothing_left
put_kept done l x g o k = k
put_kept (turn m) l x (good_turn r) o k = jobs_left (joined_rows 0 0 l r o)

jobs_kept : (l : List Job) (a : ℕ) → InRow 0 0 l → Kept (jobs_on l a)
unfolding jobs_on
jobs_kept [] a row_none = nothing_left
jobs_kept (j ∷ l) a (row_more f o) = put_kept (change j a) l (jobs_on l a) (good (jobs 0 l) (holders 0 l) j a f) o (jobs_kept l a o)

byte_kept : {x : Left} (a : ℕ) → Kept x → Kept (read_byte x a)
unfolding read_byte
byte_kept a nothing_left = nothing_left
byte_kept a (jobs_left {l} o) = jobs_kept l a o

pub kept : {x : Left} (s : List ℕ) → Kept x → Kept (read_on x s)
unfolding read_on
kept [] k = k
kept {x = x} (a ∷ s) k = kept {x = read_byte x a} s (byte_kept a k)

outset_kept : Kept outset
unfolding outset sort Suited jobs holders held_by
outset_kept =
    let last : LooseSuited 4 [] 0 0 = record {
      short_bytes = omega arith;
      one_at_least = omega arith;
      jobs_fit = omega arith;
      shallow = omega arith;
    } in
    let first : OuterSuited 1 0 = record { jobs_fit = omega arith; none_open = refl } in
    jobs_left (row_more {j = Jobs.starting} first (row_more {j = Jobs.trailing} last row_none))

-- a row is short, and few of it have an open element
suited_few : (c : Sort) (p q : ℕ) → Suited c p q → (suc p ≤ 21) × (held_by c q ≤ 16)
unfolding Suited held_by
suited_few (loose h w) p q f = (omega (arith, f.one_at_least, f.jobs_fit), f.shallow)
suited_few (nested d n l m) p q f = (omega (arith, f.jobs_fit), omega (arith, f.left_deep))
suited_few outer p q f = (omega (arith, f.jobs_fit), omega (arith, f.none_open))

jobs_length : (l : List Job) → jobs 0 l ≡ length l
unfolding jobs
jobs_length [] = refl
jobs_length (j ∷ l) = ap suc (jobs_length l)

pub limited : {l : List Job} → InRow 0 0 l → Limited l
unfolding holders
limited row_none = record { jobs_few = omega arith; holders_few = omega arith; each_suited = row_none }
limited (row_more {j} {l} f o) =
    let both = suited_few (sort j) (jobs 0 l) (holders 0 l) f in
    let few : length (j ∷ l) ≤ 21 = omega (arith, both.0, jobs_length l) in
    record { jobs_few = few; holders_few = both.1; each_suited = row_more f o }

-- WHATEVER WAS READ: what is left of the text is so bounded
pub limited_so : (s : List ℕ) (l : List Job) → read_on outset s ≡ Some l → Limited l
limited_so s l e = go (read_on outset s) (kept s outset_kept) e
  where
    go : (x : Left) → Kept x → x ≡ Some l → Limited l
    go _ nothing_left e = never_some e
    go _ (jobs_left {l = m} o) e = let same : m ≡ l = cc in subst Limited same (limited o)

-- the same of a reading that parts were added to
pub limited_parts : (ps : List (List ℕ)) (l : List Job) (n : ℕ) (v : Option Bool) → add_parts awaited ps ≡ arrival (Some l) n v → Limited l
unfolding awaited
limited_parts ps l n v e =
    limited_so (together ps) l (ap left_of (sym (parts_so outset 0 ps) ∙ e))
  where
    left_of : Arrival → Left
    left_of (arrival x n v) = x
