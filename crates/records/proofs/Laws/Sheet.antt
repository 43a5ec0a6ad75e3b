-- A sheet and its words give each other, and what it takes to pack and to unpack, whatever the layout. What is said of a sheet alone is
-- over w, the bytes per record. Assumes nothing.
use Rattle.std.specs.Prelude.{◌≡◌, Bool, true, ◌&&◌, eqb, leb, get_or, take, drop}
use Rattle.std.proofs.Math.Path.{refl, sym, ap, subst}
use Rattle.std.proofs.Common.{◌∙◌, arith, div-one, add-zero, mod-eq_of_lt, length-append, length-drop, take-append-drop, shl_lt, take_at, drop_at, drop-drop, drop-cons, length-take-le}
use Rattle.std.proofs.Math.Bool.{not}
use mathlib.Core.List.{List, [], ◌∷◌, ◌++◌}
use Prim.Native.Nat.{ℕ, zero, suc, ◌+◌, ◌*◌, ◌/◌, ◌%◌, ◌^◌, ◌≤◌, ◌<◌}
use Rattle.std.proofs.Math.Nat.{mul-mod_left, div-add-mod'}
use Rattle.std.proofs.Math.ListN.{length}
use Rattle.std.proofs.Math.Pow.{pow_pos}
use Rattle.std.proofs.lemmas.Nat.{shl-shr}
use borrow.Author.Tests.{leb-true, ltb-false, eqb-true, le-leb, le-ltb, eq-eqb, not-false}
use Rattle.lists.specs.Lists.{all}
use Rattle.lists.proofs.Laws.Booleans.{and_left, and_right, and_halves}
use Rattle.lists.specs.Refusals.{Refusal, ◌when◌, positive, NoneApplies}
use Rattle.lists.proofs.Laws.Refusals.{given_none, row_fails, rows_behind}
use Rattle.records.specs.Limits.{most_records}
use Rattle.records.specs.Width.{Width, record_bits}
use Rattle.records.specs.Fields.{bits, parts_of}
use Rattle.records.specs.Record.{legal_in}
use Rattle.records.proofs.Laws.Record.{Sound}
use Rattle.records.proofs.Laws.Widths.{legal_size}
use Rattle.records.specs.Fill.{wrote}
use Rattle.records.specs.Bytes.{bytes_of, number_written, body, numbers_in, Below}
use Rattle.records.proofs.Laws.Bytes.{length_bytes_of, bytes_back, number_back, length_body, length_numbers_in, numbers_back}
use Rattle.records.proofs.Laws.Bytes.{body_back, drop_below, take_below}
use Rattle.records.specs.Outcome.{ends, passes, gives_first}
use Rattle.records.specs.Sheet.{head_of, sheet_of, count_of, words_in, word_of, bare, with_ends, all_legal, good_word, all_good, good_count}
use Rattle.records.specs.Sheet.{good_sheet, pack_refusal, unpack_refusal}

-- a good count is not 0 and at most 1,048,576
pub count_small : (n : ℕ) → good_count n ≡ true → (1 ≤ n) × (n ≤ most_records)
unfolding good_count
count_small n e = let p = and_halves (leb 1 n) (leb n most_records) e in (leb-true 1 n p.0, leb-true n most_records p.1)

-- what a good sheet is
pub record GoodSheet (w : ℕ) (s : List ℕ) : Type 0 where
  pub long : 4 ≤ length s
  pub first : get_or s 0 0 ≡ w
  pub count : good_count (count_of s) ≡ true
  pub size : length s ≡ 4 + w * count_of s

pub sheet_good : (w : ℕ) (s : List ℕ) → good_sheet w s ≡ true → GoodSheet w s
unfolding good_sheet
sheet_good w s e =
    let p = and_halves (leb 4 (length s)) (eqb (get_or s 0 0) w && (good_count (count_of s) && eqb (length s) (4 + w * count_of s))) e in
    let q = and_halves (eqb (get_or s 0 0) w) (good_count (count_of s) && eqb (length s) (4 + w * count_of s)) p.1 in
    let r = and_halves (good_count (count_of s)) (eqb (length s) (4 + w * count_of s)) q.1 in
    record {
      long = leb-true 4 (length s) p.0;
      first = eqb-true (get_or s 0 0) w q.0;
      count = r.0;
      size = eqb-true (length s) (4 + w * count_of s) r.1;
    }

pub good_sheet_lem : (w : ℕ) (s : List ℕ) → GoodSheet w s → good_sheet w s ≡ true
unfolding good_sheet
good_sheet_lem w s g = rw (
  le-leb 4 (length s) g.long,
  eq-eqb (get_or s 0 0) w g.first,
  g.count,
  eq-eqb (length s) (4 + w * count_of s) g.size,
)

one_byte : (w : ℕ) → w < 256 → bytes_of 1 w ≡ w ∷ []
unfolding bytes_of bits parts_of
one_byte w h = rw (div-one, mod-eq_of_lt h)

-- the sheet of records, read
module _ (w : ℕ) (rs : List ℕ) (byte : w < 256) where
  parts : sheet_of w rs ≡ w ∷ (bytes_of 3 (length rs) ++ body w rs)
  unfolding sheet_of head_of
  parts = ap (λ (l : List ℕ). l ++ bytes_of 3 (length rs) ++ body w rs) (one_byte w byte)

  pub sheet_long : length (sheet_of w rs) ≡ 4 + w * length rs
  sheet_long = ap length parts ∙ omega (
    arith,
    length-append (bytes_of 3 (length rs)) (body w rs),
    length_bytes_of 3 (length rs),
    length_body w rs,
  )

  pub sheet_count : length rs < 2 ^ 24 → count_of (sheet_of w rs) ≡ length rs
  unfolding count_of
  sheet_count few =
      ap (λ (l : List ℕ). number_written (take 3 (drop 1 l))) parts
      ∙ ap number_written (take_at (bytes_of 3 (length rs)) (body w rs) 3 (length_bytes_of 3 (length rs)))
      ∙ bytes_back 3 (length rs) few

  sheet_body : drop 4 (sheet_of w rs) ≡ body w rs
  sheet_body = ap (drop 4) parts ∙ drop_at (bytes_of 3 (length rs)) (body w rs) 3 (length_bytes_of 3 (length rs))

  -- the records are read back
  pub records_back : length rs < 2 ^ 24 → Below (2 ^ (8 * w)) rs → words_in w (sheet_of w rs) ≡ rs
  unfolding words_in
  records_back few small =
      ap (λ (n : ℕ). numbers_in w n (drop 4 (sheet_of w rs))) (sheet_count few) ∙ ap (numbers_in w (length rs)) sheet_body
      ∙ numbers_back w rs small

  pub sheet_made_good : good_count (length rs) ≡ true → GoodSheet w (sheet_of w rs)
  sheet_made_good g =
      let few = count_small (length rs) g in
      let long = sheet_long in
      let count : count_of (sheet_of w rs) ≡ length rs = sheet_count (omega arith) in
      record {
        long = omega arith;
        first = ap (λ (l : List ℕ). get_or l 0 0) parts;
        count = ap good_count count ∙ g;
        size = long ∙ ap (λ (n : ℕ). 4 + w * n) (sym count);
      }

-- a good sheet is the sheet of its records
pub sheet_back : (w : ℕ) (s : List ℕ) → Below 256 s → GoodSheet w s → sheet_of w (words_in w s) ≡ s
unfolding sheet_of head_of words_in count_of
sheet_back w s b g =
    let long = g.long in
    let n = count_of s in
    let rs = numbers_in w n (drop 4 s) in
    let byte : w < 256 = omega (arith, g.first, b 0) in
    let three : length (take 3 (drop 1 s)) ≡ 3 = length-take-le 3 (drop 1 s) (omega (arith, length-drop 1 s)) in
    let count : bytes_of 3 n ≡ take 3 (drop 1 s) =
    ap (λ (m : ℕ). bytes_of m n) (sym three)
    ∙ number_back (take 3 (drop 1 s)) (take_below 256 3 (drop 1 s) (omega arith) (drop_below 256 1 s b)) in
    let tail : body w rs ≡ drop 4 s = body_back w n (drop 4 s) (drop_below 256 4 s b) (omega (arith, length-drop 4 s, g.size)) in
    let rest : take 3 (drop 1 s) ++ drop 4 s ≡ drop 1 s = ap (λ (l : List ℕ). take 3 (drop 1 s) ++ l) (sym (drop-drop 3 1 s))
    ∙ take-append-drop 3 (drop 1 s) in
    ap (λ (l : List ℕ). l ++ bytes_of 3 (length rs) ++ body w rs) (one_byte w byte)
    ∙ ap (λ (m : ℕ). w ∷ (bytes_of 3 m ++ body w rs)) (length_numbers_in w n (drop 4 s))
    ∙ ap (λ (l : List ℕ). w ∷ (l ++ body w rs)) count
    ∙ ap (λ (l : List ℕ). w ∷ (take 3 (drop 1 s) ++ l)) tail
    ∙ ap (λ (l : List ℕ). w ∷ l) rest
    ∙ ap (λ (x : ℕ). x ∷ drop 1 s) (sym g.first)
    ∙ sym (drop-cons s 0 0 (omega arith))

-- ---- End bits.

module _ (w : Width) where
  -- the word of a record is good exactly where the record is legal
  pub word_good : (r : ℕ) → good_word w (word_of w r) ≡ legal_in w r
  unfolding good_word
  word_good r =
      let c : ℕ = 2 ^ w.ending in
      ap (λ (b : Bool). b && legal_in w (r * c / c)) (eq-eqb (r * c % c) 0 (mul-mod_left r c)) ∙ ap (legal_in w) (shl-shr r w.ending)

  pub good_legal : (n : ℕ) → good_word w n ≡ true → legal_in w (bare w n) ≡ true
  unfolding good_word
  good_legal n e = and_right (eqb (n % 2 ^ w.ending) 0) (legal_in w (bare w n)) e

  -- a good word is made again from what stands before its end bits
  pub word_back : (n : ℕ) → good_word w n ≡ true → word_of w (bare w n) ≡ n
  unfolding good_word
  word_back n e =
      let c : ℕ = 2 ^ w.ending in
      let none = eqb-true (n % c) 0 (and_left (eqb (n % c) 0) (legal_in w (bare w n)) e) in
      sym (add-zero (n / c * c)) ∙ ap (λ (m : ℕ). n / c * c + m) (sym none) ∙ div-add-mod' n c

  -- a legal record and its end bits fit its bytes
  pub legal_below : Sound w → (rs : List ℕ) → all_legal w rs ≡ true → Below (2 ^ (8 * w.bytes)) (with_ends w rs)
  unfolding all
  legal_below ok [] e k = pow_pos (8 * w.bytes)
  legal_below ok (r ∷ rs) e zero =
      subst (λ (n : ℕ). r * 2 ^ w.ending < 2 ^ n) ok.whole
      (shl_lt (record_bits w) w.ending (legal_size w r (and_left (legal_in w r) (all_legal w rs) e)))
  legal_below ok (r ∷ rs) e (suc k) = legal_below ok rs (and_right (legal_in w r) (all_legal w rs) e) k

-- ---- What it takes.

holding : {n : ℕ} {b : Bool} {l : List Refusal} → NoneApplies (n when not b ∷ l) → b ≡ true
holding {b = b} h = not-false b (row_fails h)

module _ (w : Width) where
  -- to be packed
  pub record CanPack (rs : List ℕ) (room : ℕ) : Type 0 where
    pub count : good_count (length rs) ≡ true
    pub legal : all_legal w rs ≡ true
    pub fits : 4 + w.bytes * length rs ≤ room

  pub can_pack : (rs : List ℕ) (room : ℕ) → pack_refusal w rs room ≡ 0 → CanPack rs room
  unfolding pack_refusal positive
  can_pack rs room e =
      let h = given_none _ refl e in
      let fits = ltb-false room (4 + w.bytes * length rs) (row_fails (rows_behind (rows_behind h))) in
      record { count = holding h; legal = holding (rows_behind h); fits = fits }

  pub packs_so : (rs : List ℕ) (room : ℕ) → CanPack rs room → pack_refusal w rs room ≡ 0
  unfolding pack_refusal
  packs_so rs room c =
      gives_first (passes (ap not c.count) (passes (ap not c.legal) (passes (le-ltb room (4 + w.bytes * length rs) c.fits) ends)))

  -- and unpacked
  pub record CanUnpack (s : List ℕ) (room : ℕ) : Type 0 where
    pub good : GoodSheet w.bytes s
    pub words : all_good w (words_in w.bytes s) ≡ true
    pub fits : count_of s ≤ room

  pub can_unpack : (s : List ℕ) (room : ℕ) → unpack_refusal w s room ≡ 0 → CanUnpack s room
  unfolding unpack_refusal positive
  can_unpack s room e =
      let h = given_none _ refl e in
      let fits = ltb-false room (count_of s) (row_fails (rows_behind (rows_behind h))) in
      record { good = sheet_good w.bytes s (holding h); words = holding (rows_behind h); fits = fits }

  pub unpacks_so : (s : List ℕ) (room : ℕ) → CanUnpack s room → unpack_refusal w s room ≡ 0
  unfolding unpack_refusal
  unpacks_so s room c =
      let good = good_sheet_lem w.bytes s c.good in
      gives_first (passes (ap not good) (passes (ap not c.words) (passes (le-ltb room (count_of s) c.fits) ends)))

-- what is written from the start stands in front
pub wrote_front : (vs s : List ℕ) (n : ℕ) → n ≡ length vs → take n (wrote 0 vs s) ≡ vs
wrote_front vs s n e = take_at vs (drop (0 + length vs) s) n (sym e)
