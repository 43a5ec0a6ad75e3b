-- THEOREMS ON THE OUTPUT: the lines of the first and then those of the second; as many as locations moved, first only and second only; how
-- many bytes the first n have.
use Rattle.std.specs.Prelude.{◌≡◌, Bool, true, false, cond, ℕ, zero, suc, ◌+◌, ◌*◌, ◌-◌, ◌/◌, ◌%◌, ◌≤◌, ◌<◌, eqb, ltb, get_or}
use Rattle.std.proofs.Math.Path.{refl, ap}
use Rattle.std.specs.Prelude.{Option}
use Rattle.std.proofs.Common.{sym, ◌∙◌, subst, append-nil, ne_eqb, le-leb, add-one}
use Rattle.std.specs.Io.KnownBytes.{Appends}
use Rattle.std.proofs.KnownBytes.{Appends-nil, Appends-trans}
use mathlib.Core.List.{List, [], ◌∷◌, ◌++◌, append_assoc}
use native.Mathlib.Omega.{arith}
use Rattle.std.proofs.Math.ListN.{length, length-append}
use Rattle.lists.specs.Lists.{count, count_up, tabulated, each_in}
use Rattle.lists.proofs.Laws.Lists.{count_append}
use Rattle.grammar.specs.Bytes.{ascii}
use Rattle.grammar.specs.Look.{Word}
use Rattle.records.specs.Record.{Location, on_surface, in_volume, location_of}
use Rattle.comparison.specs.Compare.{count_below, moved, first_only, second_only}
use Rattle.compare.proofs.Laws.Lines.{says_moved, says_first, says_second, lines_moved, lines_first, lines_second}
use Rattle.compare.specs.Change.{change_at}
use Rattle.compare.specs.declared.changes.Change.{Change}
use Rattle.compare.specs.declared.changes.Change.TheVariants as changes
use Rattle.card.specs.Card.{location_line, record_line}
use Rattle.card.specs.Written.{in_tens_up_to, in_tens, spaced, words_of, line_bytes, WritesOut}
use Rattle.comparer.specs.Output.{change_bytes, line_at, output_bytes}
use Rattle.comparer.proofs.Laws.Output.{at_first, at_second, line_fits}

-- ---- The lists of each number from i on, in a row.

in_row : (ℕ → List ℕ) → (i n : ℕ) → List ℕ
in_row f i n = each_in f (count_up (λ k. k) i n)

row_suc : (f : ℕ → List ℕ) (i n : ℕ) → in_row f i (suc n) ≡ f i ++ in_row f (suc i) n
unfolding in_row each_in count_up
row_suc f i n = refl

row_none : (f : ℕ → List ℕ) (i : ℕ) → in_row f i 0 ≡ []
unfolding in_row each_in count_up
row_none f i = refl

row_parts : (f : ℕ → List ℕ) (i n m : ℕ) → in_row f i (n + m) ≡ in_row f i n ++ in_row f (i + n) m
row_parts f i zero m = let e : i + 0 ≡ i = omega arith in let z : 0 + m ≡ m = omega arith in rw (e, z, row_none f i) refl
row_parts f i (suc n) m =
    let e : suc n + m ≡ suc (n + m) = omega arith in
    let g : i + suc n ≡ suc i + n = omega arith in
    ap (in_row f i) e ∙ row_suc f i (n + m) ∙ ap (λ l. f i ++ l) (row_parts f (suc i) n m)
    ∙ sym (append_assoc (f i) (in_row f (suc i) n) (in_row f (suc i + n) m))
    ∙ rw (g, row_suc f i n) refl

row_same : (f g : ℕ → List ℕ) (i j n : ℕ) → ((k : ℕ) → k < n → f (i + k) ≡ g (j + k)) → in_row f i n ≡ in_row g j n
row_same f g i j zero h = row_none f i ∙ sym (row_none g j)
row_same f g i j (suc n) h =
    let a : i + 0 ≡ i = omega arith in
    let b : j + 0 ≡ j = omega arith in
    let one : f i ≡ g j = ap f (sym a) ∙ h 0 (omega arith) ∙ ap g b in
    let more = row_same f g (suc i) (suc j) n (λ k u. next k u) in
    row_suc f i n ∙ rw (one, more) refl ∙ sym (row_suc g j n)
  where
    next : (k : ℕ) → k < n → f (suc i + k) ≡ g (suc j + k)
    next k u =
        let a : suc i + k ≡ i + suc k = omega arith in
        let b : j + suc k ≡ suc j + k = omega arith in
        ap f a ∙ h (suc k) (omega arith) ∙ ap g b

-- ---- The first sheet's lines by index, and behind them the second's.

module _ (a b : List ℕ) where
  output_row : output_bytes a b ≡ in_row (line_at a b) 0 (length a + length b)
  unfolding output_bytes in_row tabulated
  output_row = refl

  pub first_then_second : output_bytes a b
      ≡ each_in (λ i. change_bytes (change_at a b i) i (get_or a i 0)) (tabulated (length a) (λ i. i))
      ++ each_in (λ j. change_bytes (change_at a b (length a + j)) j (get_or b j 0)) (tabulated (length b) (λ j. j))
  unfolding in_row tabulated
  first_then_second =
      output_row ∙ row_parts (line_at a b) 0 (length a) (length b)
      ∙ rw (
        row_same (line_at a b) (λ i. change_bytes (change_at a b i) i (get_or a i 0)) 0 0 (length a) (λ k h. of_first_lem k h),
        row_same (line_at a b) (λ j. change_bytes (change_at a b (length a + j)) j (get_or b j 0)) (0 + length a) 0 (length b)
            (λ k h. of_second_lem k),
      )
      refl
    where
      of_first_lem : (k : ℕ) → k < length a → line_at a b (0 + k) ≡ change_bytes (change_at a b (0 + k)) (0 + k) (get_or a (0 + k) 0)
      of_first_lem k h = at_first a b (0 + k) (omega arith)

      of_second_lem : (k : ℕ) → line_at a b (0 + length a + k)
          ≡ change_bytes (change_at a b (length a + (0 + k))) (0 + k) (get_or b (0 + k) 0)
      of_second_lem k =
          let n : 0 + length a + k ≡ length a + (0 + k) = omega arith in
          let e : length a + (0 + k) - length a ≡ 0 + k = omega arith in
          ap (line_at a b) n ∙ at_second a b (length a + (0 + k)) (omega arith) ∙ rw e refl

-- ---- How many lines: how many line feeds.

abbrev pub feeds : List ℕ → ℕ
feeds l = count (eqb 10) l

no_feed : (m n : ℕ) → feeds (in_tens_up_to m n) ≡ 0
unfolding in_tens_up_to count
no_feed zero n = refl
no_feed (suc m) n = go (ltb n 10) (no_feed m (n / 10))
  where
    digit : (x : ℕ) → eqb 10 (48 + x) ≡ false
    digit x = ne_eqb 10 (48 + x) (λ e. omega arith)

    go : (b : Bool) → feeds (in_tens_up_to m (n / 10)) ≡ 0
        → feeds (cond b ((48 + n) ∷ []) (in_tens_up_to m (n / 10) ++ ((48 + n % 10) ∷ []))) ≡ 0
    go true h = rw (digit n) refl
    go false h =
        let one : feeds ((48 + n % 10) ∷ []) ≡ 0 = rw (digit (n % 10)) refl in
        omega (arith, count_append (eqb 10) (in_tens_up_to m (n / 10)) ((48 + n % 10) ∷ []))

plain : (n : ℕ) → feeds (in_tens n) ≡ 0
unfolding in_tens
plain n = no_feed 20 n

spaced_one : (w : Word) → feeds (spaced (w ∷ [])) ≡ feeds w + 1
unfolding spaced count
spaced_one w = count_append (eqb 10) w (10 ∷ [])

blank_no_feed : (l : List ℕ) → feeds (32 ∷ l) ≡ feeds l
unfolding count
blank_no_feed l = omega arith

spaced_more : (w v : Word) (l : List Word) → feeds (spaced (w ∷ v ∷ l)) ≡ feeds w + feeds (spaced (v ∷ l))
unfolding spaced
spaced_more w v l = count_append (eqb 10) w (32 ∷ spaced (v ∷ l)) ∙ ap (λ k. feeds w + k) (blank_no_feed (spaced (v ∷ l)))

letter_s : feeds (ascii "S") ≡ 0
unfolding count
letter_s = refl

letter_v : feeds (ascii "V") ≡ 0
unfolding count
letter_v = refl

one_feed : (n : ℕ) (l : Location) → feeds (line_bytes (location_line n l)) ≡ 1
unfolding line_bytes words_of location_line
one_feed n (on_surface s v) =
    let a = spaced_more (in_tens n) (ascii "S") (in_tens s ∷ in_tens v ∷ []) in
    let b = spaced_more (ascii "S") (in_tens s) (in_tens v ∷ []) in
    let c = spaced_more (in_tens s) (in_tens v) [] in
    let d = spaced_one (in_tens v) in
    omega (arith, a, b, c, d, letter_s, plain n, plain s, plain v)
one_feed n (in_volume s i j k) =
    let a = spaced_more (in_tens n) (ascii "V") (in_tens s ∷ in_tens i ∷ in_tens j ∷ in_tens k ∷ []) in
    let b = spaced_more (ascii "V") (in_tens s) (in_tens i ∷ in_tens j ∷ in_tens k ∷ []) in
    let c = spaced_more (in_tens s) (in_tens i) (in_tens j ∷ in_tens k ∷ []) in
    let d = spaced_more (in_tens i) (in_tens j) (in_tens k ∷ []) in
    let e = spaced_more (in_tens j) (in_tens k) [] in
    let f = spaced_one (in_tens k) in
    omega (arith, a, b, c, d, e, f, letter_v, plain n, plain s, plain i, plain j, plain k)

-- something is said
changed : Change → Bool
changed changes.Same = false
changed changes.Moved = true
changed changes.First = true
changed changes.Second = true

behind_word : (w : List ℕ) → feeds w ≡ 0 → (n r : ℕ) → feeds (w ++ line_bytes (record_line n r)) ≡ 1
unfolding record_line
behind_word w z n r =
    omega (arith, count_append (eqb 10) w (line_bytes (location_line n (location_of r))), one_feed n (location_of r))

change_feeds : (c : Change) (n r : ℕ) → feeds (change_bytes c n r) ≡ cond (changed c) 1 0
unfolding change_bytes changed count
change_feeds changes.Same n r = refl
change_feeds changes.Moved n r = behind_word (ascii "moved ") refl n r
change_feeds changes.First n r = behind_word (ascii "first ") refl n r
change_feeds changes.Second n r = behind_word (ascii "second ") refl n r

line_feeds : (a b : List ℕ) (n : ℕ) → feeds (line_at a b n) ≡ cond (changed (change_at a b n)) 1 0
unfolding line_at
line_feeds a b n = by (ltb n (length a))
  where
    by : (x : Bool) → feeds (cond x (change_bytes (change_at a b n) n (get_or a n 0))
        (change_bytes (change_at a b n) (n - length a) (get_or b (n - length a) 0))) ≡ cond (changed (change_at a b n)) 1 0
    by true = change_feeds (change_at a b n) n (get_or a n 0)
    by false = change_feeds (change_at a b n) (n - length a) (get_or b (n - length a) 0)

row_feeds : (f : ℕ → List ℕ) (p : ℕ → Bool) → ((k : ℕ) → feeds (f k) ≡ cond (p k) 1 0) → (n : ℕ) → feeds (in_row f 0 n) ≡ count_below n p
unfolding count_below count
row_feeds f p h zero = ap feeds (row_none f 0)
row_feeds f p h (suc n) =
    let e : suc n ≡ n + 1 = omega arith in
    let z : 0 + n ≡ n = omega arith in
    let last : in_row f (0 + n) 1 ≡ f n ++ [] = rw z (row_suc f n 0 ∙ ap (λ l. f n ++ l) (row_none f (suc n))) in
    let whole : in_row f 0 (suc n) ≡ in_row f 0 n ++ (f n ++ []) = ap (in_row f 0) e ∙ row_parts f 0 n 1 ∙ ap (λ l. in_row f 0 n ++ l) last in
    omega (
      arith,
      ap feeds whole,
      count_append (eqb 10) (in_row f 0 n) (f n ++ []),
      count_append (eqb 10) (f n) [],
      h n,
      row_feeds f p h n,
    )

three_ways : (c : Change)
    → cond {A = ℕ} (changed c) 1 0 ≡ cond (says_moved c) 1 0 + cond (says_first c) 1 0 + cond (says_second c) 1 0
unfolding changed says_moved says_first says_second
three_ways changes.Same = refl
three_ways changes.Moved = refl
three_ways changes.First = refl
three_ways changes.Second = refl

said_below : (f : ℕ → Change) (n : ℕ) → count_below n (λ i. changed (f i))
    ≡ count_below n (λ i. says_moved (f i)) + count_below n (λ i. says_first (f i)) + count_below n (λ i. says_second (f i))
unfolding count_below
said_below f zero = refl
said_below f (suc n) = omega (arith, three_ways (f n), said_below f n)

-- as many lines as locations moved, in the first only and in the second only
pub lines_told : (a b : List ℕ) → feeds (output_bytes a b) ≡ moved a b + first_only a b + second_only a b
lines_told a b =
    let n : ℕ = length a + length b in
    omega (
      arith,
      ap feeds (output_row a b),
      row_feeds (line_at a b) (λ i. changed (change_at a b i)) (line_feeds a b) n,
      said_below (change_at a b) n,
      lines_moved a b,
      lines_first a b,
      lines_second a b,
    )

-- ---- How many bytes the lines below n have.

pub bytes_below : (a b : List ℕ) → ℕ → ℕ
bytes_below a b n = length (in_row (line_at a b) 0 n)

module _ (a b : List ℕ) where
  pub bytes_none : bytes_below a b 0 ≡ 0
  unfolding bytes_below
  bytes_none = ap length (row_none (line_at a b) 0)

  more : (n : ℕ) → bytes_below a b (n + 1) ≡ bytes_below a b n + length (line_at a b n)
  unfolding bytes_below
  more n =
      let z : 0 + n ≡ n = omega arith in
      let last : in_row (line_at a b) (0 + n) 1 ≡ line_at a b n ++ [] =
      rw z (row_suc (line_at a b) n 0 ∙ ap (λ l. line_at a b n ++ l) (row_none (line_at a b) (suc n))) in
      omega (
        arith,
        ap length (row_parts (line_at a b) 0 n 1 ∙ ap (λ l. in_row (line_at a b) 0 n ++ l) last),
        length-append (in_row (line_at a b) 0 n) (line_at a b n ++ []),
        length-append (line_at a b n) [],
      )

  pub bytes_few : (n : ℕ) → bytes_below a b n ≤ 128 * n
  bytes_few zero = omega (arith, bytes_none)
  bytes_few (suc n) =
      let e : bytes_below a b (suc n) ≡ bytes_below a b (n + 1) = ap (bytes_below a b) (sym (add-one n)) in
      omega (arith, e, more n, line_fits a b n, bytes_few n)

  pub bytes_all : bytes_below a b (length a + length b) ≡ length (output_bytes a b)
  unfolding bytes_below
  bytes_all = ap length (sym (output_row a b))

  -- a line that was written to a room of 128 bytes
  module _ (n : ℕ) {out : List ℕ} {k : ℕ} {t : List ℕ} (written : WritesOut (line_at a b n) out k t) (room : 128 ≤ length out) where
    all : k ≡ length (line_at a b n)
    all = written.counted ∙ rw (le-leb (length (line_at a b n)) (length out) (omega (arith, line_fits a b n))) refl

    pub bytes_next : bytes_below a b n + k ≡ bytes_below a b (n + 1)
    bytes_next = omega (arith, more n, all)

    pub line_small : k ≤ 128
    line_small = omega (arith, all, line_fits a b n)

-- ---- The lines below n, as they were printed.

pub lines_below : (a b : List ℕ) → ℕ → List ℕ
lines_below a b n = in_row (line_at a b) 0 n

module _ (a b : List ℕ) where
  pub printed_none : (x : Option (List ℕ)) → Appends x x (lines_below a b 0)
  unfolding lines_below
  printed_none x = subst (Appends x x) (sym (row_none (line_at a b) 0)) (Appends-nil x)

  line_more : (n : ℕ) → lines_below a b n ++ line_at a b n ≡ lines_below a b (n + 1)
  unfolding lines_below
  line_more n =
      let z : 0 + n ≡ n = omega arith in
      let last : in_row (line_at a b) (0 + n) 1 ≡ line_at a b n =
      rw z (row_suc (line_at a b) n 0 ∙ ap (λ l. line_at a b n ++ l) (row_none (line_at a b) (suc n)) ∙ append-nil (line_at a b n)) in
      sym (row_parts (line_at a b) 0 n 1 ∙ ap (λ l. in_row (line_at a b) 0 n ++ l) last)

  pub printed_next : (x y z : Option (List ℕ)) (n : ℕ) {bytes : List ℕ} → bytes ≡ line_at a b n → Appends x y (lines_below a b n)
      → Appends y z bytes → Appends x z (lines_below a b (n + 1))
  printed_next x y z n {bytes} e before p =
      subst (Appends x z) (ap (λ l. lines_below a b n ++ l) e ∙ line_more n) (Appends-trans x y z (lines_below a b n) bytes before p)

  pub printed_all : (x y : Option (List ℕ)) (n : ℕ) → n ≡ length a + length b → Appends x y (lines_below a b n) → Appends x y (output_bytes a b)
  unfolding lines_below
  printed_all x y n e p = subst (Appends x y) (ap (in_row (line_at a b) 0) e ∙ sym (output_row a b)) p
