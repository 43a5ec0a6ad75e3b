-- What a read into a part of a slice adds to the bytes that came before it, and a byte that is put behind them.
use Rattle.std.proofs.Common.{◌≡◌, ◌≢◌, ℕ, ◌+◌, ◌-◌, ◌≤◌, ◌<◌, List, [], ◌∷◌, ◌++◌, sym, ap, ◌∙◌, subst, arith, length, take, set, get_or, slice_range, drop_at, length-take-le, length-append, le_refl, take_all, All, Option, false}
use Rattle.std.proofs.lemmas.Slice.{take-put_mid_below}
use Rattle.std.proofs.lemmas.List.{take_more_set}
use Rattle.std.proofs.Math.Seq.{take-suc}
use Rattle.std.specs.Io.KnownBytes.{Consumes, IsAtEnd}
use Rattle.std.proofs.lemmas.List.Elements.{All-push}
use Rattle.input.specs.Arrived.{TookPast}
use Rattle.std.proofs.KnownBytes.{Consumes-trans}
use borrow.Rule.Slice.PartMut.{put_mid, post_of}
use lib.Seq.{take-add, take-append-le}

take_split : (a b : ℕ) (old new : List ℕ) → a ≤ b → take a new ≡ take a old → take a old ++ slice_range new a b ≡ take b new
take_split a b old new h front =
    let same : a + (b - a) ≡ b = omega arith in
    ap (λ l. l ++ slice_range new a b) (sym front) ∙ sym (take-add a (b - a) new) ∙ ap (λ n. take n new) same

range_put_mid : (a k n : ℕ) (xs ys : List ℕ) → a ≤ length xs → n ≤ length ys → slice_range (put_mid a k xs ys) a (a + n) ≡ take n ys
range_put_mid a k n xs ys within fits =
    let same : (a + n) - a ≡ n = omega arith in
    let after = post_of a k xs in
    ap (take ((a + n) - a)) (drop_at (take a xs) (ys ++ after) a (length-take-le a xs within))
    ∙ ap (λ m. take m (ys ++ after)) same ∙ take-append-le n ys after fits

-- the first n bytes came before, and m more into the part behind them
pub part_came : (a b c : Option (List ℕ)) (n k m : ℕ) (xs ys : List ℕ) → n ≤ length xs → m ≤ length ys
    → Consumes a b (take n xs) → Consumes b c (take m ys) → Consumes a c (take (n + m) (put_mid n k xs ys))
part_came a b c n k m xs ys within fits before read =
    let part = range_put_mid n k m xs ys within fits in
    let joined = take_split n (n + m) xs (put_mid n k xs ys) (omega arith) (take-put_mid_below _ _ _ _ _ (le_refl _) within) in
    subst (Consumes a c) (ap (λ l. take n xs ++ l) (sym part) ∙ joined) (Consumes-trans a b c (take n xs) (take m ys) before read)

-- the first n bytes came before, and one more, which is put behind them
pub byte_came : (a b c : Option (List ℕ)) (n m : ℕ) (xs ys : List ℕ) → n < length xs → 0 < m → m ≤ length ys → length ys ≡ 1
    → Consumes a b (take n xs) → Consumes b c (take m ys) → Consumes a c (take (n + 1) (set xs n (get_or ys 0 0)))
byte_came a b c n m xs ys room some fits one before read =
    let just : m ≡ 1 = omega arith in
    let first : take m ys ≡ get_or ys 0 0 ∷ [] = ap (λ i. take i ys) just ∙ take-suc ys 0 0 (omega arith) in
    subst (Consumes a c) (ap (λ l. take n xs ++ l) first ∙ sym (take_more_set xs n (get_or ys 0 0) room))
    (Consumes-trans a b c (take n xs) (take m ys) before read)

-- no byte of those that came before is the line feed, and the one that is put behind them is none either
pub no_feed_yet : (n x : ℕ) (xs : List ℕ) → n < length xs → x ≢ 10 → All (λ b. b ≢ 10) (take n xs) → All (λ b. b ≢ 10) (take (n + 1) (set xs n x))
no_feed_yet n x xs room h before =
    subst (All (λ b. b ≢ 10)) (sym (take_more_set xs n x room)) (All-push (λ b. b ≢ 10) (take n xs) x before h)

-- the room is full, and one byte more was asked for
pub past_came : (a b c : Option (List ℕ)) (xs : List ℕ) (y : List ℕ) (n m : ℕ) → length xs ≤ n → n ≤ length xs → m ≤ length y → length y ≡ 1
    → Consumes a b (take n xs) → Consumes b c (take m y) → (m < length y → IsAtEnd c)
    → TookPast a c xs (record { count = n + m; failed = false })
past_came a b c xs y n m full within fits one before read end =
    let all : take (n + m) xs ≡ take n xs = take_all (n + m) xs (omega arith) ∙ sym (take_all n xs full) in
    let long : length (take n xs) ≡ n = length-take-le n xs within in
    let behind : length (take m y) ≡ m = length-take-le m y fits in
    record {
      in_order = λ e. (
        take m y,
        subst (λ l. Consumes a c (l ++ take m y)) (sym all) (Consumes-trans a b c _ _ before read),
        ap (λ l. length (l ++ take m y)) all ∙ length-append (take n xs) (take m y) ∙ omega (arith, long, behind),
      );
      all_left = λ e h. end (omega arith);
    }
