-- The ways of `pack` and `unpack` through their tests, each with its facts as the code has them. Assumes nothing.
use Rattle.std.specs.Prelude.{◌≡◌, Bool, true, cond, List, ◌++◌, ℕ, ◌+◌, ◌*◌, ◌^◌, ◌≤◌, ◌<◌, get_or, drop}
use Rattle.std.proofs.Math.Path.{refl, sym, ap}
use Rattle.std.proofs.Common.{◌∙◌, mul-le-mul_right, rules}
use Rattle.std.proofs.Math.Bool.{false, not}
use native.Mathlib.Omega.{arith}
use Rattle.std.proofs.Math.ListN.{length}
use Rattle.std.proofs.lemmas.List.{length-map}
use borrow.Author.Tests.{lt-ltb, not-true, not-false}
use Rattle.lists.proofs.Laws.Booleans.{clash}
use Rattle.records.specs.Width.{Width, seven, width_said}
use Rattle.records.specs.Bytes.{body, numbers_in}
use Rattle.records.specs.Fill.{wrote, wrote_on}
use Rattle.records.specs.Outcome.{outcome, applies, passes, gives_first}
use Rattle.records.specs.Sheet.{all_legal, all_good, word_of, with_ends, good_count, good_sheet, bytes_said, sheet_width, width_of, head_of}
use Rattle.records.specs.Sheet.{sheet_of, count_of}
use Rattle.records.specs.Sheet.{words_in, held_by, pack_refusal, unpack_refusal, Packs, Unpacks}
use Rattle.records.proofs.Laws.Sheet.{count_small, GoodSheet, sheet_good, good_sheet_lem, packs_so, unpacks_so}
use Rattle.records.proofs.Laws.Computed.{head_bytes, said_some, bytes_none, bytes_some, Widthed, no_sheet, sheet_widthed}

-- ---- Packing.

-- a test that was answered
told : (answer test : Bool) → answer ≡ test → not answer ≡ false → test ≡ true
told answer test e h = sym e ∙ not-false answer h

pub pack_product : (n : ℕ) {counted : Bool} → counted ≡ good_count n → not counted ≡ false → 7 * n < 2 ^ 64
pack_product n {counted} e h = let few = count_small n (told counted (good_count n) e h) in omega arith

pub pack_sum : (n : ℕ) {counted : Bool} → counted ≡ good_count n → not counted ≡ false → 4 + 7 * n < 2 ^ 64
pack_sum n {counted} e h = let few = count_small n (told counted (good_count n) e h) in omega arith

pub pack_lawful : (rs : List ℕ) {every : Bool} → every ≡ all_legal seven rs → not every ≡ false → all_legal seven rs ≡ true
pack_lawful rs {every} e h = told every (all_legal seven rs) e h

module _ {rs s : List ℕ} {counted : Bool} (count : counted ≡ good_count (length rs)) where
  pub pack_uncounted : not counted ≡ true → Packs rs s (record { number = 15; value = 0 }) s
  unfolding pack_refusal
  pack_uncounted bad =
      let is : pack_refusal seven rs (length s) ≡ 15 = gives_first (applies (ap not (sym count ∙ not-true counted bad))) in
      record { answers = ap (λ (n : ℕ). outcome n (4 + 7 * length rs)) (sym is); holds = refl }

  module _ (fine : not counted ≡ false) where
    module _ {every : Bool} (all : every ≡ all_legal seven rs) where
      pub pack_illegal : not every ≡ true → Packs rs s (record { number = 16; value = 0 }) s
      unfolding pack_refusal
      pack_illegal bad =
          let is : pack_refusal seven rs (length s) ≡ 16 =
          gives_first (passes (ap not (told counted _ count fine)) (applies (ap not (sym all ∙ not-true every bad)))) in
          record { answers = ap (λ (n : ℕ). outcome n (4 + 7 * length rs)) (sym is); holds = refl }

      module _ (lawful : not every ≡ false) where
        pub pack_short : length s < 4 + 7 * length rs → Packs rs s (record { number = 17; value = 0 }) s
        unfolding pack_refusal
        pack_short short =
            let is : pack_refusal seven rs (length s) ≡ 17 =
            gives_first (passes (ap not (told counted _ count fine))
            (passes (ap not (told every _ all lawful)) (applies (lt-ltb _ _ short)))) in
            record { answers = ap (λ (n : ℕ). outcome n (4 + 7 * length rs)) (sym is); holds = refl }

        pub pack_done : {t u : List ℕ} → 4 + 7 * length rs ≤ length s → t ≡ wrote 0 (head_of 7 (length rs)) s
            → u ≡ wrote 4 (body 7 (with_ends seven rs)) t
            → Packs rs s (record { number = 0; value = 4 + 7 * length rs }) u
        unfolding sheet_of
        pack_done fits head rest =
            let is : pack_refusal seven rs (length s) ≡ 0 =
            packs_so seven rs (length s) (record { count = told counted _ count fine; legal = told every _ all lawful; fits = fits }) in
            let four : length (head_of 7 (length rs)) ≡ 4 = ap length (head_bytes (length rs)) in
            record {
              answers = ap (λ (m : ℕ). outcome m (4 + 7 * length rs)) (sym is);
              holds = rest
                  ∙ ap (wrote 4 (body 7 (with_ends seven rs))) head
                  ∙ wrote_on 0 4 (head_of 7 (length rs)) (body 7 (with_ends seven rs)) s (omega arith) (omega arith)
                  ∙ ap (λ (n : ℕ). wrote 0 (head_of 7 n ++ body 7 (with_ends seven rs)) s) (sym (length-map rs (word_of seven)));
            }

pub ruleset packing = (pack_uncounted, pack_product, pack_sum, pack_illegal, pack_lawful, pack_short, pack_done, rules)

-- ---- Unpacking.

-- ---- The bytes per record of a sheet, test by test.

no_width : (s : List ℕ) → (GoodSheet (width_of s).bytes s → ⊥) → 0 ≡ sheet_width s
unfolding sheet_width
no_width s bad = by (good_sheet (width_of s).bytes s) refl
  where
    by : (x : Bool) → good_sheet (width_of s).bytes s ≡ x → 0 ≡ cond x (width_of s).bytes 0
    by true g = absurd (bad (sheet_good (width_of s).bytes s g))
    by false g = refl

module _ (s : List ℕ) where
  pub width_short : length s < 4 → 0 ≡ sheet_width s
  width_short h = no_width s (λ g. let long = g.long in omega arith)

  module _ {b : ℕ} (said : b ≡ bytes_said (get_or s 0 0)) where
    pub width_other : b ≡ 0 → 0 ≡ sheet_width s
    width_other none = no_width s (λ g. bytes_none (get_or s 0 0) b said none g.first)

    module _ (some : b ≡ 0 → ⊥) where
      is : b ≡ (width_of s).bytes
      is = (bytes_some (get_or s 0 0) b said some).1

      module _ {n : ℕ} (count : n ≡ count_of s) {counted : Bool} (good-count : counted ≡ good_count n) where
        pub width_uncounted : not counted ≡ true → 0 ≡ sheet_width s
        width_uncounted bad = no_width s
            (λ g. let e : true ≡ false = sym g.count ∙ ap good_count (sym count) ∙ sym good-count ∙ not-true counted bad in clash (cc))

        module _ (fine : not counted ≡ false) where
          few : b * n ≤ 7 * 1048576
          few =
              let c = count_small n (told counted _ good-count fine) in
              let p : b * n ≤ 7 * n = mul-le-mul_right n (omega (arith, is, said_some (get_or s 0 0))) in
              omega arith

          pub width_product : b * n < 2 ^ 64
          width_product = omega (arith, few)

          pub width_sum : 4 + b * n < 2 ^ 64
          width_sum = omega (arith, few)

          pub width_unlike : (length s ≡ 4 + b * n → ⊥) → 0 ≡ sheet_width s
          width_unlike h = no_width s (λ g. h (g.size ∙ ap (λ (m : ℕ). 4 + (width_of s).bytes * m) (sym count)
              ∙ ap (λ (m : ℕ). 4 + m * n) (sym is)))

          pub width_good : 4 ≤ length s → length s ≡ 4 + b * n → b ≡ sheet_width s
          unfolding sheet_width
          width_good long size =
              let good = good_sheet_lem (width_of s).bytes s (record {
                long = long;
                first = (bytes_some (get_or s 0 0) b said some).0;
                count = ap good_count (sym count) ∙ told counted _ good-count fine;
                size = size ∙ ap (λ (m : ℕ). 4 + m * n) is ∙ ap (λ (m : ℕ). 4 + (width_of s).bytes * m) count;
              }) in is ∙ rw good

pub ruleset measuring = (
  width_short,
  width_other,
  width_uncounted,
  width_product,
  width_sum,
  width_unlike,
  width_good,
  rules,
)

-- what a width other than 0 tells
module _ (s : List ℕ) {b : ℕ} (width : b ≡ sheet_width s) (some : b ≡ 0 → ⊥) where
  told_width : Widthed s b
  told_width = sheet_widthed s b width some

  good : GoodSheet (width_of s).bytes s
  good = sheet_good (width_of s).bytes s told_width.fine

  pub unpack_head : 4 ≤ length s
  unpack_head = good.long

  module _ {n : ℕ} (count : n ≡ count_of s) where
    pub unpack_size : length s ≡ 4 + (width_said b).bytes * n
    unpack_size = good.size ∙ ap (λ (m : ℕ). 4 + (width_of s).bytes * m) (sym count)
        ∙ ap (λ (w : Width). 4 + w.bytes * n) (sym told_width.says)

    -- the words that the code reads are those of the sheet
    words : numbers_in (width_said b).bytes n (drop 4 s) ≡ words_in (width_of s).bytes s
    unfolding words_in
    words = ap (λ (w : Width). numbers_in w.bytes n (drop 4 s)) told_width.says
        ∙ ap (λ (m : ℕ). numbers_in (width_of s).bytes m (drop 4 s)) count

    judged : all_good (width_said b) (numbers_in (width_said b).bytes n (drop 4 s)) ≡ all_good (width_of s) (words_in (width_of s).bytes s)
    judged = ap (λ (w : Width). all_good w (numbers_in (width_said b).bytes n (drop 4 s))) told_width.says
        ∙ ap (all_good (width_of s)) words

    all_good_lem : {every : Bool} → every ≡ all_good (width_said b) (numbers_in (width_said b).bytes n (drop 4 s)) → not every ≡ false
        → all_good (width_of s) (words_in (width_of s).bytes s) ≡ true
    all_good_lem {every} all lawful = sym judged ∙ told every _ all lawful

module _ {s rs : List ℕ} {b : ℕ} (width : b ≡ sheet_width s) where
  pub unpack_bad : b ≡ 0 → Unpacks s rs (record { number = 15; value = 0 }) rs
  unfolding unpack_refusal
  unpack_bad none =
      let is : unpack_refusal (width_of s) s (length rs) ≡ 15 = gives_first (applies (ap not (no_sheet s b width none))) in
      record { answers = ap (λ (m : ℕ). outcome m (count_of s)) (sym is); holds = refl }

  module _ (some : b ≡ 0 → ⊥) {n : ℕ} (count : n ≡ count_of s) where
    module _ {every : Bool} (all : every ≡ all_good (width_said b) (numbers_in (width_said b).bytes n (drop 4 s))) where
      pub unpack_illegal : not every ≡ true → Unpacks s rs (record { number = 16; value = 0 }) rs
      unfolding unpack_refusal
      unpack_illegal bad =
          let wrong : all_good (width_of s) (words_in (width_of s).bytes s) ≡ false =
          sym (judged s width some count) ∙ sym all ∙ not-true every bad in
          let is : unpack_refusal (width_of s) s (length rs) ≡ 16 =
          gives_first (passes (ap not (told_width s width some).fine) (applies (ap not wrong))) in
          record { answers = ap (λ (m : ℕ). outcome m (count_of s)) (sym is); holds = refl }

      module _ (lawful : not every ≡ false) where
        pub unpack_short : length rs < n → Unpacks s rs (record { number = 17; value = 0 }) rs
        unfolding unpack_refusal
        unpack_short short =
            let few : length rs < count_of s = omega arith in
            let is : unpack_refusal (width_of s) s (length rs) ≡ 17 =
            let good = all_good_lem s width some count all lawful in
            gives_first (passes (ap not (told_width s width some).fine) (passes (ap not good) (applies (lt-ltb _ _ few)))) in
            record { answers = ap (λ (m : ℕ). outcome m (count_of s)) (sym is); holds = refl }

        pub unpack_done : {us : List ℕ} → n ≤ length rs
            → us ≡ wrote 0 (held_by seven (width_said b) (numbers_in (width_said b).bytes n (drop 4 s))) rs
            → Unpacks s rs (record { number = 0; value = n }) us
        unpack_done room e =
            let is : unpack_refusal (width_of s) s (length rs) ≡ 0 =
            let words = all_good_lem s width some count all lawful in
            unpacks_so (width_of s) s (length rs) (record { good = good s width some; words = words; fits = omega arith }) in
            record {
              answers = ap (outcome 0) count ∙ ap (λ (m : ℕ). outcome m (count_of s)) (sym is);
              holds = e
                  ∙ ap (λ (w : Width). wrote 0 (held_by seven w (numbers_in (width_said b).bytes n (drop 4 s))) rs)
                  (told_width s width some).says
                  ∙ ap (λ (l : List ℕ). wrote 0 (held_by seven (width_of s) l) rs)
                  (words s width some count);
            }

pub ruleset unpacking = (unpack_bad, unpack_head, unpack_size, unpack_illegal, unpack_short, unpack_done, rules)
