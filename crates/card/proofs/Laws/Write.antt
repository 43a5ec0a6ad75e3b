-- The bytes of a line: a word put down, words in a row, and the line in the slice lent.
use Rattle.std.specs.Prelude.{◌≡◌, List, [], ◌∷◌, ◌++◌, Bool, true, false, ℕ, cond, zero, suc, ◌+◌, ◌*◌, ◌/◌, ◌%◌, ◌^◌, ◌-◌, ◌≤◌, ◌<◌, ltb, leb, length, take, drop, set}
use Rattle.std.proofs.Math.Path.{refl}
use Rattle.std.proofs.Common.{sym, ap, subst, ◌∙◌, append_assoc, append-nil, pow-suc, arith, rules, lt-ltb, ltb-true, ltb-false, le-leb, leb-true, leb-false, length-append, length-take, length-take-le, length-drop, drop_of_length-le, take_all, take_at, drop-drop}
use Rattle.std.proofs.lemmas.Bool.{lt-leb}
use borrow.Rule.Slice.PartMut.{put_mid}
use Rattle.std.specs.Fmt.{decimal}
use Rattle.std.proofs.lemmas.Fmt.{decimal_digit, decimal_step_wide}
use Rattle.io.specs.Digits as io
use Rattle.numbers.proofs.Laws.Cuts.{powers}
use Rattle.grammar.specs.Bytes.{ascii}
use Rattle.grammar.specs.Look.{Word}
use Rattle.records.specs.Fill.{wrote, wrote_on, wrote_one, length_wrote}
use Rattle.card.specs.Written.{in_tens_up_to, in_tens, spaced, words_of, line_bytes, IsPrefixLen, WritesOut, Puts}
use Rattle.cifti.specs.Maps.{kind_word, kind_bytes, kind_bytes_lem}
use Rattle.card.specs.Written.{Spells}
use Rattle.cifti.specs.declared.answer.Kind.{Kind}
use Rattle.card.specs.declared.line.Line.{Line}
use Rattle.card.specs.declared.line.Line.TheVariants as lines
use Rattle.records.specs.declared.counters.Index.{Index}
use Rattle.records.specs.declared.counters.Vertex.{Vertex}
use Rattle.records.specs.declared.counters.Place.{Place}

-- ---- A word, and the byte behind it.

pub put_word : (s w t : List ℕ) (at b k : ℕ) → (length w ≤ 20) × (at + 21 ≤ length s) → k ≡ length w → t ≡ w
    → Puts w b at s (at + length w + 1) (set (put_mid at k s t) (at + length w) b)
put_word s w t at b k h long copied =
    let e : put_mid at k s t ≡ wrote at w s = ap (λ j. put_mid at j s t) long ∙ ap (put_mid at (length w) s) copied
    ∙ ap (λ l. take at s ++ (w ++ l)) (drop-drop (length w) at s) ∙ sym (append_assoc (take at s) w (drop (at + length w) s)) in
    let kept : length (wrote at w s) ≡ length s = length_wrote at w s (omega arith) in
    record {
      behind = omega arith;
      short = omega arith;
      filled = rw e (wrote_one (at + length w) b (wrote at w s) (omega arith)
          ∙ wrote_on at (at + length w) w (b ∷ []) s refl (omega arith));
    }

-- ---- A number: the fewest digits that hold it.

-- what std writes of a number
fewest : (m n : ℕ) → n < 10 ^ 64 → n < 10 ^ suc m → decimal n ≡ in_tens_up_to (suc m) n
unfolding in_tens_up_to
fewest zero n h small = decimal_digit n (omega arith) ∙ (let e : ltb n 10 ≡ true = lt-ltb n 10 (omega arith) in rw e refl)
fewest (suc m) n h small = go (ltb n 10) refl (fewest m (n / 10))
  where
    go : (b : Bool) → ltb n 10 ≡ b → (n / 10 < 10 ^ 64 → n / 10 < 10 ^ suc m → decimal (n / 10) ≡ in_tens_up_to (suc m) (n / 10))
        → decimal n ≡ cond b ((48 + n) ∷ []) (in_tens_up_to (suc m) (n / 10) ++ ((48 + n % 10) ∷ []))
    go true e f = decimal_digit n (ltb-true n 10 e)
    go false e f =
        let many : 10 ≤ n = ltb-false n 10 e in
        let more : 10 ^ suc (suc m) ≡ 10 ^ suc m * 10 = pow-suc 10 (suc m) in
        decimal_step_wide n many h ∙ ap (λ l. l ++ ((48 + n % 10) ∷ [])) (f (omega arith) (omega arith))

pub in_tens_decimal : (n : ℕ) → n < 10 ^ 20 → decimal n ≡ in_tens n
unfolding in_tens
in_tens_decimal n h = fewest 19 n (omega arith) h

pub few_digits : (n k : ℕ) → n < 100000000000000000000 → io.IsDigitCount 10 1 n k → k ≤ 20
few_digits n k small f = go (leb k 20) refl
  where
    go : (b : Bool) → leb k 20 ≡ b → k ≤ 20
    go true e = leb-true k 20 e
    go false e =
        let more : 20 < k = leb-false k 20 e in
        let wide : 10 ^ (k - 1) ≤ n = f.2 (omega arith) in
        let least : 10 ^ 20 ≤ 10 ^ (k - 1) = powers 20 (k - 1) (omega arith) in
        absurd (omega arith)

pub put_number : (n : ℕ) {w : Word} {b at r : ℕ} {s t : List ℕ} → n < 10 ^ 20 → w ≡ decimal n → Puts w b at s r t → Puts (in_tens n) b at s r t
put_number n {w} {b} {at} {r} {s} {t} h e p = subst (λ v. Puts v b at s r t) (e ∙ in_tens_decimal n h) p

-- ---- Words in a row, from the start of a slice that has room.

record Spelling (start bytes : List ℕ) (next : ℕ) (now : List ℕ) : Type 0 where
  pub counted : next ≡ length bytes
  pub filled : now ≡ wrote 0 bytes start

spelling_first : {w s t : List ℕ} {b r : ℕ} → Puts w b 0 s r t → Spelling s (w ++ (b ∷ [])) r t
spelling_first {w} {b = b} p = record { counted = omega (arith, p.behind, length-append w (b ∷ [])); filled = p.filled }

spelling_next : {w u s t x : List ℕ} {b at r : ℕ} → Spelling s u at t → Puts w b at t r x → length u ≤ length s
    → Spelling s (u ++ (w ++ (b ∷ []))) r x
spelling_next {w} {u} {s} {b = b} {at = at} q p h =
    record {
      counted = omega (arith, p.behind, q.counted, length-append w (b ∷ []), length-append u (w ++ (b ∷ [])));
      filled = p.filled ∙ ap (wrote at (w ++ (b ∷ []))) q.filled
          ∙ wrote_on 0 at u (w ++ (b ∷ [])) s (omega (arith, q.counted)) (omega (arith, q.counted));
    }

spelling_done : {u s t : List ℕ} {r : ℕ} (bytes : List ℕ) → u ≡ bytes → Spelling s u r t → r ≤ 128 → Spells bytes r t
spelling_done {u} {s} {t} {r} bytes e q h =
    rw (sym e) (record { counted = q.counted; short = h; are = rw q.filled (take_at u (drop (0 + length u) s) r (sym q.counted)) })

module _ {s : List ℕ} (room : 128 ≤ length s) {u : Word} {s₁ : List ℕ} {n₁ : ℕ} where
  pub one_word : Puts u 10 0 s n₁ s₁ → Spells (spaced (u ∷ [])) n₁ s₁
  unfolding spaced
  one_word p = spelling_done (spaced (u ∷ [])) refl (spelling_first p) (omega (arith, p.behind, p.short))

  module _ (p₁ : Puts u 32 0 s n₁ s₁) {v : Word} {s₂ : List ℕ} {n₂ : ℕ} where
    pub two_words : Puts v 10 n₁ s₁ n₂ s₂ → Spells (spaced (u ∷ v ∷ [])) n₂ s₂
    unfolding spaced
    two_words p₂ =
        let q₁ = spelling_first p₁ in
        let q₂ = spelling_next q₁ p₂ (omega (arith, p₁.behind, p₁.short, q₁.counted)) in
        spelling_done (spaced (u ∷ v ∷ [])) (simp append_assoc) q₂ (omega (arith, p₁.behind, p₁.short, p₂.behind, p₂.short))

    module _ (p₂ : Puts v 32 n₁ s₁ n₂ s₂) {w : Word} {s₃ : List ℕ} {n₃ : ℕ} where
      pub three_words : Puts w 10 n₂ s₂ n₃ s₃ → Spells (spaced (u ∷ v ∷ w ∷ [])) n₃ s₃
      unfolding spaced
      three_words p₃ =
          let l₁ : n₁ ≤ 21 = omega (arith, p₁.behind, p₁.short) in
          let l₂ : n₂ ≤ 42 = omega (arith, p₂.behind, p₂.short) in
          let q₁ = spelling_first p₁ in
          let q₂ = spelling_next q₁ p₂ (omega (arith, q₁.counted)) in
          let q₃ = spelling_next q₂ p₃ (omega (arith, q₂.counted)) in
          spelling_done (spaced (u ∷ v ∷ w ∷ [])) (simp append_assoc) q₃ (omega (arith, p₃.behind, p₃.short))

      module _ (p₃ : Puts w 32 n₂ s₂ n₃ s₃) {x : Word} {s₄ : List ℕ} {n₄ : ℕ} where
        pub four_words : Puts x 10 n₃ s₃ n₄ s₄ → Spells (spaced (u ∷ v ∷ w ∷ x ∷ [])) n₄ s₄
        unfolding spaced
        four_words p₄ =
            let l₁ : n₁ ≤ 21 = omega (arith, p₁.behind, p₁.short) in
            let l₂ : n₂ ≤ 42 = omega (arith, p₂.behind, p₂.short) in
            let l₃ : n₃ ≤ 63 = omega (arith, p₃.behind, p₃.short) in
            let q₁ = spelling_first p₁ in
            let q₂ = spelling_next q₁ p₂ (omega (arith, q₁.counted)) in
            let q₃ = spelling_next q₂ p₃ (omega (arith, q₂.counted)) in
            let q₄ = spelling_next q₃ p₄ (omega (arith, q₃.counted)) in
            spelling_done (spaced (u ∷ v ∷ w ∷ x ∷ [])) (simp append_assoc) q₄ (omega (arith, p₄.behind, p₄.short))

        pub six_words : Puts x 32 n₃ s₃ n₄ s₄ → {y : Word} {s₅ : List ℕ} {n₅ : ℕ} → Puts y 32 n₄ s₄ n₅ s₅
            → {z : Word} {s₆ : List ℕ} {n₆ : ℕ} → Puts z 10 n₅ s₅ n₆ s₆
            → Spells (spaced (u ∷ v ∷ w ∷ x ∷ y ∷ z ∷ [])) n₆ s₆
        unfolding spaced
        six_words p₄ {y} p₅ {z} p₆ =
            let l₁ : n₁ ≤ 21 = omega (arith, p₁.behind, p₁.short) in
            let l₂ : n₂ ≤ 42 = omega (arith, p₂.behind, p₂.short) in
            let l₃ : n₃ ≤ 63 = omega (arith, p₃.behind, p₃.short) in
            let l₄ : n₄ ≤ 84 = omega (arith, p₄.behind, p₄.short) in
            let q₁ = spelling_first p₁ in
            let q₂ = spelling_next q₁ p₂ (omega (arith, q₁.counted)) in
            let q₃ = spelling_next q₂ p₃ (omega (arith, q₂.counted)) in
            let q₄ = spelling_next q₃ p₄ (omega (arith, q₃.counted)) in
            let q₅ = spelling_next q₄ p₅ (omega (arith, q₄.counted)) in
            let q₆ = spelling_next q₅ p₆ (omega (arith, q₅.counted, p₅.behind, p₅.short)) in
            spelling_done (spaced (u ∷ v ∷ w ∷ x ∷ y ∷ z ∷ [])) (simp append_assoc) q₆
            (omega (arith, p₅.behind, p₅.short, p₆.behind, p₆.short))

-- ---- The word of a kind.

module _ (k : Kind) (l : List ℕ) (n : ℕ) (told : (take n l ≡ kind_bytes k) × ((n ≡ length (kind_bytes k)) × (n ≤ 8))) where
  pub kind_part : n ≡ length (take n l)
  kind_part = told.1.0 ∙ ap length (sym told.0)

  pub kind_room : n ≤ length l
  kind_room = omega (arith, kind_part, length-take n l)

pub put_kind : (k : Kind) {w : Word} → w ≡ kind_bytes k → {at r : ℕ} {s t : List ℕ} → Puts w 32 at s r t → Puts (kind_word k) 32 at s r t
put_kind k e p = rw (sym (kind_bytes_lem k), sym e) p

pub ruleset rowSteps = (one_word, two_words, three_words, four_words, six_words, rules)

-- ---- A line, by its kind.

module _ {line : Line} {r : ℕ} {t : List ℕ} where
  pub spell_accepted : line ≡ lines.Accepted → {s : List ℕ} → 128 ≤ length s → Puts (ascii "ok") 10 0 s r t → Spells (line_bytes line) r t
  unfolding line_bytes words_of
  spell_accepted e room p = rw e (one_word room p)

  pub spell_refused : {n : ℕ} → line ≡ lines.Refused n → Spells (spaced (ascii "refused" ∷ in_tens n ∷ [])) r t → Spells (line_bytes line) r t
  unfolding line_bytes words_of
  spell_refused e p = rw e p

  pub spell_map : {d n : ℕ} {k : Kind} → line ≡ lines.Map d k n → Spells (spaced (in_tens d ∷ kind_word k ∷ in_tens n ∷ [])) r t
      → Spells (line_bytes line) r t
  unfolding line_bytes words_of
  spell_map e p = rw e p

  pub spell_map_at : {d n : ℕ} {k : Kind} {at : Place} → line ≡ lines.MapAt d k n at
      → Spells (spaced (in_tens d ∷ kind_word k ∷ in_tens n ∷ in_tens at.0 ∷ [])) r t → Spells (line_bytes line) r t
  unfolding line_bytes words_of
  spell_map_at e p = rw e p

  pub spell_surface : {n : Index} {s : ℕ} {v : Vertex} → line ≡ lines.Surface n s v
      → Spells (spaced (in_tens n.0 ∷ ascii "S" ∷ in_tens s ∷ in_tens v.0 ∷ [])) r t → Spells (line_bytes line) r t
  unfolding line_bytes words_of
  spell_surface e p = rw e p

  pub spell_voxel : {n : Index} {s i j k : ℕ} → line ≡ lines.Voxel n s i j k
      → Spells (spaced (in_tens n.0 ∷ ascii "V" ∷ in_tens s ∷ in_tens i ∷ in_tens j ∷ in_tens k ∷ [])) r t → Spells (line_bytes line) r t
  unfolding line_bytes words_of
  spell_voxel e p = rw e p

pub spell_end : {line : Line} (t : List ℕ) → line ≡ lines.End → Spells (line_bytes line) 0 t
unfolding line_bytes words_of spaced
spell_end t e = rw e (record { counted = refl; short = omega arith; are = refl })

pub ruleset spellSteps = (spell_accepted, spell_refused, spell_map, spell_map_at, spell_surface, spell_voxel, spell_end, rules)

-- ---- The line in the slice lent.

module _ {bytes s : List ℕ} {n : ℕ} (spelled : Spells bytes n s) where
  pub spelled_part : n ≡ length (take n s)
  spelled_part = spelled.counted ∙ ap length (sym spelled.are)

  pub write_short : (out : List ℕ) → length out < n → WritesOut bytes out 0 out
  write_short out h =
      let e : leb (length bytes) (length out) ≡ false = lt-leb (length bytes) (length out) (omega (arith, spelled.counted)) in
      record { counted = rw e refl; filled = rw e refl }

  pub write_all : (out : List ℕ) → n ≤ length out → {t : List ℕ} → t ≡ take n s → WritesOut bytes out n (put_mid 0 n out t)
  write_all out h {t} copied =
      let e : leb (length bytes) (length out) ≡ true = le-leb (length bytes) (length out) (omega (arith, spelled.counted)) in
      let places : n ≡ 0 + length bytes = omega (arith, spelled.counted) in
      record {
        counted = rw e spelled.counted;
        filled = rw e (ap (λ l. l ++ drop n out) (copied ∙ spelled.are) ∙ ap (λ j. bytes ++ drop j out) places);
      }

  pub write_counts : (out : List ℕ) → n ≤ length out → {t : List ℕ} → t ≡ take n s → IsPrefixLen n (put_mid 0 n out t)
  write_counts out h {t} copied =
      let long : length t ≡ n = ap length copied ∙ sym spelled_part in
      let room : n ≤ length (put_mid 0 n out t) = omega (arith, long, length-append t (drop n out)) in
      (room, sym (length-take-le n (put_mid 0 n out t) room))
