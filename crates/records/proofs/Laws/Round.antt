-- Packing and unpacking undo each other, whatever the layout; sheets of five, by location. Assumes nothing.
use Rattle.std.specs.Prelude.{◌≡◌, refl, Bool, true, false, cond, not, List, map, ℕ, ◌+◌, ◌*◌, ◌≤◌, eqb, length, get_or, take, drop}
use Rattle.std.proofs.Common.{sym, ap, ◌∙◌, arith, ne_eqb}
use Rattle.std.proofs.Math.Path.{subst}
use Rattle.std.proofs.Math.ListN.{length-map}
use Rattle.std.proofs.lemmas.Nat.{shl-shr}
use Rattle.records.specs.Width.{Width, five, seven, width_said}
use Rattle.records.specs.Record.{Location, location_in, record_in, legal_in, carried}
use Rattle.records.specs.Bytes.{Below}
use Rattle.records.specs.Fill.{wrote}
use Rattle.records.specs.Outcome.{unless, outcome, applies, gives_first}
use Rattle.records.specs.Sheet.{sheet_of, sheet_from, count_of, words_in, word_of, bare, with_ends, without_ends, all_legal, good_word}
use Rattle.records.specs.Sheet.{all_good}
use Rattle.records.specs.Sheet.{good_count, good_sheet, width_of, pack_refusal, unpack_refusal, packed_into, held_in, unpacked_into}
use Rattle.records.specs.Sheet.{PacksIn, UnpacksIn, Packs, Unpacks}
use Rattle.records.proofs.Laws.Mapped.{all_made, made_back, made_twice}
use Rattle.records.proofs.Laws.Bytes.{length_numbers_in}
use Rattle.records.proofs.Laws.Record.{Sound, five_sound, seven_sound}
use Rattle.records.proofs.Laws.Widths.{Wider, wider_same, seven_wider, carried_same, carried_location, legal_carried, legal_size}
use Rattle.records.proofs.Laws.Sheet.{count_small, GoodSheet, CanPack, CanUnpack, can_pack, packs_so, can_unpack, unpacks_so}
use Rattle.records.proofs.Laws.Sheet.{wrote_front}
use Rattle.records.proofs.Laws.Sheet.{sheet_good, sheet_long, sheet_count, records_back, sheet_made_good, sheet_back}
use Rattle.records.proofs.Laws.Sheet.{word_good, good_legal, word_back, legal_below}
use Rattle.records.specs.declared.outcome.Outcome.{Outcome}

-- ---- Packed, then unpacked.

module _ {w : Width} (ok : Sound w) (rs before after : List ℕ) (a : Outcome) (p : PacksIn w rs before a after) (z : a.number ≡ 0) where
  none : pack_refusal w rs (length before) ≡ 0
  none = sym (ap (λ (x : Outcome). x.number) p.answers) ∙ z

  could : CanPack w rs (length before)
  could = can_pack w rs (length before) none

  many : length (with_ends w rs) ≡ length rs
  many = length-map rs (word_of w)

  long : length (sheet_of w.bytes (with_ends w rs)) ≡ 4 + w.bytes * length rs
  long = sheet_long w.bytes (with_ends w rs) ok.byte ∙ ap (λ (n : ℕ). 4 + w.bytes * n) many

  -- what was written is the sheet of the records
  pub packed_sheet : take a.value after ≡ sheet_of w.bytes (with_ends w rs)
  packed_sheet =
      let size : a.value ≡ 4 + w.bytes * length rs =
      ap (λ (x : Outcome). x.value) p.answers ∙ ap (λ (n : ℕ). unless n (4 + w.bytes * length rs) 0) none in
      ap (take a.value) (p.holds ∙ ap (λ (n : ℕ). packed_into w n rs before) z)
      ∙ wrote_front (sheet_of w.bytes (with_ends w rs)) before a.value (size ∙ sym long)

  pub packed_good : GoodSheet w.bytes (take a.value after)
  packed_good = subst (GoodSheet w.bytes) (sym packed_sheet)
      (sheet_made_good w.bytes (with_ends w rs) ok.byte (ap good_count many ∙ could.count))

  -- Unpacking what was packed gives the records back, wherever there is room for them.
  pub packed_back :
      (places placesAfter : List ℕ) (u : Outcome) → UnpacksIn w w (take a.value after) places u placesAfter
      → length rs ≤ length places → (u ≡ outcome 0 (length rs)) × (placesAfter ≡ wrote 0 rs places)
  packed_back places placesAfter u q room =
      let b : ℕ = w.bytes in
      let few = count_small (length rs) could.count in
      let s = sheet_of b (with_ends w rs) in
      let count : count_of s ≡ length rs = sheet_count b (with_ends w rs) ok.byte (omega (arith, many)) ∙ many in
      let same : words_in b s ≡ with_ends w rs =
      records_back b (with_ends w rs) ok.byte (omega (arith, many)) (legal_below w ok rs could.legal) in
      let back : held_in w w s ≡ rs =
      ap (map (λ (n : ℕ). carried w w (bare w n))) same
      ∙ made_back (legal_in w) (λ (n : ℕ). carried w w (bare w n)) (word_of w)
      (λ (r : ℕ) (e : legal_in w r ≡ true). ap (carried w w) (shl-shr r w.ending) ∙ carried_same ok r e) rs could.legal in
      let can : CanUnpack w s (length places) =
      record {
        good = sheet_made_good b (with_ends w rs) ok.byte (ap good_count many ∙ could.count);
        words = ap (all_good w) same
            ∙ all_made (legal_in w) (good_word w) (word_of w) (λ (r : ℕ) (e : legal_in w r ≡ true). word_good w r ∙ e) rs could.legal;
        fits = omega arith;
      } in
      let accepted : unpack_refusal w (take a.value after) (length places) ≡ 0 =
      ap (λ (l : List ℕ). unpack_refusal w l (length places)) packed_sheet ∙ unpacks_so w s (length places) can in
      let answer : u ≡ outcome 0 (length rs) =
      q.answers
      ∙ ap (λ (n : ℕ). outcome n (count_of (take a.value after))) accepted
      ∙ ap (λ (l : List ℕ). outcome 0 (count_of l)) packed_sheet
      ∙ ap (outcome 0) count in (
        answer,
        q.holds
            ∙ ap (λ (x : Outcome). unpacked_into w w x.number (take a.value after) places) answer
            ∙ ap (λ (l : List ℕ). wrote 0 (held_in w w l) places) packed_sheet
            ∙ ap (λ (l : List ℕ). wrote 0 l places) back,
      )

-- ---- Unpacked: what a sheet of w that unpacks holds, and what came out of it in v.

module _ {v w : Width} (okV : Sound v) (okW : Sound w) (wide : Wider v w) (s places after : List ℕ) (a : Outcome)
    (p : UnpacksIn v w s places a after) (z : a.number ≡ 0) where
  none_refused : unpack_refusal w s (length places) ≡ 0
  none_refused = sym (ap (λ (x : Outcome). x.number) p.answers) ∙ z

  can : CanUnpack w s (length places)
  can = can_unpack w s (length places) none_refused

  pub unpacked_count : a.value ≡ count_of s
  unpacked_count = ap (λ (x : Outcome). x.value) p.answers ∙ ap (λ (n : ℕ). unless n (count_of s) 0) none_refused

  held_long : length (held_in v w s) ≡ count_of s
  unfolding words_in
  held_long = length-map (words_in w.bytes s) (λ (n : ℕ). carried v w (bare w n)) ∙ length_numbers_in w.bytes (count_of s) (drop 4 s)

  came : take a.value after ≡ held_in v w s
  came =
      ap (take a.value) (p.holds ∙ ap (λ (n : ℕ). unpacked_into v w n s places) z)
      ∙ wrote_front (held_in v w s) places a.value (unpacked_count ∙ sym held_long)

  pub unpacked_long : length (take a.value after) ≡ a.value
  unpacked_long = ap length came ∙ held_long ∙ sym unpacked_count

  pub unpacked_counts : good_count (length (take a.value after)) ≡ true
  unpacked_counts = ap good_count (unpacked_long ∙ unpacked_count) ∙ can.good.count

  pub unpacked_size : length s ≡ 4 + w.bytes * a.value
  unpacked_size = can.good.size ∙ ap (λ (n : ℕ). 4 + w.bytes * n) (sym unpacked_count)

  -- all that came out is legal
  pub unpacked_legal : all_legal v (take a.value after) ≡ true
  unpacked_legal =
      ap (all_legal v) came
      ∙ all_made (good_word w) (legal_in v) (λ (n : ℕ). carried v w (bare w n))
      (λ (n : ℕ) (e : good_word w n ≡ true).
      legal_carried okV okW wide (bare w n) (legal_size w (bare w n) (good_legal w n e)) ∙ good_legal w n e)
      (words_in w.bytes s) can.words

  -- the locations of what came out are those of the sheet, in their order
  pub unpacked_locations : map (location_in v) (take a.value after) ≡ map (location_in w) (without_ends w (words_in w.bytes s))
  unpacked_locations =
      ap (map (location_in v)) came
      ∙ made_twice (location_in v) (λ (n : ℕ). carried v w (bare w n)) (λ (n : ℕ). location_in w (bare w n))
      (λ (n : ℕ). carried_location okV okW wide (bare w n)) (words_in w.bytes s)
      ∙ sym (made_twice (location_in w) (bare w) (λ (n : ℕ). location_in w (bare w n)) (λ (n : ℕ). refl) (words_in w.bytes s))

  -- and the sheet of these locations is the same bytes
  pub unpacked_again : Below 256 s → sheet_from w (map (location_in v) (take a.value after)) ≡ s
  unpacked_again b =
      let word : Location → ℕ = λ (l : Location). word_of w (record_in w l) in
      ap (sheet_from w) unpacked_locations
      ∙ ap (λ (l : List ℕ). sheet_of w.bytes l) (ap (map word)
      (made_twice (location_in w) (bare w) (λ (n : ℕ). location_in w (bare w n)) (λ (n : ℕ). refl) (words_in w.bytes s))
      ∙ made_back (good_word w) word (λ (n : ℕ). location_in w (bare w n))
      (λ (n : ℕ) (e : good_word w n ≡ true). ap (word_of w) (carried_same okW (bare w n) (good_legal w n e)) ∙ word_back w n e)
      (words_in w.bytes s) can.words)
      ∙ sheet_back w.bytes s b can.good

-- ---- Of `pack` and `unpack`.

-- the layout that a good sheet says
said_seven : (s : List ℕ) → GoodSheet 7 s → width_of s ≡ seven
unfolding width_said
said_seven s g = ap width_said g.first

-- a sheet that says neither 5 nor 7 is none
pub says_neither : (s : List ℕ) (room : ℕ) → (get_or s 0 0 ≡ 5 → ⊥) → (get_or s 0 0 ≡ 7 → ⊥) → unpack_refusal (width_of s) s room ≡ 15
unfolding width_said unpack_refusal
says_neither s room h k =
    let is : width_of s ≡ seven = rw (ne_eqb (get_or s 0 0) 5 h) in
    ap (λ (w : Width). unpack_refusal w s room) is ∙ gives_first (applies (ap not (not_good s k)))
  where
    not_good : (s : List ℕ) → (get_or s 0 0 ≡ 7 → ⊥) → good_sheet 7 s ≡ false
    not_good s k = by (good_sheet 7 s) refl
      where
        by : (b : Bool) → good_sheet 7 s ≡ b → good_sheet 7 s ≡ false
        by true e = absurd (k (sheet_good 7 s e).first)
        by false e = e

-- either layout is sound, and no wider than seven
said_either : (P : Width → Type 0) → P five → P seven → (b : ℕ) → P (width_said b)
unfolding width_said
said_either P f t b = by (eqb b 5)
  where
    by : (x : Bool) → P (cond x five seven)
    by true = f
    by false = t

pub said_sound : (b : ℕ) → Sound (width_said b)
said_sound = said_either Sound five_sound seven_sound

pub said_wider : (b : ℕ) → Wider seven (width_said b)
said_wider = said_either (Wider seven) seven_wider (wider_same seven)

-- Unpacking what was packed gives the records back, wherever there is room for them.
pub packed_unpacks :
    (rs before after places placesAfter : List ℕ) (a u : Outcome) → Packs rs before a after → a.number ≡ 0
    → Unpacks (take a.value after) places u placesAfter
    → length rs ≤ length places → (u ≡ outcome 0 (length rs)) × (placesAfter ≡ wrote 0 rs places)
packed_unpacks rs before after places placesAfter a u p z q =
    let s = take a.value after in
    packed_back seven_sound rs before after a p z places placesAfter u
    (subst (λ (w : Width). UnpacksIn seven w s places u placesAfter) (said_seven s (packed_good seven_sound rs before after a p z)) q)

-- Unpack a sheet, of five or of seven, pack what came out, unpack that: the same records.
pub five_then_seven :
    (s places after bytes bytesAfter others othersAfter : List ℕ) (a o u : Outcome) → Unpacks s places a after → a.number ≡ 0
    → Packs (take a.value after) bytes o bytesAfter → 4 + 7 * a.value ≤ length bytes
    → Unpacks (take o.value bytesAfter) others u othersAfter → a.value ≤ length others
    → (u ≡ outcome 0 a.value) × (othersAfter ≡ wrote 0 (take a.value after) others)
five_then_seven s places after bytes bytesAfter others othersAfter a o u p z q room t free =
    let b = get_or s 0 0 in
    let rs = take a.value after in
    let ok = said_sound b in
    let wide = said_wider b in
    let long = unpacked_long seven_sound ok wide s places after a p z in
    let so : CanPack seven rs (length bytes) =
    record {
      count = unpacked_counts seven_sound ok wide s places after a p z;
      legal = unpacked_legal seven_sound ok wide s places after a p z;
      fits = rw long room;
    } in
    let done : o.number ≡ 0 = ap (λ (x : Outcome). x.number) q.answers ∙ packs_so seven rs (length bytes) so in
    let e = packed_unpacks rs bytes bytesAfter others othersAfter o u q done t (rw long free) in
    (e.0 ∙ ap (outcome 0) long, e.1)

-- ---- Sheets of seven.

module _ (s places after : List ℕ) (a : Outcome) (p : Unpacks s places a after) (z : a.number ≡ 0) (says : get_or s 0 0 ≡ 7)
    (bytes : Below 256 s) where
  in_seven : UnpacksIn seven seven s places a after
  unfolding width_said
  in_seven = subst (λ (w : Width). UnpacksIn seven w s places a after) (ap width_said says) p

  -- Every sheet of seven that unpacks is, all bytes of it, the sheet of what came out.
  pub unpacked_sheet : (sheet_of 7 (with_ends seven (take a.value after)) ≡ s) × (length s ≡ 4 + 7 * a.value)
  unpacked_sheet = (
    ap (sheet_of 7) (words ∙ made)
        ∙ unpacked_again seven_sound seven_sound (wider_same seven) s places after a in_seven z bytes,
    unpacked_size seven_sound seven_sound (wider_same seven) s places after a in_seven z,
  )
    where
      rs : List ℕ
      rs = take a.value after

      legal : all_legal seven rs ≡ true
      legal = unpacked_legal seven_sound seven_sound (wider_same seven) s places after a in_seven z

      words : with_ends seven rs ≡ map (word_of seven) (map (record_in seven) (map (location_in seven) rs))
      words = ap (map (word_of seven)) (sym (made_back (legal_in seven) (record_in seven) (location_in seven)
          (λ (r : ℕ) (e : legal_in seven r ≡ true). carried_same seven_sound r e) rs legal))

      made : map (word_of seven) (map (record_in seven) (map (location_in seven) rs))
          ≡ map (λ (l : Location). word_of seven (record_in seven l)) (map (location_in seven) rs)
      made = made_twice (word_of seven) (record_in seven) (λ (l : Location). word_of seven (record_in seven l)) (λ (l : Location). refl)
          (map (location_in seven) rs)

  -- So packing what came out gives the sheet again.
  pub unpacked_packs : (lent lentAfter : List ℕ) (o : Outcome) → Packs (take a.value after) lent o lentAfter
      → length s ≤ length lent
      → (o ≡ outcome 0 (length s)) × (lentAfter ≡ wrote 0 s lent)
  unpacked_packs lent lentAfter o q room =
      let rs = take a.value after in
      let long = unpacked_long seven_sound seven_sound (wider_same seven) s places after a in_seven z in
      let size : 4 + 7 * length rs ≡ length s = ap (λ (n : ℕ). 4 + 7 * n) long ∙ sym unpacked_sheet.1 in
      let so : CanPack seven rs (length lent) =
      record {
        count = unpacked_counts seven_sound seven_sound (wider_same seven) s places after a in_seven z;
        legal = unpacked_legal seven_sound seven_sound (wider_same seven) s places after a in_seven z;
        fits = rw size room;
      } in
      let answer : o ≡ outcome 0 (length s) =
      q.answers ∙ ap (λ (n : ℕ). outcome n (4 + 7 * length rs)) (packs_so seven rs (length lent) so) ∙ ap (outcome 0) size in (
        answer,
        q.holds
            ∙ ap (λ (x : Outcome). packed_into seven x.number rs lent) answer
            ∙ ap (λ (l : List ℕ). wrote 0 l lent) unpacked_sheet.0,
      )

-- ---- Sheets of five.

-- What came out of a sheet of five has its locations in their order, and the sheet of five of these is the same bytes.
pub unpacked_five :
    (s places after : List ℕ) (a : Outcome) → Unpacks s places a after → a.number ≡ 0 → get_or s 0 0 ≡ 5 → Below 256 s
    → (map (location_in seven) (take a.value after) ≡ map (location_in five) (without_ends five (words_in 5 s)))
    × (sheet_from five (map (location_in seven) (take a.value after)) ≡ s)
unfolding width_said
unpacked_five s places after a p z says bytes =
    let q = subst (λ (w : Width). UnpacksIn seven w s places a after) (ap width_said says) p in (
      unpacked_locations seven_sound five_sound seven_wider s places after a q z,
      unpacked_again seven_sound five_sound seven_wider s places after a q z bytes,
    )
