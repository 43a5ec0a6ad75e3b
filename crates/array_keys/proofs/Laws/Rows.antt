-- Keys many at a time: one lemma for each way of the code.
use Rattle.std.specs.Prelude.{◌≡◌, Bool, ◌||◌, not, List, [], ◌∷◌, ◌++◌, ℕ, suc, ◌+◌, ◌*◌, ◌-◌, ◌/◌, ◌%◌, ◌^◌, ◌<◌, ◌≤◌, leb, ℤ, take, drop, set}
use Rattle.std.proofs.Math.Path.{refl, ap, subst}
use Rattle.std.proofs.Common.{sym, ◌∙◌, append_assoc, append-nil, length-set, take-append-drop, take-suc-set, drop-set-lt, drop-drop, SFits, to_z, of_z, rules, le-leb, leb-true, leb-false}
use Rattle.std.proofs.Math.Bool.{true, false}
use native.Mathlib.Omega.{arith}
use Rattle.std.proofs.Math.ListN.{length}
use Rattle.std.proofs.Math.Seq.{append_snoc}
use mir.Syntax.{w32}
use mir.ValLaws.{to_z-of_z}
use Rattle.std.proofs.lemmas.Bool.{lt-leb, not-true, not-false}
use Rattle.lists.proofs.Laws.Booleans.{or_left, or_right, both_ways}
use Rattle.nodes.specs.Texts.{left}
use Rattle.base64_text.specs.Fours.{big, little, keys_in}
use Rattle.base64_reader.specs.Groups.{low_bytes, QuickGroup}
use Rattle.array_keys.specs.Ahead.{held_bytes, bytes_from, coded_ahead, keys_ahead, spare_bytes, keys_left, encoding_if, KeyTold}
use Rattle.array_keys.specs.Gathered.{kept_bytes, BytesGathered, key_by}
use Rattle.array_keys.specs.Rows.{RowTold, Run, bare_at, FourBits, with_three, ThreeTold}
use Rattle.array_keys.proofs.Laws.Ahead.{Handed, key_law, end_law}
use Rattle.array_keys.proofs.Laws.Gathered.{gather_start, gather_quick, gather_done, next_key}
use Rattle.array_keys.specs.declared.Encoding.{Encoding}
use Rattle.array_keys.specs.declared.Encoding.TheVariants.{Big, Little}
use Rattle.array_keys.specs.declared.KeyPlace.{KeyPlace}
use Rattle.array_keys.specs.declared.NextKey.{NextKey}
use Rattle.array_keys.specs.declared.NextKey.TheVariants.{Key, End}

-- ---- Room.

module _ (at more long : ℕ) where
  pub fits_short : long < more → false ≡ leb (at + more) long
  fits_short h = sym (lt-leb (at + more) long (omega arith))

  pub fits_long : more ≤ long → leb at (long - more) ≡ leb (at + more) long
  fits_long h = go (leb at (long - more)) refl
    where
      go : (t : Bool) → leb at (long - more) ≡ t → t ≡ leb (at + more) long
      go true e = let k = leb-true at (long - more) e in sym (le-leb (at + more) long (omega arith))
      go false e = let k = leb-false at (long - more) e in sym (lt-leb (at + more) long (omega arith))

pub ruleset rooming = (fits_short, fits_long, rules)

-- ---- From one place to another.

-- what lies past a place lies past a later one
past_later : (t s : List ℤ) (m k : ℕ) → m ≤ k → drop m t ≡ drop m s → drop k t ≡ drop k s
past_later t s m k h e =
    let z : m + (k - m) ≡ k = omega arith in
    subst (λ (i : ℕ). drop i t ≡ drop i s) z (sym (drop-drop (k - m) m t) ∙ ap (drop (k - m)) e ∙ drop-drop (k - m) m s)

module _ {encoding : Encoding} {text : List ℕ} where
  pub run_start : (p : KeyPlace) (n : ℕ) (s : List ℤ) → Run encoding text p n s p n s
  run_start p n s = record {
    got = [];
    further = omega arith;
    within = λ h. h;
    long = refl;
    front = sym (append-nil (take n s));
    past = refl;
    keys = refl;
    spare = refl;
    fewer = omega arith;
  }

  module _ {p : KeyPlace} {n : ℕ} {s : List ℤ} {q : KeyPlace} {m : ℕ} {t : List ℤ} (go : Run encoding text p n s q m t) where
    run_on : {q₁ : KeyPlace} {k : ℕ} {u : List ℤ} → Run encoding text q m t q₁ k u → Run encoding text p n s q₁ k u
    run_on {q₁} {k} {u} on =
        let l = go.long in
        let w = go.within in
        let v = on.within in
        record {
          got = go.got ++ on.got;
          further = omega (arith, go.further, on.further);
          within = λ h. rw l at (v (rw (sym l) at (w h)));
          long = on.long ∙ go.long;
          front = on.front ∙ ap (λ x. x ++ on.got) go.front ∙ append_assoc (take n s) go.got on.got;
          past = on.past ∙ past_later t s m k on.further go.past;
          keys = go.keys ∙ ap (λ x. go.got ++ x) on.keys ∙ sym (append_assoc go.got on.got (keys_ahead encoding text q₁));
          spare = go.spare ∙ on.spare;
          fewer = omega (arith, go.fewer, on.fewer);
        }

    run_more : {z : ℤ} {q₁ : KeyPlace} → Handed encoding text q z q₁ → m < length t → Run encoding text p n s q₁ (m + 1) (set t m z)
    run_more {z} {q₁} h i =
        let e : suc m ≡ m + 1 = omega arith in
        let l = go.long in
        let lt : m < m + 1 = omega arith in
        let le : m ≤ m + 1 = omega arith in
        record {
          got = go.got ++ (z ∷ []);
          further = omega (arith, go.further);
          within = λ _. omega arith;
          long = length-set t m z ∙ go.long;
          front = ap (λ k. take k (set t m z)) (sym e) ∙ take-suc-set t m z i ∙ ap (λ x. x ++ (z ∷ [])) go.front
              ∙ append_assoc (take n s) go.got (z ∷ []);
          past = drop-set-lt (m + 1) t m z lt ∙ past_later t s m (m + 1) le go.past;
          keys = go.keys ∙ ap (λ x. go.got ++ x) h.splits ∙ sym (append_snoc go.got z (keys_ahead encoding text q₁));
          spare = go.spare ∙ h.spare;
          fewer = omega (arith, go.fewer, h.less);
        }

-- ---- Sixteen plain letters, as key by key: so many bytes are held before each.

module _ (t : Bool) {text : List ℕ} where
  handed : {p q : KeyPlace} {z : ℤ} → KeyTold (encoding_if t) text p (Key z q) → Handed (encoding_if t) text p z q
  handed k = key_law k refl

  hand_none : {i a b : ℕ} → QuickGroup text i a → a < 16777216 → QuickGroup text (i + 4) b → b < 16777216
      → Handed (encoding_if t) text (bare_at i) (key_by t (a * 256 + b / 65536))
      (record { at = i + 4 + 4; held = a * 16777216 + b; bytes = 2 })
  unfolding kept_bytes
  hand_none {i} {a} {b} ka ha kb hb =
      let from : KeyPlace = record { at = i; held = 0; bytes = 0 } in
      let none_held : 0 < 4 = omega arith in
      let three_held : 3 < 4 = omega arith in
      let six_held : 4 ≤ 6 = omega arith in
      let one = gather_quick (gather_start {text = text} from {at = i} {held = 0} {n = 0} refl) none_held ka ha in
      let two = gather_quick one three_held kb hb in
      let e : (0 % 16777216 * 16777216 + a) % 16777216 * 16777216 + b ≡ a * 16777216 + b = omega arith in
      let g : BytesGathered text from (record { at = i + 4 + 4; held = a * 16777216 + b; bytes = 6 })
      = subst (λ (h : ℕ). BytesGathered text from (record { at = i + 4 + 4; held = h; bytes = 6 })) e
      (gather_done two from refl refl refl six_held refl) in
      let n : a * 256 + b / 65536 ≡ (a * 16777216 + b) / 256 ^ 2 % 4294967296 = omega arith in
      handed (next_key g six_held n t refl refl)

  hand_two : {i h c : ℕ} → QuickGroup text i c → c < 16777216
      → Handed (encoding_if t) text (record { at = i; held = h; bytes = 2 }) (key_by t (h % 65536 * 65536 + c / 256))
      (record { at = i + 4; held = h % 16777216 * 16777216 + c; bytes = 1 })
  unfolding kept_bytes
  hand_two {i} {h} {c} kc hc =
      let from : KeyPlace = record { at = i; held = h; bytes = 2 } in
      let two_held : 2 < 4 = omega arith in
      let five_held : 4 ≤ 5 = omega arith in
      let one = gather_quick (gather_start {text = text} from {at = i} {held = h} {n = 2} refl) two_held kc hc in
      let g : BytesGathered text from (record { at = i + 4; held = h % 16777216 * 16777216 + c; bytes = 5 })
      = gather_done one from refl refl refl five_held refl in
      let n : h % 65536 * 65536 + c / 256 ≡ (h % 16777216 * 16777216 + c) / 256 ^ 1 % 4294967296 = omega arith in
      handed (next_key g five_held n t refl refl)

  hand_one : {i h d : ℕ} → QuickGroup text i d → d < 16777216
      → Handed (encoding_if t) text (record { at = i; held = h; bytes = 1 }) (key_by t (h % 256 * 16777216 + d))
      (record { at = i + 4; held = h % 16777216 * 16777216 + d; bytes = 0 })
  unfolding kept_bytes
  hand_one {i} {h} {d} kd hd =
      let from : KeyPlace = record { at = i; held = h; bytes = 1 } in
      let one_held : 1 < 4 = omega arith in
      let four_held : 4 ≤ 4 = omega arith in
      let one = gather_quick (gather_start {text = text} from {at = i} {held = h} {n = 1} refl) one_held kd hd in
      let g : BytesGathered text from (record { at = i + 4; held = h % 16777216 * 16777216 + d; bytes = 4 })
      = gather_done one from refl refl refl four_held refl in
      let n : h % 256 * 16777216 + d ≡ (h % 16777216 * 16777216 + d) / 256 ^ 0 % 4294967296 = omega arith in
      handed (next_key g four_held n t refl refl)

-- where no byte is held, the number of those held says nothing
bare_behind : (t : Bool) {text : List ℕ} {p : KeyPlace} {z : ℤ} {i h : ℕ}
    → Handed (encoding_if t) text p z (record { at = i; held = h; bytes = 0 }) → Handed (encoding_if t) text p z (bare_at i)
unfolding encoding_if keys_ahead spare_bytes coded_ahead bytes_from held_bytes low_bytes keys_left
bare_behind true k = record { splits = k.splits; spare = k.spare; less = k.less }
bare_behind false k = record { splits = k.splits; spare = k.spare; less = k.less }

-- the places of the second and the third
module _ (n : ℕ) (s : List ℤ) (h : n + 3 ≤ length s) (x y : ℤ) where
  pub three_second : n + 1 < length (set s n x)
  three_second = let l = length-set s n x in omega arith

  pub three_third : n + 2 < length (set (set s n x) (n + 1) y)
  three_third = let l = length-set s n x in let k = length-set (set s n x) (n + 1) y in omega arith

module _ (t : Bool) {text : List ℕ} {i a b c d : ℕ} (f : FourBits a b c d) (ka : QuickGroup text i a) (kb : QuickGroup text (i + 4) b)
    (kc : QuickGroup text (i + 8) c) (kd : QuickGroup text (i + 12) d) where
  third_there : QuickGroup text (i + 4 + 4) c
  third_there = let e : i + 8 ≡ i + 4 + 4 = omega arith in subst (λ (k : ℕ). QuickGroup text k c) e kc

  fourth_there : QuickGroup text (i + 4 + 4 + 4) d
  fourth_there = let e : i + 12 ≡ i + 4 + 4 + 4 = omega arith in subst (λ (k : ℕ). QuickGroup text k d) e kd

  held₁ : ℕ
  held₁ = a * 16777216 + b

  held₂ : ℕ
  unfolding held₁
  held₂ = held₁ % 16777216 * 16777216 + c

  first_key : Handed (encoding_if t) text (bare_at i) (key_by t (a * 256 + b / 65536)) (record { at = i + 4 + 4; held = held₁; bytes = 2 })
  unfolding held₁
  first_key = hand_none t ka f.first kb f.second

  second_key : Handed (encoding_if t) text (record { at = i + 4 + 4; held = held₁; bytes = 2 }) (key_by t (b % 65536 * 65536 + c / 256))
      (record { at = i + 4 + 4 + 4; held = held₂; bytes = 1 })
  unfolding held₁ held₂
  second_key =
      let e : (a * 16777216 + b) % 65536 ≡ b % 65536 = omega arith in
      rw e at (hand_two t {h = a * 16777216 + b} third_there f.third)

  third_key : Handed (encoding_if t) text (record { at = i + 4 + 4 + 4; held = held₂; bytes = 1 }) (key_by t (c % 256 * 16777216 + d))
      (bare_at (i + 16))
  unfolding held₁ held₂
  third_key =
      let e : ((a * 16777216 + b) % 16777216 * 16777216 + c) % 256 ≡ c % 256 = omega arith in
      let j : i + 4 + 4 + 4 + 4 ≡ i + 16 = omega arith in
      rw j at (bare_behind t (rw e at (hand_one t {h = (a * 16777216 + b) % 16777216 * 16777216 + c} fourth_there f.fourth)))

  three_run : {n : ℕ} {s : List ℤ} → n + 3 ≤ length s
      → Run (encoding_if t) text (bare_at i) n s (bare_at (i + 16)) (n + 3) (with_three t a b c d n s)
  unfolding with_three
  three_run {n} {s} h =
      let x = key_by t (a * 256 + b / 65536) in
      let y = key_by t (b % 65536 * 65536 + c / 256) in
      let i₀ : n < length s = omega arith in
      let one = run_more (run_start (bare_at i) n s) first_key i₀ in
      let two = run_more one second_key (three_second n s h x y) in
      let e : n + 1 + 1 ≡ n + 2 = omega arith in
      let k : n + 2 + 1 ≡ n + 3 = omega arith in
      rw k at (run_more (rw e at two) third_key (three_third n s h x y))

-- ---- The code that writes three.

module _ {a b c d : ℕ} (f : FourBits a b c d) where
  pub three_0 : a * 256 + b / 65536 < 4294967296
  three_0 = omega (arith, f.first, f.second)

  pub three_1 : b % 65536 * 65536 + c / 256 < 4294967296
  three_1 = omega (arith, f.second, f.third)

  pub three_2 : c % 256 * 16777216 + d < 4294967296
  three_2 = omega (arith, f.third, f.fourth)

  module _ (t : Bool) (n : ℕ) (s : List ℤ) {x y z : ℤ} where
    pub three_wrote : SFits w32 x → x ≡ key_by t (a * 256 + b / 65536) → SFits w32 y → y ≡ key_by t (b % 65536 * 65536 + c / 256)
        → SFits w32 z → z ≡ key_by t (c % 256 * 16777216 + d)
        → set (set (set s n (to_z w32 (of_z w32 x))) (n + 1) (to_z w32 (of_z w32 y))) (n + 2) (to_z w32 (of_z w32 z)) ≡ with_three t a b c d n s
    unfolding with_three
    three_wrote fx ex fy ey fz ez =
        rw (to_z-of_z w32 x fx, to_z-of_z w32 y fy, to_z-of_z w32 z fz, ex, ey, ez) refl

pub ruleset threes = (three_0, three_1, three_2, three_wrote, three_second, three_third, rules)

-- ---- The code that reads sixteen letters.

module _ (i more long : ℕ) {r : Bool} (e : r ≡ leb (i + more) long) where
  pub room_there : r ≡ true → i + more ≤ long
  room_there h = leb-true (i + more) long (sym e ∙ h)

  pub room_left : not r ≡ false → i + more ≤ long
  room_left h = room_there (not-false r h)

pub four_bits_lem : {a b c d : ℕ} → (leb 16777216 a || (leb 16777216 b || (leb 16777216 c || leb 16777216 d))) ≡ false → FourBits a b c d
four_bits_lem {a} {b} {c} {d} h =
    let h₁ = or_right (leb 16777216 a) (leb 16777216 b || (leb 16777216 c || leb 16777216 d)) h in
    let h₂ = or_right (leb 16777216 b) (leb 16777216 c || leb 16777216 d) h₁ in
    record {
      first = leb-false 16777216 a (or_left (leb 16777216 a) (leb 16777216 b || (leb 16777216 c || leb 16777216 d)) h);
      second = leb-false 16777216 b (or_left (leb 16777216 b) (leb 16777216 c || leb 16777216 d) h₁);
      third = leb-false 16777216 c (or_left (leb 16777216 c) (leb 16777216 d) h₂);
      fourth = leb-false 16777216 d (or_right (leb 16777216 c) (leb 16777216 d) h₂);
    }

pub three_none : (t : Bool) (text : List ℕ) (i n : ℕ) (s : List ℤ) → ThreeTold t text i n s false s
three_none t text i n s = record { inside = λ h. both_ways h refl; run = λ h. both_ways h refl; none = λ _. refl }

module _ (t : Bool) {text : List ℕ} {i n : ℕ} {s : List ℤ} {a b c d : ℕ} (ka : QuickGroup text i a) (kb : QuickGroup text (i + 4) b)
    (kc : QuickGroup text (i + 8) c) (kd : QuickGroup text (i + 12) d) where
  pub three_some : (leb 16777216 a || (leb 16777216 b || (leb 16777216 c || leb 16777216 d))) ≡ false → n + 3 ≤ length s → {s₁ : List ℤ}
      → s₁ ≡ with_three t a b c d n s → ThreeTold t text i n s true s₁
  three_some h r e =
      let f : FourBits a b c d = four_bits_lem h in
      let l : i + 12 + 4 ≤ length text = kd.inside f.fourth in
      record { inside = λ _. omega arith; run = λ _. rw e (three_run t f ka kb kc kd r); none = λ k. both_ways refl k }

pub ruleset sixteen = (room_left, four_bits_lem, three_none, three_some, rules)

-- ---- The loop over them.

module _ (t : Bool) {text : List ℕ} {from first : ℕ} {s₀ : List ℤ} where
  pub quick_start : Run (encoding_if t) text (bare_at from) first s₀ (bare_at from) first s₀
  quick_start = run_start (bare_at from) first s₀

  module _ {at n : ℕ} {s : List ℤ} (go : Run (encoding_if t) text (bare_at from) first s₀ (bare_at at) n s) where
    pub quick_full : {p : KeyPlace} → p ≡ record { at = at; held = 0; bytes = 0 } → Run (encoding_if t) text (bare_at from) first s₀ p n s
    quick_full e = rw e go

    module _ {r : Bool} {s₁ : List ℤ} (k : ThreeTold t text at n s r s₁) where
      pub quick_stop : r ≡ false → {p : KeyPlace} → p ≡ record { at = at; held = 0; bytes = 0 }
          → Run (encoding_if t) text (bare_at from) first s₀ p n s₁
      quick_stop h e = rw (e, k.none h) go

      pub quick_more : r ≡ true → Run (encoding_if t) text (bare_at from) first s₀ (bare_at (at + 16)) (n + 3) s₁
      quick_more h = run_on go (k.run h)

module _ {t : Bool} {text : List ℕ} {at n : ℕ} {s s₁ : List ℤ} {r : Bool} (k : ThreeTold t text at n s r s₁) (h : r ≡ true) where
  pub quick_inside : at + 16 ≤ length text
  quick_inside = k.inside h

  pub quick_less : left text (at + 16) < left text at
  unfolding keys_left
  quick_less = omega (arith, (k.run h).fewer)

pub ruleset quickening = (room_there, quick_start, quick_full, quick_stop, quick_more, quick_less, rules)

-- ---- In whatever encoding.

module _ (text : List ℕ) (p : KeyPlace) (e : p.bytes ≡ 0) where
  bytes_same : bytes_from text p ≡ bytes_from text (bare_at p.at)
  unfolding bytes_from held_bytes low_bytes
  bytes_same = rw e refl

  keys_same : (t : Bool) → keys_ahead (encoding_if t) text p ≡ keys_ahead (encoding_if t) text (bare_at p.at)
  unfolding keys_ahead encoding_if coded_ahead
  keys_same true = ap (keys_in little) bytes_same
  keys_same false = ap (keys_in big) bytes_same

  spare_same : (t : Bool) → spare_bytes (encoding_if t) text p ≡ spare_bytes (encoding_if t) text (bare_at p.at)
  unfolding spare_bytes encoding_if
  spare_same true = ap (λ l. length l % 4) bytes_same
  spare_same false = ap (λ l. length l % 4) bytes_same

module _ {text : List ℕ} {encoding : Encoding} {from : KeyPlace} {first : ℕ} {s : List ℤ} where
  pub run_none : Run encoding text from first s from first s
  run_none = run_start from first s

module _ {text : List ℕ} {from : KeyPlace} {first : ℕ} {s : List ℤ} (e : from.bytes ≡ 0) {q : KeyPlace} {m : ℕ} {s₁ : List ℤ} where
  run_bare : (t : Bool) → Run (encoding_if t) text (bare_at from.at) first s q m s₁ → Run (encoding_if t) text from first s q m s₁
  unfolding keys_left
  run_bare t go = record {
    got = go.got;
    further = go.further;
    within = go.within;
    long = go.long;
    front = go.front;
    past = go.past;
    keys = keys_same text from e t ∙ go.keys;
    spare = spare_same text from e t ∙ go.spare;
    fewer = go.fewer;
  }

  module _ {encoding : Encoding} where
    pub run_big : encoding ≡ Big → Run (encoding_if false) text (bare_at from.at) first s q m s₁ → Run encoding text from first s q m s₁
    unfolding encoding_if
    run_big h go = rw h (run_bare false go)

    pub run_little : encoding ≡ Little → Run (encoding_if true) text (bare_at from.at) first s q m s₁
        → Run encoding text from first s q m s₁
    unfolding encoding_if
    run_little h go = rw h (run_bare true go)

pub ruleset running = (run_none, run_big, run_little, rules)

-- ---- All keys, as many as there is room for.

row_of : {encoding : Encoding} {text : List ℕ} {from : KeyPlace} {s₀ : List ℤ} {here : KeyPlace} {n : ℕ} {s : List ℤ}
    → Run encoding text from 0 s₀ here n s → {m : ℕ}
    → (n < length s₀ → (keys_ahead encoding text here ≡ []) × (m ≡ spare_bytes encoding text here))
    → RowTold encoding text from s₀ (record { count = n; next = here; spare = m }) s
row_of {s₀ = s₀} {n = n} {s = s} go over =
    let f : take n s ≡ go.got = go.front in
    let z : 0 ≤ length s₀ = omega arith in
    record {
      within = go.within z;
      past = sym (take-append-drop n s) ∙ ap (λ l. take n s ++ l) go.past;
      keys = rw f go.keys;
      spare = go.spare;
      fewer = omega (arith, go.fewer);
      ended = over;
    }

module _ {encoding : Encoding} {text : List ℕ} {from : KeyPlace} {s₀ : List ℤ} {here : KeyPlace} {n : ℕ} {s : List ℤ}
    (go : Run encoding text from 0 s₀ here n s) where
  module _ {next : KeyPlace} {m : ℕ} {s₁ : List ℤ} (on : Run encoding text here n s next m s₁) where
    long_so : length s₁ ≡ length s₀
    long_so = on.long ∙ go.long

    pub fill_full : length s₁ ≤ m → RowTold encoding text from s₀ (record { count = m; next = next; spare = 0 }) s₁
    fill_full h = let l = long_so in row_of (run_on go on) (λ k. absurd (omega arith))

    module _ {r : NextKey} (t : KeyTold encoding text next r) where
      pub fill_end : {k : ℕ} → r ≡ End k → RowTold encoding text from s₀ (record { count = m; next = next; spare = k }) s₁
      fill_end e = row_of (run_on go on) (λ _. end_law t e)

      module _ {z : ℤ} {q : KeyPlace} (e : r ≡ Key z q) where
        pub fill_more : SFits w32 z → m < length s₁ → Run encoding text from 0 s₀ q (m + 1) (set s₁ m (to_z w32 (of_z w32 z)))
        fill_more f h = rw (to_z-of_z w32 z f) (run_more (run_on go on) (key_law t e) h)

        pub fill_less : keys_left text q < keys_left text here
        fill_less = omega (arith, (key_law t e).less, on.fewer, on.further)

pub ruleset filling = (run_start, fill_full, fill_end, fill_more, fill_less, rules)
