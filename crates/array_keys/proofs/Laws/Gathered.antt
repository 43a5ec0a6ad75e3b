-- Bytes gathered until four are held, and the key of four bytes: one lemma for each way of the code.
use Rattle.std.specs.Prelude.{◌≡◌, List, [], ◌∷◌, ◌++◌, Bool, true, false, cond, ℕ, zero, suc, ◌+◌, ◌*◌, ◌-◌, ◌/◌, ◌%◌, ◌^◌, ◌<◌, ◌≤◌, ltb, ℤ, pos, negsuc, ◌-ℤ◌, length}
use Rattle.std.proofs.Math.Path.{refl, sym, ap, ap₂}
use Rattle.std.proofs.Common.{◌∙◌, append_assoc, append-nil, rules, lt-ltb, le-ltb, ltb-true}
use native.Mathlib.Omega.{arith}
use mir.Syntax.{w32}
use mir.Val.{SFits, to_z, of_z}
use mir.ValLaws.{to_z-of_z, to_z_pos}
use Rattle.nodes.specs.Texts.{left}
use Rattle.base64_text.specs.Base64.{decode}
use Rattle.base64_text.specs.Fours.{Endian, in_endian, bits32, twos, keys_in}
use Rattle.base64_text.proofs.Laws.Fours.{whole_back}
use Rattle.base64_reader.specs.Groups.{letters_at, low_bytes, bytes_ahead, BytesTaken, GroupTold, QuickGroup}
use Rattle.base64_reader.specs.declared.Group.{Group}
use Rattle.base64_reader.specs.declared.Group.TheVariants as groups
use Rattle.array_keys.specs.Ahead.{held_bytes, bytes_from, coded_ahead, keys_ahead, spare_bytes, keys_left, endian_if, encoding_if}
use Rattle.array_keys.specs.Ahead.{KeyTold, told_key, told_end}
use Rattle.array_keys.specs.Gathered.{kept_bytes, BytesRead, BytesGathered, key_by}
use Rattle.array_keys.proofs.Laws.Low.{low_behind, top_of, top_low}
use Rattle.array_keys.specs.declared.KeyPlace.{KeyPlace}
use Rattle.array_keys.specs.declared.NextKey.TheVariants.{Key, End}

-- ---- How many are held.

pub kept_all : {n : ℕ} → n < 4 → n ≡ kept_bytes n
unfolding kept_bytes
kept_all {n} h = rw (lt-ltb n 4 h) refl

pub kept_none : {n : ℕ} → 4 ≤ n → 0 ≡ kept_bytes n
unfolding kept_bytes
kept_none {n} h = rw (le-ltb n 4 h) refl

pub ruleset keeping = (kept_all, kept_none, rules)

kept_few : (n : ℕ) → kept_bytes n < 4
unfolding kept_bytes
kept_few n = go (ltb n 4) refl
  where
    go : (t : Bool) → ltb n 4 ≡ t → cond t n 0 < 4
    go true e = ltb-true n 4 e
    go false e = omega arith

kept_bytes_lem : (p : KeyPlace) → held_bytes p ≡ low_bytes (kept_bytes p.bytes) p.held
unfolding kept_bytes held_bytes low_bytes
kept_bytes_lem p = go (ltb p.bytes 4)
  where
    go : (t : Bool) → cond t (low_bytes p.bytes p.held) [] ≡ low_bytes (cond t p.bytes 0) p.held
    go true = refl
    go false = refl

-- ---- More bytes behind those held.

module _ (held : ℕ) {more count : ℕ} (b : BytesRead more count) where
  pub more_three : count ≡ 3 → held % 16777216 * 16777216 + more ≡ held % 16777216 * 256 ^ count + more
  more_three e = rw e refl

  pub more_two : count ≡ 2 → held % 16777216 * 65536 + more ≡ held % 16777216 * 256 ^ count + more
  more_two e = rw e refl

  pub more_one : (count ≡ 3 → ⊥) → (count ≡ 2 → ⊥) → held % 16777216 * 256 + more ≡ held % 16777216 * 256 ^ count + more
  more_one h k = let e : count ≡ 1 = omega (arith, b.some_read, b.few) in rw e refl

  pub more_three_fits : count ≡ 3 → held % 16777216 * 16777216 + more < 2 ^ 64
  more_three_fits e = let s : more < 256 ^ 3 = rw e at b.small in omega arith

  pub more_two_fits : count ≡ 2 → held % 16777216 * 65536 + more < 2 ^ 64
  more_two_fits e = let s : more < 256 ^ 2 = rw e at b.small in omega arith

  pub more_one_fits : (count ≡ 3 → ⊥) → (count ≡ 2 → ⊥) → held % 16777216 * 256 + more < 2 ^ 64
  more_one_fits h k =
      let e : count ≡ 1 = omega (arith, b.some_read, b.few) in
      let s : more < 256 ^ 1 = rw e at b.small in
      omega arith

pub ruleset holding = (more_three, more_two, more_one, more_three_fits, more_two_fits, more_one_fits, rules)

-- ---- Gathering.

-- from the bytes that were held first, and the place where reading began
pub record Gathering (text : List ℕ) (at₀ held₀ bytes₀ at held bytes : ℕ) : Type 0 where
  pub same : low_bytes bytes₀ held₀ ++ bytes_ahead (letters_at text at₀) ≡ low_bytes bytes held ++ bytes_ahead (letters_at text at)
  pub few : bytes ≤ 6
  pub further : left text at ≤ left text at₀
  pub fallen : 4 ≤ bytes → left text at < left text at₀

pub gather_start : {text : List ℕ} (from : KeyPlace) {at held n : ℕ} → n ≡ kept_bytes from.bytes → Gathering text at held n at held n
gather_start {text} from {at} {held} {n} e =
    let k : n < 4 = rw e (kept_few from.bytes) in
    record { same = refl; few = omega arith; further = omega arith; fallen = λ h. absurd (omega arith) }

module _ {text : List ℕ} {at₀ held₀ bytes₀ at held bytes : ℕ} (go : Gathering text at₀ held₀ bytes₀ at held bytes) where
  module _ (from : KeyPlace) (ea : at₀ ≡ from.at) (eh : held₀ ≡ from.held) (eb : bytes₀ ≡ kept_bytes from.bytes) where
    began : bytes_from text from ≡ low_bytes bytes₀ held₀ ++ bytes_ahead (letters_at text at₀)
    unfolding bytes_from
    began = rw (ea, eh, eb) (ap (λ l. l ++ bytes_ahead (letters_at text from.at)) (kept_bytes_lem from))

    pub gather_done : 4 ≤ bytes → {p : KeyPlace} → p ≡ record { at = at; held = held; bytes = bytes } → BytesGathered text from p
    gather_done h e =
        rw e (record {
          same = began ∙ go.same;
          few = go.few;
          ended = λ k. absurd (omega arith);
          fallen = λ k. rw (sym ea) (go.fallen k);
        })

    none_ahead : bytes < 4 → bytes_ahead (letters_at text at) ≡ [] → {p : KeyPlace} → p ≡ record { at = at; held = held; bytes = bytes }
        → BytesGathered text from p
    none_ahead less n e =
        rw e (record { same = began ∙ go.same; few = go.few; ended = λ k. n; fallen = λ k. absurd (omega arith) })

    module _ (less : bytes < 4) {g : Group} (t : GroupTold text at g) where
      pub gather_end : g ≡ groups.End → {p : KeyPlace} → p ≡ record { at = at; held = held; bytes = bytes } → BytesGathered text from p
      gather_end q e = none_ahead less (t.on_end q).1 e

      pub gather_bad : g ≡ groups.Bad → {p : KeyPlace} → p ≡ record { at = at; held = held; bytes = bytes } → BytesGathered text from p
      gather_bad q e = none_ahead less (t.on_bad q).1 e

  module _ (less : bytes < 4) {g : Group} (t : GroupTold text at g) {v n j : ℕ} (q : g ≡ groups.Bytes v n j) where
    taken : BytesTaken text (decode (letters_at text at)) (bytes_ahead (letters_at text at)) (left text at) v n j
    taken = t.on_bytes q

    pub gather_read : BytesRead v n
    gather_read = let b = taken in record { some_read = b.some_read; few = b.few; small = b.small }

    pub gather_room : bytes + n < 2 ^ 64
    gather_room = omega (arith, taken.few)

    pub gather_less : left text j < left text at
    gather_less = omega (arith, taken.less)

    pub gather_on : {h : ℕ} → h ≡ held % 16777216 * 256 ^ n + v → Gathering text at₀ held₀ bytes₀ j h (bytes + n)
    gather_on e =
        let b = taken in
        let m : bytes ≤ 3 = omega arith in
        record {
          same = go.same ∙ ap (λ l. low_bytes bytes held ++ l) b.bytes
              ∙ sym (append_assoc (low_bytes bytes held) (low_bytes n v) (bytes_ahead (letters_at text j)))
              ∙ ap (λ l. l ++ bytes_ahead (letters_at text j))
              (sym (ap (low_bytes (bytes + n)) e ∙ low_behind bytes n held v m b.some_read b.few b.small));
          few = omega (arith, b.few);
          further = omega (arith, go.further, b.less);
          fallen = λ _. omega (arith, go.further, b.less);
        }

  module _ (less : bytes < 4) {n : ℕ} (k : QuickGroup text at n) (h : n < 16777216) where
    pub gather_quick_held : held % 16777216 * 16777216 + n < 2 ^ 64
    gather_quick_held = omega arith

    pub gather_quick_less : left text (at + 4) < left text at
    gather_quick_less = gather_less less (k.told h) refl

    pub gather_quick : Gathering text at₀ held₀ bytes₀ (at + 4) (held % 16777216 * 16777216 + n) (bytes + 3)
    gather_quick = gather_on less (k.told h) refl refl

pub ruleset gathering = (
  gather_start,
  gather_done,
  gather_end,
  gather_bad,
  gather_read,
  gather_room,
  gather_less,
  gather_on,
  gather_quick_held,
  gather_quick_less,
  gather_quick,
  rules,
)

-- ---- The key of four bytes.

module _ (held : ℕ) {rest : ℕ} where
  pub top_two : rest ≡ 2 → held / 65536 % 4294967296 ≡ held / 256 ^ rest % 4294967296
  top_two e = rw e refl

  pub top_one : rest ≡ 1 → held / 256 % 4294967296 ≡ held / 256 ^ rest % 4294967296
  top_one e = rw e refl

  pub top_none : rest ≤ 2 → (rest ≡ 2 → ⊥) → (rest ≡ 1 → ⊥) → held % 4294967296 ≡ held / 256 ^ rest % 4294967296
  top_none h k l =
      let e : rest ≡ 0 = omega arith in
      let z : held % 4294967296 ≡ held / 256 ^ 0 % 4294967296 = omega arith in
      rw e z

pub ruleset topping = (top_two, top_one, top_none, rules)

pub turned_is : (n : ℕ) → n % 256 * 16777216 + n / 256 % 256 * 65536 + n / 65536 % 256 * 256 + n / 16777216
    ≡ bits32 (n % 256) (n / 256 % 256) (n / 65536 % 256) (n / 16777216)
unfolding bits32
turned_is n = refl

pub ruleset turning = (turned_is, rules)

module _ {n : ℕ} where
  pub twos_low : n < 2147483648 → to_z w32 n ≡ twos n
  unfolding twos
  twos_low h = to_z_pos w32 n h ∙ rw (lt-ltb n 2147483648 h) refl

  module _ (h : 2147483648 ≤ n) (k : n < 4294967296) where
    below : 4294967295 - n < 2147483648
    below = omega arith

    down : negsuc 0 -ℤ to_z w32 (4294967295 - n) ≡ negsuc (4294967295 - n)
    down = rw (to_z_pos w32 (4294967295 - n) below) (minus_one (4294967295 - n))
      where
        minus_one : (m : ℕ) → negsuc 0 -ℤ pos m ≡ negsuc m
        minus_one zero = refl
        minus_one (suc m) = let e : suc (0 + m) ≡ suc m = omega arith in ap negsuc e

    pub twos_fits : SFits w32 (negsuc 0 -ℤ to_z w32 (4294967295 - n))
    twos_fits = rw down (record { sfits = omega (arith, below) })

    pub twos_high : to_z w32 (of_z w32 (negsuc 0 -ℤ to_z w32 (4294967295 - n))) ≡ twos n
    unfolding twos
    twos_high = to_z-of_z w32 (negsuc 0 -ℤ to_z w32 (4294967295 - n)) twos_fits ∙ down ∙ rw (le-ltb n 2147483648 h) refl

pub ruleset signing = (twos_low, twos_fits, twos_high, rules)

pub key_turned : {m : ℕ} (n : ℕ) → n < 4294967296 → m ≡ bits32 (n % 256) (n / 256 % 256) (n / 65536 % 256) (n / 16777216)
    → m < 4294967296
unfolding bits32
key_turned n h e = omega arith

module _ (t : Bool) (n : ℕ) where
  pub key_big : t ≡ false → {z : ℤ} → z ≡ twos n → z ≡ key_by t n
  unfolding key_by endian_if in_endian
  key_big e q = q ∙ rw e (ap twos (sym (whole_back n)))

  pub key_little : t ≡ true → {m : ℕ} → m ≡ bits32 (n % 256) (n / 256 % 256) (n / 65536 % 256) (n / 16777216) → {z : ℤ} → z ≡ twos m
      → z ≡ key_by t n
  unfolding key_by endian_if in_endian
  key_little e em q = q ∙ rw e (ap twos em)

pub ruleset keying = (key_big, key_turned, key_little, rules)

-- ---- The next key.

few_keys : (e : Endian) (n h : ℕ) → n < 4 → keys_in e (low_bytes n h) ≡ []
unfolding keys_in low_bytes
few_keys e zero h k = refl
few_keys e (suc zero) h k = refl
few_keys e (suc (suc zero)) h k = refl
few_keys e (suc (suc (suc zero))) h k = refl
few_keys e (suc (suc (suc (suc n)))) h k = absurd (omega arith)

in_coded : (t : Bool) (text : List ℕ) (p : KeyPlace) → keys_ahead (encoding_if t) text p ≡ coded_ahead (endian_if t) text p
unfolding keys_ahead encoding_if endian_if
in_coded true text p = refl
in_coded false text p = refl

held_is : (at held bytes : ℕ) → bytes < 4 → held_bytes (record { at = at; held = held; bytes = bytes }) ≡ low_bytes bytes held
unfolding held_bytes
held_is at held bytes h = rw (lt-ltb bytes 4 h) refl

one_key : (t : Bool) (n : ℕ) (l : List ℕ)
    → keys_in (endian_if t) ((n / 16777216) ∷ (n / 65536 % 256) ∷ (n / 256 % 256) ∷ (n % 256) ∷ l) ≡ key_by t n ∷ keys_in (endian_if t) l
unfolding keys_in key_by
one_key t n l = refl

in_spare : (t : Bool) (text : List ℕ) (p : KeyPlace) → spare_bytes (encoding_if t) text p ≡ length (bytes_from text p) % 4
unfolding spare_bytes encoding_if
in_spare true text p = refl
in_spare false text p = refl

low_many : (n h : ℕ) → length (low_bytes n h) ≡ n
unfolding low_bytes
low_many zero h = refl
low_many (suc n) h = let k = low_many n h in omega arith

module _ {text : List ℕ} {from found : KeyPlace} (g : BytesGathered text from found) where
  module _ (h : found.bytes < 4) where
    none : bytes_from text from ≡ low_bytes found.bytes found.held
    none =
        g.same ∙ ap (λ l. low_bytes found.bytes found.held ++ l) (g.ended h)
        ∙ append-nil (low_bytes found.bytes found.held)

    none_spare : found.bytes ≡ length (bytes_from text from) % 4
    none_spare = let n : length (bytes_from text from) ≡ found.bytes = ap length none ∙ low_many found.bytes found.held in omega arith

    pub next_none : (t : Bool) → KeyTold (encoding_if t) text from (End found.bytes)
    unfolding coded_ahead
    next_none t =
        told_end (in_coded t text from ∙ ap (keys_in (endian_if t)) none ∙ few_keys (endian_if t) found.bytes found.held h)
        (none_spare ∙ sym (in_spare t text from))

  module _ (h : 4 ≤ found.bytes) where
    pub next_rest : found.bytes - 4 ≤ 2
    next_rest = omega (arith, g.few)

    module _ {n : ℕ} (en : n ≡ found.held / 256 ^ (found.bytes - 4) % 4294967296) where
      m : ℕ
      m = found.bytes - 4

      held : low_bytes found.bytes found.held
          ≡ (n / 16777216) ∷ (n / 65536 % 256) ∷ (n / 256 % 256) ∷ (n % 256) ∷ low_bytes m found.held
      unfolding top_of m
      held =
          let e : found.bytes ≡ m + 4 = omega arith in
          ap (λ k. low_bytes k found.held) e ∙ rw en (top_low m found.held next_rest)

      module _ (t : Bool) {z : ℤ} (ez : z ≡ key_by t n) {p : KeyPlace}
          (ep : p ≡ record { at = found.at; held = found.held; bytes = found.bytes - 4 }) where
        rest : List ℕ
        rest = bytes_ahead (letters_at text found.at)

        there : bytes_from text p ≡ low_bytes m found.held ++ rest
        unfolding bytes_from rest m
        there =
            let k : m < 4 = omega (arith, next_rest) in
            rw (ep, held_is found.at found.held m k) refl

        here : bytes_from text from ≡ (n / 16777216) ∷ (n / 65536 % 256) ∷ (n / 256 % 256) ∷ (n % 256) ∷ bytes_from text p
        unfolding rest
        here =
            g.same ∙ ap (λ l. l ++ rest) held
            ∙ sym (ap (λ l. (n / 16777216) ∷ (n / 65536 % 256) ∷ (n / 256 % 256) ∷ (n % 256) ∷ l) there)

        splits : keys_ahead (encoding_if t) text from ≡ z ∷ keys_ahead (encoding_if t) text p
        unfolding coded_ahead
        splits =
            in_coded t text from ∙ ap (keys_in (endian_if t)) here ∙ one_key t n (bytes_from text p)
            ∙ ap₂ (λ x l. x ∷ l) (sym ez) (sym (in_coded t text p))

        as_many : length (bytes_from text from) % 4 ≡ length (bytes_from text p) % 4
        as_many = let l : length (bytes_from text from) ≡ suc (suc (suc (suc (length (bytes_from text p))))) = ap length here in omega arith

        pub next_key : KeyTold (encoding_if t) text from (Key z p)
        unfolding keys_left
        next_key = told_key splits (in_spare t text from ∙ as_many ∙ sym (in_spare t text p)) (rw ep (g.fallen h))

pub next_small : {n : ℕ} (held rest : ℕ) → n ≡ held / 256 ^ rest % 4294967296 → n < 4294967296
next_small held rest e = rw e (omega arith)

pub ruleset nexting = (next_none, next_rest, next_small, next_key, rules)
