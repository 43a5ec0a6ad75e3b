-- The keys of an array, row after row.
use Rattle.std.specs.Prelude.{◌≡◌, refl, Bool, true, false, List, [], ◌∷◌, ◌++◌, ℕ, suc, ◌+◌, ◌≤◌, ◌<◌, ltb, ℤ, take, drop}
use Rattle.std.proofs.Math.Path.{sym, ap}
use Rattle.std.proofs.Common.{◌∙◌, append-nil, arith, length-append, length-take-le, take_all, rules, ltb-true, ltb-false}
use Rattle.std.proofs.Math.ListN.{length}
use Rattle.lists.specs.Lists.{all, each, count}
use Rattle.lists.proofs.Laws.Lists.{all_append}
use Rattle.numbers.specs.Numbers.{in_keys}
use Rattle.label_table.specs.Labels.{keys_written}
use Rattle.label_table.proofs.Laws.Told.{filled_told}
use Rattle.known_keys.specs.Known.{known_in, codes_of, KnownAmong}
use Rattle.array_keys.specs.Ahead.{keys_ahead, spare_bytes, keys_left, keys_start}
use Rattle.array_keys.specs.Rows.{RowTold}
use Rattle.array_keys.proofs.Laws.Ahead.{start_left}
use Rattle.array_keys.specs.declared.Encoding.{Encoding}
use Rattle.array_keys.specs.declared.KeyPlace.{KeyPlace}
use Rattle.array_keys.specs.declared.rows.KeyRow.{KeyRow}
use Rattle.gifti_arrays.specs.Tally.{RowRoom, Tallied}
use Rattle.gifti_arrays.proofs.Laws.Arrays.{known_append, known_most}

-- ---- Row after row.

pub record Counting (e : Encoding) (text : List ℕ) (start : KeyPlace) (codes : List ℕ) (row₀ row : List ℤ) (keys known : ℕ)
    (place : KeyPlace) : Type 0 where
  pub room : 0 < length row
  pub long : length row ≡ length row₀
  pub counted : keys + length (keys_ahead e text place) ≡ length (keys_ahead e text start)
  pub found : known + known_in codes (codes_of (keys_ahead e text place)) ≡ known_in codes (codes_of (keys_ahead e text start))
  pub spare : spare_bytes e text start ≡ spare_bytes e text place
  pub in_range_lem : all in_keys (keys_ahead e text start) ≡ all in_keys (keys_ahead e text place)
  pub few : keys + keys_left text place ≤ suc (length text)
  pub known_few : known ≤ keys

pub counting_start : (e : Encoding) (text : List ℕ) (from : ℕ) (codes : List ℕ) {row : List ℤ} → RowRoom row → {p : KeyPlace}
    → p ≡ keys_start text from → Counting e text (keys_start text from) codes row row 0 0 p
counting_start e text from codes r h = rw h (record {
  room = r.some;
  long = refl;
  counted = omega arith;
  found = omega arith;
  spare = refl;
  in_range_lem = refl;
  few = let z = start_left text from in omega arith;
  known_few = omega arith;
})

module _ {e : Encoding} {text : List ℕ} {start : KeyPlace} {codes : List ℕ} {row₀ row : List ℤ} {keys known : ℕ} {place : KeyPlace}
    (go : Counting e text start codes row₀ row keys known place) {r : KeyRow} {row₁ : List ℤ} (t : RowTold e text place row r row₁)
    (l : length row₁ ≡ length row) where
  pub counting_within : r.count ≤ length row₁
  counting_within = omega (arith, t.within)

  pub counting_long : length row₁ ≡ length row₀
  counting_long = l ∙ go.long

  pub counting_prefix : r.count ≡ length (take r.count row₁)
  counting_prefix = sym (length-take-le r.count row₁ counting_within)

  module _ {k : ℕ} (a : KnownAmong (take r.count row₁) codes k) where
    many : length (take r.count row₁) ≡ r.count
    many = sym counting_prefix

    known_less : k ≤ r.count
    known_less =
        let u = known_most codes (take r.count row₁) in
        omega (arith, a.found, many)

    pub counting_keys : keys + r.count ≤ suc (length text)
    counting_keys = omega (arith, t.fewer, go.few)

    pub counting_known : known + k ≤ suc (length text)
    counting_known = omega (arith, t.fewer, go.few, go.known_few, known_less)

    pub counting_more : Counting e text start codes row₀ row₁ (keys + r.count) (known + k) r.next
    counting_more =
        let p = t.keys in
        let n : length (keys_ahead e text place) ≡ length (take r.count row₁) + length (keys_ahead e text r.next)
        = ap length p ∙ length-append (take r.count row₁) (keys_ahead e text r.next) in
        let o : known_in codes (codes_of (keys_ahead e text place))
        ≡ known_in codes (codes_of (take r.count row₁)) + known_in codes (codes_of (keys_ahead e text r.next))
        = ap (λ x. known_in codes (codes_of x)) p ∙ known_append codes (take r.count row₁) (keys_ahead e text r.next) in
        let q : all in_keys (keys_ahead e text place) ≡ all in_keys (keys_ahead e text r.next)
        = ap (all in_keys) p ∙ all_append in_keys (take r.count row₁) (keys_ahead e text r.next) ∙ rw a.in_range_lem refl in
        let m = many in
        let c = go.counted in
        let f = go.found in
        let b = a.found in
        record {
          room = omega (arith, go.room);
          long = l ∙ go.long;
          counted = omega arith;
          found = omega arith;
          spare = go.spare ∙ t.spare;
          in_range_lem = go.in_range_lem ∙ q;
          few = omega (arith, t.fewer, go.few);
          known_few = omega (arith, go.known_few, known_less);
        }

    pub counting_done : r.count < length row₁
        → Tallied e text start codes (record { keys = keys + r.count; known = known + k; spare = r.spare })
    unfolding codes_of each known_in count all
    counting_done h =
        let on = counting_more in
        let over = t.ended (omega arith) in
        let z = over.0 in
        let c = on.counted in
        let n : length (keys_ahead e text r.next) ≡ 0 = ap length z in
        let f = on.found in
        let m : known_in codes (codes_of (keys_ahead e text r.next)) ≡ 0 = ap (λ x. known_in codes (codes_of x)) z in
        record {
          counted = omega arith;
          found = omega arith;
          left_over = over.1 ∙ sym on.spare;
          in_range_lem = on.in_range_lem ∙ ap (all in_keys) z;
          few = counting_keys;
        }

    pub counting_less : length row₁ ≤ r.count → keys_left text r.next < keys_left text place
    counting_less h = omega (arith, t.fewer, go.room)

pub ruleset counting = (counting_start, counting_within, counting_keys, counting_known, counting_more, counting_done, counting_less, rules)

-- ---- Writing.

-- more keys than there is room for
filled_over : (k l s : List ℤ) → length s ≡ length k → keys_written (k ++ l) s ≡ k
unfolding keys_written
filled_over [] [] [] h = refl
filled_over [] (x ∷ l) [] h = refl
filled_over [] l (y ∷ s) h = absurd (omega arith)
filled_over (x ∷ k) l [] h = absurd (omega arith)
filled_over (x ∷ k) l (y ∷ s) h = ap (λ m. x ∷ m) (filled_over k l s (omega arith))

module _ {e : Encoding} {text : List ℕ} {from : KeyPlace} {s : List ℤ} {r : KeyRow} {s₁ : List ℤ} (t : RowTold e text from s r s₁)
    (l : length s₁ ≡ length s) where
  all_there : r.count < length s → s₁ ≡ keys_written (keys_ahead e text from) s
  all_there h =
      let k = take r.count s₁ in
      let n : length k ≡ r.count = length-take-le r.count s₁ (omega arith) in
      let w : keys_ahead e text from ≡ k = t.keys ∙ ap (λ m. k ++ m) (t.ended h).0 ∙ append-nil k in
      t.past ∙ ap (λ i. k ++ drop i s) (sym n) ∙ sym (filled_told k s (omega arith)) ∙ ap (λ m. keys_written m s) (sym w)

  no_room : length s ≤ r.count → s₁ ≡ keys_written (keys_ahead e text from) s
  no_room h =
      let w = take_all r.count s₁ (omega arith) in
      sym (ap (λ m. keys_written m s) (t.keys ∙ ap (λ m. m ++ keys_ahead e text r.next) w)
      ∙ filled_over s₁ (keys_ahead e text r.next) s (sym l))

  filled_row : s₁ ≡ keys_written (keys_ahead e text from) s
  filled_row = go (ltb r.count (length s)) refl
    where
      go : (b : Bool) → ltb r.count (length s) ≡ b → s₁ ≡ keys_written (keys_ahead e text from) s
      go true q = all_there (ltb-true r.count (length s) q)
      go false q = no_room (ltb-false r.count (length s) q)

  pub writing_so : (at : ℕ) → from ≡ keys_start text at → s₁ ≡ keys_written (keys_ahead e text (keys_start text at)) s
  writing_so at q = rw q at filled_row

pub ruleset writing = (writing_so, rules)
