-- All arrays, one after the other.
use Rattle.std.specs.Prelude.{◌≡◌, Bool, true, false, ◌&&◌, ℤ, Option, Some, None, ℕ}
use Rattle.std.proofs.Math.Path.{refl, ap}
use Rattle.std.proofs.Common.{sym, ◌∙◌, arith, rules}
use mathlib.Core.List.{List, [], ◌∷◌, ◌++◌}
use Prim.Native.Nat.{ℕ, suc, ◌+◌, ◌*◌, ◌^◌, ◌≤◌, ◌<◌}
use Rattle.std.proofs.Math.ListN.{length, length-append}
use Rattle.lists.specs.Lists.{all, those, each, each_in, count}
use Rattle.lists.proofs.Laws.Lists.{all_append, count_append, length_each}
use Rattle.lists.proofs.Laws.Booleans.{and_assoc, and_true}
use Rattle.grammar.specs.Bytes.{ascii}
use Rattle.grammar.specs.Document.{Element}
use Rattle.grammar.specs.Look.{is, name_of, contents_of, elements, children}
use Rattle.nodes.specs.Places.{the}
use Rattle.nodes.specs.Names.{named}
use Rattle.nodes.proofs.Laws.Names.{name_is_law}
use Rattle.nodes.specs.Children.{first_child, next}
use Rattle.nodes.proofs.Laws.Children.{left}
use Rattle.nodes.proofs.Laws.Along.{Along, along_start, along_done, along_stands, along_here, along_less, along_next, children_few}
use Rattle.numbers.specs.Numbers.{in_keys}
use Rattle.lists.proofs.Laws.Lists.{count_most, few_those}
use Rattle.lists.specs.Reordered.{member}
use Rattle.label_table.specs.Codes.{code_of}
use Rattle.known_keys.specs.Known.{known_in}
use Rattle.known_keys.specs.Order.{in_order}
use Rattle.gifti.specs.Arrays.{arrays_of, array_keys, fills_dim0}
use Rattle.known_keys.specs.Known.{codes_of}
use Rattle.gifti.specs.Held.{GoodArray, GoodArrays, one_array}
use Rattle.gifti_arrays.specs.Ready.{ArrayAsked, ArraysAsked}
use Rattle.gifti_arrays.specs.Arrays.{ToldArray, keys_of_all, ArraysTold}
use Rattle.gifti_arrays.specs.declared.array.ArrayTold.{ArrayTold}

-- ---- Keys in a row.

codes_append : (k l : List ℤ) → codes_of (k ++ l) ≡ codes_of k ++ codes_of l
unfolding codes_of each
codes_append [] l = refl
codes_append (a ∷ k) l = ap (λ x. code_of a ∷ x) (codes_append k l)

pub known_append : (codes : List ℕ) (k l : List ℤ)
    → known_in codes (codes_of (k ++ l)) ≡ known_in codes (codes_of k) + known_in codes (codes_of l)
unfolding known_in
known_append codes k l = ap (count (λ c. member c codes)) (codes_append k l) ∙ count_append (λ c. member c codes) (codes_of k) (codes_of l)

pub known_most : (codes : List ℕ) (l : List ℤ) → known_in codes (codes_of l) ≤ length l
unfolding known_in codes_of
known_most codes l =
    let a = count_most (λ c. member c codes) (each code_of l) in
    let b : length (each code_of l) ≡ length l = length_each code_of l in
    omega arith

first_good : {a : Element} {l : List Element} → GoodArrays (a ∷ l) → GoodArray a
first_good (one_array g m) = g

rest_good : {a : Element} {l : List Element} → GoodArrays (a ∷ l) → GoodArrays l
rest_good (one_array g m) = m

-- ---- The walk: what is told of the arrays so far, and of those among the children that are ahead.

abbrev pub is_array : Element → Bool
is_array d = is "DataArray" (name_of d)

pub record Summed (text : List ℕ) (e : Element) (codes : List ℕ) (arrays : ℕ) (fit : Bool) (keys known : ℕ) (l : List Element)
    : Type 0 where
  pub small : length text ≤ 16777216
  pub in_order_so : in_order codes ≡ true
  pub good : GoodArrays (those is_array l)
  pub most : length (arrays_of e) ≤ length text
  pub many : arrays + length (those is_array l) ≡ length (arrays_of e)
  pub fitting : all fills_dim0 (arrays_of e) ≡ (fit && all fills_dim0 (those is_array l))
  pub counted : keys + length (keys_of_all (those is_array l)) ≡ length (keys_of_all (arrays_of e))
  pub found : known + known_in codes (codes_of (keys_of_all (those is_array l))) ≡ known_in codes (codes_of (keys_of_all (arrays_of e)))
  pub in_range_lem : all in_keys (keys_of_all (arrays_of e)) ≡ all in_keys (keys_of_all (those is_array l))
  pub few : keys ≤ arrays * 16777217
  pub known_few : known ≤ keys

summed_up : {text : List ℕ} {e : Element} {codes : List ℕ} {arrays : ℕ} {fit : Bool} {keys known : ℕ}
    → Summed text e codes arrays fit keys known [] → ArraysTold e codes (record { arrays = arrays; fit = fit; keys = keys; known = known })
unfolding those keys_of_all each_in codes_of each known_in count all
summed_up {fit = fit} s =
    let m = s.many in
    let c = s.counted in
    let f = s.found in
    let w = s.few in
    let x = s.most in
    let y = s.small in
    record {
      many = omega arith;
      fitting = sym (s.fitting ∙ and_true fit);
      counted = omega arith;
      found = omega arith;
      in_range_lem = s.in_range_lem;
      few = omega arith;
    }

abbrev pub Walking : (text : List ℕ) (e : Element) (codes : List ℕ) (arrays : ℕ) (fit : Bool) (keys known : ℕ) → Option ℕ → Type 0
Walking text e codes arrays fit keys known kid = Along text (Summed text e codes arrays fit keys known) kid

pub walking_start : {text : List ℕ} {root : ℕ} {codes : List ℕ} → ArraysAsked text root codes → {kid : Option ℕ}
    → kid ≡ first_child text root → Walking text (the text root) codes 0 true 0 0 kid
unfolding arrays_of children
walking_start {text} {root} a e =
    let h = a.here in
    let few = few_those is_array (elements (contents_of (the text root))) in
    let most = children_few h.stands in
    along_start h.stands
    (record {
      small = h.small;
      in_order_so = a.in_order_so;
      good = h.good;
      most = omega arith;
      many = omega arith;
      fitting = refl;
      counted = omega arith;
      found = omega arith;
      in_range_lem = refl;
      few = omega arith;
      known_few = omega arith;
    })
    e

module _ {text : List ℕ} {e : Element} {codes : List ℕ} {arrays : ℕ} {fit : Bool} {keys known : ℕ} {kid : Option ℕ}
    (go : Walking text e codes arrays fit keys known kid) where
  pub walking_done : kid ≡ None → ArraysTold e codes (record { arrays = arrays; fit = fit; keys = keys; known = known })
  walking_done h = summed_up (along_done go h)

  module _ {k : ℕ} (is_child : kid ≡ Some k) where
    pub walking_less : {kid₁ : Option ℕ} → kid₁ ≡ next text k → left text kid₁ < left text kid
    walking_less e = along_less go is_child e

    here : (b : Bool) → b ≡ named text k (ascii "DataArray") → is "DataArray" (name_of (the text k)) ≡ b
    here b q = sym (q ∙ name_is_law "DataArray" (along_stands go is_child))

    module _ {b : Bool} (q : b ≡ named text k (ascii "DataArray")) where
      passes : b ≡ false → (l : List Element) → those is_array (the text k ∷ l) ≡ those is_array l
      unfolding those
      passes f l = rw (here b q ∙ f) refl

      pub walking_other : b ≡ false → {kid₁ : Option ℕ} → kid₁ ≡ next text k → Walking text e codes arrays fit keys known kid₁
      walking_other f n = along_next go is_child passed n
        where
          passed : (l : List Element) → Summed text e codes arrays fit keys known (the text k ∷ l)
              → Summed text e codes arrays fit keys known l
          passed l s =
              let z = passes f l in
              record {
                small = s.small;
                in_order_so = s.in_order_so;
                good = rw z at s.good;
                most = s.most;
                many = rw z at s.many;
                fitting = rw z at s.fitting;
                counted = rw z at s.counted;
                found = rw z at s.found;
                in_range_lem = rw z at s.in_range_lem;
                few = s.few;
                known_few = s.known_few;
              }

      module _ (t : b ≡ true) where
        split : (l : List Element) → those is_array (the text k ∷ l) ≡ the text k ∷ those is_array l
        unfolding those
        split l = rw (here b q ∙ t) refl

        pub walking_array : ArrayAsked text k codes
        walking_array =
            let s = along_here go is_child in
            record {
              here = record { stands = along_stands go is_child; good = first_good (rw (split _) at s.good) };
              in_order_so = s.in_order_so;
            }

        module _ {r : ArrayTold} (o : ToldArray text (the text k) codes r) where
          room : (arrays < 16777217) × (keys + r.keys < 2 ^ 62) × (known + r.known < 2 ^ 62)
          room =
              let s = along_here go is_child in
              let m : arrays + suc (length (those is_array _)) ≡ length (arrays_of e) = rw (split _) at s.many in
              let x = s.most in
              let y = s.small in
              let w = s.few in
              let v = s.known_few in
              let a = o.few in
              let u = known_most codes (array_keys (the text k)) in
              let c = o.counted in
              let d = o.found in
              (omega arith, omega arith, omega arith)

          pub room_arrays : arrays + 1 < 2 ^ 64
          room_arrays = let h = room.0 in omega arith

          pub room_keys : keys + r.keys < 2 ^ 64
          room_keys = let h = room.1 in omega arith

          pub room_known : known + r.known < 2 ^ 64
          room_known = let h = room.2 in omega arith

          pub walking_more : {kid₁ : Option ℕ} → kid₁ ≡ next text k
              → Walking text e codes (arrays + 1) (fit && r.fits) (keys + r.keys) (known + r.known) kid₁
          unfolding all keys_of_all each_in
          walking_more n = along_next go is_child taken n
            where
              taken : (l : List Element) → Summed text e codes arrays fit keys known (the text k ∷ l)
                  → Summed text e codes (arrays + 1) (fit && r.fits) (keys + r.keys) (known + r.known) l
              taken l s =
                  let z = split l in
                  let m : arrays + suc (length (those is_array l)) ≡ length (arrays_of e) = rw z at s.many in
                  let c : keys + length (array_keys (the text k) ++ keys_of_all (those is_array l)) ≡ length (keys_of_all (arrays_of e))
                  = rw z at s.counted in
                  let d = length-append (array_keys (the text k)) (keys_of_all (those is_array l)) in
                  let f : known + known_in codes (codes_of (array_keys (the text k) ++ keys_of_all (those is_array l)))
                  ≡ known_in codes (codes_of (keys_of_all (arrays_of e))) = rw z at s.found in
                  let g = known_append codes (array_keys (the text k)) (keys_of_all (those is_array l)) in
                  let i : all in_keys (keys_of_all (arrays_of e))
                  ≡ all in_keys (array_keys (the text k) ++ keys_of_all (those is_array l)) = rw z at s.in_range_lem in
                  let j : all fills_dim0 (arrays_of e) ≡ (fit && (fills_dim0 (the text k) && all fills_dim0 (those is_array l)))
                  = rw z at s.fitting in
                  let u = known_most codes (array_keys (the text k)) in
                  let n₁ = o.counted in
                  let n₂ = o.found in
                  let n₃ = o.few in
                  let w = s.few in
                  let v = s.known_few in
                  let y = s.small in
                  record {
                    small = s.small;
                    in_order_so = s.in_order_so;
                    good = rest_good (rw z at s.good);
                    most = s.most;
                    many = omega arith;
                    fitting = j ∙ and_assoc fit (fills_dim0 (the text k)) (all fills_dim0 (those is_array l))
                        ∙ ap (λ x. (fit && x) && all fills_dim0 (those is_array l)) (sym o.fitting);
                    counted = omega arith;
                    found = omega arith;
                    in_range_lem = i ∙ all_append in_keys (array_keys (the text k)) (keys_of_all (those is_array l))
                        ∙ ap (λ x. x && all in_keys (keys_of_all (those is_array l))) o.in_range_lem;
                    few = omega arith;
                    known_few = omega arith;
                  }

pub ruleset walking = (
  walking_start,
  walking_done,
  walking_less,
  walking_other,
  walking_array,
  room_arrays,
  room_keys,
  room_known,
  walking_more,
  rules,
)
