-- The table in turns: what is found adds up.
use Rattle.std.specs.Prelude.{◌≡◌, refl, false, List, ◌++◌, ℕ, ◌+◌, ◌^◌, ◌≤◌, ◌<◌, eqb, length, take, Option, Some, None}
use Rattle.std.proofs.Math.Path.{ap}
use Rattle.std.proofs.Common.{◌∙◌, length-append, rules}
use native.Mathlib.Omega.{arith}
use Rattle.lists.specs.Lists.{two_of, each}
use Rattle.lists.proofs.Laws.Lists.{count_same}
use Rattle.grammar.specs.Document.{Element}
use Rattle.nodes.specs.Places.{the}
use Rattle.label_table.specs.Labels.{first_label}
use Rattle.label_table.specs.Walks.{row}
use Rattle.label_table.specs.Codes.{codes_at}
use Rattle.label_table.proofs.Laws.Walks.{come_first, come_done}
use Rattle.label_table.specs.Walks.{to_come}
use Rattle.known_keys.specs.Known.{known_in, Taken}
use Rattle.known_keys.proofs.Laws.Turns.{taken_less, known_parts, two_rest, known_none}
use Rattle.gifti.specs.Arrays.{arrays_of}
use Rattle.gifti_opening.specs.Passed.{ArraysHere}
use Rattle.known_keys.specs.Known.{codes_of}
use Rattle.gifti_arrays.specs.Ready.{ArraysAsked, TableHere}
use Rattle.gifti_arrays.specs.Arrays.{keys_of_all, ArraysTold, Room}
use Rattle.gifti_arrays.proofs.Laws.Arrays.{known_most}
use Rattle.gifti_arrays.specs.declared.arrays.Told.{Told}

-- the codes of all keys of the arrays
unfoldable pub all_codes : Element → List ℕ
all_codes e = codes_of (keys_of_all (arrays_of e))

pub record Searching (text : List ℕ) (root table : ℕ) (work₀ : List ℕ) (work : List ℕ) (known : ℕ) (kid : Option ℕ) : Type 0 where
  pub here : ArraysHere text root
  pub room : Room work
  pub once : two_of eqb (to_come text kid) ≡ false
  pub sum : known + known_in (to_come text kid) (all_codes (the text root)) ≡ known_in (codes_at text table) (all_codes (the text root))
  pub long : length work ≡ length work₀

pub searching_start : {text : List ℕ} {root table : ℕ} {work : List ℕ} → (TableHere text root table) × (Room work) → {kid : Option ℕ}
    → kid ≡ first_label text table → Searching text root table work work 0 kid
searching_start {text} {root} {table} (h, r) {kid} e =
    let c : to_come text kid ≡ codes_at text table = come_first text table e in
    let z : known_in (to_come text kid) (all_codes (the text root)) ≡ known_in (codes_at text table) (all_codes (the text root))
    = ap (λ l. known_in l (all_codes (the text root))) c in
    record { here = h.arrays; room = r; once = ap (two_of eqb) c ∙ h.once; sum = omega arith; long = refl }

some_come : (text : List ℕ) (k : ℕ) → 0 < length (to_come text (Some k))
unfolding each row
some_come text k = omega arith

less_by : {text : List ℕ} (kid : Option ℕ) {work : List ℕ} {n : ℕ} {next : Option ℕ} → Taken text kid work n next → 0 < length work
    → {k : ℕ} → next ≡ Some k → length (to_come text next) < length (to_come text kid)
less_by {text} None {next = next} t u {k} e =
    let a : length (t.codes ++ to_come text next) ≡ length (to_come text None) = ap length t.parts in
    let b = length-append t.codes (to_come text next) in
    let c : length (to_come text next) ≡ length (to_come text (Some k)) = ap (λ x. length (to_come text x)) e in
    let d = some_come text k in
    let f : length (to_come text None) ≡ 0 = ap length (come_done text refl) in
    absurd (omega arith)
less_by (Some j) t u e = taken_less t refl u

module _ {text : List ℕ} {root table : ℕ} {work₀ work : List ℕ} {known : ℕ} {kid : Option ℕ}
    (go : Searching text root table work₀ work known kid) {work₁ : List ℕ} {n : ℕ} {next : Option ℕ} (t : Taken text kid work₁ n next)
    (l : length work₁ ≡ length work) where
  pub searching_arrays : ArraysAsked text root (take n work₁)
  searching_arrays = record { here = go.here; in_order_so = t.ordered }

  pub searching_within : n ≤ length work₁
  searching_within = t.inside

  pub searching_less : {k : ℕ} → next ≡ Some k → length (to_come text next) < length (to_come text kid)
  searching_less e = let r = go.room.some in less_by kid t (omega arith) e

  module _ {told : Told} (o : ArraysTold (the text root) (take n work₁) told) where
    found_so : told.known ≡ known_in t.codes (all_codes (the text root))
    unfolding all_codes known_in
    found_so = o.found ∙ count_same (λ c. t.same c) (codes_of (keys_of_all (arrays_of (the text root))))

    no_two : two_of eqb (t.codes ++ to_come text next) ≡ false
    no_two = ap (two_of eqb) t.parts ∙ go.once

    adds : known + told.known + known_in (to_come text next) (all_codes (the text root))
        ≡ known_in (codes_at text table) (all_codes (the text root))
    adds =
        let a = known_parts t.codes (to_come text next) no_two (all_codes (the text root)) in
        let b : known_in (t.codes ++ to_come text next) (all_codes (the text root)) ≡ known_in (to_come text kid) (all_codes (the text root))
        = ap (λ x. known_in x (all_codes (the text root))) t.parts in
        let f = found_so in
        let s = go.sum in
        omega arith

    pub searching_room : known + told.known < 2 ^ 64
    unfolding all_codes
    searching_room =
        let a = adds in
        let m = known_most (codes_at text table) (keys_of_all (arrays_of (the text root))) in
        let c = o.counted in
        let f = o.few in
        omega arith

    pub searching_more : Searching text root table work₀ work₁ (known + told.known) next
    searching_more =
        let r = go.room.some in
        record {
          here = go.here;
          room = record { some = omega arith };
          once = two_rest t.codes (to_come text next) no_two;
          sum = adds;
          long = l ∙ go.long;
        }

    total : next ≡ None → known + told.known ≡ known_in (codes_at text table) (codes_of (keys_of_all (arrays_of (the text root))))
    unfolding all_codes
    total e =
        let a = adds in
        let n : known_in (to_come text next) (codes_of (keys_of_all (arrays_of (the text root)))) ≡ 0
        = ap (λ x. known_in x (codes_of (keys_of_all (arrays_of (the text root))))) (come_done text e) ∙ known_none _ in
        omega arith

    pub searching_done : next ≡ None → ArraysTold (the text root) (codes_at text table)
        (record { arrays = told.arrays; fit = told.fit; keys = told.keys; known = known + told.known })
    searching_done e = record {
      many = o.many;
      fitting = o.fitting;
      counted = o.counted;
      found = total e;
      in_range_lem = o.in_range_lem;
      few = o.few;
    }

pub ruleset searching = (
  searching_start,
  searching_arrays,
  searching_within,
  searching_less,
  searching_room,
  searching_more,
  searching_done,
  rules,
)
