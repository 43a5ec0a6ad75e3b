-- EACH RECORD HAS ONE LINE: of an accepted text, the lines of records are those of each brain map's stretch, in text order of maps, each
-- counted from 0.
use Rattle.std.specs.Prelude.{◌≡◌, Bool, true, ◌||◌, cond, ℕ, zero, suc, ◌+◌, ◌≤◌, ◌<◌, eqb, leb, ltb, drop, Some}
use Rattle.std.proofs.Math.Path.{refl, sym, ap}
use Rattle.std.proofs.Common.{◌∙◌, le_of_suc-le-suc, not-suc-le-zero, length-append, get_or-append-add}
use mathlib.Core.List.{List, [], ◌∷◌, ◌++◌}
use Rattle.std.proofs.Math.Bool.{false, not}
use native.Mathlib.Omega.{arith}
use borrow.Author.Tests.{eqb-true, eqb-false, eq-eqb, leb-true, ltb-true, ltb-false, not-false}
use Rattle.std.proofs.Math.ListN.{length, get_or, get_or-append}
use Rattle.lists.specs.Lists.{any, count, those, total, each, each_in, all_below, there}
use Rattle.lists.proofs.Laws.Quantifiers.{all_below_iff}
use Rattle.lists.proofs.Laws.Booleans.{and_right, or_first, or_left, or_right, both_ways}
use Rattle.lists.proofs.Laws.Lists.{any_append, any_in, count_append, none_counted}
use Rattle.lists.proofs.Laws.Refusals.{row_fails, rows_past}
use Rattle.grammar.specs.Bytes.{between}
use Rattle.grammar.specs.Document.{Element}
use Rattle.grammar.specs.Grammar.{Writes}
use Rattle.grammar.specs.Look.{Word, attr}
use Rattle.numbers.specs.Numbers.{value, on_first, parts, comma, comma_values}
use Rattle.cifti.specs.Maps.{Map, is_brain, length_of, brain_maps, dimensions_of, map_of, map_elements, maps_of}
use Rattle.cifti.specs.Conditions.{lengths_wrong, listed_dimensions, dimensions_wrong, length_wrong, of_maps, conditions_of_header}
use Rattle.cifti.specs.Conditions.{conditions_of_table, conditions, refusal}
use Rattle.cifti.specs.Answer.{record_at, stretch, stretches, filled_with, reach, accepted_with, maps_in, answer_by, records_by, answer_to}
use Rattle.cifti.specs.Answer.{records_after, Reads}
use Rattle.cifti.proofs.Laws.Said.{stretch_length, stretch_at}
use Rattle.cifti.proofs.Laws.Smallest.{refusal_none}
use Rattle.cifti.proofs.Laws.Text.{answers_of}
use Rattle.cifti.proofs.Laws.Theorems.{answer_number}
use Rattle.cifti.specs.declared.answer.Answer.{Answer}
use Rattle.card.specs.declared.line.Line.{Line}
use Rattle.card.specs.declared.line.Line.TheVariants.{Accepted, End}
use Rattle.card.specs.Card.{dimension_lines, record_line, numbered, record_lines, answer_dimensions, card}
use Rattle.card.proofs.Laws.Card.{accepted_card}
use Rattle.card.proofs.Laws.Records.{numbered_length, numbered_at}
use Rattle.card.proofs.Laws.Stretches.{told_by, InFront, Fronts, none, more, stretch_lines, in_text_order}

module _ {A : Type 0} (p : A → Bool) (a : A) (l : List A) (h : any p (a ∷ l) ≡ false) where
  not_first : p a ≡ false
  unfolding any
  not_first = or_left (p a) (any p l) h

  not_later : any p l ≡ false
  unfolding any
  not_later = or_right (p a) (any p l) h

-- the dimension does not exist
abbrev beyond : (n d : ℕ) → Bool
beyond n d = not (ltb d n)

first_below : (n d : ℕ) (l : List ℕ) → any (beyond n) (d ∷ l) ≡ false → d < n
first_below n d l h = ltb-true d n (not-false (ltb d n) (not_first (beyond n) d l h))

-- ---- Every map lists a dimension.

record Parted (l : List Word) : Type 0 where
  pub part : Word
  pub rest : List Word
  pub are : l ≡ part ∷ rest

some_part : (p : ℕ → Bool) (w : Word) → Parted (parts p w)
unfolding parts on_first
some_part p [] = record { part = []; rest = []; are = refl }
some_part p (b ∷ w) = go (p b) (some_part p w)
  where
    go : (t : Bool) → Parted (parts p w) → Parted (cond t ([] ∷ parts p w) (on_first b (parts p w)))
    go true h = record { part = []; rest = parts p w; are = refl }
    go false h = record { part = b ∷ h.part; rest = h.rest; are = rw h.are refl }

record Lists (m : Map) : Type 0 where
  pub one : ℕ
  pub others : List ℕ
  pub are : m.dimensions ≡ one ∷ others

lists_one : (e : Element) → Lists (map_of e)
unfolding map_of dimensions_of comma_values each
lists_one e =
    let h = some_part comma (attr "AppliesToMatrixDimension" e) in
    record { one = value h.part; others = each value h.rest; are = ap (each value) h.are }

-- ---- What 1, 8 and 9 leave of the maps from one on.

record Told (lengths : List ℕ) (l : List Map) : Type 0 where
  pub once : (d : ℕ) → count (eqb d) (listed_dimensions l) ≤ 1
  pub exist : any (beyond (length lengths)) (listed_dimensions l) ≡ false
  pub long : length_wrong lengths l ≡ false

some_counted : {A : Type 0} (p : A → Bool) (l : List A) → any p l ≡ true → 0 < count p l
some_counted p l h = go (count p l) refl
  where
    go : (n : ℕ) → count p l ≡ n → 0 < n
    go zero e = both_ways h (none_counted p l e)
    go (suc n) e = omega arith

module _ (lengths : List ℕ) (few : length lengths ≤ 3) (nonzero : (d : ℕ) → d < length lengths → 0 < get_or lengths d 0) where
  module _ (x : Map) (l : List Map) (told : Told lengths (x ∷ l)) where
    both : (any (beyond (length lengths)) x.dimensions || any (beyond (length lengths)) (listed_dimensions l)) ≡ false
    unfolding listed_dimensions each_in
    both = sym (any_append (beyond (length lengths)) x.dimensions (listed_dimensions l)) ∙ told.exist

    counts : (d : ℕ) → count (eqb d) x.dimensions + count (eqb d) (listed_dimensions l) ≤ 1
    unfolding listed_dimensions each_in
    counts d = rw (sym (count_append (eqb d) x.dimensions (listed_dimensions l))) (told.once d)

    apart : Map → Bool
    apart m = any (λ d. not (eqb (length_of m) (get_or lengths d 0))) m.dimensions

    long_both : (apart x ≡ false) × (any apart l ≡ false)
    unfolding length_wrong apart
    long_both = (not_first apart x l told.long, not_later apart x l told.long)

    told_behind : Told lengths l
    unfolding length_wrong apart
    told_behind = record {
      once = λ d. let h = counts d in omega arith;
      exist = or_right (any (beyond (length lengths)) x.dimensions) (any (beyond (length lengths)) (listed_dimensions l)) both;
      long = long_both.1;
    }

    told_front : Lists x → InFront x l
    unfolding apart any listed_dimensions
    told_front has =
        let found : any (beyond (length lengths)) x.dimensions ≡ false =
        or_left (any (beyond (length lengths)) x.dimensions) (any (beyond (length lengths)) (listed_dimensions l)) both in
        let first : any (beyond (length lengths)) (has.one ∷ has.others) ≡ false =
        sym (ap (any (beyond (length lengths))) has.are) ∙ found in
        let below : has.one < length lengths = first_below (length lengths) has.one has.others first in
        let told_long : any (λ c. not (eqb (length_of x) (get_or lengths c 0))) x.dimensions ≡ false = long_both.0 in
        let its : any (λ c. not (eqb (length_of x) (get_or lengths c 0))) (has.one ∷ has.others) ≡ false =
        sym (ap (any (λ c. not (eqb (length_of x) (get_or lengths c 0)))) has.are) ∙ told_long in
        let same : length_of x ≡ get_or lengths has.one 0 =
        eqb-true (length_of x) (get_or lengths has.one 0) (not-false (eqb (length_of x) (get_or lengths has.one 0))
        (not_first (λ c. not (eqb (length_of x) (get_or lengths c 0))) has.one has.others its)) in
        record {
          long = λ b. omega (arith, nonzero has.one below);
          some = has.one;
          exists = omega arith;
          listed = ap (any (eqb has.one)) has.are
              ∙ or_first (eqb has.one has.one) (any (eqb has.one) has.others) (eq-eqb has.one has.one refl);
          alone = λ c e.
              let h = counts c in
              let s = some_counted (eqb c) x.dimensions e in
              let z : count (eqb c) (listed_dimensions l) ≡ 0 = omega arith in
              sym (any_in (eqb c) (λ m. m.dimensions) l) ∙ none_counted (eqb c) (listed_dimensions l) z;
        }

  fronts_of : (l : List Element) → Told lengths (each map_of l) → Fronts (each map_of l)
  unfolding each
  fronts_of [] told = none
  fronts_of (e ∷ l) told =
      more (told_front (map_of e) (each map_of l) told (lists_one e)) (fronts_of l (told_behind (map_of e) (each map_of l) told))

-- ---- There are at most three.

brain_few : (l : List Map) → length (brain_maps l) ≤ length l
unfolding brain_maps those
brain_few [] = omega arith
brain_few (m ∷ l) = go (is_brain m.kind) (brain_few l)
  where
    go : (b : Bool) → length (brain_maps l) ≤ length l → length (cond b (m ∷ brain_maps l) (brain_maps l)) ≤ suc (length l)
    go true h = omega arith
    go false h = omega arith

map_few : (l : List Element) → length (each map_of l) ≤ length (listed_dimensions (each map_of l))
unfolding each listed_dimensions each_in
map_few [] = omega arith
map_few (e ∷ l) =
    let has = lists_one e in
    let few : length (map_of e).dimensions ≡ suc (length has.others) = ap length has.are in
    omega (arith, map_few l, few, length-append (map_of e).dimensions (listed_dimensions (each map_of l)))

below_three : (n : ℕ) → n ≤ 3 → (l : List ℕ) → any (beyond n) l ≡ false
    → length l ≡ count (eqb 0) l + count (eqb 1) l + count (eqb 2) l
unfolding any count
below_three n h [] e = omega arith
below_three n h (d ∷ l) e = go d (first_below n d l e) (below_three n h l (not_later (beyond n) d l e))
  where
    go : (c : ℕ) → c < n → length l ≡ count (eqb 0) l + count (eqb 1) l + count (eqb 2) l
        → suc (length l) ≡ (cond (eqb 0 c) 1 0 + count (eqb 0) l) + (cond (eqb 1 c) 1 0 + count (eqb 1) l)
        + (cond (eqb 2 c) 1 0 + count (eqb 2) l)
    go zero u f = omega arith
    go (suc zero) u f = omega arith
    go (suc (suc zero)) u f = omega arith
    go (suc (suc (suc c))) u f = absurd (omega arith)

-- ---- From the conditions.

abbrev wrong : ℕ → Bool
wrong n = eqb n 0 || ltb 1048576 n

nonzero_at : (l : List ℕ) → any wrong l ≡ false → (d : ℕ) → d < length l → 0 < get_or l d 0
nonzero_at [] h d u = absurd (not-suc-le-zero u)
nonzero_at (n ∷ l) h zero u =
    let f : n ≡ 0 → ⊥ = eqb-false n 0 (or_left (eqb n 0) (ltb 1048576 n) (not_first wrong n l h)) in omega arith
nonzero_at (n ∷ l) h (suc d) u = nonzero_at l (not_later wrong n l h) d (le_of_suc-le-suc u)

few_lengths : (l : List ℕ) → lengths_wrong l ≡ false → length l ≤ 3
unfolding lengths_wrong
few_lengths l h = leb-true (length l) 3
    (and_right (leb 2 (length l)) (leb (length l) 3)
    (not-false (between 2 3 (length l)) (or_left (not (between 2 3 (length l))) (any wrong l) h)))

all_nonzero : (l : List ℕ) → lengths_wrong l ≡ false → (d : ℕ) → d < length l → 0 < get_or l d 0
unfolding lengths_wrong
all_nonzero l h = nonzero_at l (or_right (not (between 2 3 (length l))) (any wrong l) h)

absent : (n d : ℕ) → n ≤ d → (l : List ℕ) → any (beyond n) l ≡ false → count (eqb d) l ≡ 0
unfolding any count
absent n d h [] e = refl
absent n d h (c ∷ l) e = go (eqb d c) refl (first_below n c l e) (absent n d h l (not_later (beyond n) c l e))
  where
    go : (b : Bool) → eqb d c ≡ b → c < n → count (eqb d) l ≡ 0 → cond b 1 0 + count (eqb d) l ≡ 0
    go true t u f = absurd (omega (arith, eqb-true d c t))
    go false t u f = omega arith

told_all : (lengths : List ℕ) (l : List Map) → dimensions_wrong lengths l ≡ false → length_wrong lengths l ≡ false → Told lengths l
unfolding dimensions_wrong
told_all lengths l h k = record { once = λ d. go d (ltb d (length lengths)) refl; exist = exist; long = k }
  where
    listed : Bool
    listed = all_below (length lengths) (λ c. eqb (count (eqb c) (listed_dimensions l)) 1)

    exist : any (beyond (length lengths)) (listed_dimensions l) ≡ false
    exist = or_right (not listed) (any (beyond (length lengths)) (listed_dimensions l)) h

    once : listed ≡ true
    once = not-false listed (or_left (not listed) (any (beyond (length lengths)) (listed_dimensions l)) h)

    go : (d : ℕ) (b : Bool) → ltb d (length lengths) ≡ b → count (eqb d) (listed_dimensions l) ≤ 1
    go d true e =
        let t = (all_below_iff (length lengths) (λ c. eqb (count (eqb c) (listed_dimensions l)) 1)).0 once in
        let one : count (eqb d) (listed_dimensions l) ≡ 1 = eqb-true _ _ (t d (ltb-true d (length lengths) e)) in omega arith
    go d false e =
        let z : count (eqb d) (listed_dimensions l) ≡ 0 =
        absent (length lengths) d (ltb-false d (length lengths) e) (listed_dimensions l) exist in omega arith

-- ---- The line of an index, among those of all stretches.

line_of : (k : List Map) (m : Map) (l : List Map) (n : ℕ) → is_brain m.kind ≡ true → n < length_of m
    → get_or (stretch_lines (k ++ (m ∷ l))) (total reach k + n) End ≡ record_line n (record_at m.models n)
unfolding brain_maps those each_in total reach
line_of [] m l n h u =
    let e : 0 + n ≡ n = omega arith in
    let inside : n < length (stretch m) = rw (stretch_length m) u in
    let among : n < length (numbered 0 (stretch m)) = rw (numbered_length 0 (stretch m)) inside in
    rw (h, e)
    (get_or-append (numbered 0 (stretch m)) (stretch_lines l) End n among
    ∙ numbered_at 0 (stretch m) n inside
    ∙ rw e (ap (record_line n) (stretch_at m n u)))
line_of (x ∷ k) m l n h u = go (is_brain x.kind) (line_of k m l n h u)
  where
    behind : List Line
    behind = stretch_lines (k ++ (m ∷ l))

    before : ℕ
    before = total reach k

    go : (b : Bool) → get_or behind (before + n) End ≡ record_line n (record_at m.models n)
        → get_or (each_in (λ y. numbered 0 (stretch y)) (cond b (x ∷ brain_maps (k ++ (m ∷ l))) (brain_maps (k ++ (m ∷ l)))))
        (cond b (length_of x) 0 + before + n) End ≡ record_line n (record_at m.models n)
    go true f =
        let t : length_of x + before + n ≡ length (numbered 0 (stretch x)) + (before + n) =
        omega (arith, stretch_length x, numbered_length 0 (stretch x)) in
        rw t (get_or-append-add (numbered 0 (stretch x)) behind (before + n) End ∙ f)
    go false f = let t : 0 + before + n ≡ before + n = omega arith in rw t f

each_counted : (k : List Map) → length (each_in (λ m. numbered 0 (stretch m)) k) ≡ total length_of k
unfolding each_in total
each_counted [] = refl
each_counted (m ∷ k) =
    omega (
      arith,
      length-append (numbered 0 (stretch m)) (each_in (λ y. numbered 0 (stretch y)) k),
      numbered_length 0 (stretch m),
      stretch_length m,
      each_counted k,
    )

-- ---- THE STATEMENT.

module _ {text lengths records work : List ℕ} {a : Answer} {s v : List ℕ} (r : Reads text lengths records work a s v) (yes : a.number ≡ 0)
    (e : Element) (w : Writes e text) where
  given : ℕ
  given = refusal lengths (length text) (length records) (length work) (Some e)

  answer_is : a ≡ answer_by given (Some e)
  unfolding given answer_to
  answer_is = answers_of r.answered w

  given_none : given ≡ 0
  given_none = sym (answer_number given (Some e)) ∙ sym (ap (λ (x : Answer). x.number) answer_is) ∙ yes

  told_dimensions : answer_dimensions a ≡ told_by 0 (maps_of e)
  unfolding answer_by maps_in accepted_with answer_dimensions
  told_dimensions = rw (answer_is, given_none) refl

  filled_records : s ≡ stretches (maps_of e) ++ drop (length (stretches (maps_of e))) records
  unfolding records_by maps_in given records_after filled_with
  filled_records = answers_of r.filled w ∙ rw given_none refl

  lengths_right : lengths_wrong lengths ≡ false
  unfolding conditions conditions_of_header conditions_of_table of_maps there given
  lengths_right = row_fails (refusal_none lengths (length text) (length records) (length work) (Some e) given_none)

  told_maps : Told lengths (maps_of e)
  unfolding conditions conditions_of_header conditions_of_table of_maps there given
  told_maps =
      let none = refusal_none lengths (length text) (length records) (length work) (Some e) given_none in
      told_all lengths (maps_of e) (row_fails (rows_past 7 none)) (row_fails (rows_past 8 none))

  three_maps : length (brain_maps (maps_of e)) ≤ 3
  unfolding maps_of
  three_maps =
      let most = below_three (length lengths) (few_lengths lengths lengths_right) (listed_dimensions (maps_of e)) told_maps.exist in
      omega (arith, brain_few (maps_of e), map_few (map_elements e), most, told_maps.once 0, told_maps.once 1, told_maps.once 2)

  pub records_listed_lem : record_lines 3 0 (answer_dimensions a) s ≡ stretch_lines (maps_of e)
  unfolding maps_of
  records_listed_lem = rw (told_dimensions, filled_records)
      (in_text_order 3 0 (maps_of e) (told_by 0 (maps_of e)) (drop (length (stretches (maps_of e))) records)
      (fronts_of lengths (few_lengths lengths lengths_right) (all_nonzero lengths lengths_right) (map_elements e) told_maps)
      three_maps λ p h. refl)

  pub card_lists : card a s ≡ Accepted ∷ (dimension_lines 0 (answer_dimensions a) ++ stretch_lines (maps_of e))
  card_lists = accepted_card a s yes ∙ rw records_listed_lem refl

  -- as many as the brain maps have indices
  pub records_counted : length (record_lines 3 0 (answer_dimensions a) s) ≡ total length_of (brain_maps (maps_of e))
  records_counted = ap length records_listed_lem ∙ each_counted (brain_maps (maps_of e))

  -- that of index n of a map, behind those of the maps before it
  pub index_listed : (k : List Map) (m : Map) (l : List Map) → maps_of e ≡ k ++ (m ∷ l) → is_brain m.kind ≡ true → (n : ℕ)
      → n < length_of m → get_or (record_lines 3 0 (answer_dimensions a) s) (total reach k + n) End ≡ record_line n (record_at m.models n)
  index_listed k m l are b n u = rw (records_listed_lem, are) (line_of k m l n b u)
