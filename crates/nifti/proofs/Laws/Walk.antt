-- THE WALK OVER A LIST, step by step, and the body that it takes. Assumes nothing.
use Rattle.std.specs.Prelude.{◌≡◌, refl, List, [], ◌∷◌, Bool, true, false, not, cond, ℕ, zero, suc, ◌+◌, ◌-◌, ◌%◌, ◌≤◌, ◌<◌, eqb, length, take, drop, ok_or, is_some, Option}
use Rattle.std.specs.Prelude.{Option as Maybe, Some, None, Result, Err}
use Rattle.std.proofs.Math.Path.{sym, ap}
use Rattle.std.proofs.Common.{◌∙◌, take-take, length-drop, length-take-le, drop-drop, arith, true≢false}
use Rattle.std.proofs.lemmas.List.{drop-take}
use Rattle.std.proofs.lemmas.Bool.{false≢true}
use Rattle.std.proofs.Math.Seq.{slice}
use borrow.Author.Tests.{eq-eqb, ne_eqb, le-leb, lt-leb, lt-ltb, le-ltb, not-false}
use Rattle.lists.proofs.Laws.Booleans.{refute}
use Rattle.records.specs.Bytes.{number_written}
use Rattle.nifti.specs.Fields.{ordered, number_at}
use Rattle.nifti.specs.Extensions.{Extension, size_of, first_text}
use Rattle.nifti.specs.Model.{good_size, extension_in, one_more_if, cut, taken_or, taken_as, text_from, not_listed}
use Rattle.nifti.proofs.Laws.Lists.{Fits, size_fits, cut_none, cut_bad, cut_good, size_is, body_length}
use Rattle.nifti.specs.declared.Order.{Order}
use Rattle.nifti.specs.declared.Taken.{Taken}
use Rattle.nifti.specs.declared.Refusal.{Refusal}
use Rattle.nifti.specs.declared.Refusal.TheVariants.{NoList, NoText}

-- ---- A part of a part.

pub take_within : (w k end : ℕ) (s : List ℕ) → k + w ≤ end → take w (drop k (take end s)) ≡ take w (drop k s)
take_within w zero end s h = take-take w end s (omega arith)
take_within w (suc k) zero s h = absurd (omega arith)
take_within w (suc k) (suc end) [] h = refl
take_within w (suc k) (suc end) (x ∷ s) h = take_within w k end s (omega arith)

pub number_within : (o : Order) (w k end : ℕ) (s : List ℕ) → k + w ≤ end → number_at o w k (take end s) ≡ number_at o w k s
unfolding number_at
number_within o w k end s h = ap (λ l. number_written (ordered o l)) (take_within w k end s h)

-- ---- The size of the first extension.

pub size_short : (left n : ℕ) → left < 16 → good_size n left ≡ false
size_short left n h = refute _ (λ g. let f = size_fits n left g in let a = f.low in let b = f.inside in omega arith)

-- ---- One step of the answer.

abbrev found_then : Maybe Taken → (place : ℕ) → Extension → Maybe Taken
found_then (Some t) place e = Some t
found_then None place e = cond (eqb e.code 32) (Some (record { start = place + 8; length = length e.body })) None

step_on : (found : Maybe Taken) (place : ℕ) (e : Extension) (l : Option (List Extension))
    → text_from found place (one_more_if true e l) ≡ text_from (found_then found place e) (place + size_of e) l
unfolding text_from taken_or taken_as first_text one_more_if
step_on found place e None = refl
step_on (Some t) place e (Some es) = refl
step_on None place e (Some es) = go (eqb e.code 32)
  where
    go : (t : Bool)
        → taken_as (cond t (Some (record { start = place + 8; bytes = e.body })) (first_text (place + size_of e) es))
        ≡ taken_or (cond t (Some (record { start = place + 8; length = length e.body })) None)
        (taken_as (first_text (place + size_of e) es))
    go true = refl
    go false = refl

module _ (place : ℕ) (e : Extension) where
  kept_past : (found : Maybe Taken) → is_some found ≡ true → found_then found place e ≡ found
  kept_past None p = absurd (false≢true p)
  kept_past (Some t) p = refl

  kept_other : (found : Maybe Taken) → is_some found ≡ false → (e.code ≡ 32 → ⊥) → found_then found place e ≡ found
  kept_other None p z = rw (ne_eqb e.code 32 z) refl
  kept_other (Some t) p z = absurd (true≢false p)

  kept_taken : (found : Maybe Taken) → is_some found ≡ false → e.code ≡ 32
      → found_then found place e ≡ Some (record { start = place + 8; length = length e.body })
  kept_taken None p z = rw (eq-eqb e.code 32 z) refl
  kept_taken (Some t) p z = absurd (true≢false p)

-- ---- The loop: what it answers is what it would answer of the rest.

part_is : (from end : ℕ) (s : List ℕ) → from ≤ end → slice from end s ≡ take (end - from) (drop from s)
part_is from end s h =
    let e : end ≡ from + (end - from) = omega arith in ap (λ n. drop from (take n s)) e ∙ drop-take from (end - from) s

pub record Walking (file : List ℕ) (o : Order) (end : ℕ) (found : Maybe Taken) (place : ℕ) : Type 0 where
  pub low : 544 ≤ place
  pub ahead : place ≤ end
  pub inside : end ≤ length file
  pub same : text_from None 544 (cut o (slice 544 end file)) ≡ text_from found place (cut o (slice place end file))

-- what a good size allows
pub size_allows : {size left : ℕ} {b : Bool} → b ≡ good_size size left → not b ≡ false → Fits size left
size_allows {size} {left} {b} p y = size_fits size left (sym p ∙ not-false b y)

module _ (size left : ℕ) {b : Bool} (p : b ≡ good_size size left) (y : not b ≡ false) where
  pub allows_inside : size ≤ left
  allows_inside = (size_allows p y).inside

  pub allows_eight : 8 ≤ size
  allows_eight = let l = (size_allows p y).low in omega arith

  pub allows_less : left - size < left
  allows_less = let l = (size_allows p y).low in let i = (size_allows p y).inside in omega arith

pub walk_begins : (file : List ℕ) (o : Order) (end : ℕ) → 544 ≤ end → end ≤ length file → Walking file o end None 544
walk_begins file o end h k = record { low = omega arith; ahead = h; inside = k; same = refl }

module _ {file : List ℕ} {o : Order} {end : ℕ} {found : Maybe Taken} {place : ℕ} (w : Walking file o end found place) where
  pub reach : place + (end - place) ≡ end
  reach = let a = w.ahead in omega arith

  abbrev rest : List ℕ
  rest = take (end - place) (drop place file)

  long : length rest ≡ end - place
  long = let d = length-drop place file in let i = w.inside in length-take-le (end - place) (drop place file) (omega arith)

  told : text_from None 544 (cut o (slice 544 end file)) ≡ text_from found place (cut o rest)
  told = w.same ∙ ap (λ s. text_from found place (cut o s)) (part_is place end file w.ahead)

  pub walk_ends : end ≤ place → ok_or found NoText ≡ text_from None 544 (cut o (slice 544 end file))
  unfolding text_from taken_or taken_as first_text
  walk_ends h = sym (told ∙ ap (text_from found place) (cut_none o rest (long ∙ omega arith)) ∙ go found)
    where
      go : (m : Maybe Taken) → taken_or m (Err NoText) ≡ ok_or m NoText
      go None = refl
      go (Some t) = refl

  pub walk_fails : place < end → good_size (number_at o 4 0 rest) (length rest) ≡ false
      → Err NoList ≡ text_from None 544 (cut o (slice 544 end file))
  unfolding text_from
  walk_fails h b = let l = long in sym (told ∙ ap (text_from found place) (cut_bad o rest (λ z. omega arith) b))

  pub walk_short : {r : Result Taken Refusal} → r ≡ not_listed → place < end → end - place < 16
      → r ≡ text_from None 544 (cut o (slice 544 end file))
  walk_short x h k = let l = long in x ∙ walk_fails h (size_short (length rest) (number_at o 4 0 rest) (omega arith))

  module _ {n : ℕ} (e : n ≡ number_at o 4 0 rest) (g : good_size n (length rest) ≡ true) where
    fits : Fits n (length rest)
    fits = size_fits n (length rest) g

    the : Extension
    the = extension_in o rest

    fits_there : Fits (number_at o 4 0 rest) (length rest)
    fits_there = rw (sym e) fits

    the_size : size_of the ≡ n
    unfolding the
    the_size = size_is o rest fits_there ∙ sym e

    the_body : length the.body ≡ n - 8
    unfolding the extension_in
    the_body = body_length o rest fits_there ∙ ap (λ k. k - 8) (sym e)

    stepped : cut o rest ≡ one_more_if true the (cut o (slice (place + n) end file))
    unfolding the
    stepped = cut_good o rest (rw (sym e) g) ∙ ap (λ k. one_more_if true (extension_in o rest) (cut o k))
        (ap (λ k. drop k rest) (sym e) ∙ ap (drop n) (sym (part_is place end file w.ahead)) ∙ drop-drop n place (take end file))

    goes : (found₁ : Maybe Taken) → found_then found place the ≡ found₁ → Walking file o end found₁ (place + n)
    goes found₁ q =
        let a = w.low in
        let b = w.ahead in
        let l = long in
        let i = fits.inside in
        record {
          low = omega arith;
          ahead = omega arith;
          inside = w.inside;
          same = told ∙ ap (text_from found place) stepped ∙ step_on found place the (cut o (slice (place + n) end file))
              ∙ ap (λ m. text_from m (place + size_of the) (cut o (slice (place + n) end file))) q
              ∙ ap (λ k. text_from found₁ (place + k) (cut o (slice (place + n) end file))) the_size;
        }

    -- one was taken before
    pub walk_past : is_some found ≡ true → Walking file o end found (place + n)
    walk_past p = goes found (kept_past place the found p)

    module _ {c : ℕ} (q : c ≡ number_at o 4 4 rest) (p : is_some found ≡ false) where
      pub walk_other : (c ≡ 32 → ⊥) → Walking file o end found (place + n)
      unfolding the extension_in
      walk_other z = goes found (kept_other place the found p (λ y. z (q ∙ y)))

      pub walk_takes : c ≡ 32 → Walking file o end (Some (record { start = place + 8; length = n - 8 })) (place + n)
      unfolding the extension_in
      walk_takes z = goes (Some (record { start = place + 8; length = n - 8 }))
          (kept_taken place the found p (sym q ∙ z) ∙ ap (λ k. Some (record { start = place + 8; length = k })) the_body)

pub ruleset walking = (
  allows_inside,
  allows_eight,
  allows_less,
  walk_begins,
  walk_ends,
  walk_short,
  walk_fails,
  walk_past,
  walk_other,
  walk_takes,
)

-- ---- A good size, as code asks for it.

module _ (size left : ℕ) where
  pub size_small : size < 16 → false ≡ good_size size left
  unfolding good_size
  size_small h = sym (rw (lt-leb 16 size h))

  module _ (a : 16 ≤ size) where
    pub size_past : left < size → false ≡ good_size size left
    unfolding good_size
    size_past h = sym (rw (le-leb 16 size a, lt-leb size left h))

    module _ (b : size ≤ left) where
      pub size_huge : 2147483647 < size → false ≡ good_size size left
      unfolding good_size
      size_huge h = sym (rw (le-leb 16 size a, le-leb size left b, le-ltb size 2147483648 (omega arith)))

      pub size_whole : size ≤ 2147483647 → eqb (size % 16) 0 ≡ good_size size left
      unfolding good_size
      size_whole h = sym (rw (le-leb 16 size a, le-leb size left b, lt-ltb size 2147483648 (omega arith)))

pub ruleset sizing = (size_small, size_past, size_huge, size_whole)
