-- Digits that were read, and what is ahead of them: up to a blank, and up to a mark.
use Rattle.std.proofs.Math.Path.{◌≡◌, refl, sym, ap}
use Rattle.std.proofs.Common.{◌∙◌, arith}
use mathlib.Core.List.{List, [], ◌∷◌, ◌++◌, append_assoc, append-nil}
use Rattle.std.specs.Prelude.{Bool, not, ℕ, ◌≤◌, ◌<◌, length}
use Rattle.std.proofs.Math.Bool.{true, false}
use Rattle.std.proofs.lemmas.Bool.{not-true}
use Rattle.lists.proofs.Laws.Booleans.{clash}
use Rattle.grammar.specs.Bytes.{blank}
use Rattle.grammar.specs.Look.{Word}
use Rattle.lists.specs.Lists.{all}
use Rattle.numbers.specs.Numbers.{digit, digits, parts, on_first, point, power_mark, mantissa, scaled}
use Rattle.numbers.proofs.Laws.Cuts.{uncut_join, Parts, parts_some, parts_end, parts_cut, parts_join}
use Rattle.numbers.specs.Cuts.{Uncut}
use Rattle.numbers.proofs.Laws.Cuts.{digit_no_blank, digit_no_point, digit_no_mark, digits_uncut, digits_few, digits_stopped}
use Rattle.numbers.specs.Stream.{stream, word_ends}
use Rattle.numbers.proofs.Laws.Stream.{Ran}
use Rattle.numbers.specs.Spelled.{Cut}
use Rattle.numbers.proofs.Laws.SpelledSame.{cut_word}
use Rattle.numbers.specs.declared.Source.{Source}
use Rattle.numbers.specs.declared.Run.{Run}

-- the first part of a word begins as the word does
first_begins : (p : ℕ → Bool) (w : Word) (b : ℕ) (y : Word) (l : List Word) → parts p w ≡ (b ∷ y) ∷ l → (x : Word) × (w ≡ b ∷ x)
unfolding parts on_first
first_begins p [] b y l e = clash (cc)
first_begins p (a ∷ w) b y l e = go (p a) refl
  where
    go : (t : Bool) → p a ≡ t → (x : Word) × (a ∷ w ≡ b ∷ x)
    go true h = let q : [] ∷ parts p w ≡ (b ∷ y) ∷ l = sym (rw h refl) ∙ e in clash (cc)
    go false h =
        let k = parts_some p w in
        let q : (a ∷ k.first) ∷ k.others ≡ (b ∷ y) ∷ l = sym (rw (h, k.are) refl) ∙ e in
        (w, cc)

-- digits that were read, and what is ahead of them up to a blank
module _ (most : ℕ) (v : Word) (all_digits : all digit v ≡ true) (few : length v ≤ most) where
  pub uncut_point : Uncut point v
  uncut_point = digits_uncut digit_no_point v all_digits

  pub uncut_mark : Uncut power_mark v
  uncut_mark = digits_uncut digit_no_mark v all_digits

  pub uncut_blank : Uncut blank v
  uncut_blank = digits_uncut digit_no_blank v all_digits

  -- the first part, whatever is ahead: the digits, or a word that begins with them and a byte that stopped them
  pub first_part : (x : Word) → ((b : ℕ) (y : Word) → x ≡ b ∷ y → length v < most → digit b ≡ false) → (a : Word) × (l : List Word)
      × (parts point (v ++ x) ≡ a ∷ l) × ((digits 1 most a ≡ true → a ≡ v) × (digits 1 most v ≡ false → digits 1 most a ≡ false))
  unfolding parts on_first
  first_part [] h = (v, [], ap (parts point) (append-nil v) ∙ parts_end uncut_point, (λ e. refl, λ e. e))
  first_part (b ∷ x) h = go (point b) refl
    where
      go : (t : Bool) → point b ≡ t → (a : Word) × (l : List Word) × (parts point (v ++ (b ∷ x)) ≡ a ∷ l)
          × ((digits 1 most a ≡ true → a ≡ v) × (digits 1 most v ≡ false → digits 1 most a ≡ false))
      go true e = (v, parts point x, parts_cut b x uncut_point e, (λ q. refl, λ q. q))
      go false e =
          let k = parts_some point x in
          let q : parts point (b ∷ x) ≡ (b ∷ k.first) ∷ k.others = rw (e, k.are) refl in
          let f = digits_stopped 1 most v k.first b few (λ l. h b x refl l) in (
            v ++ (b ∷ k.first),
            k.others,
            parts_join (b ∷ x) (b ∷ k.first) k.others uncut_point q,
            (λ z. (let w : ◌≡◌ {A = ℕ} 0 1 = cc in absurd (omega arith)), λ z. f),
          )

  -- stopped by a byte that is no point
  pub other_part : (b : ℕ) (x : Word) → point b ≡ false → (length v < most → digit b ≡ false) → (a : Word) × (l : List Word)
      × (parts point (v ++ (b ∷ x)) ≡ a ∷ l) × (digits 1 most a ≡ false)
  unfolding parts on_first
  other_part b x e h =
      let k = parts_some point x in
      let q : parts point (b ∷ x) ≡ (b ∷ k.first) ∷ k.others = rw (e, k.are) refl in (
        v ++ (b ∷ k.first),
        k.others,
        parts_join (b ∷ x) (b ∷ k.first) k.others uncut_point q,
        digits_stopped 1 most v k.first b few h,
      )

-- what is ahead, cut at the first blank
module _ {source : Source} {text : List ℕ} {most n at : ℕ} {run : Run} (r : Ran source text most n 0 at run) where
  pub cut : Cut (stream source text run.next)
  cut = cut_word (stream source text run.next)

  unfoldable pub word : Word
  word = r.read ++ cut.front

  pub word_uncut : Uncut blank word
  unfolding word
  word_uncut = uncut_join (uncut_blank most r.read r.all_digits r.few) cut.uncut

  pub word_splits : stream source text at ≡ word ++ cut.rest
  unfolding word
  word_splits = r.splits ∙ ap (λ l. r.read ++ l) cut.splits ∙ sym (append_assoc r.read cut.front cut.rest)

  pub stop_front : (b : ℕ) (y : Word) → cut.front ≡ b ∷ y → length r.read < most → digit b ≡ false
  stop_front b y e l = r.stops b (y ++ cut.rest) (cut.splits ∙ ap (λ z. z ++ cut.rest) e) l

  pub empty_read : run.count ≡ 0 → digits 1 most r.read ≡ false
  empty_read z = digits_few 1 most r.read (omega (arith, r.counted))

  -- the word is not so many digits, where none was read or where more is ahead
  pub word_empty : run.count ≡ 0 → digits 1 most word ≡ false
  unfolding word
  word_empty z = go cut.front refl
    where
      go : (x : Word) → cut.front ≡ x → digits 1 most (r.read ++ cut.front) ≡ false
      go [] e = rw (e, append-nil r.read) (empty_read z)
      go (b ∷ x) e = rw e (digits_stopped 1 most r.read x b r.few (stop_front b x e))

  -- more is ahead of a word that does not end
  pub goes_on : {t : Bool} → t ≡ word_ends (stream source text run.next) → not t ≡ true → (b : ℕ) × (x : Word) × (cut.front ≡ b ∷ x)
  goes_on {t} e h = go cut.front refl
    where
      go : (x : Word) → cut.front ≡ x → (b : ℕ) × (y : Word) × (cut.front ≡ b ∷ y)
      go [] q =
          let z : word_ends (stream source text run.next) ≡ true =
          ap word_ends (cut.splits ∙ ap (λ l. l ++ cut.rest) q) ∙ cut.ends in
          let y = not-true t h in
          clash (cc)
      go (b ∷ x) q = (b, x, q)

  pub word_on : {t : Bool} → t ≡ word_ends (stream source text run.next) → not t ≡ true → digits 1 most word ≡ false
  unfolding word
  word_on e h = let g = goes_on e h in rw g.2 (digits_stopped 1 most r.read g.1 g.0 r.few (stop_front g.0 g.1 g.2))

  -- what is ahead up to a mark begins as what is ahead does
  pub before_mark : Parts power_mark cut.front
  before_mark = parts_some power_mark cut.front

  pub stop_mark : (b : ℕ) (y : Word) → before_mark.first ≡ b ∷ y → length r.read < most → digit b ≡ false
  stop_mark b y e l =
      let k = first_begins power_mark cut.front b y before_mark.others (before_mark.are ∙ ap (λ z. z ∷ before_mark.others) e) in
      stop_front b k.0 k.1 l

  -- the word, behind bytes that are no mark, is not right where what stands before a mark is no mantissa
  pub wrong_front : {u : Word} → Uncut power_mark u → mantissa (u ++ (r.read ++ before_mark.first)) ≡ false
      → scaled (parts power_mark (u ++ word)) ≡ false
  unfolding word scaled
  wrong_front {u} k h =
      let a = parts_join cut.front before_mark.first before_mark.others (uncut_mark most r.read r.all_digits r.few)
      before_mark.are in
      let b = parts_join (r.read ++ cut.front) (r.read ++ before_mark.first) before_mark.others k a in
      rw (b, h) refl
