-- The next key of a list, and whether a text lists keys: one lemma for each way of the code.
use Rattle.std.specs.Prelude.{◌≡◌, Bool, not, cond, ℕ, suc, ◌+◌, ◌/◌, ◌%◌, ◌^◌, ◌<◌, ◌≤◌, ℤ, pos, leb, Option, Some, None}
use Rattle.std.proofs.Math.Path.{refl, sym, ap}
use Rattle.std.proofs.Common.{◌∙◌, SFits, to_z, of_z, rules}
use mathlib.Core.List.{List, [], ◌∷◌, ◌++◌, append-nil}
use Rattle.std.proofs.Math.Bool.{true, false}
use native.Mathlib.Omega.{arith}
use Rattle.std.proofs.Math.ListN.{length, length-append}
use Rattle.std.specs.Int.{w32, w64}
use Rattle.std.proofs.lemmas.Int.{to_z_pos}
use borrow.Author.Tests.{le-leb, lt-leb, not-true, not-false}
use Rattle.lists.specs.Lists.{all, those}
use Rattle.lists.proofs.Laws.Booleans.{both_ways, clash}
use Rattle.grammar.specs.Bytes.{blank}
use Rattle.grammar.specs.Look.{Word}
use Rattle.nodes.specs.Texts.{says_at, left, inside, text_of_lem}
use Rattle.nodes.proofs.Laws.TextSteps.{text_none, text_some}
use Rattle.numbers.specs.Numbers.{digit, digits, value, words, parts, filled, with_sign, unsigned, key, key_value, key_list}
use Rattle.numbers.specs.Answers.{sign_if, key_limit}
use Rattle.numbers.specs.Stream.{char_at, letter_at, stream, left_in, behind, leading, word_ends, digits_at}
use Rattle.numbers.specs.Quick.{Quick}
use Rattle.numbers.proofs.Laws.Cuts.{digit_no_blank, digits_uncut, digits_are, digits_split, digits_stopped, words_none}
use Rattle.numbers.specs.Cuts.{Uncut, none, more}
use Rattle.numbers.proofs.Laws.Keys.{within}
use Rattle.numbers.proofs.Laws.Listed.{begun, word_ahead}
use Rattle.numbers.proofs.Laws.Stream.{char_byte, char_end, Ran, digits_law, Blanked, blanked}
use Rattle.numbers.proofs.Laws.Walk.{behind_law, Handed, number_law}
use Rattle.numbers.specs.declared.Source.TheVariants.{Contents}
use Rattle.numbers.specs.declared.Run.{Run}
use Rattle.keys.proofs.Laws.Keys.{signed_small, signed_fits, signed_back}
use Rattle.keys.specs.KeyLists.{FirstKey, NoKey, KeyRead, ListedKeyTold, spelled, SignRead, minus_read, none_read}
use Rattle.keys.proofs.Laws.Spelled.{Unsigned, nothing, other, digits_unsigned, key_by_lem, value_by, spelled_append}
use Rattle.keys.specs.declared.key_lists.ListedKey.{ListedKey}
use Rattle.keys.specs.declared.key_lists.ListedKey.TheVariants.{Key, End, Bad}

-- the three answers
pub told_key : {text : List ℕ} {l : List Word} {most : ℕ} {z : ℤ} {j : ℕ} → FirstKey text l most z j → KeyRead text l most (Key z j)
told_key {text} {l} {most} {z} {j} f = record {
  on_key = λ {z = y} {j = i} e. (let p : z ≡ y = cc in let q : j ≡ i = cc in rw (p, q) at f);
  on_end = λ e. clash (cc);
  on_bad = λ e. clash (cc);
}

pub told_end : {text : List ℕ} {l : List Word} {most : ℕ} → l ≡ [] → KeyRead text l most End
told_end h = record { on_key = λ e. clash (cc); on_end = λ e. h; on_bad = λ e. clash (cc) }

pub told_bad : {text : List ℕ} {l : List Word} {most : ℕ} → NoKey l → KeyRead text l most Bad
told_bad n = record { on_key = λ e. clash (cc); on_end = λ e. clash (cc); on_bad = λ e. n }

-- THE DIGITS, behind the sign
no_minus : {text : List ℕ} {at : ℕ} {t : Bool} → SignRead text at t → t ≡ false → (u : Word) → all digit u ≡ true → (b : ℕ) (x : Word)
    → says_at text at ≡ u ++ (b ∷ x) → (y : Word) → Unsigned (u ++ (b ∷ y))
unfolding all
no_minus minus_read e u d b x s y = both_ways refl e
no_minus (none_read {b = c} q n m) e [] d b x s y = let z : c ≡ b = cc in let m₁ : b ≡ 45 → ⊥ = λ k. m (z ∙ k) in other m₁
no_minus (none_read q n m) e (a ∷ u) d b x s y = digits_unsigned a u (b ∷ y) d

bare_minus : key (45 ∷ []) ≡ false
unfolding key unsigned digits all
bare_minus = refl

minus_alone : (v : Word) → word_ends v ≡ true → NoKey (words (45 ∷ v))
unfolding blank
minus_alone v e = record { word = 45 ∷ []; others = words v; out_of_form = bare_minus; splits = word_ahead 45 [] v (more refl none) e }

module _ {text : List ℕ} {at : ℕ} {t : Bool} (sign : SignRead text at t) {run : Run} (er : run ≡ digits_at Contents text 10 0 0 at) where
  ran : Ran Contents text 10 0 0 at run
  ran = rw er (digits_law Contents text 10 0 0 at)

  splits : says_at text at ≡ ran.read ++ says_at text run.next
  unfolding stream
  splits = ran.splits

  ahead : spelled t (says_at text at) ≡ spelled t ran.read ++ says_at text run.next
  ahead = ap (spelled t) splits ∙ spelled_append t ran.read (says_at text run.next)

  uncut : Uncut blank (spelled t ran.read)
  unfolding spelled blank
  uncut = go t
    where
      go : (s : Bool) → Uncut blank (spelled s ran.read)
      go true = more refl (digits_uncut digit_no_blank ran.read ran.all_digits)
      go false = digits_uncut digit_no_blank ran.read ran.all_digits

  stops : (b : ℕ) (x : Word) → says_at text run.next ≡ b ∷ x → length ran.read < 10 → digit b ≡ false
  unfolding stream
  stops = ran.stops

  -- another byte follows that is no blank
  stopped : {b : ℕ} {x : Word} → says_at text run.next ≡ b ∷ x → blank b ≡ false → NoKey (words (spelled t (says_at text at)))
  stopped {b} {x} e k =
      let f = begun (spelled t ran.read) x b uncut k in
      let plain : t ≡ false → Unsigned (ran.read ++ (b ∷ f.0)) =
      λ h. no_minus sign h ran.read ran.all_digits b x (splits ∙ ap (λ l. ran.read ++ l) e) f.0 in
      record {
        word = spelled t ran.read ++ (b ∷ f.0);
        others = f.1;
        out_of_form = ap key (sym (spelled_append t ran.read (b ∷ f.0))) ∙ key_by_lem t (ran.read ++ (b ∷ f.0)) plain
            ∙ rw (digits_stopped 1 10 ran.read f.0 b ran.few (stops b x e)) refl;
        splits = ap words (ahead ∙ ap (λ l. spelled t ran.read ++ l) e) ∙ f.2;
      }

  unended : {w : Bool} → w ≡ word_ends (stream Contents text run.next) → not w ≡ true → NoKey (words (spelled t (says_at text at)))
  unfolding word_ends stream
  unended {w} e n = go (says_at text run.next) refl (sym e ∙ not-true w n)
    where
      go : (v : Word) → says_at text run.next ≡ v → word_ends v ≡ false → NoKey (words (spelled t (says_at text at)))
      go [] q h = both_ways refl h
      go (b ∷ x) q h = stopped q h

  -- no digit
  pub from_none : run.count ≡ 0 → KeyRead text (words (spelled t (says_at text at))) (left text at) Bad
  unfolding spelled stream
  from_none z = told_bad (by t sign refl)
    where
      nothing_read : (u : Word) → run.count ≡ 0 + length u → u ≡ []
      nothing_read [] c = refl
      nothing_read (a ∷ u) c = absurd (omega arith)

      same : says_at text at ≡ says_at text run.next
      same = splits ∙ rw (nothing_read ran.read ran.counted) refl

      by : (s : Bool) → SignRead text at s → t ≡ s → NoKey (words (spelled t (says_at text at)))
      by false (none_read q n m) e = stopped (sym same ∙ q) n
      by true minus_read e = go (word_ends (says_at text run.next)) refl
        where
          go : (w : Bool) → word_ends (says_at text run.next) ≡ w → NoKey (words (spelled t (says_at text at)))
          go true h = rw (e, same) (minus_alone (says_at text run.next) h)
          go false h = unended (sym h) refl

  pub from_unended : {w : Bool} → w ≡ word_ends (stream Contents text run.next) → not w ≡ true
      → KeyRead text (words (spelled t (says_at text at))) (left text at) Bad
  from_unended e n = told_bad (unended e n)

  -- digits, and the word ends
  module _ (some : run.count ≡ 0 → ⊥) {w : Bool} (ew : w ≡ word_ends (stream Contents text run.next)) (ended : not w ≡ false) where
    ends : word_ends (says_at text run.next) ≡ true
    unfolding stream
    ends = sym ew ∙ not-false w ended

    word_is : words (spelled t (says_at text at)) ≡ spelled t ran.read ∷ words (says_at text run.next)
    unfolding spelled blank
    word_is = ap words ahead ∙ go t ran.read ran.all_digits ran.counted
      where
        go : (s : Bool) (u : Word) → all digit u ≡ true → run.count ≡ 0 + length u
            → words (spelled s u ++ says_at text run.next) ≡ spelled s u ∷ words (says_at text run.next)
        go s [] d c = absurd (some c)
        go true (a ∷ u) d c = word_ahead 45 (a ∷ u) (says_at text run.next) (more refl (digits_uncut digit_no_blank (a ∷ u) d)) ends
        go false (a ∷ u) d c = word_ahead a u (says_at text run.next) (digits_uncut digit_no_blank (a ∷ u) d) ends

    plain : t ≡ false → Unsigned ran.read
    plain e = go ran.read ran.all_digits
      where
        go : (u : Word) → all digit u ≡ true → Unsigned u
        go [] d = nothing
        go (a ∷ u) d = rw (append-nil (a ∷ u)) at (digits_unsigned a u [] d)

    valued : value ran.read ≡ run.value
    unfolding value
    valued = sym ran.valued

    form : key (spelled t ran.read) ≡ leb run.value (key_limit (sign_if t))
    form =
        let n : 1 ≤ length ran.read = at_least in
        key_by_lem t ran.read plain ∙ rw (
          digits_are 1 10 ran.read ran.all_digits n ran.few,
          within (sign_if t) (value ran.read),
          valued,
          le-leb 0 run.value (omega arith),
        ) refl
      where
        at_least : 1 ≤ length ran.read
        at_least = go ran.read ran.counted
          where
            go : (u : Word) → run.count ≡ 0 + length u → 1 ≤ length u
            go [] c = absurd (some c)
            go (a ∷ u) c = omega arith

    module _ {limit : ℕ} (el : limit ≡ key_limit (sign_if t)) where
      pub from_great : limit < run.value → KeyRead text (words (spelled t (says_at text at))) (left text at) Bad
      from_great h = told_bad (record {
        word = spelled t ran.read;
        others = words (says_at text run.next);
        out_of_form = form ∙ lt-leb run.value (key_limit (sign_if t)) (rw el at h);
        splits = word_is;
      })

      module _ (h : run.value ≤ limit) where
        size : run.value ≤ key_limit (sign_if t)
        size = rw el at h

        pub from_small : run.value < 10 ^ 15
        from_small = signed_small t size

        less : left text run.next < left text at
        unfolding left_in stream
        less =
            let k : length ran.read ≤ length (says_at text at) =
            omega (arith, ap length splits, length-append ran.read (says_at text run.next)) in
            let b = behind_law Contents text (length ran.read) at k in
            go ran.read ran.counted (rw (sym ran.place) at b.ahead)
          where
            go : (u : Word) → run.count ≡ 0 + length u → left text run.next + length u ≤ left text at
                → left text run.next < left text at
            go [] c q = absurd (some c)
            go (a ∷ u) c q = omega arith

        module _ {v : ℤ} (q : v ≡ with_sign (sign_if t) run.value) where
          pub from_fits : SFits w32 (to_z w64 (of_z w64 v))
          from_fits = signed_fits t size q

          pub from_key : KeyRead text (words (spelled t (says_at text at))) (left text at)
              (Key (to_z w32 (of_z w32 (to_z w64 (of_z w64 v)))) run.next)
          from_key = told_key (record {
            word = spelled t ran.read;
            in_form_lem = form ∙ le-leb run.value (key_limit (sign_if t)) size;
            valued = signed_back t size q ∙ q ∙ sym (value_by t ran.read plain ∙ ap (with_sign (sign_if t)) valued);
            splits = word_is;
            less = less;
          })

pub ruleset key_digits = (from_none, from_unended, from_great, from_small, from_fits, from_key, rules)

-- THE SIGN, behind the blanks
leading_few : (w : Word) → leading blank w ≤ length w
unfolding leading
leading_few [] = omega arith
leading_few (a ∷ w) = go (blank a) (leading_few w)
  where
    go : (t : Bool) → leading blank w ≤ length w → cond t (suc (leading blank w)) 0 ≤ suc (length w)
    go true h = omega arith
    go false h = omega arith

retold : {text : List ℕ} {k l : List Word} {m n : ℕ} {r : ListedKey} → KeyRead text k m r → l ≡ k → m ≤ n → KeyRead text l n r
retold {text} {k} {l} {m} {n} {r} t e h = record {
  on_key = λ {z} {j} q. (let f = t.on_key q in record {
    word = f.word;
    in_form_lem = f.in_form_lem;
    valued = f.valued;
    splits = e ∙ f.splits;
    less = omega (arith, f.less);
  });
  on_end = λ q. e ∙ t.on_end q;
  on_bad = λ q. (let f = t.on_bad q in
      record { word = f.word; others = f.others; out_of_form = f.out_of_form; splits = e ∙ f.splits });
}

module _ (text : List ℕ) (at : ℕ) {i : ℕ} (ei : i ≡ behind Contents text (leading blank (stream Contents text at)) at) where
  starts : Blanked text at i
  starts = rw ei (blanked (leading blank (stream Contents text at)) text at refl)

  same_words : words (says_at text at) ≡ words (says_at text i)
  unfolding stream
  same_words = starts.same_words

  no_blank : (b : ℕ) (x : Word) → says_at text i ≡ b ∷ x → blank b ≡ false
  unfolding stream
  no_blank = starts.no_blank

  further : left text i ≤ left text at
  unfolding left_in
  further = let b = behind_law Contents text (leading blank (stream Contents text at)) at (leading_few (stream Contents text at)) in
      let z : left text (behind Contents text (leading blank (stream Contents text at)) at) ≤ left text at = omega (arith, b.ahead) in
      rw ei z

  module _ {c : Option (ℕ × ℕ)} (ec : c ≡ letter_at text i) where
    from : c ≡ char_at Contents text i
    unfolding char_at
    from = ec

    pub sign_end : c ≡ None → ListedKeyTold text at End
    unfolding stream
    sign_end e = told_end (same_words ∙ ap words (char_end Contents text i from e) ∙ words_none)

    module _ {b j : ℕ} (e : c ≡ Some (b, j)) where
      begins : says_at text i ≡ b ∷ says_at text j
      unfolding stream
      begins = (char_byte Contents text i from e).splits

      nearer : left text j < left text i
      unfolding left_in
      nearer = (char_byte Contents text i from e).ahead

      pub sign_none : (b ≡ 45 → ⊥) → SignRead text i false
      sign_none n = none_read begins (no_blank b (says_at text j) begins) n

      pub sign_minus_told : b ≡ 45 → {r : ListedKey} → KeyRead text (words (spelled true (says_at text j))) (left text j) r
          → ListedKeyTold text at r
      unfolding spelled
      sign_minus_told h t = retold t (same_words ∙ ap words (rw h at begins)) (omega (arith, further, nearer))

    pub sign_none_told : {r : ListedKey} → KeyRead text (words (spelled false (says_at text i))) (left text i) r → ListedKeyTold text at r
    unfolding spelled
    sign_none_told t = retold t same_words further

pub ruleset key_signs = (minus_read, sign_end, sign_none, sign_minus_told, sign_none_told, rules)

-- PLAIN NUMBERS
plain_key : (w : Word) (n : ℕ) → digits 1 7 w ≡ true → value w ≡ n → n < 10 ^ 7 → (key w ≡ true) × (pos n ≡ key_value w)
unfolding spelled sign_if with_sign key_limit
plain_key w n h e small =
    let d = digits_split 1 7 w h in
    let u = free w d.0 in
    let few : length w ≤ 10 = omega (arith, d.1.1) in (
      key_by_lem false w (λ _. u) ∙ rw (
        digits_are 1 10 w d.0 d.1.0 few,
        within (sign_if false) (value w),
        e,
        le-leb 0 n (omega arith),
        le-leb n 2147483647 (omega arith),
      ) refl,
      sym (value_by false w (λ _. u) ∙ ap pos e),
    )
  where
    free : (w : Word) → all digit w ≡ true → Unsigned w
    free [] k = nothing
    free (a ∷ v) k = rw (append-nil (a ∷ v)) at (digits_unsigned a v [] k)

module _ {text : List ℕ} {at q : ℕ} (h : Quick text at q) (n : q ≡ 0 → ⊥) where
  handed : Handed text at (q / 16) (at + q % 16)
  handed = number_law text at (h.told n) refl

  pub quick_place : at + q % 16 < 2 ^ 64
  quick_place = h.fits n

  pub quick_small : q / 16 < 2 ^ 31
  quick_small = omega (arith, handed.small)

  pub quick_key : ListedKeyTold text at (Key (to_z w32 (q / 16)) (at + q % 16))
  quick_key =
      let g = handed in
      let k = plain_key g.word (q / 16) g.in_form_lem g.valued g.small in
      let e = to_z_pos w32 (q / 16) quick_small in
      told_key (record { word = g.word; in_form_lem = k.0; valued = e ∙ k.1; splits = g.splits; less = g.ahead })

pub ruleset key_quick = (quick_place, quick_small, quick_key, rules)

-- A LIST OF KEYS
pub record Listing (text : List ℕ) (at i : ℕ) : Type 0 where
  pub same_list : key_list (says_at text at) ≡ key_list (says_at text i)

pub listing_start : (text : List ℕ) (at : ℕ) → Listing text at at
listing_start text at = record { same_list = refl }

module _ {text : List ℕ} {at i : ℕ} (go : Listing text at i) {r : ListedKey} (t : ListedKeyTold text i r) where
  pub listing_end : r ≡ End → true ≡ key_list (says_at text at)
  unfolding key_list all
  listing_end e = sym (go.same_list ∙ rw (t.on_end e))

  pub listing_bad : r ≡ Bad → false ≡ key_list (says_at text at)
  unfolding key_list all
  listing_bad e = let b = t.on_bad e in sym (go.same_list ∙ rw (b.splits, b.out_of_form))

  module _ {z : ℤ} {j : ℕ} (e : r ≡ Key z j) where
    pub listing_less : left text j < left text i
    listing_less = (t.on_key e).less

    pub listing_on : Listing text at j
    unfolding key_list all
    listing_on = let f = t.on_key e in record { same_list = go.same_list ∙ rw (f.splits, f.in_form_lem) }

pub ruleset key_listing = (listing_start, listing_end, listing_bad, listing_less, listing_on, rules)

-- THE TEXT OF AN ELEMENT
module _ (text : List ℕ) (at : ℕ) {f : Option ℕ} (e : f ≡ inside text at) where
  pub keys_there : {i : ℕ} → f ≡ Some i → {r : Bool} → r ≡ key_list (says_at text i) → r ≡ key_list (text_of_lem text at)
  keys_there h k = k ∙ ap key_list (sym (text_some text at (sym e ∙ h)))

  pub keys_missing : f ≡ None → true ≡ key_list (text_of_lem text at)
  unfolding key_list words parts those filled all
  keys_missing h = ap key_list (sym (text_none text at (sym e ∙ h)))

pub ruleset key_texts = (keys_there, keys_missing, rules)
