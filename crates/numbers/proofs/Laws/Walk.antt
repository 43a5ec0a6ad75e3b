-- WALKING A LIST: what each answer of `next_number` says of the words that are ahead, and that the n-th number handed out is the n-th of
-- the list.
use Rattle.std.specs.Prelude.{◌≡◌, refl, List, [], ◌∷◌, Bool, true, false, cond, ℕ, zero, suc, ◌+◌, ◌^◌, ◌≤◌, ◌<◌, length, drop, Option, Some, None}
use Rattle.std.proofs.Common.{sym, ap, ◌∙◌, arith}
use Rattle.lists.proofs.Laws.Booleans.{clash}
use Rattle.grammar.specs.Bytes.{blank}
use Rattle.grammar.specs.Look.{Word}
use Rattle.lists.specs.Lists.{those}
use Rattle.nodes.specs.Texts.{says_at, left}
use Rattle.numbers.specs.Numbers.{digits, value, parts, on_first, filled, words}
use Rattle.numbers.proofs.Laws.Cuts.{parts_some, words_none, words_blank, digits_split, value_below, powers}
use Rattle.numbers.specs.Stream.{char_at, stream, left_in, behind, leading}
use Rattle.numbers.proofs.Laws.Stream.{char_byte, char_end, behind_none, behind_one}
use Rattle.numbers.specs.Answers.{next_in_words, next_number}
use Rattle.numbers.specs.declared.Source.{Source}
use Rattle.numbers.specs.declared.Source.TheVariants.{Contents}
use Rattle.numbers.specs.declared.Next.{Next}
use Rattle.numbers.specs.declared.Next.TheVariants.{Number, End, Bad}

-- the first word of a text, and what is ahead of the place behind it
pub record First (w v : Word) (l : List Word) : Type 0 where
  pub rest : words (drop (leading blank w + length v) w) ≡ l
  pub fits : leading blank w + length v ≤ length w
  pub some : 0 < length v

rest_of : (w f : Word) (o : List Word) → parts blank w ≡ f ∷ o → (words (drop (length f) w) ≡ those filled o) × (length f ≤ length w)
unfolding parts on_first words those filled
rest_of [] f o e = let p : f ≡ [] = cc in let q : o ≡ [] = cc in (rw (p, q) refl, rw p (omega arith))
rest_of (b ∷ w) f o e = go (blank b) refl (λ g h. rest_of w g o h)
  where
    go : (t : Bool) → blank b ≡ t → ((g : Word) → parts blank w ≡ g ∷ o → (words (drop (length g) w) ≡ those filled o)
        × (length g ≤ length w)) → (words (drop (length f) (b ∷ w)) ≡ those filled o) × (length f ≤ length (b ∷ w))
    go true h ih =
        let q : [] ∷ parts blank w ≡ f ∷ o = sym (rw h refl) ∙ e in
        let p : f ≡ [] = cc in
        let k : parts blank w ≡ o = cc in
        (rw p (words_blank b w h ∙ ap (those filled) k), rw p (omega arith))
    go false h ih =
        let k = parts_some blank w in
        let q : (b ∷ k.first) ∷ k.others ≡ f ∷ o = sym (rw (h, k.are) refl) ∙ e in
        let p : f ≡ b ∷ k.first = cc in
        let x : k.others ≡ o = cc in
        let i = ih k.first (k.are ∙ ap (λ z. k.first ∷ z) x) in
        (rw p i.0, rw p (omega (arith, i.1)))

first_here : (a : ℕ) (w v : Word) (l : List Word) → blank a ≡ false → words (a ∷ w) ≡ v ∷ l → First (a ∷ w) v l
unfolding leading words parts on_first those filled
first_here a w v l h e =
    let k = parts_some blank w in
    let q : (a ∷ k.first) ∷ those filled k.others ≡ v ∷ l = sym (rw (h, k.are) refl) ∙ e in
    let p : v ≡ a ∷ k.first = cc in
    let x : those filled k.others ≡ l = cc in
    let i = rest_of w k.first k.others k.are in
    let n : 0 + suc (length k.first) ≡ suc (length k.first) = omega arith in
    record { rest = rw (h, p, n) (i.0 ∙ x); fits = rw (h, p) (omega (arith, i.1)); some = rw p (omega arith) }

pub first_is : (w v : Word) (l : List Word) → words w ≡ v ∷ l → First w v l
unfolding leading
first_is [] v l e = let empty : [] ≡ v ∷ l = sym words_none ∙ e in clash (cc)
first_is (a ∷ w) v l e = go (blank a) refl (λ h. first_is w v l h)
  where
    go : (t : Bool) → blank a ≡ t → (words w ≡ v ∷ l → First w v l) → First (a ∷ w) v l
    go false h ih = first_here a w v l h e
    go true h ih =
        let k = ih (sym (words_blank a w h) ∙ e) in
        let n : suc (leading blank w) + length v ≡ suc (leading blank w + length v) = omega arith in
        record { rest = rw (h, n) k.rest; fits = rw h (omega (arith, k.fits)); some = k.some }

-- what is ahead of the place behind n bytes
pub record Behind (source : Source) (text : List ℕ) (n i : ℕ) : Type 0 where
  pub rest : stream source text (behind source text n i) ≡ drop n (stream source text i)
  pub ahead : left_in source text (behind source text n i) + n ≤ left_in source text i

pub behind_law : (source : Source) (text : List ℕ) (n i : ℕ) → n ≤ length (stream source text i) → Behind source text n i
behind_law source text zero i h = (record {
  rest = rw (behind_none source text i) refl;
  ahead = rw (behind_none source text i) (omega arith);
})
behind_law source text (suc n) i h = go (char_at source text i) refl λ j k. behind_law source text n j k
  where
    go : (c : Option (ℕ × ℕ)) → char_at source text i ≡ c → ((j : ℕ) → n ≤ length (stream source text j) → Behind source text n j)
        → Behind source text (suc n) i
    go None e ih = let z : length (stream source text i) ≡ 0 = ap length (char_end source text i refl e) in absurd (omega arith)
    go (Some (b, j)) e ih =
        let m = char_byte source text i refl e in
        let q : length (stream source text i) ≡ suc (length (stream source text j)) = ap length m.splits in
        let k = ih j (omega arith) in
        let p = behind_one source text i e n in
        record { rest = rw (p, m.splits) k.rest; ahead = rw p (omega (arith, k.ahead, m.ahead)) }

-- THE LAWS OF `next_number`
pub record Handed (text : List ℕ) (i v j : ℕ) : Type 0 where
  pub word : Word
  pub in_form_lem : digits 1 7 word ≡ true
  pub valued : value word ≡ v
  pub splits : words (says_at text i) ≡ word ∷ words (says_at text j)
  pub ahead : left text j < left text i
  pub small : v < 10 ^ 7

pub record Wrong (text : List ℕ) (i : ℕ) : Type 0 where
  pub word : Word
  pub others : List Word
  pub out_of_form : digits 1 7 word ≡ false
  pub splits : words (says_at text i) ≡ word ∷ others

handed : (text : List ℕ) (i : ℕ) (w : Word) (l : List Word) → words (says_at text i) ≡ w ∷ l → digits 1 7 w ≡ true
    → Handed text i (value w) (behind Contents text (leading blank (says_at text i) + length w) i)
unfolding stream left_in
handed text i w l e h =
    let f = first_is (says_at text i) w l e in
    let b = behind_law Contents text (leading blank (says_at text i) + length w) i f.fits in
    let d = digits_split 1 7 w h in
    let p : 10 ^ length w ≤ 10 ^ 7 = powers (length w) 7 d.1.1 in
    record {
      word = w;
      in_form_lem = h;
      valued = refl;
      splits = e ∙ ap (λ z. w ∷ z) (sym (ap words b.rest ∙ f.rest));
      ahead = omega (arith, b.ahead, f.some);
      small = omega (arith, value_below w d.0);
    }

-- what is told, by answer
pub data Tells (text : List ℕ) (i : ℕ) : Next → Type 0 where
  tells_number : {v j : ℕ} → Handed text i v j → Tells text i (Number v j)
  tells_end : words (says_at text i) ≡ [] → Tells text i End
  tells_bad : Wrong text i → Tells text i Bad

pub next_tells : (text : List ℕ) (i : ℕ) → Tells text i (next_number text i)
unfolding next_number next_in_words
next_tells text i = go (words (says_at text i)) refl
  where
    shaped : (w : Word) (l : List Word) → words (says_at text i) ≡ w ∷ l → (t : Bool) → digits 1 7 w ≡ t
        → Tells text i (cond t (Number (value w) (behind Contents text (leading blank (says_at text i) + length w) i)) Bad)
    shaped w l e false h = tells_bad (record { word = w; others = l; out_of_form = h; splits = e })
    shaped w l e true h = tells_number (handed text i w l e h)

    go : (l : List Word) → words (says_at text i) ≡ l
        → Tells text i (next_in_words (λ n. behind Contents text (leading blank (says_at text i) + n) i) l)
    go [] e = tells_end e
    go (w ∷ l) e = shaped w l e (digits 1 7 w) refl

module _ (text : List ℕ) (i : ℕ) {r : Next} (e : r ≡ next_number text i) where
  told : Tells text i r
  told = rw e (next_tells text i)

  pub number_law : {v j : ℕ} → r ≡ Number v j → Handed text i v j
  number_law {v} {j} q = go r told q
    where
      go : (x : Next) → Tells text i x → x ≡ Number v j → Handed text i v j
      go x (tells_number {v = u} {j = k} h) q = let p : u ≡ v = cc in let s : k ≡ j = cc in rw (p, s) at h
      go x (tells_end h) q = clash (cc)
      go x (tells_bad h) q = clash (cc)

  pub end_law : r ≡ End → words (says_at text i) ≡ []
  end_law q = go r told q
    where
      go : (x : Next) → Tells text i x → x ≡ End → words (says_at text i) ≡ []
      go x (tells_number h) q = clash (cc)
      go x (tells_end h) q = h
      go x (tells_bad h) q = clash (cc)

  pub bad_law : r ≡ Bad → Wrong text i
  bad_law q = go r told q
    where
      go : (x : Next) → Tells text i x → x ≡ Bad → Wrong text i
      go x (tells_number h) q = clash (cc)
      go x (tells_end h) q = clash (cc)
      go x (tells_bad h) q = h
