-- What is proved of Attributes.
use Rattle.std.specs.Prelude.{◌≡◌, refl, List, [], ◌∷◌, ◌++◌, ℕ, zero, suc, ◌+◌, ◌-◌, ◌≤◌, ◌<◌, Bool, true, false, cond, leb, drop, Option, Some, None}
use Rattle.std.proofs.Common.{ap, sym, ◌∙◌, append_assoc, arith, length-append, drop-drop}
use Prim.Native.String.{String}
use Rattle.std.proofs.Math.ListN.{length}
use Rattle.grammar.specs.Bytes.{ascii}
use Rattle.grammar.specs.Document.{Attribute, attribute}
use Rattle.grammar.specs.Grammar.{Gap, gap}
use Rattle.grammar.specs.Look.{attributes_of, value_in, is}
use Rattle.grammar.specs.Read.{Read, fail, got, Reader, bind, test, all_of, many_step}
use Rattle.grammar.proofs.Laws.Read.{Ok, good, ok_got, bind_ok}
use Rattle.grammar.proofs.Laws.Read.{test_sound}
use Rattle.grammar.specs.Parser.{name_at, gap_at, equals_at, value_at, attribute_at_lem, attributes_at, ends, closing, same_bytes, distinct}
use Rattle.grammar.proofs.Laws.Sound.{attribute_sound, gap_sound, name_sound, equals_sound, value_sound}
use Rattle.grammar.proofs.Laws.Tokens.{attribute_long}
use Rattle.grammar.proofs.Laws.Unfuelled.{less, no_more_than, all_of_step}
use Rattle.steps.proofs.Laws.Step.{Tails, tails}
use Rattle.steps.proofs.Laws.Until.{bind_assoc, bind_each}
use Rattle.steps.proofs.Laws.Leaves.{name_tails}
use Rattle.nodes.specs.Places.{Stands, the, pick}
use Rattle.nodes.proofs.Laws.Places.{unbind, Tail, tail_of, tail_more, tail_read}
use Rattle.nodes.proofs.Laws.ReadSteps.{spelled}
use Rattle.nodes.proofs.Laws.Names.{ending_attributes}
use Rattle.nodes.specs.Attributes.{key_bytes_lem, Key, key, keys_then, keys_by_lem, keys_within, keys_at_lem, keys_in, keys, place_in, place}
use Rattle.nodes.specs.Attributes.{ValueAt, list_at, First, lookup}

-- fuel changes nothing
pub key_eats : (s : List ℕ) → Ok (λ _ r. length r < length s) (key_bytes_lem s)
unfolding key_bytes_lem
key_eats s =
    bind_ok (gap_sound s) λ u r₁ h₁.
    bind_ok (name_sound r₁) λ n r₂ h₂.
    bind_ok (equals_sound r₂) λ _ r₃ h₃.
    good (omega (
      arith,
      long h₁.1,
      length-append u r₁,
      ap length h₁.0,
      length-append n r₂,
      ap length h₂.0,
      length-append h₃.0 r₃,
      ap length h₃.1,
    ))
  where
    long : {u : List ℕ} → Gap u → 0 < length u
    long (gap h k) = omega arith

pub value_keeps : (s : List ℕ) → Ok (λ _ r. length r ≤ length s) (value_at s)
value_keeps s = no_more_than (value_sound s)

then_same : (m : Read (List ℕ)) (f g : List ℕ → List Key) (s : List ℕ) → Ok (λ _ r. length r ≤ length s) m
    → ((r : List ℕ) → length r ≤ length s → f r ≡ g r) → keys_then m f ≡ keys_then m g
unfolding keys_then
then_same fail f g s h k = refl
then_same (got x r) f g s (good h) k = k r h

by_same : (n : ℕ) (m : Read (List ℕ)) (f g : List ℕ → List Key) (s : List ℕ) → Ok (λ _ r. length r < length s) m
    → ((r : List ℕ) → length r < length s → f r ≡ g r) → keys_by_lem n m f ≡ keys_by_lem n m g
unfolding keys_by_lem
by_same n fail f g s h k = refl
by_same n (got w r) f g s (good h) k = ap (λ l. key w (n - length r) ∷ l)
    (then_same (value_at r) f g r (value_keeps r) (λ r₁ h₁. k r₁ (omega arith)))

keys_suc : (m n : ℕ) (s : List ℕ) → keys_within (suc m) n s ≡ pick (ends closing s) [] (keys_by_lem n (key_bytes_lem s) (keys_within m n))
unfolding keys_within
keys_suc m n s = refl

keys_enough : (m k n : ℕ) (s : List ℕ) → length s < m → length s < k → keys_within m n s ≡ keys_within k n s
keys_enough zero k n s h j = absurd (omega arith)
keys_enough (suc m) zero n s h j = absurd (omega arith)
keys_enough (suc m) (suc k) n s h j =
    rw (keys_suc m n s, keys_suc k n s)
    (ap (λ l. pick (ends closing s) [] l)
    (by_same n (key_bytes_lem s) (keys_within m n) (keys_within k n) s (key_eats s)
    (λ r l. keys_enough m k n r (omega arith) (omega arith))))

pub keys_step : (n : ℕ) (s : List ℕ) → keys_at_lem n s ≡ pick (ends closing s) [] (keys_by_lem n (key_bytes_lem s) (keys_at_lem n))
unfolding keys_at_lem
keys_step n s =
    keys_suc (length s) n s
    ∙ ap (λ l. pick (ends closing s) [] l)
    (by_same n (key_bytes_lem s) (keys_within (length s) n) (keys_at_lem n) s (key_eats s)
    (λ r l. keys_enough (length s) (suc (length r)) n r l (omega arith)))

-- THE LAW OF ATTRIBUTES: the keys hold the attributes, one by one
pub data Hold (text : List ℕ) : List Key → List Attribute → Type 0 where
  no_key : Hold text [] []
  one_key : {n : List ℕ} {v : ℕ} {x : List ℕ} {ks : List Key} {l : List Attribute} → ValueAt text v x → Hold text ks l
      → Hold text (key n v ∷ ks) (attribute n x ∷ l)

unfoldable pair_at : List ℕ → Reader Attribute
pair_at n s = bind (value_at s) (λ v r. got (attribute n v) r)

attribute_split : (s : List ℕ) → attribute_at_lem s ≡ bind (key_bytes_lem s) (λ n r. pair_at n r)
unfolding attribute_at_lem key_bytes_lem pair_at bind
attribute_split s =
    rw (bind_assoc (gap_at s))
    (bind_each (gap_at s) _ _ λ _ r₁.
    rw (bind_assoc (name_at r₁))
    (bind_each (name_at r₁) _ _ λ n r₂.
    rw (bind_assoc (equals_at r₂))))

list_step : (s : List ℕ) → list_at s ≡ many_step (ends closing s) attribute_at_lem list_at s
unfolding list_at
list_step s = all_of_step attribute_at_lem (ends closing) (λ s. less (λ _ w h. attribute_long h) (attribute_sound s)) s

list_end : (s : List ℕ) → ends closing s ≡ true → list_at s ≡ got [] s
unfolding many_step
list_end s e = rw (list_step s, e)

list_more : (s : List ℕ) → ends closing s ≡ false
    → list_at s ≡ bind (bind (key_bytes_lem s) (λ n r. pair_at n r)) (λ a r. bind (list_at r) (λ l r₁. got (a ∷ l) r₁))
unfolding many_step
list_more s e = rw (list_step s, e, attribute_split s)

first_of : (s : List ℕ) (l : List Attribute) (r : List ℕ) → ends closing s ≡ false → list_at s ≡ got l r → First s l
unfolding pair_at
first_of s l r e h =
    let b₁ = unbind (bind (key_bytes_lem s) (λ n r. pair_at n r)) (λ a r. bind (list_at r) (λ l r₁. got (a ∷ l) r₁))
    (sym (list_more s e) ∙ h) in
    let b₀ = unbind (key_bytes_lem s) (λ n r. pair_at n r) b₁.reads in
    let b₂ = unbind (value_at b₀.rest) (λ v r. got (attribute b₀.value v) r) b₀.then in
    let b₃ = unbind (list_at b₁.rest) (λ l r₁. got (b₁.value ∷ l) r₁) b₁.then in
    let z₂ = b₂.then in
    let z₃ = b₃.then in
    let q₁ : b₂.rest ≡ b₁.rest = cc in
    let q₂ : attribute b₀.value b₂.value ≡ b₁.value = cc in
    let q₃ : b₁.value ∷ b₃.value ≡ l = cc in
    record {
      name = b₀.value;
      behind_key = b₀.rest;
      key_reads = b₀.reads;
      says = b₂.value;
      behind = b₂.rest;
      reads = b₂.reads;
      more = b₃.value;
      last = b₃.rest;
      lists = ap list_at q₁ ∙ b₃.reads;
      same_list = sym (ap (λ a. a ∷ b₃.value) q₂ ∙ q₃);
    }

key_tails : (s : List ℕ) → Ok (Tails s) (key_bytes_lem s)
unfolding key_bytes_lem
key_tails s =
    bind_ok (gap_sound s) λ u r₁ h₁.
    bind_ok (name_sound r₁) λ n r₂ h₂.
    bind_ok (equals_sound r₂) λ _ r₃ h₃.
    good (u ++ (n ++ h₃.0), simp append_assoc (let e₁ = h₁.0 in let e₂ = h₂.0 in let e₃ = h₃.1 in cc))

module _ (text : List ℕ) where
  hold_end : (s : List ℕ) (l : List Attribute) (r : List ℕ) → ends closing s ≡ true → list_at s ≡ got l r
      → Hold text (keys_at_lem (length text) s) l
  hold_end s l r e h = let z = list_end s e in let w : l ≡ [] = cc in rw (keys_step (length text) s, e, w) no_key

  hold_more : (s : List ℕ) (l : List Attribute) → Tail text s → ends closing s ≡ false → (f : First s l)
      → (Tail text f.behind → Hold text (keys_at_lem (length text) f.behind) f.more) → Hold text (keys_at_lem (length text) s) l
  unfolding keys_by_lem keys_then
  hold_more s l tail e f ih =
      let t₁ : Tail text f.behind_key = tail_read (key_tails s) f.key_reads tail in
      let t₂ : Tail text f.behind = tail_read (tails (value_sound f.behind_key)) f.reads t₁ in
      let v : ValueAt text (length text - length f.behind_key) f.says =
      record { inside = omega arith; rest = f.behind; reads = rw t₁.stands f.reads } in
      rw (keys_step (length text) s, e, f.key_reads, f.reads, f.same_list) (one_key v (ih t₂))

  hold_within : (m : ℕ) (s : List ℕ) → length s < m → Tail text s → (l : List Attribute) (r : List ℕ) → list_at s ≡ got l r
      → Hold text (keys_at_lem (length text) s) l
  hold_within zero s h tail l r e = absurd (omega arith)
  hold_within (suc m) s h tail l r e = go (ends closing s) refl (λ s₁ k t₁ l₁ r₁ e₁. hold_within m s₁ k t₁ l₁ r₁ e₁)
    where
      go : (t : Bool) → ends closing s ≡ t
          → ((s₁ : List ℕ) → length s₁ < m → Tail text s₁ → (l₁ : List Attribute) (r₁ : List ℕ) → list_at s₁ ≡ got l₁ r₁
          → Hold text (keys_at_lem (length text) s₁) l₁) → Hold text (keys_at_lem (length text) s) l
      go true q ih = hold_end s l r q e
      go false q ih =
          let f = first_of s l r q e in
          let x : length f.behind_key < length s = ok_got (rw f.key_reads at (key_eats s)) in
          let y : length f.behind ≤ length f.behind_key = ok_got (rw f.reads at (value_keeps f.behind_key)) in
          hold_more s l tail q f (λ t. ih f.behind (omega arith) t f.more f.last f.lists)

listed : (s : List ℕ) (l : List Attribute) (r : List ℕ) → attributes_at s ≡ got l r → list_at s ≡ got l r
unfolding attributes_at list_at
listed s l r h =
    let b₁ = unbind (all_of (ends closing) attribute_at_lem s) _ h in
    let b₂ = unbind (test (distinct b₁.value) b₁.rest) _ b₁.then in
    let b₃ = unbind (test (leb (length b₁.value) 16) b₂.rest) _ b₂.then in
    let z₁ = (ok_got (rw b₂.reads at (test_sound (distinct b₁.value) b₁.rest))).1 in
    let z₂ = (ok_got (rw b₃.reads at (test_sound (leb (length b₁.value) 16) b₂.rest))).1 in
    let z₃ = b₃.then in
    let z₄ = b₁.reads in cc

pub keys_law : {text : List ℕ} {at : ℕ} → Stands text at → Hold text (keys text at) (attributes_of (the text at))
unfolding keys keys_in
keys_law {text} {at} st =
    let p = spelled (drop at text) (the text at) st.rest st.reads in
    let q : drop (at + 1) text ≡ p.behind_open = sym (drop-drop 1 at text) ∙ ap (drop 1) p.opens in
    let t₁ = tail_more (60 ∷ []) p.behind_open p.opens (tail_of text at) in
    let t₂ = tail_read (name_tails p.behind_open) p.names t₁ in
    rw (q, p.names, ending_attributes p.ending)
    (hold_within text (suc (length p.behind_name)) p.behind_name (omega arith) t₂ p.attributes p.behind_all
    (listed p.behind_name p.attributes p.behind_all p.lists))

pub lookup_is : (s : String) (l : List Attribute) → lookup (ascii s) l ≡ value_in s l
unfolding lookup value_in is
lookup_is s [] = refl
lookup_is s (attribute n v ∷ l) = ap (λ o. cond (same_bytes n (ascii s)) (Some v) o) (lookup_is s l)

-- what was found, and what the document has
pub data Held (text : List ℕ) : Option ℕ → Option (List ℕ) → Type 0 where
  missing : Held text None None
  held : {v : ℕ} {x : List ℕ} → ValueAt text v x → Held text (Some v) (Some x)

held_place : {text : List ℕ} (w : List ℕ) {ks : List Key} {l : List Attribute} → Hold text ks l → Held text (place_in w ks) (lookup w l)
unfolding place_in lookup
held_place w no_key = missing
held_place {text} w (one_key {n} {v} {x} {ks} {l} k h) = go (same_bytes n w) (held_place w h)
  where
    go : (t : Bool) → Held text (place_in w ks) (lookup w l) → Held text (pick t (Some v) (place_in w ks)) (cond t (Some x) (lookup w l))
    go true r = held k
    go false r = r

pub attribute_law : {text : List ℕ} {at : ℕ} (w : List ℕ) → Stands text at
    → Held text (place text at w) (lookup w (attributes_of (the text at)))
unfolding place
attribute_law w st = held_place w (keys_law st)
