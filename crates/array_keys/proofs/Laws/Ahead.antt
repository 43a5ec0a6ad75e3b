-- Where a text is in form, its keys are those ahead of its start.
use Rattle.std.specs.Prelude.{◌≡◌, List, [], ◌∷◌, Bool, true, false, cond, ℕ, ◌+◌, ◌*◌, ◌%◌, ◌<◌, ◌≤◌, eqb, ℤ, Option, Some, None}
use Rattle.std.proofs.Math.Path.{refl, sym, ap}
use Rattle.std.proofs.Common.{subst, ◌∙◌, arith, rules}
use Rattle.std.proofs.Math.ListN.{length}
use Rattle.std.proofs.Math.Seq.{drop-length}
use Rattle.lists.specs.Lists.{all, each, is_some}
use Rattle.lists.proofs.Laws.Booleans.{and_halves, never_some, both_ways}
use Rattle.grammar.specs.Look.{Word}
use Rattle.grammar.specs.Parser.{look, look_if}
use Rattle.nodes.specs.TextBytes.{step, step_by, say}
use Rattle.nodes.proofs.Laws.TextBytes.{says, says_step}
use Rattle.nodes.specs.Texts.{says_at, inside, text_of_lem}
use Rattle.nodes.proofs.Laws.TextSteps.{says_at_outside, left_most, text_none, text_some}
use Rattle.numbers.specs.Numbers.{words, key, key_value, key_list, listed_keys}
use Rattle.base64_text.specs.Base64.{unblanked, worth, sixes, three_bytes, three_more, four_ending, four_values, decode, bytes_in, coded}
use Rattle.base64_text.specs.Fours.{Endian, big, little, keys_in, bytes_or, coded_keys, coded_bytes}
use Rattle.base64_reader.specs.Groups.{letters_at, low_bytes, four_read, four_ahead, bytes_ahead}
use Rattle.keys.specs.KeyLists as lists
use Rattle.keys.specs.declared.key_lists.ListedKey.{ListedKey}
use Rattle.keys.specs.declared.key_lists.ListedKey.TheVariants as listed
use Rattle.array_keys.specs.Ahead.{keys_before, held_bytes, bytes_from, coded_ahead, keys_ahead, spare_bytes, keys_left, key_start_in}
use Rattle.array_keys.specs.Ahead.{keys_start, KeyTold, told_key, told_end, encoding_if}
use Rattle.array_keys.specs.declared.Encoding.{Encoding}
use Rattle.array_keys.specs.declared.Encoding.TheVariants.{Plain, Big, Little}
use Rattle.array_keys.specs.declared.KeyPlace.{KeyPlace}
use Rattle.array_keys.specs.declared.NextKey.{NextKey}
use Rattle.array_keys.specs.declared.NextKey.TheVariants.{Key, End}

-- ---- The start.

module _ (text : List ℕ) (at : ℕ) {f : Option ℕ} (e : f ≡ inside text at) where
  pub start_there : {i : ℕ} → f ≡ Some i → {p : KeyPlace} → p ≡ record { at = i; held = 0; bytes = 0 } → p ≡ keys_start text at
  unfolding keys_start key_start_in
  start_there h q = q ∙ sym (ap (key_start_in text) (sym e ∙ h))

  pub start_nowhere : f ≡ None → {p : KeyPlace} → p ≡ record { at = length text; held = 0; bytes = 0 } → p ≡ keys_start text at
  unfolding keys_start key_start_in
  start_nowhere h q = q ∙ sym (ap (key_start_in text) (sym e ∙ h))

pub ruleset starting = (start_there, start_nowhere, rules)

no_more : says [] ≡ []
unfolding step step_by look look_if say
no_more = says_step []

nothing_at_end : (text : List ℕ) → says_at text (length text) ≡ []
nothing_at_end text = says_at_outside text (length text) (omega arith) ∙ ap says (drop-length text) ∙ no_more

start_says : (text : List ℕ) (at : ℕ) → says_at text (keys_start text at).at ≡ text_of_lem text at
unfolding keys_start key_start_in
start_says text at = go (inside text at) refl
  where
    go : (f : Option ℕ) → inside text at ≡ f → says_at text (key_start_in text f).at ≡ text_of_lem text at
    go (Some i) e = sym (text_some text at e)
    go None e = nothing_at_end text ∙ sym (text_none text at e)

start_held : (text : List ℕ) (at : ℕ) → held_bytes (keys_start text at) ≡ []
unfolding keys_start key_start_in held_bytes low_bytes
start_held text at = go (inside text at)
  where
    go : (f : Option ℕ) → held_bytes (key_start_in text f) ≡ []
    go (Some i) = refl
    go None = refl

-- ---- Words.

all_keys : (l : List Word) → all key l ≡ true → keys_before l ≡ each key_value l
unfolding all each keys_before
all_keys [] h = refl
all_keys (w ∷ l) h = let (k, m) = and_halves (key w) (all key l) h in rw (k, all_keys l m) refl

-- The keys of a list are ahead of its start.
pub plain_keys : (text : List ℕ) (at : ℕ) → key_list (text_of_lem text at) ≡ true
    → keys_ahead Plain text (keys_start text at) ≡ listed_keys (text_of_lem text at)
unfolding keys_ahead key_list listed_keys
plain_keys text at h = ap (λ w. keys_before (words w)) (start_says text at) ∙ all_keys (words (text_of_lem text at)) h

module _ {text : List ℕ} {from : KeyPlace} {r : ListedKey} (t : lists.ListedKeyTold text from.at r) where
  pub plain_key : {z : ℤ} {j : ℕ} → r ≡ listed.Key z j → {p : KeyPlace} → p ≡ record { at = j; held = 0; bytes = 0 }
      → KeyTold Plain text from (Key z p)
  unfolding keys_ahead keys_before keys_left spare_bytes
  plain_key {z} {j} e {p} q =
      let f = t.on_key e in
      told_key {z = z} {q = p} (rw (f.splits, f.in_form_lem, q) (ap (λ x. x ∷ keys_before (words (says_at text j))) (sym f.valued)))
      refl (rw q f.less)

  pub plain_end : r ≡ listed.End → KeyTold Plain text from (End 0)
  unfolding keys_ahead keys_before spare_bytes
  plain_end e = told_end (rw (t.on_end e) refl) refl

  pub plain_bad : r ≡ listed.Bad → KeyTold Plain text from (End 0)
  unfolding keys_ahead keys_before spare_bytes
  plain_bad e = let f = t.on_bad e in told_end (rw (f.splits, f.out_of_form) refl) refl

pub ruleset plainly = (plain_key, plain_end, plain_bad, rules)

-- ---- Base64.

more_found : (n : ℕ) (m : Option (List ℕ)) (l w : List ℕ) → ((k : List ℕ) → m ≡ Some k → l ≡ k) → three_more n m ≡ Some w
    → three_bytes n l ≡ w
unfolding three_more
more_found n None l w ih e = never_some e
more_found n (Some k) l w ih e = let z : three_bytes n k ≡ w = cc in ap (three_bytes n) (ih k refl) ∙ z

some_or : (m : Option (List ℕ)) (l : List ℕ) → m ≡ Some l → bytes_or m ≡ l
unfolding bytes_or
some_or m l e = rw e refl

four_all : (p q r s : ℕ) (w : Word) (m : Option (List ℕ)) (k l : List ℕ) → ((x : List ℕ) → m ≡ Some x → k ≡ x)
    → four_read p q r s w m ≡ Some l → four_ahead p q r s w k ≡ l
unfolding four_read four_ahead
four_all p q r s w m k l ih e = go (eqb s 65) (four_values p q r s) e
  where
    go : (t u : Bool) → cond t (four_ending p q r w) (cond u (three_more (sixes p q r s) m) None) ≡ Some l
        → cond t (bytes_or (four_ending p q r w)) (cond u (three_bytes (sixes p q r s) k) []) ≡ l
    go true u x = some_or (four_ending p q r w) l x
    go false true x = more_found (sixes p q r s) m k l ih x
    go false false x = never_some x

-- Where a word is Base64, reading finds all its bytes.
pub all_bytes : (w l : List ℕ) → decode w ≡ Some l → bytes_ahead w ≡ l
unfolding decode bytes_ahead four_read
all_bytes [] l e = cc
all_bytes (a ∷ []) l e = never_some e
all_bytes (a ∷ b ∷ []) l e = never_some e
all_bytes (a ∷ b ∷ c ∷ []) l e = never_some e
all_bytes (a ∷ b ∷ c ∷ d ∷ w) l e =
    four_all (worth a) (worth b) (worth c) (worth d) w (decode w) (bytes_ahead w) l (λ x q. all_bytes w x q) e

-- The bytes of Base64 are those from its start on.
bytes_all : (text : List ℕ) (at : ℕ) → coded (text_of_lem text at) ≡ true
    → bytes_from text (keys_start text at) ≡ bytes_or (bytes_in (text_of_lem text at))
unfolding bytes_from coded bytes_in letters_at bytes_or is_some
bytes_all text at h = rw (start_held text at, start_says text at) (go (decode (unblanked (text_of_lem text at))) refl h)
  where
    go : (m : Option (List ℕ)) → decode (unblanked (text_of_lem text at)) ≡ m → is_some m ≡ true
        → bytes_ahead (unblanked (text_of_lem text at)) ≡ bytes_or m
    go None q s = both_ways s refl
    go (Some l) q s = all_bytes (unblanked (text_of_lem text at)) l q

module _ (text : List ℕ) (at : ℕ) (h : coded (text_of_lem text at) ≡ true) where
  pub big_keys : keys_ahead Big text (keys_start text at) ≡ coded_keys big (text_of_lem text at)
  unfolding keys_ahead coded_ahead coded_keys
  big_keys = ap (keys_in big) (bytes_all text at h)

  pub little_keys : keys_ahead Little text (keys_start text at) ≡ coded_keys little (text_of_lem text at)
  unfolding keys_ahead coded_ahead coded_keys
  little_keys = ap (keys_in little) (bytes_all text at h)

  pub big_spare : spare_bytes Big text (keys_start text at) ≡ coded_bytes (text_of_lem text at) % 4
  unfolding spare_bytes coded_bytes
  big_spare = ap (λ l. length l % 4) (bytes_all text at h)

  pub little_spare : spare_bytes Little text (keys_start text at) ≡ coded_bytes (text_of_lem text at) % 4
  unfolding spare_bytes coded_bytes
  little_spare = ap (λ l. length l % 4) (bytes_all text at h)

-- four bytes a key, and those left over
pub key_bytes_lem : (e : Endian) (l : List ℕ) → length l ≡ 4 * length (keys_in e l) + length l % 4
unfolding keys_in
key_bytes_lem e [] = refl
key_bytes_lem e (a ∷ []) = refl
key_bytes_lem e (a ∷ b ∷ []) = refl
key_bytes_lem e (a ∷ b ∷ c ∷ []) = refl
key_bytes_lem e (a ∷ b ∷ c ∷ d ∷ l) = let k = key_bytes_lem e l in omega arith

-- ---- In whatever encoding.

pub start_left : (text : List ℕ) (at : ℕ) → keys_left text (keys_start text at) ≤ length text
unfolding keys_left
start_left text at = left_most text (keys_start text at).at

module _ {encoding : Encoding} {text : List ℕ} {from : KeyPlace} {r : NextKey} where
  pub next_plain : encoding ≡ Plain → KeyTold Plain text from r → KeyTold encoding text from r
  next_plain e t = rw e t

  pub next_big : encoding ≡ Big → KeyTold (encoding_if false) text from r → KeyTold encoding text from r
  unfolding encoding_if
  next_big e t = rw e t

  pub next_little : encoding ≡ Little → KeyTold (encoding_if true) text from r → KeyTold encoding text from r
  unfolding encoding_if
  next_little e t = rw e t

pub ruleset choosing = (next_plain, next_big, next_little, rules)

-- ---- What each answer says of the keys ahead.

pub record Handed (encoding : Encoding) (text : List ℕ) (p : KeyPlace) (z : ℤ) (q : KeyPlace) : Type 0 where
  pub splits : keys_ahead encoding text p ≡ z ∷ keys_ahead encoding text q
  pub spare : spare_bytes encoding text p ≡ spare_bytes encoding text q
  pub less : keys_left text q < keys_left text p

module _ {encoding : Encoding} {text : List ℕ} {p : KeyPlace} {r : NextKey} (t : KeyTold encoding text p r) where
  pub key_law : {z : ℤ} {q : KeyPlace} → r ≡ Key z q → Handed encoding text p z q
  key_law {z} {q} e = by (subst (λ (x : NextKey). KeyTold encoding text p x) e t)
    where
      by : KeyTold encoding text p (Key z q) → Handed encoding text p z q
      by (told_key h s k) = record { splits = h; spare = s; less = k }

  pub end_law : {n : ℕ} → r ≡ End n → (keys_ahead encoding text p ≡ []) × (n ≡ spare_bytes encoding text p)
  end_law {n} e = by (subst (λ (x : NextKey). KeyTold encoding text p x) e t)
    where
      by : KeyTold encoding text p (End n) → (keys_ahead encoding text p ≡ []) × (n ≡ spare_bytes encoding text p)
      by (told_end h s) = (h, s)
