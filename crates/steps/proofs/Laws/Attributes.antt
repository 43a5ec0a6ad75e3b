-- Lists of attributes, at a position of the text: one law for each way through the code.
use Rattle.std.specs.Prelude.{◌≡◌, refl, List, [], ◌∷◌, ◌++◌, ℕ, zero, suc, ◌+◌, ◌-◌, ◌≤◌, ◌<◌, Bool, true, false, not, ◌&&◌, ◌||◌, leb, ◌⊎◌, drop, get_or, set, Option, Some, None}
use Rattle.std.proofs.Math.Path.{ap, sym}
use Rattle.std.proofs.Common.{◌∙◌, append_assoc, append-nil, add-one, arith, le-leb, inl, inr, get_or-set_same, get_or-set_other}
use Rattle.std.proofs.lemmas.Bool.{not-true, not-false, lt-leb}
use Rattle.std.proofs.Math.ListN.{length, length-append, length-set}
use Rattle.lists.proofs.Laws.Booleans.{clash, and_false, and_no}
use Rattle.lists.proofs.Laws.Numbers.{lt?}
use Rattle.grammar.specs.Document.{Attribute, attribute}
use Rattle.grammar.specs.Read.{Read, fail, got, Reader, bind, test, all_of, many_step}
use Rattle.grammar.proofs.Laws.Read.{test_complete}
use Rattle.grammar.specs.Parser.{attribute_at_lem, attributes_at, ends, closing, same_bytes, absent, distinct}
use Rattle.grammar.proofs.Laws.Unfuelled.{all_of_step}
use Rattle.steps.specs.Step.{stepped, Went}
use Rattle.steps.proofs.Laws.Step.{at_end, arrives, refuses, went_on}
use Rattle.steps.proofs.Laws.Until.{bind_assoc, bind_each}
use Rattle.steps.specs.Noted.{part, among, noted, Spans, Within}
use Rattle.steps.specs.Keys.{named_at, keyed, Named}
use Rattle.steps.proofs.Laws.Keys.{named_found, named_missed, named_fails, named_reads_it, named_ahead}
use Rattle.steps.proofs.Laws.Keys.{name_there, attribute_eats}
use Rattle.steps.specs.declared.attributes.Key.{Key}

unfoldable pub names : List Attribute → List (List ℕ)
names [] = []
names (attribute n v ∷ l) = n ∷ names l

-- the tests behind the list
unfoldable pub finish : List Attribute → List Attribute → Reader (List Attribute)
finish done l r = bind (test (distinct (done ++ l)) r) (λ _ r₁. bind (test (leb (length (done ++ l)) 16) r₁) (λ _ r₂. got (done ++ l) r₂))

-- the rest of a list of attributes, behind some
unfoldable pub list_from : List Attribute → Reader (List Attribute)
list_from done s = bind (all_of (ends closing) attribute_at_lem s) (finish done)

from_none : (s : List ℕ) → attributes_at s ≡ list_from [] s
unfolding attributes_at list_from finish
from_none s = refl

finish_more : (done : List Attribute) (a : Attribute) (l : List Attribute) (r : List ℕ)
    → finish done (a ∷ l) r ≡ finish (done ++ (a ∷ [])) l r
unfolding finish
finish_more done a l r = let e : (done ++ (a ∷ [])) ++ l ≡ done ++ (a ∷ l) = append_assoc done (a ∷ []) l in rw e

finish_twice : (done l : List Attribute) (r : List ℕ) → distinct (done ++ l) ≡ false → finish done l r ≡ fail
unfolding finish bind test
finish_twice done l r e = rw e

finish_many : (done l : List Attribute) (r : List ℕ) → 16 < length (done ++ l) → finish done l r ≡ fail
unfolding finish bind test
finish_many done l r h = rw (lt-leb (length (done ++ l)) 16 h) (go (distinct (done ++ l)))
  where
    go : (t : Bool) → bind (test t r) (λ _ r₁. bind (test false r₁) (λ _ r₂. got (done ++ l) r₂)) ≡ fail
    go true = refl
    go false = refl

from_stop : (done : List Attribute) (s : List ℕ) → ends closing s ≡ true → distinct done ≡ true → length done ≤ 16
    → list_from done s ≡ got done s
unfolding list_from finish many_step bind
from_stop done s e d h = rw (
  all_of_step attribute_at_lem (ends closing) attribute_eats s,
  e,
  append-nil done,
  test_complete d s,
  test_complete (le-leb (length done) 16 h) s,
)

from_go : (done : List Attribute) (s : List ℕ) → ends closing s ≡ false
    → list_from done s ≡ bind (attribute_at_lem s) (λ a r. list_from (done ++ (a ∷ [])) r)
unfolding list_from many_step bind
from_go done s e =
    rw (all_of_step attribute_at_lem (ends closing) attribute_eats s, e, bind_assoc (attribute_at_lem s))
    (bind_each (attribute_at_lem s) _ _ λ a r.
    bind_assoc (all_of (ends closing) attribute_at_lem r) (λ l r₁. got (a ∷ l) r₁) (finish done)
    ∙ bind_each (all_of (ends closing) attribute_at_lem r) _ _ λ l r₁. finish_more done a l r₁)

bind_none : {A B : Type 0} (m : Read A) (f : A → List ℕ → Read B) → ((a : A) (r : List ℕ) → f a r ≡ fail) → bind m f ≡ fail
unfolding bind
bind_none fail f h = refl
bind_none (got a r) f h = h a r

-- a name twice
absent_in : (n m v : List ℕ) (d l : List Attribute) → same_bytes n m ≡ true → absent n (d ++ (attribute m v ∷ l)) ≡ false
unfolding absent
absent_in n m v [] l e = rw e
absent_in n m v (attribute x y ∷ d) l e = rw (absent_in n m v d l e) (and_false (not (same_bytes n x)))

twice : (m v : List ℕ) (done l : List Attribute) → among m (names done) ≡ true → distinct (done ++ (attribute m v ∷ l)) ≡ false
unfolding distinct names among
twice m v [] l e = clash (cc)
twice m v (attribute x y ∷ d) l e = go (same_bytes x m) refl (twice m v d l) e
  where
    go : (t : Bool) → same_bytes x m ≡ t → (among m (names d) ≡ true → distinct (d ++ (attribute m v ∷ l)) ≡ false)
        → (t || among m (names d)) ≡ true
        → (absent x (d ++ (attribute m v ∷ l)) && distinct (d ++ (attribute m v ∷ l))) ≡ false
    go true q ih k = rw (absent_in x m v d l q)
    go false q ih k = and_no (absent x (d ++ (attribute m v ∷ l))) (distinct (d ++ (attribute m v ∷ l))) (ih k)

-- a new name
absent_more : (n m v : List ℕ) (d : List Attribute) → absent n d ≡ true → same_bytes n m ≡ false
    → absent n (d ++ (attribute m v ∷ [])) ≡ true
unfolding absent
absent_more n m v [] e f = rw f
absent_more n m v (attribute x y ∷ d) e f = go (same_bytes n x) e (absent_more n m v d)
  where
    go : (t : Bool) → (not t && absent n d) ≡ true
        → (absent n d ≡ true → same_bytes n m ≡ false → absent n (d ++ (attribute m v ∷ [])) ≡ true)
        → (not t && absent n (d ++ (attribute m v ∷ []))) ≡ true
    go true k ih = clash (cc)
    go false k ih = ih k f

new : (m v : List ℕ) (done : List Attribute) → distinct done ≡ true → among m (names done) ≡ false
    → distinct (done ++ (attribute m v ∷ [])) ≡ true
unfolding distinct names among absent
new m v [] e f = refl
new m v (attribute x y ∷ d) e f = go (absent x d) (same_bytes x m) refl refl e f (new m v d)
  where
    go : (s t : Bool) → absent x d ≡ s → same_bytes x m ≡ t → (s && distinct d) ≡ true → (t || among m (names d)) ≡ false
        → (distinct d ≡ true → among m (names d) ≡ false → distinct (d ++ (attribute m v ∷ [])) ≡ true)
        → (absent x (d ++ (attribute m v ∷ [])) && distinct (d ++ (attribute m v ∷ []))) ≡ true
    go false t p q k l ih = clash (cc)
    go true true p q k l ih = clash (cc)
    go true false p q k l ih = rw (absent_more x m v d p q) (ih k l)

names_more : (done : List Attribute) (m v : List ℕ) → names (done ++ (attribute m v ∷ [])) ≡ names done ++ (m ∷ [])
unfolding names
names_more [] m v = refl
names_more (attribute x y ∷ d) m v = ap (λ l. x ∷ l) (names_more d m v)

from_twice : (done : List Attribute) (m v : List ℕ) (r : List ℕ) → among m (names done) ≡ true
    → list_from (done ++ (attribute m v ∷ [])) r ≡ fail
unfolding list_from
from_twice done m v r e = bind_none (all_of (ends closing) attribute_at_lem r) (finish (done ++ (attribute m v ∷ []))) λ l r₁. sym
    (finish_more done (attribute m v) l r₁) ∙ refused l r₁
  where
    refused : (l : List Attribute) (r₁ : List ℕ) → finish done (attribute m v ∷ l) r₁ ≡ fail
    refused l r₁ = finish_twice done (attribute m v ∷ l) r₁ (twice m v done l e)

from_many : (done : List Attribute) (a : Attribute) (r : List ℕ) → 16 ≤ length done → list_from (done ++ (a ∷ [])) r ≡ fail
unfolding list_from
from_many done a r h = bind_none (all_of (ends closing) attribute_at_lem r) (finish (done ++ (a ∷ []))) λ l r₁.
    let long : 16 < length ((done ++ (a ∷ [])) ++ l) = omega (arith, length-append (done ++ (a ∷ [])) l, length-append done (a ∷ [])) in
    finish_many (done ++ (a ∷ [])) l r₁ long

-- what holds at each turn
pub record Listing (text : List ℕ) (at : ℕ) (starts ends : List ℕ) (n i : ℕ) : Type 0 where
  pub done : List Attribute
  pub same_end : stepped (length text) (attributes_at (drop at text)) ≡ stepped (length text) (list_from done (drop i text))
  pub count : length done ≡ n
  pub apart : distinct done ≡ true
  pub named : names done ≡ noted text starts ends n
  pub spans : Spans text starts ends n
  pub room₁ : length starts ≡ 16
  pub room₂ : length ends ≡ 16

pub list_start_lem : (text : List ℕ) (at : ℕ) (starts ends : List ℕ) → length starts ≡ 16 → length ends ≡ 16 → Listing text at starts ends 0 at
unfolding names noted distinct
list_start_lem text at starts ends h k = record {
  done = [];
  same_end = ap (stepped (length text)) (from_none (drop at text));
  count = refl;
  apart = refl;
  named = refl;
  spans = record { few = omega arith; ahead = λ k l. absurd (omega arith); inside = λ k l. absurd (omega arith) };
  room₁ = h;
  room₂ = k;
}

-- places that are written behind the others
noted_set : (text starts ends : List ℕ) (n x y k : ℕ) → k ≤ n → noted text (set starts n x) (set ends n y) k ≡ noted text starts ends k
unfolding noted
noted_set text starts ends n x y zero h = refl
noted_set text starts ends n x y (suc k) h =
    let other : k ≡ n → ⊥ = λ e. omega arith in
    rw (noted_set text starts ends n x y k (omega arith), get_or-set_other starts n k x 0 other, get_or-set_other ends n k y 0 other)

noted_more : (text starts ends : List ℕ) (n x y : ℕ) → n < length starts → n < length ends
    → noted text (set starts n x) (set ends n y) (n + 1) ≡ noted text starts ends n ++ (part x y text ∷ [])
unfolding noted
noted_more text starts ends n x y h k =
    let l : n ≤ n = omega arith in
    rw (add-one n, noted, noted_set text starts ends n x y n l, get_or-set_same starts n x 0 h, get_or-set_same ends n y 0 k)

spans_more : (text starts tos : List ℕ) (n from to : ℕ) → n < length starts → n < length tos → Spans text starts tos n → (n ≡ 16 → ⊥)
    → from ≤ to → to ≤ length text
    → Spans text (set starts n from) (set tos n to) (n + 1)
spans_more text starts tos n from to h₁ h₂ s f a b =
    record { few = omega (arith, s.few); ahead = λ k l. ahead k l (lt? k n); inside = λ k l. inside k l (lt? k n) }
  where
    ahead : (k : ℕ) → k < n + 1 → (k < n) ⊎ (n ≤ k) → get_or (set starts n from) k 0 ≤ get_or (set tos n to) k 0
    ahead k l (inl m) = let o : k ≡ n → ⊥ = λ e. omega arith in
        rw (get_or-set_other starts n k from 0 o, get_or-set_other tos n k to 0 o) (s.ahead k m)
    ahead k l (inr m) = let e : k ≡ n = omega arith in rw (e, get_or-set_same starts n from 0 h₁, get_or-set_same tos n to 0 h₂) a

    inside : (k : ℕ) → k < n + 1 → (k < n) ⊎ (n ≤ k) → get_or (set tos n to) k 0 ≤ length text
    inside k l (inl m) = let o : k ≡ n → ⊥ = λ e. omega arith in rw (get_or-set_other tos n k to 0 o) (s.inside k m)
    inside k l (inr m) = let e : k ≡ n = omega arith in rw (e, get_or-set_same tos n to 0 h₂) b

here_inside : (text : List ℕ) (i : ℕ) → ends closing (drop i text) ≡ true → i ≤ length text
unfolding ends
here_inside text i e = go (lt? i (length text))
  where
    go : (i < length text) ⊎ (length text ≤ i) → i ≤ length text
    go (inl h) = omega arith
    go (inr h) = let q : drop i text ≡ [] = at_end text i h in let z : ends closing [] ≡ true = rw q at e in clash (cc)

-- an attribute that was read
attribute_went : (text : List ℕ) (i from to end : ℕ) → Named text i from to end → Went attribute_at_lem text i end
attribute_went text i from to end k = record {
  value = _;
  reads = named_reads_it text i from to end k;
  inside = k.value.inside;
  ahead = λ l. omega (
    arith,
    k.key.gap.ahead l,
    k.key.name.ahead k.key.gap.inside,
    k.key.equals.ahead k.key.name.inside,
    k.value.ahead k.key.equals.inside,
  );
}

module _ (text : List ℕ) (i : ℕ) {r : Option Key} (told : r ≡ keyed (length text) (named_at (drop i text))) {spot : Key}
    (here : r ≡ Some spot) where
  pub list_less : length text - spot.end < length text - i
  list_less =
      let went = attribute_went text i spot.from spot.to spot.end (named_found text i told here) in
      let on : i < spot.end = went_on went (attribute_eats (drop i text)) in
      omega (arith, went.inside)

module _ (text : List ℕ) (at : ℕ) (starts tos : List ℕ) (n i : ℕ) (go : Listing text at starts tos n i) where
  abbrev Answer : Option ℕ → Type 0
  Answer r = r ≡ stepped (length text) (attributes_at (drop at text))

  module _ {r : Option Key} (told : r ≡ keyed (length text) (named_at (drop i text))) {spot : Key} (here : r ≡ Some spot) where
    pub list_within : Within text starts tos n spot.from spot.to
    list_within =
        let k = named_found text i told here in
        record { spans = go.spans; ahead = named_ahead text i spot.from spot.to spot.end k; inside = k.key.name.inside }

  module _ {t : Bool} (is : t ≡ ends closing (drop i text)) where
    pub list_ends : not t ≡ false → Answer (Some i)
    list_ends e =
        let stop = sym is ∙ not-false t e in
        let short : length go.done ≤ 16 = omega (arith, go.count, go.spans.few) in
        arrives text (list_from go.done (drop i text)) i (here_inside text i stop)
        (from_stop go.done (drop i text) stop go.apart short) ∙ sym go.same_end

    module _ (e : not t ≡ true) where
      onward : list_from go.done (drop i text) ≡ bind (attribute_at_lem (drop i text)) (λ a r. list_from (go.done ++ (a ∷ [])) r)
      onward = from_go go.done (drop i text) (sym is ∙ not-true t e)

      pub list_many : n ≡ 16 → Answer None
      list_many h =
          let full : 16 ≤ length go.done = omega (arith, go.count) in
          refuses (length text) (list_from go.done (drop i text))
          (onward ∙ bind_none (attribute_at_lem (drop i text)) _ λ a r. from_many go.done a r full) ∙ sym go.same_end

      module _ {r : Option Key} (told : r ≡ keyed (length text) (named_at (drop i text))) where
        pub list_bad : r ≡ None → Answer None
        unfolding bind
        list_bad k = refuses (length text) (list_from go.done (drop i text))
            (onward ∙ rw (named_fails text i (named_missed text i told k))) ∙ sym go.same_end

        module _ {spot : Key} (here : r ≡ Some spot) {u : Bool}
            (seen : u ≡ among (part spot.from spot.to text) (noted text starts tos n)) where
          found : Named text i spot.from spot.to spot.end
          found = named_found text i told here

          fresh : Attribute
          fresh = attribute found.key.name.value found.value.value

          behind : list_from go.done (drop i text) ≡ list_from (go.done ++ (fresh ∷ [])) (drop spot.end text)
          unfolding bind fresh
          behind = onward ∙ rw (named_reads_it text i spot.from spot.to spot.end found)

          seen_among : among found.key.name.value (names go.done) ≡ u
          seen_among = rw (name_there text i spot.from spot.to spot.end found, go.named) (sym seen)

          pub list_twice : u ≡ true → Answer None
          unfolding fresh
          list_twice k = refuses (length text) (list_from go.done (drop i text))
              (behind ∙ from_twice go.done found.key.name.value found.value.value (drop spot.end text) (seen_among ∙ k))
              ∙ sym go.same_end

          pub list_more : (n ≡ 16 → ⊥) → u ≡ false → Listing text at (set starts n spot.from) (set tos n spot.to) (n + 1) spot.end
          unfolding fresh
          list_more f k =
              let few = go.spans.few in
              let fits₁ : n < length starts = omega (arith, go.room₁) in
              let fits₂ : n < length tos = omega (arith, go.room₂) in
              record {
                done = go.done ++ (fresh ∷ []);
                same_end = go.same_end ∙ ap (stepped (length text)) behind;
                count = length-append go.done (fresh ∷ []) ∙ ap (λ m. m + 1) go.count;
                apart = new found.key.name.value found.value.value go.done go.apart (seen_among ∙ k);
                named = names_more go.done found.key.name.value found.value.value
                    ∙ rw (go.named, name_there text i spot.from spot.to spot.end found, noted_more text starts tos n spot.from spot.to fits₁ fits₂);
                spans = spans_more text starts tos n spot.from spot.to fits₁ fits₂ go.spans f (named_ahead text i spot.from spot.to spot.end found)
                    found.key.name.inside;
                room₁ = length-set starts n spot.from ∙ go.room₁;
                room₂ = length-set tos n spot.to ∙ go.room₂;
              }
