-- What is proved of Treads.
use Rattle.std.specs.Prelude.{◌≡◌, refl, List, [], ◌∷◌, Bool, true, false, cond, ◌&&◌, eqb, length, drop, Option, Some, None, ℕ}
use Rattle.std.proofs.Math.Path.{ap, sym}
use Rattle.std.proofs.Common.{◌∙◌, length-drop, rules, eqb-true, eq-eqb}
use Prim.Native.Nat.{ℕ, zero, suc, ◌-◌, ◌≤◌, ◌<◌}
use Prim.Native.String.{String}
use native.Mathlib.Omega.{arith}
use Rattle.std.proofs.Math.Decide.{ℕ_discrete}
use Rattle.lists.specs.Lists.{those}
use Rattle.lists.proofs.Laws.Booleans.{both_ways, and_left, and_right, and_both}
use Rattle.grammar.specs.Bytes.{ascii}
use Rattle.grammar.specs.Document.{Element}
use Rattle.grammar.specs.Look.{is, name_of}
use Rattle.grammar.specs.Parser.{parse}
use Rattle.grammar.specs.Read.{Read, fail, got}
use Rattle.grammar.proofs.Laws.Read.{Ok, good}
use Rattle.nodes.specs.Places.{Stands, the}
use Rattle.nodes.specs.Scan.{skip_at, tag_at}
use Rattle.nodes.proofs.Laws.Scanned.{skip_less, Less}
use Rattle.nodes.specs.ScanSteps.{tag_told}
use Rattle.nodes.specs.Children.{kid_then, kid_at, first_child, next}
use Rattle.nodes.proofs.Laws.Children.{kid_left, left}
use Rattle.nodes.specs.Names.{named}
use Rattle.nodes.proofs.Laws.Names.{name_is_law}
use Rattle.nodes.specs.Root.{root}
use Rattle.nodes.proofs.Laws.Root.{Rooted, root_law}
use Rattle.nodes.specs.declared.scan.Tag.{Tag}
use Rattle.nodes.specs.declared.scan.Tag.TheVariants.{Open, Bare}
use Rattle.inside.specs.Way.{WayStep, step}
use Rattle.inside.specs.Walked.{places_within, places_from, nth_place, child_at, thence, walked, walked_from, way_at}
use Rattle.inside.proofs.Laws.Walked.{child_same, Agrees}
use Rattle.inside.proofs.Laws.Walked.{not_there, stands_there, child_agrees}
use Rattle.inside.specs.One.{behind_tag, tag_end}
use Rattle.inside.specs.Treads.{called, child_named, Tread, tread, trod, trod_from}

-- ---- From a child to the next, on any bytes.

-- how much is left of a row, and that it is not over
unfoldable pub ahead : List ℕ → Option ℕ → ℕ
ahead text None = 0
ahead text (Some k) = suc (length text - k)

ahead_left : (text : List ℕ) (kid : Option ℕ) (n : ℕ) → left text kid ≤ n → ahead text kid ≤ suc n
unfolding ahead left
ahead_left text None n h = omega arith
ahead_left text (Some k) n h = omega arith

then_falls : (text : List ℕ) (at : ℕ) (m : Read (Unit {0})) → Ok (Less (drop at text)) m
    → ahead text (kid_then m (kid_at (length text))) < ahead text (Some at)
unfolding kid_then ahead
then_falls text at fail h = omega arith
then_falls text at (got u r) (good h) =
    let n : length (drop at text) ≡ length text - at = length-drop at text in
    let s = h.falls in
    let a = ahead_left text (kid_at (length text) r) (length r) (kid_left text r) in
    by (ahead text (kid_at (length text) r)) a s n
  where
    by : (x : ℕ) → x ≤ suc (length r) → length r < length (drop at text) → length (drop at text) ≡ length text - at
        → x < suc (length text - at)
    by x a s n = omega arith

pub next_ahead : (text : List ℕ) (at : ℕ) → ahead text (next text at) < ahead text (Some at)
unfolding next
next_ahead text at = then_falls text at (skip_at (drop at text)) (skip_less (drop at text))

within_done : (m : ℕ) (text : List ℕ) → places_within m text None ≡ []
unfolding places_within
within_done zero text = refl
within_done (suc m) text = refl

within_child : (m : ℕ) (text : List ℕ) (k : ℕ) → places_within (suc m) text (Some k) ≡ k ∷ places_within m text (next text k)
unfolding places_within
within_child m text k = refl

child_ahead : (text : List ℕ) (k : ℕ) → ahead text (Some k) ≡ suc (length text - k)
unfolding ahead
child_ahead text k = refl

-- fuel changes nothing
none_ahead : (text : List ℕ) (kid : Option ℕ) → ahead text kid ≤ 0 → kid ≡ None
none_ahead text None h = refl
none_ahead text (Some k) h = let a = child_ahead text k in absurd (omega arith)

turn_same : (m n : ℕ) (text : List ℕ) (kid : Option ℕ) → ahead text kid ≤ suc m → ahead text kid ≤ suc n
    → ((k : ℕ) → ahead text (next text k) ≤ m → ahead text (next text k) ≤ n
    → places_within m text (next text k) ≡ places_within n text (next text k))
    → places_within (suc m) text kid ≡ places_within (suc n) text kid
turn_same m n text None h j f = within_done (suc m) text ∙ sym (within_done (suc n) text)
turn_same m n text (Some k) h j f =
    let a = next_ahead text k in
    rw (within_child m text k, within_child n text k, f k (omega arith) (omega arith))

enough : (m n : ℕ) (text : List ℕ) (kid : Option ℕ) → ahead text kid ≤ m → ahead text kid ≤ n → places_within m text kid ≡ places_within n text kid
enough zero n text kid h j = rw (none_ahead text kid h) (within_done zero text ∙ sym (within_done n text))
enough (suc m) zero text kid h j = rw (none_ahead text kid j) (within_done (suc m) text ∙ sym (within_done zero text))
enough (suc m) (suc n) text kid h j = turn_same m n text kid h j (λ k a b. enough m n text (next text k) a b)

pub places_done : (text : List ℕ) → places_from text None ≡ []
unfolding places_from
places_done text = within_done (suc (length text)) text

pub places_child : (text : List ℕ) (k : ℕ) → places_from text (Some k) ≡ k ∷ places_from text (next text k)
unfolding places_from
places_child text k =
    let f = next_ahead text k in
    let a = child_ahead text k in
    within_child (length text) text k
    ∙ ap (λ l. k ∷ l) (enough (length text) (suc (length text)) text (next text k) (omega arith) (omega arith))

-- ---- A loop that counts the children that pass.

pub record Seeking (test : ℕ → Bool) (n : ℕ) (text : List ℕ) (at more : ℕ) (kid : Option ℕ) : Type 0 where
  pub so_far : child_at test n text at ≡ nth_place more (those test (places_from text kid))

pub seeking_start : (test : ℕ → Bool) (n : ℕ) {text : List ℕ} {at : ℕ} {kid : Option ℕ} → kid ≡ first_child text at → Seeking test n text at n kid
unfolding child_at
seeking_start test n {text} e = record { so_far = ap (λ x. nth_place n (those test (places_from text x))) (sym e) }

nth_none : (n : ℕ) → None ≡ nth_place n []
unfolding nth_place
nth_none zero = refl
nth_none (suc n) = refl

module _ {test : ℕ → Bool} {n : ℕ} {text : List ℕ} {at more : ℕ} {kid : Option ℕ} (go : Seeking test n text at more kid) where
  pub seeking_done : kid ≡ None → None ≡ child_at test n text at
  unfolding those
  seeking_done e =
      sym (go.so_far ∙ ap (λ l. nth_place more (those test l)) (ap (places_from text) e ∙ places_done text) ∙ sym (nth_none more))

  module _ {k : ℕ} (is_child : kid ≡ Some k) where
    pub seeking_less : {kid₁ : Option ℕ} → kid₁ ≡ next text k → ahead text kid₁ < ahead text kid
    seeking_less e = rw (e, is_child) (next_ahead text k)

    abbrev behind_it : List ℕ
    behind_it = those test (places_from text (next text k))

    module _ {b : Bool} (q : b ≡ test k) where
      splits : child_at test n text at ≡ nth_place more (cond b (k ∷ behind_it) behind_it)
      unfolding those
      splits =
          go.so_far ∙ ap (λ l. nth_place more (those test l)) (ap (places_from text) is_child ∙ places_child text k)
          ∙ ap (λ t. nth_place more (cond t (k ∷ behind_it) behind_it)) (sym q)

      pub seeking_off : b ≡ false → {kid₁ : Option ℕ} → kid₁ ≡ next text k → Seeking test n text at more kid₁
      seeking_off f e = record { so_far = splits ∙ rw (f, e) }

      module _ (t : b ≡ true) where
        pub seeking_found : more ≡ 0 → Some k ≡ child_at test n text at
        unfolding nth_place
        seeking_found z = sym (splits ∙ rw (t, z))

        pub seeking_more : (more ≡ 0 → ⊥) → {kid₁ : Option ℕ} → kid₁ ≡ next text k → Seeking test n text at (more - 1) kid₁
        unfolding nth_place
        seeking_more z e =
            let s : more ≡ suc (more - 1) = omega arith in
            record { so_far = splits ∙ rw (t, e) (ap (λ i. nth_place i (k ∷ those test (places_from text (next text k)))) s) }

      -- both tests at once
      pub seeking_here : (b && eqb more 0) ≡ true → Some k ≡ child_at test n text at
      seeking_here h = seeking_found (and_left b (eqb more 0) h) (eqb-true more 0 (and_right b (eqb more 0) h))

      module _ (h : (b && eqb more 0) ≡ false) (t : b ≡ true) where
        pub seeking_left : 1 ≤ more
        seeking_left = by (ℕ_discrete more 0)
          where
            by : Dec (more ≡ 0) → 1 ≤ more
            by (yes z) = both_ways (and_both t (eq-eqb more 0 z)) h
            by (no z) = omega arith

        pub seeking_on : {kid₁ : Option ℕ} → kid₁ ≡ next text k → Seeking test n text at (more - 1) kid₁
        seeking_on e = let u = seeking_left in seeking_more t (λ z. omega arith) e

pub called_is : (text word : List ℕ) (k : ℕ) {b : Bool} → b ≡ named text k word → b ≡ called text word k
unfolding called
called_is text word k h = h

pub named_found : (word : List ℕ) (n : ℕ) (text : List ℕ) (at : ℕ) {r : Option ℕ} → r ≡ child_at (called text word) n text at
    → r ≡ child_named word n text at
unfolding child_named
named_found word n text at h = h

pub ruleset seeking = (
  seeking_start,
  seeking_done,
  seeking_less,
  seeking_off,
  seeking_here,
  seeking_left,
  seeking_on,
  called_is,
  named_found,
  rules,
)

-- ---- The start tag.

module _ (text : List ℕ) (at : ℕ) {t : Option Tag} (e : t ≡ tag_told (length text) (tag_at (drop at text))) where
  pub behind_open : {y : Tag} {i : ℕ} → t ≡ Some y → y ≡ Open i → i ≡ tag_end text at
  unfolding tag_end behind_tag
  behind_open h w = sym (ap behind_tag (sym e ∙ h ∙ ap Some w))

  pub behind_bare : {y : Tag} {i : ℕ} → t ≡ Some y → y ≡ Bare i → i ≡ tag_end text at
  unfolding tag_end behind_tag
  behind_bare h w = sym (ap behind_tag (sym e ∙ h ∙ ap Some w))

  pub behind_none : t ≡ None → 0 ≡ tag_end text at
  unfolding tag_end behind_tag
  behind_none h = sym (ap behind_tag (sym e ∙ h))

pub ruleset tag_ending = (behind_open, behind_bare, behind_none, rules)

-- each test says of what stands at a place what the way's test says of the element
pub data Alike (text : List ℕ) : List Tread → List WayStep → Type 0 where
  alike_none : Alike text [] []
  alike_more : {t : ℕ → Bool} {p : Element → Bool} (n : ℕ) {l : List Tread} {way : List WayStep}
      → ((k : ℕ) → Stands text k → t k ≡ p (the text k)) → Alike text l way
      → Alike text (tread t n ∷ l) (step p n ∷ way)

pub called_alike : (text : List ℕ) (s : String) (k : ℕ) → Stands text k → called text (ascii s) k ≡ is s (name_of (the text k))
unfolding called
called_alike text s k st = name_is_law s st

thence_same : {text : List ℕ} {f g : ℕ → Option ℕ} {r : Option ℕ} {o : Option Element} → Agrees text r o → ((k : ℕ) → Stands text k → f k ≡ g k)
    → thence f r ≡ thence g r
unfolding thence
thence_same not_there h = refl
thence_same (stands_there {k} st) h = h k st

pub trod_walked : {text : List ℕ} {l : List Tread} {way : List WayStep} → Alike text l way → {at : ℕ} → Stands text at
    → trod l text at ≡ walked way text at
unfolding trod walked
trod_walked alike_none st = refl
trod_walked {text} (alike_more {t} {p} n {l} {way} h a) {at} st =
    ap (thence (trod l text)) (child_same n st h) ∙ thence_same (child_agrees p n st) (λ k k-st. trod_walked a k-st)

trod_root : {text : List ℕ} {l : List Tread} {way : List WayStep} → Alike text l way → {e : Element} → Rooted text e
    → trod_from l text (root text) ≡ way_at way text
unfolding trod_from way_at walked_from
trod_root a r = rw r.found (trod_walked a r.stands)

-- THE LAW: in the text of a document, the treads lead where the way leads
pub trod_way : {text : List ℕ} {l : List Tread} {way : List WayStep} → Alike text l way → {e : Element} → parse text ≡ Some e
    → trod_from l text (root text) ≡ way_at way text
trod_way {text} a {e} h = trod_root a (root_law text e h)
