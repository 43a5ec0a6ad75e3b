-- Attributes met in the order of a row: no name stands twice in a tag, so the one that is met is the one that a search finds.
use Rattle.std.specs.Prelude.{◌≡◌, refl, Bool, true, false, ◌||◌, not, ℕ, zero, suc, ◌+◌, ◌-◌, ◌≤◌, ◌<◌, leb, drop, Option, Some, None}
use Rattle.std.proofs.Math.Path.{ap}
use Rattle.std.proofs.Common.{sym, ◌∙◌, rules, leb-true, leb-false, drop-drop}
use mathlib.Core.List.{List, [], ◌∷◌, ◌++◌, append_assoc}
use native.Mathlib.Omega.{arith}
use Rattle.std.proofs.Math.ListN.{length}
use Rattle.lists.specs.Lists.{all, any, count_up}
use Rattle.lists.proofs.Laws.Booleans.{refute, or_first, or_second, clash}
use Rattle.lists.proofs.Laws.Lists.{all_append}
use Rattle.grammar.specs.Bytes.{ascii}
use Rattle.grammar.specs.Document.{Attribute}
use Rattle.grammar.specs.Grammar as grammar
use Rattle.grammar.specs.Grammar.{Absent, Distinct, Attributes}
use Rattle.grammar.specs.Look.{is, attributes_of, text_of}
use Rattle.grammar.specs.Read.{fail, got, bind, byte}
use Rattle.grammar.proofs.Laws.Read.{ok_got}
use Rattle.grammar.specs.Parser.{name_at, gap_at, value_at, ends, closing, same_bytes}
use Rattle.grammar.proofs.Laws.Sound.{gap_sound, name_sound, attributes_sound, same_refl}
use Rattle.grammar.proofs.Laws.Tokens.{gap_each, ends_blanks, ends_name, same_equal}
use Rattle.steps.specs.Step.{stepped}
use Rattle.steps.proofs.Laws.Step.{at_end, fell, went}
use Rattle.steps.proofs.Laws.Leaves.{name_tails}
use Rattle.steps.specs.Noted.{part}
use Rattle.steps.specs.Keys as steps-keys
use Rattle.steps.specs.Keys.{keyed}
use Rattle.steps.proofs.Laws.Keys.{key_found}
use Rattle.steps.specs.declared.attributes.Key as token-key
use Rattle.nodes.specs.Places.{Stands, the}
use Rattle.nodes.specs.Scan.{tag_from, InTag}
use Rattle.nodes.proofs.Laws.Scan.{tag_opens}
use Rattle.nodes.proofs.Laws.ScanEnds.{tag_name}
use Rattle.nodes.specs.Attributes.{Key, key, key_bytes_lem, keys_by_lem, keys, keys_in, place_in, place}
use Rattle.nodes.proofs.Laws.AttributesSteps.{keys_step, Hold, one_key, keys_law}
use Rattle.nodes.proofs.Laws.Names.{ending_attributes}
use Rattle.nodes.specs.Values.{value_there}
use Rattle.nodes.proofs.Laws.ReadSteps.{spelled}
use Rattle.nodes.proofs.Laws.Attributes.{keys_go, keys_tag}
use Rattle.schema.specs.Schema.{row_name}
use Rattle.schema.specs.Table.{word_at, form_at, kind_cell, attribute_cell, attribute_at}
use Rattle.schema.specs.Table.{attributes_of_kind, attributes_from, attributes_to}
use Rattle.schema.specs.Faults.{sooner}
use Rattle.schema.specs.Parts.{value_fault, text_fault, name_listed, key_listed}
use Rattle.schema.specs.Asked.{Known}
use Rattle.schema.specs.Walked.{AllListed, Owns}
use Rattle.schema.proofs.Laws.Asked.{known_small, known_stands, known_other}
use Rattle.schema.proofs.Laws.Attributes.{attribute_there, attribute_missing, attribute_spared}
use Rattle.schema.proofs.Laws.Attributes.{Fitting, fitting_start, fitting_attributed, fitting_room, fitting_on, fitting_end}
use Rattle.schema.proofs.Laws.Attributes.{own_six, own_other, own_text}
use Rattle.schema.proofs.Laws.Keys.{by_name, key_ahead, key_inside}
use Rattle.values.specs.InTurn.{keys_from, Over, none_passed, one_passed, TagGoesOn, AttributePlaced, AskingAttribute, AttributeAsked}
use Rattle.values.specs.InTurn.{Begins, AttributesWalked}

-- NO NAME TWICE
distinct_law : {text : List ℕ} {at : ℕ} → Stands text at → Distinct (attributes_of (the text at))
distinct_law {text} {at} st =
    let p = spelled (drop at text) (the text at) st.rest st.reads in
    rw (ending_attributes p.ending) (go (ok_got (rw p.lists at (attributes_sound p.behind_name))).2)
  where
    go : {l : List Attribute} {w : List ℕ} → Attributes l w → Distinct l
    go (grammar.attributes t d k) = d

module _ {text : List ℕ} (n : List ℕ) (v : ℕ) (rest : List Key) where
  other_name : {m : List ℕ} (before : List Key) {l : List Attribute} → Hold text (before ++ (key n v ∷ rest)) l → Absent m l → m ≡ n → ⊥
  other_name [] (one_key k h) (grammar.absent_more d a) e = d e
  other_name (key x u ∷ before) (one_key k h) (grammar.absent_more d a) e = other_name before h a e

  first_place : (before : List Key) {l : List Attribute} → Hold text (before ++ (key n v ∷ rest)) l → Distinct l
      → place_in n (before ++ (key n v ∷ rest)) ≡ Some v
  unfolding place_in
  first_place [] h d = rw (same_refl n)
  first_place (key m u ∷ before) (one_key k h) (grammar.distinct_more a d) =
      rw (refute (same_bytes m n) (λ e. other_name before h a (same_equal m n e))) (first_place before h d)

place_law : {text : List ℕ} {at : ℕ} (name : List ℕ) → Stands text at → (before rest : List Key) {v : ℕ}
    → keys text at ≡ before ++ (key name v ∷ rest) → Some v ≡ place text at name
unfolding place
place_law name st before rest {v} e = sym (rw e (first_place name v rest before (rw e at (keys_law st)) (distinct_law st)))

-- AN ATTRIBUTE AT A PLACE
module _ (text : List ℕ) (i : ℕ) {k : Option token-key.Key} (ek : k ≡ keyed (length text) (steps-keys.key_at (drop i text)))
    {spot : token-key.Key} (z : k ≡ Some spot) where
  goes_on : ends closing (drop i text) ≡ false
  goes_on =
      let f = key_found text i ek z in
      let g = ok_got (rw f.gap.reads at (gap_sound (drop i text))) in
      let n = ok_got (rw f.name.reads at (name_sound (drop spot.from text))) in
      rw (g.0, n.0) (ends_blanks closing (gap_each g.1) (f.name.value ++ drop spot.to text) ∙ ends_name n.1 (drop spot.to text))

  pub sought_met : {at : ℕ} → TagGoesOn text at i → (name : List ℕ) {t : Bool} → t ≡ same_bytes (part spot.from spot.to text) name → t ≡ true
      → {x : Option ℕ}
      → x ≡ stepped (length text) (value_at (drop spot.end text)) → {j : ℕ} → x ≡ Some j → AttributePlaced text at i name (Some spot.end) j
  sought_met p name et h ex {j} w =
      let e : part spot.from spot.to text ≡ name = same_equal (part spot.from spot.to text) name (sym et ∙ h) in
      let q : keys_from text i ≡ key name spot.end ∷ keys_from text j =
      keys_go text i (sym goes_on) refl ek z ex w ∙ ap (λ s. key s spot.end ∷ keys_from text j) e in
      record {
        there = place_law name p.stands p.before (keys_from text j) (p.parts ∙ ap (λ s. p.before ++ s) q);
        passed = one_passed q (keys_tag text i (sym goes_on) refl ek z ex w);
      }

pub sought_searched : {text : List ℕ} {at i : ℕ} {name : List ℕ} {f : Option ℕ} → f ≡ place text at name → AttributePlaced text at i name f i
sought_searched e = record { there = e; passed = none_passed }

pub ruleset seeking = (sought_met, sought_searched, key_ahead, key_inside, rules)

-- ONE OF THE ROW
module _ {text : List ℕ} {at a i : ℕ} (p : AskingAttribute text at a i) where
  pub asking_within : TagGoesOn text at i
  asking_within = p.within

  pub asking_small : a < 4294967304
  asking_small = p.known.known

module _ (t l : List ℕ) {text : List ℕ} {at a i : ℕ} (p : AskingAttribute text at a i) {c : ℕ} (ce : c ≡ attribute_cell t a 0) {x : List ℕ}
    (ex : x ≡ ascii (word_at t l c)) {f : Option ℕ} {j : ℕ} (s : AttributePlaced text at i x f j) where
  over : Over text (ascii (word_at t l (attribute_cell t a 0))) i j
  over = let e : x ≡ ascii (word_at t l (attribute_cell t a 0)) = ex ∙ rw ce in rw e at s.passed

  pub asked_there : {v : ℕ} → f ≡ Some v → {g : ℕ} → g ≡ attribute_cell t a 1 → {r : ℕ} → r ≡ value_fault t l g (value_there text v)
      → AttributeAsked t l text at a i r j
  asked_there e ge re = record { right = attribute_there t l p.known ce ex s.there e ge re; passed = over }

  module _ (e : f ≡ None) {n : ℕ} (ne : n ≡ attribute_cell t a 2) where
    pub asked_missing : n ≡ 0 → AttributeAsked t l text at a i 6 j
    asked_missing h = record { right = attribute_missing t l p.known ce ex s.there e ne h; passed = over }

    pub asked_spared : (n ≡ 0 → ⊥) → AttributeAsked t l text at a i 0 j
    asked_spared h = record { right = attribute_spared t l p.known ce ex s.there e ne h; passed = over }

pub ruleset asking = (asking_within, asking_small, asked_there, asked_missing, asked_spared, rules)

-- WHERE THEY BEGIN
none_left : (text : List ℕ) → keys_from text (length text) ≡ []
unfolding keys_by_lem key_bytes_lem gap_at bind byte ends
none_left text = rw (at_end text (length text) (omega arith)) (keys_step (length text) [])

-- an element has a name
its_name : {text : List ℕ} {at : ℕ} → Stands text at → name_at (drop (at + 1) text) ≡ fail → ⊥
its_name {text} {at} st e =
    let p = spelled (drop at text) (the text at) st.rest st.reads in
    let q : drop (at + 1) text ≡ p.behind_open = sym (drop-drop 1 at text) ∙ ap (drop 1) p.opens in
    let n : name_at (drop (at + 1) text) ≡ got p.name p.behind_name = rw q p.names in
    clash (cc)

module _ (text : List ℕ) (at : ℕ) where
  pub none_begin : length text ≤ at → Begins text at (length text)
  unfolding keys keys_in name_at bind byte
  none_begin h = record {
    all_keys = let k : length text ≤ at + 1 = omega arith in rw (at_end text (at + 1) k) (sym (none_left text));
    inside = λ st. absurd (omega (arith, st.here));
  }

  module _ {x : Option ℕ} (ex : x ≡ stepped (length text) (name_at (drop (at + 1) text))) where
    pub unnamed_begin : x ≡ None → Begins text at (length text)
    unfolding keys keys_in
    unnamed_begin w =
        let e : name_at (drop (at + 1) text) ≡ fail = fell (length text) (name_at (drop (at + 1) text)) (sym w ∙ ex) in
        record { all_keys = rw e (sym (none_left text)); inside = λ st. absurd (its_name st e) }

    pub named_begin : {i : ℕ} → x ≡ Some i → Begins text at i
    unfolding keys keys_in
    named_begin {i} w =
        let g = went name_at text (at + 1) i (name_tails (drop (at + 1) text)) (sym w ∙ ex) in
        let n = ok_got (rw g.reads at (name_sound (drop (at + 1) text))) in
        record {
          all_keys = rw g.reads;
          inside = λ st. record {
            same_tag = (tag_opens text at st.here).same_tag ∙ ap (tag_from 0) n.0 ∙ tag_name n.1 (drop i text);
          };
        }

pub ruleset beginning = (none_begin, unnamed_begin, named_begin, rules)

-- THE ATTRIBUTES OF A KIND
pub record Walking (t l text : List ℕ) (at kind to worst w i : ℕ) : Type 0 where
  pub fits : Fitting t l text at kind to worst w
  pub last : to ≡ kind_cell t kind 1
  pub begun : kind_cell t kind 0 ≤ w
  pub before : List Key
  pub parts : keys text at ≡ before ++ keys_from text i
  pub named : all (key_listed (attributes_of_kind t l kind)) before ≡ true
  pub inside : InTag text at i

pub walking_start : (t l : List ℕ) {text : List ℕ} {at kind : ℕ} → Known text at kind → {to : ℕ} → to ≡ kind_cell t kind 1
    → to < 4294967296 → {from : ℕ} → from ≡ kind_cell t kind 0 → {i : ℕ} → Begins text at i
    → Walking t l text at kind to 0 from i
unfolding all
walking_start t l p e u f b =
    record {
      fits = fitting_start t l p e u f;
      last = e;
      begun = omega arith;
      before = [];
      parts = b.all_keys;
      named = refl;
      inside = b.inside p.stands;
    }

here_named : (t l : List ℕ) (w : ℕ) → is (row_name (attribute_at t l w)) (ascii (word_at t l (attribute_cell t w 0))) ≡ true
unfolding attribute_at is
here_named t l w =
    rw (by_name (attribute_cell t w 2) (word_at t l (attribute_cell t w 0)) (form_at t l (attribute_cell t w 1))) (same_refl _)

one_of : {A : Type 0} (p : A → Bool) (f : ℕ → A) (n i w : ℕ) → i ≤ w → w < i + n → p (f w) ≡ true → any p (count_up f i n) ≡ true
unfolding any count_up
one_of p f zero i w h k e = absurd (omega arith)
one_of p f (suc n) i w h k e = go (leb w i) refl (λ j. one_of p f n (suc i) w j (omega arith) e)
  where
    go : (b : Bool) → leb w i ≡ b → (i < w → any p (count_up f (suc i) n) ≡ true) → (p (f i) || any p (count_up f (suc i) n)) ≡ true
    go true q ih = let j = leb-true w i q in let g : w ≡ i = omega arith in or_first (p (f i)) _ (rw (← g) e)
    go false q ih = or_second (p (f i)) (ih (leb-false w i q))

listed_here : (t l : List ℕ) (kind w : ℕ) → kind_cell t kind 0 ≤ w → w < kind_cell t kind 1
    → name_listed (attributes_of_kind t l kind) (ascii (word_at t l (attribute_cell t w 0))) ≡ true
unfolding name_listed attributes_of_kind attributes_from attributes_to
listed_here t l kind w h k =
    one_of (λ row. is (row_name row) (ascii (word_at t l (attribute_cell t w 0)))) (attribute_at t l) (kind_cell t kind 1 - kind_cell t kind 0)
    (kind_cell t kind 0) w h (omega arith) (here_named t l w)

module _ {t l text : List ℕ} {at kind to worst w i : ℕ} (go : Walking t l text at kind to worst w i) where
  pub walking_asks : w < to → AskingAttribute text at w i
  walking_asks h = record {
    known = fitting_attributed go.fits h;
    within = record { stands = go.fits.of_kind_lem.stands; before = go.before; parts = go.parts };
  }

  pub walking_room : w < to → w + 1 < 18446744073709551616
  walking_room h = fitting_room go.fits h

  pub walking_on : w < to → {r j : ℕ} → AttributeAsked t l text at w i r j → {worst₁ : ℕ} → worst₁ ≡ sooner worst r
      → Walking t l text at kind to worst₁ (w + 1) j
  unfolding all key_listed
  walking_on h {r} {j} a {worst₁} e = by a.passed
    where
      fit : Fitting t l text at kind to worst₁ (w + 1)
      fit = fitting_on go.fits h a.right e

      by : {j : ℕ} → Over text (ascii (word_at t l (attribute_cell t w 0))) i j → Walking t l text at kind to worst₁ (w + 1) j
      by none_passed = record {
        fits = fit;
        last = go.last;
        begun = omega (arith, go.begun);
        before = go.before;
        parts = go.parts;
        named = go.named;
        inside = go.inside;
      }
      by (one_passed {value = v} {to = j} q s) =
          let x : List ℕ = ascii (word_at t l (attribute_cell t w 0)) in
          let n = listed_here t l kind w go.begun (omega (arith, go.last)) in
          record {
            fits = fit;
            last = go.last;
            begun = omega (arith, go.begun);
            before = go.before ++ (key x v ∷ []);
            parts = go.parts ∙ ap (λ s. go.before ++ s) q ∙ sym (append_assoc go.before (key x v ∷ []) (keys_from text j));
            named = all_append (key_listed (attributes_of_kind t l kind)) go.before (key x v ∷ []) ∙ rw (go.named, n);
            inside = record { same_tag = go.inside.same_tag ∙ s };
          }

  pub walking_end : to ≤ w → AttributesWalked t l text at kind worst i
  walking_end h = record {
    right = fitting_end go.fits h;
    named = ap (all (key_listed (attributes_of_kind t l kind))) go.parts
        ∙ all_append (key_listed (attributes_of_kind t l kind)) go.before (keys_from text i) ∙ rw go.named;
    inside = go.inside;
  }

pub ruleset walking = (walking_start, walking_asks, walking_room, walking_on, walking_end, known_small, rules)

-- THE ELEMENT'S OWN PART
module _ {t l text : List ℕ} {at kind a i : ℕ} (p : Known text at kind) (s : AttributesWalked t l text at kind a i) where
  pub walked_six : a ≡ 6 → Owns t l text at kind 6 i
  walked_six e = record { fault_is = own_six t l p s.right e; inside = s.inside }

  module _ {from to : ℕ} (f : from ≡ kind_cell t kind 0) (g : to ≡ kind_cell t kind 1) {b : Bool} {j : ℕ}
      (k : AllListed (count_up (attribute_at t l) from (to - from)) text i b j) where
    whole : b ≡ all (key_listed (count_up (attribute_at t l) from (to - from))) (keys text at)
    unfolding attributes_of_kind attributes_from attributes_to
    whole = k.right_is ∙ rw (f, g) (sym s.named)

    there : InTag text at j
    there = record { same_tag = s.inside.same_tag ∙ k.same_tag }

    pub walked_other : not b ≡ true → Owns t l text at kind 6 j
    walked_other h = record { fault_is = own_other t l p s.right f g whole h; inside = there }

    pub walked_text : not b ≡ false → {c : ℕ} → c ≡ kind_cell t kind 4 → {r : ℕ} → r ≡ text_fault t c (text_of (the text at)) → {o : ℕ}
        → o ≡ sooner a r → Owns t l text at kind o j
    walked_text h u r o = record { fault_is = own_text t l p s.right f g whole h u r o; inside = there }

pub ruleset owning = (walked_six, walked_other, walked_text, known_other, known_small, known_stands, rules)
