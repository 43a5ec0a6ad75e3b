-- The turns of the walk that gathers the models.
use Rattle.std.specs.Prelude.{◌≡◌, Bool, ◌||◌, eqb, length, get_or, take, set, Option, Some, None, ℕ}
use Rattle.std.proofs.Math.Path.{refl, sym, ap}
use Rattle.std.proofs.Common.{◌∙◌, true≢false, le_of_suc-le-suc, not-suc-le-zero, add-one, arith, get_or-set_same, get_or-set_other, take-suc, rules, eq-eqb, ne_eqb}
use mathlib.Core.List.{List, [], ◌∷◌, ◌++◌, append_assoc, append-nil}
use Rattle.std.proofs.Math.Bool.{true, false}
use Prim.Native.Nat.{ℕ, zero, suc, ◌+◌, ◌<◌, ◌≤◌, ◌^◌}
use Rattle.std.proofs.Math.Decide.{ℕ_discrete}
use Rattle.std.proofs.Math.ListN.{length-set}
use Rattle.lists.proofs.Laws.Booleans.{or_second}
use Rattle.lists.specs.Lists.{any, count, each, those, two_of}
use Rattle.lists.proofs.Laws.Lists.{any_append, two_append}
use Rattle.grammar.specs.Bytes.{ascii}
use Rattle.grammar.specs.Document.{Element}
use Rattle.grammar.specs.Look.{attr, children}
use Rattle.nodes.specs.Places.{the}
use Rattle.nodes.specs.Children.{first_child, next}
use Rattle.nodes.specs.Names.{named}
use Rattle.nodes.proofs.Laws.Names.{name_is_law}
use Rattle.nodes.proofs.Laws.Along.{Along, along_start, along_done, along_stands, along_here, along_less, along_next}
use Rattle.cifti.specs.Maps.{Model, model_of, map_of}
use Rattle.cifti.specs.Conditions.{alike}
use Rattle.maps.proofs.Laws.Good.{AllGood, good_head, good_tail}
use Rattle.maps.proofs.Laws.Kinds.{brain_rows, good_model, brain_children, model_facts}
use Rattle.maps.specs.Fields.{number_seen}
use Rattle.maps.proofs.Laws.Fields.{word_at, number_seen_lem}
use Rattle.models.specs.Brain.{BrainAt}
use Rattle.models.proofs.Laws.Brain.{map_models, is_model, models_are}
use Rattle.models.specs.Kind.{type_and_structure, ModelAt}
use Rattle.models.proofs.Laws.Kind.{alike_number, structure_small, kind_small}
use Rattle.models.specs.Gathered.{Holds, HoldsAt, gathered, Sized, Gathers, ModelRoom, offset_seen, length_seen, with_model}
use Rattle.models.specs.declared.gather.Models.{Models}

-- ---- A table of flags: as many are set as were found not set.

pub itself : Bool → Bool
itself b = b

flags_most : (l : List Bool) → count itself l ≤ length l
unfolding count itself
flags_most [] = omega arith
flags_most (true ∷ l) = omega (arith, flags_most l)
flags_most (false ∷ l) = omega (arith, flags_most l)

flags_set : (l : List Bool) (d : ℕ) → d < length l → get_or l d false ≡ false → count itself (set l d true) ≡ suc (count itself l)
unfolding count itself
flags_set [] d h e = absurd (not-suc-le-zero h)
flags_set (true ∷ l) zero h e = absurd (true≢false e)
flags_set (false ∷ l) zero h e = omega arith
flags_set (b ∷ l) (suc d) h e = let z = flags_set l d (le_of_suc-le-suc h) e in omega arith

flags_room : (l : List Bool) (d : ℕ) → d < length l → get_or l d false ≡ false → count itself l < length l
flags_room l d h e = omega (arith, flags_set l d h e, flags_most (set l d true), length-set l d true)

-- ---- Models whose structure has a number of its own.

pub data Small : List Model → Type 0 where
  none_small : Small []
  one_small : {m : Model} {l : List Model} → m.structure < 32 → Small l → Small (m ∷ l)

small_more : {l : List Model} (x : Model) → Small l → x.structure < 32 → Small (l ++ (x ∷ []))
small_more x none_small h = one_small h none_small
small_more x (one_small k s) h = one_small k (small_more x s h)

any_alike : {l : List Model} (x : Model) → Small l → x.structure < 32
    → any (λ a. any (alike a) (x ∷ [])) l ≡ any (λ a. eqb (type_and_structure a) (type_and_structure x)) l
unfolding any
any_alike x none_small h = refl
any_alike x (one_small {m} {l} k s) h = rw (alike_number m x k h, any_alike x s h) (alone (eqb (type_and_structure m) (type_and_structure x)) _)
  where
    alone : (b c : Bool) → ((b || false) || c) ≡ (b || c)
    alone true c = refl
    alone false c = refl

-- one that is alike to an earlier one, whatever follows
any_wider : (l : List Model) (x : Model) (r : List Model) → any (λ a. any (alike a) (x ∷ [])) l ≡ true
    → any (λ a. any (alike a) (x ∷ r)) l ≡ true
unfolding any
any_wider [] x r h = h
any_wider (m ∷ l) x r h = go (alike m x) h (any_wider l x r)
  where
    go : (b : Bool) → ((b || false) || any (λ a. alike a x || false) l) ≡ true
        → (any (λ a. alike a x || false) l ≡ true → any (λ a. alike a x || any (alike a) r) l ≡ true)
        → ((b || any (alike m) r) || any (λ a. alike a x || any (alike a) r) l) ≡ true
    go true k f = refl
    go false k f = or_second (any (alike m) r) (f k)

each_append : {A B : Type 0} (f : A → B) (k l : List A) → each f (k ++ l) ≡ each f k ++ each f l
unfolding each
each_append f [] l = refl
each_append f (a ∷ k) l = ap (λ r. f a ∷ r) (each_append f k l)

-- ---- The models that are passed.

pub passed : List ℕ → Models → List Model
passed text m = each model_of (gathered text m)

-- what is gathered, and the flags of its kinds
pub record Kept (text : List ℕ) (m : Models) (seen : List Bool) : Type 0 where
  pub sized : Sized m
  pub holds : (i : ℕ) → i < m.count → HoldsAt text m i
  pub small : Small (passed text m)
  pub no_two : two_of alike (passed text m) ≡ false
  pub unshared : m.shared ≡ false
  pub flags : length seen ≡ 64
  pub seen_is : (d : ℕ) → get_or seen d false ≡ any (λ x. eqb (type_and_structure x) d) (passed text m)
  pub as_many : count itself seen ≡ m.count

-- those passed are gathered; those of the list are ahead
pub record Gathering (text : List ℕ) (map : ℕ) (m : Models) (seen : List Bool) (l : List Element) : Type 0 where
  pub good : AllGood brain_rows l
  pub kept : Kept text m seen
  pub so_far : gathered text m ++ those is_model l ≡ children "BrainModel" (the text map)

-- the models of the map: those passed, and those ahead
all_models : {text : List ℕ} {map : ℕ} {m : Models} {seen : List Bool} {l : List Element} → Gathering text map m seen l
    → (map_of (the text map)).models ≡ passed text m ++ each model_of (those is_model l)
unfolding passed
all_models {text} {map} {m} go = map_models (the text map) ∙ ap (each model_of) (sym go.so_far) ∙ each_append model_of (gathered text m) _

-- ---- At the start: nothing is gathered.

abbrev pub zeros : ℕ → List ℕ
zeros zero = []
zeros (suc n) = 0 ∷ zeros n

abbrev pub falses : ℕ → List Bool
falses zero = []
falses (suc n) = false ∷ falses n

falses_at : (n d : ℕ) → get_or (falses n) d false ≡ false
falses_at zero d = refl
falses_at (suc n) zero = refl
falses_at (suc n) (suc d) = falses_at n d

abbrev pub no_models : Models
no_models = record { count = 0; shared = false; at = zeros 64; offset = zeros 64; length = zeros 64; kind = zeros 64 }

nothing_yet : (text : List ℕ) → gathered text no_models ≡ []
unfolding gathered each
nothing_yet text = refl

none_kept : (text : List ℕ) → Kept text no_models (falses 64)
unfolding passed each two_of any count itself
none_kept text =
    let n = nothing_yet text in
    record {
      sized = record { few = omega arith; at_64 = refl; offset_64 = refl; length_64 = refl; kind_64 = refl };
      holds = λ i h. absurd (omega arith);
      small = rw n none_small;
      no_two = rw n;
      unshared = refl;
      flags = refl;
      seen_is = λ d. rw n (falses_at 64 d);
      as_many = refl;
    }

pub gathering_start : {text : List ℕ} {map : ℕ} {kid : Option ℕ} → BrainAt text map → kid ≡ first_child text map
    → Along text (Gathering text map no_models (falses 64)) kid
gathering_start {text} {map} b e =
    along_start b.stands
    (record { good = brain_children b.good; kept = none_kept text; so_far = rw (nothing_yet text) (sym (models_are (the text map))) }) e

-- ---- One model more.

gathered_snoc : (text : List ℕ) (m : Models) (at o l q : ℕ) → m.count < length m.at
    → gathered text (with_model m at o l q) ≡ gathered text m ++ (the text at ∷ [])
unfolding gathered each
gathered_snoc text m at o l q h =
    ap (λ n. each (the text) (take n (set m.at m.count at))) (add-one m.count)
    ∙ ap (each (the text)) (take-suc (set m.at m.count at) m.count 0 (omega (arith, length-set m.at m.count at)))
    ∙ each_append (the text) (take m.count (set m.at m.count at)) _
    ∙ rw (get_or-set_same m.at m.count at 0 h, take_set m.at m.count at)
  where
    take_set : (l : List ℕ) (n a : ℕ) → take n (set l n a) ≡ take n l
    take_set [] n a = refl
    take_set (x ∷ l) zero a = refl
    take_set (x ∷ l) (suc n) a = ap (λ r. x ∷ r) (take_set l n a)

holds_more : (text : List ℕ) (m : Models) (at o l q : ℕ) → Sized m → m.count < 64 → Holds text at o l q
    → ((i : ℕ) → i < m.count → HoldsAt text m i) → (i : ℕ) → i < m.count + 1 → HoldsAt text (with_model m at o l q) i
holds_more text m at o l q s h x f i u = go (ℕ_discrete i m.count)
  where
    go : Dec (i ≡ m.count) → HoldsAt text (with_model m at o l q) i
    go (yes e) =
        rw (
          e,
          get_or-set_same m.at m.count at 0 (omega (arith, s.at_64)),
          get_or-set_same m.offset m.count o 0 (omega (arith, s.offset_64)),
          get_or-set_same m.length m.count l 0 (omega (arith, s.length_64)),
          get_or-set_same m.kind m.count q 0 (omega (arith, s.kind_64)),
        ) x
    go (no e) =
        rw (
          get_or-set_other m.at m.count i at 0 e,
          get_or-set_other m.offset m.count i o 0 e,
          get_or-set_other m.length m.count i l 0 e,
          get_or-set_other m.kind m.count i q 0 e,
        ) (f i (omega arith))

sized_more : (m : Models) (at o l q : ℕ) → Sized m → m.count < 64 → Sized (with_model m at o l q)
sized_more m at o l q s h = record {
  few = omega arith;
  at_64 = length-set m.at m.count at ∙ s.at_64;
  offset_64 = length-set m.offset m.count o ∙ s.offset_64;
  length_64 = length-set m.length m.count l ∙ s.length_64;
  kind_64 = length-set m.kind m.count q ∙ s.kind_64;
}

-- what is read of a good model
model_holds : {text : List ℕ} {at : ℕ} (q : ℕ) → ModelAt text at → q ≡ type_and_structure (model_of (the text at))
    → Holds text at (offset_seen text at) (length_seen text at) q
unfolding model_of
model_holds {text} {at} q a e =
    let f = model_facts a.good in
    record {
      model = a;
      offset_is = ap (number_seen 0 1048576) (word_at "IndexOffset" (the text at))
          ∙ number_seen_lem 0 1048576 (attr "IndexOffset" (the text at)) f.offset;
      length_is = ap (number_seen 1 1048576) (word_at "IndexCount" (the text at))
          ∙ number_seen_lem 1 1048576 (attr "IndexCount" (the text at)) f.count;
      kind_is = e;
    }

-- the flags with one more set
seen_more : (seen : List Bool) (q : ℕ) → q < length seen → (l : List Model) (x : Model) → q ≡ type_and_structure x
    → ((d : ℕ) → get_or seen d false ≡ any (λ y. eqb (type_and_structure y) d) l)
    → (d : ℕ) → get_or (set seen q true) d false ≡ any (λ y. eqb (type_and_structure y) d) (l ++ (x ∷ []))
unfolding any
seen_more seen q h l x e f d = go (ℕ_discrete d q) ∙ sym (any_append (λ y. eqb (type_and_structure y) d) l (x ∷ []))
  where
    yes_last : (b c : Bool) → c ≡ true → true ≡ (b || (c || false))
    yes_last true c k = refl
    yes_last false c k = rw k

    not_last : (b c : Bool) → c ≡ false → b ≡ (b || (c || false))
    not_last true c k = refl
    not_last false c k = rw k

    go : Dec (d ≡ q) → get_or (set seen q true) d false ≡ (any (λ y. eqb (type_and_structure y) d) l || (eqb (type_and_structure x) d || false))
    go (yes z) = ap (λ n. get_or (set seen q true) n false) z ∙ get_or-set_same seen q true false h
        ∙ yes_last (any (λ y. eqb (type_and_structure y) d) l) (eqb (type_and_structure x) d) (eq-eqb (type_and_structure x) d (omega arith))
    go (no z) = get_or-set_other seen q d true false z ∙ f d
        ∙ not_last (any (λ y. eqb (type_and_structure y) d) l) (eqb (type_and_structure x) d)
        (ne_eqb (type_and_structure x) d (λ w. z (omega arith)))

module _ {text : List ℕ} {m : Models} {seen : List Bool} (kept : Kept text m seen) {k : ℕ} (here : ModelAt text k)
    {q : ℕ} (eq : q ≡ type_and_structure (model_of (the text k))) where
  place_here : q < 64
  place_here = omega (arith, kind_small here.good, eq)

  small_here : (model_of (the text k)).structure < 32
  small_here = structure_small here.good

  met : any (λ a. any (alike a) (model_of (the text k) ∷ [])) (passed text m) ≡ get_or seen q false
  met =
      any_alike (model_of (the text k)) kept.small small_here
      ∙ ap (λ d. any (λ x. eqb (type_and_structure x) d) (passed text m)) (sym eq) ∙ sym (kept.seen_is q)

  module _ (s : get_or seen q false ≡ false) where
    flag_here : q < length seen
    flag_here = omega (arith, place_here, kept.flags)

    room_here : m.count < 64
    room_here = omega (arith, flags_room seen q flag_here s, kept.as_many, kept.flags)

    more : Models
    more = with_model m k (offset_seen text k) (length_seen text k) q

    snoc : gathered text more ≡ gathered text m ++ (the text k ∷ [])
    unfolding more
    snoc = gathered_snoc text m k (offset_seen text k) (length_seen text k) q (omega (arith, room_here, kept.sized.at_64))

    passed_snoc : passed text more ≡ passed text m ++ (model_of (the text k) ∷ [])
    unfolding passed each
    passed_snoc = ap (each model_of) snoc ∙ each_append model_of (gathered text m) _

    still_none : two_of alike (passed text m ++ (model_of (the text k) ∷ [])) ≡ false
    unfolding two_of any
    still_none = two_append alike (passed text m) (model_of (the text k) ∷ []) ∙ rw (kept.no_two, met ∙ s)

    one_kept : Kept text (with_model m k (offset_seen text k) (length_seen text k) q) (set seen q true)
    unfolding more
    one_kept = record {
      sized = sized_more m k (offset_seen text k) (length_seen text k) q kept.sized room_here;
      holds = holds_more text m k (offset_seen text k) (length_seen text k) q kept.sized room_here (model_holds q here eq) kept.holds;
      small = rw passed_snoc (small_more (model_of (the text k)) kept.small small_here);
      no_two = rw passed_snoc still_none;
      unshared = kept.unshared;
      flags = length-set seen q true ∙ kept.flags;
      seen_is = λ d. rw passed_snoc (seen_more seen q flag_here (passed text m) (model_of (the text k)) eq kept.seen_is d);
      as_many = flags_set seen q flag_here s ∙ ap suc kept.as_many ∙ sym (add-one m.count);
    }

module _ {text : List ℕ} {map : ℕ} {m : Models} {seen : List Bool} {kid : Option ℕ} (go : Along text (Gathering text map m seen) kid) where
  pub gathering_done : kid ≡ None → Gathers text map m
  unfolding passed each those
  gathering_done e =
      let s = along_done go e in
      record {
        shared_is = s.kept.unshared ∙ sym (ap (two_of alike) (all_models s ∙ append-nil (passed text m)) ∙ s.kept.no_two);
        holding = λ _. record {
          sized = s.kept.sized;
          holds = s.kept.holds;
          all_of_them = sym (append-nil (gathered text m)) ∙ s.so_far;
        };
      }

  module _ {k : ℕ} (is_child : kid ≡ Some k) {b : Bool} (nm : b ≡ named text k (ascii "BrainModel")) where
    is_model_lem : is_model (the text k) ≡ b
    unfolding is_model
    is_model_lem = sym (nm ∙ name_is_law "BrainModel" (along_stands go is_child))

    pub gathering_miss : b ≡ false → {kid₁ : Option ℕ} → kid₁ ≡ next text k → Along text (Gathering text map m seen) kid₁
    unfolding those
    gathering_miss f e =
        along_next go is_child (λ l s. record { good = good_tail s.good; kept = s.kept; so_far = rw (is_model_lem ∙ f) at s.so_far }) e

    module _ (t : b ≡ true) where
      pub gathering_model : ModelAt text k
      unfolding is_model
      gathering_model = record {
        stands = along_stands go is_child;
        good = good_model (the text k) (good_head (along_here go is_child).good) (is_model_lem ∙ t);
      }

      module _ {q : ℕ} (eq : q ≡ type_and_structure (model_of (the text k))) where
        pub gathering_place : q < 64
        gathering_place = place_here (along_here go is_child).kept gathering_model eq

        pub gathering_fits : q < 2 ^ 64
        gathering_fits = omega (arith, gathering_place)

        -- there was one of its kind
        pub gathering_shared : get_or seen q false ≡ true → {r : Models} → r.shared ≡ true → Gathers text map r
        unfolding each those
        gathering_shared s {r} e =
            let h = along_here go is_child in
            let w = any_wider (passed text m) (model_of (the text k)) _ (met h.kept gathering_model eq ∙ s) in
            let all = rw (is_model_lem ∙ t) at (all_models h) in
            record {
              shared_is = e ∙ sym (ap (two_of alike) all ∙ two_append alike (passed text m) _ ∙ or_middle (two_of alike (passed text m)) _ w);
              holding = λ f. absurd (true≢false (sym e ∙ f));
            }
          where
            or_middle : (x z : Bool) {y : Bool} → y ≡ true → ((x || y) || z) ≡ true
            or_middle true z h = refl
            or_middle false z h = rw h

        module _ (s : get_or seen q false ≡ false) where
          pub gathering_room : ModelRoom text k m
          gathering_room =
              let h = (along_here go is_child).kept in
              record { model = gathering_model; sized = h.sized; left = room_here h gathering_model eq s }

          pub gathering_on : {m₁ : Models} → m₁ ≡ with_model m k (offset_seen text k) (length_seen text k) q → {kid₁ : Option ℕ}
              → kid₁ ≡ next text k → Along text (Gathering text map m₁ (set seen q true)) kid₁
          unfolding those more
          gathering_on e f =
              along_next go is_child (λ l h. record {
                good = good_tail h.good;
                kept = rw e (one_kept h.kept gathering_model eq s);
                so_far = rw (e, snoc h.kept gathering_model eq s, append_assoc) (rw (is_model_lem ∙ t) at h.so_far);
              }) f

pub ruleset gathering = (
  gathering_start,
  gathering_done,
  along_less,
  gathering_miss,
  gathering_model,
  gathering_place,
  gathering_fits,
  gathering_shared,
  gathering_room,
  gathering_on,
  rules,
)
