-- What is proved of Sums.
use Rattle.std.specs.Prelude.{◌≡◌, List, [], ◌∷◌, Bool, true, false, cond, ℕ, ◌+◌, ◌*◌, ◌-◌, ◌^◌, ◌≤◌, ◌<◌, length, take, drop, Option, Some, None}
use Rattle.std.proofs.Math.Path.{refl, sym, ap}
use Rattle.std.proofs.Common.{◌∙◌, length-take, rules}
use Prim.Native.String.{String}
use native.Mathlib.Omega.{arith}
use Rattle.std.proofs.Math.ListN.{length-drop}
use Rattle.lists.proofs.Laws.Booleans.{clash, both_ways}
use Rattle.lists.specs.Lists.{all, total, each, those}
use Rattle.grammar.specs.Bytes.{ascii, between}
use Rattle.grammar.specs.Document.{Element}
use Rattle.grammar.proofs.Laws.Facts.{and_right, within}
use Rattle.grammar.specs.Look.{Word, is, name_of, attr, contents_of, elements, children}
use Rattle.numbers.specs.Numbers.{digits, whole, value}
use Rattle.nodes.specs.Places.{Stands, the}
use Rattle.nodes.proofs.Laws.Places.{Tail, tail_of, tail_more}
use Rattle.nodes.specs.Scan.{skip_at}
use Rattle.nodes.proofs.Laws.Scanned.{skip_less}
use Rattle.nodes.proofs.Laws.Skipping.{skip_element}
use Rattle.nodes.specs.ElementEnd.{Behind}
use Rattle.nodes.specs.Ahead.{ahead_at, first_ahead}
use Rattle.nodes.proofs.Laws.AheadElements.{left_ahead}
use Rattle.nodes.proofs.Laws.Along.{children_few, AlongAhead, ahead_start, ahead_done, ahead_ends, ahead_never}
use Rattle.nodes.proofs.Laws.Along.{ahead_stands, ahead_here, ahead_less, ahead_next}
use Rattle.nodes.specs.declared.ahead.Ahead.{Ahead}
use Rattle.nodes.specs.declared.ahead.Ahead.TheVariants as ahead-is
use Rattle.steps.specs.Step.{stepped}
use Rattle.grammar.specs.Read.{got}
use Rattle.grammar.proofs.Laws.Read.{ok_got}
use Rattle.nodes.specs.Names.{named}
use Rattle.nodes.proofs.Laws.Names.{name_is_law}
use Rattle.cifti.specs.Maps.{Model, map_of, model_of, series_of, is_brain, is_series, counted_name, counted_bytes, counted_bytes_lem, kind_of_map}
use Rattle.cifti.specs.Maps.{length_of, length_by}
use Rattle.cifti.specs.declared.answer.Kind.{Kind}
use Rattle.cifti.specs.declared.answer.Kind.TheVariants.{Brain, Series}
use Rattle.maps.proofs.Laws.MapKind.{good_brain, good_series, brain_kind, series_kind}
use Rattle.maps.proofs.Laws.Good.{AllGood, none_left, one_good}
use Rattle.maps.proofs.Laws.Kinds.{good_model, brain_rows, brain_children, model_facts, series_facts}
use Rattle.maps.specs.Kinds.{GoodModel}
use Rattle.maps.specs.Fields.{attribute_word, number_seen, or_zero}
use Rattle.maps.proofs.Laws.Fields.{word_at, number_seen_lem}
use Rattle.numbers.specs.Answers.{whole_in}
use Rattle.maps.specs.declared.survey.Measure.{Measure}
use Rattle.maps.specs.declared.survey.Seen.{Seen}
use Rattle.maps.specs.Sums.{weigh, weight_of, Weighed, is_volume, VolumeLeft, VolumeMet, InShort, AheadBehind, Summed, KindAt, Spanned}

pub seen_most : (lo hi : ℕ) (w : Word) → number_seen lo hi w ≤ hi
unfolding number_seen whole_in or_zero whole
seen_most lo hi w = go (whole lo hi w) refl
  where
    go : (b : Bool) → whole lo hi w ≡ b → or_zero (cond b (Some (value w)) None) ≤ hi
    go true e = (within lo hi (value w) (and_right (digits 1 7 w) (between lo hi (value w)) e)).1
    go false e = omega arith

-- the letters of the name that the kind counts
pub record Spelled (k : Kind) (letters : List ℕ) (n : ℕ) : Type 0 where
  pub spells : take n letters ≡ counted_bytes k
  pub part : n ≡ length (take n letters)
  pub room : n ≤ length letters

pub spelled : (k : Kind) (l : List ℕ) (n : ℕ) → (take n l ≡ counted_bytes k) × ((n ≡ length (counted_bytes k)) × (n ≤ 16)) → Spelled k l n
spelled k l n told =
    let p : n ≡ length (take n l) = told.1.0 ∙ ap length (sym told.0) in
    record { spells = told.0; part = p; room = omega (arith, length-take n l) }

pub counted_told : (k : Kind) (text : List ℕ) (at : ℕ) {n : ℕ} {l : List ℕ} → Spelled k l n → {c : Bool} → c ≡ named text at (take n l)
    → c ≡ named text at (ascii (counted_name k))
counted_told k text at s e = e ∙ ap (named text at) (s.spells ∙ counted_bytes_lem k)

counted_so : (k : Kind) {text : List ℕ} {at : ℕ} → Stands text at → {c : Bool} → c ≡ named text at (ascii (counted_name k))
    → is (counted_name k) (name_of (the text at)) ≡ c
counted_so k st asked = sym (asked ∙ name_is_law (counted_name k) st)

module _ {text : List ℕ} {at : ℕ} (st : Stands text at) {k : Kind} {c : Bool} (asked : c ≡ named text at (ascii (counted_name k))) where
  pub weight_none : c ≡ false → Weighed k (the text at) 0
  unfolding weight_of weigh
  weight_none f = record { weighs = rw (counted_so k st asked ∙ f); most = omega arith }

  module _ (t : c ≡ true) {b : Bool} (brain : b ≡ is_brain k) where
    pub weight_model : b ≡ true → {n : ℕ} → n ≡ number_seen 1 1048576 (attribute_word (ascii "IndexCount") (the text at))
        → Weighed k (the text at) n
    unfolding weight_of weigh
    weight_model y {n} p =
        let m = seen_most 1 1048576 (attribute_word (ascii "IndexCount") (the text at)) in
        record { weighs = rw (counted_so k st asked ∙ t, sym brain ∙ y) p; most = omega arith }

    pub weight_one : b ≡ false → Weighed k (the text at) 1
    unfolding weight_of weigh
    weight_one f = record { weighs = rw (counted_so k st asked ∙ t, sym brain ∙ f); most = omega arith }

pub ruleset weighing = (weight_none, weight_model, weight_one, rules)

module _ {text : List ℕ} {k : ℕ} (st : Stands text k) (s : Seen) where
  pub met_other : {kind : Kind} {b : Bool} → b ≡ is_brain kind → b ≡ false → VolumeMet kind text k s s
  met_other p f = record { met = λ t. both_ways t (sym p ∙ f) }

  pub met_before : {kind : Kind} → s.found ≡ true → VolumeMet kind text k s s
  met_before h = record { met = λ t all l v. record { none = λ n. both_ways h n; stands = v.stands; rest = v.rest; first = v.first } }

  module _ (h : s.found ≡ false) {c : Bool} (nm : c ≡ named text k (ascii "Volume")) where
    is_it : is_volume (the text k) ≡ c
    unfolding is_volume
    is_it = sym (nm ∙ name_is_law "Volume" st)

    pub met_here : c ≡ true → {kind : Kind} (r : Seen) → r.found ≡ true → r.at ≡ k → VolumeMet kind text k s r
    unfolding those
    met_here y r e f = record {
      met = λ t all l v. record {
        none = λ n. both_ways e n;
        stands = λ _. rw f st;
        rest = those is_volume l;
        first = λ _. rw f (v.none h ∙ rw (is_it ∙ y) refl);
      };
    }

    pub met_past : c ≡ false → {kind : Kind} → VolumeMet kind text k s s
    unfolding those
    met_past y = record {
      met = λ t all l v. record
          { none = λ n. (v.none n ∙ rw (is_it ∙ y) refl); stands = v.stands; rest = v.rest; first = v.first };
    }

pub ruleset meeting = (met_other, met_before, met_here, met_past, rules)

-- an element that stands ends somewhere
ends_at : {text : List ℕ} {k : ℕ} (st : Stands text k) → Behind text k (length text - length st.rest)
ends_at {text} {k} st =
    let over : skip_at (drop k text) ≡ got tt st.rest = skip_element (drop k text) (the text k) st.rest st.reads in
    let less = ok_got (rw over at (skip_less (drop k text))) in
    let tail : Tail text st.rest = tail_more less.front st.rest less.whole (tail_of text k) in
    record {
      ends = over ∙ ap (got tt) (sym tail.stands);
      inside = omega arith;
      after = let n = length-drop k text in
          omega (arith, less.falls);
    }

-- the code's way to that place
module _ {text : List ℕ} {k : ℕ} {x : Option ℕ} (e : x ≡ stepped (length text) (skip_at (drop k text))) where
  step_behind : {j : ℕ} → Behind text k j → x ≡ Some j
  unfolding stepped
  step_behind {j} b = e ∙ rw b.ends (ap Some (simp length-drop (omega (arith, b.inside))))

  pub behind_found : Stands text k → {j : ℕ} → x ≡ Some j → Behind text k j
  behind_found st {j} h =
      let b = ends_at st in
      let same : Some (length text - length st.rest) ≡ Some j = sym (step_behind b) ∙ h in
      let place : length text - length st.rest ≡ j = cc in
      rw place at b

  pub behind_missing : Stands text k → x ≡ None → Behind text k 0
  behind_missing st h = let bad : None ≡ Some (length text - length st.rest) = sym h ∙ step_behind (ends_at st) in clash (cc)

  pub ahead_found : {j : ℕ} → x ≡ Some j → {a : Ahead} → a ≡ ahead_at true (length text) (drop j text) → AheadBehind text k a
  ahead_found {j} h q i b =
      let same : Some i ≡ Some j = sym (step_behind b) ∙ h in
      let place : i ≡ j = cc in
      rw place q

  pub ahead_missing : x ≡ None → (a : Ahead) → AheadBehind text k a
  ahead_missing h a i b = let bad : None ≡ Some i = sym h ∙ step_behind b in clash (cc)

pub ruleset behind_so = (behind_found, behind_missing, ahead_found, ahead_missing, rules)

-- the sum of those passed; those of the list are ahead
pub record Summing (text : List ℕ) (at : ℕ) (kind : Kind) (n : ℕ) (seen : Seen) (l : List Element) : Type 0 where
  pub short : length text ≤ 16777216
  pub so_far : total (weight_of kind) (elements (contents_of (the text at))) ≡ n + total (weight_of kind) l
  pub room : n + 1048576 * length l ≤ 1048576 * length text
  pub volumes : is_brain kind ≡ true → VolumeLeft text (elements (contents_of (the text at))) l seen

pub sum_start : {text : List ℕ} {at : ℕ} (kind : Kind) → InShort text at → (seen : Seen) → seen.found ≡ false → {next : Ahead}
    → next ≡ first_ahead true text at → AlongAhead text at true (Summing text at kind 0 seen) next
sum_start kind i seen f e =
    ahead_start i.stands (record {
      short = i.short;
      so_far = omega arith;
      room = let c = children_few i.stands in omega arith;
      volumes = λ _. record { none = λ _. refl; stands = λ t. both_ways t f; rest = []; first = λ t. both_ways t f };
    }) e

module _ {text : List ℕ} {at : ℕ} {kind : Kind} {n : ℕ} {seen : Seen} {next : Ahead}
    (go : AlongAhead text at true (Summing text at kind n seen) next) where
  pub sum_done : {j : ℕ} → next ≡ ahead-is.End j → Summed text at kind (record { length = n; volume = seen; behind = j })
  unfolding total
  sum_done e =
      let s = ahead_done go e in
      let t = s.so_far in
      let r = s.room in
      let h = s.short in
      record { sum = omega arith; most = omega arith; volume = s.volumes; ends = ahead_ends go e }

  pub sum_never : next ≡ ahead-is.Stray → (r : Measure) → Summed text at kind r
  sum_never e r = ahead_never go refl e

  module _ {k : ℕ} (is_child : next ≡ ahead-is.Child k) where
    there : Behind text k (length text - length (ahead_stands go is_child).rest)
    there = ends_at (ahead_stands go is_child)

    pub sum_less : {next₁ : Ahead} → AheadBehind text k next₁ → left_ahead text next₁ < left_ahead text next
    sum_less a = ahead_less go is_child there (a _ there)

    module _ {w : ℕ} (weighed : Weighed kind (the text k) w) where
      pub sum_fits : n + w < 2 ^ 64
      sum_fits = let s = ahead_here go is_child in let r = s.room in let h = s.short in let m = weighed.most in omega arith

      pub sum_more : {seen₁ : Seen} → VolumeMet kind text k seen seen₁ → {next₁ : Ahead} → AheadBehind text k next₁
          → AlongAhead text at true (Summing text at kind (n + w) seen₁) next₁
      unfolding total
      sum_more v a =
          let m = weighed.most in
          let p = weighed.weighs in
          ahead_next go is_child there (a _ there) (λ l s. record {
            short = s.short;
            so_far = let t = s.so_far in omega arith;
            room = let r = s.room in omega arith;
            volumes = λ t. v.met t _ l (s.volumes t);
          })

pub ruleset summing = (sum_start, sum_done, sum_never, ahead_stands, sum_less, sum_fits, sum_more, rules)

model_count : (e : Element) → GoodModel e → number_seen 1 1048576 (attribute_word (ascii "IndexCount") e) ≡ (model_of e).count
unfolding model_of
model_count e g = ap (number_seen 1 1048576) (word_at "IndexCount" e) ∙ number_seen_lem 1 1048576 (attr "IndexCount" e) (model_facts g).count

models_total : (l : List Element) → AllGood brain_rows l
    → total (weight_of Brain) l ≡ total (λ (m : Model). m.count) (each model_of (those (λ e. is "BrainModel" (name_of e)) l))
unfolding total each those weight_of weigh
models_total [] none_left = refl
models_total (e ∷ l) (one_good g r) = go (is "BrainModel" (name_of e)) refl (models_total l r)
  where
    go : (b : Bool) → is "BrainModel" (name_of e) ≡ b
        → total (weight_of Brain) l ≡ total (λ (m : Model). m.count) (each model_of (those (λ e. is "BrainModel" (name_of e)) l))
        → cond b (number_seen 1 1048576 (attribute_word (ascii "IndexCount") e)) 0 + total (weight_of Brain) l
        ≡ total (λ (m : Model). m.count)
        (each model_of (cond b (e ∷ those (λ e. is "BrainModel" (name_of e)) l) (those (λ e. is "BrainModel" (name_of e)) l)))
    go true q ih = let s = model_count e (good_model e g q) in omega arith
    go false q ih = omega arith

named_total : (s : String) (l : List Element) → total (weigh s false) l ≡ length (those (λ e. is s (name_of e)) l)
unfolding total those weigh
named_total s [] = refl
named_total s (e ∷ l) = go (is s (name_of e)) (named_total s l)
  where
    go : (b : Bool) → total (weigh s false) l ≡ length (those (λ e. is s (name_of e)) l)
        → cond b 1 0 + total (weigh s false) l ≡ length (cond b (e ∷ those (λ e. is s (name_of e)) l) (those (λ e. is s (name_of e)) l))
    go true ih = omega arith
    go false ih = omega arith

module _ {text : List ℕ} {at : ℕ} {kind : Kind} (k : KindAt text at kind) where
  pub in_short : InShort text at
  in_short = record { stands = k.map.stands; short = k.map.short }

  pub span_stands : Stands text at
  span_stands = k.map.stands

  is_kind : {j : Kind} → kind ≡ j → kind_of_map (the text at) ≡ j
  is_kind h = sym k.kind_is ∙ h

  pub span_series : {b : Bool} → b ≡ is_series kind → b ≡ true → {n : ℕ}
      → n ≡ number_seen 1 1048576 (attribute_word (ascii "NumberOfSeriesPoints") (the text at)) → {j : ℕ} → Behind text at j → (s : Seen)
      → Spanned text at kind (record { length = n; volume = s; behind = j })
  unfolding length_of length_by map_of series_of
  span_series p t e b s =
      let h : kind ≡ Series = series_kind kind (sym p ∙ t) in
      record {
        volume = λ t. both_ways t (ap is_brain h);
        long = rw (is_kind h) (e ∙ ap (number_seen 1 1048576) (word_at "NumberOfSeriesPoints" (the text at))
            ∙ number_seen_lem 1 1048576 (attr "NumberOfSeriesPoints" (the text at))
            (series_facts (good_series k.map.good (is_kind h))).points);
        most = let m = seen_most 1 1048576 (attribute_word (ascii "NumberOfSeriesPoints") (the text at)) in omega arith;
        ends = b;
      }

  brain_long : kind ≡ Brain → total (weight_of kind) (elements (contents_of (the text at))) ≡ length_of (map_of (the text at))
  unfolding length_of length_by map_of children
  brain_long h = rw (h, is_kind h) (models_total (elements (contents_of (the text at)))
      (brain_children (good_brain k.map.good (is_kind h))))

  counted_is : is_brain kind ≡ false → is_series kind ≡ false
      → length (children (counted_name kind) (the text at)) ≡ length_of (map_of (the text at))
  unfolding length_of length_by map_of
  counted_is f g = rw (← k.kind_is, f, g) refl

  counted_long : is_brain kind ≡ false → is_series kind ≡ false
      → total (weight_of kind) (elements (contents_of (the text at))) ≡ length_of (map_of (the text at))
  unfolding weight_of children
  counted_long f g =
      ap (λ b. total (weigh (counted_name kind) b) (elements (contents_of (the text at)))) f
      ∙ named_total (counted_name kind) (elements (contents_of (the text at))) ∙ counted_is f g

  pub span_sum : {b : Bool} → b ≡ is_series kind → b ≡ false → {r : Measure} → Summed text at kind r → Spanned text at kind r
  span_sum p f s = record { long = s.sum ∙ go (is_brain kind) refl; volume = s.volume; most = s.most; ends = s.ends }
    where
      go : (b : Bool) → is_brain kind ≡ b → total (weight_of kind) (elements (contents_of (the text at))) ≡ length_of (map_of (the text at))
      go true q = brain_long (brain_kind kind q)
      go false q = counted_long q (sym p ∙ f)

pub ruleset measuring = (in_short, span_stands, span_series, span_sum, rules)
