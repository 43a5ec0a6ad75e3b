-- What is proved of Survey.
use Rattle.std.specs.Prelude.{◌≡◌, refl, Bool, true, false, ℕ, ◌+◌, ◌≤◌, ◌<◌, ltb, length, drop, get_or, set, Option, Some, None}
use Rattle.std.proofs.Math.Path.{sym}
use Rattle.std.proofs.Common.{ap, ◌∙◌, arith, lt-ltb, length-set, length-append, get_or-set_same, get_or-set_other, rules}
use mathlib.Core.List.{List, [], ◌∷◌, ◌++◌, append-nil}
use Rattle.std.proofs.Math.Decide.{ℕ_discrete}
use Rattle.std.proofs.Math.ListN.{get_or-append}
use Rattle.std.proofs.Math.Seq.{get_or-append_seam}
use Rattle.lists.proofs.Laws.Booleans.{both_ways}
use Rattle.lists.specs.Lists.{each, those}
use Rattle.grammar.specs.Bytes.{ascii}
use Rattle.grammar.specs.Document.{Element}
use Rattle.grammar.specs.Look.{is, name_of, children}
use Rattle.nodes.specs.Places.{Stands, the}
use Rattle.nodes.specs.Children.{kid_at, first_child, next}
use Rattle.nodes.proofs.Laws.Children.{left}
use Rattle.nodes.specs.Names.{named}
use Rattle.nodes.proofs.Laws.Names.{name_is_law}
use Rattle.nodes.proofs.Laws.Along.{Along, along_start, along_done, along_stands, along_here, along_less, along_next}
use Rattle.cifti.specs.Rows as kinds
use Rattle.cifti.specs.Maps.{map_of, kind_of_map, dimensions_of}
use Rattle.cifti.specs.declared.answer.Kind.{Kind}
use Rattle.maps.proofs.Laws.Good.{AllGood, good_head, good_tail}
use Rattle.maps.proofs.Laws.Kinds.{matrix_rows, matrix_children}
use Rattle.maps.proofs.Laws.MapKind.{good_map}
use Rattle.nodes.specs.ElementEnd.{Behind}
use Rattle.nodes.proofs.Laws.ElementEnd.{next_behind}
use Rattle.maps.specs.Sums.{MapAt, KindAt, Spanned}
use Rattle.maps.specs.Digits.{CountsNumbers}
use Rattle.maps.specs.declared.dims.Dims.{Dims}
use Rattle.maps.specs.declared.survey.MapNote.{MapNote}
use Rattle.maps.specs.declared.survey.Measure.{Measure}
use Rattle.maps.specs.declared.survey.Maps.{Maps}
use Rattle.maps.specs.Survey.{Noted, NotedIf, MapsKept, NotedWith, AllStand, none_stands, one_stands, MatrixAt, MapsAre, NoneYet}

pub noted_kind_of : {text : List ℕ} {n : MapNote} → Noted text n → n.kind ≡ (map_of (the text n.at)).kind
unfolding map_of
noted_kind_of m = m.kind_is

module _ {text : List ℕ} {at : ℕ} (m : MapAt text at) where
  pub note_map : MapAt text at
  note_map = m

  pub note_stands : Stands text at
  note_stands = m.stands

  pub note_kind : {k : Kind} → k ≡ kind_of_map (the text at) → KindAt text at k
  note_kind h = record { map = m; kind_is = h }

  pub note_wanted : {w : Bool} → w ≡ true → {k : Kind} → k ≡ kind_of_map (the text at) → {d : Dims}
      → CountsNumbers (dimensions_of (the text at)) d
      → {r : Measure} → Spanned text at k r
      → NotedIf w text at (record { at = at; behind = r.behind; kind = k; lists = d; length = r.length; volume = r.volume })
  note_wanted t h l s = record {
    place = refl;
    ends = s.ends;
    noted = λ _. record { map = m; ends = s.ends; kind_is = h; lists = l; long = s.long; most = s.most; volume = s.volume };
  }

  pub note_unwanted : {w : Bool} → w ≡ false → {j : ℕ} → Behind text at j → (n : MapNote) → n.at ≡ at → n.behind ≡ j → NotedIf w text at n
  note_unwanted f b n p q = record { place = p; ends = rw q b; noted = λ t. both_ways t f }

pub ruleset noting_one = (note_map, note_stands, note_kind, note_wanted, note_unwanted, rules)

one_longer : (l : List ℕ) (k : ℕ) → length (l ++ (k ∷ [])) ≡ length l + 1
one_longer l k = length-append l (k ∷ [])

as_before : (l : List ℕ) (k i : ℕ) → i < length l → get_or (l ++ (k ∷ [])) i 0 ≡ get_or l i 0
as_before l k i u = get_or-append l (k ∷ []) 0 i u

module _ (n : MapNote) (r s : Maps) where
  pub noted_room : r.count < 3 → s.each ≡ set r.each r.count n → s.count ≡ r.count + 1 → NotedWith n r s
  noted_room few a c text l f h = record {
    many = let m = one_longer l n.at in let h₀ = h.many in omega arith;
    three = ap length a ∙ length-set r.each r.count n ∙ h.three;
    place = λ z i u w. (let m = one_longer l n.at in rw a (place_at z i u (omega arith) (ℕ_discrete i r.count)));
    noted = λ z i u w. (let m = one_longer l n.at in rw a (noted_at z i u (omega arith) (ℕ_discrete i r.count)));
  }
    where
      here : r.count ≡ length l
      here = let m = h.many in omega arith

      place_at : (z : MapNote) (i : ℕ) → i < 3 → i ≤ length l → Dec (i ≡ r.count)
          → (get_or (set r.each r.count n) i z).at ≡ get_or (l ++ (n.at ∷ [])) i 0
      place_at z i u w (yes q) =
          let t = h.three in
          let e : get_or (l ++ (n.at ∷ [])) i 0 ≡ n.at = ap (λ j. get_or (l ++ (n.at ∷ [])) j 0) (q ∙ here)
          ∙ get_or-append_seam l n.at [] 0 in
          ap (λ j. (get_or (set r.each r.count n) j z).at) q
          ∙ ap (λ (x : MapNote). x.at) (get_or-set_same r.each r.count n z (omega arith)) ∙ sym e
      place_at z i u w (no q) =
          let low : i < length l = (let k = here in omega arith) in
          ap (λ (x : MapNote). x.at) (get_or-set_other r.each r.count i n z q) ∙ h.place z i u low ∙ sym (as_before l n.at i low)

      noted_at : (z : MapNote) (i : ℕ) → i < 3 → i ≤ length l → Dec (i ≡ r.count) → Noted text (get_or (set r.each r.count n) i z)
      noted_at z i u w (yes q) = let t = h.three in rw (q, get_or-set_same r.each r.count n z (omega arith)) (f few)
      noted_at z i u w (no q) = let low : i < length l = (let k = here in omega arith) in
          rw (get_or-set_other r.each r.count i n z q) (h.noted z i u low)

  pub noted_full : 3 ≤ r.count → s.each ≡ r.each → s.count ≡ 4 → NotedWith n r s
  noted_full full a c text l f h = record {
    many = let m = one_longer l n.at in let h₀ = h.many in omega arith;
    three = ap length a ∙ h.three;
    place = λ z i u w. (let low : i < length l = past i u in rw a (h.place z i u low ∙ sym (as_before l n.at i low)));
    noted = λ z i u w. rw a (h.noted z i u (past i u));
  }
    where
      past : (i : ℕ) → i < 3 → i < length l
      past i u = let m = h.many in omega arith

pub ruleset noting = (noted_room, noted_full, rules)

stand_more : {text l : List ℕ} {k : ℕ} → AllStand text l → Stands text k → AllStand text (l ++ (k ∷ []))
stand_more none_stands s = one_stands s none_stands
stand_more (one_stands t a) s = one_stands t (stand_more a s)

each_more : (text l : List ℕ) (k : ℕ) (m : List Element) → each (the text) l ++ (the text k ∷ m) ≡ each (the text) (l ++ (k ∷ [])) ++ m
unfolding each
each_more text [] k m = refl
each_more text (a ∷ l) k m = ap (λ x. the text a ∷ x) (each_more text l k m)

unfoldable pub is_map : Element → Bool
is_map e = is "MatrixIndicesMap" (name_of e)

-- those met are noted; those of the list are ahead
pub record Surveying (text : List ℕ) (matrix : ℕ) (r : Maps) (l : List Element) : Type 0 where
  pub good : AllGood matrix_rows l
  pub short : length text ≤ 16777216
  pub met : List ℕ
  pub holds : MapsKept text met r
  pub stand : AllStand text met
  pub so_far : children "MatrixIndicesMap" (the text matrix) ≡ each (the text) met ++ those is_map l

pub none_yet : (r : Maps) → length r.each ≡ 3 → r.count ≡ 0 → NoneYet r
none_yet r a c = record { three = a; none = c }

pub ruleset none_noted = (none_yet, rules)

pub surveying_start : {text : List ℕ} {at : ℕ} {r : Maps} → NoneYet r → MatrixAt text at → {kid : Option ℕ} → kid ≡ first_child text at
    → Along text (Surveying text at r) kid
unfolding children each is_map
surveying_start y m e =
    along_start m.stands (record {
      good = matrix_children m.good;
      short = m.short;
      met = [];
      holds = record {
        many = (let c = y.none in omega arith);
        three = y.three;
        place = λ z i u v. absurd (omega arith);
        noted = λ z i u v. absurd (omega arith);
      };
      stand = none_stands;
      so_far = refl;
    }) e

module _ {text : List ℕ} {matrix : ℕ} {r : Maps} {kid : Option ℕ} (go : Along text (Surveying text matrix r) kid) where
  pub surveying_done : kid ≡ None → MapsAre text matrix r
  unfolding those
  surveying_done e =
      let s = along_done go e in
      record { met = s.met; holds = s.holds; stand = s.stand; are = s.so_far ∙ append-nil (each (the text) s.met) }

  module _ {k : ℕ} (is_child : kid ≡ Some k) {b : Bool} (nm : b ≡ named text k (ascii "MatrixIndicesMap")) where
    is_map_lem : is_map (the text k) ≡ b
    unfolding is_map
    is_map_lem = sym (nm ∙ name_is_law "MatrixIndicesMap" (along_stands go is_child))

    pub surveying_miss : b ≡ false → {kid₁ : Option ℕ} → kid₁ ≡ next text k → Along text (Surveying text matrix r) kid₁
    unfolding those
    surveying_miss f e =
        along_next go is_child (λ l s. record {
          good = good_tail s.good;
          short = s.short;
          met = s.met;
          holds = s.holds;
          stand = s.stand;
          so_far = s.so_far ∙ rw (is_map_lem ∙ f);
        }) e

    pub surveying_map : b ≡ true → MapAt text k
    unfolding is_map
    surveying_map t =
        let s = along_here go is_child in
        record { stands = along_stands go is_child; good = good_map (the text k) (good_head s.good) (is_map_lem ∙ t); short = s.short }

    module _ {n : MapNote} (at : NotedIf (ltb r.count 3) text k n) {kid₁ : Option ℕ}
        (e : kid₁ ≡ kid_at (length text) (drop n.behind text)) where
      is_next : kid₁ ≡ next text k
      is_next = e ∙ sym (next_behind at.ends)

      pub surveying_on : left text kid₁ < left text kid
      surveying_on = along_less go is_child is_next

      pub surveying_hit : b ≡ true → {s : Maps} → NotedWith n r s → Along text (Surveying text matrix s) kid₁
      unfolding those
      surveying_hit t more =
          along_next go is_child (λ l s. record {
            good = good_tail s.good;
            short = s.short;
            met = s.met ++ (k ∷ []);
            holds = rw at.place at (more text s.met (λ few. at.noted (lt-ltb r.count 3 few)) s.holds);
            stand = stand_more s.stand (along_stands go is_child);
            so_far = s.so_far ∙ rw (is_map_lem ∙ t) (each_more text s.met k _);
          }) is_next

pub ruleset surveying = (surveying_start, surveying_done, along_less, surveying_miss, surveying_map, surveying_on, surveying_hit, rules)
