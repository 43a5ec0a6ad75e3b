-- THE PROMISE IS KEPT: the walk over the NamedMaps of the map that lists the dimension tells the place of each name.
use Rattle.std.specs.Prelude.{◌≡◌, Bool, true, false, drop, Option, Some, None, ℕ}
use Rattle.std.proofs.Math.Path.{refl, sym, ap}
use Rattle.std.proofs.Common.{◌∙◌, subst, le_of_suc-le-suc, rules, eq-eqb, ne_eqb, lt-ltb, le-ltb}
use mathlib.Core.List.{List, [], ◌∷◌}
use Rattle.std.proofs.Math.Bool.{not}
use Prim.Native.Nat.{ℕ, zero, suc, ◌+◌, ◌*◌, ◌≤◌, ◌<◌}
use native.Mathlib.Omega.{arith}
use Rattle.std.proofs.Math.Decide.{ℕ_discrete, dec_lt}
use Rattle.std.proofs.Math.Dec.{ltb}
use Rattle.std.proofs.Math.ListN.{length, get_or, get_or-append}
use Rattle.std.proofs.Math.Seq.{drop-append_seam}
use Rattle.lists.specs.Lists.{each_in, there}
use Rattle.lists.specs.Refusals.{◌when◌, first, positive, NoneApplies}
use Rattle.lists.proofs.Laws.Booleans.{clash, both_ways}
use Rattle.lists.proofs.Laws.Refusals.{first_kept, first_none, given_none, none_given}
use Rattle.grammar.specs.Bytes.{ascii}
use Rattle.grammar.specs.Document.{Element}
use Rattle.grammar.specs.Look.{is, name_of, children}
use Rattle.grammar.specs.Parser.{parse}
use Rattle.records.specs.Fill.{wrote, length_wrote}
use Rattle.records.specs.Outcome.{unless, outcome}
use Rattle.records.specs.declared.outcome.Outcome.{Outcome}
use Rattle.nodes.specs.Children as Children
use Rattle.nodes.specs.Inside.{between_tags}
use Rattle.nodes.specs.Places.{Stands, the}
use Rattle.cifti.specs.Conditions.{conditions_of_header, of_maps}
use Rattle.cifti.specs.Maps.{maps_of}
use Rattle.cifti.specs.Names.{no_name, names_on}
use Rattle.cifti.proofs.Laws.Text.{answers_by}
use Rattle.inside.specs.Walked.{nth_place, child_at, thence}
use Rattle.inside.proofs.Laws.Walked.{Stood, none, one, those_stood, children_stood, those_same}
use Rattle.inside.proofs.Laws.Walked.{Agrees, not_there, stands_there, way_agrees}
use Rattle.inside.specs.Treads.{called, child_named, tread, trod}
use Rattle.inside.proofs.Laws.Treads.{called_alike}
use Rattle.inside.specs.One.{tag_end}
use Rattle.map_names.specs.Way.{name_way, map_way}
use Rattle.map_names.specs.Treads.{in_map_treads, map_there, named_at}
use Rattle.map_names.proofs.Laws.Treads.{thence_at, name_thence, name_way_lem, map_way_lem}
use Rattle.map_names.proofs.Laws.Answered.{answered_found}
use Rattle.map_names.specs.Placed.{NamePlaced}
use Rattle.map_names.proofs.Laws.Placed.{placed_name, Fine, fine}
use Rattle.map_names.proofs.Laws.Reached.{NameOf, no_name_lem, a_name, name_of_lem, listed_once}
use Rattle.survey.specs.Header.{Surveys}
use Rattle.survey.specs.declared.header.Survey.{Survey}
use Rattle.all_names.specs.Names.{name_count, names_refusal, names_answer, name_place_in, MapNamesPlaced}
use Rattle.all_names.specs.Walk.{named_in, start_by, size_by, name_in, pair_of, pairs_at, Counted, number_on, NamesOn}
use Rattle.all_names.proofs.Laws.Walk.{pairs_at_long}
use Rattle.all_names.proofs.Laws.Maps.{MapOf, no_map, the_map, map_of_lem, Unlisted, Lone, none_lists, names_many, name_below, names_long}

-- ---- In the list lent: two numbers a NamedMap.

module _ (text : List ℕ) where
  start_in : (ks : List ℕ) (n : ℕ) → n < length ks
      → get_or (each_in (pair_of text) ks) (2 * n) 0 ≡ start_by text (name_in text (get_or ks n 0))
  unfolding each_in pair_of
  start_in [] n h = absurd (omega arith)
  start_in (c ∷ ks) zero h = refl
  start_in (c ∷ ks) (suc n) h =
      let e : 2 * suc n ≡ suc (suc (2 * n)) = omega arith in
      ap (λ i. get_or (each_in (pair_of text) (c ∷ ks)) i 0) e ∙ start_in ks n (le_of_suc-le-suc h)

  size_in : (ks : List ℕ) (n : ℕ) → n < length ks
      → get_or (each_in (pair_of text) ks) (2 * n + 1) 0 ≡ size_by text (name_in text (get_or ks n 0))
  unfolding each_in pair_of
  size_in [] n h = absurd (omega arith)
  size_in (c ∷ ks) zero h = refl
  size_in (c ∷ ks) (suc n) h =
      let e : 2 * suc n + 1 ≡ suc (suc (2 * n + 1)) = omega arith in
      ap (λ i. get_or (each_in (pair_of text) (c ∷ ks)) i 0) e ∙ size_in ks n (le_of_suc-le-suc h)

nth_at : (ks : List ℕ) (n : ℕ) → n < length ks → nth_place n ks ≡ Some (get_or ks n 0)
unfolding nth_place
nth_at [] n h = absurd (omega arith)
nth_at (c ∷ ks) zero h = refl
nth_at (c ∷ ks) (suc n) h = nth_at ks n (le_of_suc-le-suc h)

-- the way goes on from the map to the n-th NamedMap and its MapName
on_nth : (text : List ℕ) (at n : ℕ) → n < length (named_in text at)
    → trod (in_map_treads text (ascii "MapName") n) text at ≡ name_in text (get_or (named_in text at) n 0)
unfolding trod in_map_treads child_at name_in child_named named_in thence
on_nth text at n h =
    ap (thence (trod (tread (called text (ascii "MapName")) 0 ∷ []) text)) (nth_at (named_in text at) n h)
    ∙ thence_at (child_at (called text (ascii "MapName")) 0 text (get_or (named_in text at) n 0))

-- what was written is read again
wrote_read : (v s : List ℕ) (i : ℕ) → i < length v → get_or (wrote 0 v s) i 0 ≡ get_or v i 0
wrote_read v s i h = get_or-append v (drop (0 + length v) s) 0 i h

wrote_past : (v s : List ℕ) → drop (length v) (wrote 0 v s) ≡ drop (length v) s
wrote_past v s = let e : 0 + length v ≡ length v = omega arith in rw e (drop-append_seam v (drop (length v) s))

-- ---- As many NamedMaps stand there as the map has.

stood_long : {text ks : List ℕ} {es : List Element} → Stood text ks es → length ks ≡ length es
stood_long none = refl
stood_long (one st s) = let h = stood_long s in omega arith

named_long : {text : List ℕ} {at : ℕ} → Stands text at → length (named_in text at) ≡ length (children "NamedMap" (the text at))
unfolding named_in children
named_long {text} {at} st =
    ap length
    (those_same {t = called text (ascii "NamedMap")} {u = λ k. is "NamedMap" (name_of (the text k))}
    (λ k h. called_alike text "NamedMap" k h)
    (children_stood st))
    ∙ stood_long (those_stood (λ x. is "NamedMap" (name_of x)) (children_stood st))

-- ---- Where 1 to 9 do not apply.

-- the map that is found
data MapHere (text : List ℕ) (d : ℕ) (e : Element) : Option ℕ → Type 0 where
  nowhere : Unlisted d e → MapHere text d e None
  stands_here : {k : ℕ} → Stands text k → Lone d e (the text k) → MapHere text d e (Some k)

kept_all : {text lengths : List ℕ} {d : ℕ} {before after : List ℕ} {r : Outcome}
    → r ≡ names_answer lengths (length text) (length before) d (parse text) → r.value ≡ 0 → after ≡ before
    → MapNamesPlaced text lengths d before r after
kept_all {text} {r = r} h z e = record {
  answered = answers_by text _ h;
  each = λ n u. absurd (omega arith);
  past = ap (drop (2 * r.value)) e;
  long = ap length e;
}

module _ (text lengths : List ℕ) (d : ℕ) (h : NoneApplies (conditions_of_header lengths (length text) (parse text))) where
  known : Fine lengths (parse text)
  known = fine lengths (length text) (parse text) h

  map_here : MapHere text d known.document (map_there text d)
  map_here =
      let k = known in
      rw (map_way_lem text d k.is)
      (by (way_agrees (map_way d) text k.is) (map_of_lem d k.good (listed_once lengths (maps_of k.document) k.once d)))
    where
      by : {f : Option ℕ} {o : Option Element} → Agrees text f o → MapOf d known.document o → MapHere text d known.document f
      by not_there (no_map z) = nowhere z
      by (stands_there st) (the_map z) = stands_here st z

  -- the name of an index that is not refused is found
  name_found : (n : ℕ) → no_name d n (maps_of known.document) ≡ false → (m : ℕ) × (named_at text (ascii "MapName") d n ≡ Some m)
  name_found n q =
      let k = known in
      by (way_agrees (name_way d n) text k.is) (name_of_lem d n k.good (listed_once lengths (maps_of k.document) k.once d))
      (name_way_lem text d n k.is)
    where
      by : {f : Option ℕ} {o : Option Element} → Agrees text f o → NameOf d n known.document o → named_at text (ascii "MapName") d n ≡ f
          → (m : ℕ) × (named_at text (ascii "MapName") d n ≡ Some m)
      by not_there (no_name_lem z) w = both_ways z q
      by (stands_there {k = m} st) (a_name z x) w = (m, w)

  -- the answer's number, behind 1 to 9
  number_by : (room : ℕ) {b : Bool} → no_name d 0 (maps_of known.document) ≡ b → {c : ℕ} → length (names_on d known.document) ≡ c
      → names_answer lengths (length text) room d (parse text) ≡ outcome (first (18 when b ∷ 17 when ltb room (2 * c) ∷ [])) c
  unfolding names_answer names_refusal name_count of_maps there
  number_by room q c =
      let k = known in
      ap (λ n. outcome n (name_count d (parse text)))
      (first_none h (18 when of_maps (no_name d 0) (parse text) ∷ 17 when ltb room (2 * name_count d (parse text)) ∷ []))
      ∙ rw (k.is, q, c)

  -- 18: no map lists the dimension
  placed_nowhere : map_there text d ≡ None → {r : Outcome} → r.number ≡ 18 → r.value ≡ 0 → (before : List ℕ)
      → MapNamesPlaced text lengths d before r before
  unfolding first
  placed_nowhere w {r} a b before = by map_here w
    where
      by : {f : Option ℕ} → MapHere text d known.document f → f ≡ None → MapNamesPlaced text lengths d before r before
      by (stands_here st z) w = clash (cc)
      by (nowhere z) w =
          kept_all ((λ i. record { number = a i; value = b i }) ∙ sym (number_by (length before) (none_lists z 0) refl)) b refl

  module _ {k : ℕ} (w : map_there text d ≡ Some k) where
    found_map : Stands text k × Lone d known.document (the text k)
    found_map = by map_here w
      where
        by : {f : Option ℕ} → MapHere text d known.document f → f ≡ Some k → Stands text k × Lone d known.document (the text k)
        by (nowhere z) w = clash (cc)
        by (stands_here {k = j} st z) w =
            let e : j ≡ k = cc in
            (subst (λ (i : ℕ). Stands text i) e st, subst (λ (i : ℕ). Lone d known.document (the text i)) e z)

    lone : Lone d known.document (the text k)
    lone = found_map.1

    many : length (named_in text k) ≡ length (children "NamedMap" (the text k))
    many = named_long found_map.0

    placed_counted : {c : ℕ} → c ≡ get_or lengths d 0 → Counted text k c
    placed_counted e = record {
      many = λ u.
          let m = many in
          let l = names_long lone lengths known.agree (omega arith) in
          omega arith;
    }

    -- each pair that is written is the place of its name
    name_placed : (n : ℕ) → n < length (named_in text k) → (before : List ℕ)
        → NamePlaced text lengths d n (name_place_in (wrote 0 (pairs_at text k) before) n)
    unfolding pairs_at start_by size_by thence
    name_placed n u before =
        let m = many in
        let q = name_below lone n
        ∙ ap not (lt-ltb n (length (children "NamedMap" (the text k))) (omega arith)) in
        let (j, f) = name_found n q in
        let there : named_at text (ascii "MapName") d n ≡ name_in text (get_or (named_in text k) n 0) =
        name_thence text (ascii "MapName") d n ∙ ap (thence (trod (in_map_treads text (ascii "MapName") n) text)) w ∙ on_nth text k n u in
        let is_in : name_in text (get_or (named_in text k) n 0) ≡ Some j = sym there ∙ f in
        let l = pairs_at_long text k in
        let s : get_or (wrote 0 (pairs_at text k) before) (2 * n) 0 ≡ tag_end text j =
        wrote_read (pairs_at text k) before (2 * n) (omega arith) ∙ start_in text (named_in text k) n u ∙ ap (start_by text) is_in in
        let z : get_or (wrote 0 (pairs_at text k) before) (2 * n + 1) 0 ≡ length (between_tags text j) =
        wrote_read (pairs_at text k) before (2 * n + 1) (omega arith) ∙ size_in text (named_in text k) n u ∙ ap (size_by text) is_in in
        placed_name text lengths d n (sym (none_given h))
        (answered_found text d n (name_place_in (wrote 0 (pairs_at text k) before) n) refl refl f refl refl refl s z)

    placed_found : {c : ℕ} → c ≡ get_or lengths d 0 → {before after : List ℕ} {r : Outcome} → NamesOn text k c before r after
        → MapNamesPlaced text lengths d before r after
    unfolding number_on first
    placed_found {c} e {before} {after} {r} o = by (ℕ_discrete (length (named_in text k)) 0) (dec_lt (length before) (2 * c))
      where
        counted : length (names_on d known.document) ≡ length (named_in text k)
        counted = names_many lone ∙ sym many

        first_named : no_name d 0 (maps_of known.document) ≡ not (ltb 0 (length (named_in text k)))
        first_named = name_below lone 0 ∙ ap (λ n. not (ltb 0 n)) (sym many)

        by : Dec (length (named_in text k) ≡ 0) → Dec (length before < 2 * c) → MapNamesPlaced text lengths d before r after
        by (yes z) u =
            let w : number_on text k c (length before) ≡ 18 = rw (eq-eqb (length (named_in text k)) 0 z) in
            let is : r ≡ outcome 18 c = o.answers ∙ ap (λ n. outcome n c) w in
            let q : no_name d 0 (maps_of known.document) ≡ true = first_named ∙ rw (le-ltb 0 (length (named_in text k)) (omega arith)) in
            kept_all (is ∙ sym (number_by (length before) q counted)) (ap (λ (x : Outcome). x.value) is)
            (o.holds ∙ ap (λ (x : Outcome). unless x.number (wrote 0 (pairs_at text k) before) before) is)
        by (no z) (yes u) =
            let m = (placed_counted e).many (omega arith) in
            let w : number_on text k c (length before) ≡ 17 =
            rw (ne_eqb (length (named_in text k)) 0 z, lt-ltb (length before) (2 * c) u) in
            let is : r ≡ outcome 17 c = o.answers ∙ ap (λ n. outcome n c) w in
            let q : no_name d 0 (maps_of known.document) ≡ false = first_named ∙ rw (lt-ltb 0 (length (named_in text k)) (omega arith)) in
            kept_all (is ∙ sym (number_by (length before) q (counted ∙ m) ∙ rw (lt-ltb (length before) (2 * c) u)))
            (ap (λ (x : Outcome). x.value) is)
            (o.holds ∙ ap (λ (x : Outcome). unless x.number (wrote 0 (pairs_at text k) before) before) is)
        by (no z) (no u) =
            let m = (placed_counted e).many (omega arith) in
            let v : 2 * c ≤ length before = omega arith in
            let w : number_on text k c (length before) ≡ 0 =
            rw (ne_eqb (length (named_in text k)) 0 z, le-ltb (length before) (2 * c) v) in
            let is : r ≡ outcome 0 c = o.answers ∙ ap (λ n. outcome n c) w in
            let q : no_name d 0 (maps_of known.document) ≡ false = first_named ∙ rw (lt-ltb 0 (length (named_in text k)) (omega arith)) in
            let value : r.value ≡ c = ap (λ (x : Outcome). x.value) is in
            let all : after ≡ wrote 0 (pairs_at text k) before =
            o.holds ∙ ap (λ (x : Outcome). unless x.number (wrote 0 (pairs_at text k) before) before) is in
            let l : length (pairs_at text k) ≡ 2 * c = pairs_at_long text k ∙ ap (λ n. 2 * n) m in
            record {
              answered = answers_by text _
                  (is ∙ sym (number_by (length before) q (counted ∙ m) ∙ rw (le-ltb (length before) (2 * c) v)));
              each = λ n i. rw all (name_placed n (omega arith) before);
              past = rw (all, value, ← l) (wrote_past (pairs_at text k) before);
              long = rw all (length_wrote 0 (pairs_at text k) before (omega arith));
            }

-- ---- As the door meets it.

module _ {text lengths : List ℕ} {s : Survey} (sv : Surveys text lengths s) (d : ℕ) where
  pub names_refused : (s.number ≡ 0 → ⊥) → {r : Outcome} → r.number ≡ s.number → r.value ≡ 0 → (before : List ℕ)
      → MapNamesPlaced text lengths d before r before
  unfolding names_answer names_refusal
  names_refused k {r} a b before =
      let n = first_kept (conditions_of_header lengths (length text) (parse text))
      (18 when of_maps (no_name d 0) (parse text) ∷ 17 when ltb (length before) (2 * name_count d (parse text)) ∷ []) s.number k
      (sym sv.number_is) in
      kept_all
      ((λ i. record { number = a i; value = b i })
      ∙ sym (ap (λ m. outcome m (name_count d (parse text))) n ∙ rw (ne_eqb s.number 0 k))) b refl

  module _ (z : s.number ≡ 0) where
    none_applies : NoneApplies (conditions_of_header lengths (length text) (parse text))
    unfolding positive conditions_of_header
    none_applies = given_none (conditions_of_header lengths (length text) (parse text)) refl (sym sv.number_is ∙ z)

    module _ {f : Option ℕ} (w : f ≡ map_there text d) where
      pub names_nowhere : f ≡ None → {r : Outcome} → r.number ≡ 18 → r.value ≡ 0 → (before : List ℕ)
          → MapNamesPlaced text lengths d before r before
      names_nowhere q a b before = placed_nowhere text lengths d none_applies (sym w ∙ q) a b before

      module _ {k : ℕ} (q : f ≡ Some k) {c : ℕ} (e : c ≡ get_or lengths d 0) where
        pub names_counted : Counted text k c
        names_counted = placed_counted text lengths d none_applies (sym w ∙ q) e

        pub names_found : {before after : List ℕ} {r : Outcome} → NamesOn text k c before r after
            → MapNamesPlaced text lengths d before r after
        names_found o = placed_found text lengths d none_applies (sym w ∙ q) e o

pub ruleset placingAll = (names_refused, names_nowhere, names_counted, names_found, rules)
