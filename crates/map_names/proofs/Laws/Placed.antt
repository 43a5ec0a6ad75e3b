-- What is proved of Placed.
use Rattle.std.specs.Prelude.{◌≡◌, List, [], ◌∷◌, Bool, false, length, get_or, take, drop, Option, Some, ℕ, None}
use Rattle.std.proofs.Math.Path.{refl, sym, ap}
use Rattle.std.proofs.Common.{◌∙◌, subst, arith, length-drop, length-take-le}
use Prim.Native.Nat.{ℕ, zero, suc, ◌+◌, ◌≤◌}
use Rattle.std.proofs.Math.Decide.{ℕ_discrete}
use Rattle.std.proofs.lemmas.Bool.{not-false}
use Rattle.lists.specs.Lists.{is_some, there}
use Rattle.lists.proofs.Laws.Booleans.{both_ways}
use Rattle.lists.specs.Refusals.{◌when◌, first, positive, NoneApplies}
use Rattle.lists.proofs.Laws.Refusals.{first_kept, first_none, given_none, row_fails, rows_behind}
use Rattle.grammar.specs.Document.{Element}
use Rattle.grammar.specs.Parser.{parse}
use Rattle.nodes.specs.Inside.{between_tags}
use Rattle.nodes.proofs.Laws.Inside.{within_law}
use Rattle.cifti.specs.Conditions.{conditions_of_header, of_maps, shape_wrong, number_wrong, no_document, dimensions_wrong, length_wrong}
use Rattle.cifti.specs.Maps.{maps_of}
use Rattle.cifti.specs.Names.{no_name, name_refusal, names_on, part_by, name_part, NameNumber, NamePart}
use Rattle.cifti.specs.Rows.{cifti}
use Rattle.cifti.proofs.Laws.Text.{answers_by}
use Rattle.cifti.proofs.Laws.Theorems.{number_unique, part_unique}
use Rattle.maps.specs.Good.{Good}
use Rattle.inside.specs.Way.{WayStep}
use Rattle.inside.specs.Walked.{way_at}
use Rattle.inside.proofs.Laws.Walked.{Agrees, not_there, stands_there, way_agrees}
use Rattle.inside.proofs.Laws.One as One
use Rattle.inside.specs.One.{tag_end}
use Rattle.inside.proofs.Laws.One.{place_cut, place_found}
use Rattle.map_names.specs.Way.{name_way}
use Rattle.map_names.proofs.Laws.Reached.{NameOf, no_name_lem, a_name, listed_once, name_of_lem}
use Rattle.map_names.proofs.Laws.Treads.{name_way_lem}
use Rattle.map_names.specs.Answered.{Is, Answered}
use Rattle.map_names.specs.declared.NamePlace.{NamePlace}
use Rattle.map_names.specs.Placed.{PlacedBy, NamePlaced}

-- ---- Where no condition before 18 applies, there is a document, and 6 to 9 do not apply to it.

pub record Fine (lengths : List ℕ) (o : Option Element) : Type 0 where
  pub document : Element
  pub is : o ≡ Some document
  pub good : Good cifti document
  pub once : dimensions_wrong lengths (maps_of document) ≡ false
  pub agree : length_wrong lengths (maps_of document) ≡ false

pub fine : (lengths : List ℕ) (size : ℕ) (o : Option Element) → NoneApplies (conditions_of_header lengths size o) → Fine lengths o
unfolding conditions_of_header no_document is_some there shape_wrong number_wrong of_maps
fine lengths size None h = both_ways refl (row_fails (rows_behind (rows_behind h)))
fine lengths size (Some e) h =
    let six = rows_behind (rows_behind (rows_behind (rows_behind (rows_behind h)))) in
    let seven = rows_behind six in
    record {
      document = e;
      is = refl;
      good = record { shape = not-false _ (row_fails six); number = not-false _ (row_fails seven) };
      once = row_fails (rows_behind seven);
      agree = row_fails (rows_behind (rows_behind seven));
    }

-- ---- A place by any number, part and way.

module _ {Number : ℕ → Type 0} {Part : List ℕ → Type 0} {way : List WayStep} {text : List ℕ} where
  pub refused_by_lem : {n : ℕ} → (n ≡ 0 → ⊥) → Number n → Part [] → {r : NamePlace} → Is r n 0 0 → PlacedBy Number Part way text r
  refused_by_lem k m l {r} s =
      let a = s.number_is in
      let b = s.start_is in
      let c = s.length_is in
      record {
        numbered = rw a m;
        inside = omega arith;
        named = rw c l;
        placed = λ z. absurd (k (sym a ∙ z));
        refused = λ _. (b, c);
      }

  pub placed_by : {e : Element} {k : ℕ} → parse text ≡ Some e → way_at way text ≡ Some k → Number 0 → Part (between_tags text k)
      → {r : NamePlace} → Is r 0 (tag_end text k) (length (between_tags text k)) → PlacedBy Number Part way text r
  placed_by {e} {k} p f m l {r} s =
      let here = place_found way p f in
      let c = place_cut here in
      let a = s.start_is in
      let b = s.length_is in
      let u = c.inside in
      let same : between_tags text k ≡ take r.length (drop r.start text) = sym (rw (a, b) c.is) in
      record {
        numbered = rw s.number_is m;
        inside = omega arith;
        named = rw (← same) l;
        placed = λ _. rw (← same, a) here;
        refused = λ y. absurd (y s.number_is);
      }

as_long : (text : List ℕ) (s n : ℕ) → s + n ≤ length text → length (take n (drop s text)) ≡ n
as_long text s n h = let k = length-drop s text in length-take-le n (drop s text) (omega arith)

-- where number and part are one, the place is one
module _ {Number : ℕ → Type 0} {Part : List ℕ → Type 0} {way : List WayStep} {text : List ℕ} {a b : NamePlace}
    (p : PlacedBy Number Part way text a) (q : PlacedBy Number Part way text b) (number_same : a.number ≡ b.number)
    (Part-same : take a.length (drop a.start text) ≡ take b.length (drop b.start text)) where
  start_same : a.start ≡ b.start
  start_same = by (ℕ_discrete a.number 0)
    where
      by : Dec (a.number ≡ 0) → a.start ≡ b.start
      by (yes z) = (One.place_unique (p.placed z) (q.placed (sym number_same ∙ z))).0
      by (no k) = (p.refused k).0 ∙ sym (q.refused (λ z. k (number_same ∙ z))).0

  length_same : a.length ≡ b.length
  length_same =
      sym (as_long text a.start a.length p.inside) ∙ ap length Part-same
      ∙ as_long text b.start b.length q.inside

  pub placed_unique : a ≡ b
  placed_unique = λ k. record { number = number_same k; start = start_same k; length = length_same k }

-- ---- The answer.

module _ (text lengths : List ℕ) (d i : ℕ) where
  numbered_by : {n : ℕ} → name_refusal lengths (length text) d i (parse text) ≡ n → NameNumber text lengths d i n
  numbered_by h = record { asked = answers_by text _ (sym h) }

  part_by_lem : (n : ℕ) → name_refusal lengths (length text) d i (parse text) ≡ n → {l : List ℕ} → l ≡ part_by n d i (parse text)
      → NamePart text lengths d i l
  unfolding name_part
  part_by_lem n h e = record { asked = answers_by text _ (e ∙ ap (λ m. part_by m d i (parse text)) (sym h)) }

  no_part : (n : ℕ) → (n ≡ 0 → ⊥) → [] ≡ part_by n d i (parse text)
  unfolding part_by
  no_part zero k = absurd (k refl)
  no_part (suc n) k = refl

  refused_so : (n : ℕ) → (n ≡ 0 → ⊥) → name_refusal lengths (length text) d i (parse text) ≡ n → {r : NamePlace} → Is r n 0 0
      → NamePlaced text lengths d i r
  refused_so n k h = refused_by_lem k (numbered_by h) (part_by_lem n h (no_part n k))

  part_zero : {e : Element} → parse text ≡ Some e → get_or (names_on d e) i [] ≡ part_by 0 d i (parse text)
  unfolding part_by
  part_zero p = rw p

  placed_so : {e : Element} {k : ℕ} → parse text ≡ Some e → name_refusal lengths (length text) d i (parse text) ≡ 0
      → way_at (name_way d i) text ≡ Some k → get_or (names_on d e) i [] ≡ between_tags text k
      → {r : NamePlace} → Is r 0 (tag_end text k) (length (between_tags text k)) → NamePlaced text lengths d i r
  placed_so p h f q = placed_by p f (numbered_by h) (part_by_lem 0 h (sym q ∙ part_zero p))

  -- 18, behind the conditions before it
  eighteen : {e : Element} {b : Bool} → NoneApplies (conditions_of_header lengths (length text) (parse text)) → parse text ≡ Some e
      → no_name d i (maps_of e) ≡ b
      → name_refusal lengths (length text) d i (parse text) ≡ first (18 when b ∷ [])
  unfolding name_refusal of_maps there
  eighteen h p q = first_none h (18 when of_maps (no_name d i) (parse text) ∷ []) ∙ rw (p, q)

  by_way : {e : Element} {r : NamePlace} → NoneApplies (conditions_of_header lengths (length text) (parse text)) → parse text ≡ Some e
      → Answered text 0 d i r
      → {f : Option ℕ} {o : Option Element} → way_at (name_way d i) text ≡ f → Agrees text f o → NameOf d i e o → NamePlaced text lengths d i r
  unfolding first
  by_way h p a w not_there (no_name_lem q) =
      refused_so 18 (λ z. omega arith) (eighteen h p q) (a.missing refl (name_way_lem text d i p ∙ w))
  by_way h p a w (stands_there {k} st) (a_name q x) =
      placed_so p (eighteen h p q) w (x ∙ sym (within_law st)) (a.found refl k (name_way_lem text d i p ∙ w))

  accepted_so : {r : NamePlace} → NoneApplies (conditions_of_header lengths (length text) (parse text)) → Answered text 0 d i r
      → NamePlaced text lengths d i r
  accepted_so h a =
      let f = fine lengths (length text) (parse text) h in
      by_way h f.is a refl (way_agrees (name_way d i) text f.is)
      (name_of_lem d i f.good (listed_once lengths (maps_of f.document) f.once d))

  -- THE LAW: where the number is that of the conditions before 18, what `place_of` answers is promised
  pub placed_name : {n : ℕ} {r : NamePlace} → n ≡ first (conditions_of_header lengths (length text) (parse text)) → Answered text n d i r
      → NamePlaced text lengths d i r
  unfolding conditions_of_header positive name_refusal
  placed_name {n} {r} h a = by (ℕ_discrete n 0)
    where
      by : Dec (n ≡ 0) → NamePlaced text lengths d i r
      by (yes z) =
          accepted_so (given_none (conditions_of_header lengths (length text) (parse text)) refl (sym h ∙ z))
          (subst (λ (m : ℕ). Answered text m d i r) z a)
      by (no k) = refused_so n k (first_kept (conditions_of_header lengths (length text) (parse text)) _ n k (sym h)) (a.refused k)

-- ---- ONE PLACE for every input.

module _ {text lengths : List ℕ} {d i : ℕ} {a b : NamePlace} (p : NamePlaced text lengths d i a) (q : NamePlaced text lengths d i b) where
  pub place_unique : a ≡ b
  place_unique = placed_unique p q (number_unique p.numbered q.numbered) (part_unique p.named q.named)
