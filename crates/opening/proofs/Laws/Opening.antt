-- What is proved of Opening.
use Rattle.std.specs.Prelude.{◌≡◌, Bool, not, ◌||◌, ◌&&◌, ℕ, ◌+◌, ◌≤◌, ◌<◌, leb, length, Option, Some, None}
use Rattle.std.proofs.Math.Path.{refl, sym, ap}
use Rattle.std.proofs.Common.{◌∙◌, true≢false, add-one, drop_of_length-le, drop-cons, rules, lt-ltb, le-ltb, le-leb, eq-eqb, ne_eqb, leb-true}
use mathlib.Core.List.{List, [], ◌∷◌, append-nil}
use Rattle.std.proofs.Math.Bool.{true, false, cond}
use native.Mathlib.Omega.{arith}
use Rattle.std.proofs.Math.Dec.{eqb, ltb}
use Rattle.std.proofs.Math.ListN.{get_or, drop}
use Rattle.std.proofs.lemmas.Bool.{lt-leb, not-false}
use Rattle.lists.specs.Lists.{any, each_in, those, there, is_some}
use Rattle.lists.proofs.Laws.Refusals.{first_row}
use Rattle.grammar.specs.Document.{Element}
use Rattle.grammar.specs.Look.{is, name_of, contents_of, elements, children}
use Rattle.grammar.specs.Parser.{parse}
use Rattle.nodes.specs.Places.{Stands, the}
use Rattle.nodes.specs.Children.{first_child, next}
use Rattle.nodes.proofs.Laws.Walk.{kids, Walk, walk_children, kids_children, walk_none, turn_at, turn_splits}
use Rattle.cifti.specs.Rows.{cifti}
use Rattle.cifti.specs.Maps.{map_elements, maps_of}
use Rattle.cifti.specs.Conditions as C
use Rattle.cifti.specs.Conditions.{◌when◌, lengths_wrong, text_too_long, no_document, root_wrong, kind_not_read, shape_wrong, number_wrong}
use Rattle.cifti.specs.Conditions.{conditions_of_header}
use Rattle.numbered_rows.specs.Checks.{root_fault, JudgedCifti, ChecksCifti}
use Rattle.numbered_rows.proofs.Laws.Checks.{not_three, shaped_by, numbers_by_lem, not_written, open_judged}
use Rattle.schema.specs.declared.Checked.{Checked}
use Rattle.maps.specs.Good.{Good}
use Rattle.maps.proofs.Laws.Kinds.{root_child}
use Rattle.maps.specs.Ready.{matrix_maps}
use Rattle.maps.proofs.Laws.Unread.{all_read}
use Rattle.opening.specs.declared.header.Opening.{Opening}
use Rattle.opening.specs.Opening.{header_number, kid_place, matrix_place, Opens, root_number, RootFound}

-- ---- Condition 1.

wrong_length : ℕ → Bool
wrong_length n = eqb n 0 || ltb 1048576 n

pub record Measuring (l : List ℕ) (i : ℕ) : Type 0 where
  pub two : 2 ≤ length l
  pub three : length l ≤ 3
  pub so_far : lengths_wrong l ≡ any (λ n. eqb n 0 || ltb 1048576 n) (drop i l)

pub few_lengths : (l : List ℕ) → length l < 2 → true ≡ lengths_wrong l
unfolding lengths_wrong
few_lengths l h = rw (lt-leb 2 (length l) h)

pub many_lengths : (l : List ℕ) → 3 < length l → true ≡ lengths_wrong l
unfolding lengths_wrong
many_lengths l h = let a : leb 2 (length l) ≡ true = le-leb 2 (length l) (omega arith) in rw (a, lt-leb (length l) 3 h)

pub lengths_start : (l : List ℕ) → 2 ≤ length l → length l ≤ 3 → Measuring l 0
unfolding lengths_wrong
lengths_start l h k = record { two = h; three = k; so_far = rw (le-leb 2 (length l) h, le-leb (length l) 3 k) }

module _ {l : List ℕ} {i : ℕ} (go : Measuring l i) where
  pub lengths_done : length l ≤ i → false ≡ lengths_wrong l
  unfolding any
  lengths_done h = sym (go.so_far ∙ ap (any (λ n. eqb n 0 || ltb 1048576 n)) (drop_of_length-le l h))

  module _ (u : i < length l) where
    split : lengths_wrong l ≡ ((eqb (get_or l i 0) 0 || ltb 1048576 (get_or l i 0)) || any (λ n. eqb n 0 || ltb 1048576 n) (drop (i + 1) l))
    unfolding any
    split = go.so_far ∙ ap (any (λ n. eqb n 0 || ltb 1048576 n)) (drop-cons l i 0 u ∙ ap (λ n. get_or l i 0 ∷ drop n l) (sym (add-one i)))

    pub length_zero : get_or l i 0 ≡ 0 → true ≡ lengths_wrong l
    length_zero e = sym (rw (eq-eqb (get_or l i 0) 0 e) at split)

    pub length_large : (get_or l i 0 ≡ 0 → ⊥) → 1048576 < get_or l i 0 → true ≡ lengths_wrong l
    length_large n h = sym (rw (ne_eqb (get_or l i 0) 0 n, lt-ltb 1048576 (get_or l i 0) h) at split)

    pub length_fine : (get_or l i 0 ≡ 0 → ⊥) → get_or l i 0 ≤ 1048576 → Measuring l (i + 1)
    length_fine n h =
        record { two = go.two; three = go.three; so_far = rw (ne_eqb (get_or l i 0) 0 n, le-ltb 1048576 (get_or l i 0) h) at split }

pub ruleset measuring = (few_lengths, many_lengths, lengths_start, lengths_done, length_zero, length_large, length_fine, rules)

pub lengths_three : (l : List ℕ) → lengths_wrong l ≡ false → length l ≤ 3
unfolding lengths_wrong
lengths_three l h = go (leb (length l) 3) refl (leb 2 (length l)) h
  where
    go : (b : Bool) → leb (length l) 3 ≡ b → (a : Bool) → (not (a && b) || any (λ n. eqb n 0 || ltb 1048576 n) l) ≡ false → length l ≤ 3
    go true e a k = leb-true (length l) 3 e
    go false e true k = absurd (true≢false k)
    go false e false k = absurd (true≢false k)

-- ---- What the root of a document that passes 4 to 7 gives: a good matrix, its only child.

good_root : (e : Element) → shape_wrong e ≡ false → number_wrong e ≡ false → Good cifti e
unfolding shape_wrong number_wrong
good_root e h k = record { shape = not-false _ h; number = not-false _ k }

maps_one : (e m : Element) → elements (contents_of e) ≡ m ∷ [] → is "Matrix" (name_of m) ≡ true → maps_of e ≡ matrix_maps m
unfolding maps_of map_elements matrix_maps children those each_in
maps_one e m h n = rw (h, n, append-nil (children "MatrixIndicesMap" m))

matrix_one : (e m : Element) → elements (contents_of e) ≡ m ∷ [] → is "Matrix" (name_of m) ≡ true → children "Matrix" e ≡ m ∷ []
unfolding children those
matrix_one e m h n = rw (h, n)

-- ---- The header's conditions, row by row.

root_rows_lem : (a b c d f g h : Bool) (l : List C.Refusal)
    → C.first (1 when a ∷ 2 when b ∷ 3 when c ∷ 4 when d ∷ 5 when f ∷ 6 when g ∷ 7 when h ∷ l)
    ≡ cond a 1 (cond b 2 (cond c 3 (cond d 4 (cond f 5 (cond g 6 (cond h 7 (C.first l)))))))
root_rows_lem a b c d f g h l =
    first_row 1 a _ ∙ ap (cond a 1) (first_row 2 b _ ∙ ap (cond b 2) (first_row 3 c _ ∙ ap (cond c 3) (first_row 4 d _ ∙ ap (cond d 4)
    (first_row 5 f _ ∙ ap (cond f 5) (first_row 6 g _ ∙ ap (cond g 6) (first_row 7 h l))))))

module _ (text lengths : List ℕ) where
  pub header_lengths : lengths_wrong lengths ≡ true → header_number text lengths ≡ 1
  unfolding conditions_of_header C.first
  header_lengths h = rw h

  module _ (fine : lengths_wrong lengths ≡ false) where
    pub header_long : text_too_long (length text) ≡ true → header_number text lengths ≡ 2
    unfolding conditions_of_header C.first
    header_long h = rw (fine, h)

    module _ (short : text_too_long (length text) ≡ false) where
      pub header_unwritten : parse text ≡ None → header_number text lengths ≡ 3
      unfolding conditions_of_header C.first no_document is_some
      header_unwritten h = rw (fine, short, h)

      module _ (e : Element) (p : parse text ≡ Some e) where
        pub header_document : header_number text lengths
            ≡ root_number e (C.first (8 when C.of_maps (C.dimensions_wrong lengths) (Some e)
            ∷ 9 when C.of_maps (C.length_wrong lengths) (Some e) ∷ []))
        unfolding conditions_of_header no_document is_some there
        header_document =
            ap (λ d. C.first (conditions_of_header lengths (length text) d)) p
            ∙ root_rows_lem (lengths_wrong lengths) (text_too_long (length text)) false (root_wrong e) (kind_not_read e) (shape_wrong e)
            (number_wrong e) _
            ∙ rw (fine, short)

refuses : {text : List ℕ} {r : ℕ} (o : Opening) → (o.number ≡ 0 → ⊥) → o.number ≤ 7 → o.matrix ≡ 0
    → ((n : ℕ) → root_number (the text r) n ≡ o.number) → RootFound text r o
refuses o k a m h = record {
  among = a;
  nowhere = λ _. m;
  there_it_is = λ z. absurd (k z);
  refused = λ _. h;
  right_root = λ z. absurd (k z);
  read_kinds = λ z. absurd (k z);
  shape = λ z. absurd (k z);
  numbers = λ z. absurd (k z);
  stands = λ z. absurd (k z);
  good = λ z. absurd (k z);
  maps = λ z. absurd (k z);
  only = λ z. absurd (k z);
}

module _ {text : List ℕ} {r n : ℕ} (j : JudgedCifti text r n) where
  pub root_stands : Stands text r
  root_stands = j.stands

  pub root_wrong_lem : {b : Bool} → b ≡ root_wrong (the text r) → b ≡ true → (o : Opening) → o.number ≡ 4 → o.matrix ≡ 0 → RootFound text r o
  root_wrong_lem p t o q m = refuses o (λ z. omega arith) (omega arith) m (λ n. rw (sym p ∙ t, q))

  module _ {b : Bool} (p : b ≡ root_wrong (the text r)) (f : b ≡ false) where
    pub root_unread : {c : Bool} → c ≡ kind_not_read (the text r) → c ≡ true → (o : Opening) → o.number ≡ 5 → o.matrix ≡ 0
        → RootFound text r o
    root_unread q t o s m = refuses o (λ z. omega arith) (omega arith) m (λ n. rw (sym p ∙ f, sym q ∙ t, s))

    pub root_fault_lem : {c : Bool} → c ≡ kind_not_read (the text r) → c ≡ false → (n ≡ 0 → ⊥) → (o : Opening) → o.number ≡ n → o.matrix ≡ 0
        → RootFound text r o
    unfolding root_fault
    root_fault_lem q g k o t z₀ = refuses o (λ z. k (sym t ∙ z))
        (rw (t ∙ j.fault_is) (few (shape_wrong (the text r)) (number_wrong (the text r)))) z₀
        (λ m. rw (sym p ∙ f, sym q ∙ g) (go m (shape_wrong (the text r)) (number_wrong (the text r)) refl refl))
      where
        few : (x y : Bool) → cond x 6 (cond y 7 0) ≤ 7
        few true y = omega arith
        few false true = omega arith
        few false false = omega arith

        go : (m : ℕ) (x y : Bool) → shape_wrong (the text r) ≡ x → number_wrong (the text r) ≡ y → cond x 6 (cond y 7 m) ≡ o.number
        go m true y a b = sym (t ∙ j.fault_is ∙ rw a)
        go m false true a b = sym (t ∙ j.fault_is ∙ rw (a, b))
        go m false false a b = absurd (k (j.fault_is ∙ rw (a, b)))

    module _ (z : n ≡ 0) where
      shaped : shape_wrong (the text r) ≡ false
      unfolding root_fault
      shaped = shaped_by (shape_wrong (the text r)) (number_wrong (the text r)) j.fault_is (λ k. omega arith)

      numbers_fine : number_wrong (the text r) ≡ false
      unfolding root_fault
      numbers_fine = numbers_by_lem (shape_wrong (the text r)) (number_wrong (the text r)) j.fault_is z

      good_here : Good cifti (the text r)
      good_here = good_root (the text r) shaped numbers_fine

      pub root_passes : {m : ℕ} {kid : Option ℕ} → kid ≡ first_child text r → kid ≡ Some m → (o : Opening) → o.number ≡ 0 → o.matrix ≡ m
          → RootFound text r o
      unfolding kid_place
      root_passes {m} {kid} e h o u v =
          let w : Walk text (first_child text r) = walk_children j.stands in
          let is_child : first_child text r ≡ Some m = sym e ∙ h in
          let t = turn_at w is_child in
          let only = root_child good_here in
          let same : the text m ∷ kids text (next text m) ≡ only.one ∷ [] = sym (turn_splits w is_child) ∙ kids_children j.stands
          ∙ only.alone in
          let here : the text m ≡ only.one = cc in
          let list : elements (contents_of (the text r)) ≡ the text m ∷ [] = only.alone ∙ ap (λ x. x ∷ []) (sym here) in
          record {
            among = omega (arith, u);
            nowhere = λ k. absurd (k u);
            there_it_is = λ _. rw is_child v;
            refused = λ k. absurd (k u);
            right_root = λ _. sym p ∙ f;
            read_kinds = λ _. all_read good_here;
            shape = λ _. shaped;
            numbers = λ _. numbers_fine;
            stands = λ _. rw v t.stands;
            good = λ _. rw (v, here) only.good;
            maps = λ _. rw v (maps_one (the text r) (the text m) list (rw here only.name));
            only = λ _. rw v (matrix_one (the text r) (the text m) list (rw here only.name));
          }

      pub root_bare : {kid : Option ℕ} → kid ≡ first_child text r → kid ≡ None → (o : Opening) → RootFound text r o
      root_bare e h o =
          let w : Walk text (first_child text r) = walk_children j.stands in
          let none : kids text (first_child text r) ≡ [] = walk_none w (sym e ∙ h) in
          let only = root_child good_here in
          let bad : [] ≡ only.one ∷ [] = sym none ∙ kids_children j.stands ∙ only.alone in
          absurd (let y : ◌≡◌ {A = ℕ} 0 1 = cc in omega arith)

pub ruleset rooted = (root_stands, root_wrong_lem, root_unread, root_fault_lem, root_passes, root_bare, rules)

-- ---- The whole.

pub not_long : (text : List ℕ) → length text ≤ 16777216 → text_too_long (length text) ≡ false
unfolding text_too_long
not_long text h = le-ltb 16777216 (length text) h

module _ {text : List ℕ} (lengths : List ℕ) {a : Bool} (p : a ≡ lengths_wrong lengths) where
  refused_as : (n : ℕ) → (n ≡ 0 → ⊥) → n ≤ 7 → header_number text lengths ≡ n → (o : Opening) → o.number ≡ n → o.matrix ≡ 0
      → Opens text lengths o
  refused_as n k u e o q m = record {
    among = rw q u;
    nowhere = λ _. m;
    there_it_is = λ z. absurd (k (sym q ∙ z));
    refused = λ _. q ∙ sym e;
    passed = λ z. absurd (k (sym q ∙ z));
  }

  pub open_lengths : a ≡ true → (o : Opening) → o.number ≡ 1 → o.matrix ≡ 0 → Opens text lengths o
  open_lengths t = refused_as 1 (λ z. omega arith) (omega arith) (header_lengths text lengths (sym p ∙ t))

  module _ (f : a ≡ false) where
    pub open_long : 16777216 < length text → (o : Opening) → o.number ≡ 2 → o.matrix ≡ 0 → Opens text lengths o
    unfolding text_too_long
    open_long h = refused_as 2 (λ z. omega arith) (omega arith) (header_long text lengths (sym p ∙ f) (lt-ltb 16777216 (length text) h))

    module _ (short : length text ≤ 16777216) {c : Checked} (w : ChecksCifti text c) where
      pub open_unwritten : c.number ≡ 3 → (o : Opening) → o.number ≡ 3 → o.matrix ≡ 0 → Opens text lengths o
      unfolding root_fault
      open_unwritten g =
          refused_as 3 (λ z. omega arith) (omega arith) (header_unwritten text lengths (sym p ∙ f) (not_long text short)
          (not_written w (λ e. not_three (shape_wrong e) (number_wrong e)) g))

      pub open_document : (c.number ≡ 3 → ⊥) → {o : Opening} → RootFound text c.root o → Opens text lengths o
      unfolding matrix_place kid_place
      open_document t {o} d =
          let j = open_judged w t in
          record {
            among = d.among;
            nowhere = d.nowhere;
            there_it_is = λ z. d.there_it_is z ∙ sym (ap (λ k. kid_place (first_child text (kid_place k))) j.placed);
            refused =
                λ k. sym (header_document text lengths (sym p ∙ f) (not_long text short) (the text c.root) j.parsed ∙ d.refused k _);
            passed = λ z. record {
              fine = sym p ∙ f;
              short = short;
              document = the text c.root;
              parsed = j.parsed;
              right_root = d.right_root z;
              read_kinds = d.read_kinds z;
              shape = d.shape z;
              numbers = d.numbers z;
              stands = d.stands z;
              good = d.good z;
              maps = d.maps z;
              only = d.only z;
            };
          }

pub ruleset opening = (open_lengths, open_long, open_unwritten, open_judged, open_document, rules)
