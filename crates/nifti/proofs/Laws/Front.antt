-- THE FRONT AS CODE ANSWERS IT: the body that a walk takes is the first of code 32, and it lies inside the file. Assumes nothing.
use Rattle.std.specs.Prelude.{◌≡◌, List, [], ◌∷◌, ◌++◌, Bool, true, false, ◌&&◌, not, cond, ℕ, zero, suc, ◌+◌, ◌-◌, ◌≤◌, ◌<◌, eqb, leb, ltb, pos, length, get_or, take, drop, Option}
use Rattle.std.proofs.Math.Path.{refl, sym, ap, subst}
use Rattle.std.proofs.Common.{◌∙◌, arith, Fits, length-append, drop-drop, drop_at}
use Rattle.std.specs.Int.{w8}
use Rattle.std.proofs.Math.Seq.{slice, take-append_seam, length-slice}
use borrow.Author.Tests.{leb-true, ltb-true, lt-ltb, le-ltb, le-leb, lt-leb, eq-eqb, ne_eqb, not-false}
use Rattle.lists.specs.Lists.{is_some}
use Rattle.lists.proofs.Laws.Booleans.{and_left, or_right, never_some}
use Rattle.lists.specs.Refusals.{◌when◌, first, positive}
use Rattle.lists.proofs.Laws.Refusals.{given_none, row_fails}
use Rattle.records.specs.Bytes.{Below}
use Rattle.nifti.specs.Fields.{number_at, signed, field_at_least}
use Rattle.nifti.specs.Extensions.{Extension, size_of, written, GoodExtension, ExtensionList, nothing, next, Body, first_text}
use Rattle.nifti.specs.Extensions.{without_zeros}
use Rattle.nifti.specs.File.{order_of, offset, extender, list_start, HasList, empty, listed, ListOf, list, unlisted}
use Rattle.nifti.specs.File.{offset_stands, front_stands, no_front, dims_stand, text_body, conditions_of_front, front_with}
use Rattle.nifti.specs.File.{length_count, length_at, refused_front, accepted_front, front_by, front_to, Fronts, FrontPart, part_of}
use Rattle.nifti.specs.Model.{cut, cut_to, taken_as, taken_or, text_from, text_in, not_listed, taken, taken_by, list_in, front_of}
use Rattle.nifti.proofs.Laws.File.{fronts_by, listing}
use Rattle.nifti.proofs.Laws.Fields.{least_signed, signed_pos}
use Rattle.nifti.proofs.Laws.Header.{count_few}
use Rattle.nifti.proofs.Laws.Reads.{offset_is, offset_there, end_after}
use Rattle.nifti.specs.Header.{OrderKnown, lengths_in, front_accepted}
use Rattle.nifti.proofs.Laws.Lists.{written_size, behind_eight}
use Rattle.nifti.proofs.Laws.Walk.{take_within}
use Rattle.nifti.proofs.Laws.Zeros.{kept_few}
use Rattle.nifti.specs.declared.Order.{Order}
use Rattle.nifti.specs.declared.Taken.{Taken}
use Rattle.nifti.specs.declared.Front.{Front}
use Rattle.nifti.specs.Front.{Standing, Bodied, number_of}
use Rattle.nifti.specs.declared.Refusal.{Refusal}
use Rattle.nifti.specs.declared.Refusal.TheVariants.{NoMatrix, NoList, NoText}
use Rattle.std.specs.Prelude.{Option as Maybe, Some, None, Result, Ok, Err, if◌then◌else◌}

pub told_so : {file : List ℕ} {o : Order} → 544 ≤ length file → o ≡ order_of file → OrderKnown file o
told_so h e = record { long = h; is = e }

pub standing_so : {file : List ℕ} {o : Order} → OrderKnown file o → front_stands file ≡ true → Standing file o
standing_so t h = record { told = t; stands = h }

-- bytes are below 256
pub record Bytes (file : List ℕ) : Type 0 where
  pub known : Below 256 file

pub bytes_known : (file : List ℕ) → ((i : ℕ) → Fits w8 (get_or file i 0)) → Bytes file
bytes_known file h = record { known = λ i. (h i).fits }

-- ---- The list of a file, as the walk is begun.

pub list_empty : (file : List ℕ) → get_or file 540 0 ≡ 0 → Err NoText ≡ text_in file
unfolding text_in list_in extender text_from taken_or taken_as first_text
list_empty file z = sym (rw (eq-eqb (get_or file 540 0) 0 z))

-- the data offset, by the bits of its field
module _ {file : List ℕ} {o : Order} (s : Standing file o) {n : ℕ} (e : n ≡ number_at o 8 168 file) where
  stands_so : (ltb n 9223372036854775808 && leb 544 n) ≡ true
  unfolding offset_stands
  stands_so = sym (least_signed 8 n 544) ∙ ap (field_at_least 544) (offset_is s.told (ap (signed 8) e)) ∙ offset_there file s.stands

  pub offset_pos : offset file ≡ pos n
  offset_pos =
      sym (offset_is s.told (ap (signed 8) e)) ∙ signed_pos 8 n (ltb-true n 9223372036854775808 (and_left _ (leb 544 n) stands_so))

  pub end_low : 544 ≤ n
  end_low = end_after s offset_pos

module _ (file : List ℕ) (x : get_or file 540 0 ≡ 0 → ⊥) {n : ℕ} (e : offset file ≡ pos n) where
  pub list_past : length file < n → Err NoList ≡ text_in file
  unfolding text_in list_in extender cut_to text_from
  list_past h = sym (rw (ne_eqb (get_or file 540 0) 0 x, e, lt-leb n (length file) h))

  pub list_walked : {o : Order} {r : Result Taken Refusal} → Standing file o → n ≤ length file
      → r ≡ text_from None 544 (cut o (slice 544 n file)) → r ≡ text_in file
  unfolding text_in list_in extender cut_to
  list_walked s h q = q ∙ sym (rw (ne_eqb (get_or file 540 0) 0 x, e, le-leb n (length file) h, s.told.is))

pub ruleset beginning = (list_empty, list_past, list_walked, end_low, end_after)

-- ---- What a walk takes is the first of code 32.

taken_kept : (t : Taken) (place : ℕ) (es : List Extension) → taken (Some t) place es ≡ Ok t
unfolding taken
taken_kept t place [] = refl
taken_kept t place (e ∷ es) = taken_kept t (place + size_of e) es

pub taken_first : (place : ℕ) (es : List Extension) → taken None place es ≡ taken_as (first_text place es)
unfolding taken first_text taken_as
taken_first place [] = refl
taken_first place (e ∷ es) = go (eqb e.code 32) (taken_first (place + size_of e) es)
  where
    go : (t : Bool) → taken None (place + size_of e) es ≡ taken_as (first_text (place + size_of e) es)
        → cond t (taken (Some (record { start = place + 8; length = length e.body })) (place + size_of e) es)
        (taken None (place + size_of e) es)
        ≡ taken_as (cond t (Some (record { start = place + 8; bytes = e.body })) (first_text (place + size_of e) es))
    go true ih = taken_kept (record { start = place + 8; length = length e.body }) (place + size_of e) es
    go false ih = ih

-- what a walk answers extension by extension is what code answers
pub taken_from : (found : Maybe Taken) (place : ℕ) (l : Option (List Extension)) → taken_by found place l ≡ text_from found place l
unfolding taken_by text_from taken_or
taken_from found place None = refl
taken_from None place (Some es) = taken_first place es
taken_from (Some t) place (Some es) = taken_kept t place es

-- ---- PART-INSIDE: the body lies inside the bytes that the list is written in.

pub record Inside (file : List ℕ) (end : ℕ) (b : Body) : Type 0 where
  pub behind : 8 ≤ b.start
  pub within : b.start + length b.bytes ≤ end
  pub is : b.bytes ≡ take (length b.bytes) (drop b.start file)

-- the first of a list
module _ (o : Order) (file : List ℕ) (at end : ℕ) (e : Extension) (g : GoodExtension e) (t : List ℕ)
    (h : written o e ++ t ≡ slice at end file)
    (k : at ≤ end) (u : end ≤ length file) where
  spans : at + size_of e ≤ end
  spans =
      let a = length-append (written o e) t in
      let b = written_size o e g t in
      let c = ap length h in
      let d = length-slice at end file u in
      omega arith

  rest : t ≡ slice (at + size_of e) end file
  rest =
      sym (drop_at (written o e) t (size_of e) (written_size o e g t))
      ∙ ap (drop (size_of e)) h ∙ drop-drop (size_of e) at (take end file)

  body_there : Inside file end (record { start = at + 8; bytes = e.body })
  unfolding size_of
  body_there =
      let s = spans in
      record {
        behind = omega arith;
        within = omega arith;
        is = sym (sym (take_within (length e.body) (at + 8) end file (omega arith))
            ∙ ap (take (length e.body)) (sym (drop-drop 8 at (take end file)) ∙ ap (drop 8) (sym h) ∙ behind_eight o e g t)
            ∙ take-append_seam e.body t);
      }

pub first_inside : {o : Order} {es : List Extension} {s : List ℕ} (file : List ℕ) (at end : ℕ) (b : Body) → ExtensionList o es s
    → s ≡ slice at end file → at ≤ end → end ≤ length file → first_text at es ≡ Some b → Inside file end b
unfolding first_text
first_inside file at end b nothing h k u f = never_some f
first_inside {o} file at end b (next {e} {es} {s} g l) h k u f =
    go (eqb e.code 32) f
    (λ q. first_inside file (at + size_of e) end b l (rest o file at end e g s h k u) (spans o file at end e g s h k u) u q)
  where
    go : (t : Bool) → cond t (Some (record { start = at + 8; bytes = e.body })) (first_text (at + size_of e) es) ≡ Some b
        → (first_text (at + size_of e) es ≡ Some b → Inside file end b) → Inside file end b
    go true q ih =
        let z : record { start = at + 8; bytes = e.body } ≡ b = cc in
        subst (Inside file end) z (body_there o file at end e g s h k u)
    go false q ih = ih q

-- of a file
has_inside : {file : List ℕ} {es : List Extension} {b : Body} → HasList file es → offset_stands file ≡ true → first_text list_start es ≡ Some b
    → Inside file (length file) b
unfolding first_text offset_stands field_at_least
has_inside (empty z) p f = never_some f
has_inside {file} {b = b} (listed {end} z e i l) p f =
    let low : 544 ≤ end = leb-true 544 end (ap (field_at_least 544) (sym e) ∙ p) in
    let r = first_inside file 544 end b l refl low i f in
    let w = r.within in
    record { behind = r.behind; within = omega arith; is = r.is }

list_inside : {file : List ℕ} {l : Option (List Extension)} {b : Body} → ListOf file l → offset_stands file ≡ true → text_body l ≡ Some b
    → Inside file (length file) b
unfolding text_body
list_inside (list h) p f = has_inside h p f
list_inside (unlisted h) p f = never_some f

-- ---- The part of a front, refused or not, lies inside the file.

stands_first : (file : List ℕ) (l : Option (List Extension)) → first (conditions_of_front file l) ≡ 0 → offset_stands file ≡ true
unfolding conditions_of_front no_front positive
stands_first file l h =
    offset_there file
    (not-false (front_stands file)
    (or_right (ltb (length file) 544) (not (front_stands file)) (row_fails (given_none (conditions_of_front file l) refl h))))

accepted_inside : (file : List ℕ) (o : Option Body) → ((b : Body) → o ≡ Some b → Inside file (length file) b)
    → (accepted_front file o).start + (accepted_front file o).length ≤ length file
unfolding accepted_front
accepted_inside file None h = omega arith
accepted_inside file (Some b) h =
    let i = h b refl in
    let w = i.within in
    let k = kept_few b.bytes in
    omega arith

to_inside : (file : List ℕ) (l : Option (List Extension)) → ListOf file l → (front_to file l).start + (front_to file l).length ≤ length file
unfolding front_to front_by
to_inside file l w = go (first (conditions_of_front file l)) refl
  where
    go : (n : ℕ) → first (conditions_of_front file l) ≡ n
        → (front_by n file (text_body l)).start + (front_by n file (text_body l)).length ≤ length file
    go zero e = accepted_inside file (text_body l) (λ b q. list_inside w (stands_first file l e) q)
    go (suc n) e = omega arith

-- three lengths, and not more of them told
pub record Shaped (f : Front) : Type 0 where
  pub few : f.count ≤ 3
  pub three : length f.lengths ≡ 3

shaped_by : (n : ℕ) (file : List ℕ) (o : Option Body) → Shaped (front_by n file o)
unfolding front_by accepted_front
shaped_by zero file None = record { few = omega arith; three = refl }
shaped_by zero file (Some b) = record { few = count_few file; three = refl }
shaped_by (suc n) file o = record { few = omega arith; three = refl }

pub front_shaped : {file : List ℕ} {f : Front} → Fronts file f → Shaped f
unfolding front_to
front_shaped {file} r = rw r.answered (shaped_by (first (conditions_of_front file r.extensions)) file (text_body r.extensions))

pub part_inside : {file : List ℕ} {f : Front} → Fronts file f → f.start + f.length ≤ length file
part_inside {file} r = rw r.answered (to_inside file r.extensions r.of)

pub part_cut : {file : List ℕ} {f : Front} → Fronts file f
    → FrontPart file (take ((f.start + f.length) - f.start) (drop f.start file))
unfolding part_of
part_cut {file} {f} r =
    let n : (f.start + f.length) - f.start ≡ f.length = omega arith in
    record { front = f; fronts = r; cut = ap (λ m. take m (drop f.start file)) n }

pub accepted_so : (file : List ℕ) (start size : ℕ) {count a b c m : ℕ} → count ≡ length_count file → a ≡ length_at file 0
    → b ≡ length_at file 1 → c ≡ length_at file 2 → m ≡ length (without_zeros (take size (drop start file)))
    → front_with 0 count a b c start m ≡ front_accepted file start size
unfolding front_accepted
accepted_so file start size e p q r h = rw (e, p, q, r, h)

-- ---- The front, by what the code finds.

three : List ℕ → List ℕ
three file = length_at file 0 ∷ length_at file 1 ∷ length_at file 2 ∷ []

lengths_told : (file : List ℕ) {ls : List ℕ} → lengths_in file ≡ Ok ls → (dims_stand file ≡ true) × (ls ≡ three file)
unfolding lengths_in three
lengths_told file {ls} h = go (dims_stand file) refl h
  where
    go : (t : Bool) → dims_stand file ≡ t → (if t then Ok (three file) else Err NoMatrix) ≡ Ok ls → (dims_stand file ≡ true) × (ls ≡ three file)
    go true e q = (e, cc)
    go false e q = absurd cc

module _ (file : List ℕ) (k : Bytes file) where
  pub front_refused : no_front file ≡ true → Fronts file (refused_front 20)
  unfolding front_of front_to conditions_of_front first front_by
  front_refused h = fronts_by file k.known (sym (rw h))

  module _ {o : Order} (s : Standing file o) where
    passed : no_front file ≡ false
    unfolding no_front
    passed = rw (le-ltb (length file) 544 s.told.long, s.stands)

    pub lengths_refused : {e : Refusal} → lengths_in file ≡ Err e → Fronts file (refused_front (number_of e))
    unfolding lengths_in three front_of front_to conditions_of_front first front_by
    lengths_refused {e} h = go (dims_stand file) refl h
      where
        go : (t : Bool) → dims_stand file ≡ t → (if t then Ok (three file) else Err NoMatrix) ≡ Err e
            → Fronts file (refused_front (number_of e))
        go true p q = absurd cc
        go false p q = let z : e ≡ NoMatrix = cc in rw z (fronts_by file k.known (sym (rw (passed, p))))

    module _ {t : Taken} (h : text_in file ≡ Ok t) where
      record Found (l : Option (List Extension)) : Type 0 where
        body : Body
        is : text_body l ≡ Some body
        start : t.start ≡ body.start
        size : t.length ≡ length body.bytes

      found_by : (l : Option (List Extension)) → text_from None 544 l ≡ Ok t → Found l
      unfolding text_from taken_or taken_as text_body
      found_by None q = absurd cc
      found_by (Some es) q = go (first_text 544 es) refl q
        where
          go : (o : Option Body) → first_text 544 es ≡ o → taken_as o ≡ Ok t → Found (Some es)
          go None p q = absurd cc
          go (Some b) p q =
              let z : t ≡ record { start = b.start; length = length b.bytes } = cc in
              record { body = b; is = p; start = ap (λ (y : Taken). y.start) z; size = ap (λ (y : Taken). y.length) z }

      found : Found (list_in file)
      unfolding text_in
      found = found_by (list_in file) h

      inside : Inside file (length file) found.body
      inside = list_inside (listing file k.known) (offset_there file s.stands) found.is

      pub body_inside : t.start + t.length ≤ length file
      body_inside = let i = inside.within in let a = found.start in let b = found.size in omega arith

    module _ {ls : List ℕ} (d : lengths_in file ≡ Ok ls) where
      later : (l : Option (List Extension)) → front_to file l
          ≡ front_by (first (22 when not (is_some l) ∷ 23 when not (is_some (text_body l)) ∷ [])) file (text_body l)
      unfolding front_to conditions_of_front first
      later l = let dims = (lengths_told file d).0 in rw (passed, dims)

      pub text_refused : {e : Refusal} → text_in file ≡ Err e → Fronts file (refused_front (number_of e))
      unfolding text_in text_from taken_or taken_as front_of is_some text_body first front_by
      text_refused {e} h = fronts_by file k.known (sym (go (list_in file) h))
        where
          none : (o : Option Body) (es : List Extension) → first_text 544 es ≡ o → taken_as o ≡ Err e
              → front_to file (Some es) ≡ refused_front (number_of e)
          none None es p q = let z : e ≡ NoText = cc in rw z (later (Some es) ∙ rw p)
          none (Some b) es p q = absurd cc

          go : (l : Option (List Extension)) → text_from None 544 l ≡ Err e → front_to file l ≡ refused_front (number_of e)
          go None q = let z : e ≡ NoList = cc in rw z (later None)
          go (Some es) q = none (first_text 544 es) es refl q

      module _ {t : Taken} (h : text_in file ≡ Ok t) where
        answered : {m : ℕ} → m ≡ length (without_zeros (take t.length (drop t.start file))) → (l : Option (List Extension)) (f : Found h l)
            → Inside file (length file) f.body
            → record { number = 0; count = length_count file; lengths = ls; start = t.start; length = m } ≡ front_to file l
        unfolding is_some text_body first front_by accepted_front three
        answered e None f i = let p = f.is in absurd cc
        answered {m} e (Some es) f i =
            let b = f.body in
            let r : take t.length (drop t.start file) ≡ b.bytes = rw (f.start, f.size) (sym i.is) in
            let q : m ≡ length (without_zeros b.bytes) = e ∙ ap (λ p. length (without_zeros p)) r in
            sym (later (Some es) ∙ rw f.is (sym (rw (f.start, q, (lengths_told file d).1) refl)))

        pub accepted : {m : ℕ} → m ≡ length (without_zeros (take t.length (drop t.start file)))
            → Fronts file (record { number = 0; count = length_count file; lengths = ls; start = t.start; length = m })
        unfolding front_of
        accepted e = fronts_by file k.known (answered e (list_in file) (found h) (inside h))

-- ---- The same, refusal by refusal.

module _ (file : List ℕ) (k : Bytes file) where
  pub front_short : {f : Front} → length file < 544 → f ≡ refused_front 20 → Fronts file f
  unfolding no_front
  front_short h e = rw e (front_refused file k (rw (lt-ltb (length file) 544 h)))

  module _ (long : 544 ≤ length file) where
    pub no_front_lem : {f : Front} → front_stands file ≡ false → f ≡ refused_front 20 → Fronts file f
    unfolding no_front
    no_front_lem h e = rw e (front_refused file k (rw (le-ltb (length file) 544 long, h)))

    module _ (stands : front_stands file ≡ true) where
      header : Standing file (order_of file)
      header = standing_so (told_so long refl) stands

      pub no_dims : {f : Front} → dims_stand file ≡ false → f ≡ refused_front 21 → Fronts file f
      unfolding lengths_in
      no_dims h e =
          let n : lengths_in file ≡ Err NoMatrix = rw h refl in
          rw e (lengths_refused file k header n)

      module _ (dims : dims_stand file ≡ true) where
        lengths : lengths_in file ≡ Ok (three file)
        unfolding lengths_in three
        lengths = rw dims refl

        module _ {r : Result Taken Refusal} (taken_is : r ≡ taken_by None 544 (list_in file)) where
          told_in : text_in file ≡ r
          unfolding text_in
          told_in = sym (taken_is ∙ taken_from None 544 (list_in file))

          pub no_list : {f : Front} → r ≡ not_listed → f ≡ refused_front 22 → Fronts file f
          no_list h e = rw e (text_refused file k header lengths (told_in ∙ h))

          pub no_text : {f : Front} → r ≡ Err NoText → f ≡ refused_front 23 → Fronts file f
          no_text h e = rw e (text_refused file k header lengths (told_in ∙ h))

          pub text_inside : {o : Order} {t : Taken} → OrderKnown file o → r ≡ Ok t → Bodied file o t.start t.length
          text_inside t h = record { told = t; inside = body_inside file k header (told_in ∙ h) }

          pub a_text : {f : Front} {t : Taken} → r ≡ Ok t → f ≡ front_accepted file t.start t.length → Fronts file f
          unfolding front_accepted three
          a_text h e = rw e (accepted file k header lengths (told_in ∙ h) refl)

pub ruleset fronting = (front_short, no_front_lem, no_dims, no_list, no_text, text_inside, a_text, told_so, standing_so, bytes_known)
