-- WHAT CODE IS PROVED BY: the part and the lengths of a front lie where they are cut, and a name lies inside the file. Assumes nothing.
use Rattle.std.specs.Prelude.{◌≡◌, refl, List, [], cond, ℕ, ◌+◌, ◌-◌, ◌^◌, ◌≤◌, ◌<◌, eqb, length, take, drop, replicate}
use Rattle.std.proofs.Common.{sym, ap, ◌∙◌, arith, length-drop, length-take-le, rules, eq-eqb, ne_eqb}
use Rattle.std.proofs.Math.Path.{subst}
use Rattle.std.proofs.Math.Decide.{ℕ_discrete}
use Rattle.nifti.specs.File.{Fronts, part_of}
use Rattle.nifti.proofs.Laws.Front.{part_inside, front_shaped}
use Rattle.nifti.specs.declared.Front.{Front}
use Rattle.cifti.specs.Answer.{Reads, refused_with}
use Rattle.cifti.specs.declared.answer.Answer.{Answer}
use Rattle.map_names.specs.Placed.{NamePlaced}
use Rattle.map_names.specs.declared.NamePlace.{NamePlace}
use Rattle.file_reader.specs.Whole.{handed_on, given_lengths, ReadsFile, front_refused, front_read, moved_by, FilePlaced, name_refused}
use Rattle.file_reader.specs.Whole.{name_placed, FileNumber, FileName}

-- the part, as code cuts it
pub part_as : (file : List ℕ) (f : Front) → take ((f.start + f.length) - f.start) (drop f.start file) ≡ part_of file f
unfolding part_of
part_as file f = let n : (f.start + f.length) - f.start ≡ f.length = omega arith in ap (λ m. take m (drop f.start file)) n

part_long : {file : List ℕ} {f : Front} → Fronts file f → length (part_of file f) ≡ f.length
unfolding part_of
part_long {file} {f} p =
    let i = part_inside p in
    let d = length-drop f.start file in
    length-take-le f.length (drop f.start file) (omega arith)

module _ {file : List ℕ} {f : Front} (p : Fronts file f) where
  pub handed_long : {l : List ℕ} → l ≡ handed_on f → f.count ≤ length l
  unfolding handed_on
  handed_long e = let s = front_shaped p in let c = s.few in let t = s.three in rw e (omega arith)

  pub file_refused : {records work v : List ℕ} {a : Answer} {n : ℕ} → n ≡ f.number → (n ≡ 0 → ⊥) → a ≡ refused_with n
      → v ≡ replicate (length work) 0 → ReadsFile file records work a records v
  file_refused e z q c = front_refused p (λ y. z (e ∙ y)) (q ∙ ap refused_with e) refl c

  pub file_read : {records work s v l : List ℕ} {a : Answer} → f.number ≡ 0 → l ≡ handed_on f
      → Reads (take ((f.start + f.length) - f.start) (drop f.start file)) (take f.count l) records work a s v
      → ReadsFile file records work a s v
  unfolding given_lengths
  file_read {records} {work} {s} {v} {l} {a} z e r =
      front_read p z (subst (λ t. Reads t (take f.count (handed_on f)) records work a s v) (part_as file f)
      (subst (λ k. Reads (take ((f.start + f.length) - f.start) (drop f.start file)) (take f.count k) records work a s v) e r))

  module _ {d i : ℕ} where
    pub place_refused : {r : NamePlace} → (f.number ≡ 0 → ⊥) → r ≡ record { number = f.number; start = 0; length = 0 }
        → FilePlaced file d i r
    place_refused z e = name_refused p z e

    cut_placed : {l : List ℕ} {x : NamePlace} → l ≡ handed_on f
        → NamePlaced (take ((f.start + f.length) - f.start) (drop f.start file)) (take f.count l) d i x
        → NamePlaced (part_of file f) (given_lengths f) d i x
    unfolding given_lengths
    cut_placed {x = x} e r = subst (λ t. NamePlaced t (take f.count (handed_on f)) d i x) (part_as file f)
        (subst (λ k. NamePlaced (take ((f.start + f.length) - f.start) (drop f.start file)) (take f.count k) d i x) e r)

    pub place_named : {l : List ℕ} {x r : NamePlace} → f.number ≡ 0 → l ≡ handed_on f
        → NamePlaced (take ((f.start + f.length) - f.start) (drop f.start file)) (take f.count l) d i x
        → r ≡ moved_by f.start x → FilePlaced file d i r
    place_named z e r q = name_placed p z (cut_placed e r) q

    pub name_within : {l : List ℕ} {x : NamePlace} → length file < 2 ^ 64
        → NamePlaced (take ((f.start + f.length) - f.start) (drop f.start file)) l d i x → f.start + x.start < 2 ^ 64
    name_within {l} {x} big r =
        let u = r.inside in
        let v = ap length (part_as file f) in
        let w = part_long p in
        let i = part_inside p in
        omega arith

-- the first so many of a slice
pub cut_count : (n : ℕ) (l : List ℕ) → n ≤ length l → n ≡ length (take n l)
cut_count n l h = sym (length-take-le n l h)

-- ---- A name by its place in the file.

pub moved_number : (from : ℕ) {p : NamePlace} → (p.number ≡ 0 → ⊥) → p ≡ moved_by from p
unfolding moved_by
moved_number from {p} h = sym (rw (ne_eqb p.number 0 h))

pub moved_on : (from : ℕ) (p : NamePlace) → p.number ≡ 0
    → record { number = 0; start = from + p.start; length = p.length } ≡ moved_by from p
unfolding moved_by
moved_on from p h = sym (rw (eq-eqb p.number 0 h, h))

placed_inside : {file : List ℕ} {d i : ℕ} {r : NamePlace} → FilePlaced file d i r → r.start + r.length ≤ length file
unfolding moved_by
placed_inside (name_refused p h e) = rw e (omega arith)
placed_inside {file} (name_placed {f} {p = x} p h q e) = rw e (go (ℕ_discrete x.number 0))
  where
    go : Dec (x.number ≡ 0) → cond (eqb x.number 0) (f.start + x.start) x.start + x.length ≤ length file
    go (yes z) =
        let u = q.inside in
        let w = part_long p in
        let i = part_inside p in
        rw (eq-eqb x.number 0 z) (omega arith)
    go (no k) =
        let (a, b) = q.refused k in
        rw (ne_eqb x.number 0 k) (omega arith)

pub name_inside : {file : List ℕ} {d i : ℕ} {r : NamePlace} → FilePlaced file d i r → r.start + r.length ≤ length file
name_inside p = placed_inside p

pub name_number : {file : List ℕ} {d i : ℕ} {r : NamePlace} → FilePlaced file d i r → FileNumber file d i r.number
name_number {r = r} p = record { place = r; placed = p; is = refl }

pub name_cut : {file : List ℕ} {d i : ℕ} {r : NamePlace} → FilePlaced file d i r
    → FileName file d i (take ((r.start + r.length) - r.start) (drop r.start file))
name_cut {file} {r = r} p =
    let n : (r.start + r.length) - r.start ≡ r.length = omega arith in
    record { place = r; placed = p; is = ap (λ m. take m (drop r.start file)) n }

pub ruleset reading_file = (handed_long, file_refused, file_read, part_inside, rules)

pub ruleset naming_file = (
  handed_long,
  place_refused,
  place_named,
  name_within,
  moved_number,
  moved_on,
  name_inside,
  name_number,
  name_cut,
  part_inside,
  rules,
)
