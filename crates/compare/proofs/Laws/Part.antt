-- THEOREMS ON THE PART: one answer, its place holds it, and it is those records of the longer sheet, in its width. Assumes nothing.
use Rattle.std.specs.Prelude.{◌≡◌, refl, true, cond, List, [], ◌∷◌, map, ℕ, zero, suc, ◌+◌, ◌-◌, ◌*◌, ◌≤◌, ◌<◌, eqb, length, take, drop}
use Rattle.std.proofs.Common.{sym, ap, ◌∙◌, subst, ⊎_elim, arith, mul-zero, mul-suc, mul-add, length-drop, drop-drop, lt-ltb, le-ltb, eq-eqb, ne_eqb}
use Rattle.lists.proofs.Laws.Numbers.{eq?}
use Rattle.records.specs.Outcome.{unless}
use Rattle.records.specs.Width.{seven}
use Rattle.records.specs.Bytes.{numbers_in}
use Rattle.records.specs.Record.{carried}
use Rattle.records.specs.Sheet.{count_of, words_in, bare, width_of, held_by}
use Rattle.records.proofs.Laws.Sheet.{sheet_good}
use Rattle.comparison.specs.Compare.{records_of, well_formed, compare_refusal, behind_records, tail_of, TailPlaced, Tails}
use Rattle.comparison.specs.declared.TailPlace.{TailPlace}
use Rattle.comparison.proofs.Laws.Accepted.{accepted, fine}
use Rattle.comparison.proofs.Laws.Part.{part_second, part_first}

pub tail_place_unique : (s t before : List ℕ) (a b : TailPlace) (x y : List ℕ) → TailPlaced s t before a x → TailPlaced s t before b y →
    (a ≡ b) × (x ≡ y)
tail_place_unique s t before a b x y p q = (p.answers ∙ sym q.answers, p.zero ∙ sym q.zero)

-- the sheet that a place names
abbrev pub sheet_of : TailPlace → List ℕ → List ℕ → List ℕ
sheet_of a s t = cond (eqb a.sheet 1) t s

-- so many bytes of that sheet from there on are the part
pub place_holds : (s t before : List ℕ) (a : TailPlace) (x part y : List ℕ) → TailPlaced s t before a x → Tails s t before part y
    → take a.length (drop a.start (sheet_of a s t)) ≡ part
place_holds s t before a x part y p q =
    let size : a.start + a.length - a.start ≡ a.length = omega arith in
    let cut : (l : List ℕ) → take a.length (drop a.start l) ≡ take (a.start + a.length - a.start) (drop a.start l) =
    λ l. ap (λ (n : ℕ). take n (drop a.start l)) (sym size) in
    ⊎_elim
    (λ (e : a.sheet ≡ 1). rw (eq-eqb a.sheet 1 e) (cut t ∙ (part_second s t (length before) p.answers e).is ∙ sym q.answers))
    (λ (n : a.sheet ≡ 1 → ⊥). rw (ne_eqb a.sheet 1 n) (cut s ∙ (part_first s t (length before) p.answers n).is ∙ sym q.answers))
    (eq? a.sheet 1)

-- ---- Those records.

numbers_behind : (w n m : ℕ) (l : List ℕ) → n ≤ m → numbers_in w (m - n) (drop (w * n) l) ≡ drop n (numbers_in w m l)
unfolding numbers_in
numbers_behind w zero m l h =
    let e : m - 0 ≡ m = omega arith in
    ap (λ (k : ℕ). numbers_in w k (drop (w * 0) l)) e ∙ ap (λ (k : ℕ). numbers_in w m (drop k l)) (mul-zero w)
numbers_behind w (suc n) zero l h = absurd (omega arith)
numbers_behind w (suc n) (suc m) l h =
    let e : suc m - suc n ≡ m - n = omega arith in
    let f : w * suc n ≡ w + w * n = omega (arith, mul-suc w n) in
    ap (λ (k : ℕ). numbers_in w k (drop (w * suc n) l)) e ∙ ap (λ (k : ℕ). numbers_in w (m - n) (drop k l)) f
    ∙ ap (numbers_in w (m - n)) (sym (drop-drop (w * n) w l)) ∙ numbers_behind w n m (drop w l) (omega arith)

map_behind : (f : ℕ → ℕ) (n : ℕ) (l : List ℕ) → map f (drop n l) ≡ drop n (map f l)
map_behind f zero l = refl
map_behind f (suc n) [] = refl
map_behind f (suc n) (x ∷ l) = map_behind f n l

-- the bytes are the sheet's records from the index n on, in its own width
pub record FromOn (s : List ℕ) (n : ℕ) (part : List ℕ) : Type 0 where
  pub size : length part ≡ (width_of s).bytes * (count_of s - n)
  pub holds : held_by seven (width_of s) (numbers_in (width_of s).bytes (count_of s - n) part) ≡ drop n (records_of s)

behind_holds : (s : List ℕ) (n : ℕ) → well_formed s ≡ true → n ≤ count_of s → FromOn s n (behind_records n s)
unfolding behind_records words_in
behind_holds s n ok h =
    let w : ℕ = (width_of s).bytes in
    let f : ℕ → ℕ = λ (m : ℕ). carried seven (width_of s) (bare (width_of s) m) in
    let whole : length s ≡ 4 + w * count_of s = (sheet_good w s ok).size in
    let parts : w * count_of s ≡ w * n + w * (count_of s - n) = shared w n (count_of s) h in
    record {
      size = length-drop (4 + w * n) s ∙ omega arith;
      holds = ap (λ (l : List ℕ). map f (numbers_in w (count_of s - n) l)) (sym (drop-drop (w * n) 4 s))
          ∙ ap (map f) (numbers_behind w n (count_of s) (drop 4 s) h)
          ∙ map_behind f n (numbers_in w (count_of s) (drop 4 s));
    }
  where
    shared : (w n m : ℕ) → n ≤ m → w * m ≡ w * n + w * (m - n)
    shared w n m h = let e : m ≡ n + (m - n) = omega arith in ap (λ (k : ℕ). w * k) e ∙ mul-add w n (m - n)

-- of two sheets that are not refused, the part is the records of the longer from the other's count on; of equal counts it is none
pub tail_holds : (s t before part after : List ℕ) → Tails s t before part after → compare_refusal s t (length before) ≡ 0
    → (count_of s < count_of t → FromOn t (count_of s) part) × (count_of t ≤ count_of s → FromOn s (count_of t) part)
unfolding tail_of
tail_holds s t before part after p z =
    let ok = accepted s t (length before) refl z in
    let told : part ≡ tail_of s t = p.answers ∙ ap (λ (n : ℕ). unless n (tail_of s t) []) z in (
      λ h. subst (FromOn t (count_of s)) (sym (told ∙ rw (lt-ltb (count_of s) (count_of t) h) refl))
          (behind_holds t (count_of s) (fine t ok.two).0 (omega arith)),
      λ h. subst (FromOn s (count_of t)) (sym (told ∙ rw (le-ltb (count_of s) (count_of t) h) refl))
          (behind_holds s (count_of t) (fine s ok.one).0 h),
    )
