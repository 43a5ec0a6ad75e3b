-- Each public function's promise leaves one answer, and one content of each slice lent. Assumes nothing.
use Rattle.std.specs.Prelude.{◌≡◌, Bool, List, map, ℕ, ◌≤◌, ◌<◌, length, take, replicate}
use Rattle.std.proofs.Common.{sym, ap, ◌∙◌, ⊎_elim, arith}
use Rattle.records.specs.Width.{Width, five}
use Rattle.records.specs.Record.{on_surface, in_volume, record_of, wrapped, is_voxel, structure_of, payload_of, i_of, j_of, k_of, key_of}
use Rattle.records.specs.Record.{legal_record, legal_in, widened}
use Rattle.lists.proofs.Laws.Numbers.{eq?, lt?}
use Rattle.records.specs.Sheet.{PacksIn, UnpacksIn, packed_into, unpacked_into}
use Rattle.records.specs.Find.{FirstPlace, Finds}
use Rattle.records.specs.Repeat.{ChecksRepeats}
use Rattle.records.specs.declared.counters.Vertex.{Vertex}
use Rattle.records.specs.declared.search.RecordFound.{RecordFound}
use Rattle.records.specs.declared.outcome.Outcome.{Outcome}

pub surface_record_unique : (s v a b : ℕ) → a ≡ record_of (wrapped (on_surface s v)) → b ≡ record_of (wrapped (on_surface s v)) → a ≡ b
surface_record_unique s v a b p q = p ∙ sym q

pub voxel_record_unique : (s i j k a b : ℕ) → a ≡ record_of (wrapped (in_volume s i j k)) → b ≡ record_of (wrapped (in_volume s i j k)) → a ≡ b
voxel_record_unique s i j k a b p q = p ∙ sym q

pub is_voxel_unique : (r : ℕ) (a b : Bool) → a ≡ is_voxel r → b ≡ is_voxel r → a ≡ b
is_voxel_unique r a b p q = p ∙ sym q

pub structure_of_unique : (r a b : ℕ) → a ≡ structure_of r → b ≡ structure_of r → a ≡ b
structure_of_unique r a b p q = p ∙ sym q

pub vertex_of_unique : (r : ℕ) (a b : Vertex) → a.0 ≡ payload_of r → b.0 ≡ payload_of r → a ≡ b
vertex_of_unique r a b p q = λ k. record { 0 = (p ∙ sym q) k }

pub i_of_unique : (r a b : ℕ) → a ≡ i_of r → b ≡ i_of r → a ≡ b
i_of_unique r a b p q = p ∙ sym q

pub j_of_unique : (r a b : ℕ) → a ≡ j_of r → b ≡ j_of r → a ≡ b
j_of_unique r a b p q = p ∙ sym q

pub k_of_unique : (r a b : ℕ) → a ≡ k_of r → b ≡ k_of r → a ≡ b
k_of_unique r a b p q = p ∙ sym q

pub legal_unique : (r : ℕ) (a b : Bool) → a ≡ legal_record r → b ≡ legal_record r → a ≡ b
legal_unique r a b p q = p ∙ sym q

pub key_unique : (r a b : ℕ) → a ≡ key_of r → b ≡ key_of r → a ≡ b
key_unique r a b p q = p ∙ sym q

pub legal_five_unique : (r : ℕ) (a b : Bool) → a ≡ legal_in five r → b ≡ legal_in five r → a ≡ b
legal_five_unique r a b p q = p ∙ sym q

pub widen_unique : (r a b : ℕ) → a ≡ widened r → b ≡ widened r → a ≡ b
widen_unique r a b p q = p ∙ sym q

pub clear_unique : (before a b : List ℕ) → a ≡ replicate (length before) 0 → b ≡ replicate (length before) 0 → a ≡ b
clear_unique before a b p q = p ∙ sym q

pub pack_unique :
    {w : Width} (rs before : List ℕ) (a b : Outcome) (x y : List ℕ) → PacksIn w rs before a x → PacksIn w rs before b y → (a ≡ b) × (x ≡ y)
pack_unique {w} rs before a b x y p q =
    let e : a ≡ b = p.answers ∙ sym q.answers in
    (e, p.holds ∙ ap (λ (v : Outcome). packed_into w v.number rs before) e ∙ sym q.holds)

pub unpack_unique :
    {v w : Width} (s before : List ℕ) (a b : Outcome) (x y : List ℕ) → UnpacksIn v w s before a x → UnpacksIn v w s before b y
    → (a ≡ b) × (x ≡ y)
unpack_unique {v} {w} s before a b x y p q =
    let e : a ≡ b = p.answers ∙ sym q.answers in
    (e, p.holds ∙ ap (λ (o : Outcome). unpacked_into v w o.number s before) e ∙ sym q.holds)

pub same_place : (rs : List ℕ) (x p q : ℕ) → FirstPlace rs x p → FirstPlace rs x q → p ≡ q
same_place rs x p q f g =
    ⊎_elim (λ (h : p < q). absurd (g.absent p h f.stands))
    (λ (h : q ≤ p). ⊎_elim (λ (k : q < p). absurd (f.absent q k g.stands)) (λ (k : p ≤ q). omega arith) (lt? q p)) (lt? p q)

pub find_unique : (rs : List ℕ) (x : ℕ) (a b : RecordFound) → Finds rs x a → Finds rs x b → a ≡ b
find_unique rs x a b p q =
    let e : a.number ≡ b.number = p.numbered ∙ sym q.numbered in
    let f : a.place.0 ≡ b.place.0 =
    ⊎_elim (λ (z : a.number ≡ 0). same_place rs x a.place.0 b.place.0 (p.found z) (q.found (sym e ∙ z)))
    (λ (z : a.number ≡ 0 → ⊥). p.refused z ∙ sym (q.refused (λ (y : b.number ≡ 0). z (e ∙ y)))) (eq? a.number 0) in
    λ k. record { number = e k; place = record { 0 = f k } }

pub checks_unique :
    (n : ℕ) (xs before : List ℕ) (a b : ℕ) (x y : List ℕ) → ChecksRepeats n xs before a x → ChecksRepeats n xs before b y
    → (a ≡ b) × (x ≡ y)
checks_unique n xs before a b x y p q = (p.answers ∙ sym q.answers, p.zero ∙ sym q.zero)

pub repeats_in_unique :
    (n : ℕ) (before : List ℕ) (a b : ℕ) (x y : List ℕ) → ChecksRepeats n (take n before) before a x
    → ChecksRepeats n (take n before) before b y → (a ≡ b) × (x ≡ y)
repeats_in_unique n before = checks_unique n (take n before) before

pub twice_unique :
    (rs before : List ℕ) (a b : ℕ) (x y : List ℕ) → ChecksRepeats (length rs) (map key_of rs) before a x
    → ChecksRepeats (length rs) (map key_of rs) before b y → (a ≡ b) × (x ≡ y)
twice_unique rs before = checks_unique (length rs) (map key_of rs) before
