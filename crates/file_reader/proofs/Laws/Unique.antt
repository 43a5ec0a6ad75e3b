-- ONE ANSWER FOR EVERY FILE, and one content of each slice lent. Assumes nothing.
use Rattle.std.specs.Prelude.{◌≡◌, List, [], ℕ, length, take, drop}
use Rattle.std.proofs.Common.{sym, ap, ◌∙◌, subst}
use Rattle.nifti.specs.File.{Fronts, part_of}
use Rattle.nifti.proofs.Laws.File.{front_unique}
use Rattle.nifti.specs.declared.Front.{Front}
use Rattle.cifti.specs.Answer.{Reads, refused_with}
use Rattle.cifti.proofs.Laws.Theorems.{reads_unique}
use Rattle.cifti.specs.declared.answer.Answer.{Answer}
use Rattle.map_names.specs.Placed.{NamePlaced}
use Rattle.map_names.proofs.Laws.Placed.{place_unique}
use Rattle.map_names.specs.declared.NamePlace.{NamePlace}
use Rattle.file_reader.specs.Whole.{given_lengths, ReadsFile, front_refused, front_read, moved_by, FilePlaced, name_refused}
use Rattle.file_reader.specs.Whole.{name_placed, FileNumber, FileName}

module _ {file : List ℕ} {f g : Front} (p : Fronts file f) (q : Fronts file g) where
  same_number : f.number ≡ g.number
  same_number = ap (λ (x : Front). x.number) (front_unique p q)

  clash_front : {A : Type 0} → (f.number ≡ 0 → ⊥) → g.number ≡ 0 → A
  clash_front h k = absurd (h (same_number ∙ k))

module _ {file records work : List ℕ} {a b : Answer} {s t v w : List ℕ} where
  pub read_file_unique : ReadsFile file records work a s v → ReadsFile file records work b t w → (a ≡ b) × (s ≡ t) × (v ≡ w)
  read_file_unique (front_refused p h e x y) (front_refused q k e₁ x₁ y₁) =
      (e ∙ ap refused_with (same_number p q) ∙ sym e₁, x ∙ sym x₁, y ∙ sym y₁)
  read_file_unique (front_refused p h e x y) (front_read q k r) = clash_front p q h k
  read_file_unique (front_read p h r) (front_refused q k e x y) = clash_front q p k h
  read_file_unique (front_read p h r) (front_read q k r₁) =
      reads_unique r (subst (λ (x : Front). Reads (part_of file x) (given_lengths x) records work b t w) (front_unique q p) r₁)

module _ {file : List ℕ} {d i : ℕ} where
  pub file_place_unique : {a b : NamePlace} → FilePlaced file d i a → FilePlaced file d i b → a ≡ b
  file_place_unique (name_refused p h e) (name_refused q k e₁) =
      e ∙ ap (λ n. record { number = n; start = 0; length = 0 }) (same_number p q) ∙ sym e₁
  file_place_unique (name_refused p h e) (name_placed q k r e₁) = clash_front p q h k
  file_place_unique (name_placed p h r e) (name_refused q k e₁) = clash_front q p k h
  file_place_unique (name_placed {f} {p = x} p h r e) (name_placed {p = y} q k r₁ e₁) =
      let z : x ≡ y = place_unique r (subst (λ (u : Front). NamePlaced (part_of file u) (given_lengths u) d i y) (front_unique q p) r₁) in
      e ∙ ap (moved_by f.start) z ∙ ap (λ (u : Front). moved_by u.start y) (front_unique p q) ∙ sym e₁

  pub file_number_unique : {m n : ℕ} → FileNumber file d i m → FileNumber file d i n → m ≡ n
  file_number_unique r q = r.is ∙ ap (λ (x : NamePlace). x.number) (file_place_unique r.placed q.placed) ∙ sym q.is

  pub file_name_unique : {s t : List ℕ} → FileName file d i s → FileName file d i t → s ≡ t
  file_name_unique r q = r.is ∙ ap (λ (x : NamePlace). take x.length (drop x.start file)) (file_place_unique r.placed q.placed)
      ∙ sym q.is
