-- One number, and one content of each slice lent, of the keys of a GIFTI label file for C.
use Rattle.std.specs.Prelude.{◌≡◌, List, [], ◌∷◌, ℕ, ℤ}
use Rattle.std.proofs.Common.{sym, ap, ◌∙◌}
use Rattle.gifti.proofs.Laws.Keys.{keys_unique}
use Rattle.flat.specs.Flat.{laid_over}
use Rattle.dzwonolin.specs.Gifti.{GiftiFlat}

module _ {text : List ℕ} {i : ℕ} {keys s t : List ℤ} {slice : List ℕ} {m n : ℕ} {a b : List ℕ} where
  pub gifti_flat_unique : GiftiFlat text i keys slice m s a → GiftiFlat text i keys slice n t b → (m ≡ n) × (s ≡ t) × (a ≡ b)
  gifti_flat_unique p q =
      let (e, c, f) = keys_unique p.keyed q.keyed in
      (e, f, p.flat ∙ ap (λ k. laid_over (k ∷ []) slice) c ∙ sym q.flat)
