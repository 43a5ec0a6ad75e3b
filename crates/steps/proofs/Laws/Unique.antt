-- A promise `To r ≡ ..` of a function that answers a bare place leaves one answer: of `blanks_end`, `name_bytes_end`, `plain_end`.
use Rattle.std.specs.Prelude.{◌≡◌, ℕ, Option, Some}
use Rattle.std.proofs.Common.{sym, ◌∙◌}

pub one_place : {x : Option ℕ} {r s : ℕ} → Some r ≡ x → Some s ≡ x → r ≡ s
one_place p q = let e = p ∙ sym q in cc
