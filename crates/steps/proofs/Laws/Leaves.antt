-- What is proved of Leaves.
use Rattle.std.specs.Prelude.{◌≡◌, refl, List, ◌∷◌, ℕ, ◌<◌, Bool, true, false, length}
use Rattle.grammar.specs.Read.{fail, bind, mark, span}
use Rattle.grammar.proofs.Laws.Read.{Ok, ok_map, mark_sound, span_sound, byte_complete, byte_other}
use Rattle.grammar.specs.Parser.{name_at, gap_at, equals_at, literal_at, reference_at, line_end_at, value_character_at, value_at}
use Rattle.grammar.specs.Parser.{remark_at, data_character_at, skipped_at}
use Rattle.grammar.proofs.Laws.Sound.{name_sound, gap_sound, equals_sound, reference_sound, line_end_takes, value_character_sound}
use Rattle.grammar.proofs.Laws.Sound.{value_sound, remark_sound, data_character_sound, skipped_sound}
use Rattle.grammar.proofs.Laws.Tokens.{line_end_long, value_character_long, remark_long}
use Rattle.grammar.proofs.Laws.Data.{data_character_long, skipped_long}
use Rattle.grammar.proofs.Laws.Unfuelled.{less}
use Rattle.steps.proofs.Laws.Step.{Tails, tails}
use Rattle.steps.specs.Leaves.{anything, character_at}

pub span_tails : (p : ℕ → Bool) (s : List ℕ) → Ok (Tails s) (span p s)
span_tails p s = ok_map (span_sound p s) λ w r h. (w, h.0)

pub mark_tails : (k s : List ℕ) → Ok (Tails s) (mark k s)
mark_tails k s = ok_map (mark_sound k s) λ _ r e. (k, e)

pub name_tails : (s : List ℕ) → Ok (Tails s) (name_at s)
name_tails s = ok_map (name_sound s) λ n r h. (n, h.0)

pub gap_tails : (s : List ℕ) → Ok (Tails s) (gap_at s)
gap_tails s = ok_map (gap_sound s) λ u r h. (u, h.0)

pub equals_tails : (s : List ℕ) → Ok (Tails s) (equals_at s)
equals_tails s = tails (equals_sound s)

pub literal_is : (p : ℕ → Bool) (a : ℕ) (s : List ℕ) → p a ≡ true → literal_at p (a ∷ s) ≡ character_at (a ∷ s)
unfolding literal_at character_at bind anything
literal_is p a s e = rw (byte_complete p a e s, byte_complete anything a refl s)

pub literal_not : (p : ℕ → Bool) (a : ℕ) (s : List ℕ) → p a ≡ false → literal_at p (a ∷ s) ≡ fail
unfolding literal_at bind
literal_not p a s e = rw (byte_other p a e s)

pub reference_tails : (s : List ℕ) → Ok (Tails s) (reference_at s)
reference_tails s = tails (reference_sound s)

-- the end of a line
pub line_end_eats : (v s : List ℕ) → Ok (λ _ r. length r < length s) (line_end_at v s)
line_end_eats v s = less (λ _ w h. line_end_long h) (line_end_takes v s)

pub line_end_tails : (v s : List ℕ) → Ok (Tails s) (line_end_at v s)
line_end_tails v s = tails (line_end_takes v s)

-- VALUES
pub value_character_eats : (q : ℕ) (s : List ℕ) → Ok (λ _ r. length r < length s) (value_character_at q s)
value_character_eats q s = less (λ _ w h. value_character_long q h) (value_character_sound q s)

pub value_character_tails : (q : ℕ) (s : List ℕ) → Ok (Tails s) (value_character_at q s)
value_character_tails q s = tails (value_character_sound q s)

pub value_tails : (s : List ℕ) → Ok (Tails s) (value_at s)
value_tails s = tails (value_sound s)

-- COMMENTS
pub remark_eats : (s : List ℕ) → Ok (λ _ r. length r < length s) (remark_at s)
remark_eats s = less (λ _ w h. remark_long h) (remark_sound s)

pub remark_tails : (s : List ℕ) → Ok (Tails s) (remark_at s)
remark_tails s = tails (remark_sound s)

-- CDATA
pub data_character_eats : (s : List ℕ) → Ok (λ _ r. length r < length s) (data_character_at s)
data_character_eats s = less (λ _ w h. data_character_long h) (data_character_sound s)

pub data_character_tails : (s : List ℕ) → Ok (Tails s) (data_character_at s)
data_character_tails s = tails (data_character_sound s)

-- A DOCTYPE
pub skipped_eats : (s : List ℕ) → Ok (λ _ r. length r < length s) (skipped_at s)
skipped_eats s = less (λ _ w h. skipped_long h) (skipped_sound s)

pub skipped_tails : (s : List ℕ) → Ok (Tails s) (skipped_at s)
skipped_tails s = tails (skipped_sound s)
