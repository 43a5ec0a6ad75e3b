-- AN ACCEPTED TABLE PACKS: every record of the stretches of an accepted text is legal, so that packing them never answers 16.
use Rattle.std.specs.Prelude.{◌≡◌, refl, List, [], ◌∷◌, ◌++◌, Bool, true, false, not, cond, ℕ, zero, suc, ◌+◌, ◌*◌, ◌<◌, ◌≤◌, ltb, length, get_or, take, drop}
use Rattle.std.proofs.Math.Path.{ap}
use Rattle.std.proofs.Common.{◌∙◌, le_of_suc-le-suc, arith}
use Rattle.lists.specs.Lists.{all, each, each_in, those, tabulated}
use Rattle.lists.proofs.Laws.Quantifiers.{all_iff}
use Rattle.lists.specs.Refusals.{◌when◌, first}
use Rattle.lists.proofs.Laws.Booleans.{and_left, and_right, and_both}
use Rattle.lists.proofs.Laws.Lists.{all_append}
use Rattle.lists.proofs.Laws.Tables.{size_of_table, entry_of_table}
use Rattle.grammar.specs.Document.{Element}
use Rattle.records.specs.Width.{seven}
use Rattle.records.specs.Record.{legal_record}
use Rattle.records.specs.Sheet.{good_count, all_legal, pack_refusal}
use Rattle.cifti.specs.Maps.{map_of, maps_of, brain_maps, length_of, is_brain}
use Rattle.cifti.specs.Answer.{record_at, stretch, stretches, filled_with, Reads}
use Rattle.cifti.specs.declared.answer.Answer.{Answer}
use Rattle.maps.specs.MapKind.{GoodMap}
use Rattle.maps.proofs.Laws.Ready.{GoodMaps, no_maps, one_map}
use Rattle.models.specs.Fine.{Fine, FineMap}
use Rattle.models.proofs.Laws.Fine.{fine_first, fine_rest}
use Rattle.table.specs.Packable.{Packable}
use Rattle.table.proofs.Laws.Passed.{AcceptedText, accepted_text, maps_good}
use Rattle.table.proofs.Laws.Indexed.{indexed, lawful_legal}

-- ---- The stretches.

stretch_legal : {e : Element} → GoodMap e → FineMap (map_of e) → is_brain (map_of e).kind ≡ true
    → all_legal seven (stretch (map_of e)) ≡ true
unfolding stretch
stretch_legal {e} g f b = (all_iff 0 legal_record (tabulated size made)).1 (λ i u. at i (rw (size_of_table made size) at u))
  where
    size : ℕ
    size = length_of (map_of e)

    made : ℕ → ℕ
    made = record_at (map_of e).models

    at : (i : ℕ) → i < size → legal_record (get_or (tabulated size made) i 0) ≡ true
    at i u =
        let x = indexed g f b i u in
        ap legal_record (entry_of_table made 0 size i u ∙ x.recorded) ∙ lawful_legal x.fits

stretches_legal : {l : List Element} → GoodMaps l → Fine (each map_of l) → all_legal seven (stretches (each map_of l)) ≡ true
unfolding each stretches brain_maps those each_in all
stretches_legal no_maps f = refl
stretches_legal (one_map {e} {l} g m) f = go (is_brain (map_of e).kind) refl (stretches_legal m (fine_rest f))
  where
    go : (b : Bool) → is_brain (map_of e).kind ≡ b → all_legal seven (stretches (each map_of l)) ≡ true
        → all_legal seven (each_in stretch (cond b (map_of e ∷ brain_maps (each map_of l)) (brain_maps (each map_of l)))) ≡ true
    go true q h = all_append legal_record (stretch (map_of e)) (stretches (each map_of l))
        ∙ and_both (stretch_legal g (fine_first f) q) h
    go false q h = h

-- ---- Packing.

all_take : (n : ℕ) (l : List ℕ) → all_legal seven l ≡ true → all_legal seven (take n l) ≡ true
unfolding all
all_take zero l h = refl
all_take (suc n) [] h = refl
all_take (suc n) (r ∷ l) h = and_both (and_left (legal_record r) _ h) (all_take n l (and_right (legal_record r) _ h))

never_sixteen : (rs : List ℕ) (room : ℕ) → all_legal seven rs ≡ true → pack_refusal seven rs room ≡ 16 → ⊥
unfolding pack_refusal first
never_sixteen rs room h e = go (not (good_count (length rs))) (ltb room (4 + seven.bytes * length rs)) (rw h at e)
  where
    go : (a c : Bool) → first (15 when a ∷ 16 when false ∷ 17 when c ∷ []) ≡ 16 → ⊥
    go true c q = omega arith
    go false true q = omega arith
    go false false q = omega arith

-- the first of two lists in a row, and some of the first
take_first : (n : ℕ) (new rest : List ℕ) → n ≤ length new → take n (new ++ rest) ≡ take n new
take_first zero new rest u = refl
take_first (suc n) [] rest u = absurd (omega arith)
take_first (suc n) (a ∷ new) rest u = ap (λ l. a ∷ l) (take_first n new rest (le_of_suc-le-suc u))

some_legal : (from count : ℕ) (new rest : List ℕ) → from + count ≤ length new → all_legal seven new ≡ true
    → all_legal seven (take count (drop from (new ++ rest))) ≡ true
unfolding all
some_legal zero n new rest u h = ap (all_legal seven) (take_first n new rest (omega arith)) ∙ all_take n new h
some_legal (suc f) n [] rest u h = absurd (omega arith)
some_legal (suc f) n (r ∷ new) rest u h = some_legal f n new rest (omega arith) (and_right (legal_record r) _ h)

take_all : (l : List ℕ) → take (length l) l ≡ l
take_all [] = refl
take_all (a ∷ l) = ap (λ k. a ∷ k) (take_all l)

-- ---- THE STATEMENT.

module _ {text lengths records : List ℕ} {a : Answer} {after : List ℕ} (x : AcceptedText text lengths records a after) where
  new : List ℕ
  new = stretches (maps_of x.document)

  after_is : after ≡ new ++ drop (length new) records
  unfolding filled_with new
  after_is = x.filled

  lawful : all_legal seven new ≡ true
  unfolding maps_of new
  lawful = stretches_legal (maps_good x.passes.good) x.passes.fine

  by_document : Packable text after
  unfolding new
  by_document = record {
    document = x.document;
    written = x.writes;
    held = ap (take (length new)) after_is ∙ take_first (length new) new _ (omega arith) ∙ take_all new;
    legal = lawful;
    packed = λ f n room u h. never_sixteen (take n (drop f after)) room
        (ap (λ l. all_legal seven (take n (drop f l))) after_is ∙ some_legal f n new _ u lawful) h;
  }

pub accepted_packs : {text lengths records work : List ℕ} {a : Answer} {after cleared : List ℕ}
    → Reads text lengths records work a after cleared → a.number ≡ 0 → Packable text after
accepted_packs r z = by_document (accepted_text r z)
