-- WHAT IS ANSWERED AT THE END OF THE LIST is what is promised of the list. Assumes nothing.
use Rattle.std.specs.Prelude.{◌≡◌, Bool, ◌&&◌, ◌||◌, ℕ, ◌+◌, eqb, length, drop, Result, Ok, Err}
use Rattle.std.specs.Option.{ok_or}
use Rattle.std.proofs.Math.Path.{refl, sym, ap, subst}
use Rattle.std.proofs.Common.{◌∙◌, arith}
use mathlib.Core.List.{List, [], ◌∷◌}
use Rattle.std.proofs.Math.Bool.{true, false, not}
use Rattle.std.proofs.Math.Dec.{ltb}
use Rattle.std.proofs.Math.ListN.{take}
use borrow.Author.Tests.{le-ltb}
use Rattle.lists.specs.Lists.{any}
use Rattle.lists.specs.Refusals.{◌when◌, first}
use Rattle.lists.proofs.Laws.Booleans.{or_first}
use Rattle.records.specs.Outcome.{ends, applies, passes, gives_first}
use Rattle.records.specs.Find.{FirstPlace}
use Rattle.records.specs.declared.counters.Index.{Index}
use Rattle.shortlist.specs.Runs.{kind_of}
use Rattle.shortlist.specs.Asking.{past_end, bad_list, holds_index, of_kind, the_model, no_model, told_in}
use Rattle.shortlist.specs.Asking.{records_in_range, is_record, own_stretch, tell_refusal, Tells}
use Rattle.shortlist.specs.Asking.{seek_refusal, Seeks}
use Rattle.shortlist.specs.Search.{begun, next_of, folded, told_of, own_records, list_outside, Finding}
use Rattle.shortlist.proofs.Laws.Search.{fault_is, seen_is, Sees, past_seen, tells_one, tells_none, from_seen, size_seen, the_has_not}
use Rattle.shortlist.specs.declared.answer.Model.{Model}
use Rattle.shortlist.specs.declared.answer.Told.{Told}
use Rattle.shortlist.specs.declared.answer.SearchFault.{SearchFault}
use Rattle.shortlist.specs.declared.state.Search.{Search}

pub none_past : (n : ℕ) → past_end n no_model ≡ false
unfolding past_end
none_past n = le-ltb n 0 (omega arith)

-- ---- The type and structure at an index.

module _ (l : List Model) (n : ℕ) where
  told_bad : bad_list l ≡ true → Tells l n (Err SearchFault.BadList)
  unfolding tell_refusal
  told_bad h = record { numbered = sym (gives_first (applies h)); voxels = refl; structure = refl }

  told_nothing : bad_list l ≡ false → any (holds_index n) l ≡ false → Tells l n (Err SearchFault.NotFound)
  unfolding tell_refusal
  told_nothing h k = record { numbered = sym (gives_first (passes h (applies (ap not k)))); voxels = refl; structure = refl }

  told_is : bad_list l ≡ false → any (holds_index n) l ≡ true → Tells l n (Ok (told_in (the_model (holds_index n) l)))
  unfolding tell_refusal
  told_is h k = record { numbered = sym (gives_first (passes h (passes (ap not k) ends))); voxels = refl; structure = refl }

  module _ (k most : ℕ) where
    -- a fault is what is promised
    pub tells_fault : (e : SearchFault) → folded next_of (begun n k most) l ≡ Err e → Tells l n (Err e)
    tells_fault e h = let (p, q) = fault_is n k most l e h in subst (λ (x : SearchFault). Tells l n (Err x)) (sym q) (told_bad p)

    -- what `told` says of the list is what is promised
    pub tells_seen : (t : Search) → folded next_of (begun n k most) l ≡ Ok t → (answer : Result Told SearchFault) → answer ≡ told_of t
        → Tells l n answer
    tells_seen t h answer e = by (any (holds_index n) l) refl
      where
        by : (b : Bool) → any (holds_index n) l ≡ b → Tells l n answer
        by true q =
            let (good, w) = seen_is n k most l t h in
            subst (Tells l n) (sym (e ∙ ap (λ o. ok_or o SearchFault.NotFound) (tells_one n k most l t w q))) (told_is good q)
        by false q =
            let (good, w) = seen_is n k most l t h in
            subst (Tells l n) (sym (e ∙ ap (λ o. ok_or o SearchFault.NotFound) (tells_none n k most l t w q))) (told_nothing good q)

-- ---- The index of a record.

module _ (l : List Model) (rs : List ℕ) (x : ℕ) where
  own : Model
  own = the_model (of_kind (kind_of x)) l

  seeks_bad : bad_list l ≡ true → Seeks l rs x (Err SearchFault.BadList)
  unfolding seek_refusal
  seeks_bad p = record {
    numbered = sym (gives_first (applies (or_first (bad_list l) (any (past_end (length rs)) l) p)));
    found = λ z. absurd (omega arith);
    refused = λ _. refl;
  }

  -- a fault is what is promised
  pub seeks_fault : (e : SearchFault) → folded next_of (begun 0 (kind_of x) (length rs)) l ≡ Err e → Seeks l rs x (Err e)
  seeks_fault e h =
      let (p, q) = fault_is 0 (kind_of x) (length rs) l e h in
      subst (λ (f : SearchFault). Seeks l rs x (Err f)) (sym q) (seeks_bad p)

  module _ (t : Search) (good : bad_list l ≡ false) (w : Sees (begun 0 (kind_of x) (length rs)) l t) where
    same_stretch : own_records t rs ≡ own_stretch l rs x
    unfolding own_stretch records_in_range own
    same_stretch =
        ap (λ n. take n (drop t.from rs)) (size_seen 0 (kind_of x) (length rs) l t w)
        ∙ ap (λ n. take own.count (drop n rs)) (from_seen 0 (kind_of x) (length rs) l t w)

    -- the stretch lies among the records where no entry reaches past them
    same_test : list_outside t (length rs) ≡ any (past_end (length rs)) l
    unfolding list_outside past_end own
    same_test =
        ap (λ n. ltb n (t.first + t.count) || ltb (length rs) (t.from + t.size)) w.asked
        ∙ ap (λ b. b || ltb (length rs) (t.from + t.size)) (past_seen 0 (kind_of x) (length rs) l t w)
        ∙ past (any (past_end (length rs)) l) refl
      where
        inside : any (past_end (length rs)) l ≡ false → ltb (length rs) (t.from + t.size) ≡ false
        inside k =
            ap (λ n. ltb (length rs) (n + t.size)) (from_seen 0 (kind_of x) (length rs) l t w)
            ∙ ap (λ n. ltb (length rs) (own.first.0 + n)) (size_seen 0 (kind_of x) (length rs) l t w)
            ∙ the_has_not (of_kind (kind_of x)) (past_end (length rs)) l k (none_past (length rs))

        past : (b : Bool) → any (past_end (length rs)) l ≡ b → (b || ltb (length rs) (t.from + t.size)) ≡ b
        past true e = refl
        past false e = inside e

    same_number : first (26 when list_outside t (length rs) ∷ 19 when not (is_record x && any (eqb x) (own_records t rs)) ∷ []) ≡
        seek_refusal l rs x
    unfolding seek_refusal
    same_number =
        ap (λ b. first (26 when b ∷ 19 when not (is_record x && any (eqb x) (own_records t rs)) ∷ []))
        (same_test ∙ sym (ap (λ b. b || any (past_end (length rs)) l) good))
        ∙ ap (λ s. first (26 when (bad_list l || any (past_end (length rs)) l) ∷ 19 when not (is_record x && any (eqb x) s) ∷ []))
        same_stretch

    seeks_good : (answer : Result Index SearchFault) → Finding rs t x answer → Seeks l rs x answer
    unfolding own
    seeks_good answer f = record {
      numbered = f.numbered ∙ same_number;
      found = λ z. record {
        place = f.place;
        first_place = subst (λ (s : List ℕ). FirstPlace s x f.place) same_stretch (f.found z);
        index_is = f.index_is z ∙ ap (λ n. n + f.place) (from_seen 0 (kind_of x) (length rs) l t w);
      };
      refused = f.refused;
    }

  -- what `sought` finds in what has been seen is what is promised
  pub seeks_seen : (t : Search) → folded next_of (begun 0 (kind_of x) (length rs)) l ≡ Ok t → (answer : Result Index SearchFault)
      → Finding rs t x answer → Seeks l rs x answer
  seeks_seen t h answer f = let (p, w) = seen_is 0 (kind_of x) (length rs) l t h in seeks_good t p w answer f
