-- A LIST, ENTRY BY ENTRY: what has been seen of it, by value. Assumes nothing.
use Rattle.std.specs.Prelude.{◌≡◌, Bool, cond, not, ◌&&◌, ◌||◌, List, [], ◌∷◌, ℕ, ◌+◌, ◌-◌, ◌/◌, ◌%◌, ◌^◌, eqb, ltb, length, take, drop}
use Rattle.std.specs.Prelude.{Some, None, Result, Ok, Err}
use Rattle.std.specs.Option.{ok_or}
use Rattle.lists.specs.Lists.{any}
use Rattle.lists.specs.Refusals.{◌when◌, first}
use Rattle.records.specs.Find.{FirstPlace}
use Rattle.shortlist.specs.Runs.{kind_in}
use Rattle.records.specs.declared.counters.Index.{Index}
use Rattle.shortlist.specs.Asking.{empty, no_structure, holds_index, of_kind, is_record, told_in}
use Rattle.shortlist.specs.Asking.{sought_number, sought_index}
use Rattle.shortlist.specs.declared.answer.Model.{Model}
use Rattle.shortlist.specs.declared.answer.Told.{Told}
use Rattle.shortlist.specs.declared.answer.SearchFault.{SearchFault}
use Rattle.shortlist.specs.declared.state.Search.{Search}

-- a bit of a number is set
unfoldable pub bit_set : (number place : ℕ) → Bool
bit_set n k = eqb (n / 2 ^ k % 2) 1

-- nothing seen yet
abbrev pub begun : (index kind most : ℕ) → Search
begun n k most = record {
  index = record { 0 = n };
  kind = k;
  most = most;
  first = 0;
  count = 0;
  named = 0;
  tells = None;
  from = 0;
  size = 0;
}

-- the entry begins where the one before it ends: no sum, so that nothing wraps
unfoldable pub follows : Search → Model → Bool
follows s m = not (ltb m.first.0 s.first) && eqb (m.first.0 - s.first) s.count

unfoldable pub bad_entry : Search → Model → Bool
bad_entry s m = no_structure m || (empty m || (not (follows s m) || bit_set s.named (kind_in m)))

-- a bad list stays bad: nothing more is seen of it
abbrev pub spoilt : Search → Result Search SearchFault
spoilt s = Err SearchFault.BadList

-- with one entry more: in a list that is not bad, one entry at most holds the index, and one at most is of the kind
unfoldable pub with_entry : Search → Model → Search
with_entry s m = record {
  index = s.index;
  kind = s.kind;
  most = s.most;
  first = m.first.0;
  count = m.count;
  named = s.named + 2 ^ kind_in m;
  tells = cond (holds_index s.index.0 m) (Some (told_in m)) s.tells;
  from = cond (of_kind s.kind m) m.first.0 s.from;
  size = cond (of_kind s.kind m) m.count s.size;
}

-- or the entry makes the list bad
unfoldable pub next_of : Search → Model → Result Search SearchFault
next_of s m = cond (bad_entry s m) (Err SearchFault.BadList) (Ok (with_entry s m))

-- what follows where there is no fault
abbrev pub at_ok : {A B : Type 0} → Result A SearchFault → (A → Result B SearchFault) → Result B SearchFault
at_ok (Ok a) f = f a
at_ok (Err e) f = Err e

-- what is left of a state when the entries have been taken in turn, up to one that makes the list bad
abbrev pub folded : (Search → Model → Result Search SearchFault) → Search → List Model → Result Search SearchFault
folded f s [] = Ok s
folded f s (m ∷ l) = at_ok (f s m) (λ t. folded f t l)

-- ---- What is answered at the end of the list.

-- the type and structure at the index
abbrev pub told_of : Search → Result Told SearchFault
told_of s = ok_or s.tells SearchFault.NotFound

-- the records among which the record is looked for; that they do not all lie among so many, nor all that the list names
abbrev pub own_records : Search → List ℕ → List ℕ
own_records s rs = take s.size (drop s.from rs)

unfoldable pub list_outside : Search → (records : ℕ) → Bool
list_outside s n = ltb s.most (s.first + s.count) || ltb n (s.from + s.size)

-- what `sought` promises
pub record Finding (rs : List ℕ) (s : Search) (x : ℕ) (answer : Result Index SearchFault) : Type 0 where
  pub numbered : sought_number answer
      ≡ first (26 when list_outside s (length rs) ∷ 19 when not (is_record x && any (eqb x) (own_records s rs)) ∷
      [])
  pub place : ℕ
  pub found : sought_number answer ≡ 0 → FirstPlace (own_records s rs) x place
  pub index_is : sought_number answer ≡ 0 → sought_index answer ≡ s.from + place
  pub refused : (sought_number answer ≡ 0 → ⊥) → sought_index answer ≡ 0
