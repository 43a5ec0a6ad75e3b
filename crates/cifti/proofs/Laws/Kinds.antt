-- The kind that a word names, by the word's place in the table.
use Rattle.std.specs.Prelude.{◌≡◌, refl, List, [], ◌∷◌, Bool, true, false, cond, ℕ, suc, ◌≤◌, min, length, get_or}
use Rattle.std.proofs.Common.{sym, ap, ◌∙◌, arith}
use Prim.Native.String.{String}
use Rattle.lists.specs.Lists.{each}
use Rattle.grammar.specs.Look.{Word, is}
use Rattle.grammar.specs.Parser.{same_bytes}
use Rattle.schema.specs.Schema.{Case, ◌⇒◌}
use Rattle.cifti.specs.Words.{number_in}
use Rattle.cifti.specs.Maps.{kind_words, kind_by_word, case_word, case_kind, words_of_kinds, all_kinds, kind_place, kind_placed}
use Rattle.cifti.specs.declared.answer.Kind.{Kind}
use Rattle.cifti.specs.declared.answer.Kind.TheVariants.{None}

by_place : (l : List (Case Kind)) (w : Word) → get_or (each case_kind l) (number_in (each case_word l) w) None ≡ kind_by_word l w
unfolding each case_kind case_word number_in kind_by_word
by_place [] w = refl
by_place ((s ⇒ k) ∷ l) w = go (is s w) (by_place l w)
  where
    go : (b : Bool) → get_or (each case_kind l) (number_in (each case_word l) w) None ≡ kind_by_word l w
        → get_or (k ∷ each case_kind l) (cond b 0 (suc (number_in (each case_word l) w))) None ≡ cond b k (kind_by_word l w)
    go true h = refl
    go false h = h

number_most : (l : List String) (w : Word) → number_in l w ≤ length l
unfolding number_in
number_most [] w = omega arith
number_most (s ∷ l) w = go (is s w) (number_most l w)
  where
    go : (b : Bool) → number_in l w ≤ length l → cond b 0 (suc (number_in l w)) ≤ suc (length l)
    go true h = omega arith
    go false h = omega arith

-- behind the last word stands None
words_end : length words_of_kinds ≡ kind_place None
unfolding words_of_kinds kind_words each
words_end = refl

pub kind_named : (w : Word) {p : ℕ} {r : Kind} → p ≡ number_in words_of_kinds w → kind_place r ≡ min p (kind_place None)
    → r ≡ kind_by_word kind_words w
unfolding words_of_kinds all_kinds
kind_named w {p} {r} e h =
    let m = number_most words_of_kinds w in
    let n = words_end in
    let q : kind_place r ≡ number_in words_of_kinds w = omega arith in
    sym (kind_placed r) ∙ ap (λ i. get_or all_kinds i None) q ∙ by_place kind_words w

pub no_word : None ≡ kind_by_word kind_words []
unfolding kind_words kind_by_word is same_bytes
no_word = refl

-- one kind stands at a place: `kind_at` has one answer
pub kind_at_unique : {p : ℕ} {a b : Kind} → kind_place a ≡ p → kind_place b ≡ p → a ≡ b
kind_at_unique {a = a} {b} h k = sym (kind_placed a) ∙ ap (λ n. get_or all_kinds n None) (h ∙ sym k) ∙ kind_placed b
