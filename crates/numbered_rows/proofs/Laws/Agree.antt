-- CIFTI's numbers are CIFTI's rows: one computed theorem; so what the walker says is conditions 3, 6 and 7.
use Rattle.std.specs.Prelude.{◌≡◌, refl, List, [], ◌∷◌, Bool, true, false, not, cond, ℕ, zero, suc, get_or, Some}
use Rattle.std.proofs.Common.{ap, ap₂, sym, ◌∙◌, true≢false, rules}
use Rattle.lists.specs.Lists.{count_up, each}
use Rattle.grammar.specs.Document.{Element}
use Rattle.grammar.specs.Look.{Word}
use Rattle.grammar.specs.Parser.{parse}
use Rattle.grammar.proofs.Laws.Theorems.{parse_iff}
use Rattle.lists.proofs.Laws.Booleans.{never_some}
use Rattle.nodes.specs.Values.{value_there}
use Rattle.schema.specs.Schema.{everywhere, shaped, numbered, Row}
use Rattle.cifti.specs.Rows.{ElementKind, cifti, rows, row_table, element_kinds, element_number, at_number}
use Rattle.cifti.specs.Maps.{kind_words, case_word, words_of_kinds}
use Rattle.cifti.specs.Words.{structures, units, number_in}
use Rattle.cifti.specs.Conditions.{shape_wrong, number_wrong}
use Rattle.schema.specs.Letters.{lettering}
use Rattle.schema.specs.Table.{table_words, rows_of, words_at}
use Rattle.schema.specs.Faults.{fault, fault_of}
use Rattle.schema.specs.Checked.{Checks, ChecksDocument}
use Rattle.schema.specs.declared.Checked.{Checked}
use Rattle.numbered_rows.specs.Table.{table, letters}
use Rattle.numbered_rows.specs.Checks.{root_fault, JudgedBy, ChecksBy, ChecksCifti, TableAnswers}
use Rattle.schema.specs.Renamed.{row_named}
use Rattle.schema.proofs.Laws.Renamed.{renaming, shaped_named, numbered_named, walk_named}

-- one computed equation over all kinds
all_rows_are : each (λ k. rows_of table letters (element_number k)) element_kinds ≡ each (λ k. row_named element_number (rows k)) element_kinds
unfolding row_table element_kinds element_number renaming each count_up table letters lettering table_words
all_rows_are = refl

each_at : {A B : Type 0} (f : A → B) (l : List A) (i : ℕ) (a : A) → get_or (each f l) i (f a) ≡ f (get_or l i a)
unfolding each
each_at f [] i a = refl
each_at f (x ∷ l) zero a = refl
each_at f (x ∷ l) (suc i) a = each_at f l i a

first_row_is : rows_of table letters (element_number cifti) ≡ row_named element_number (rows cifti)
unfolding row_table element_number renaming each count_up table letters lettering table_words
first_row_is = refl

-- THE LAW: the table stands for the rows of the paper
pub rows_are : (k : ElementKind) → rows_of table letters (element_number k) ≡ row_named element_number (rows k)
rows_are k =
    ap tabled (sym (at_number k)) ∙ sym (each_at tabled element_kinds (element_number k) cifti)
    ∙ ap₂ (λ l r. get_or l (element_number k) r) all_rows_are first_row_is
    ∙ each_at named element_kinds (element_number k) cifti ∙ ap named (at_number k)
  where
    tabled : ElementKind → Row ℕ
    tabled j = rows_of table letters (element_number j)

    named : ElementKind → Row ℕ
    named j = row_named element_number (rows j)

-- and its lists of words are the paper's
structures_are : words_at table letters 8 ≡ structures
unfolding row_table count_up table letters lettering table_words
structures_are = refl

units_are : words_at table letters 7 ≡ units
unfolding row_table count_up table letters lettering table_words
units_are = refl

kinds_are : words_at table letters 12 ≡ words_of_kinds
unfolding kind_words case_word words_of_kinds each count_up table letters lettering table_words
kinds_are = refl

pub structure_is : (x : Word) {r : ℕ} → r ≡ number_in (words_at table letters 8) x → r ≡ number_in structures x
structure_is x e = e ∙ ap (λ l. number_in l x) structures_are

pub unit_is : (x : Word) {r : ℕ} → r ≡ number_in (words_at table letters 7) x → r ≡ number_in units x
unit_is x e = e ∙ ap (λ l. number_in l x) units_are

pub kind_is : (x : Word) {r : ℕ} → r ≡ number_in (words_at table letters 12) x → r ≡ number_in words_of_kinds x
kind_is x e = e ∙ ap (λ l. number_in l x) kinds_are

shape_is : (e : Element) → everywhere (rows_of table letters) shaped (element_number cifti) e ≡ everywhere rows shaped cifti e
shape_is e = walk_named element_number rows (rows_of table letters) rows_are shaped shaped (shaped_named element_number) e cifti

number_is : (e : Element) → everywhere (rows_of table letters) numbered (element_number cifti) e ≡ everywhere rows numbered cifti e
number_is e = walk_named element_number rows (rows_of table letters) rows_are numbered numbered (numbered_named element_number) e cifti

pub fault_so : (s n : Bool) → fault s n ≡ cond (not s) 6 (cond (not n) 7 0)
unfolding fault
fault_so true true = refl
fault_so true false = refl
fault_so false n = refl

pub root_fault_lem : (e : Element) → fault_of table letters 0 e ≡ root_fault e
unfolding root_fault shape_wrong number_wrong fault_of element_number
root_fault_lem e = rw (shape_is e, number_is e) (fault_so (everywhere rows shaped cifti e) (everywhere rows numbered cifti e))

-- the walk from a root of a kind, where its faults are those of the rules
pub checked_by : {k : ℕ} {faultIn : Element → ℕ} → ((e : Element) → fault_of table letters k e ≡ faultIn e) → {text : List ℕ} {r : Checked}
    → Checks table letters k text r → ChecksBy faultIn text r
checked_by {k} {faultIn} f {text} {r} c = record {
  unwritten = λ n. c.none (λ e w. never_some (sym n ∙ (parse_iff text e).1 w));
  written = λ e p. judged e p (c.some_one e ((parse_iff text e).0 p));
}
  where
    judged : (e : Element) → parse text ≡ Some e → ChecksDocument table letters k text r e → JudgedBy faultIn text r.root r.number
    judged e p j = record {
      parsed = p ∙ ap Some (sym j.root_is);
      placed = j.placed;
      stands = j.stands;
      fault_is = j.number_is ∙ f e ∙ ap faultIn (sym j.root_is);
    }

pub cifti_checked : {text : List ℕ} {r : Checked} → Checks table letters 0 text r → ChecksCifti text r
cifti_checked c = checked_by root_fault_lem c

-- as the code lends it, and what it is asked
module _ {t l : List ℕ} (te : t ≡ table) (le : l ≡ letters) {text : List ℕ} {asked : Bool} {k v f n : ℕ} {r : Checked} where
  pub lent_checked : asked ≡ true → Checks t l k text r → TableAnswers text asked k v f r n
  lent_checked h c = record {
    checked_so = λ _. rw (te, le) at c;
    number_is = λ no. absurd (true≢false (sym h ∙ no));
  }

  pub lent_number : asked ≡ false → n ≡ number_in (words_at t l f) (value_there text v) → TableAnswers text asked k v f r n
  lent_number h e = record {
    checked_so = λ yes. absurd (true≢false (sym yes ∙ h));
    number_is = λ _. e ∙ rw (te, le);
  }

pub ruleset lending = (lent_checked, lent_number, rules)
