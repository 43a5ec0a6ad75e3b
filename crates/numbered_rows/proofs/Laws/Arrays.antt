-- GIFTI's numbers are GIFTI's rows: CIFTI's kinds have CIFTI's rows, and the others are computed; so what the walker says from a root of
-- GIFTI is conditions 3, 6 and 7.
use Rattle.std.specs.Prelude.{◌≡◌, refl, List, ℕ}
use Rattle.std.proofs.Common.{sym, ◌∙◌}
use Rattle.lists.specs.Lists.{count_up, each}
use Rattle.grammar.specs.Document.{Element}
use Rattle.schema.specs.Schema.{everywhere, shaped, numbered}
use Rattle.schema.specs.Renamed.{row_named}
use Rattle.schema.proofs.Laws.Renamed.{renaming, named_twice_lem, shaped_named, numbered_named, walk_named}
use Rattle.cifti.specs.Rows.{ElementKind, rows, element_number}
use Rattle.gifti.specs.Rows.{GiftiKind, of_cifti, gifti, plain_array, coded_array, other_array, plain_data, coded_data, other_data, gifti_number}
use Rattle.gifti.specs.Rows.{gifti_rows, gifti_table}
use Rattle.gifti.specs.Conditions.{shape_wrong, number_wrong}
use Rattle.schema.specs.Letters.{lettering}
use Rattle.schema.specs.Table.{table_words, rows_of}
use Rattle.schema.specs.Faults.{fault_of}
use Rattle.schema.specs.Checked.{Checks}
use Rattle.schema.specs.declared.Checked.{Checked}
use Rattle.numbered_rows.specs.Table.{table, letters}
use Rattle.numbered_rows.specs.Checks.{gifti_fault, ChecksGifti}
use Rattle.numbered_rows.proofs.Laws.Agree.{rows_are, fault_so, checked_by}

-- a row of CIFTI's, named anew by GIFTI's kinds
cifti_row : (k : ElementKind) → rows_of table letters (element_number k) ≡ row_named gifti_number (row_named of_cifti (rows k))
unfolding gifti_number
cifti_row k = rows_are k ∙ sym (named_twice_lem of_cifti gifti_number (rows k))

root_row : rows_of table letters 19 ≡ row_named gifti_number (gifti_rows gifti)
unfolding element_number gifti_number gifti_table renaming each count_up table letters lettering table_words
root_row = refl

plain_row : rows_of table letters 20 ≡ row_named gifti_number (gifti_rows plain_array)
unfolding element_number gifti_number gifti_table renaming each count_up table letters lettering table_words
plain_row = refl

coded_row : rows_of table letters 21 ≡ row_named gifti_number (gifti_rows coded_array)
unfolding element_number gifti_number gifti_table renaming each count_up table letters lettering table_words
coded_row = refl

other_row : rows_of table letters 22 ≡ row_named gifti_number (gifti_rows other_array)
unfolding element_number gifti_number gifti_table renaming each count_up table letters lettering table_words
other_row = refl

plain_data_row : rows_of table letters 23 ≡ row_named gifti_number (gifti_rows plain_data)
unfolding gifti_number gifti_table renaming each count_up table letters lettering table_words
plain_data_row = refl

coded_data_row : rows_of table letters 24 ≡ row_named gifti_number (gifti_rows coded_data)
unfolding gifti_number gifti_table renaming each count_up table letters lettering table_words
coded_data_row = refl

other_data_row : rows_of table letters 25 ≡ row_named gifti_number (gifti_rows other_data)
unfolding gifti_number gifti_table renaming each count_up table letters lettering table_words
other_data_row = refl

-- THE LAW: the table stands for the rows of the paper
pub array_rows_are : (k : GiftiKind) → rows_of table letters (gifti_number k) ≡ row_named gifti_number (gifti_rows k)
unfolding gifti_number gifti_rows
array_rows_are (of_cifti k) = cifti_row k
array_rows_are gifti = root_row
array_rows_are plain_array = plain_row
array_rows_are coded_array = coded_row
array_rows_are other_array = other_row
array_rows_are plain_data = plain_data_row
array_rows_are coded_data = coded_data_row
array_rows_are other_data = other_data_row

shape_is : (e : Element) → everywhere (rows_of table letters) shaped (gifti_number gifti) e ≡ everywhere gifti_rows shaped gifti e
shape_is e = walk_named gifti_number gifti_rows (rows_of table letters) array_rows_are shaped shaped (shaped_named gifti_number) e gifti

number_is : (e : Element) → everywhere (rows_of table letters) numbered (gifti_number gifti) e ≡ everywhere gifti_rows numbered gifti e
number_is e = walk_named gifti_number gifti_rows (rows_of table letters) array_rows_are numbered numbered (numbered_named gifti_number) e gifti

gifti_fault_lem : (e : Element) → fault_of table letters 19 e ≡ gifti_fault e
unfolding gifti_fault shape_wrong number_wrong fault_of gifti_number
gifti_fault_lem e = rw (shape_is e, number_is e) (fault_so (everywhere gifti_rows shaped gifti e) (everywhere gifti_rows numbered gifti e))

pub gifti_checked : {text : List ℕ} {r : Checked} → Checks table letters 19 text r → ChecksGifti text r
gifti_checked c = checked_by gifti_fault_lem c
