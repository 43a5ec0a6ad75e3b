-- FAULTS: the paper's number of each. Assumes nothing.
use Rattle.std.specs.Prelude.{ℕ}
use Rattle.shortlist.specs.declared.answer.ListFault.{ListFault}
use Rattle.shortlist.specs.declared.answer.SearchFault.{SearchFault}

abbrev pub list_fault_number : ListFault → ℕ
list_fault_number ListFault.BadCount = 15
list_fault_number ListFault.BadRecord = 16
list_fault_number ListFault.Parted = 26
list_fault_number ListFault.TooShort = 17

abbrev pub search_fault_number : SearchFault → ℕ
search_fault_number SearchFault.BadList = 26
search_fault_number SearchFault.NotFound = 19
