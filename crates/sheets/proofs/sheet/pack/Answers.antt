use Rattle.records.proofs.Laws.Packing.{packing}
use Rattle.sheets.proofs.sheet.pack.Goals as goal

pub returns-then-not-good_count : goal.returns-then-not-good_count
returns-then-not-good_count c = search packing

pub returns-then-not-all_legal : goal.returns-then-not-all_legal
returns-then-not-all_legal c = search packing

pub returns-then-sheet-size : goal.returns-then-sheet-size
returns-then-sheet-size c = search packing

pub returns : goal.returns
returns c = search packing
