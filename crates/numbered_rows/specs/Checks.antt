-- What the table says of a text, as CIFTI and as GIFTI: conditions 3, 6 and 7, and the numbers of words.
use Rattle.std.specs.Prelude.{◌≡◌, List, Bool, true, false, cond, ℕ, Some, None}
use Rattle.grammar.specs.Document.{Element}
use Rattle.grammar.specs.Parser.{parse}
use Rattle.nodes.specs.Places.{Stands, the}
use Rattle.nodes.specs.Root.{root}
use Rattle.nodes.specs.Values.{value_there}
use Rattle.cifti.specs.Conditions.{shape_wrong, number_wrong}
use Rattle.cifti.specs.Words.{number_in}
use Rattle.gifti.specs.Conditions as G
use Rattle.schema.specs.Table.{words_at}
use Rattle.schema.specs.Checked.{Checks}
use Rattle.schema.specs.declared.Checked.{Checked}
use Rattle.numbered_rows.specs.Table.{table, letters}

-- 6 or 7, whichever applies first to a root, or 0: of CIFTI, and of GIFTI
unfoldable pub root_fault : Element → ℕ
root_fault e = cond (shape_wrong e) 6 (cond (number_wrong e) 7 0)

unfoldable pub gifti_fault : Element → ℕ
gifti_fault e = cond (G.shape_wrong e) 6 (cond (G.number_wrong e) 7 0)

-- the root stands at the place, and its fault is known
pub record JudgedBy (faultIn : Element → ℕ) (text : List ℕ) (at fault : ℕ) : Type 0 where
  pub parsed : parse text ≡ Some (the text at)
  pub placed : root text ≡ Some at
  pub stands : Stands text at
  pub fault_is : fault ≡ faultIn (the text at)

-- CONDITIONS 3, 6 AND 7: 3 where no document writes the text; else the fault of the root
pub record ChecksBy (faultIn : Element → ℕ) (text : List ℕ) (r : Checked) : Type 0 where
  pub unwritten : parse text ≡ None → (r.number ≡ 3) × (r.root ≡ 0)
  pub written : (e : Element) → parse text ≡ Some e → JudgedBy faultIn text r.root r.number

abbrev pub JudgedCifti : (text : List ℕ) (at fault : ℕ) → Type 0
JudgedCifti text at n = JudgedBy root_fault text at n

abbrev pub ChecksCifti : (text : List ℕ) (r : Checked) → Type 0
ChecksCifti text r = ChecksBy root_fault text r

abbrev pub JudgedGifti : (text : List ℕ) (at fault : ℕ) → Type 0
JudgedGifti text at n = JudgedBy gifti_fault text at n

abbrev pub ChecksGifti : (text : List ℕ) (r : Checked) → Type 0
ChecksGifti text r = ChecksBy gifti_fault text r

-- the answer to what is asked: conditions 3, 6 and 7 of a root of a kind, or the number of the value at v among the words of a form
pub record TableAnswers (text : List ℕ) (conditions : Bool) (kind v form : ℕ) (checked : Checked) (number : ℕ) : Type 0 where
  pub checked_so : conditions ≡ true → Checks table letters kind text checked
  pub number_is : conditions ≡ false → number ≡ number_in (words_at table letters form) (value_there text v)
