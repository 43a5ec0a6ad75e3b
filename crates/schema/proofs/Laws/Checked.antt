-- The turns of the check: no document, or a root and what the walk says of it.
use Rattle.std.specs.Prelude.{◌≡◌, refl, List, Bool, true, false, ℕ, ◌<◌, Option, Some, None}
use Rattle.std.proofs.Common.{ap, sym, ◌∙◌, arith, rules}
use Rattle.grammar.specs.Document.{Element}
use Rattle.grammar.specs.Grammar.{Writes}
use Rattle.grammar.proofs.Laws.Theorems.{parse_iff}
use Rattle.steps.specs.WellFormed.{WellFormed}
use Rattle.nodes.specs.Places.{Stands, the}
use Rattle.nodes.specs.Root.{root}
use Rattle.nodes.proofs.Laws.Root.{root_law}
use Rattle.schema.specs.Faults.{fault_of}
use Rattle.schema.specs.Asked.{Known}
use Rattle.schema.specs.Walked.{Walks}
use Rattle.schema.specs.declared.Walked.{Walked}
use Rattle.schema.specs.declared.Checked.{Checked}
use Rattle.schema.specs.Checked.{Checks, ChecksRoot, DocumentKnown}

module _ {text : List ℕ} {kid : Option ℕ} (e : kid ≡ root text) where
  root_at : {r : ℕ} → kid ≡ Some r → (d : Element) → Writes d text → Stands text r × (the text r ≡ d)
  root_at {r} h d w =
      let t = root_law text d ((parse_iff text d).1 w) in
      let same : Some t.place ≡ Some r = sym t.found ∙ sym e ∙ h in
      let q : t.place ≡ r = cc in
      (rw (← q) t.stands, ap (the text) (sym q) ∙ t.is)

  pub root_kind : {r : ℕ} → kid ≡ Some r → {k : ℕ} → DocumentKnown text k → Known text r k
  root_kind h w = record { stands = (root_at h w.document w.writes).0; known = let u = w.known in omega arith }

  pub root_checked : {r : ℕ} → kid ≡ Some r → {t l : List ℕ} {k : ℕ} {w : Walked} → Walks t l text r k w
      → ChecksRoot t l k text (record { number = w.fault; root = r })
  root_checked h {t} {l} {k} w = record {
    judges = λ d x. let s = root_at h d x in
        record { number_is = w.fault_is ∙ ap (fault_of t l k) s.1; placed = sym e ∙ h; stands = s.0; root_is = s.1 };
  }

  pub root_missing : kid ≡ None → (t l : List ℕ) (k : ℕ) (r : Checked) → ChecksRoot t l k text r
  root_missing h t l k r = record {
    judges = λ d x.
        let s = root_law text d ((parse_iff text d).1 x) in
        let bad : None ≡ Some s.place = sym h ∙ e ∙ s.found in
        absurd (let y : ◌≡◌ {A = ℕ} 0 1 = cc in omega arith);
  }

pub ruleset rooted = (root_kind, root_checked, root_missing, rules)

module _ {text : List ℕ} {b : Bool} (w : WellFormed text b) where
  pub check_written : b ≡ true → {k : ℕ} → k < 4294967296 → DocumentKnown text k
  check_written h u = let (e, x) = w.accepts h in record { document = e; writes = x; known = u }

  pub check_document : b ≡ true → {j k : ℕ} → j ≡ k → {t l : List ℕ} {r : Checked} → ChecksRoot t l j text r → Checks t l k text r
  check_document h q {t} {l} {r} c =
      let (e, x) = w.accepts h in rw (← q) (record { none = λ n. absurd (n e x); some_one = λ d y. c.judges d y })

  pub check_none : b ≡ false → (t l : List ℕ) (k : ℕ) → Checks t l k text (record { number = 3; root = 0 })
  check_none h t l k = record { none = λ _. (refl, refl); some_one = λ d y. absurd (w.refuses h d y) }

pub ruleset checking = (check_written, check_document, check_none, rules)
