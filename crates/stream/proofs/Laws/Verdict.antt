-- The jobs that are left, byte after byte, and at the end whether the text was a document.
use Rattle.std.specs.Prelude.{◌≡◌, refl, List, [], ◌∷◌, ◌++◌, ℕ, ◌≤◌, Bool, true, false, cond, ◌&&◌, length, Some, None}
use Rattle.std.proofs.Common.{ap, sym, ◌∙◌, arith}
use Rattle.std.proofs.Math.Path.{fun_ext}
use Rattle.lists.proofs.Laws.Booleans.{clash}
use Rattle.grammar.specs.Document.{Element}
use Rattle.grammar.specs.Read.{Read, fail, got, bind, all_of}
use Rattle.grammar.specs.Parser.{declaration_at, no_aside, aside_at, prologue_at, element_at, contents_at, document_at, end_at, answer}
use Rattle.grammar.specs.Parser.{parse}
use Rattle.grammar.proofs.Laws.Sound.{declaration_sound, prologue_sound}
use Rattle.grammar.proofs.Laws.SoundElements.{parse_sound}
use Rattle.grammar.proofs.Laws.Complete.{parse_complete}
use Rattle.grammar.specs.Unfuelled.{contents}
use Rattle.grammar.proofs.Laws.Unfuelled.{element_enough, no_more_than}
use Rattle.steps.specs.Prologue.{asides_at, typed_at}
use Rattle.steps.specs.WellFormed.{WellFormed}
use Rattle.stream.specs.Jobs
use Rattle.stream.specs.Jobs.{Job, Change, dead, done, turn, change, idle, Left, put, jobs_on, read_byte, outset, all_idle, idle_left}
use Rattle.stream.specs.Reading.{read_on}
use Rattle.stream.proofs.Laws.Meets.{Passing, leads, meets, meets_all, changed, root, typing, rooted, leads_bind, leads_same, leads_ok}
use Rattle.stream.proofs.Laws.Leaves
use Rattle.stream.proofs.Laws.References
use Rattle.stream.proofs.Laws.Remarks
use Rattle.stream.proofs.Laws.Values
use Rattle.stream.proofs.Laws.Tags
use Rattle.stream.proofs.Laws.Contents
use Rattle.stream.proofs.Laws.Round
use Rattle.stream.proofs.Laws.Declaration
use Rattle.stream.proofs.Laws.Ends.{end_law}

-- ONE LAW FOR ALL JOBS
pub law : (j : Job) (k : Passing) (a : ℕ) (s : List ℕ) → meets j k (a ∷ s) ≡ changed (change j a) k a s
unfolding change meets changed
law (Jobs.fixed []) k a s = Leaves.no_word k (a ∷ s)
law (Jobs.fixed (b ∷ w)) k a s = Leaves.word_law b w k a s
law Jobs.blanks k a s = Leaves.blanks_law k a s
law Jobs.some_blanks k a s = Leaves.some_blanks_law k a s
law Jobs.tail k a s = Leaves.tail_law k a s
law (Jobs.second_of_three b) k a s = Leaves.second_law b k a s
law (Jobs.third_of_three b c) k a s = Leaves.third_law b c k a s
law (Jobs.second_of_four b) k a s = Leaves.fourth_law b k a s
law Jobs.ampersand k a s = References.ampersand_law k s a
law Jobs.ampersand_a k a s = References.ampersand_a_law k a s
law Jobs.remarks k a s = Remarks.remarks_law k a s
law Jobs.remarks_dash k a s = Remarks.remarks_dash_law k a s
law Jobs.raw k a s = Remarks.raw_law k a s
law Jobs.raw_bracket k a s = Remarks.raw_bracket_law k a s
law Jobs.raw_brackets k a s = Remarks.raw_brackets_law k a s
law Jobs.skipping k a s = Remarks.skipping_law k a s
law Jobs.quoted k a s = Values.quoted_law k a s
law (Jobs.valuing b) k a s = Values.valuing_law b k a s
law (Jobs.naming d n) k a s = Tags.naming_law d n k a s
law (Jobs.tagging d n l) k a s = Tags.tagging_law d n l k a s
law (Jobs.gapped d n l) k a s = Tags.gapped_law d n l k a s
law (Jobs.keying d n l m) k a s = Tags.keying_law d n l m k a s
law (Jobs.enclosing d n) k a s = Contents.enclosing_law d n k a s
law (Jobs.bracket d n) k a s = Contents.bracket_law d n k a s
law (Jobs.brackets d n) k a s = Contents.brackets_law d n k a s
law (Jobs.angle d n) k a s = Contents.angle_law d n k a s
law (Jobs.angle_mark d n) k a s = Contents.angle_mark_law d n k a s
law Jobs.trailing k a s = Round.trailing_law k a s
law (Jobs.prologue t) k a s = Round.prologue_law k t a s
law (Jobs.prologue_angle t) k a s = Round.prologue_angle_law k t a s
law (Jobs.prologue_mark t) k a s = Round.prologue_mark_law k t a s
law Jobs.starting k a s = Declaration.starting_law k a s
law Jobs.starting_angle k a s = Declaration.starting_angle_law k a s
law (Jobs.saying v) k a s = Declaration.saying_law v k a s
law Jobs.versioned k a s = Declaration.versioned_law k a s
law Jobs.versioned_blank k a s = Declaration.versioned_blank_law k a s

-- WHAT IS LEFT, AND THE REST OF THE TEXT
no_bytes : Passing
no_bytes [] = true
no_bytes (a ∷ s) = false

-- the rest of the text is what is left
pub suits : Left → Passing
suits None s = false
suits (Some l) s = meets_all l no_bytes s

meets_append : (m l : List Job) (k : Passing) (s : List ℕ) → meets_all (m ++ l) k s ≡ meets_all m (meets_all l k) s
unfolding meets_all
meets_append [] l k s = refl
meets_append (j ∷ m) l k s = ap (λ f. meets j f s) (fun_ext (meets_append m l k))

jobs_law : (l : List Job) (a : ℕ) (s : List ℕ) → meets_all l no_bytes (a ∷ s) ≡ suits (jobs_on l a) s
unfolding meets_all no_bytes suits jobs_on put changed
jobs_law [] a s = refl
jobs_law (j ∷ l) a s = law j (meets_all l no_bytes) a s ∙ go (change j a) (jobs_on l a) (jobs_law l a s)
  where
    go : (m : Change) (x : Left) → meets_all l no_bytes (a ∷ s) ≡ suits x s → changed m (meets_all l no_bytes) a s ≡ suits (put m l x) s
    go dead x h = refl
    go done x h = h
    go (turn m) x h = sym (meets_append m l no_bytes s)

byte_law : (x : Left) (a : ℕ) (s : List ℕ) → suits x (a ∷ s) ≡ suits (read_byte x a) s
unfolding suits read_byte
byte_law None a s = refl
byte_law (Some l) a s = jobs_law l a s

idle_law : (l : List Job) → meets_all l no_bytes [] ≡ all_idle l
unfolding meets_all no_bytes all_idle
idle_law [] = refl
idle_law (j ∷ l) = end_law (meets_all l no_bytes) j ∙ go (idle j) (idle_law l)
  where
    go : (t : Bool) → meets_all l no_bytes [] ≡ all_idle l → cond t (meets_all l no_bytes []) false ≡ (t && all_idle l)
    go true h = h
    go false h = refl

end_here : (x : Left) → suits x [] ≡ idle_left x
unfolding suits idle_left
end_here None = refl
end_here (Some l) = idle_law l

pub suits_law : (x : Left) (s : List ℕ) → suits x s ≡ idle_left (read_on x s)
unfolding read_on
suits_law x [] = end_here x
suits_law x (a ∷ s) = byte_law x a s ∙ suits_law (read_byte x a) s

-- THE DOCUMENT
accepted : List ℕ → Bool
accepted s = leads (document_at (length s) s) (λ _ _. true)

accepted_so : (s : List ℕ) → WellFormed s (accepted s)
unfolding accepted leads parse answer
accepted_so s = go (document_at (length s) s) refl
  where
    go : (m : Read Element) → document_at (length s) s ≡ m → WellFormed s (leads m (λ _ _. true))
    go fail h = record {
      accepts = λ e. clash (cc);
      refuses = λ _ e w.
          let p = parse_complete w in
          let q : parse s ≡ None = rw h in
          clash (cc);
    }
    go (got e r) h = record { accepts = λ _. (e, parse_sound s e (rw h)); refuses = λ q. clash (cc) }

last_end : (s : List ℕ) → leads (end_at s) (λ _ r. no_bytes r) ≡ leads (end_at s) (λ _ _. true)
unfolding end_at leads no_bytes
last_end [] = refl
last_end (a ∷ s) = refl

prologue_jobs : (k : Passing) (s : List ℕ) → leads (prologue_at s) (λ _ r. root k r) ≡ rooted true k s
unfolding prologue_at rooted typing asides_at typed_at
prologue_jobs k s = leads_bind (all_of no_aside aside_at s) _ _

outset_law : (s : List ℕ) → suits outset s ≡ accepted s
unfolding suits outset meets_all meets accepted document_at asides_at leads root
outset_law s = sym (
    leads_bind (declaration_at s) _ _ ∙ leads_ok _ _ (no_more_than (declaration_sound s)) λ _ r₁ h₁.
    leads_bind (prologue_at r₁) _ _
    ∙ leads_ok _ _ (no_more_than (prologue_sound r₁)) (λ _ r₂ h₂.
    let fits : length r₂ ≤ length s = omega arith in
    leads_bind (element_at (contents_at (length s)) 16 r₂) _ _
    ∙ ap (λ m. leads m (λ e r. leads (bind (all_of no_aside aside_at r) (λ _ r₁. bind (end_at r₁) (λ _ r₂. got e r₂))) (λ _ _. true)))
    (element_enough (length s) 16 r₂ fits)
    ∙ leads_same (element_at contents 16 r₂) _ _ λ e r₃.
    leads_bind (all_of no_aside aside_at r₃) _ _ ∙ leads_same (all_of no_aside aside_at r₃) _ _ λ _ r₄.
    leads_bind (end_at r₄) _ _ ∙ sym (last_end r₄))
    ∙ prologue_jobs (meets Jobs.trailing no_bytes) r₁)

-- the whole text at once
pub whole_so : (s : List ℕ) → WellFormed s (idle_left (read_on outset s))
whole_so s =
    let same : idle_left (read_on outset s) ≡ accepted s = sym (suits_law outset s) ∙ outset_law s in
    rw same (accepted_so s)
