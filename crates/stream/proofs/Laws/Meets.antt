-- WHAT A JOB IS: `meets j k s` says that the job `j` can be done at the front of `s`, and that `k` passes what is left. Each job is one of
-- the grammar's readers, or the rest of one where its first bytes are gone. Values are not looked at: `leads` makes a yes or a no of a
-- reader.
use Rattle.std.specs.Prelude.{◌≡◌, refl, List, [], ◌∷◌, ◌++◌, ℕ, Bool, true, false, cond, ◌&&◌, not, leb, length}
use Rattle.std.proofs.Common.{ap}
use Rattle.grammar.specs.Bytes.{ascii, blank, name_byte}
use Rattle.grammar.specs.Characters.{lead3, lead4, continues, noncharacter}
use Rattle.grammar.specs.Document.{Attribute, attribute}
use Rattle.grammar.specs.Read.{Read, fail, got, bind, test, alt, mark, byte, span, all_of}
use Rattle.grammar.proofs.Laws.Read.{Ok, failed, good, alt_fail}
use Rattle.grammar.specs.Parser.{name_at, equals_at, value_at, reference_at, ends, closing, attribute_at_lem, end_at, gap_at, asking}
use Rattle.grammar.specs.Parser.{declaration_at, element_at}
use Rattle.grammar.specs.Unfuelled.{contents}
use Rattle.steps.specs.Leaves.{value_rest_at, comment_rest_at, data_rest_at, doctype_rest_at}
use Rattle.steps.specs.Tags.{close_at}
use Rattle.steps.specs.Prologue.{asides_at, typed_at, quoted_at, encoding_at}
use Rattle.stream.specs.Jobs
use Rattle.stream.specs.Jobs.{Job, Change, dead, done, turn, quote_of, admits}

-- a text passes, or does not
abbrev pub Passing : Type 0
Passing = List ℕ → Bool

-- something was read, and what follows passes
unfoldable pub leads : {A : Type 0} → Read A → (A → List ℕ → Bool) → Bool
leads fail f = false
leads (got a r) f = f a r

-- the same, or else `x`
unfoldable pub otherwise : {A : Type 0} → Read A → Passing → Bool → Bool
otherwise fail k x = x
otherwise (got a r) k x = k r

-- attributes behind those of the names `l`
unfoldable pub admits_all : List (List ℕ) → List Attribute → Bool
admits_all l [] = true
admits_all l (attribute m v ∷ x) = admits l m && admits_all (m ∷ l) x

-- contents and the end tag
unfoldable pub enclosed : ℕ → List ℕ → Passing → Passing
enclosed d n k s = leads (contents d s) (λ _ r. leads (close_at n r) (λ _ r₁. k r₁))

-- `>` and contents, or `/>`
unfoldable pub tag_end_lem : ℕ → List ℕ → Passing → Passing
tag_end_lem d n k s = otherwise (mark (ascii "/>") s) k (leads (mark (ascii ">") s) (λ _ r. enclosed d n k r))

unfoldable pub finishing : ℕ → List ℕ → Passing → Passing
finishing d n k s = leads (span blank s) (λ _ r. tag_end_lem d n k r)

unfoldable pub attributed : ℕ → List ℕ → List (List ℕ) → Passing → Passing
attributed d n l k s = leads (all_of (ends closing) attribute_at_lem s) (λ x r. cond (admits_all l x) (finishing d n k r) false)

-- an attribute behind its name, and what follows it
unfoldable pub key_valued : ℕ → List ℕ → List (List ℕ) → List ℕ → Passing → Passing
key_valued d n l m k s =
    leads (equals_at s) (λ _ r. leads (value_at r) (λ _ r₁. cond (admits l m) (attributed d n (m ∷ l) k r₁) false))

unfoldable pub key_named : ℕ → List ℕ → List (List ℕ) → Passing → Passing
key_named d n l k s = leads (name_at s) (λ m r. key_valued d n l m k r)

-- the root
unfoldable pub root : Passing → Passing
root k s = leads (element_at contents 16 s) (λ _ r. k r)

-- a DOCTYPE and what stands behind it, if one may come, and the root
unfoldable pub typing : Bool → Passing → Passing
typing true k s = leads (typed_at s) (λ _ r. root k r)
typing false k s = root k s

-- blanks and comments, and then all this
unfoldable pub rooted : Bool → Passing → Passing
rooted t k s = leads (asides_at s) (λ _ r. typing t k r)

-- blanks and `?>`
unfoldable pub asking_end : Passing → Passing
asking_end k s = leads (span blank s) (λ _ r. leads (mark (ascii "?>") r) (λ _ r₁. k r₁))

-- the encoding, and the end of the declaration
unfoldable pub encoded : Passing → Passing
encoded k s =
    leads (mark (ascii "encoding") s) (λ _ r.
    leads (equals_at r) (λ _ r₁. leads (quoted_at (ascii "UTF-8") r₁) (λ _ r₂. asking_end k r₂)))

unfoldable pub meets : Job → Passing → Passing
meets (Jobs.fixed w) k s = leads (mark w s) (λ _ r. k r)
meets Jobs.blanks k s = leads (span blank s) (λ _ r. k r)
meets Jobs.some_blanks k s = leads (gap_at s) (λ _ r. k r)
meets Jobs.tail k s = leads (byte continues s) (λ _ r. k r)
meets (Jobs.second_of_three a) k s =
    leads (byte (lead3 a) s) (λ b r. leads (byte continues r) (λ c r₁. cond (not (noncharacter a b c)) (k r₁) false))
meets (Jobs.third_of_three a b) k s = leads (byte continues s) (λ c r. cond (not (noncharacter a b c)) (k r) false)
meets (Jobs.second_of_four a) k s =
    leads (byte (lead4 a) s) (λ b r. leads (byte continues r) (λ c r₁. leads (byte continues r₁) (λ d r₂. k r₂)))
meets Jobs.ampersand k s = leads (reference_at (38 ∷ s)) (λ _ r. k r)
meets Jobs.ampersand_a k s = leads (reference_at (38 ∷ 97 ∷ s)) (λ _ r. k r)
meets Jobs.remarks k s = leads (comment_rest_at s) (λ _ r. k r)
meets Jobs.remarks_dash k s = leads (comment_rest_at (45 ∷ s)) (λ _ r. k r)
meets Jobs.raw k s = leads (data_rest_at s) (λ _ r. k r)
meets Jobs.raw_bracket k s = leads (data_rest_at (93 ∷ s)) (λ _ r. k r)
meets Jobs.raw_brackets k s = leads (data_rest_at (93 ∷ 93 ∷ s)) (λ _ r. k r)
meets Jobs.skipping k s = leads (doctype_rest_at s) (λ _ r. k r)
meets Jobs.quoted k s = leads (value_at s) (λ _ r. k r)
meets (Jobs.valuing b) k s = leads (value_rest_at (quote_of b) s) (λ _ r. k r)
meets (Jobs.naming d n) k s =
    leads (span name_byte s) (λ w r. cond (leb (length (n ++ w)) 64) (attributed d (n ++ w) [] k r) false)
meets (Jobs.tagging d n l) k s = attributed d n l k s
meets (Jobs.gapped d n l) k s = cond (ends closing s) (finishing d n k s) (leads (span blank s) (λ _ r. key_named d n l k r))
meets (Jobs.keying d n l m) k s =
    leads (span name_byte s) (λ w r. cond (leb (length (m ++ w)) 64) (key_valued d n l (m ++ w) k r) false)
meets (Jobs.enclosing d n) k s = enclosed d n k s
meets (Jobs.bracket d n) k s = enclosed d n k (93 ∷ s)
meets (Jobs.brackets d n) k s = enclosed d n k (93 ∷ 93 ∷ s)
meets (Jobs.angle d n) k s = enclosed d n k (60 ∷ s)
meets (Jobs.angle_mark d n) k s = enclosed d n k (60 ∷ 33 ∷ s)
meets Jobs.trailing k s = leads (asides_at s) (λ _ r. leads (end_at r) (λ _ r₁. k r₁))
meets (Jobs.prologue t) k s = rooted t k s
meets (Jobs.prologue_angle t) k s = rooted t k (60 ∷ s)
meets (Jobs.prologue_mark t) k s = rooted t k (60 ∷ 33 ∷ s)
meets Jobs.starting k s = leads (declaration_at s) (λ _ r. rooted true k r)
meets Jobs.starting_angle k s = leads (declaration_at (60 ∷ s)) (λ _ r. rooted true k r)
meets (Jobs.saying v) k s = leads (quoted_at v s) (λ _ r. k r)
meets Jobs.versioned k s = leads (encoding_at s) (λ _ r. asking_end k r)
meets Jobs.versioned_blank k s = cond (ends asking s) (asking_end k s) (leads (span blank s) (λ _ r. encoded k r))

unfoldable pub meets_all : List Job → Passing → Passing
meets_all [] k s = k s
meets_all (j ∷ l) k s = meets j (meets_all l k) s

-- what a change means, before the byte `a` and the text behind it
unfoldable pub changed : Change → Passing → ℕ → Passing
changed dead k a s = false
changed done k a s = k (a ∷ s)
changed (turn l) k a s = meets_all l k s

-- READERS, ONE AFTER ANOTHER
pub leads_bind : {A B : Type 0} (m : Read A) (f : A → List ℕ → Read B) (g : B → List ℕ → Bool)
    → leads (bind m f) g ≡ leads m (λ a r. leads (f a r) g)
unfolding leads bind
leads_bind fail f g = refl
leads_bind (got a r) f g = refl

pub leads_same : {A : Type 0} (m : Read A) (f g : A → List ℕ → Bool) → ((a : A) (r : List ℕ) → f a r ≡ g a r) → leads m f ≡ leads m g
unfolding leads
leads_same fail f g h = refl
leads_same (got a r) f g h = h a r

pub leads_never : {A : Type 0} (m : Read A) (f : A → List ℕ → Bool) → ((a : A) (r : List ℕ) → f a r ≡ false) → leads m f ≡ false
unfolding leads
leads_never fail f h = refl
leads_never (got a r) f h = h a r

-- the value does not matter
pub leads_value : {A B : Type 0} (m : Read A) (f : A → B) (k : Passing)
    → leads (bind m (λ a r. got (f a) r)) (λ _ r. k r) ≡ leads m (λ _ r. k r)
unfolding leads bind
leads_value fail f k = refl
leads_value (got a r) f k = refl

pub leads_test : (t : Bool) (s : List ℕ) (f : Unit {0} → List ℕ → Bool) → leads (test t s) f ≡ cond t (f tt s) false
unfolding leads test
leads_test true s f = refl
leads_test false s f = refl

pub leads_fail : {A : Type 0} (m : Read A) (f : A → List ℕ → Bool) → m ≡ fail → leads m f ≡ false
unfolding leads
leads_fail m f e = rw e

pub leads_got : {A : Type 0} (m : Read A) (f : A → List ℕ → Bool) {a : A} {r : List ℕ} → m ≡ got a r → leads m f ≡ f a r
unfolding leads
leads_got m f e = rw e

-- the first of two readers, the second of them, or either
pub leads_first : {A : Type 0} (m n : Read A) (f : A → List ℕ → Bool) → n ≡ fail → leads (alt m n) f ≡ leads m f
leads_first m n f e = ap (λ x. leads x f) (alt_fail m e)

pub alt_second : {A : Type 0} (m n : Read A) → m ≡ fail → alt m n ≡ n
unfolding alt
alt_second m n e = rw e

pub leads_alt : {A B : Type 0} (m : Read A) (f : A → B) (n : Read B) (k : Passing)
    → leads (alt (bind m (λ a r. got (f a) r)) n) (λ _ r. k r) ≡ otherwise m k (leads n (λ _ r. k r))
unfolding leads alt bind otherwise
leads_alt fail f n k = refl
leads_alt (got a r) f n k = refl

-- a condition that what is read has no part in
pub cond_leads : {A : Type 0} (t : Bool) (m : Read A) (f : A → List ℕ → Bool)
    → leads m (λ a r. cond t (f a r) false) ≡ cond t (leads m f) false
cond_leads true m f = refl
cond_leads false m f = leads_never m (λ a r. false) λ a r. refl

pub cond_and : (t u : Bool) (x : Bool) → cond (t && u) x false ≡ cond t (cond u x false) false
cond_and true u x = refl
cond_and false u x = refl

-- what follows needs to agree only on what can be read
pub leads_ok : {A : Type 0} {Q : A → List ℕ → Type 0} {m : Read A} (f g : A → List ℕ → Bool) → Ok Q m
    → ((a : A) (r : List ℕ) → Q a r → f a r ≡ g a r) → leads m f ≡ leads m g
unfolding leads
leads_ok f g failed h = refl
leads_ok f g (good {a} {r} q) h = h a r q

-- a change by a test
pub by_test : (t : Bool) {x : Bool} (c d : Change) (k : Passing) (a : ℕ) (s : List ℕ) → (t ≡ true → x ≡ changed c k a s)
    → (t ≡ false → x ≡ changed d k a s) → x ≡ changed (cond t c d) k a s
by_test true c d k a s f g = f refl
by_test false c d k a s f g = g refl
