-- What is proved of Arrays.
use Rattle.std.specs.Prelude.{◌≡◌, refl, List, [], ◌∷◌, Bool, true, false, ◌&&◌, ◌||◌, ℕ, ◌<◌, Option, Some, None}
use Rattle.std.proofs.Math.Path.{sym}
use Rattle.std.proofs.Common.{ap, ◌∙◌, rules}
use Rattle.std.proofs.Math.Bool.{not}
use borrow.Author.Tests.{not-true, not-false}
use Rattle.lists.specs.Lists.{all, any}
use Rattle.grammar.specs.Bytes.{ascii}
use Rattle.grammar.specs.Document.{Element}
use Rattle.grammar.specs.Parser.{same_bytes}
use Rattle.grammar.specs.Look.{is, name_of, has}
use Rattle.nodes.specs.Places.{Stands, the}
use Rattle.nodes.specs.Children.{first_child, next}
use Rattle.nodes.proofs.Laws.Children.{left}
use Rattle.nodes.specs.Names.{named}
use Rattle.nodes.proofs.Laws.Names.{name_is_law}
use Rattle.nodes.specs.Found.{value_at_name}
use Rattle.nodes.proofs.Laws.Found.{has_law}
use Rattle.maps.proofs.Laws.Unread.{Seeking, seek_start, seek_done, seek_stands, seek_less, seek_other, seek_found, seek_missed}
use Rattle.gifti.specs.Arrays.{arrays_of}
use Rattle.gifti.specs.Conditions.{root_wrong, encoding_read, array_read, array_not_read}
use Rattle.gifti_opening.specs.Arrays.{unread}

-- ---- Condition 4.

module _ {text : List ℕ} {at : ℕ} (st : Stands text at) {b : Bool} (nm : b ≡ named text at (ascii "GIFTI")) where
  root_name : b ≡ is "GIFTI" (name_of (the text at))
  root_name = nm ∙ name_is_law "GIFTI" st

  pub root_other : b ≡ false → true ≡ root_wrong (the text at)
  unfolding root_wrong
  root_other f = rw (sym root_name ∙ f)

  pub root_version : b ≡ true → {c : Bool} → c ≡ same_bytes (value_at_name text at (ascii "Version")) (ascii "1.0")
      → not c ≡ root_wrong (the text at)
  unfolding root_wrong
  root_version t p = rw (sym root_name ∙ t) (ap not (p ∙ has_law "Version" "1.0" st))

pub ruleset rooting = (root_other, root_version, rules)

module _ {text : List ℕ} {at : ℕ} (st : Stands text at) where
  module _ {b : Bool} (p : b ≡ same_bytes (value_at_name text at (ascii "Encoding")) (ascii "ASCII")) where
    pub read_plain : b ≡ true → true ≡ encoding_read (the text at)
    unfolding encoding_read
    read_plain t = rw (sym (has_law "Encoding" "ASCII" st) ∙ sym p ∙ t)

    pub read_coded : b ≡ false → {c : Bool} → c ≡ same_bytes (value_at_name text at (ascii "Encoding")) (ascii "Base64Binary")
        → c ≡ encoding_read (the text at)
    unfolding encoding_read
    read_coded f q = rw (sym (has_law "Encoding" "ASCII" st) ∙ sym p ∙ f) (q ∙ has_law "Encoding" "Base64Binary" st)

  module _ {b : Bool} (p : b ≡ encoding_read (the text at)) where
    pub unread_encoding : not b ≡ true → true ≡ unread (the text at)
    unfolding unread array_read
    unread_encoding h = rw (sym p ∙ not-true b h)

    module _ (h : not b ≡ false) {c : Bool} (q : c ≡ same_bytes (value_at_name text at (ascii "Intent")) (ascii "NIFTI_INTENT_LABEL")) where
      intent : has "Intent" "NIFTI_INTENT_LABEL" (the text at) ≡ c
      intent = sym (has_law "Intent" "NIFTI_INTENT_LABEL" st) ∙ sym q

      pub unread_intent : not c ≡ true → true ≡ unread (the text at)
      unfolding unread array_read
      unread_intent k = rw (sym p ∙ not-false b h, intent ∙ not-true c k)

      pub unread_type : not c ≡ false → {d : Bool} → d ≡ same_bytes (value_at_name text at (ascii "DataType")) (ascii "NIFTI_TYPE_INT32")
          → not d ≡ unread (the text at)
      unfolding unread array_read
      unread_type k r = rw (sym p ∙ not-false b h, intent ∙ not-false c k) (ap not (r ∙ has_law "DataType" "NIFTI_TYPE_INT32" st))

pub ruleset reading = (read_plain, read_coded, unread_encoding, unread_intent, unread_type, rules)

-- ---- Of the root: a loop over its children.

some_unread : (l : List Element) → any unread l ≡ not (all array_read l)
unfolding any all unread
some_unread [] = refl
some_unread (a ∷ l) = go (array_read a) (some_unread l)
  where
    go : (b : Bool) → any unread l ≡ not (all array_read l) → (not b || any unread l) ≡ not (b && all array_read l)
    go true h = h
    go false h = refl

abbrev pub Reading : List ℕ → ℕ → Option ℕ → Type 0
Reading text at kid = Seeking "DataArray" unread text at kid

of_root : (e : Element) {b : Bool} → b ≡ any unread (arrays_of e) → b ≡ array_not_read e
unfolding array_not_read
of_root e h = h ∙ some_unread (arrays_of e)

pub reading_start : {text : List ℕ} {at : ℕ} → Stands text at → {kid : Option ℕ} → kid ≡ first_child text at → Reading text at kid
reading_start st e = seek_start _ _ st e

module _ {text : List ℕ} {at : ℕ} {kid : Option ℕ} (go : Reading text at kid) where
  pub reading_done : kid ≡ None → false ≡ array_not_read (the text at)
  unfolding arrays_of
  reading_done e = of_root (the text at) (seek_done _ _ go e)

  module _ {k : ℕ} (is_child : kid ≡ Some k) where
    pub reading_stands : Stands text k
    reading_stands = seek_stands _ _ go is_child

    pub reading_less : {kid₁ : Option ℕ} → kid₁ ≡ next text k → left text kid₁ < left text kid
    reading_less e = seek_less _ _ go is_child e

    module _ {b : Bool} (nm : b ≡ named text k (ascii "DataArray")) where
      pub reading_other : b ≡ false → {kid₁ : Option ℕ} → kid₁ ≡ next text k → Reading text at kid₁
      reading_other f e = seek_other _ _ go is_child nm f e

      module _ (t : b ≡ true) {c : Bool} (q : c ≡ unread (the text k)) where
        pub reading_found : c ≡ true → true ≡ array_not_read (the text at)
        unfolding arrays_of
        reading_found r = of_root (the text at) (seek_found _ _ go is_child nm t q r)

        pub reading_read : c ≡ false → {kid₁ : Option ℕ} → kid₁ ≡ next text k → Reading text at kid₁
        reading_read r e = seek_missed _ _ go is_child nm t q r e

pub ruleset reading_arrays = (
  reading_start,
  reading_done,
  reading_stands,
  reading_less,
  reading_other,
  reading_found,
  reading_read,
  rules,
)
