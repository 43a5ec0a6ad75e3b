-- WHAT STAYS where models are in another order, or where some children are changed.
use Rattle.std.specs.Prelude.{◌≡◌, Bool, not}
use Rattle.std.proofs.Math.Path.{refl, sym, ap}
use Rattle.std.proofs.Common.{◌∙◌, true≢false}
use mathlib.Core.List.{List, [], ◌∷◌, ◌++◌}
use Rattle.std.proofs.Math.Bool.{true, false, cond}
use Prim.Native.String.{String}
use Rattle.lists.specs.Lists.{those, each}
use Rattle.lists.specs.Permuted.{Permuted, then}
use Rattle.lists.proofs.Laws.Permuted.{parted, append_both, permuted_refl, permuted_turned}
use Rattle.grammar.specs.Bytes.{ascii, same_bytes}
use Rattle.grammar.specs.Document.{Element, Contents, nothing, child, run}
use Rattle.grammar.specs.Look.{is, name_of, attributes_of, contents_of, attr, has, elements, characters, children}
use Rattle.grammar.proofs.Laws.Tokens.{same_equal}
use Rattle.order.specs.Resorted.{is_brain_model, blank_model, models_blank, Resorted, ContentsChanged, contents_changed, ChildrenChanged}
use Rattle.order.specs.Resorted.{nothing_more, run_kept, child_kept, child_changed, MapReordered}
use Rattle.order.proofs.Laws.Beside.{Beside, no_more, kept_one, changed_one, those_beside}

-- ---- An element with other contents.

module _ {R : Contents → Contents → Type 0} where
  pub name_same : {e f : Element} → ContentsChanged R e f → name_of e ≡ name_of f
  unfolding name_of
  name_same (contents_changed r) = refl

  pub attributes_same : {e f : Element} → ContentsChanged R e f → attributes_of e ≡ attributes_of f
  unfolding attributes_of
  attributes_same (contents_changed r) = refl

  pub attr_same : (s : String) {e f : Element} → ContentsChanged R e f → attr s e ≡ attr s f
  unfolding attr
  attr_same s h = rw (attributes_same h) refl

  pub has_same : (s w : String) {e f : Element} → ContentsChanged R e f → has s w e ≡ has s w f
  unfolding has
  has_same s w h = rw (attr_same s h) refl

-- ---- Contents in which some children are changed.

module _ {R : Element → Element → Type 0} where
  pub elements_beside : {c d : Contents} → ChildrenChanged R c d → Beside R (elements c) (elements d)
  unfolding elements
  elements_beside nothing_more = no_more
  elements_beside (run_kept i) = elements_beside i
  elements_beside (child_kept i) = kept_one (elements_beside i)
  elements_beside (child_changed r i) = changed_one r (elements_beside i)

  pub characters_beside : {c d : Contents} → ChildrenChanged R c d → characters c ≡ characters d
  unfolding characters
  characters_beside nothing_more = refl
  characters_beside (run_kept {w} i) = ap (λ l. w ++ l) (characters_beside i)
  characters_beside (child_kept i) = characters_beside i
  characters_beside (child_changed r i) = characters_beside i

pub children_beside : {R : Contents → Contents → Type 0} (s : String) {e f : Element}
    → ContentsChanged (ChildrenChanged (ContentsChanged R)) e f
    → Beside (ContentsChanged R) (children s e) (children s f)
unfolding children contents_of
children_beside s (contents_changed i) = those_beside (λ e. is s (name_of e)) (λ e f r. ap (is s) (name_same r)) (elements_beside i)

-- ---- Contents with their models in another order.

characters_blank : (c : Contents) → characters (models_blank c) ≡ characters c
unfolding characters models_blank
characters_blank nothing = refl
characters_blank (child e c) = characters_blank c
characters_blank (run w c) = ap (λ l. w ++ l) (characters_blank c)

blanked : Element → Element
blanked e = cond (is_brain_model e) blank_model e

elements_blank : (c : Contents) → elements (models_blank c) ≡ each blanked (elements c)
unfolding elements models_blank each blanked
elements_blank nothing = refl
elements_blank (child e c) = ap (λ l. cond (is_brain_model e) blank_model e ∷ l) (elements_blank c)
elements_blank (run w c) = elements_blank c

pub blank_is : is_brain_model blank_model ≡ true
unfolding is_brain_model is same_bytes name_of
blank_is = refl

is_other : Element → Bool
is_other e = not (is_brain_model e)

others_blank : (l : List Element) → those is_other (each blanked l) ≡ those is_other l
unfolding those each blanked is_other
others_blank [] = refl
others_blank (e ∷ l) = go (is_brain_model e) refl (others_blank l)
  where
    go : (b : Bool) → is_brain_model e ≡ b → those is_other (each blanked l) ≡ those is_other l
        → cond (not (is_brain_model (cond b blank_model e))) (cond b blank_model e ∷ those is_other (each blanked l))
        (those is_other (each blanked l)) ≡ cond (not b) (e ∷ those is_other l) (those is_other l)
    go true h k = rw blank_is k
    go false h k = rw h (ap (λ m. e ∷ m) k)

module _ {c d : Contents} (r : Resorted c d) where
  pub characters_stay : characters c ≡ characters d
  characters_stay = sym (characters_blank c) ∙ ap characters r.stays ∙ characters_blank d

  others_stay : those is_other (elements c) ≡ those is_other (elements d)
  others_stay = sym (others_blank (elements c))
      ∙ ap (those is_other) (sym (elements_blank c) ∙ ap elements r.stays ∙ elements_blank d)
      ∙ others_blank (elements d)

  pub elements_permuted : Permuted (elements c) (elements d)
  unfolding is_other
  elements_permuted =
      let stay : Permuted (those is_other (elements c)) (those is_other (elements d)) = rw others_stay (permuted_refl _) in
      then (parted is_brain_model (elements c)) (then (append_both r.moved stay) (permuted_turned (parted is_brain_model (elements d))))

-- the children of another name, in order
module _ (s : String) (apart : (e : Element) → is s (name_of e) ≡ true → is_brain_model e ≡ false) where
  among_others : (l : List Element) → those (λ e. is s (name_of e)) l ≡ those (λ e. is s (name_of e)) (those is_other l)
  unfolding those is_other
  among_others [] = refl
  among_others (e ∷ l) = go (is s (name_of e)) refl (is_brain_model e) refl (among_others l)
    where
      go : (a : Bool) → is s (name_of e) ≡ a → (b : Bool) → is_brain_model e ≡ b
          → those (λ e. is s (name_of e)) l ≡ those (λ e. is s (name_of e)) (those is_other l)
          → cond a (e ∷ those (λ e. is s (name_of e)) l) (those (λ e. is s (name_of e)) l)
          ≡ those (λ e. is s (name_of e)) (cond (not b) (e ∷ those is_other l) (those is_other l))
      go true h true k q = absurd (true≢false (sym k ∙ apart e h))
      go true h false k q = rw h (ap (λ m. e ∷ m) q)
      go false h true k q = q
      go false h false k q = rw h q

  children_stay : {e f : Element} → MapReordered e f → children s e ≡ children s f
  unfolding children contents_of
  children_stay (contents_changed {c = c} {d} r) =
      among_others (elements c) ∙ ap (those (λ e. is s (name_of e))) (others_stay r) ∙ sym (among_others (elements d))

apart_volume : (e : Element) → is "Volume" (name_of e) ≡ true → is_brain_model e ≡ false
unfolding is is_brain_model same_bytes
apart_volume e h = rw (same_equal (name_of e) (ascii "Volume") h) refl

apart_named : (e : Element) → is "NamedMap" (name_of e) ≡ true → is_brain_model e ≡ false
unfolding is is_brain_model same_bytes
apart_named e h = rw (same_equal (name_of e) (ascii "NamedMap") h) refl

pub volumes_stay : {e f : Element} → MapReordered e f → children "Volume" e ≡ children "Volume" f
volumes_stay h = children_stay "Volume" apart_volume h

pub names_stay : {e f : Element} → MapReordered e f → children "NamedMap" e ≡ children "NamedMap" f
names_stay h = children_stay "NamedMap" apart_named h
