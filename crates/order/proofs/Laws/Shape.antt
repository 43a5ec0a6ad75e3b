-- CONDITIONS 6 AND 7 DO NOT SEE THE ORDER of models: no row of CIFTI asks for an order.
use Rattle.std.specs.Prelude.{◌≡◌, Bool, true, false, ◌&&◌, ◌||◌, ℕ, length, Option, Some, None}
use Rattle.std.proofs.Math.Path.{refl, sym, ap, ap₂}
use Rattle.std.proofs.Common.{◌∙◌}
use mathlib.Core.List.{List, [], ◌∷◌}
use Rattle.std.proofs.Math.Bool.{not}
use Rattle.std.proofs.lemmas.Bool.{false≢true}
use Prim.Native.String.{String}
use Rattle.lists.specs.Lists.{all, any, count, is_some, if_there}
use Rattle.lists.proofs.Laws.Lists.{all_same}
use Rattle.lists.proofs.Laws.Permuted.{any_permuted, all_permuted, count_permuted, length_permuted}
use Rattle.grammar.specs.Document.{Attribute, Element, element, Contents}
use Rattle.grammar.specs.Look.{is, name_of, attributes_of, contents_of, elements, characters}
use Rattle.schema.specs.Schema.{Times, once, at_most_once, any_times, at_least_once, needed_below, Which, always, chosen, chosen_else, ChildRow}
use Rattle.schema.specs.Schema.{child, any_order, in_order, Row, branch, leaf, kind_by, kind_of, child_rows, everywhere, below, stands_so}
use Rattle.schema.specs.Schema.{child_shaped, orderly, children_shaped, shaped, numbered}
use Rattle.schema.specs.Walk.{at_child}
use Rattle.schema.proofs.Laws.WalkStep.{walk_step}
use Rattle.schema.proofs.Laws.Everywhere.{called, below_children}
use Rattle.cifti.specs.Rows.{ElementKind, cifti, matrix, meta_data, md, text_leaf, brain_models, series, scalars, named_map, volume, transform}
use Rattle.cifti.specs.Rows.{surface, voxels, vertex_indices, voxel_indices, labels, labelled_map, label_table, label, rows}
use Rattle.cifti.specs.Conditions.{shape_wrong, number_wrong}
use Rattle.order.specs.Resorted.{Resorted, ContentsChanged, contents_changed, ChildrenChanged, MapReordered, MatrixReordered}
use Rattle.order.specs.Resorted.{ModelsReordered}
use Rattle.order.proofs.Laws.Beside.{all_beside, any_beside, count_beside, length_beside}
use Rattle.order.proofs.Laws.Resorted.{name_same, attributes_same, elements_beside, characters_beside, characters_stay}
use Rattle.order.proofs.Laws.Resorted.{elements_permuted}

-- ---- Contents that a row without an order does not tell apart.

record Unordered (K : Type 0) (c d : Contents) : Type 0 where
  texts : characters c ≡ characters d
  lengths : length (elements c) ≡ length (elements d)
  names : (s : String) → count (λ e. is s (name_of e)) (elements c) ≡ count (λ e. is s (name_of e)) (elements d)
  kinds : (r : List (ChildRow K)) → all (λ e. is_some (kind_of r e)) (elements c) ≡ all (λ e. is_some (kind_of r e)) (elements d)
  belows : (s : String) → any (below s) (elements c) ≡ any (below s) (elements d)

module _ {K : Type 0} where
  -- a row whose children come in any order
  unfoldable free : Row K → Bool
  free (branch a any_order r) = true
  free (branch a in_order r) = false
  free (leaf a t) = true

  module _ {c d : Contents} (u : Unordered K c d) where
    stands_unordered : (t : Times) (n : ℕ) → stands_so t n (elements c) ≡ stands_so t n (elements d)
    unfolding stands_so
    stands_unordered once n = refl
    stands_unordered at_most_once n = refl
    stands_unordered any_times n = refl
    stands_unordered at_least_once n = refl
    stands_unordered (needed_below s) n = rw (u.belows s) refl

    child_unordered : (r : ChildRow K) → child_shaped (elements c) r ≡ child_shaped (elements d) r
    unfolding child_shaped
    child_unordered (child s t w) = rw (u.names s) (stands_unordered t (count (λ e. is s (name_of e)) (elements d)))

    shaped_unordered : (r : Row K) (a : List Attribute) → free r ≡ true → shaped r a c ≡ shaped r a d
    unfolding shaped free children_shaped orderly
    shaped_unordered (branch x any_order r) a f = rw (u.texts, u.kinds r, all_same child_unordered r) refl
    shaped_unordered (branch x in_order r) a f = absurd (false≢true f)
    shaped_unordered (leaf x t) a f = rw u.lengths refl

    numbered_unordered : (r : Row K) (a : List Attribute) → free r ≡ true → numbered r a c ≡ numbered r a d
    unfolding numbered
    numbered_unordered (branch x o r) a f = refl
    numbered_unordered (leaf x t) a f = rw u.texts refl

-- ---- Models in another order, and children changed so that what stands below them is the same.

sorted_unordered : {K : Type 0} {c d : Contents} → Resorted c d → Unordered K c d
sorted_unordered r = record {
  texts = characters_stay r;
  lengths = length_permuted (elements_permuted r);
  names = λ s. count_permuted (λ e. is s (name_of e)) (elements_permuted r);
  kinds = λ k. all_permuted (λ e. is_some (kind_of k e)) (elements_permuted r);
  belows = λ s. any_permuted (below s) (elements_permuted r);
}

module _ {R : Contents → Contents → Type 0} where
  called_same : (s : String) (e f : Element) → ContentsChanged R e f → is s (name_of e) ≡ is s (name_of f)
  called_same s e f h = ap (is s) (name_same h)

  by_same : {K : Type 0} (w : Which K) {e f : Element} → ContentsChanged R e f → kind_by w e ≡ kind_by w f
  unfolding kind_by
  by_same (always k) h = refl
  by_same (chosen a l) h = rw (attributes_same h) refl
  by_same (chosen_else a l k) h = rw (attributes_same h) refl

  kind_same : {K : Type 0} (r : List (ChildRow K)) {e f : Element} → ContentsChanged R e f → kind_of r e ≡ kind_of r f
  unfolding kind_of
  kind_same [] h = refl
  kind_same (child s t w ∷ r) h = rw (name_same h, by_same w h, kind_same r h) refl

  children_unordered : ((s : String) (e f : Element) → ContentsChanged R e f → below s e ≡ below s f)
      → {K : Type 0} {c d : Contents} → ChildrenChanged (ContentsChanged R) c d → Unordered K c d
  children_unordered under i = record {
    texts = characters_beside i;
    lengths = length_beside (elements_beside i);
    names = λ s. count_beside (λ e. is s (name_of e)) (called_same s) (elements_beside i);
    kinds = λ k. all_beside (λ e. is_some (kind_of k e)) (λ e f h. ap is_some (kind_same k h)) (elements_beside i);
    belows = λ s. any_beside (below s) (under s) (elements_beside i);
  }

  -- what stands below an element whose children are changed so
  below_children_changed : ((s : String) (e f : Element) → ContentsChanged R e f → below s e ≡ below s f)
      → (s : String) (e f : Element) → ContentsChanged (ChildrenChanged (ContentsChanged R)) e f → below s e ≡ below s f
  unfolding contents_of called
  below_children_changed under s e f (contents_changed {n} {l} {c} {d} {v} {w} i) =
      below_children s (element n l c v)
      ∙ ap₂ (λ a b. a || b) (any_beside (called s) (called_same s) (elements_beside i)) (any_beside (below s) (under s) (elements_beside i))
      ∙ sym (below_children s (element n l d w))

below_map : (s : String) (e f : Element) → MapReordered e f → below s e ≡ below s f
unfolding contents_of
below_map s e f (contents_changed {n} {l} {c} {d} {v} {w} r) =
    below_children s (element n l c v)
    ∙ ap₂ (λ a b. a || b) (any_permuted (called s) (elements_permuted r)) (any_permuted (below s) (elements_permuted r))
    ∙ sym (below_children s (element n l d w))

below_matrix : (s : String) (e f : Element) → MatrixReordered e f → below s e ≡ below s f
below_matrix = below_children_changed below_map

-- ---- THE WALK at a changed element, for a test that sees no order.

module _ {K : Type 0} (rows : K → Row K) (test : Row K → List Attribute → Contents → Bool)
    (blind : (c d : Contents) → Unordered K c d → (k : K) (a : List Attribute) → test (rows k) a c ≡ test (rows k) a d) where
  walk_changed : {R : Contents → Contents → Type 0} → ((c d : Contents) → R c d → Unordered K c d)
      → ((r : List (ChildRow K)) (c d : Contents) → R c d → all (at_child rows test r) (elements c) ≡ all (at_child rows test r) (elements d))
      → (e f : Element) → ContentsChanged R e f → (k : K) → everywhere rows test k e ≡ everywhere rows test k f
  unfolding attributes_of contents_of
  walk_changed unordered inner e f (contents_changed {n} {l} {c} {d} {v} {w} r) k =
      walk_step rows test k (element n l c v)
      ∙ ap₂ (λ a b. a && b) (blind c d (unordered c d r) k l) (inner (child_rows (rows k)) c d r)
      ∙ sym (walk_step rows test k (element n l d w))

  child_walk : {R : Contents → Contents → Type 0}
      → ((e f : Element) → ContentsChanged R e f → (k : K) → everywhere rows test k e ≡ everywhere rows test k f)
      → (r : List (ChildRow K)) (e f : Element) → ContentsChanged R e f → at_child rows test r e ≡ at_child rows test r f
  unfolding at_child if_there
  child_walk under r e f h = rw (kind_same r h) (go (kind_of r f))
    where
      go : (o : Option K) → if_there (λ k. everywhere rows test k e) o ≡ if_there (λ k. everywhere rows test k f) o
      go None = refl
      go (Some k) = under e f h k

  walk_map : (e f : Element) → MapReordered e f → (k : K) → everywhere rows test k e ≡ everywhere rows test k f
  walk_map = walk_changed (λ c d r. sorted_unordered r) (λ k c d r. all_permuted (at_child rows test k) (elements_permuted r))

  walk_matrix : (e f : Element) → MatrixReordered e f → (k : K) → everywhere rows test k e ≡ everywhere rows test k f
  walk_matrix = walk_changed (λ c d i. children_unordered below_map i)
      (λ r c d i. all_beside (at_child rows test r) (child_walk walk_map r) (elements_beside i))

  walk_root : (e f : Element) → ModelsReordered e f → (k : K) → everywhere rows test k e ≡ everywhere rows test k f
  walk_root = walk_changed (λ c d i. children_unordered below_matrix i)
      (λ r c d i. all_beside (at_child rows test r) (child_walk walk_matrix r) (elements_beside i))

-- ---- No row of CIFTI asks for an order.

all_free : (k : ElementKind) → free (rows k) ≡ true
unfolding rows free
all_free cifti = refl
all_free matrix = refl
all_free meta_data = refl
all_free md = refl
all_free text_leaf = refl
all_free brain_models = refl
all_free series = refl
all_free scalars = refl
all_free named_map = refl
all_free volume = refl
all_free transform = refl
all_free surface = refl
all_free voxels = refl
all_free vertex_indices = refl
all_free voxel_indices = refl
all_free labels = refl
all_free labelled_map = refl
all_free label_table = refl
all_free label = refl

module _ {e f : Element} (h : ModelsReordered e f) where
  pub six : shape_wrong e ≡ shape_wrong f
  unfolding shape_wrong
  six = ap not (walk_root rows shaped (λ c d u k a. shaped_unordered u (rows k) a (all_free k)) e f h cifti)

  pub seven : number_wrong e ≡ number_wrong f
  unfolding number_wrong
  seven = ap not (walk_root rows numbered (λ c d u k a. numbered_unordered u (rows k) a (all_free k)) e f h cifti)
