-- What is proved of Listings.
use Rattle.std.specs.Prelude.{◌≡◌, refl, List, [], ◌∷◌, true, ◌&&◌, ℕ, Option, Some, None}
use Rattle.std.proofs.Math.Path.{sym, ap}
use Rattle.std.proofs.Common.{◌∙◌, append-nil, arith}
use Prim.Native.String.{String}
use Rattle.lists.specs.Lists.{all, each_in, those}
use Rattle.grammar.specs.Bytes.{between}
use Rattle.grammar.specs.Document.{Element}
use Rattle.grammar.proofs.Laws.Facts.{and_left, and_right}
use Rattle.grammar.specs.Look.{Word, attr, contents_of, elements, children, text_of}
use Rattle.numbers.specs.Numbers.{digits, value, whole, wholes, words, values}
use Rattle.nodes.specs.Places.{the}
use Rattle.nodes.specs.Children.{first_child}
use Rattle.nodes.proofs.Laws.Along.{Along, along_start, along_done, along_stands, along_here}
use Rattle.nodes.specs.Texts.{says_at, inside, text_from, text_of_lem}
use Rattle.nodes.proofs.Laws.TextSteps.{text_law, from_at}
use Rattle.cifti.specs.Words.{most_voxel}
use Rattle.cifti.specs.Rows.{ElementKind}
use Rattle.cifti.specs.Maps.{vertices, voxels, model_of, listed_by}
use Rattle.maps.proofs.Laws.Kinds.{OnlyChild, surface_child, voxels_child, vertex_list, voxel_list}
use Rattle.maps.specs.Kinds.{GoodModel, surface_model, voxel_model_lem}
use Rattle.maps.proofs.Laws.Kinds.{surface_size}
use Rattle.models.specs.Kind.{ModelAt}
use Rattle.models.specs.Numbers.{values_at, InForm}
use Rattle.models.specs.Listings.{listed_numbers, OnlyText, ListAt}

-- ---- A good model has one child, whose text is the list.

wholes_digits : (n : ℕ) (l : List Word) → all (whole 0 n) l ≡ true → all (digits 1 7) l ≡ true
unfolding all whole
wholes_digits n [] h = refl
wholes_digits n (w ∷ l) h =
    let a = and_left (digits 1 7 w && between 0 n (value w)) _ h in
    let b = wholes_digits n l (and_right (digits 1 7 w && between 0 n (value w)) _ h) in
    rw (and_left (digits 1 7 w) _ a, b)

pub data Lists (e : Element) : Type 0 where
  lists_vertices : (one : Element) → elements (contents_of e) ≡ one ∷ [] → all (digits 1 7) (words (text_of one)) ≡ true
      → listed_by e ≡ vertices (value (attr "SurfaceNumberOfVertices" e)) (values (text_of one))
      → whole 1 1048576 (attr "SurfaceNumberOfVertices" e) ≡ true → Lists e
  lists_voxels : (one : Element) → elements (contents_of e) ≡ one ∷ [] → all (digits 1 7) (words (text_of one)) ≡ true
      → listed_by e ≡ voxels (values (text_of one)) → Lists e

only_text : (s : String) (k : ElementKind) (e : Element) (o : OnlyChild s k (elements (contents_of e)))
    → each_in (λ d. values (text_of d)) (children s e) ≡ values (text_of o.one)
unfolding children those each_in
only_text s k e o = rw (o.alone, o.name) (append-nil (values (text_of o.one)))

pub model_lists : {e : Element} → GoodModel e → Lists e
unfolding listed_by wholes
model_lists {e} (surface_model g h) =
    let o = surface_child g in
    lists_vertices o.one o.alone (wholes_digits 1048575 (words (text_of o.one)) (vertex_list o.good))
    (rw h (ap (vertices (value (attr "SurfaceNumberOfVertices" e))) (only_text "VertexIndices" _ e o))) (surface_size g)
model_lists {e} (voxel_model_lem g h) =
    let o = voxels_child g in
    lists_voxels o.one o.alone (wholes_digits most_voxel (words (text_of o.one)) (voxel_list o.good))
    (rw h (ap voxels (only_text "VoxelIndicesIJK" _ e o)))

pub model_text : {e : Element} → GoodModel e → OnlyText e
unfolding listed_numbers
model_text {e} g = go (model_lists g)
  where
    go : Lists e → OnlyText e
    go (lists_vertices o a f n s) = record { one = o; alone = a; form = f; numbers = ap listed_numbers n }
    go (lists_voxels o a f n) = record { one = o; alone = a; form = f; numbers = ap listed_numbers n }

pub listed_is : (e : Element) → (model_of e).listed ≡ listed_by e
unfolding model_of
listed_is e = refl

module _ {text : List ℕ} {at : ℕ} (m : ModelAt text at) {kid : Option ℕ} (e : kid ≡ first_child text at) where
  only : OnlyText (the text at)
  only = model_text m.good

  go : Along text (λ l. l ≡ only.one ∷ []) kid
  go = along_start m.stands only.alone e

  pub list_none : kid ≡ None → ListAt text at None
  list_none q = absurd (let z = along_done go q in let y : ◌≡◌ {A = ℕ} 0 1 = cc in omega arith)

  module _ {k : ℕ} (q : kid ≡ Some k) where
    there : the text k ≡ only.one
    there = let z = along_here go q in cc

    pub list_there : {f : Option ℕ} → f ≡ inside text k → ListAt text at f
    unfolding text_of_lem
    list_there {f} x =
        let t : text_from text f ≡ text_of only.one = ap (text_from text) x ∙ text_law (along_stands go q) ∙ ap text_of there in
        record {
          form = rw t only.form;
          numbers = ap values t ∙ sym only.numbers ∙ ap listed_numbers (sym (listed_is (the text at)));
        }

-- the numbers from there on
module _ {text : List ℕ} {at : ℕ} {f : Option ℕ} (x : ListAt text at f) {i : ℕ} (q : f ≡ Some i) where
  here : text_from text f ≡ says_at text i
  here = ap (text_from text) q ∙ from_at text i

  pub list_form : InForm text i
  list_form = record { all_digits = sym (ap (λ w. all (digits 1 7) (words w)) here) ∙ x.form }

  pub list_numbers : listed_numbers (model_of (the text at)).listed ≡ values_at text i
  unfolding values_at
  list_numbers = sym x.numbers ∙ ap values here
