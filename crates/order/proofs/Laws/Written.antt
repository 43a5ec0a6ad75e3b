-- EVERY ORDER OF THE MODELS IS WRITTEN: where a text writes a document, a text of as many bytes writes the document with its models in
-- another order. So where the one passes 2 and 3, the other does.
use Rattle.std.specs.Prelude.{◌≡◌, refl, Bool, true, false, ℕ, ◌+◌}
use Rattle.std.proofs.Common.{sym, ◌∙◌, true≢false}
use Rattle.std.proofs.Math.Path.{ap, ap₂}
use mathlib.Core.List.{List, [], ◌∷◌, ◌++◌}
use Rattle.std.proofs.Math.ListN.{length, length-append}
use Rattle.lists.proofs.Laws.Permuted.{permuted_refl}
use Rattle.grammar.specs.Bytes.{◌⊹◌, ascii}
use Rattle.grammar.specs.Document.{Element, element, Contents, nothing, child, run, merged}
use Rattle.grammar.specs.Erased
use Rattle.grammar.specs.Erased.{Nodes, node, erased, erased_all}
use Rattle.grammar.specs.Grammar
use Rattle.grammar.specs.Grammar.{WritesElement, WritesContents, Writes}
use Rattle.order.specs.Resorted.{models_blank, Resorted, ContentsChanged, contents_changed, ChildrenChanged, nothing_more, run_kept}
use Rattle.order.specs.Resorted.{child_kept, child_changed, MapReordered, ModelsReordered}
use Rattle.order.proofs.Laws.Agree.{Agree, both_end, agree_behind, agree_elements, brackets_agree, parted_agree}
use Rattle.order.proofs.Laws.Refilled.{resorted_written}

-- an element that is related to the first, writes as the second but for the bytes between tags, and is written by as many bytes
record Written (R : Element → Element → Type 0) (d : ℕ) (e f : Element) (before : List ℕ) : Type 0 where
  root : Element
  text : List ℕ
  writes : WritesElement d root text
  related : R e root
  alike : erased root ≡ erased f
  long : length text ≡ length before

-- the same of contents; up to a tag the texts are the same
record WrittenIn (R : Element → Element → Type 0) (d : ℕ) (c x : Contents) (before : List ℕ) : Type 0 where
  root : Contents
  text : List ℕ
  writes : WritesContents d root text
  related : ChildrenChanged R c root
  alike : erased_all root ≡ erased_all x
  long : length text ≡ length before
  agrees : Agree before text

-- ---- Characters in front.

record Unmerged (R : Element → Element → Type 0) (b : List ℕ) (c x : Contents) : Type 0 where
  rest : Contents
  is : x ≡ merged b rest
  related : ChildrenChanged R c rest

module _ {R : Element → Element → Type 0} where
  unmerged : (b : List ℕ) (c : Contents) {x : Contents} → ChildrenChanged R (merged b c) x → Unmerged R b c x
  unfolding merged
  unmerged [] c {x} h = record { rest = x; is = refl; related = h }
  unmerged (a ∷ b) nothing (run_kept nothing_more) = record { rest = nothing; is = refl; related = nothing_more }
  unmerged (a ∷ b) (child e c) (run_kept {d = y} h) = go h
    where
      go : {y : Contents} → ChildrenChanged R (child e c) y → Unmerged R (a ∷ b) (child e c) (run (a ∷ b) y)
      go (child_kept {d = z} i) = record { rest = child e z; is = refl; related = child_kept i }
      go (child_changed {f = f} {d = z} r i) = record { rest = child f z; is = refl; related = child_changed r i }
  unmerged (a ∷ b) (run w c) (run_kept {d = y} h) = record { rest = run w y; is = refl; related = run_kept h }

  merged_changed : (b : List ℕ) {c x : Contents} → ChildrenChanged R c x → ChildrenChanged R (merged b c) (merged b x)
  unfolding merged
  merged_changed [] h = h
  merged_changed (a ∷ b) nothing_more = run_kept nothing_more
  merged_changed (a ∷ b) (run_kept h) = run_kept h
  merged_changed (a ∷ b) (child_kept h) = run_kept (child_kept h)
  merged_changed (a ∷ b) (child_changed r h) = run_kept (child_changed r h)

-- the same on the paper's documents
unfoldable joined : List ℕ → Nodes → Nodes
joined [] c = c
joined (a ∷ b) Erased.none = Erased.characters (a ∷ b) Erased.none
joined (a ∷ b) (Erased.inner e c) = Erased.characters (a ∷ b) (Erased.inner e c)
joined (a ∷ b) (Erased.characters w c) = Erased.characters ((a ∷ b) ++ w) c

erased_merged : (b : List ℕ) (c : Contents) → erased_all (merged b c) ≡ joined b (erased_all c)
unfolding merged erased joined
erased_merged [] c = refl
erased_merged (a ∷ b) nothing = refl
erased_merged (a ∷ b) (child e c) = refl
erased_merged (a ∷ b) (run w c) = refl

-- ---- Contents in which some children are changed.

module _ {R : Element → Element → Type 0} where
  front_written : {d : ℕ} (b w : List ℕ) {c : Contents} {s : List ℕ}
      → ((x : Contents) (t : List ℕ) → Agree s t → WritesContents d x t → WritesContents d (merged b x) (w ++ t))
      → ((x : Contents) → ChildrenChanged R c x → WrittenIn R d c x s)
      → (x : Contents) → ChildrenChanged R (merged b c) x → WrittenIn R d (merged b c) x (w ++ s)
  front_written b w {c} {s} front ih x h =
      let u = unmerged b c h in
      let f = ih u.rest u.related in
      record {
        root = merged b f.root;
        text = w ++ f.text;
        writes = front f.root f.text f.agrees f.writes;
        related = merged_changed b f.related;
        alike = erased_merged b f.root ∙ ap (joined b) f.alike ∙ sym (erased_merged b u.rest) ∙ ap erased_all (sym u.is);
        long = rw (length-append w f.text, length-append w s) (ap (λ n. length w + n) f.long);
        agrees = agree_behind w f.agrees;
      }

  module _ (rewrite : (d : ℕ) (e f : Element) (w : List ℕ) → R e f → WritesElement d e w → Written R d e f w) where
    inner_written : {d : ℕ} {e : Element} {c : Contents} {w s : List ℕ} → WritesElement d e w
        → ((x : Contents) → ChildrenChanged R c x → WrittenIn R d c x s)
        → (x : Contents) → ChildrenChanged R (child e c) x → WrittenIn R d (child e c) x (w ++ s)
    unfolding erased
    inner_written {d} {e} {c} {w} {s} t ih x (child_kept {d = y} i) =
        let f = ih y i in
        record {
          root = child e f.root;
          text = w ++ f.text;
          writes = Grammar.inner t f.writes;
          related = child_kept f.related;
          alike = ap (Erased.inner (erased e)) f.alike;
          long = rw (length-append w f.text, length-append w s) (ap (λ n. length w + n) f.long);
          agrees = agree_behind w f.agrees;
        }
    inner_written {d} {e} {c} {w} {s} t ih x (child_changed {f = g} {d = y} r i) =
        let f = ih y i in
        let k = rewrite d e g w r t in
        record {
          root = child k.root f.root;
          text = k.text ++ f.text;
          writes = Grammar.inner k.writes f.writes;
          related = child_changed k.related f.related;
          alike = ap₂ (λ a b. Erased.inner a b) k.alike f.alike;
          long = rw (length-append k.text f.text, length-append w s) (ap₂ (λ a b. a + b) k.long f.long);
          agrees = agree_elements t k.writes s f.text;
        }

    children_written : {d : ℕ} {c : Contents} {k : List ℕ} → WritesContents d c k → (x : Contents) → ChildrenChanged R c x
        → WrittenIn R d c x k
    unfolding merged
    children_written t = elim t as (λ d e w _. Unit {0}) (λ d c k _. (x : Contents) → ChildrenChanged R c x → WrittenIn R d c x k) [
      | Grammar.full nm at hu (kids → ih) hv ↦ tt
      | Grammar.empty nm at hu ↦ tt
      | Grammar.none ↦ nothing_written
      | Grammar.remark {w = w} k (t → ih) ↦ front_written [] w (λ x u a h. Grammar.remark k h) ih
      | Grammar.character {b = b} {w} k p e (t → ih) ↦ front_written b w
          (λ x u a h. Grammar.character k (sym (parted_agree w a) ∙ p) (sym (brackets_agree (agree_behind w a)) ∙ e) h) ih
      | Grammar.marked {b = b} {w} k (t → ih) ↦ front_written b w (λ x u a h. Grammar.marked k h) ih
      | Grammar.inner (k → ih₁) (t → ih₂) ↦ inner_written k ih₂
    ]
      where
        nothing_written : {d : ℕ} (x : Contents) → ChildrenChanged R nothing x → WrittenIn R d nothing x []
        nothing_written x nothing_more = record {
          root = nothing;
          text = [];
          writes = Grammar.none;
          related = nothing_more;
          alike = refl;
          long = refl;
          agrees = both_end;
        }

-- ---- Elements: a map, and an element of whose children some are changed.

-- bytes in front of a text, and a text with bytes in front of it and behind it
abbrev behind : List (List ℕ) → List ℕ → List ℕ
behind [] s = s
behind (w ∷ ws) s = w ++ behind ws s

behind_long : (ws : List (List ℕ)) (s t : List ℕ) → length s ≡ length t → length (behind ws s) ≡ length (behind ws t)
behind_long [] s t h = h
behind_long (w ∷ ws) s t h =
    rw (length-append w (behind ws s), length-append w (behind ws t)) (ap (λ n. length w + n) (behind_long ws s t h))

between_long : (ws : List (List ℕ)) (z m k : List ℕ) → length m ≡ length k → length (behind ws (m ++ z)) ≡ length (behind ws (k ++ z))
between_long ws z m k h =
    behind_long ws (m ++ z) (k ++ z) (rw (length-append m z, length-append k z) (ap (λ n. n + length z) h))

-- an element whose contents are written by as many bytes
full_long : (n t u v k m : List ℕ) → length m ≡ length k
    → length (ascii "<" ⊹ n ⊹ t ⊹ u ⊹ ascii ">" ⊹ m ⊹ ascii "</" ⊹ n ⊹ v ⊹ ascii ">")
    ≡ length (ascii "<" ⊹ n ⊹ t ⊹ u ⊹ ascii ">" ⊹ k ⊹ ascii "</" ⊹ n ⊹ v ⊹ ascii ">")
full_long n t u v k m h = between_long (ascii "<" ∷ n ∷ t ∷ u ∷ ascii ">" ∷ []) (ascii "</" ⊹ n ⊹ v ⊹ ascii ">") m k h

-- contents of nothing hold no models
is_nothing : Contents → Bool
is_nothing nothing = true
is_nothing (child e c) = false
is_nothing (run w c) = false

nothing_resorted : {x : Contents} → Resorted nothing x → x ≡ nothing
unfolding models_blank is_nothing
nothing_resorted {x} r = go x r.stays
  where
    go : (x : Contents) → nothing ≡ models_blank x → x ≡ nothing
    go nothing e = refl
    go (child _ _) e = absurd (true≢false (ap is_nothing e))
    go (run _ _) e = absurd (true≢false (ap is_nothing e))

map_written : (d : ℕ) (e f : Element) (w : List ℕ) → MapReordered e f → WritesElement d e w → Written MapReordered d e f w
unfolding erased
map_written d e f w (contents_changed {n} {l} {d = x} r) (Grammar.full {t = t} {u} {k} {v} nm at hu kids hv) =
    let g = resorted_written r kids in
    record {
      root = element n l x g.text;
      text = ascii "<" ⊹ n ⊹ t ⊹ u ⊹ ascii ">" ⊹ g.text ⊹ ascii "</" ⊹ n ⊹ v ⊹ ascii ">";
      writes = Grammar.full nm at hu g.writes hv;
      related = contents_changed r;
      alike = refl;
      long = full_long n t u v k g.text g.long;
    }
map_written d e f w (contents_changed {n} {l} {d = x} r) (Grammar.empty nm at hu) = record {
  root = element n l nothing [];
  text = w;
  writes = Grammar.empty nm at hu;
  related = contents_changed (record { stays = refl; moved = permuted_refl _ });
  alike = ap (λ c. node n l (erased_all c)) (sym (nothing_resorted r));
  long = refl;
}

children_nothing : {R : Element → Element → Type 0} {x : Contents} → ChildrenChanged R nothing x → x ≡ nothing
children_nothing nothing_more = refl

element_written : {R : Element → Element → Type 0}
    → ((d : ℕ) (e f : Element) (w : List ℕ) → R e f → WritesElement d e w → Written R d e f w)
    → (d : ℕ) (e f : Element) (w : List ℕ) → ContentsChanged (ChildrenChanged R) e f → WritesElement d e w
    → Written (ContentsChanged (ChildrenChanged R)) d e f w
unfolding erased
element_written rewrite d e f w (contents_changed {n} {l} {d = x} i) (Grammar.full {t = t} {u} {k} {v} nm at hu kids hv) =
    let g = children_written rewrite kids x i in
    record {
      root = element n l g.root g.text;
      text = ascii "<" ⊹ n ⊹ t ⊹ u ⊹ ascii ">" ⊹ g.text ⊹ ascii "</" ⊹ n ⊹ v ⊹ ascii ">";
      writes = Grammar.full nm at hu g.writes hv;
      related = contents_changed g.related;
      alike = ap (node n l) g.alike;
      long = full_long n t u v k g.text g.long;
    }
element_written rewrite d e f w (contents_changed {n} {l} {d = x} i) (Grammar.empty nm at hu) = record {
  root = element n l nothing [];
  text = w;
  writes = Grammar.empty nm at hu;
  related = contents_changed nothing_more;
  alike = ap (λ c. node n l (erased_all c)) (sym (children_nothing i));
  long = refl;
}

-- ---- THE THEOREM: another text, of as many bytes, writes the document with its models in the other order.

pub record OtherOrder (e f : Element) (text : List ℕ) : Type 0 where
  pub other : List ℕ
  pub root : Element
  pub writes : Writes root other
  pub reordered : ModelsReordered e root
  pub alike : erased root ≡ erased f
  pub long : length other ≡ length text

pub order_written : {e f : Element} {x : List ℕ} → ModelsReordered e f → Writes e x → OtherOrder e f x
order_written {e} {f} o (Grammar.document {p} {u} {w} {v} hp hu hw hv) =
    let g = element_written (element_written map_written) 16 e f w o hw in
    record {
      other = p ⊹ u ⊹ g.text ⊹ v;
      root = g.root;
      writes = Grammar.document hp hu g.writes hv;
      reordered = g.related;
      alike = g.alike;
      long = between_long (p ∷ u ∷ []) v g.text w g.long;
    }
