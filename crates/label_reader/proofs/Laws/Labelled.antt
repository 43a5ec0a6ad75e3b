-- THE LABEL OF A KEY in a table: no Label is found exactly where no key is the one, and the way of steps leads where the walk finds it.
use Rattle.std.specs.Prelude.{◌≡◌, Bool, true, false, cond, ◌&&◌, ◌||◌, ℤ, get_or, Option, Some, None, ℕ}
use Rattle.std.proofs.Math.Path.{refl, sym, ap}
use Rattle.std.proofs.Common.{◌∙◌}
use mathlib.Core.List.{List, [], ◌∷◌, ◌++◌}
use Prim.Native.Nat.{ℕ}
use Rattle.lists.specs.Lists.{all, any, those, each}
use Rattle.lists.proofs.Laws.Lists.{any_each}
use Rattle.lists.proofs.Laws.Booleans.{clash, never_some, and_left, and_right}
use Rattle.grammar.specs.Bytes.{ascii}
use Rattle.grammar.specs.Document.{Element}
use Rattle.grammar.specs.Look.{is, name_of, attr, within_of, children}
use Rattle.nodes.specs.Places.{Stands, the}
use Rattle.nodes.proofs.Laws.Found.{attr_law}
use Rattle.nodes.specs.Children.{first_child}
use Rattle.nodes.specs.Root.{root}
use Rattle.numbers.specs.Numbers as numbers
use Rattle.numbers.specs.Numbers.{same_key}
use Rattle.numbers.specs.Answers.{key_in}
use Rattle.cifti.specs.LabelTable.{labels_of, label_key, keys_right, table_keys, labels_with, names_with}
use Rattle.label_table.specs.Labels.{labels, labels_from, key_or_zero, key_here, has_key, label_with}
use Rattle.inside.specs.Way.{WayStep, step, nth}
use Rattle.inside.specs.Walked.{places_from, nth_place, child_at, thence, walked, walked_from, way_at}
use Rattle.inside.proofs.Laws.Walked.{Stood, none, one, children_stood, Agrees}
use Rattle.inside.proofs.Laws.Walked.{not_there, stands_there}
use Rattle.inside.specs.Treads.{called}
use Rattle.inside.proofs.Laws.Treads.{called_alike}
use Rattle.map_names.proofs.Laws.Treads.{thence_at}
use Rattle.label_reader.specs.Way.{table_way, label_of, to_label, label_way}

-- ---- What a found Label says of the keys.

none_pass : {A : Type 0} (p : A → Bool) (l : List A) → nth 0 (those p l) ≡ None → any p l ≡ false
unfolding those any nth
none_pass p [] h = refl
none_pass p (a ∷ l) h = go (p a) h (none_pass p l)
  where
    go : (b : Bool) → nth 0 (cond b (a ∷ those p l) (those p l)) ≡ None → (nth 0 (those p l) ≡ None → any p l ≡ false)
        → (b || any p l) ≡ false
    go true h ih = never_some (sym h)
    go false h ih = ih h

one_passes : {A : Type 0} (p : A → Bool) (l : List A) {x : A} → nth 0 (those p l) ≡ Some x → any p l ≡ true
unfolding those any nth
one_passes p [] h = never_some h
one_passes p (a ∷ l) {x} h = go (p a) h (one_passes p l)
  where
    go : (b : Bool) → nth 0 (cond b (a ∷ those p l) (those p l)) ≡ Some x → (nth 0 (those p l) ≡ Some x → any p l ≡ true)
        → (b || any p l) ≡ true
    go true h ih = refl
    go false h ih = ih h

first_name : (l : List Element) {x : Element} → nth 0 l ≡ Some x → get_or (each within_of l) 0 [] ≡ within_of x
unfolding nth each
first_name [] h = never_some h
first_name (a ∷ l) {x} h = let q : a ≡ x = cc in ap within_of q

module _ (key : ℤ) (e : Element) where
  among : any (same_key key) (table_keys e) ≡ any (λ l. same_key key (label_key l)) (labels_of e)
  unfolding table_keys
  among = any_each label_key (same_key key) (labels_of e)

  agrees_none : {text : List ℕ} {f : Option ℕ} {o : Option Element} → Agrees text f o → f ≡ None → o ≡ None
  agrees_none not_there q = refl
  agrees_none (stands_there st) q = clash (cc)

  agrees_some : {text : List ℕ} {f : Option ℕ} {o : Option Element} → Agrees text f o → {k : ℕ} → f ≡ Some k
      → (o ≡ Some (the text k)) × Stands text k
  agrees_some not_there q = clash (cc)
  agrees_some {text} (stands_there {k = j} st) {k} q = let s : j ≡ k = cc in (ap (λ n. Some (the text n)) s, rw (← s) st)

  pub key_missing : {text : List ℕ} → Agrees text None (nth 0 (labels_with key e)) → any (same_key key) (table_keys e) ≡ false
  unfolding labels_with
  key_missing a = among ∙ none_pass (λ l. same_key key (label_key l)) (labels_of e) (agrees_none a refl)

  -- the name that is written, that the key is there, and that the Label stands
  pub key_there : {text : List ℕ} {k : ℕ} → Agrees text (Some k) (nth 0 (labels_with key e))
      → (get_or (names_with key e) 0 [] ≡ within_of (the text k)) × (any (same_key key) (table_keys e) ≡ true) × Stands text k
  unfolding labels_with names_with
  key_there a =
      let (o, st) = agrees_some a refl in (
        first_name (those (λ l. same_key key (label_key l)) (labels_of e)) o,
        among ∙ one_passes (λ l. same_key key (label_key l)) (labels_of e) o,
        st,
      )

-- ---- The way by places.

walked_on : (w v : List WayStep) (text : List ℕ) (at : ℕ) → walked (w ++ v) text at ≡ thence (walked v text) (walked w text at)
unfolding walked thence
walked_on [] v text at = refl
walked_on (step p n ∷ w) v text at = go (child_at (λ k. p (the text k)) n text at) (λ k. walked_on w v text k)
  where
    go : (r : Option ℕ) → ((k : ℕ) → walked (w ++ v) text k ≡ thence (walked v text) (walked w text k))
        → thence (walked (w ++ v) text) r ≡ thence (walked v text) (thence (walked w text) r)
    go None ih = refl
    go (Some k) ih = ih k

way_on : (w v : List WayStep) (text : List ℕ) {t : ℕ} → way_at w text ≡ Some t → way_at (w ++ v) text ≡ walked v text t
unfolding way_at walked_from walked thence
way_on w v text {t} h = go (root text) h
  where
    go : (kid : Option ℕ) → walked_from w text kid ≡ Some t → walked_from (w ++ v) text kid ≡ walked v text t
    go None h = clash (cc)
    go (Some r) h = walked_on w v text r ∙ ap (thence (walked v text)) h

-- where keys are in form, the Labels with the key are the children that the step asks for
key_here_lem : {text : List ℕ} {k : ℕ} → Stands text k → numbers.key (attr "Key" (the text k)) ≡ true → key_here text k ≡ label_key (the text k)
unfolding key_here label_key key_or_zero key_in
key_here_lem st f = rw (attr_law "Key" st, f) refl

module _ (key : ℤ) (text : List ℕ) where
  abbrev in_form : List Element → Bool
  in_form l = all (λ d. numbers.key (attr "Key" d)) l

  abbrev named : List Element → List Element
  named l = those (λ d. is "Label" (name_of d)) l

  abbrev wanted : List ℕ → List ℕ
  wanted l = those (λ i. label_of key (the text i)) l

  same_places : {ks : List ℕ} {es : List Element} → Stood text ks es → in_form (named es) ≡ true
      → those (has_key key text) (those (called text (ascii "Label")) ks) ≡ wanted ks
  unfolding those all has_key label_of
  same_places none f = refl
  same_places (one {k} {ks} {es} st s) f =
      rw (called_alike text "Label" k st) (go (is "Label" (name_of (the text k))) f (λ g. same_places s g))
    where
      rest : List ℕ
      rest = those (called text (ascii "Label")) ks

      go : (b : Bool) → in_form (cond b (the text k ∷ named es) (named es)) ≡ true
          → (in_form (named es) ≡ true → those (has_key key text) rest ≡ wanted ks)
          → those (has_key key text) (cond b (k ∷ rest) rest)
          ≡ cond (b && same_key key (label_key (the text k))) (k ∷ wanted ks) (wanted ks)
      go true f ih =
          rw (key_here_lem st (and_left _ _ f), ih (and_right (numbers.key (attr "Key" (the text k))) _ f)) refl
      go false f ih = ih f

  label_places : {t : ℕ} → Stands text t → keys_right (the text t) ≡ true → label_with key text t ≡ walked (to_label key) text t
  unfolding label_with labels labels_from walked to_label child_at keys_right labels_of children
  label_places {t} st f =
      ap (nth_place 0) (same_places (children_stood st) f)
      ∙ sym (thence_at (nth_place 0 (wanted (places_from text (first_child text t)))))

pub label_way_lem : (text : List ℕ) (d i : ℕ) (key : ℤ) {t : ℕ} → Stands text t → keys_right (the text t) ≡ true
    → way_at (table_way d i) text ≡ Some t → {k : ℕ} → label_with key text t ≡ Some k → way_at (label_way d i key) text ≡ Some k
unfolding label_way
label_way_lem text d i key {t} st f w q = way_on (table_way d i) (to_label key) text w ∙ sym (label_places key text st f) ∙ q
