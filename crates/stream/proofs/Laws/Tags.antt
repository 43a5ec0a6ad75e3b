-- Start tags: names, attributes, and how a tag ends.
use Rattle.std.specs.Prelude.{◌≡◌, List, [], ◌∷◌, ◌++◌, ℕ, ◌<◌, Bool, ◌&&◌, ◌||◌, eqb, ltb, length}
use Rattle.std.proofs.Math.Path.{refl, ap, sym}
use Rattle.std.proofs.Common.{◌∙◌, append_assoc, append-nil, arith, length-append, eqb-true, ltb-false}
use Rattle.std.proofs.Math.Bool.{true, false, cond}
use Rattle.std.proofs.Math.Dec.{leb}
use Rattle.std.proofs.lemmas.Bool.{lt-leb}
use Rattle.grammar.specs.Bytes.{ascii, blank, name_start, name_byte}
use Rattle.grammar.specs.Document.{attribute}
use Rattle.grammar.specs.Read.{Read, fail, got, test, mark, byte, span, all_of, many_step}
use Rattle.grammar.proofs.Laws.Read.{mark_other}
use Rattle.grammar.specs.Parser.{name_at, gap_at, equals_at, value_at, attribute_at_lem, ends, closing}
use Rattle.grammar.proofs.Laws.Unfuelled.{all_of_step}
use Rattle.steps.proofs.Laws.Keys.{attribute_eats}
use Rattle.stream.specs.Jobs.{Job, fixed, blanks, quoted, naming, tagging, gapped, keying, enclosing, Change, dead, done, turn}
use Rattle.stream.specs.Jobs.{admits, close_tag, change_tagging, change_gapped, change_naming, change_equals, change_keying}
use Rattle.stream.proofs.Laws.Meets.{Passing, leads, otherwise, meets, meets_all, changed, leads_bind, leads_same, leads_never}
use Rattle.stream.proofs.Laws.Meets.{leads_test, leads_got, cond_leads, cond_and, by_test, admits_all, enclosed, tag_end_lem, finishing}
use Rattle.stream.proofs.Laws.Meets.{attributed, key_valued, key_named}
use Rattle.stream.proofs.Laws.Leaves.{mark_first, span_more, span_stop, span_on, leads_byte, chosen, word_law, blanks_law, gap_blank}
use Rattle.stream.proofs.Laws.Leaves.{gap_other}

-- a name, from its first byte on
pub name_first : (g : List ℕ → Passing) (a : ℕ) (s : List ℕ)
    → leads (name_at (a ∷ s)) (λ m r. g m r)
    ≡ cond (name_start a) (leads (span name_byte s) (λ w r. cond (leb (length (a ∷ w)) 64) (g (a ∷ w) r) false)) false
unfolding name_at leads
name_first g a s =
    leads_bind (byte name_start (a ∷ s)) _ _ ∙ leads_byte name_start a s _
    ∙ ap (λ x. cond (name_start a) x false)
    (leads_bind (span name_byte s) _ _ ∙ leads_same (span name_byte s) _ _ λ w r.
    leads_bind (test (leb (length (a ∷ w)) 64) r) _ _ ∙ leads_test (leb (length (a ∷ w)) 64) r _)

-- ONE ATTRIBUTE, OR THE END OF THE TAG
module _ (d : ℕ) (n : List ℕ) (l : List (List ℕ)) (k : Passing) where
  -- the attributes behind one
  behind_one : (m v r : List ℕ)
      → leads (all_of (ends closing) attribute_at_lem r) (λ x r₁. cond (admits_all l (attribute m v ∷ x)) (finishing d n k r₁) false)
      ≡ cond (admits l m) (attributed d n (m ∷ l) k r) false
  unfolding attributed admits_all
  behind_one m v r =
      leads_same (all_of (ends closing) attribute_at_lem r) _ _ (λ x r₁. cond_and (admits l m) (admits_all (m ∷ l) x) (finishing d n k r₁))
      ∙ cond_leads (admits l m) (all_of (ends closing) attribute_at_lem r) (λ x r₁. cond (admits_all (m ∷ l) x) (finishing d n k r₁) false)

  one_attribute : (s : List ℕ)
      → leads (attribute_at_lem s) (λ x r.
      leads (all_of (ends closing) attribute_at_lem r) (λ y r₁. cond (admits_all l (x ∷ y)) (finishing d n k r₁) false))
      ≡ leads (gap_at s) (λ _ r. key_named d n l k r)
  unfolding attribute_at_lem key_named key_valued leads
  one_attribute s =
      leads_bind (gap_at s) _ _ ∙ leads_same (gap_at s) _ _ λ _ r₁.
      leads_bind (name_at r₁) _ _ ∙ leads_same (name_at r₁) _ _ λ m r₂.
      leads_bind (equals_at r₂) _ _ ∙ leads_same (equals_at r₂) _ _ λ _ r₃.
      leads_bind (value_at r₃) _ _ ∙ leads_same (value_at r₃) _ _ λ v r₄. behind_one m v r₄

  pub attributed_step : (s : List ℕ)
      → attributed d n l k s ≡ cond (ends closing s) (finishing d n k s) (leads (gap_at s) (λ _ r. key_named d n l k r))
  unfolding attributed many_step admits_all leads
  attributed_step s =
      ap (λ m. leads m (λ x r. cond (admits_all l x) (finishing d n k r) false)) (all_of_step attribute_at_lem (ends closing) attribute_eats s)
      ∙ go (ends closing s)
    where
      go : (t : Bool)
          → leads (many_step t attribute_at_lem (all_of (ends closing) attribute_at_lem) s) (λ x r. cond (admits_all l x) (finishing d n k r) false)
          ≡ cond t (finishing d n k s) (leads (gap_at s) (λ _ r. key_named d n l k r))
      go true = refl
      go false =
          leads_bind (attribute_at_lem s) _ _
          ∙ leads_same (attribute_at_lem s) _ _ (λ x r. leads_bind (all_of (ends closing) attribute_at_lem r) _ _)
          ∙ one_attribute s

-- blanks, and the end of a tag
pub ends_blank : (p : ℕ → Bool) (a : ℕ) (s : List ℕ) → blank a ≡ true → ends p (a ∷ s) ≡ ends p s
unfolding ends
ends_blank p a s e = rw (e, ends)

pub ends_other : (p : ℕ → Bool) (a : ℕ) (s : List ℕ) → blank a ≡ false → ends p (a ∷ s) ≡ p a
unfolding ends
ends_other p a s e = rw (e, ends)

module _ (d : ℕ) (n : List ℕ) (k : Passing) (a : ℕ) (s : List ℕ) where
  finishing_blank : blank a ≡ true → finishing d n k (a ∷ s) ≡ finishing d n k s
  unfolding finishing
  finishing_blank e = span_on blank a s (tag_end_lem d n k) e

  finishing_other : blank a ≡ false → finishing d n k (a ∷ s) ≡ tag_end_lem d n k (a ∷ s)
  unfolding finishing
  finishing_other e = leads_got _ _ (span_stop blank a s e)

end_open : (d : ℕ) (n : List ℕ) (k : Passing) (s : List ℕ) → tag_end_lem d n k (62 ∷ s) ≡ enclosed d n k s
unfolding tag_end_lem otherwise leads mark
end_open d n k s = rw (mark_other 47 62 (ascii ">") s refl, mark_first 62 [] s)

end_bare : (d : ℕ) (n : List ℕ) (k : Passing) (s : List ℕ) → tag_end_lem d n k (47 ∷ s) ≡ leads (mark (ascii ">") s) (λ _ r. k r)
unfolding tag_end_lem leads otherwise
end_bare d n k s = rw (mark_first 47 (ascii ">") s, mark_other 62 47 [] s refl) (go (mark (ascii ">") s))
  where
    go : (m : Read (Unit {0})) → otherwise m k false ≡ leads m (λ _ r. k r)
    go fail = refl
    go (got a r) = refl

-- behind blanks: the end of the tag, or `other`
closes : (d : ℕ) (n : List ℕ) (k : Passing) (a : ℕ) (s : List ℕ) (x : Bool) (other : Change) → blank a ≡ false → x ≡ changed other k a s
    → cond (ends closing (a ∷ s)) (finishing d n k (a ∷ s)) x ≡ changed (close_tag d n a other) k a s
unfolding closing close_tag changed meets meets_all
closes d n k a s x other e h =
    ap (λ t. cond t (finishing d n k (a ∷ s)) x) (ends_other closing a s e)
    ∙ ap (λ y. cond (eqb a 62 || eqb a 47) y x) (finishing_other d n k a s e)
    ∙ go (eqb a 62) refl
  where
    go₂ : (t : Bool) → eqb a 47 ≡ t → cond t (tag_end_lem d n k (a ∷ s)) x ≡ changed (cond t (turn (fixed (ascii ">") ∷ [])) other) k a s
    go₂ true q = let z = eqb-true a 47 q in rw z (end_bare d n k s)
    go₂ false q = h

    go : (t : Bool) → eqb a 62 ≡ t
        → cond (t || eqb a 47) (tag_end_lem d n k (a ∷ s)) x
        ≡ changed (cond t (turn (enclosing d n ∷ [])) (cond (eqb a 47) (turn (fixed (ascii ">") ∷ [])) other)) k a s
    go true q = let z = eqb-true a 62 q in rw z (end_open d n k s)
    go false q = go₂ (eqb a 47) refl

module _ (d : ℕ) (n : List ℕ) (l : List (List ℕ)) (k : Passing) (a : ℕ) (s : List ℕ) where
  abbrev more_keys : Bool → Bool
  more_keys x = cond (ends closing (a ∷ s)) (finishing d n k (a ∷ s)) x

  -- a blank more, wherever attributes may stand
  blank_more : blank a ≡ true → more_keys (leads (span blank s) (λ _ r. key_named d n l k r)) ≡ meets (gapped d n l) k s
  unfolding meets
  blank_more e =
      ap (λ t. cond t (finishing d n k (a ∷ s)) (leads (span blank s) (λ _ r. key_named d n l k r))) (ends_blank closing a s e)
      ∙ ap (λ y. cond (ends closing s) y (leads (span blank s) (λ _ r. key_named d n l k r))) (finishing_blank d n k a s e)

  pub tagging_law : attributed d n l k (a ∷ s) ≡ changed (change_tagging d n l a) k a s
  unfolding change_tagging changed meets_all
  tagging_law =
      attributed_step d n l k (a ∷ s)
      ∙ by_test (blank a) _ _ k a s (λ e. ap more_keys (gap_blank a s (key_named d n l k) e) ∙ blank_more e) λ e.
      closes d n k a s _ dead e (gap_other a s (key_named d n l k) e)

  key_law : key_named d n l k (a ∷ s) ≡ changed (cond (name_start a) (turn (keying d n l (a ∷ []) ∷ [])) dead) k a s
  unfolding key_named meets meets_all
  key_law = name_first (λ m r. key_valued d n l m k r) a s ∙ chosen (name_start a) (keying d n l (a ∷ []) ∷ []) k a s

  pub gapped_law : meets (gapped d n l) k (a ∷ s) ≡ changed (change_gapped d n l a) k a s
  unfolding meets change_gapped changed meets_all
  gapped_law =
      by_test (blank a) _ _ k a s (λ e. ap more_keys (span_on blank a s (key_named d n l k) e) ∙ blank_more e) λ e.
      closes d n k a s _ _ e (leads_got _ _ (span_stop blank a s e) ∙ key_law)

-- A NAME, BYTE BY BYTE: `f` is what follows it
module _ (f : List ℕ → Passing) (n : List ℕ) (a : ℕ) (s : List ℕ) where
  abbrev pub named : List ℕ → List ℕ → Bool
  named m r = cond (leb (length m) 64) (f m r) false

  name_more : name_byte a ≡ true
      → leads (span name_byte (a ∷ s)) (λ w r. named (n ++ w) r) ≡ leads (span name_byte s) (λ w r. named ((n ++ (a ∷ [])) ++ w) r)
  unfolding leads
  name_more e =
      ap (λ m. leads m (λ w r. named (n ++ w) r)) (span_more name_byte a s e)
      ∙ leads_bind (span name_byte s) _ _ ∙ leads_same (span name_byte s) _ _ λ w r. ap (λ m. named m r) (sym (append_assoc n (a ∷ []) w))

  too_long : (w r : List ℕ) → ltb (length n) 64 ≡ false → named ((n ++ (a ∷ [])) ++ w) r ≡ false
  too_long w r e =
      let h = ltb-false (length n) 64 e in
      let z : 64 < length ((n ++ (a ∷ [])) ++ w) = omega (arith, length-append (n ++ (a ∷ [])) w, length-append n (a ∷ [])) in
      ap (λ t. cond t (f ((n ++ (a ∷ [])) ++ w) r) false) (lt-leb (length ((n ++ (a ∷ [])) ++ w)) 64 z)

  name_ends : name_byte a ≡ false → leads (span name_byte (a ∷ s)) (λ w r. named (n ++ w) r) ≡ named n (a ∷ s)
  name_ends e = leads_got _ _ (span_stop name_byte a s e) ∙ ap (λ m. named m (a ∷ s)) (append-nil n)

  pub name_law : (k : Passing) (more : Job) (other : Change)
      → meets more k s ≡ leads (span name_byte s) (λ w r. named ((n ++ (a ∷ [])) ++ w) r)
      → (name_byte a ≡ false → leb (length n) 64 ≡ true → f n (a ∷ s) ≡ changed other k a s)
      → leads (span name_byte (a ∷ s)) (λ w r. named (n ++ w) r)
      ≡ changed (cond (name_byte a) (cond (ltb (length n) 64) (turn (more ∷ [])) dead) (cond (leb (length n) 64) other dead)) k a s
  unfolding changed meets_all
  name_law k more other h g =
      by_test (name_byte a) _ _ k a s
      (λ e. name_more e
      ∙ by_test (ltb (length n) 64) _ _ k a s (λ _. sym h) λ q. leads_never (span name_byte s) _ λ w r. too_long w r q) λ e.
      name_ends e ∙ fine (leb (length n) 64) e refl
    where
      fine : (t : Bool) → name_byte a ≡ false → leb (length n) 64 ≡ t → cond t (f n (a ∷ s)) false ≡ changed (cond t other dead) k a s
      fine true q e = g q e
      fine false q e = refl

pub naming_law : (d : ℕ) (n : List ℕ) (k : Passing) (a : ℕ) (s : List ℕ)
    → meets (naming d n) k (a ∷ s) ≡ changed (change_naming d n a) k a s
unfolding meets change_naming
naming_law d n k a s =
    name_law (λ m r. attributed d m [] k r) n a s k (naming d (n ++ (a ∷ []))) (change_tagging d n [] a) refl
    (λ _ _. tagging_law d n [] k a s)

-- `=` and the value behind an attribute's name
pub equals_jobs : (s : List ℕ) (k : Passing)
    → leads (equals_at s) (λ _ r. k r) ≡ meets blanks (meets (fixed (ascii "=")) (meets blanks k)) s
unfolding equals_at meets leads
equals_jobs s k =
    leads_bind (span blank s) _ _ ∙ leads_same (span blank s) _ _ λ _ r₁.
    leads_bind (mark (ascii "=") r₁) _ _ ∙ leads_same (mark (ascii "=") r₁) _ _ λ _ r₂. leads_bind (span blank r₂) _ _

equals_law : (k : Passing) (l : List Job) (a : ℕ) (s : List ℕ)
    → meets_all (blanks ∷ fixed (ascii "=") ∷ l) k (a ∷ s) ≡ changed (change_equals l a) k a s
unfolding meets_all change_equals changed meets leads mark
equals_law k l a s = blanks_law (meets_all (fixed (ascii "=") ∷ l) k) a s ∙ go (blank a)
  where
    sign : (t : Bool) → changed (cond t (turn (fixed [] ∷ [])) dead) (meets_all l k) a s ≡ changed (cond t (turn l) dead) k a s
    sign true = refl
    sign false = refl

    go : (t : Bool)
        → changed (cond t (turn (blanks ∷ [])) done) (meets_all (fixed (ascii "=") ∷ l) k) a s
        ≡ changed (cond t (turn (blanks ∷ fixed (ascii "=") ∷ l)) (cond (eqb a 61) (turn l) dead)) k a s
    go true = refl
    go false = word_law 61 [] (meets_all l k) a s ∙ sign (eqb a 61)

module _ (d : ℕ) (n : List ℕ) (l : List (List ℕ)) (m : List ℕ) (k : Passing) (a : ℕ) (s : List ℕ) where
  abbrev value_jobs : List Job
  value_jobs = blanks ∷ quoted ∷ tagging d n (m ∷ l) ∷ []

  abbrev spelling : Change
  spelling = cond (ltb (length m) 64) (turn (keying d n l (m ++ (a ∷ [])) ∷ [])) dead

  key_value_law : key_valued d n l m k (a ∷ s) ≡ changed (cond (admits l m) (change_equals value_jobs a) dead) k a s
  unfolding key_valued changed meets meets_all
  key_value_law =
      leads_same (equals_at (a ∷ s)) _ _ (λ _ r. cond_leads (admits l m) (value_at r) _)
      ∙ cond_leads (admits l m) (equals_at (a ∷ s)) _ ∙ go (admits l m)
    where
      go : (t : Bool)
          → cond t (leads (equals_at (a ∷ s)) (λ _ r. leads (value_at r) (λ _ r₁. attributed d n (m ∷ l) k r₁))) false
          ≡ changed (cond t (change_equals value_jobs a) dead) k a s
      go true = equals_jobs (a ∷ s) (meets quoted (attributed d n (m ∷ l) k)) ∙ equals_law k value_jobs a s
      go false = refl

  pub keying_law : meets (keying d n l m) k (a ∷ s) ≡ changed (change_keying d n l m a) k a s
  unfolding meets change_keying
  keying_law =
      name_law (λ m r. key_valued d n l m k r) m a s k (keying d n l (m ++ (a ∷ []))) _ refl (λ _ _. key_value_law)
      ∙ go (name_byte a) (leb (length m) 64) (admits l m)
    where
      go : (t u v : Bool)
          → changed (cond t spelling (cond u (cond v (change_equals value_jobs a) dead) dead)) k a s
          ≡ changed (cond t spelling (cond (u && v) (change_equals value_jobs a) dead)) k a s
      go true u v = refl
      go false true v = refl
      go false false v = refl
