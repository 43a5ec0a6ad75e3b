-- WHAT A WAY REACHES HAS A PLACE IN THE TEXT.
use Rattle.std.specs.Prelude.{◌≡◌, Bool, length, Option, Some, None}
use Rattle.std.proofs.Math.Path.{refl, ap, sym, subst}
use Rattle.std.proofs.Common.{◌∙◌, arith}
use mathlib.Core.List.{List, [], ◌∷◌, ◌++◌, append_assoc}
use Rattle.std.proofs.Math.Bool.{true, false, cond}
use Prim.Native.Nat.{ℕ, zero, suc, ◌+◌}
use Rattle.lists.specs.Lists.{those, count}
use Rattle.lists.proofs.Laws.Booleans.{never_some}
use Rattle.grammar.specs.Bytes.{◌⊹◌, ascii, begins, parted}
use Rattle.grammar.specs.Document.{Element, element, Contents, nothing, child, merged}
use Rattle.grammar.specs.Grammar
use Rattle.grammar.specs.Grammar.{TextCharacter, Comment, CData, WritesElement, WritesContents, Writes}
use Rattle.grammar.specs.Look.{contents_of, within_of, elements}
use Rattle.grammar.specs.Parser.{parse}
use Rattle.grammar.proofs.Laws.Sound.{begins_less, parted_less}
use Rattle.grammar.proofs.Laws.SoundElements.{parse_sound}
use Rattle.inside.specs.Way.{WayStep, step, nth, onward, reached, StartTag, start_tag, only_tag, Leads, here, down, Tagged}
use Rattle.inside.specs.Way.{between, nothing_between, WayPlace, place}
use Rattle.nodes.proofs.Laws.Children.{elements_joined}

-- ---- In contents: what stands before the n-th child that passes, the child, and what stands behind it.

record Splits (d : ℕ) (p : Element → Bool) (n : ℕ) (x : Element) (k : List ℕ) : Type 0 where
  ahead : Contents
  front : List ℕ
  here : List ℕ
  behind : List ℕ
  whole : k ≡ front ++ (here ++ behind)
  writes_front : WritesContents d ahead front
  so_many : count p (elements ahead) ≡ n
  passes : p x ≡ true
  writes : WritesElement d x here

record Split (p : Element → Bool) (d : ℕ) (c : Contents) (k : List ℕ) : Type 0 where
  splits : (n : ℕ) (x : Element) → nth n (those p (elements c)) ≡ Some x → Splits d p n x k

module _ (p : Element → Bool) where
  no_child : (n : ℕ) (x : Element) → nth n (those p (elements nothing)) ≡ Some x → (P : Type 0) → P
  unfolding elements those nth
  no_child zero x e P = never_some e
  no_child (suc n) x e P = never_some e

  remark_splits : {d : ℕ} {c : Contents} {w s : List ℕ} → Comment w → Split p d c s → Split p d c (w ⊹ s)
  remark_splits {w = w} h ih = record {
    splits = λ n x e.
        let i = ih.splits n x e in
        record {
          ahead = i.ahead;
          front = w ++ i.front;
          here = i.here;
          behind = i.behind;
          whole = ap (λ l. w ++ l) i.whole ∙ sym (append_assoc w i.front (i.here ++ i.behind));
          writes_front = Grammar.remark h i.writes_front;
          so_many = i.so_many;
          passes = i.passes;
          writes = i.writes;
        };
  }

  character_splits : {d : ℕ} {c : Contents} {b w s : List ℕ} → TextCharacter b w → parted w s ≡ false
      → begins (ascii "]]>") (w ⊹ s) ≡ false → Split p d c s → Split p d (merged b c) (w ⊹ s)
  character_splits {c = c} {b} {w} {s} h apart clear ih = record {
    splits = λ n x e.
        let i = ih.splits n x (sym (ap (λ l. nth n (those p l)) (elements_joined b c)) ∙ e) in
        let whole : w ++ s ≡ (w ++ i.front) ++ (i.here ++ i.behind) =
        ap (λ l. w ++ l) i.whole ∙ sym (append_assoc w i.front (i.here ++ i.behind)) in
        record {
          ahead = merged b i.ahead;
          front = w ++ i.front;
          here = i.here;
          behind = i.behind;
          whole = whole;
          writes_front = Grammar.character h (parted_less w i.front (i.here ++ i.behind) (rw i.whole at apart))
              (begins_less (ascii "]]>") (w ++ i.front) (i.here ++ i.behind) (rw whole at clear))
              i.writes_front;
          so_many = ap (count p) (elements_joined b i.ahead) ∙ i.so_many;
          passes = i.passes;
          writes = i.writes;
        };
  }

  data_splits : {d : ℕ} {c : Contents} {b w s : List ℕ} → CData b w → Split p d c s → Split p d (merged b c) (w ⊹ s)
  data_splits {c = c} {b} {w} h ih = record {
    splits = λ n x e.
        let i = ih.splits n x (sym (ap (λ l. nth n (those p l)) (elements_joined b c)) ∙ e) in
        record {
          ahead = merged b i.ahead;
          front = w ++ i.front;
          here = i.here;
          behind = i.behind;
          whole = ap (λ l. w ++ l) i.whole ∙ sym (append_assoc w i.front (i.here ++ i.behind));
          writes_front = Grammar.marked h i.writes_front;
          so_many = ap (count p) (elements_joined b i.ahead) ∙ i.so_many;
          passes = i.passes;
          writes = i.writes;
        };
  }

  -- a child that is not the one
  past_splits : {d : ℕ} {e x : Element} {w s : List ℕ} (n m : ℕ) → WritesElement d e w → cond (p e) 1 0 + n ≡ m → Splits d p n x s
      → Splits d p m x (w ⊹ s)
  unfolding count elements
  past_splits {e = e} {w = w} n m h q i = record {
    ahead = child e i.ahead;
    front = w ++ i.front;
    here = i.here;
    behind = i.behind;
    whole = ap (λ l. w ++ l) i.whole ∙ sym (append_assoc w i.front (i.here ++ i.behind));
    writes_front = Grammar.inner h i.writes_front;
    so_many = ap (λ j. cond (p e) 1 0 + j) i.so_many ∙ q;
    passes = i.passes;
    writes = i.writes;
  }

  child_splits : {d : ℕ} {e : Element} {c : Contents} {w s : List ℕ} → WritesElement d e w → Split p d c s → (b : Bool) → p e ≡ b
      → (n : ℕ) (x : Element)
      → nth n (cond b (e ∷ those p (elements c)) (those p (elements c))) ≡ Some x → Splits d p n x (w ⊹ s)
  unfolding nth count elements
  child_splits {d} {e} {c} {w} {s} h ih true t zero x q =
      let z : e ≡ x = cc in
      record {
        ahead = nothing;
        front = [];
        here = w;
        behind = s;
        whole = refl;
        writes_front = Grammar.none;
        so_many = refl;
        passes = subst (λ (y : Element). p y ≡ true) z t;
        writes = subst (λ (y : Element). WritesElement d y w) z h;
      }
  child_splits h ih true t (suc n) x q = past_splits n (suc n) h (rw t (omega arith)) (ih.splits n x q)
  child_splits h ih false t n x q = past_splits n n h (rw t (omega arith)) (ih.splits n x q)

  inner_splits : {d : ℕ} {e : Element} {c : Contents} {w s : List ℕ} → WritesElement d e w → Split p d c s → Split p d (child e c) (w ⊹ s)
  unfolding those elements
  inner_splits {e = e} h ih = record { splits = λ n x q. child_splits h ih (p e) refl n x q }

  split : {d : ℕ} {c : Contents} {k : List ℕ} → WritesContents d c k → Split p d c k
  split t = elim t as (λ d e w _. Unit {0}) (λ d c k _. Split p d c k) [
    | Grammar.full nm at hu (kids → ih) hv ↦ tt
    | Grammar.empty nm at hu ↦ tt
    | Grammar.none ↦ record { splits = λ n x e. no_child n x e _ }
    | Grammar.remark k (t → ih) ↦ remark_splits k ih
    | Grammar.character k p e (t → ih) ↦ character_splits k p e ih
    | Grammar.marked k (t → ih) ↦ data_splits k ih
    | Grammar.inner k (t → ih) ↦ inner_splits k ih
  ]

-- ---- Along the way.

record Led (way : List WayStep) (d : ℕ) (e : Element) (w : List ℕ) (x : Element) : Type 0 where
  before : List ℕ
  tag : List ℕ
  writes : List ℕ
  leads : Leads way d e w before x writes
  tagged : Tagged (within_of x) tag writes

led_here : {d : ℕ} {e : Element} {w : List ℕ} → WritesElement d e w → Led [] d e w e
unfolding within_of
led_here (Grammar.full {n = n} {t} {u} {k} {v} nm at hu c hv) = record {
  before = [];
  tag = ascii "<" ⊹ n ⊹ t ⊹ u ⊹ ascii ">";
  writes = ascii "<" ⊹ n ⊹ t ⊹ u ⊹ ascii ">" ⊹ k ⊹ ascii "</" ⊹ n ⊹ v ⊹ ascii ">";
  leads = here (Grammar.full nm at hu c hv);
  tagged = subst (λ (l : List ℕ). Tagged k (ascii "<" ⊹ n ⊹ t ⊹ u ⊹ ascii ">") l) (simp append_assoc refl)
      (between (ascii "</" ⊹ n ⊹ v ⊹ ascii ">") (start_tag nm at hu));
}
led_here (Grammar.empty {n = n} {t} {u} nm at hu) = record {
  before = [];
  tag = ascii "<" ⊹ n ⊹ t ⊹ u ⊹ ascii "/>";
  writes = ascii "<" ⊹ n ⊹ t ⊹ u ⊹ ascii "/>";
  leads = here (Grammar.empty nm at hu);
  tagged = nothing_between (only_tag nm at hu) refl;
}

module _ {p : Element → Bool} {way : List WayStep} {y x : Element} where
  led_down : {d : ℕ} {e : Element} (tag : List ℕ) (n : ℕ) (k rest : List ℕ) → StartTag tag → Splits d p n y k
      → WritesElement (suc d) e (tag ++ (k ++ rest))
      → ((w : List ℕ) → WritesElement d y w → Led way d y w x) → Led (step p n ∷ way) (suc d) e (tag ++ (k ++ rest)) x
  led_down {d} {e} tag n k rest tg s h below =
      let b = below s.here s.writes in
      let whole : tag ++ (k ++ rest) ≡ tag ++ (s.front ++ (s.here ++ (s.behind ++ rest))) =
      ap (λ l. tag ++ (l ++ rest)) s.whole ∙ simp append_assoc refl in
      rw (whole, ← s.so_many) (record {
        before = tag ++ (s.front ++ b.before);
        tag = b.tag;
        writes = b.writes;
        leads = down (s.behind ++ rest) (rw whole at h) tg s.writes_front s.passes b.leads;
        tagged = b.tagged;
      })

  led_step : {d : ℕ} {e : Element} {w : List ℕ} (n : ℕ) → WritesElement d e w → nth n (those p (elements (contents_of e))) ≡ Some y
      → ((j : ℕ) (v : List ℕ) → WritesElement j y v → Led way j y v x) → Led (step p n ∷ way) d e w x
  unfolding contents_of
  led_step m (Grammar.full {d} {n} {t} {u} {k} {v} {l} {c} nm at hu wc hv) q below =
      let same : (ascii "<" ⊹ n ⊹ t ⊹ u ⊹ ascii ">") ++ (k ++ (ascii "</" ⊹ n ⊹ v ⊹ ascii ">"))
      ≡ ascii "<" ⊹ n ⊹ t ⊹ u ⊹ ascii ">" ⊹ k ⊹ ascii "</" ⊹ n ⊹ v ⊹ ascii ">" = simp append_assoc refl in
      subst (λ (w : List ℕ). Led (step p m ∷ way) (suc d) (element n l c k) w x) same
      (led_down (ascii "<" ⊹ n ⊹ t ⊹ u ⊹ ascii ">") m k (ascii "</" ⊹ n ⊹ v ⊹ ascii ">") (start_tag nm at hu) ((split p wc).splits m y q)
      (subst (λ (w : List ℕ). WritesElement (suc d) (element n l c k) w) (sym same) (Grammar.full nm at hu wc hv)) (below d))
  led_step m (Grammar.empty nm at hu) q below = no_child p m y q _

reached_step : (way : List WayStep) (o : Option Element) {x : Element} → onward (reached way) o ≡ Some x
    → (y : Element) × (o ≡ Some y) × (reached way y ≡ Some x)
unfolding onward
reached_step way None h = never_some h
reached_step way (Some y) h = (y, refl, h)

same_led : {d : ℕ} {e x : Element} {w : List ℕ} → e ≡ x → Led [] d e w e → Led [] d e w x
same_led {d} {e} {x} {w} z l = subst (λ (y : Element). Led [] d e w y) z l

led : (way : List WayStep) {d : ℕ} {e x : Element} {w : List ℕ} → WritesElement d e w → reached way e ≡ Some x → Led way d e w x
unfolding reached
led [] {e = e} {x} h q = let z : e ≡ x = cc in same_led z (led_here h)
led (step p n ∷ way) {e = e} h q =
    let (y, a, b) = reached_step way (nth n (those p (elements (contents_of e)))) q in
    led_step n h a (λ j v k. led way k b)

-- THE LAW: what a way reaches in the document of a text has a place in the text
pub there : (way : List WayStep) {text : List ℕ} {e x : Element} → parse text ≡ Some e → reached way e ≡ Some x
    → (start : ℕ) × WayPlace way (within_of x) text start
there way {text} {e} {x} h q = by (parse_sound text e h)
  where
    by : {t : List ℕ} → Writes e t → (start : ℕ) × WayPlace way (within_of x) t start
    by (Grammar.document {p} {u} {w} {v} a b k c) =
        let l = led way k q in
        (length (p ⊹ u ⊹ l.before ⊹ l.tag), place a b l.leads c refl l.tagged)
