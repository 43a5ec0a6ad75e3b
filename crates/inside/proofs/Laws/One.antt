-- What is proved of One.
use Rattle.std.specs.Prelude.{◌≡◌, refl, List, [], ◌++◌, ℕ, ◌+◌, ◌-◌, length, drop, Option, Some}
use Rattle.std.proofs.Common.{ap, sym, ◌∙◌, subst, append_assoc, append-nil, arith, length-append}
use Rattle.std.proofs.Math.Seq.{drop-append_seam, take-append_seam}
use Rattle.lists.proofs.Laws.Booleans.{clash}
use Rattle.grammar.specs.Document.{Element}
use Rattle.grammar.specs.Grammar.{Declaration, Prologue}
use Rattle.grammar.specs.Look.{within_of}
use Rattle.grammar.specs.Parser.{parse}
use Rattle.grammar.specs.Read.{got}
use Rattle.nodes.specs.Places.{element₁₆, Stands}
use Rattle.nodes.proofs.Laws.Places.{stands_read, the_read, Tail, tail_more}
use Rattle.nodes.specs.ScanSteps.{tag_told}
use Rattle.nodes.specs.Root.{root, root_by}
use Rattle.nodes.proofs.Laws.Root.{whole_tail}
use Rattle.nodes.specs.Inside.{between_tags}
use Rattle.nodes.proofs.Laws.Inside.{within_law}
use Rattle.nodes.proofs.Laws.ReadSteps.{eats_child}
use Rattle.inside.specs.Way.{WayStep, reached, Leads, here, down, Tagged, between, nothing_between, WayPlace, place}
use Rattle.inside.proofs.Laws.Written.{element_opens, before_reads}
use Rattle.inside.specs.Walked.{walked, walked_from, way_at}
use Rattle.inside.proofs.Laws.Walked.{Agrees, not_there, stands_there, way_agrees}
use Rattle.inside.proofs.Laws.Along.{start_read, only_read, leads_writes, along}
use Rattle.inside.proofs.Laws.There.{there}
use Rattle.inside.specs.One.{behind_tag, tag_end, Met, PartStands}

tag_ends : {part tag s : List ℕ} → Tagged part tag s → (text : List ℕ) (k : ℕ) (r : List ℕ) → drop k text ≡ s ++ r
    → k + length (s ++ r) ≡ length text → tag_end text k ≡ k + length tag
unfolding tag_end behind_tag tag_told
tag_ends {part} (between {tag} rest h) text k r e n =
    let z : (tag ++ (part ++ rest)) ++ r ≡ tag ++ ((part ++ rest) ++ r) = append_assoc tag (part ++ rest) r in
    let m : length ((tag ++ (part ++ rest)) ++ r) ≡ length tag + length ((part ++ rest) ++ r) =
    ap length z ∙ length-append tag ((part ++ rest) ++ r) in
    rw (e, z, start_read h ((part ++ rest) ++ r)) (omega arith)
tag_ends (nothing_between {tag} h q) text k r e n =
    let m : length (tag ++ r) ≡ length tag + length r = length-append tag r in
    rw (e, only_read h r) (omega arith)

root_at : {p u w : List ℕ} {way : List WayStep} {d : ℕ} {e x : Element} {before s : List ℕ} → Declaration p → Prologue u
    → Leads way d e w before x s → (v : List ℕ)
    → way_at way (p ++ (u ++ (w ++ v))) ≡ walked way (p ++ (u ++ (w ++ v))) (length (p ++ (u ++ (w ++ v))) - length (w ++ v))
unfolding way_at walked_from root root_by
root_at h k l v = rw (before_reads h k (element_opens (leads_writes l)) v)

pub place_met : {way : List WayStep} {part text : List ℕ} {start : ℕ} → WayPlace way part text start → Met way part text start
place_met {way} {part} (place {p} {u} {w} {v} {before} {tag} {s} {cs} {e} {x} h k l z q g) =
    let text : List ℕ = p ++ (u ++ (w ++ v)) in
    let t : Tail text (w ++ v) = tail_more u (w ++ v) refl (tail_more p (u ++ (w ++ v)) refl (whole_tail text)) in
    let end = along text l (omega arith) v t in
    let at : ℕ = length text - length (s ++ end.rest) in
    let d₁ : drop at text ≡ s ++ end.rest = end.tail.stands in
    let fits = end.tail.fits in
    let reads : element₁₆ (drop at text) ≡ got x end.rest = rw d₁ end.reads in
    let short = eats_child (s ++ end.rest) end.reads in
    let st : Stands text at = stands_read text at (omega arith) reads in
    let n₁ : length text ≡ length p + (length u + length (w ++ v)) =
    length-append p (u ++ (w ++ v)) ∙ ap (λ i. length p + i) (length-append u (w ++ v)) in
    let n₂ : length (p ++ (u ++ (before ++ tag))) ≡ length p + (length u + (length before + length tag)) =
    length-append p (u ++ (before ++ tag))
    ∙ ap (λ i. length p + i) (length-append u (before ++ tag) ∙ ap (λ i. length u + i) (length-append before tag)) in
    let far = end.far in
    let ends : tag_end text at ≡ at + length tag = tag_ends g text at end.rest d₁ (omega arith) in
    record {
      at = at;
      finds = root_at h k l v ∙ end.finds;
      starts = omega arith;
      within_is = sym q ∙ ap within_of (sym (the_read text at reads)) ∙ sym (within_law st);
    }

-- AT MOST ONE PLACE
pub place_unique : {way : List WayStep} {part part₁ text : List ℕ} {start start₁ : ℕ} → WayPlace way part text start
    → WayPlace way part₁ text start₁ → (start ≡ start₁) × (part ≡ part₁)
place_unique {text = text} a b =
    let p = place_met a in
    let q = place_met b in
    let f = p.finds in
    let g = q.finds in
    let z : p.at ≡ q.at = cc in
    (p.starts ∙ ap (tag_end text) z ∙ sym q.starts, p.within_is ∙ ap (between_tags text) z ∙ sym q.within_is)

-- ---- The text is what stands before, the tag, the part, and the rest.

leads_whole : {way : List WayStep} {d : ℕ} {e x : Element} {w before s : List ℕ} → Leads way d e w before x s
    → (after : List ℕ) × (w ≡ before ++ (s ++ after))
leads_whole (here {w = w} h) = ([], sym (append-nil w))
leads_whole (down {tag = tag} {a} {v} {before} {s} rest h tg c y k) =
    let (after, e) = leads_whole k in
    (after ++ rest, ap (λ l. tag ++ (a ++ (l ++ rest))) e ∙ simp append_assoc refl)

tagged_whole : {part tag s : List ℕ} → Tagged part tag s → (after : List ℕ) × (s ≡ tag ++ (part ++ after))
tagged_whole (between rest h) = (rest, refl)
tagged_whole (nothing_between {tag} h q) = ([], sym (rw q (append-nil tag)))

cut : (before part rest text : List ℕ) → text ≡ before ++ (part ++ rest) → PartStands text (length before) part
cut before part rest text e =
    let n : length (before ++ (part ++ rest)) ≡ length before + (length part + length rest) =
    length-append before (part ++ rest) ∙ ap (λ i. length before + i) (length-append part rest) in
    rw e (record { inside = omega arith; is = rw (drop-append_seam before (part ++ rest)) (take-append_seam part rest) })

pub place_cut : {way : List WayStep} {part text : List ℕ} {start : ℕ} → WayPlace way part text start → PartStands text start part
place_cut {part = part} (place {p} {u} {w} {v} {before} {tag} {s} h k l z q g) =
    let (after, a) = leads_whole l in
    let (rest, b) = tagged_whole g in
    cut (p ++ (u ++ (before ++ tag))) part (rest ++ (after ++ v)) (p ++ (u ++ (w ++ v)))
    (ap (λ x. p ++ (u ++ (x ++ v))) (a ∙ ap (λ x. before ++ (x ++ after)) b) ∙ simp append_assoc refl)

-- THE WALK FINDS THE PLACE: what the way reaches in the document of a text has its place behind the tag of the element that the walk
-- finds
pub place_found : (way : List WayStep) {text : List ℕ} {e : Element} {k : ℕ} → parse text ≡ Some e → way_at way text ≡ Some k
    → WayPlace way (between_tags text k) text (tag_end text k)
place_found way {text} {e} {k} h f = by (way_agrees way text h) refl refl
  where
    at_place : {x : Element} → reached way e ≡ Some x → WayPlace way (between_tags text k) text (tag_end text k)
    at_place q =
        let (start, pl) = there way h q in
        let m = place_met pl in
        let g = m.finds in
        let z : m.at ≡ k = cc in
        subst (λ (n : ℕ). WayPlace way (between_tags text k) text n) (m.starts ∙ ap (tag_end text) z)
        (subst (λ (l : List ℕ). WayPlace way l text start) (m.within_is ∙ ap (between_tags text) z) pl)

    by : {r : Option ℕ} {o : Option Element} → Agrees text r o → way_at way text ≡ r → reached way e ≡ o
        → WayPlace way (between_tags text k) text (tag_end text k)
    by not_there p q = clash (cc)
    by (stands_there st) p q = at_place q
