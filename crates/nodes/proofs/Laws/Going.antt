-- Going on in a row of children, at a position of the text: one law for each way.
use Rattle.std.specs.Prelude.{◌≡◌, List, drop, Option, Some, None, ℕ}
use Rattle.std.proofs.Math.Path.{refl, sym, ap}
use Rattle.std.proofs.Common.{◌∙◌, arith, rules}
use Prim.Native.Nat.{ℕ, ◌-◌, ◌<◌}
use Rattle.std.proofs.Math.ListN.{length, length-drop}
use Rattle.grammar.specs.Read.{Reader}
use Rattle.grammar.proofs.Laws.Read.{Ok, ok_got}
use Rattle.grammar.specs.Parser.{Look, at_close, at_comment, at_data, at_element, at_text, look, comment_at, data_at_lem}
use Rattle.grammar.proofs.Laws.Sound.{comment_sound, data_sound}
use Rattle.steps.specs.Step.{stepped, Went}
use Rattle.steps.proofs.Laws.Step.{tails, fell, Tails, went}
use Rattle.steps.specs.Pieces.{front}
use Rattle.steps.specs.declared.pieces.Front.{Front}
use Rattle.steps.specs.declared.pieces.Front.TheVariants as front_is
use Rattle.nodes.proofs.Laws.Depth.{comment_eats, data_eats}
use Rattle.nodes.specs.Scan.{to_tag}
use Rattle.nodes.specs.Children.{kid_then, kid_by, kid_at}
use Rattle.nodes.proofs.Laws.Children.{kid_step}
use Rattle.nodes.proofs.Laws.Scan.{looks_close, looks_comment, looks_data, looks_start, looks_text}
use Rattle.nodes.proofs.Laws.Skip.{tag_lies, tag_short}

pub record Going (text : List ℕ) (at i : ℕ) : Type 0 where
  same_kid : kid_at (length text) (drop at text) ≡ kid_at (length text) (drop i text)

pub going_start : (text : List ℕ) (at : ℕ) → Going text at at
going_start text at = record { same_kid = refl }

module _ (text : List ℕ) (at i : ℕ) (go : Going text at i) {t : ℕ} (et : t ≡ length text - length (to_tag (drop i text))) {f : Front}
    (ef : f ≡ front (look (drop t text))) where
  stepped_by : (l : Look) → look (drop t text) ≡ l
      → kid_at (length text) (drop at text) ≡ kid_by l (kid_at (length text)) (length text) (drop t text)
  stepped_by l q = let z : to_tag (drop i text) ≡ drop t text = (tag_lies text i et).rest in go.same_kid
      ∙ kid_step (length text) (drop i text) ∙ rw (z, q)

  pub going_close : f ≡ front_is.Close → None ≡ kid_at (length text) (drop at text)
  unfolding kid_by
  going_close q = sym (stepped_by at_close (looks_close (drop t text) ef q))

  pub going_text : f ≡ front_is.Text → None ≡ kid_at (length text) (drop at text)
  unfolding kid_by
  going_text q = sym (stepped_by at_text (looks_text (drop t text) ef q))

  pub going_child : f ≡ front_is.Start → Some t ≡ kid_at (length text) (drop at text)
  unfolding kid_by
  going_child q =
      let z : length text - length (drop t text) ≡ t = simp length-drop (omega (arith, (tag_lies text i et).inside)) in
      sym (stepped_by at_element (looks_start (drop t text) ef q) ∙ ap Some z)

  -- what is passed over, a comment or CDATA
  module _ {A : Type 0} (p : Reader A) (l : Look) (q : look (drop t text) ≡ l)
      (by : kid_by l (kid_at (length text)) (length text) (drop t text) ≡ kid_then (p (drop t text)) (kid_at (length text)))
      (eats : (s : List ℕ) → Ok (λ _ r. length r < length s) (p s)) (leaves : (s : List ℕ) → Ok (Tails s) (p s))
      {x : Option ℕ} (k : x ≡ stepped (length text) (p (drop t text))) where
    over : kid_at (length text) (drop at text) ≡ kid_then (p (drop t text)) (kid_at (length text))
    over = stepped_by l q ∙ by

    over_stuck : x ≡ None → None ≡ kid_at (length text) (drop at text)
    unfolding kid_then
    over_stuck z = sym (over ∙ rw (fell (length text) (p (drop t text)) (sym z ∙ k)))

    module _ {j : ℕ} (z : x ≡ Some j) where
      passed : Went p text t j
      passed = went p text t j (leaves (drop t text)) (sym z ∙ k)

      over_on : Going text at j
      unfolding kid_then
      over_on = record { same_kid = over ∙ rw passed.reads }

      over_less : length text - j < length text - i
      over_less =
          let h : length (drop j text) < length (drop t text) = ok_got (rw passed.reads at (eats (drop t text))) in
          omega (arith, tag_short text i et, length-drop j text, length-drop t text)

  module _ (q : f ≡ front_is.Comment) {x : Option ℕ} (k : x ≡ stepped (length text) (comment_at (drop t text))) where
    pub going_stuck : x ≡ None → None ≡ kid_at (length text) (drop at text)
    unfolding kid_by
    going_stuck z = over_stuck comment_at at_comment (looks_comment (drop t text) ef q) refl comment_eats (λ s. tails (comment_sound s)) k z

    pub going_on : {j : ℕ} → x ≡ Some j → Going text at j
    unfolding kid_by
    going_on z = over_on comment_at at_comment (looks_comment (drop t text) ef q) refl comment_eats (λ s. tails (comment_sound s)) k z

    pub going_less : {j : ℕ} → x ≡ Some j → length text - j < length text - i
    unfolding kid_by
    going_less z = over_less comment_at at_comment (looks_comment (drop t text) ef q) refl comment_eats (λ s. tails (comment_sound s)) k z

  module _ (q : f ≡ front_is.Data) {x : Option ℕ} (k : x ≡ stepped (length text) (data_at_lem (drop t text))) where
    pub data_stuck : x ≡ None → None ≡ kid_at (length text) (drop at text)
    unfolding kid_by
    data_stuck z = over_stuck data_at_lem at_data (looks_data (drop t text) ef q) refl data_eats (λ s. tails (data_sound s)) k z

    pub data_on : {j : ℕ} → x ≡ Some j → Going text at j
    unfolding kid_by
    data_on z = over_on data_at_lem at_data (looks_data (drop t text) ef q) refl data_eats (λ s. tails (data_sound s)) k z

    pub data_less : {j : ℕ} → x ≡ Some j → length text - j < length text - i
    unfolding kid_by
    data_less z = over_less data_at_lem at_data (looks_data (drop t text) ef q) refl data_eats (λ s. tails (data_sound s)) k z

pub ruleset going = (
  going_start,
  going_close,
  going_text,
  going_child,
  going_stuck,
  going_on,
  going_less,
  data_stuck,
  data_on,
  data_less,
  rules,
)
