-- What is proved of Ahead.
use Rattle.std.specs.Prelude.{◌≡◌, refl, List, ◌++◌, ℕ, zero, suc, ◌≤◌, ◌<◌, Bool, true, false, ◌||◌, length}
use Rattle.std.proofs.Common.{ap, ◌∙◌, arith, length-append}
use Rattle.lists.specs.Lists.{all}
use Rattle.grammar.specs.Bytes.{blank, Each}
use Rattle.grammar.specs.Read.{Read, fail, got, span}
use Rattle.grammar.proofs.Laws.Read.{span_sound, Ok, failed, good, ok_map}
use Rattle.grammar.specs.Parser.{Look, at_close, at_comment, at_data, at_element, at_text, look, comment_at, data_at_lem}
use Rattle.nodes.proofs.Laws.Depth.{comment_eats, data_eats}
use Rattle.nodes.specs.Places.{pick}
use Rattle.nodes.proofs.Laws.Scanned.{to_tag_short}
use Rattle.nodes.specs.declared.ahead.Ahead.{Ahead}
use Rattle.nodes.specs.Ahead.{after_gap, past_gap, gap_data, ahead_then, ahead_by, ahead_within, ahead_at}

behind_short : (s : List ℕ) (m : Read (List ℕ)) → Ok (λ w r. length r ≤ length s) m → length (after_gap m) ≤ length s
unfolding after_gap
behind_short s fail h = omega arith
behind_short s (got w r) (good h) = h

pub gap_short : (words : Bool) (s : List ℕ) → length (past_gap words s) ≤ length s
unfolding past_gap
gap_short true s = to_tag_short s
gap_short false s = behind_short s (span blank s) (shorter (span_sound blank s))
  where
    shorter : {m : Read (List ℕ)} → Ok (λ w r. (s ≡ w ++ r) × Each blank w) m → Ok (λ w r. length r ≤ length s) m
    shorter h = ok_map h λ w r k. omega (arith, ap length k.0, length-append w r)

-- fuel changes nothing
then_same : (m : Read (Unit {0})) (f g : List ℕ → Ahead) (s : List ℕ) → Ok (λ _ r. length r < length s) m
    → ((r : List ℕ) → length r < length s → f r ≡ g r) → ahead_then m f ≡ ahead_then m g
unfolding ahead_then
then_same fail f g s h k = refl
then_same (got u r) f g s (good h) k = k r h

pub gap_data_eats : (words : Bool) (s : List ℕ) → Ok (λ _ r. length r < length s) (gap_data words (data_at_lem s))
unfolding gap_data
gap_data_eats words s = go (data_at_lem s) (data_eats s)
  where
    by : (t : Bool) (r : List ℕ) → length r < length s → Ok (λ _ r. length r < length s) (pick {A = Read (Unit {0})} t (got tt r) fail)
    by true r h = good h
    by false r h = failed

    go : (m : Read (List ℕ)) → Ok (λ _ r. length r < length s) m → Ok (λ _ r. length r < length s) (gap_data words m)
    go fail h = failed
    go (got b r) (good h) = by (words || all blank b) r h

by_same : (words : Bool) (f g : List ℕ → Ahead) (l : Look) (n : ℕ) (s : List ℕ) → ((r : List ℕ) → length r < length s → f r ≡ g r)
    → ahead_by words l f n s ≡ ahead_by words l g n s
unfolding ahead_by
by_same words f g at_close n s h = refl
by_same words f g at_comment n s h = then_same (comment_at s) f g s (comment_eats s) h
by_same words f g at_data n s h = then_same (gap_data words (data_at_lem s)) f g s (gap_data_eats words s) h
by_same words f g at_element n s h = refl
by_same words f g at_text n s h = refl

ahead_suc : (m : ℕ) (words : Bool) (n : ℕ) (s : List ℕ)
    → ahead_within (suc m) words n s ≡ ahead_by words (look (past_gap words s)) (ahead_within m words n) n (past_gap words s)
unfolding ahead_within
ahead_suc m words n s = refl

ahead_enough : (m k : ℕ) (words : Bool) (n : ℕ) (s : List ℕ) → length s < m → length s < k
    → ahead_within m words n s ≡ ahead_within k words n s
ahead_enough zero k words n s h j = absurd (omega arith)
ahead_enough (suc m) zero words n s h j = absurd (omega arith)
ahead_enough (suc m) (suc k) words n s h j =
    rw (ahead_suc m words n s, ahead_suc k words n s)
    (by_same words (ahead_within m words n) (ahead_within k words n) (look (past_gap words s)) n (past_gap words s)
    (λ r l. ahead_enough m k words n r (omega (arith, gap_short words s)) (omega (arith, gap_short words s))))

pub ahead_step : (words : Bool) (n : ℕ) (s : List ℕ)
    → ahead_at words n s ≡ ahead_by words (look (past_gap words s)) (ahead_at words n) n (past_gap words s)
unfolding ahead_at
ahead_step words n s =
    ahead_suc (length s) words n s
    ∙ by_same words (ahead_within (length s) words n) (ahead_at words n) (look (past_gap words s)) n (past_gap words s)
    (λ r l. ahead_enough (length s) (suc (length r)) words n r (omega (arith, gap_short words s)) (omega arith))
