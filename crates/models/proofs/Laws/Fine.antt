-- Maps to which 10, 11 and 12 do not apply, by the first map and the others.
use Rattle.std.specs.Prelude.{◌≡◌, refl, List, ◌∷◌, Bool, true, cond, ◌&&◌, ◌||◌}
use Rattle.std.proofs.Common.{sym, ◌∙◌}
use Rattle.std.proofs.Math.Bool.{false}
use Rattle.lists.proofs.Laws.Booleans.{or_left, or_right}
use Rattle.lists.specs.Lists.{any, those, two_of}
use Rattle.cifti.specs.Maps.{Map, brain_maps, is_brain}
use Rattle.cifti.specs.Conditions.{alike, uneven, beyond, models_share, ranges_wrong, numbers_outside}
use Rattle.models.specs.Fine.{Fine, FineMap}

pub ranges_more : (m : Map) (l : List Map) → ranges_wrong (m ∷ l) ≡ ((is_brain m.kind && uneven m) || ranges_wrong l)
unfolding ranges_wrong brain_maps those any
ranges_more m l = go (is_brain m.kind)
  where
    go : (b : Bool) → any uneven (cond b (m ∷ brain_maps l) (brain_maps l)) ≡ ((b && uneven m) || any uneven (brain_maps l))
    go true = refl
    go false = refl

module _ {m : Map} {l : List Map} (f : Fine (m ∷ l)) where
  pub fine_first : FineMap m
  unfolding models_share numbers_outside any
  fine_first = record {
    apart = or_left _ _ f.share;
    even = λ b. (let h : (is_brain m.kind && uneven m)
        ≡ false = or_left (is_brain m.kind && uneven m) (ranges_wrong l) (sym (ranges_more m l) ∙ f.ranges) in rw b at h);
    in_volume_lem = or_left _ _ f.inside;
  }

  pub fine_rest : Fine l
  unfolding models_share numbers_outside any
  fine_rest = record {
    share = or_right (two_of alike m.models) _ f.share;
    ranges = or_right (is_brain m.kind && uneven m) _ (sym (ranges_more m l) ∙ f.ranges);
    inside = or_right (any (λ b. beyond m.volume b.listed) m.models) _ f.inside;
  }
