-- FRONT-CUT: where the data offset is not past the bytes, the front of a file is the front of the bytes before it. So a caller may read no
-- further than that.
use Rattle.std.specs.Prelude.{◌≡◌, List, Bool, ◌&&◌, ◌||◌, ℕ, ◌+◌, ◌*◌, ◌≤◌, ◌<◌, ltb, pos, length, get_or}
use Rattle.std.proofs.Math.Path.{refl, sym, ap}
use Rattle.std.proofs.Common.{◌∙◌, arith, le-leb, get_or-take, length-take-le}
use Rattle.std.proofs.Math.Bool.{true, false, not}
use Rattle.std.proofs.Math.Decide.{dec_lt}
use Rattle.std.proofs.Math.ListN.{take}
use Rattle.std.proofs.Math.Seq.{take-take}
use Rattle.std.proofs.lemmas.Bool.{lt-ltb, lt-leb}
use Rattle.lists.specs.Lists.{all_below}
use Rattle.lists.specs.Refusals.{first}
use Rattle.nifti.specs.Fields.{number_at, field_at_least}
use Rattle.nifti.specs.File.{order_of, offset, extender, size_stands, magic_at, offset_stands, front_stands, no_front}
use Rattle.nifti.specs.File.{conditions_of_front, front_by}
use Rattle.nifti.specs.File.{front_to, refused_front}
use Rattle.nifti.specs.Model.{cut_to, list_in, front_of}
use Rattle.nifti.proofs.Laws.Walk.{number_within}
use Rattle.front.proofs.Laws.Alike.{Alike, offset_alike, to_alike}
use Rattle.nifti.specs.declared.Order.{Order}

module _ (file : List ℕ) (end : ℕ) (inside : end ≤ length file) where
  abbrev short : List ℕ
  short = take end file

  short_length : length short ≡ end
  short_length = length-take-le end file inside

  module _ (long : 544 ≤ end) where
    number_same : (o : Order) (w k : ℕ) → k + w ≤ 544 → number_at o w k short ≡ number_at o w k file
    number_same o w k h = number_within o w k end file (omega arith)

    byte_same : (k : ℕ) → k < 544 → get_or short k 0 ≡ get_or file k 0
    byte_same k h = get_or-take end file k 0 (omega arith)

    order_same : order_of short ≡ order_of file
    unfolding order_of
    order_same = rw (number_same _ 4 0 (omega arith))

    extender_same : extender short ≡ extender file
    unfolding extender
    extender_same = byte_same 540 (omega arith)

    alike : Alike short file
    alike =
        let l = short_length in
        record {
          long = omega arith;
          as_long = omega arith;
          size = rw order_same (number_same (order_of file) 4 0 (omega arith));
          magic_too = λ i h. byte_same (4 + i) (omega arith);
          dims = λ n h. rw order_same (number_same (order_of file) 8 (16 + 8 * n) (omega arith));
          ends = rw order_same (number_same (order_of file) 8 168 (omega arith));
        }

    list_same : offset file ≡ pos end → list_in short ≡ list_in file
    unfolding list_in cut_to
    list_same e =
        let t : take end (take end file) ≡ take end file = take-take end end file (omega arith) in
        rw (
          extender_same,
          offset_alike alike,
          e,
          order_same,
          short_length,
          le-leb end end (omega arith),
          le-leb end (length file) inside,
          t,
        )

    long_same : offset file ≡ pos end → front_of short ≡ front_of file
    unfolding front_of
    long_same e = ap (front_to short) (list_same e) ∙ to_alike alike (list_in file)

  -- a data offset below the list: both are refused
  below_front : offset file ≡ pos end → end < 544 → no_front file ≡ true
  unfolding no_front front_stands offset_stands field_at_least
  below_front e h = go (ltb (length file) 544) (size_stands file) (all_below 8 (magic_at file))
      (ap (field_at_least 544) e ∙ lt-leb 544 end h)
    where
      go : (a b c : Bool) {d : Bool} → d ≡ false → (a || not (b && (c && d))) ≡ true
      go true b c q = refl
      go false true true q = rw q
      go false true false q = refl
      go false false c q = refl

  refused_20 : (s : List ℕ) → no_front s ≡ true → front_of s ≡ refused_front 20
  unfolding front_of front_to conditions_of_front first front_by
  refused_20 s h = rw h

  below_same : offset file ≡ pos end → end < 544 → front_of short ≡ front_of file
  unfolding no_front
  below_same e h =
      let l = short_length in
      let u : no_front short ≡ true = rw (lt-ltb (length short) 544 (omega arith)) in
      refused_20 short u ∙ sym (refused_20 file (below_front e h))

  pub front_cut : offset file ≡ pos end → front_of (take end file) ≡ front_of file
  front_cut e = go (dec_lt end 544)
    where
      go : Dec (end < 544) → front_of short ≡ front_of file
      go (yes h) = below_same e h
      go (no h) = long_same (omega arith) e
