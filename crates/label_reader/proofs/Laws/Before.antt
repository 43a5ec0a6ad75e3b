-- What is proved of Before.
use Rattle.std.specs.Prelude.{◌≡◌, List, [], Bool, true, false, ℕ, length}
use Rattle.std.proofs.Math.Path.{refl, sym}
use Rattle.std.proofs.Common.{ap, ◌∙◌, rules}
use Rattle.lists.specs.Lists.{there}
use Rattle.lists.specs.Refusals.{first, positive}
use Rattle.lists.proofs.Laws.Refusals.{first_kept, first_none, given_none}
use Rattle.grammar.specs.Parser.{parse}
use Rattle.cifti.specs.Maps.{maps_of}
use Rattle.cifti.specs.Conditions.{conditions_of_header, conditions_of_labels, of_maps, key_twice, labels_twice}
use Rattle.maps.specs.Ready.{Ready, maps_at}
use Rattle.survey.specs.Header.{Surveys, Readied}
use Rattle.survey.specs.declared.header.Survey.{Survey}
use Rattle.label_reader.specs.Before.{number_before}

module _ {text lengths : List ℕ} {s : Survey} (sv : Surveys text lengths s) where
  pub before_refused : (s.number ≡ 0 → ⊥) → s.number ≡ number_before text lengths
  unfolding number_before
  before_refused k =
      sym (first_kept (conditions_of_header lengths (length text) (parse text)) (conditions_of_labels (parse text)) s.number k
      (sym sv.number_is))

  module _ (z : s.number ≡ 0) where
    got : Readied text lengths s.maps
    got = sv.readied z

    pub before_ready : Ready text s.maps
    before_ready = got.room

    rest : number_before text lengths ≡ first (conditions_of_labels (parse text))
    unfolding number_before conditions_of_header positive
    rest = first_none (given_none (conditions_of_header lengths (length text) (parse text)) refl (sym sv.number_is ∙ z))
        (conditions_of_labels (parse text))

    module _ {k : Bool} (key : k ≡ key_twice (maps_at text s.maps)) where
      key_so : key_twice (maps_of got.document) ≡ k
      key_so = ap key_twice (sym got.all) ∙ sym key

      pub before_key : k ≡ true → 24 ≡ number_before text lengths
      unfolding conditions_of_labels of_maps there first
      before_key t = sym (rest ∙ rw (got.parsed, key_so ∙ t) refl)

      module _ (f : k ≡ false) {l : Bool} (labels : l ≡ labels_twice (maps_at text s.maps)) where
        labels_so : labels_twice (maps_of got.document) ≡ l
        labels_so = ap labels_twice (sym got.all) ∙ sym labels

        pub before_labels : l ≡ true → 25 ≡ number_before text lengths
        unfolding conditions_of_labels of_maps there first
        before_labels t = sym (rest ∙ rw (got.parsed, key_so ∙ f, labels_so ∙ t) refl)

        pub before_none : l ≡ false → 0 ≡ number_before text lengths
        unfolding conditions_of_labels of_maps there first
        before_none t = sym (rest ∙ rw (got.parsed, key_so ∙ f, labels_so ∙ t) refl)

pub ruleset before = (before_refused, before_ready, before_key, before_labels, before_none, rules)
