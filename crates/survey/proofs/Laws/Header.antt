-- The first of 1 to 9 that applies, by what was opened and surveyed.
use Rattle.std.specs.Prelude.{◌≡◌, List, [], ◌∷◌, Bool, true, false, ℕ, ◌≤◌, ◌<◌, length}
use Rattle.std.proofs.Math.Path.{sym}
use Rattle.std.proofs.Common.{ap, ◌∙◌, true≢false, arith, rules, le-ltb}
use Rattle.std.proofs.Math.Decide.{dec_lt}
use Rattle.lists.specs.Lists.{there}
use Rattle.nodes.specs.Places.{the}
use Rattle.cifti.specs.Conditions as C
use Rattle.cifti.specs.Conditions.{◌when◌, dimensions_wrong, length_wrong, of_maps, text_too_long}
use Rattle.maps.specs.Survey.{MatrixAt, MapsAre}
use Rattle.maps.specs.Ready.{matrix_maps, maps_at, Ready}
use Rattle.maps.proofs.Laws.Ready.{maps_many, maps_ready, maps_same}
use Rattle.maps.specs.ListedOnce.{Surveyed}
use Rattle.maps.specs.declared.survey.Maps.{Maps}
use Rattle.opening.specs.Opening.{Opens, Passed, header_number}
use Rattle.opening.proofs.Laws.Opening.{header_document, lengths_three}
use Rattle.opening.specs.declared.header.Opening.{Opening}
use Rattle.survey.specs.Header.{Surveys}
use Rattle.survey.specs.declared.header.Survey.{Survey}

-- the rest of the header's conditions, where 1 to 7 do not apply
header_rest : {text lengths : List ℕ} {m : ℕ} → (p : Passed text lengths m)
    → header_number text lengths ≡ C.first
    (8 when dimensions_wrong lengths (matrix_maps (the text m)) ∷ 9 when length_wrong lengths (matrix_maps (the text m)) ∷ [])
unfolding of_maps there text_too_long
header_rest {text} {lengths} {m} p =
    header_document text lengths p.fine (le-ltb 16777216 (length text) p.short) p.document p.parsed
    ∙ rw (p.right_root, p.read_kinds, p.shape, p.numbers, p.maps)

module _ {text lengths : List ℕ} {o : Opening} (op : Opens text lengths o) where
  pub survey_refused : (o.number ≡ 0 → ⊥) → (s : Survey) → s.number ≡ o.number → Surveys text lengths s
  survey_refused k s e = record { number_is = e ∙ op.refused k; readied = λ z. absurd (k (sym e ∙ z)) }

  module _ (z : o.number ≡ 0) where
    passed : Passed text lengths o.matrix
    passed = op.passed z

    pub survey_matrix : MatrixAt text o.matrix
    survey_matrix = record { stands = passed.stands; good = passed.good; short = passed.short }

    module _ {maps : Maps} (are : MapsAre text o.matrix maps) where
      pub survey_asks : Surveyed text o.matrix maps lengths
      survey_asks = record { are = are; good = passed.good; few = lengths_three lengths passed.fine }

      module _ {b : Bool} (p : b ≡ dimensions_wrong lengths (matrix_maps (the text o.matrix))) where
        pub survey_unlisted : b ≡ true → (s : Survey) → s.number ≡ 8 → Surveys text lengths s
        unfolding C.first
        survey_unlisted t s e = record { number_is = e ∙ sym (header_rest passed ∙ rw (sym p ∙ t)); readied = λ y. absurd (omega arith) }

        module _ (f : b ≡ false) where
          few : maps.count ≤ 3
          few = go (dec_lt 3 maps.count)
            where
              go : Dec (3 < maps.count) → maps.count ≤ 3
              go (yes h) = absurd (true≢false
                  (sym (maps_many are passed.good lengths (lengths_three lengths passed.fine) h) ∙ sym p ∙ f))
              go (no h) = omega arith

          same : maps_at text maps ≡ matrix_maps (the text o.matrix)
          same = maps_same are passed.good few

          pub survey_room : Ready text maps
          survey_room = maps_ready are passed.good few

          module _ {c : Bool} (q : c ≡ length_wrong lengths (maps_at text maps)) where
            differing : length_wrong lengths (matrix_maps (the text o.matrix)) ≡ c
            differing = ap (length_wrong lengths) (sym same) ∙ sym q

            pub survey_differs : c ≡ true → (s : Survey) → s.number ≡ 9 → Surveys text lengths s
            unfolding C.first
            survey_differs t s e = record
                { number_is = e ∙ sym (header_rest passed ∙ rw (sym p ∙ f, differing ∙ t)); readied = λ y. absurd (omega arith) }

            pub survey_passes : c ≡ false → (s : Survey) → s.number ≡ 0 → s.maps ≡ maps → Surveys text lengths s
            unfolding C.first
            survey_passes g s e h = record {
              number_is = e ∙ sym (header_rest passed ∙ rw (sym p ∙ f, differing ∙ g));
              readied = λ _. rw h (record {
                document = passed.document;
                parsed = passed.parsed;
                room = survey_room;
                all = same ∙ sym passed.maps;
                listed = rw same (sym p ∙ f);
              });
            }

pub ruleset surveyed = (survey_refused, survey_matrix, survey_asks, survey_unlisted, survey_room, survey_differs, survey_passes, rules)
