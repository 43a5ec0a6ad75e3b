-- What is proved of Later.
use Rattle.std.specs.Prelude.{◌≡◌, List, [], Bool, true, cond, ◌||◌, ℕ, eqb, length}
use Rattle.std.proofs.Math.Path.{refl, sym}
use Rattle.std.proofs.Common.{◌∙◌, rules}
use Rattle.std.proofs.Math.Bool.{false}
use Rattle.std.proofs.Math.Dec.{ltb}
use borrow.Author.Tests.{ltb-false, ne_eqb}
use Rattle.lists.proofs.Laws.Booleans.{or_right}
use Rattle.lists.specs.Lists.{greatest, total}
use Rattle.lists.specs.Refusals.{positive}
use Rattle.lists.proofs.Laws.Refusals.{first_append}
use Rattle.cifti.specs.Maps.{Map, length_of, brain_maps}
use Rattle.cifti.specs.Conditions as C
use Rattle.cifti.specs.Conditions.{room_short, key_twice, labels_twice}
use Rattle.maps.specs.Ready.{Ready, maps_at}
use Rattle.maps.specs.declared.survey.Maps.{Maps}
use Rattle.models.specs.Judged.{model_rows, model_refusal}
use Rattle.models.proofs.Laws.Judged.{refusal_fine}
use Rattle.models.specs.declared.judge.Judged.{Judged}
use Rattle.table.specs.Twice.{AllFine, ToldAll}
use Rattle.reader.specs.Later.{rules_after, table_rule, Asked, MapsFine, Later}

pub rule_all : (room work : ℕ) (l : List Map)
    → table_rule room work l ≡ cond (eqb (model_refusal l) 0) (C.first (rules_after room work l)) (model_refusal l)
unfolding table_rule model_refusal positive
rule_all room work l = first_append (model_rows l) (rules_after room work l) refl

module _ {text : List ℕ} {maps : Maps} {j : Judged} (a : Asked text maps j) where
  pub later_ready : Ready text maps
  later_ready = a.ready

  pub later_judged : (j.number ≡ 0 → ⊥) → (room : ℕ) (work : List ℕ) → Later text maps room work j.number work
  later_judged k room work = record {
    told = sym
        (rule_all room (length work) (maps_at text maps) ∙ rw (← a.judges.number_is, ne_eqb j.number 0 k));
    long = refl;
  }

  module _ (z : j.number ≡ 0) where
    none : model_refusal (maps_at text maps) ≡ 0
    none = sym a.judges.number_is ∙ z

    module _ {b : Bool} (room : ℕ) (work : List ℕ) (q : b ≡ room_short room (length work) (maps_at text maps)) where
      pub later_short : b ≡ true → Later text maps room work 13 work
      unfolding C.first
      later_short t = record { told = sym (rule_all room (length work) (maps_at text maps) ∙ rw (none, sym q ∙ t)); long = refl }

      module _ (f : b ≡ false) where
        later_fine : AllFine text maps j (length work)
        unfolding room_short
        later_fine =
            let l = maps_at text maps in
            let h : (ltb room (total length_of (brain_maps l)) || ltb (length work) (greatest length_of (brain_maps l))) ≡ false = sym q ∙ f in
            record {
              ready = a.ready;
              fine = record {
                fine = refusal_fine l none;
                room = ltb-false (length work) (greatest length_of (brain_maps l))
                    (or_right (ltb room (total length_of (brain_maps l))) _ h);
              };
              held = a.judges.held z;
            }

        pub later_asks : MapsFine text maps j (length work)
        later_asks = record { all_fine = later_fine; judges = a.judges }

        module _ {c : Bool} {after : List ℕ} (s : ToldAll text maps work c after) where
          pub later_twice : c ≡ true → Later text maps room work 14 after
          unfolding C.first
          later_twice t = record {
            told = sym (rule_all room (length work) (maps_at text maps) ∙ rw (none, sym q ∙ f, sym s.told ∙ t));
            long = s.long;
          }

          module _ (n : c ≡ false) {k : Bool} (key : k ≡ key_twice (maps_at text maps)) where
            pub later_key : k ≡ true → Later text maps room work 24 after
            unfolding C.first
            later_key t = record {
              told = sym (rule_all room (length work) (maps_at text maps) ∙ rw (none, sym q ∙ f, sym s.told ∙ n, sym key ∙ t));
              long = s.long;
            }

            module _ (y : k ≡ false) {l : Bool} (labels : l ≡ labels_twice (maps_at text maps)) where
              pub later_labels : l ≡ true → Later text maps room work 25 after
              unfolding C.first
              later_labels t = record {
                told = sym (rule_all room (length work) (maps_at text maps)
                    ∙ rw (none, sym q ∙ f, sym s.told ∙ n, sym key ∙ y, sym labels ∙ t));
                long = s.long;
              }

              pub later_none : l ≡ false → Later text maps room work 0 after
              unfolding C.first
              later_none t = record {
                told = sym (rule_all room (length work) (maps_at text maps)
                    ∙ rw (none, sym q ∙ f, sym s.told ∙ n, sym key ∙ y, sym labels ∙ t));
                long = s.long;
              }

pub ruleset latering = (later_ready, later_judged, later_short, later_asks, later_twice, later_key, later_labels, later_none, rules)

-- ---- 14, decided already or not.

module _ {text : List ℕ} {maps : Maps} {j : Judged} where
  pub twice_asks : {work : ℕ} → MapsFine text maps j work → AllFine text maps j work
  twice_asks m = m.all_fine

  pub twice_apart : (work : List ℕ) → MapsFine text maps j (length work) → j.apart ≡ true → ToldAll text maps work false work
  twice_apart work m t = record { told = sym (m.judges.apart_is t); long = refl }

pub ruleset twicing = (twice_asks, twice_apart, rules)
