-- THE WHOLE: conditions 1 to 9, then 10 to 14, 24 and 25, then the table and the answer.
use Rattle.std.specs.Prelude.{◌≡◌, List, [], ◌++◌, cond, ℕ, zero, suc, ◌+◌, eqb, ltb, length, replicate, Some}
use Rattle.std.proofs.Math.Path.{refl}
use Rattle.std.proofs.Common.{sym, ap, ◌∙◌, rules}
use borrow.Author.Tests.{ne_eqb, ltb-false}
use Rattle.lists.specs.Lists.{there, total, greatest}
use Rattle.lists.proofs.Laws.Booleans.{or_left}
use Rattle.lists.specs.Refusals.{positive}
use Rattle.lists.proofs.Laws.Refusals.{first_append, given_none, row_fails, rows_past}
use Rattle.grammar.specs.Document.{Element}
use Rattle.grammar.specs.Parser.{parse}
use Rattle.cifti.specs.Maps.{maps_of, length_of, brain_maps}
use Rattle.cifti.specs.Conditions as C
use Rattle.cifti.specs.Conditions.{conditions_of_header, conditions_of_table, conditions_of_labels, refusal, of_maps, room_short}
use Rattle.cifti.specs.Answer.{accepted_with, refused_with, answer_by, records_by, stretches, filled_with, Reads}
use Rattle.cifti.specs.Answer as A
use Rattle.cifti.proofs.Laws.Theorems.{reads_by, answer_of, records_of, number_of}
use Rattle.cifti.specs.declared.answer.Answer.{Answer}
use Rattle.maps.specs.Ready.{Ready, maps_at}
use Rattle.models.specs.Fine.{Fine}
use Rattle.models.specs.Judged.{JudgesIn}
use Rattle.models.proofs.Laws.Judged.{fine_refusal}
use Rattle.models.specs.declared.judge.Judged.{Judged}
use Rattle.table.specs.Stretches.{Fillable}
use Rattle.opening.specs.Opening.{header_number}
use Rattle.survey.specs.Header.{Surveys, Readied}
use Rattle.reader.specs.Later.{Asked, Later, table_rules, table_rule}
use Rattle.survey.specs.declared.header.Survey.{Survey}

-- 1 to 9 first, then the rest
number_by : (text lengths records work : List ℕ)
    → number_of text lengths records work
    ≡ cond (eqb (header_number text lengths) 0)
    (C.first (conditions_of_table (length records) (length work) (parse text) ++ conditions_of_labels (parse text))) (header_number text lengths)
unfolding number_of refusal C.conditions conditions_of_header positive
number_by text lengths records work = first_append (conditions_of_header lengths (length text) (parse text))
    (conditions_of_table (length records) (length work) (parse text) ++ conditions_of_labels (parse text)) refl

later_by : (room work : ℕ) (e : Element)
    → C.first (conditions_of_table room work (Some e) ++ conditions_of_labels (Some e)) ≡ table_rule room work (maps_of e)
unfolding conditions_of_table conditions_of_labels of_maps there table_rule
later_by room work e = refl

-- a number of refusal, given
refused_by_lem : (text lengths records work : List ℕ) (n : ℕ) → (n ≡ 0 → ⊥) → number_of text lengths records work ≡ n → (a : Answer)
    → a ≡ refused_with n → (w : List ℕ) → w ≡ replicate (length work) 0 → Reads text lengths records work a records w
unfolding answer_of records_of answer_by records_by
refused_by_lem text lengths records work zero k p a q w c = absurd (k refl)
refused_by_lem text lengths records work (suc n) k p a q w c = reads_by text lengths records work a records w (q ∙ rw p) (rw p) c

module _ {text lengths : List ℕ} {s : Survey} (sv : Surveys text lengths s) (records work : List ℕ) where
  pub read_refused : (s.number ≡ 0 → ⊥) → {a : Answer} → a ≡ refused_with s.number → {w : List ℕ} → w ≡ replicate (length work) 0
      → Reads text lengths records work a records w
  read_refused k {a} q {w} c =
      refused_by_lem text lengths records work s.number k
      (number_by text lengths records work ∙ rw (← sv.number_is, ne_eqb s.number 0 k)) a q w c

  module _ (z : s.number ≡ 0) where
    got : Readied text lengths s.maps
    got = sv.readied z

    pub read_room : Ready text s.maps
    read_room = got.room

    module _ {j : Judged} {lent : List ℕ} (h : JudgesIn text s.maps work j lent) where
      pub read_asks : Asked text s.maps j
      read_asks = record { ready = got.room; judges = h.judges }

      module _ {v : ℕ} {after : List ℕ} (lt : Later text s.maps (length records) lent v after) where
        told : v ≡ table_rule (length records) (length work) (maps_at text s.maps)
        told = lt.told ∙ ap (λ n. table_rule (length records) n (maps_at text s.maps)) h.long

        number_is : number_of text lengths records work ≡ v
        number_is =
            number_by text lengths records work
            ∙ rw (← sv.number_is, z, got.parsed)
            (later_by (length records) (length work) got.document ∙ ap (table_rule (length records) (length work)) (sym got.all)
            ∙ sym told)

        clear_is : {w : List ℕ} → w ≡ replicate (length after) 0 → w ≡ replicate (length work) 0
        clear_is c = c ∙ ap (λ n. replicate n 0) (lt.long ∙ h.long)

        pub read_later : (v ≡ 0 → ⊥) → {a : Answer} → a ≡ refused_with v → {w : List ℕ} → w ≡ replicate (length after) 0
            → Reads text lengths records work a records w
        read_later k {a} q {w} c = refused_by_lem text lengths records work v k number_is a q w (clear_is c)

        module _ (y : v ≡ 0) where
          pub read_fillable : Fillable text s.maps j (length records)
          unfolding table_rule room_short positive
          read_fillable =
              let l = maps_at text s.maps in
              let none = given_none (table_rules (length records) (length work) l) refl (sym told ∙ y) in
              let fine : Fine l = record {
                share = row_fails none;
                ranges = row_fails (rows_past 1 none);
                inside = row_fails (rows_past 2 none);
              } in
              record {
                ready = got.room;
                fine = fine;
                held = h.judges.held (h.judges.number_is ∙ fine_refusal fine);
                enough = ltb-false (length records) (total length_of (brain_maps l))
                    (or_left _ (ltb (length work) (greatest length_of (brain_maps l))) (row_fails (rows_past 3 none)));
              }

          pub read_accepts : {a : Answer} → a ≡ accepted_with (maps_at text s.maps) → {r : List ℕ}
              → r ≡ filled_with (stretches (maps_at text s.maps)) records → {w : List ℕ} → w ≡ replicate (length after) 0
              → Reads text lengths records work a r w
          unfolding answer_of records_of answer_by records_by A.maps_in
          read_accepts {a} p {r} q {w} c =
              reads_by text lengths records work a r w
              (p ∙ rw (number_is, y, got.parsed, got.all))
              (q ∙ rw (number_is, y, got.parsed, got.all))
              (clear_is c)

pub ruleset reading = (read_refused, read_room, read_asks, read_later, read_fillable, read_accepts, rules)
