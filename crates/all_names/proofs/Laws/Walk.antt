-- The walk over the NamedMaps, as loops and stores meet it.
use Rattle.std.specs.Prelude.{◌≡◌, Bool, true, false, ℕ, ◌+◌, ◌*◌, ◌/◌, ◌≤◌, ◌<◌, eqb, set, Option, Some, None}
use Rattle.std.proofs.Math.Path.{refl, sym, ap, subst}
use Rattle.std.proofs.Common.{◌∙◌, length-set, rules}
use Rattle.std.proofs.Math.Bool.{cond}
use mathlib.Core.List.{List, [], ◌∷◌, ◌++◌}
use native.Mathlib.Omega.{arith}
use Rattle.std.proofs.Math.ListN.{length}
use borrow.Author.Tests.{eq-eqb, ne_eqb, lt-ltb, le-ltb}
use Rattle.lists.specs.Lists.{those, each_in}
use Rattle.lists.specs.Refusals.{first}
use Rattle.lists.proofs.Laws.Booleans.{clash}
use Rattle.grammar.specs.Bytes.{ascii}
use Rattle.records.specs.Fill.{wrote, wrote_none, wrote_one, wrote_on, length_wrote}
use Rattle.records.specs.declared.outcome.Outcome.{Outcome}
use Rattle.nodes.specs.Children as Children
use Rattle.nodes.specs.Inside.{between_tags}
use Rattle.nodes.specs.Names.{named}
use Rattle.inside.specs.Walked.{places_from, nth_place, child_at}
use Rattle.inside.specs.Treads.{called, child_named}
use Rattle.inside.proofs.Laws.Treads.{ahead, next_ahead, places_done, places_child}
use Rattle.inside.specs.One.{tag_end}
use Rattle.all_names.specs.Walk.{named_in, start_by, size_by, name_in, pair_of, pairs_at, Counted, number_on, NamesOn}

-- ---- Two stores.

pub two_stored : (n a b : ℕ) (s : List ℕ) → n + 2 ≤ length s → set (set s n a) (n + 1) b ≡ wrote n (a ∷ b ∷ []) s
two_stored n a b s h =
    let l : length (set s n a) ≡ length s = length-set s n a in
    wrote_one (n + 1) b (set s n a) (omega arith)
    ∙ ap (wrote (n + 1) (b ∷ [])) (wrote_one n a s (omega arith))
    ∙ wrote_on n (n + 1) (a ∷ []) (b ∷ []) s refl (omega arith)

module _ (text : List ℕ) (at n : ℕ) (s : List ℕ) (room : n + 2 ≤ length s) {f : Option ℕ}
    (e : f ≡ child_named (ascii "MapName") 0 text at) where
  pub put_found : {k : ℕ} → f ≡ Some k → {a : ℕ} → a ≡ tag_end text k → {l : List ℕ} → l ≡ between_tags text k
      → set (set s n a) (n + 1) (length l) ≡ wrote n (pair_of text at) s
  unfolding pair_of name_in start_by size_by
  put_found {k} h {a} p {l} q = two_stored n a (length l) s room ∙ sym (rw (sym e ∙ h, p, q))

  pub put_missing : f ≡ None → set (set s n 0) (n + 1) 0 ≡ wrote n (pair_of text at) s
  unfolding pair_of name_in start_by size_by
  put_missing h = two_stored n 0 0 s room ∙ sym (rw (sym e ∙ h))

pub second_room : (s : List ℕ) (n a : ℕ) → n + 2 ≤ length s → n + 1 < length (set s n a)
second_room s n a h = let l : length (set s n a) ≡ length s = length-set s n a in omega arith

pub two_long : (s : List ℕ) (n a b : ℕ) → length (set (set s n a) (n + 1) b) ≡ length s
two_long s n a b = length-set (set s n a) (n + 1) b ∙ length-set s n a

pub ruleset putting = (put_found, put_missing, second_room, two_long, rules)

-- ---- The loop: with what is left written behind the n numbers, all is written.

-- the NamedMaps from a cursor on
unfoldable pub named_from : List ℕ → Option ℕ → List ℕ
named_from text kid = those (called text (ascii "NamedMap")) (places_from text kid)

pub record Filling (text : List ℕ) (at : ℕ) (start : List ℕ) (n : ℕ) (places : List ℕ) (kid : Option ℕ) : Type 0 where
  pub room : n + length (each_in (pair_of text) (named_from text kid)) ≤ length start
  pub same_long : length places ≡ length start
  pub rest : wrote n (each_in (pair_of text) (named_from text kid)) places ≡ wrote 0 (pairs_at text at) start

module _ {text : List ℕ} {at : ℕ} {start : List ℕ} where
  pub fill_start : {kid : Option ℕ} → kid ≡ Children.first_child text at → length (pairs_at text at) ≤ length start
      → Filling text at start 0 start kid
  unfolding pairs_at named_in named_from
  fill_start e h = rw e (record { room = omega arith; same_long = refl; rest = refl })

  module _ {n : ℕ} {places : List ℕ} {kid : Option ℕ} (go : Filling text at start n places kid) where
    pub fill_done : kid ≡ None → places ≡ wrote 0 (pairs_at text at) start
    unfolding named_from those each_in
    fill_done e =
        sym (ap (λ l. wrote n (each_in (pair_of text) (those (called text (ascii "NamedMap")) l)) places)
        (ap (places_from text) e ∙ places_done text) ∙ wrote_none n places)
        ∙ go.rest

    pub fill_long : length places ≡ length start
    fill_long = go.same_long

    module _ {k : ℕ} (is_child : kid ≡ Some k) where
      pub fill_less : {kid₁ : Option ℕ} → kid₁ ≡ Children.next text k → ahead text kid₁ < ahead text kid
      fill_less e = rw (e, is_child) (next_ahead text k)

      abbrev behind_it : List ℕ
      behind_it = named_from text (Children.next text k)

      module _ {b : Bool} (q : b ≡ named text k (ascii "NamedMap")) where
        splits : named_from text kid ≡ cond b (k ∷ behind_it) behind_it
        unfolding named_from those called
        splits =
            ap (those (called text (ascii "NamedMap"))) (ap (places_from text) is_child ∙ places_child text k)
            ∙ ap (λ t. cond t (k ∷ named_from text (Children.next text k)) (named_from text (Children.next text k))) (sym q)

        pub fill_off : b ≡ false → {kid₁ : Option ℕ} → kid₁ ≡ Children.next text k → Filling text at start n places kid₁
        fill_off f e =
            let s : named_from text kid ≡ behind_it = splits ∙ rw f in
            rw e (record {
              room = subst (λ (l : List ℕ). n + length (each_in (pair_of text) l) ≤ length start) s go.room;
              same_long = go.same_long;
              rest = subst (λ (l : List ℕ). wrote n (each_in (pair_of text) l) places ≡ wrote 0 (pairs_at text at) start) s go.rest;
            })

        module _ (t : b ≡ true) where
          s_on : named_from text kid ≡ k ∷ behind_it
          s_on = splits ∙ rw t

          room_on : n + (2 + length (each_in (pair_of text) behind_it)) ≤ length start
          unfolding each_in pair_of
          room_on =
              let h : n + length (each_in (pair_of text) (k ∷ behind_it)) ≤ length start =
              subst (λ (l : List ℕ). n + length (each_in (pair_of text) l) ≤ length start) s_on go.room in
              omega arith

          pub fill_room : n + 2 ≤ length places
          fill_room = let r = room_on in let l = go.same_long in omega arith

          rest_on : wrote n (pair_of text k ++ each_in (pair_of text) behind_it) places ≡ wrote 0 (pairs_at text at) start
          unfolding each_in
          rest_on = subst (λ (l : List ℕ). wrote n (each_in (pair_of text) l) places ≡ wrote 0 (pairs_at text at) start) s_on go.rest

          pub fill_more : {kid₁ : Option ℕ} → kid₁ ≡ Children.next text k → {p : List ℕ} → p ≡ wrote n (pair_of text k) places
              → Filling text at start (n + 2) p kid₁
          unfolding pair_of
          fill_more e {p} h =
              let r = room_on in
              let l = go.same_long in
              rw (e, h) (record {
                room = omega arith;
                same_long = length_wrote n (pair_of text k) places (omega arith) ∙ l;
                rest = wrote_on n (n + 2) (pair_of text k) (each_in (pair_of text) behind_it) places refl (omega arith) ∙ rest_on;
              })

pub ruleset filling = (fill_start, fill_done, fill_long, fill_less, fill_off, fill_room, fill_more, rules)

-- ---- 18, 17, or the names.

pairs_long : (text : List ℕ) (l : List ℕ) → length (each_in (pair_of text) l) ≡ 2 * length l
unfolding each_in pair_of
pairs_long text [] = refl
pairs_long text (c ∷ l) = let h = pairs_long text l in omega arith

pub pairs_at_long : (text : List ℕ) (at : ℕ) → length (pairs_at text at) ≡ 2 * length (named_in text at)
unfolding pairs_at
pairs_at_long text at = pairs_long text (named_in text at)

-- the first of places
nth_some : (ks : List ℕ) {k : ℕ} → nth_place 0 ks ≡ Some k → 1 ≤ length ks
unfolding nth_place
nth_some [] h = clash (cc)
nth_some (c ∷ ks) h = omega arith

nth_none : (ks : List ℕ) → nth_place 0 ks ≡ None → length ks ≡ 0
unfolding nth_place
nth_none [] h = refl
nth_none (c ∷ ks) h = clash (cc)

module _ {text : List ℕ} {at count : ℕ} (c : Counted text at count) {f : Option ℕ} (e : f ≡ child_named (ascii "NamedMap") 0 text at)
    (before : List ℕ) where
  pub on_none : f ≡ None → {r : Outcome} → r.number ≡ 18 → r.value ≡ 0 → NamesOn text at count before r before
  unfolding number_on first child_named child_at named_in
  on_none h {r} a b =
      let z : length (named_in text at) ≡ 0 = nth_none (named_in text at) (sym e ∙ h) in
      let w : number_on text at count (length before) ≡ 18 = rw (eq-eqb (length (named_in text at)) 0 z) in
      record {
        answers = rw w (λ i. record { number = a i; value = b i });
        holds = rw a;
      }

  module _ {k : ℕ} (h : f ≡ Some k) where
    some_there : 1 ≤ length (named_in text at)
    unfolding child_named child_at named_in
    some_there = nth_some (named_in text at) (sym e ∙ h)

    eighteen_no : eqb (length (named_in text at)) 0 ≡ false
    eighteen_no = let u = some_there in ne_eqb (length (named_in text at)) 0 (λ z. omega arith)

    pub on_short : length before / 2 < count → {r : Outcome} → r.number ≡ 17 → r.value ≡ 0 → NamesOn text at count before r before
    unfolding number_on first
    on_short u {r} a b =
        let w : number_on text at count (length before) ≡ 17 = rw (eighteen_no, lt-ltb (length before) (2 * count) (omega arith)) in
        record {
          answers = rw w (λ i. record { number = a i; value = b i });
          holds = rw a;
        }

    module _ (u : count ≤ length before / 2) where
      pub on_room : length (pairs_at text at) ≤ length before
      on_room =
          let m = c.many some_there in
          let p = pairs_at_long text at in
          omega arith

      pub on_all : {after : List ℕ} → after ≡ wrote 0 (pairs_at text at) before → {r : Outcome} → r.number ≡ 0 → r.value ≡ count
          → NamesOn text at count before r after
      unfolding number_on first
      on_all p {r} a b =
          let w : number_on text at count (length before) ≡ 0 = rw (eighteen_no, le-ltb (length before) (2 * count) (omega arith)) in
          record {
            answers = rw w (λ i. record { number = a i; value = b i });
            holds = rw a p;
          }

pub ruleset onMap = (on_none, on_short, on_room, on_all, rules)
