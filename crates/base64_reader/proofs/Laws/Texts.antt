-- Whether a text is Base64.
use Rattle.std.specs.Prelude.{◌≡◌, refl, List, Bool, true, false, ℕ, zero, suc, ◌+◌, ◌*◌, ◌<◌, ◌≤◌, Option, Some, None}
use Rattle.std.proofs.Math.Path.{sym, ap}
use Rattle.std.proofs.Common.{◌∙◌, arith, rules}
use Rattle.lists.specs.Lists.{is_some, those}
use Rattle.nodes.specs.Texts.{says_at, left, inside, text_of_lem}
use Rattle.nodes.proofs.Laws.TextSteps.{text_none, text_some}
use Rattle.base64_text.specs.Base64.{unblanked, decode, bytes_in, coded}
use Rattle.base64_reader.specs.Groups.{letters_at, low_bytes, prefixed, GroupTold, QuickGroup, sixteen_at}
use Rattle.base64_reader.proofs.Laws.Sixteen.{four_small, four_quick}
use Rattle.base64_reader.specs.declared.Group.{Group}
use Rattle.base64_reader.specs.declared.Group.TheVariants.{Bytes, End, Bad}

-- what stands at a place
pub held_at : (text : List ℕ) (i : ℕ) → bytes_in (says_at text i) ≡ decode (letters_at text i)
unfolding bytes_in letters_at
held_at text i = refl

prefixed_is : (l : List ℕ) (m : Option (List ℕ)) → is_some (prefixed l m) ≡ is_some m
unfolding is_some prefixed
prefixed_is l None = refl
prefixed_is l (Some k) = refl

-- BASE64 OR NOT
pub record Coding (text : List ℕ) (at i : ℕ) : Type 0 where
  pub same : coded (says_at text at) ≡ is_some (decode (letters_at text i))

pub coding_start : (text : List ℕ) (at : ℕ) → Coding text at at
unfolding coded
coding_start text at = record { same = ap is_some (held_at text at) }

module _ {text : List ℕ} {at i : ℕ} (go : Coding text at i) {g : Group} (t : GroupTold text i g) where
  pub coding_end : g ≡ End → true ≡ coded (says_at text at)
  unfolding is_some
  coding_end e = sym (go.same ∙ rw (t.on_end e).0 refl)

  pub coding_bad : g ≡ Bad → false ≡ coded (says_at text at)
  unfolding is_some
  coding_bad e = sym (go.same ∙ rw (t.on_bad e).0 refl)

  module _ {v n j : ℕ} (e : g ≡ Bytes v n j) where
    pub coding_less : left text j < left text i
    coding_less = omega (arith, (t.on_bytes e).less)

    pub coding_on : Coding text at j
    coding_on = let b = t.on_bytes e in
        record { same = go.same ∙ rw b.spelled (prefixed_is (low_bytes n v) (decode (letters_at text j))) }

module _ {text : List ℕ} {at i : ℕ} (go : Coding text at i) {n : ℕ} (k : QuickGroup text i n) (h : n < 16777216) where
  pub coding_quick_less : left text (i + 4) < left text i
  coding_quick_less = coding_less go (k.told h) refl

  pub coding_quick : Coding text at (i + 4)
  coding_quick = coding_on go (k.told h) refl

-- sixteen letters are four times four
module _ {text : List ℕ} {at i : ℕ} (go : Coding text at i) {r : Bool} (e : r ≡ sixteen_at text i) (h : r ≡ true) where
  record Passed (n : ℕ) : Type 0 where
    so_far : Coding text at (i + n * 4)
    less : left text (i + n * 4) + n ≤ left text i

  passed : (n : ℕ) → n ≤ 4 → Passed n
  passed zero u = let z : i + 0 * 4 ≡ i = omega arith in record { so_far = rw z go; less = rw z (omega arith) }
  passed (suc n) u =
      let p = passed n (omega arith) in
      let q = four_quick text i (sym e ∙ h) (n * 4) (omega arith) in
      let s = four_small text i (sym e ∙ h) (n * 4) (omega arith) in
      let z : i + suc n * 4 ≡ i + n * 4 + 4 = omega arith in
      record {
        so_far = rw z (coding_quick p.so_far q s);
        less = rw z (omega (arith, coding_quick_less p.so_far q s, p.less));
      }

  pub coding_sixteen_less : left text (i + 16) < left text i
  coding_sixteen_less = omega (arith, (passed 4 (omega arith)).less)

  pub coding_sixteen : Coding text at (i + 16)
  coding_sixteen = (passed 4 (omega arith)).so_far

pub ruleset coding = (
  coding_start,
  coding_end,
  coding_bad,
  coding_less,
  coding_on,
  coding_quick_less,
  coding_quick,
  coding_sixteen_less,
  coding_sixteen,
  rules,
)

-- THE TEXT OF AN ELEMENT
module _ (text : List ℕ) (at : ℕ) {f : Option ℕ} (e : f ≡ inside text at) where
  pub coded_there : {i : ℕ} → f ≡ Some i → {r : Bool} → r ≡ coded (says_at text i) → r ≡ coded (text_of_lem text at)
  coded_there h k = k ∙ ap coded (sym (text_some text at (sym e ∙ h)))

  pub coded_missing : f ≡ None → true ≡ coded (text_of_lem text at)
  unfolding coded bytes_in unblanked those decode is_some
  coded_missing h = ap coded (sym (text_none text at (sym e ∙ h)))

pub ruleset coded_texts = (coded_there, coded_missing, rules)
