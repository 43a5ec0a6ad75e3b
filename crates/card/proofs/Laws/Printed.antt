-- THE PRINTED CARD: a line in its room is all of the line, and the lines that were printed are the first of the card.
use Rattle.std.specs.Prelude.{◌≡◌, List, [], ◌∷◌, ◌++◌, Bool, true, false, ℕ, ◌+◌, ◌≤◌, ◌<◌, leb, length, get_or, take, drop, Option, Result, Ok, Err, is_err, OnOk}
use Rattle.std.proofs.Common.{refl, sym, ap, ◌∙◌, subst, le-leb, append-nil, append_assoc, take_at, take_all, add-one}
use Rattle.std.proofs.Math.Bool.{true≢false}
use Rattle.std.proofs.Math.Seq.{take-suc}
use Rattle.std.specs.Io.KnownBytes.{Appends}
use Rattle.std.proofs.KnownBytes.{Appends-nil, Appends-trans}
use Rattle.lists.specs.Lists.{each_in}
use Rattle.card.specs.declared.line.Line.{Line}
use Rattle.card.specs.declared.line.Line.TheVariants.{End}
use Rattle.card.specs.Written.{line_bytes, WritesOut}

-- all of a line that fits its room
pub line_written : (bytes out : List ℕ) (k : ℕ) (t : List ℕ) → length bytes ≤ length out → WritesOut bytes out k t → take k t ≡ bytes
line_written bytes out k t fits w =
    let e : leb (length bytes) (length out) ≡ true = le-leb (length bytes) (length out) fits in
    let long : k ≡ length bytes = w.counted ∙ rw e refl in
    let is : t ≡ bytes ++ drop (0 + length bytes) out = w.filled ∙ rw e refl in
    ap (take k) is ∙ take_at bytes (drop (0 + length bytes) out) k (sym long)

each_append : (f : Line → List ℕ) (l m : List Line) → each_in f (l ++ m) ≡ each_in f l ++ each_in f m
unfolding each_in
each_append f [] m = refl
each_append f (a ∷ l) m = ap (λ k. f a ++ k) (each_append f l m) ∙ sym (append_assoc (f a) (each_in f l) (each_in f m))

pub printed_none : (a : Option (List ℕ)) → Appends a a (each_in line_bytes [])
unfolding each_in
printed_none a = Appends-nil a

-- one line more
pub line_more : (l : List Line) (n : ℕ) → n < length l → each_in line_bytes (take n l) ++ line_bytes (get_or l n End) ≡ each_in line_bytes (take (n + 1) l)
unfolding each_in
line_more l n h =
    ap (λ m. each_in line_bytes (take n l) ++ m) (sym (append-nil (line_bytes (get_or l n End))))
    ∙ sym (each_append line_bytes (take n l) (get_or l n End ∷ []))
    ∙ ap (each_in line_bytes) (sym (take-suc l n End h) ∙ ap (λ k. take k l) (sym (add-one n)))

pub printed_more : (a b c : Option (List ℕ)) (l : List Line) (n : ℕ) {x : Line} {bytes : List ℕ} → n < length l → x ≡ get_or l n End → bytes ≡ line_bytes x
    → Appends a b (each_in line_bytes (take n l)) → Appends b c bytes → Appends a c (each_in line_bytes (take (n + 1) l))
printed_more a b c l n {x} {bytes} h e f before p =
    subst (Appends a c) (ap (λ m. each_in line_bytes (take n l) ++ m) (f ∙ ap line_bytes e) ∙ line_more l n h)
    (Appends-trans a b c (each_in line_bytes (take n l)) bytes before p)

pub printed_all : (a b : Option (List ℕ)) (l : List Line) (n : ℕ) → length l ≤ n → Appends a b (each_in line_bytes (take n l)) → Appends a b (each_in line_bytes l)
printed_all a b l n h p = subst (λ m. Appends a b (each_in line_bytes m)) (take_all n l h) p

-- of a write that did not fail
pub not_failed : {V E P : Type 0} (r : Result V E) (b : Bool) → b ≡ is_err r → b ≡ false → OnOk r P → P
not_failed (Ok v) b e f p = p
not_failed (Err x) b e f p = absurd (true≢false (sym e ∙ f))
