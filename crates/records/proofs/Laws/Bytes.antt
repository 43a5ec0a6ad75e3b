-- Numbers and their bytes give each other, whatever the number w of bytes. Assumes nothing.
use Rattle.std.specs.Prelude.{◌≡◌, refl, List, [], ◌∷◌, ◌++◌, Bool, true, false, ℕ, zero, suc, ◌+◌, ◌*◌, ◌%◌, ◌^◌, ◌≤◌, ◌<◌, ltb, length, get_or, take, drop, replicate}
use Rattle.std.proofs.Common.{sym, ap, ◌∙◌, append_assoc, append-nil, arith, add-one, mul-zero, mul-suc, mod-eq_of_lt, length-append, length-drop, take-append-drop, take-suc, take_at, drop_at, length-take-le, get_or-drop, drop-drop, ltb-true, ltb-false}
use Rattle.std.proofs.lemmas.List.{length-replicate}
use Rattle.std.proofs.Math.ListN.{get_or-eq_default, get_or-append}
use Rattle.records.specs.Fields.{bits, joined, parts_of, Fit, none, more}
use Rattle.records.proofs.Laws.Fields.{parted_joined, joined_parted}
use Rattle.records.specs.Bytes.{bytes_of, number_written, body, numbers_in, Below}

bits_bytes : (w : ℕ) → bits (replicate w 8) ≡ 8 * w
unfolding bits
bits_bytes zero = refl
bits_bytes (suc w) = let h = bits_bytes w in omega arith

length_parted : (ws : List ℕ) (r : ℕ) → length (parts_of ws r) ≡ length ws
unfolding parts_of
length_parted [] r = refl
length_parted (w ∷ ws) r = ap suc (length_parted ws r)

pub length_bytes_of : (w n : ℕ) → length (bytes_of w n) ≡ w
unfolding bytes_of
length_bytes_of w n = length_parted (replicate w 8) n ∙ length-replicate w 8

-- the last w bytes of a number write it modulo 2^(8w)
pub bytes_whole : (w n : ℕ) → number_written (bytes_of w n) ≡ n % 2 ^ (8 * w)
unfolding bytes_of number_written
bytes_whole w n =
    ap (λ (m : ℕ). joined (replicate m 8) (parts_of (replicate w 8) n)) (length_parted (replicate w 8) n ∙ length-replicate w 8)
    ∙ joined_parted (replicate w 8) n
    ∙ ap (λ (m : ℕ). n % 2 ^ m) (bits_bytes w)

pub bytes_back : (w n : ℕ) → n < 2 ^ (8 * w) → number_written (bytes_of w n) ≡ n
bytes_back w n h = bytes_whole w n ∙ mod-eq_of_lt h

bytes_fit : (bs : List ℕ) → Below 256 bs → Fit (replicate (length bs) 8) bs
bytes_fit [] h = none
bytes_fit (b ∷ bs) h = more (h 0) (bytes_fit bs (λ k. h (suc k)))

-- bytes are those of the number that they write
pub number_back : (bs : List ℕ) → Below 256 bs → bytes_of (length bs) (number_written bs) ≡ bs
unfolding bytes_of number_written
number_back bs h = parted_joined (bytes_fit bs h)

pub length_body : (w : ℕ) (ns : List ℕ) → length (body w ns) ≡ w * length ns
unfolding body
length_body w [] = sym (mul-zero w)
length_body w (n ∷ ns) = length-append (bytes_of w n) (body w ns)
    ∙ omega (arith, length_bytes_of w n, length_body w ns, mul-suc w (length ns))

pub body_append : (w : ℕ) (a b : List ℕ) → body w (a ++ b) ≡ body w a ++ body w b
unfolding body
body_append w [] b = refl
body_append w (n ∷ a) b = ap (λ (l : List ℕ). bytes_of w n ++ l) (body_append w a b) ∙ sym (append_assoc (bytes_of w n) (body w a) (body w b))

-- one number more
pub body_next : (w : ℕ) (ns : List ℕ) (i : ℕ) → i < length ns → body w (take (i + 1) ns) ≡ body w (take i ns) ++ bytes_of w (get_or ns i 0)
unfolding body
body_next w ns i h =
    ap (λ (n : ℕ). body w (take n ns)) (add-one i) ∙ ap (body w) (take-suc ns i 0 h) ∙ body_append w (take i ns) (get_or ns i 0 ∷ [])
    ∙ simp append-nil

pub length_body_take : (w : ℕ) (ns : List ℕ) (i : ℕ) → i ≤ length ns → length (body w (take i ns)) ≡ w * i
length_body_take w ns i h = length_body w (take i ns) ∙ ap (λ (n : ℕ). w * n) (length-take-le i ns h)

pub length_numbers_in : (w n : ℕ) (s : List ℕ) → length (numbers_in w n s) ≡ n
unfolding numbers_in
length_numbers_in w zero s = refl
length_numbers_in w (suc n) s = ap suc (length_numbers_in w n (drop w s))

-- the number at a place
pub number_at : (w n i : ℕ) (s : List ℕ) → i < n → get_or (numbers_in w n s) i 0 ≡ number_written (take w (drop (w * i) s))
unfolding numbers_in
number_at w zero i s h = absurd (omega arith)
number_at w (suc n) zero s h = ap (λ (m : ℕ). number_written (take w (drop m s))) (sym (mul-zero w))
number_at w (suc n) (suc i) s h =
    let e : w + w * i ≡ w * suc i = omega (arith, mul-suc w i) in
    number_at w n i (drop w s) (omega arith)
    ∙ ap (λ (l : List ℕ). number_written (take w l)) (drop-drop (w * i) w s ∙ ap (λ (m : ℕ). drop m s) e)

-- the number at a place behind a head of h bytes
pub number_behind : (w n i h : ℕ) (s : List ℕ) → i < n → get_or (numbers_in w n (drop h s)) i 0 ≡ number_written (take w (drop (h + w * i) s))
number_behind w n i h s k = number_at w n i (drop h s) k ∙ ap (λ (l : List ℕ). number_written (take w l)) (drop-drop (w * i) h s)

-- numbers are read back from their bytes
pub numbers_back : (w : ℕ) (ns : List ℕ) → Below (2 ^ (8 * w)) ns → numbers_in w (length ns) (body w ns) ≡ ns
unfolding body numbers_in
numbers_back w [] h = refl
numbers_back w (n ∷ ns) h =
    let first : number_written (take w (bytes_of w n ++ body w ns)) ≡ n =
    ap number_written (take_at (bytes_of w n) (body w ns) w (length_bytes_of w n)) ∙ bytes_back w n (h 0) in
    let rest : numbers_in w (length ns) (drop w (bytes_of w n ++ body w ns)) ≡ ns =
    ap (numbers_in w (length ns)) (drop_at (bytes_of w n) (body w ns) w (length_bytes_of w n)) ∙ numbers_back w ns (λ k. h (suc k)) in
    λ k. first k ∷ rest k

pub drop_below : (b n : ℕ) (s : List ℕ) → Below b s → Below b (drop n s)
drop_below b n s h k = rw get_or-drop (h (n + k))

pub take_below : (b n : ℕ) (s : List ℕ) → 0 < b → Below b s → Below b (take n s)
take_below b n s pos h k = by (ltb k (length (take n s))) refl
  where
    whole : get_or (take n s ++ drop n s) k 0 ≡ get_or s k 0
    whole = ap (λ (l : List ℕ). get_or l k 0) (take-append-drop n s)

    by : (t : Bool) → ltb k (length (take n s)) ≡ t → get_or (take n s) k 0 < b
    by true e = let v = get_or-append (take n s) (drop n s) 0 k (ltb-true _ _ e) in omega (arith, h k, whole)
    by false e = rw (get_or-eq_default (take n s) 0 (ltb-false _ _ e)) pos

-- bytes are those of the numbers that they write
pub body_back : (w n : ℕ) (s : List ℕ) → Below 256 s → length s ≡ w * n → body w (numbers_in w n s) ≡ s
unfolding body numbers_in
body_back w zero [] h e = refl
body_back w zero (x ∷ s) h e = absurd (omega arith)
body_back w (suc n) s h e =
    let long : length (take w s) ≡ w = length-take-le w s (omega (arith, mul-suc w n)) in
    let first : bytes_of w (number_written (take w s)) ≡ take w s = ap (λ (m : ℕ). bytes_of m (number_written (take w s))) (sym long)
    ∙ number_back (take w s) (take_below 256 w s (omega arith) h) in
    let rest : body w (numbers_in w n (drop w s)) ≡ drop w s =
    body_back w n (drop w s) (drop_below 256 w s h) (omega (arith, length-drop w s, mul-suc w n)) in
    ap (λ (l : List ℕ). l ++ body w (numbers_in w n (drop w s))) first ∙ ap (λ (l : List ℕ). take w s ++ l) rest ∙ take-append-drop w s
