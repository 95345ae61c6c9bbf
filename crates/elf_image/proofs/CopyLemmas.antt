-- Bytes that were copied to their places.
use Rattle.std.proofs.Common.{◌≡◌, ℕ, max, min, length-drop, ◌+◌, ◌-◌, ◌<◌, ◌≤◌, true, false, List, ◌++◌, length, get_or, take, drop, refl, sym, ap, ◌∙◌, arith, length-take, ⊎_elim}
use Rattle.std.specs.Prelude.{nat_le, nat_lt}
use Rattle.std.proofs.lemmas.Bool.{cases_lt, le-ltb, le-leb, lt-ltb}
use Rattle.std.proofs.lemmas.Bool.Decides.{nat_tests}
use Rattle.std.proofs.lemmas.List.{get_or_append_left, get_or-append_right, get_or-take, get_or-drop}
use borrow.Rule.Slice.PartMut.{put_mid}
use Rattle.elf_image.specs.Copies.{given_or}

pub put_below : (a k : ℕ) (xs ys : List ℕ) (j : ℕ) → a ≤ length xs → j < a → get_or (put_mid a k xs ys) j 0 ≡ get_or xs j 0
put_below a k xs ys j h low =
    let short : j < length (take a xs) = omega (arith, length-take a xs) in
    get_or_append_left (take a xs) (ys ++ drop k (drop a xs)) 0 j short ∙ get_or-take a xs j 0 low

pub put_inside : (a k : ℕ) (xs ys : List ℕ) (j : ℕ) → a ≤ length xs → a ≤ j → j < a + length ys → get_or (put_mid a k xs ys) j 0 ≡ get_or ys (j - a) 0
put_inside a k xs ys j h low high =
    let long : length (take a xs) ≡ a = omega (arith, length-take a xs) in
    get_or-append_right (take a xs) (ys ++ drop k (drop a xs)) a j 0 long low
    ∙ get_or_append_left ys (drop k (drop a xs)) 0 (j - a) (omega arith)

pub put_above : (a k : ℕ) (xs ys : List ℕ) (j : ℕ) → a + k ≤ length xs → k ≡ length ys → a + k ≤ j → get_or (put_mid a k xs ys) j 0 ≡ get_or xs j 0
put_above a k xs ys j h same high =
    let long : length (take a xs) ≡ a = omega (arith, length-take a xs) in
    let place : a + (k + (j - a - k)) ≡ j = omega arith in
    get_or-append_right (take a xs) (ys ++ drop k (drop a xs)) a j 0 long (omega arith)
    ∙ get_or-append_right ys (drop k (drop a xs)) k (j - a) 0 (sym same) (omega arith)
    ∙ get_or-drop k (drop a xs) (j - a - k) 0 ∙ get_or-drop a xs (k + (j - a - k)) 0 ∙ ap (λ i. get_or xs i 0) place

-- a byte after what bytes give of these was copied
pub byte_copied : (old bytes : List ℕ) (address start first end k : ℕ) → first ≡ max address start → end ≡ min (address + length bytes) (start + length old) → first < end → k < length old
    → get_or (put_mid (first - start) (end - start - (first - start)) old (take (end - address - (first - address)) (drop (first - address) bytes))) k 0 ≡ given_or address bytes (start + k) (get_or old k 0)
byte_copied old bytes address start first end k begins ends some within =
    let xs : List ℕ = take (end - address - (first - address)) (drop (first - address) bytes) in
    let m : ℕ = end - start - (first - start) in
    let low : address ≤ first = omega arith in
    let least : start ≤ first = omega arith in
    let most : end ≤ start + length old = omega arith in
    let given : end ≤ address + length bytes = omega arith in
    let dropped : length (drop (first - address) bytes) ≡ length bytes - (first - address) = length-drop (first - address) bytes in
    let long : length xs ≡ m = length-take (end - address - (first - address)) (drop (first - address) bytes) ∙ omega (arith, dropped) in
    ⊎_elim
    (λ (before : k < first - start).
    let under : start + k < address = omega arith in
    let off : nat_le address (start + k) ≡ false = grind (arith, nat_tests) in
    put_below (first - start) m old xs k (omega arith) before ∙ rw off refl)
    (λ (from : first - start ≤ k).
    let on : nat_le address (start + k) ≡ true = le-leb address (start + k) (omega arith) in
    ⊎_elim
    (λ (inside : k < first - start + length xs).
    let also : nat_lt (start + k) (address + length bytes) ≡ true = lt-ltb (start + k) (address + length bytes) (omega (arith, long)) in
    let place : first - address + (k - (first - start)) ≡ start + k - address = omega arith in
    put_inside (first - start) m old xs k (omega arith) from inside
    ∙ get_or-take (end - address - (first - address)) (drop (first - address) bytes) (k - (first - start)) 0 (omega (arith, long))
    ∙ get_or-drop (first - address) bytes (k - (first - start)) 0 ∙ ap (λ i. get_or bytes i 0) place ∙ rw (on, also) refl)
    (λ (above : first - start + length xs ≤ k).
    let past : address + length bytes ≤ start + k = omega (arith, long) in
    put_above (first - start) m old xs k (omega (arith, long)) (sym long) (omega (arith, long)) ∙ rw (on, le-ltb (start + k) (address + length bytes) past) refl)
    (cases_lt k (first - start + length xs)))
    (cases_lt k (first - start))
