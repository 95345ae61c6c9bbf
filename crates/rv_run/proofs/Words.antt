-- Bytes that are put one behind the other into a list.
use Rattle.std.proofs.Common.{◌≡◌, ℕ, ◌+◌, ◌<◌, ◌≤◌, List, length, get_or, set, ap, ◌∙◌, arith, refl, sym, length-set, ⊎_elim}
use Rattle.std.proofs.lemmas.Bool.{cases_eq}
use Rattle.std.proofs.lemmas.List.{get_or-set_same, get_or-set_other}

-- the first places have their bytes
abbrev pub Begins : List ℕ → (ℕ → ℕ) → ℕ → Type 0
Begins bytes byte count = (k : ℕ) → k < count → get_or bytes k 0 ≡ byte k

begins_more : (bytes : List ℕ) (byte : ℕ → ℕ) (count next x : ℕ) → next ≡ count + 1 → next ≤ length bytes → x ≡ byte count → Begins bytes byte count → Begins (set bytes count x) byte next
begins_more bytes byte count next x more low is begins k less =
    ⊎_elim
    (λ (same : k ≡ count). ap (λ (j : ℕ). get_or (set bytes count x) j 0) same ∙ get_or-set_same bytes count x 0 (omega (arith, more, low)) ∙ is ∙ ap byte (sym same))
    (λ (other : k ≡ count → ⊥). get_or-set_other bytes count k x 0 other ∙ begins k (omega (arith, less, more, other)))
    (cases_eq k count)

-- and so do four more
pub begins_four : (bytes : List ℕ) (byte : ℕ → ℕ) (count next w x y z : ℕ) → next ≡ count + 4 → next ≤ length bytes → w ≡ byte count → x ≡ byte (count + 1) → y ≡ byte (count + 2) → z ≡ byte (count + 3)
    → Begins bytes byte count → Begins (set (set (set (set bytes count w) (count + 1) x) (count + 2) y) (count + 3) z) byte next
begins_four bytes byte count next w x y z more low first second third fourth begins =
    let one = set bytes count w in
    let two = set one (count + 1) x in
    let three = set two (count + 2) y in
    let long_one : length one ≡ length bytes = length-set bytes count w in
    let long_two : length two ≡ length bytes = length-set one (count + 1) x ∙ long_one in
    let long_three : length three ≡ length bytes = length-set two (count + 2) y ∙ long_two in
    begins_more three byte (count + 3) next z (omega (arith, more)) (omega (arith, low, more, long_three)) fourth
    (begins_more two byte (count + 2) (count + 3) y (omega arith) (omega (arith, low, more, long_two)) third
    (begins_more one byte (count + 1) (count + 2) x (omega arith) (omega (arith, low, more, long_one)) second
    (begins_more bytes byte count (count + 1) w refl (omega (arith, low, more)) first begins)))

pub four_long : (bytes : List ℕ) (count w x y z : ℕ) → length (set (set (set (set bytes count w) (count + 1) x) (count + 2) y) (count + 3) z) ≡ length bytes
four_long bytes count w x y z =
    let one = set bytes count w in
    let two = set one (count + 1) x in
    length-set (set two (count + 2) y) (count + 3) z ∙ length-set two (count + 2) y ∙ length-set one (count + 1) x ∙ length-set bytes count w
