-- The row that the function gives stands at the place, and no other does.
use Rattle.std.proofs.Common.{◌≡◌, ℕ, zero, suc, ◌+◌, ◌*◌, ◌^◌, ◌<◌, ◌≤◌, ◌⊎◌, Bool, true, false, cond, nat_le, List, refl, sym, ap, ◌∙◌, subst, arith, ⊎_elim}
use Rattle.std.specs.Prelude.{◌↔◌, nat_lt, Option, Some, None}
use Rattle.std.proofs.lemmas.Bool.{leb-true, leb-false, ltb-true, lt-ltb}
use Rattle.std.proofs.Math.Nat.{pow-succ'}
use Rattle.lookup_tables.specs.Places.{IsRowAt, rows_of}
use Rattle.lookup_tables.specs.Rows.{exponent_up_to, range_row_of, row_below, row_at}
use Rattle.lookup_tables.proofs.PlaceLemmas.{xor_at_below, range_at_below, constant_row, at_xor, at_range, at_constant, no_rows, one_row, rows_below}

-- the greatest exponent is the number's
fits_by : (n number : ℕ) (t : Bool) → nat_le (2 ^ suc n) number ≡ t → 1 ≤ number → number < 2 * 2 ^ suc n
    → (number < 2 * 2 ^ n → (2 ^ exponent_up_to n number ≤ number) × (number < 2 * 2 ^ exponent_up_to n number))
    → (2 ^ cond t (suc n) (exponent_up_to n number) ≤ number) × (number < 2 * 2 ^ cond t (suc n) (exponent_up_to n number))
fits_by n number true e some most below = (leb-true (2 ^ suc n) number e, most)
fits_by n number false e some most below = below (omega (arith, leb-false (2 ^ suc n) number e, pow-succ' 2 n))

fits : (n number : ℕ) → 1 ≤ number → number < 2 * 2 ^ n → (2 ^ exponent_up_to n number ≤ number) × (number < 2 * 2 ^ exponent_up_to n number)
fits zero number some most = (some, most)
fits (suc n) number some most = fits_by n number (nat_le (2 ^ suc n) number) refl some most (fits n number some)

range_stands : (place : ℕ) → place < 131071 → IsRowAt 4 place (range_row_of place)
range_stands place low =
    let e = fits 16 (place + 1) (omega arith) (omega (arith, low)) in
    at_range place (range_row_of place) (range_at_below place (exponent_up_to 16 (place + 1)) low e.0 e.1)

row_stands : (bus place : ℕ) → place < rows_of bus → IsRowAt bus place (row_below bus place)
row_stands bus place low =
    ⊎_elim
    (λ (a : bus ≡ 3).
    let few : place < 65536 = rw a at low in
    rw a (at_xor place _ (xor_at_below place few)))
    (λ (x : (bus ≡ 4) ⊎ (bus ≡ 5)).
    ⊎_elim
    (λ (b : bus ≡ 4). let few : place < 131071 = rw b at low in rw b (range_stands place few))
    (λ (c : bus ≡ 5). let few : place < 64 = rw c at low in rw c (at_constant place _ (constant_row place few)))
    x)
    (no_rows bus place low)

stands_by : (bus place : ℕ) (tuple : List ℕ) (t : Bool) → nat_lt place (rows_of bus) ≡ t → cond t (Some (row_below bus place)) None ≡ Some tuple → IsRowAt bus place tuple
stands_by bus place tuple true low e =
    let same : row_below bus place ≡ tuple = cc in
    subst (IsRowAt bus place) same (row_stands bus place (ltb-true place (rows_of bus) low))
stands_by bus place tuple false low e = absurd (cc)

pub row_at-is : (bus place : ℕ) (tuple : List ℕ) → (row_at bus place ≡ Some tuple) ↔ IsRowAt bus place tuple
unfolding row_at
row_at-is bus place tuple = (
  λ e. stands_by bus place tuple (nat_lt place (rows_of bus)) refl e,
  λ at.
      let low : place < rows_of bus = rows_below bus place tuple at in
      let same : row_below bus place ≡ tuple = one_row bus place (row_below bus place) tuple (row_stands bus place low) at in
      ap (λ (t : Bool). cond t (Some (row_below bus place)) None) (lt-ltb place (rows_of bus) low) ∙ ap Some same,
)
