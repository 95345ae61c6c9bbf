-- Where the constants of SHA-256 come from (FIPS 180-4, 4.2.2 and 5.3.3): roots of the first primes.
use Rattle.std.specs.Prelude.{ℕ, ◌+◌, ◌-◌, ◌*◌, ◌%◌, ◌^◌, ◌==◌, ◌&&◌, not, nat_le, nat_lt, Bool, List, filter, count_by}
use Rattle.std.specs.List.{list_all, range_with_len, zip}

-- no number from 2 to n - 1 divides n
abbrev pub is_prime : ℕ → Bool
is_prime n = list_all (λ d. not (n % d == 0)) (range_with_len 2 (n - 2))

-- the primes below n, in order
abbrev pub primes_below : ℕ → List ℕ
primes_below n = filter is_prime (range_with_len 2 (n - 2))

-- the whole part of the root of order e of n, where it is below 8
abbrev pub whole_root : ℕ → ℕ → ℕ
whole_root e n = count_by (λ r. nat_le (r ^ e) n) (range_with_len 1 7)

-- k is the first 32 bits of the fractional part of the root of order e of n:
-- k / 2 ^ 32 is that part, rounded down
abbrev pub is_root_fraction : ℕ → ℕ → ℕ → Bool
is_root_fraction e n k =
    nat_lt k (2 ^ 32)
    && nat_le ((whole_root e n * 2 ^ 32 + k) ^ e) (n * 2 ^ (32 * e))
    && nat_lt (n * 2 ^ (32 * e)) ((whole_root e n * 2 ^ 32 + k + 1) ^ e)

-- the same for each of a list of numbers and the word beside it
abbrev pub are_root_fractions : ℕ → List ℕ → List ℕ → Bool
are_root_fractions e ns ks = list_all (λ p. is_root_fraction e p.0 p.1) (zip ns ks)
