-- A number by its digits in a base, the lowest first.
use Rattle.std.specs.Prelude.{ℕ, zero, suc, ◌+◌, ◌*◌, ◌/◌, ◌%◌, ◌^◌}

-- the digit of n that is worth base ^ i
abbrev pub digit : ℕ → ℕ → ℕ → ℕ
digit base n i = n / base ^ i % base

-- d 0 + d 1 * base + .. + d (k - 1) * base ^ (k - 1), the number with the digits d below place k
unfoldable pub number_of_digits : ℕ → (ℕ → ℕ) → ℕ → ℕ
number_of_digits base d zero = 0
number_of_digits base d (suc k) = number_of_digits base d k + d k * base ^ k
