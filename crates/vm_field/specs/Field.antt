-- BabyBear: the prime field of 15 * 2^27 + 1 elements. An element is a whole number below the
-- modulus, and each operation is that of whole numbers modulo it.
use Rattle.std.specs.Prelude.{ℕ, ◌+◌, ◌-◌, ◌*◌, ◌%◌}

-- 15 * 2^27 + 1
abbrev pub modulus : ℕ
modulus = 2013265921

abbrev pub field_add : ℕ → ℕ → ℕ
field_add a b = (a + b) % modulus

abbrev pub field_sub : ℕ → ℕ → ℕ
field_sub a b = (a + (modulus - b)) % modulus

abbrev pub field_mul : ℕ → ℕ → ℕ
field_mul a b = (a * b) % modulus

abbrev pub field_neg : ℕ → ℕ
field_neg a = (modulus - a) % modulus
