-- Results of instructions on words (RISC-V Unprivileged ISA 20191213, sections 2.4 and 7.1 and 7.2). A word is a
-- number below 2 ^ 32; a signed one is read in two's complement.
use Rattle.std.specs.Int.Signed.{lt_z}
use Rattle.vm_word.specs.Word.{signed_value}
use Rattle.std.specs.Prelude.{ℕ, ◌+◌, ◌-◌, ◌*◌, ◌/◌, ◌%◌, ◌^◌, Bool, ◌==◌, not, nat_lt, if◌then◌else◌}

-- whether the sign bit is set
abbrev pub is_negative : ℕ → Bool
is_negative word = not (nat_lt word (2 ^ 31))

-- sums and differences wrap
abbrev pub word_sum : ℕ → ℕ → ℕ
word_sum a b = (a + b) % 2 ^ 32

abbrev pub word_difference : ℕ → ℕ → ℕ
word_difference a b = (a + (2 ^ 32 - b)) % 2 ^ 32

abbrev pub signed_less : ℕ → ℕ → Bool
signed_less a b = lt_z (signed_value a) (signed_value b)

-- shifts by less than 32 places
abbrev pub shifted_left : ℕ → ℕ → ℕ
shifted_left word by = word * 2 ^ by % 2 ^ 32

abbrev pub shifted_right : ℕ → ℕ → ℕ
shifted_right word by = word / 2 ^ by

-- the sign bit is copied into the places that become free
abbrev pub shifted_right_signed : ℕ → ℕ → ℕ
shifted_right_signed word by = if is_negative word then word / 2 ^ by + (2 ^ 32 - 2 ^ (32 - by)) else word / 2 ^ by

-- a number of this many bits in two's complement, as a word (section 2.3)
abbrev pub sign_extended : ℕ → ℕ → ℕ
sign_extended bits number = if nat_lt number (2 ^ (bits - 1)) then number else number + (2 ^ 32 - 2 ^ bits)

-- a signed word with 64 bits
abbrev pub sign_extended_64 : ℕ → ℕ
sign_extended_64 word = if is_negative word then word + (2 ^ 64 - 2 ^ 32) else word

-- the low and the high 32 bits of a product of 64 bits
abbrev pub low_product : ℕ → ℕ → ℕ
low_product a b = a * b % 2 ^ 32

abbrev pub high_product : ℕ → ℕ → ℕ
high_product a b = a * b / 2 ^ 32

-- both factors are signed
abbrev pub high_product_signed : ℕ → ℕ → ℕ
high_product_signed a b = sign_extended_64 a * sign_extended_64 b % 2 ^ 64 / 2 ^ 32

-- the first factor is signed
abbrev pub high_product_mixed : ℕ → ℕ → ℕ
high_product_mixed a b = sign_extended_64 a * b % 2 ^ 64 / 2 ^ 32

-- the distance of a signed word from 0
abbrev pub magnitude : ℕ → ℕ
magnitude word = if is_negative word then 2 ^ 32 - word else word

abbrev pub negated : ℕ → ℕ
negated word = (2 ^ 32 - word) % 2 ^ 32

abbrev pub negated_if : Bool → ℕ → ℕ
negated_if negative word = if negative then negated word else word

-- a quotient by 0 has all bits set
abbrev pub quotient : ℕ → ℕ → ℕ
quotient a b = if b == 0 then 2 ^ 32 - 1 else a / b

-- signed quotients are rounded towards 0; that of -2 ^ 31 by -1 wraps to -2 ^ 31
abbrev pub quotient_signed : ℕ → ℕ → ℕ
quotient_signed a b =
    if b == 0 then 2 ^ 32 - 1
    else negated_if (is_negative a) (negated_if (is_negative b) (magnitude a / magnitude b))

-- a remainder by 0 is the dividend
abbrev pub remainder : ℕ → ℕ → ℕ
remainder a b = if b == 0 then a else a % b

-- a signed remainder that isn't 0 has the sign of the dividend
abbrev pub remainder_signed : ℕ → ℕ → ℕ
remainder_signed a b = if b == 0 then a else negated_if (is_negative a) (magnitude a % magnitude b)
