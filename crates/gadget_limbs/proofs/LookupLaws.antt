-- What is looked up of a limb of a result says that it is right.
use Rattle.std.proofs.Common.{◌≡◌, ℕ, ◌+◌, ◌*◌, ◌<◌, [], ◌∷◌, bit_xor, bit_or, bit_and, refl, sym, ap, ◌∙◌, arith}
use Rattle.std.proofs.lemmas.Nat.{xor_of_8, and_le_l}
use lib.Bits.{xor_self}
use Rattle.vm_field.specs.Field.{modulus}
use Rattle.air_core.specs.Lookups.{IsXorRow}
use Rattle.air_core.proofs.LookupLemmas.{xor_good}
use Rattle.gadget_limbs.specs.Lookup.{choose, mixed, looked_up}
use Rattle.gadget_limbs.specs.Laws.{flags_of, RightLimb}
use Rattle.gadget_limbs.proofs.BitLaws.{byte_bits}
use Rattle.air_core.specs.Ring.{field}

choose_result : (a b : ℕ) → a < modulus → choose field 1 1 a b ≡ a
unfolding choose
choose_result a b below = omega arith

choose_word : (a b : ℕ) → b < modulus → choose field 1 0 a b ≡ b
unfolding choose
choose_word a b below = omega arith

mixed_none : (a b c : ℕ) → mixed field 0 0 0 a b c ≡ 0
unfolding mixed
mixed_none a b c = omega arith

mixed_xor : (a b c : ℕ) → a < modulus → mixed field 1 0 0 a b c ≡ a
unfolding mixed
mixed_xor a b c below = omega arith

-- where 2a - b - c is the xor of two bytes, a is their or
or_back : (a b c x n o : ℕ) → a < modulus → b < 256 → c < 256 → x < 256 → n < 256 → b + c ≡ x + 2 * n → o ≡ x + n → mixed field 0 1 0 a b c ≡ x → a ≡ o
unfolding mixed
or_back a b c x n o below p q r s e f h = omega arith

-- where b + c - 2a is, it is their and
and_back : (a b c x n : ℕ) → a < modulus → b < 256 → c < 256 → x < 256 → n < 256 → b + c ≡ x + 2 * n → mixed field 0 0 1 a b c ≡ x → a ≡ n
unfolding mixed
and_back a b c x n below p q r s e h = omega arith

mixed_or : (a b c x n : ℕ) → x < 256 → n < 256 → b + c ≡ x + 2 * n → a ≡ x + n → mixed field 0 1 0 a b c ≡ x
unfolding mixed
mixed_or a b c x n p q e f = omega arith

mixed_and : (a b c x n : ℕ) → x < 256 → n < 256 → b + c ≡ x + 2 * n → a ≡ n → mixed field 0 0 1 a b c ≡ x
unfolding mixed
mixed_and a b c x n p q e f = omega arith

pub and_of_8 : (b c : ℕ) → b < 256 → c < 256 → bit_and b c < 256
and_of_8 b c p q = omega (arith, and_le_l b c)

xor_row : (x y z b c : ℕ) → x ≡ b → y ≡ c → z ≡ bit_xor b c → b < 256 → c < 256 → IsXorRow (x ∷ y ∷ z ∷ [])
xor_row x y z b c e f g p q = record { x = b; y = c; x_byte = p; y_byte = q; is = rw (e, f, g) refl }

-- a sum or a difference: its limb, twice

sum_byte : (a b c : ℕ) → a < modulus → IsXorRow (looked_up field (flags_of 1 0 0 0) a b c) → a < 256
unfolding looked_up
sum_byte a b c below row = omega (arith, (xor_good _ _ _ row).left, choose_result a b below)

byte_row : (a b c : ℕ) → a < 256 → IsXorRow (looked_up field (flags_of 1 0 0 0) a b c)
unfolding looked_up
byte_row a b c p = xor_row _ _ _ a a (choose_result a b (omega arith)) (choose_result a c (omega arith)) (mixed_none a b c ∙ sym (xor_self a)) p p

-- a bitwise operation: the limbs of its words

bits_of : (xor or and a b c : ℕ) → b < 256 → c < 256 → IsXorRow (looked_up field (flags_of 0 xor or and) a b c) → mixed field xor or and a b c ≡ bit_xor b c
unfolding looked_up
bits_of xor or and a b c p q row =
    (xor_good _ _ _ row).xor ∙ ap (λ (x : ℕ). bit_xor x (choose field 1 0 a c)) (choose_word a b (omega arith)) ∙ ap (λ (x : ℕ). bit_xor b x) (choose_word a c (omega arith))

bits_row : (xor or and a b c : ℕ) → b < 256 → c < 256 → mixed field xor or and a b c ≡ bit_xor b c → IsXorRow (looked_up field (flags_of 0 xor or and) a b c)
unfolding looked_up
bits_row xor or and a b c p q e = xor_row _ _ _ b c (choose_word a b (omega arith)) (choose_word a c (omega arith)) e p q

xor_from : (a b c : ℕ) → b < 256 → c < 256 → a ≡ bit_xor b c → mixed field 1 0 0 a b c ≡ bit_xor b c
xor_from a b c p q e = mixed_xor a b c (omega (arith, e, xor_of_8 b c p q)) ∙ e

or_from : (a b c : ℕ) → b < 256 → c < 256 → a ≡ bit_or b c → mixed field 0 1 0 a b c ≡ bit_xor b c
or_from a b c p q e = let bits = byte_bits b c p q in mixed_or a b c (bit_xor b c) (bit_and b c) (xor_of_8 b c p q) (and_of_8 b c p q) bits.0 (e ∙ bits.1)

and_from : (a b c : ℕ) → b < 256 → c < 256 → a ≡ bit_and b c → mixed field 0 0 1 a b c ≡ bit_xor b c
and_from a b c p q e = mixed_and a b c (bit_xor b c) (bit_and b c) (xor_of_8 b c p q) (and_of_8 b c p q) (byte_bits b c p q).0 e

or_is : (a b c : ℕ) → a < modulus → b < 256 → c < 256 → mixed field 0 1 0 a b c ≡ bit_xor b c → a ≡ bit_or b c
or_is a b c below p q e = let bits = byte_bits b c p q in or_back a b c (bit_xor b c) (bit_and b c) (bit_or b c) below p q (xor_of_8 b c p q) (and_of_8 b c p q) bits.0 bits.1 e

and_is : (a b c : ℕ) → a < modulus → b < 256 → c < 256 → mixed field 0 0 1 a b c ≡ bit_xor b c → a ≡ bit_and b c
and_is a b c below p q e = and_back a b c (bit_xor b c) (bit_and b c) below p q (xor_of_8 b c p q) (and_of_8 b c p q) (byte_bits b c p q).0 e

pub right_limb : (a b c : ℕ) → a < modulus → b < 256 → c < 256 → RightLimb a b c
right_limb a b c below p q = record {
  sum = (λ row. sum_byte a b c below row, λ byte. byte_row a b c byte);
  xor = (λ row. sym (mixed_xor a b c below) ∙ bits_of 1 0 0 a b c p q row, λ e. bits_row 1 0 0 a b c p q (xor_from a b c p q e));
  or = (λ row. or_is a b c below p q (bits_of 0 1 0 a b c p q row), λ e. bits_row 0 1 0 a b c p q (or_from a b c p q e));
  and = (λ row. and_is a b c below p q (bits_of 0 0 1 a b c p q row), λ e. bits_row 0 0 1 a b c p q (and_from a b c p q e));
}
