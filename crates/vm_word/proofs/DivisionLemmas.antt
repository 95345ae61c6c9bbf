-- Signed division, by the signs of dividend and divisor.
use Rattle.std.proofs.Common.{◌≡◌, ◌≢◌, ℕ, zero, suc, ◌+◌, ◌-◌, ◌*◌, ◌/◌, ◌%◌, ◌^◌, ◌<◌, ◌≤◌, Bool, true, false, inl, inr, ⊎_elim, ◌⊎◌, refl, sym, ap, subst, ◌∙◌, arith, mod-lt, ◌==◌, if◌then◌else◌}
use Rattle.std.specs.Prelude.{ℤ, pos, ◌+ℤ◌, ◌*ℤ◌}
use Rattle.std.specs.Prelude.{int_lt, unsigned_abs}
use Rattle.std.proofs.Math.IntN.{neg_ℤ}
use Rattle.std.proofs.Math.Nat.{div-le_self, div-add-mod, div-mul-le_self}
use Rattle.std.proofs.lemmas.Nat.{mul-le}
use Rattle.std.proofs.lemmas.Bool.{cases_eq, ne_eqb}
use Rattle.std.proofs.lemmas.Bool.Decides.{nat_tests}
use Rattle.std.proofs.lemmas.Int.{ints}
use Rattle.vm_word.specs.Word.{signed_value}
use Rattle.vm_word.specs.Arithmetic.{is_negative, magnitude, negated, negated_if, quotient, quotient_signed, remainder, remainder_signed}
use Rattle.vm_word.specs.ArithmeticLaws.{IsWord, IsDivision, UnsignedDivision, SignedDivision, DivisionsThatAreNone}
use Rattle.vm_word.proofs.SignedLemmas.{signed_by, differ, Bounds, bounds, size, size_small, magnitude_is, value_of, value_negated, signed_product, signed_sum}

abs_by : (s : Bool) (n : ℕ) → unsigned_abs (signed_by s n) ≡ n
abs_by true zero = refl
abs_by true (suc n) = refl
abs_by false n = refl

sign_by : (s : Bool) (n : ℕ) → int_lt (signed_by s (suc n)) (pos 0) ≡ s
sign_by true n = refl
sign_by false n = grind (arith, ints)

none_by : (s : Bool) → signed_by s 0 ≡ pos 0
none_by true = refl
none_by false = refl

-- a part has the sign of the whole
sign_of_part : (s : Bool) (a r : ℕ) → r ≤ a → (signed_by s r ≡ pos 0) ⊎ (int_lt (signed_by s r) (pos 0) ≡ int_lt (signed_by s a) (pos 0))
sign_of_part s a zero h = inl (none_by s)
sign_of_part s zero (suc r) h = absurd (omega arith)
sign_of_part s (suc a) (suc r) h = inr (sign_by s r ∙ sym (sign_by s a))

back : (s t : Bool) → differ t (differ s t) ≡ s
back true true = refl
back true false = refl
back false true = refl
back false false = refl

-- the parts of a division with their signs
divided : (s t : Bool) (a b : ℕ) → 0 < b → IsDivision (signed_by s a) (signed_by t b) (signed_by (differ s t) (a / b)) (signed_by s (a % b))
divided s t a b some =
    let times : signed_by t b *ℤ signed_by (differ s t) (a / b) ≡ signed_by s (b * (a / b)) =
    signed_product t (differ s t) b (a / b) ∙ ap (λ (u : Bool). signed_by u (b * (a / b))) (back s t) in
    let whole : b * (a / b) + a % b ≡ a = div-add-mod a b in
    let low : a % b < b = mod-lt a some in
    record {
      whole = sym (ap (λ (z : ℤ). z +ℤ signed_by s (a % b)) times ∙ signed_sum s (b * (a / b)) (a % b) ∙ ap (signed_by s) whole);
      small = rw (abs_by s (a % b), abs_by t b) low;
      sign = sign_of_part s a (a % b) (omega (arith, whole));
    }

-- a number negated once for each sign
negated_twice : (s t : Bool) (n : ℕ) → n < 2 ^ 32 → negated_if s (negated_if t n) ≡ negated_if (differ s t) n
negated_twice true true n low = omega arith
negated_twice true false n low = refl
negated_twice false true n low = refl
negated_twice false false n low = omega arith

negated_word : (s : Bool) (n : ℕ) → n < 2 ^ 32 → IsWord (negated_if s n)
negated_word true n low = omega arith
negated_word false n low = low

-- the quotient fits, but for that of -2 ^ 31 by -1
fits_by : (s t : Bool) (a b : ℕ) → Bounds s a → 0 < b → (s ≡ true → t ≡ true → size s a ≡ 2 ^ 31 → b ≡ 1 → ⊥) → differ s t ≡ false → size s a / b < 2 ^ 31
fits_by true false a b h some other same = absurd (cc)
fits_by false true a b h some other same = absurd (cc)
fits_by false false a b h some other same = omega (arith, h, div-le_self a b)
fits_by true true a b h some other same =
    let m : ℕ = 2 ^ 32 - a in
    let least = div-le_self m b in
    ⊎_elim
    (λ (top : m ≡ 2 ^ 31).
    ⊎_elim (λ (one : b ≡ 1). absurd (other refl refl top one))
    (λ (more : b ≡ 1 → ⊥).
    let twice : m / b * 2 ≤ m / b * b = mul-le (m / b) 2 (m / b) b (omega arith) (omega (arith, more, some)) in
    let whole : m / b * b ≤ m = div-mul-le_self m b in
    omega (arith, twice, whole, top))
    (cases_eq b 1))
    (λ (under : m ≡ 2 ^ 31 → ⊥). omega (arith, h.0, under, least))
    (cases_eq m (2 ^ 31))

some_size : (s : Bool) (b : ℕ) → Bounds s b → b ≢ 0 → 0 < size s b
some_size true b h some = omega (arith, h.1)
some_size false b h some = omega (arith, some)

least_is : (a : ℕ) → Bounds true a → size true a ≡ 2 ^ 31 → a ≡ 2 ^ 31
least_is a h e = omega (arith, h.1, e)

minus_one : (b : ℕ) → Bounds true b → size true b ≡ 1 → b ≡ 2 ^ 32 - 1
minus_one b h e = omega (arith, h.1, e)

excluded : (s t : Bool) (a b : ℕ) → Bounds s a → Bounds t b → (a ≡ 2 ^ 31 → b ≡ 2 ^ 32 - 1 → ⊥) → s ≡ true → t ≡ true → size s a ≡ 2 ^ 31 → size t b ≡ 1 → ⊥
excluded true true a b h k other e f p q = other (least_is a h p) (minus_one b k q)
excluded true false a b h k other e f p q = absurd (cc)
excluded false t a b h k other e f p q = absurd (cc)

same_quotient : (u s v t : Bool) (m A n B : ℕ) → u ≡ s → v ≡ t → m ≡ A → n ≡ B → negated_if u (negated_if v (m / n)) ≡ negated_if s (negated_if t (A / B))
same_quotient u s v t m A n B e f g h = rw (e, f, g, h) refl

same_remainder : (u s : Bool) (m A n B : ℕ) → u ≡ s → m ≡ A → n ≡ B → negated_if u (m % n) ≡ negated_if s (A % B)
same_remainder u s m A n B e g h = rw (e, g, h) refl

chosen : (t : Bool) (x y : ℕ) → t ≡ false → (if t then x else y) ≡ y
chosen t x y e = rw e refl

by_signs : (s t : Bool) (a b : ℕ) → a < 2 ^ 32 → b < 2 ^ 32 → is_negative a ≡ s → is_negative b ≡ t → b ≢ 0 → (a ≡ 2 ^ 31 → b ≡ 2 ^ 32 - 1 → ⊥)
    → IsWord (quotient_signed a b) × IsWord (remainder_signed a b)
    × IsDivision (signed_value a) (signed_value b) (signed_value (quotient_signed a b)) (signed_value (remainder_signed a b))
by_signs s t a b p q e f some other =
    let h = bounds s a p e in
    let k = bounds t b q f in
    let A : ℕ = size s a in
    let B : ℕ = size t b in
    let no : (b == 0) ≡ false = ne_eqb b 0 some in
    let A_small : A ≤ 2 ^ 31 = size_small s a h in
    let B_small : B ≤ 2 ^ 31 = size_small t b k in
    let B_some : 0 < B = some_size t b k some in
    let least : A / B ≤ A = div-le_self A B in
    let low : A % B < B = mod-lt A B_some in
    let quotient_is : quotient_signed a b ≡ negated_if (differ s t) (A / B) =
    chosen (b == 0) _ _ no ∙ same_quotient (is_negative a) s (is_negative b) t (magnitude a) A (magnitude b) B e f (magnitude_is s a e) (magnitude_is t b f)
    ∙ negated_twice s t (A / B) (omega (arith, A_small, least)) in
    let remainder_is : remainder_signed a b ≡ negated_if s (A % B) =
    chosen (b == 0) _ _ no ∙ same_remainder (is_negative a) s (magnitude a) A (magnitude b) B e (magnitude_is s a e) (magnitude_is t b f) in
    let fits = fits_by s t a B h B_some (excluded s t a b h k other) in
    let q_value : signed_value (quotient_signed a b) ≡ signed_by (differ s t) (A / B) = ap signed_value quotient_is ∙ value_negated (differ s t) (A / B) (omega (arith, A_small, least)) fits in
    let r_value : signed_value (remainder_signed a b) ≡ signed_by s (A % B) =
    ap signed_value remainder_is ∙ value_negated s (A % B) (omega (arith, low, B_small)) (λ same. omega (arith, low, B_small)) in (
      subst IsWord (sym quotient_is) (negated_word (differ s t) (A / B) (omega (arith, A_small, least))),
      subst IsWord (sym remainder_is) (negated_word s (A % B) (omega (arith, low, B_small))),
      rw (value_of s a h, value_of t b k, q_value, r_value) (divided s t A B B_some),
    )

pub signed_division : SignedDivision
signed_division a b p q some other = by_signs (is_negative a) (is_negative b) a b p q refl refl some other

pub unsigned_division : UnsignedDivision
unsigned_division a b some =
    let other : (b == 0) ≡ false = ne_eqb b 0 some in
    let low : a % b < b = mod-lt a (omega (arith, some)) in
    let whole : b * (a / b) + a % b ≡ a = div-add-mod a b in
    rw other (sym whole, low)

pub divisions_that_are_none : DivisionsThatAreNone
divisions_that_are_none = record {
  quotient_by_zero = λ a. refl;
  remainder_by_zero = λ a. refl;
  signed_quotient_by_zero = λ a. refl;
  signed_remainder_by_zero = λ a. refl;
  wrapped_quotient = refl;
  wrapped_remainder = refl;
}
