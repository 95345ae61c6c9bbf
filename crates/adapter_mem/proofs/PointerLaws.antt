-- What PTR says.
use Rattle.std.proofs.Common.{◌≡◌, ℕ, ◌+◌, ◌-◌, ◌*◌, ◌/◌, ◌%◌, ◌^◌, ◌<◌, ◌≤◌, refl, sym, ap, ◌∙◌, arith}
use Rattle.std.proofs.lemmas.Nat.{mul-le, mod-mul-add, mul-mod_first, div_below}
use Rattle.std.proofs.Math.Nat.{add-mul-mod_self_right, div-add-mod}
use Rattle.vm_field.specs.Field.{modulus, field_add, field_sub, field_mul}
use Rattle.vm_field.specs.declared.limbs.Limbs.{Limbs}
use Rattle.vm_field.specs.Limbs.{list_of}
use Rattle.vm_field.proofs.Lift.{lift, lift_65536}
use Rattle.vm_field.proofs.Constraints.{boolean_at_most, boolean_holds}
use Rattle.vm_word.specs.Word.{word_of_limbs}
use Rattle.vm_word.specs.Arithmetic.{word_sum}
use Rattle.vm_isa.specs.Words.{IsBytes}
use Rattle.air_core.specs.First.{bit}
use Rattle.adapter_mem.specs.Pointer.{low_half, high_half, half_out, low_out, high_out, pointer_constraints, part, pointer}
use Rattle.adapter_mem.specs.Laws.{IsDivisor, IsPointer, PointerHolds, PointerLaw}
use Rattle.air_core.specs.Ring.{field}

-- the halves of a word of bytes
record Halves (w : Limbs ℕ) : Type 0 where
  low : (low_half field) w < 65536
  high : (high_half field) w < 65536
  is : word_of_limbs (list_of w) ≡ (low_half field) w + 65536 * (high_half field) w

halves : (w : Limbs ℕ) → IsBytes (list_of w) → Halves w
unfolding low_half high_half list_of
halves w h = record { low = omega (arith, h.0, h.1.0); high = omega (arith, h.1.1.0, h.1.1.1.0); is = omega (arith, h.0, h.1.0, h.1.1.0, h.1.1.1.0) }

-- one half: its carry is 0 or 1, and the whole numbers add up
half_law : (x y k m : ℕ) → x < 65536 → y < 65536 → k ≤ 1 → m < 65536 → (bit field) ((half_out field) x y k m) ≡ 0 → ((half_out field) x y k m ≤ 1) × (x + y + k ≡ m + 65536 * (half_out field) x y k m)
unfolding half_out bit
half_law x y k m p q r low h =
    let out = field_mul (field_sub (field_add (field_add x y) k) m) 2013235201 in
    let small : out ≤ 1 = boolean_at_most out (omega arith) h in
    let whole : field_add (field_add x y) k ≡ m + 65536 * out = lift_65536 out (field_add (field_add x y) k) m refl (omega arith) (omega arith) in
    (small, omega arith)

half_holds : (x y k m : ℕ) → x < 65536 → y < 65536 → k ≤ 1 → m ≡ (x + y + k) % 65536 → (half_out field) x y k m ≡ (x + y + k) / 65536
unfolding half_out
half_holds x y k m p q r e = omega arith

-- m0 is h and d times the part
part_law : (d inverse width m0 h : ℕ) → IsDivisor d inverse width → m0 < modulus → h < d → (part field) inverse m0 h < 2 ^ width → (m0 ≡ h + d * (part field) inverse m0 h) × (m0 < 65536)
unfolding part
part_law d inverse width m0 h is low small below =
    let w = field_mul (field_sub m0 h) inverse in
    let most : d * (w + 1) ≤ d * 2 ^ width = mul-le d (w + 1) d (2 ^ width) (omega arith) (omega arith) in
    let top : d * w + d ≤ 65536 = omega (arith, most, is.whole) in
    let whole : m0 ≡ h + d * w = lift d inverse w m0 h is.inverse_is refl (omega arith) low in
    (whole, omega arith)

part_back : (d inverse width m0 h w : ℕ) → IsDivisor d inverse width → m0 ≡ h + d * w → m0 < 65536 → h < d → (part field) inverse m0 h ≡ w
unfolding part
part_back d inverse width m0 h w is e low small =
    let difference : field_sub m0 h ≡ d * w = omega arith in
    let regroup : d * w * inverse ≡ d * inverse * w = omega arith in
    let few : 1 * w ≤ d * w = mul-le 1 w d w is.some (omega arith) in
    ap (λ x. field_mul x inverse) difference ∙ (ap (λ x. x % modulus) regroup ∙ (sym (mul-mod_first (d * inverse) w modulus) ∙ (ap (λ x. (x * w) % modulus) is.inverse_is ∙ omega arith)))

remainder_is : (d m0 m1 h w half : ℕ) → 65536 ≡ d * half → h < d → m0 ≡ h + d * w → (m0 + 65536 * m1) % d ≡ h
remainder_is d m0 m1 h w half e small whole =
    let regroup : m0 + 65536 * m1 ≡ (w + half * m1) * d + h = rw (whole, e) (omega arith) in
    rw regroup (mod-mul-add (w + half * m1) d h small)

pub pointer_is : (m0 m1 h sum : ℕ) → m0 < 65536 → m1 < 8192 → h ≤ m0 → sum ≡ m0 + 65536 * m1 → (pointer field) m0 m1 h ≡ sum - h
unfolding pointer
pointer_is m0 m1 h sum p q r e = omega arith

joined : (b i x y m0 m1 k0 k1 u v : ℕ) → b ≡ x + 65536 * y → i ≡ u + 65536 * v → x + u + 0 ≡ m0 + 65536 * k0 → y + v + k0 ≡ m1 + 65536 * k1 → m0 < 65536 → m1 < 8192 → word_sum b i ≡ m0 + 65536 * m1
joined b i x y m0 m1 k0 k1 u v e f g h p q = omega arith

pub pointer_law : (d inverse width : ℕ) (b i : Limbs ℕ) (m0 m1 h : ℕ) → IsDivisor d inverse width → IsBytes (list_of b) → IsBytes (list_of i) → m0 < modulus → h < d
    → PointerHolds b i inverse width m0 m1 h → IsPointer d (word_sum (word_of_limbs (list_of b)) (word_of_limbs (list_of i))) m0 m1 h
unfolding pointer_constraints
pointer_law d inverse width b i m0 m1 h is bb bi low small holds =
    let hb = halves b bb in
    let hi = halves i bi in
    let m = part_law d inverse width m0 h is low small holds.low in
    let one = half_law ((low_half field) b) ((low_half field) i) 0 m0 hb.low hi.low (omega arith) m.1 holds.zero.0 in
    let two = half_law ((high_half field) b) ((high_half field) i) ((low_out field) b i m0) m1 hb.high hi.high one.0 (omega (arith, holds.high)) holds.zero.1.0 in
    let sum : word_sum (word_of_limbs (list_of b)) (word_of_limbs (list_of i)) ≡ m0 + 65536 * m1
    = joined _ _ ((low_half field) b) ((high_half field) b) m0 m1 ((low_out field) b i m0) ((high_out field) b i m0 m1) ((low_half field) i) ((high_half field) i) hb.is hi.is one.1 two.1 m.1 (omega (arith, holds.high)) in
    record {
      halves = sum;
      low = m.1;
      below = rw sum (omega (arith, m.1, holds.high));
      remainder = rw sum (remainder_is d m0 m1 h ((part field) inverse m0 h) (2 ^ width) (sym is.whole) small m.0);
      is = pointer_is m0 m1 h _ m.1 (omega (arith, holds.high)) (omega (arith, m.0)) sum;
    }

-- Back.

split : (b i x y u v m0 m1 : ℕ) → b ≡ x + 65536 * y → i ≡ u + 65536 * v → x < 65536 → y < 65536 → u < 65536 → v < 65536 → word_sum b i ≡ m0 + 65536 * m1 → m0 < 65536
    → (m0 ≡ (x + u + 0) % 65536) × (m1 ≡ (y + v + (x + u + 0) / 65536) % 65536)
split b i x y u v m0 m1 e f p q r s g low = (omega arith, omega arith)

left_of : (d m0 m1 h half : ℕ) → 65536 ≡ d * half → (m0 + 65536 * m1) % d ≡ h → m0 ≡ h + d * (m0 / d)
left_of d m0 m1 h half e r =
    let regroup : m0 + 65536 * m1 ≡ m0 + half * m1 * d = rw e (omega arith) in
    let same : m0 % d ≡ h = sym (ap (λ x. x % d) regroup ∙ add-mul-mod_self_right m0 (half * m1) d) ∙ r in
    omega (arith, div-add-mod m0 d, same)

pub pointer_holds : (d inverse width : ℕ) (b i : Limbs ℕ) (m0 m1 h : ℕ) → IsDivisor d inverse width → IsBytes (list_of b) → IsBytes (list_of i) → h < d
    → IsPointer d (word_sum (word_of_limbs (list_of b)) (word_of_limbs (list_of i))) m0 m1 h → PointerHolds b i inverse width m0 m1 h
unfolding pointer_constraints bit
pointer_holds d inverse width b i m0 m1 h is bb bi small p =
    let hb = halves b bb in
    let hi = halves i bi in
    let parts = split (word_of_limbs (list_of b)) (word_of_limbs (list_of i)) ((low_half field) b) ((high_half field) b) ((low_half field) i) ((high_half field) i) m0 m1 hb.is hi.is hb.low hb.high hi.low hi.high p.halves p.low in
    let one = half_holds ((low_half field) b) ((low_half field) i) 0 m0 hb.low hi.low (omega arith) parts.0 in
    let one_small : (low_out field) b i m0 ≤ 1 = omega (arith, one, hb.low, hi.low) in
    let two = half_holds ((high_half field) b) ((high_half field) i) ((low_out field) b i m0) m1 hb.high hi.high one_small (rw one parts.1) in
    let two_small : (high_out field) b i m0 m1 ≤ 1 = omega (arith, two, hb.high, hi.high, one_small) in
    let left = left_of d m0 m1 h (2 ^ width) (sym is.whole) (ap (λ x. x % d) (sym p.halves) ∙ p.remainder) in
    let w = part_back d inverse width m0 h (m0 / d) is left p.low small in
    record {
      zero = (boolean_holds ((low_out field) b i m0) one_small, (boolean_holds ((high_out field) b i m0 m1) two_small, tt));
      low = rw w (div_below m0 d (2 ^ width) is.some (omega (arith, p.low, is.whole)));
      high = omega (arith, p.halves, p.below);
    }

pub pointer_both : PointerLaw
pointer_both d inverse width b i m0 m1 h is bb bi m0_low m1_low small = (pointer_law d inverse width b i m0 m1 h is bb bi m0_low small, pointer_holds d inverse width b i m0 m1 h is bb bi small)

-- the remainder by 2 of a target
pub by_2 : IsDivisor 2 1006632961 15
by_2 = record { inverse_is = refl; inverse_low = omega arith; some = omega arith; small = omega arith; whole = refl }
