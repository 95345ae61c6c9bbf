-- The arithmetic shift right rounds down, and sign extension keeps the value.
use Rattle.std.proofs.Common.{◌≡◌, ℕ, ◌+◌, ◌-◌, ◌*◌, ◌/◌, ◌%◌, ◌^◌, ◌<◌, ◌≤◌, Bool, true, false, ⊎_elim, refl, sym, ap, subst, ◌∙◌, arith, mod-lt, nat_lt}
use Rattle.std.specs.Prelude.{ℤ, pos, ◌+ℤ◌, ◌*ℤ◌, ◌-ℤ◌}
use Rattle.std.proofs.Math.IntN.{neg_ℤ}
use Rattle.std.proofs.Math.Pow.{pow_mono}
use Rattle.std.proofs.Math.Nat.{div-add-mod, div-le_self}
use Rattle.std.proofs.lemmas.Bool.{cases_lt}
use Rattle.std.proofs.lemmas.Bool.Decides.{nat_tests}
use Rattle.std.proofs.lemmas.Int.{ints}
use Rattle.std.proofs.lemmas.Nat.{mul-le, pow-add, pow_pos}
use Rattle.vm_word.specs.Word.{signed_value}
use Rattle.vm_word.specs.Arithmetic.{is_negative, shifted_right_signed, sign_extended}
use Rattle.vm_word.specs.ArithmeticLaws.{IsWord, RoundsDown, Extends, signed_number, SignExtensionKeepsTheValue, SignedShiftRoundsDown}
use Rattle.vm_word.proofs.SignedLemmas.{Bounds, bounds, value_low, value_high, signed_product}

-- a power of two from its half
half_power : (k : ℕ) → 0 < k → 2 ^ k ≡ 2 * 2 ^ (k - 1)
half_power k some = ap (λ (e : ℕ). 2 ^ e) (let e : k ≡ 1 + (k - 1) = omega arith in e) ∙ pow-add 2 1 (k - 1)

-- ---- the shift

-- n below zero: c is the distance of its quotient by d from zero
rounds_less : (n c d : ℕ) → 0 < c → n ≤ c * d → c * d < n + d → RoundsDown (neg_ℤ (pos n)) (pos d) (neg_ℤ (pos c))
rounds_less n c d some least most =
    let times : neg_ℤ (pos c) *ℤ pos d ≡ neg_ℤ (pos (c * d)) = signed_product true false c d in
    let next : neg_ℤ (pos c) +ℤ pos 1 ≡ neg_ℤ (pos (c - 1)) = omega (arith, ints) in
    let above : neg_ℤ (pos (c - 1)) *ℤ pos d ≡ neg_ℤ (pos ((c - 1) * d)) = signed_product true false (c - 1) d in
    let split : (c - 1) * d + d ≡ c * d = let e : c - 1 + 1 ≡ c = omega arith in omega (arith, ap (λ (x : ℕ). x * d) e) in
    record { least = rw times (omega (arith, ints, least)); greatest = rw (next, above) (omega (arith, ints, split, most)) }

rounds_some : (n d : ℕ) → 0 < d → RoundsDown (pos n) (pos d) (pos (n / d))
rounds_some n d some =
    let q : ℕ = n / d in
    let whole : d * (n / d) + n % d ≡ n = div-add-mod n d in
    let low : n % d < d = mod-lt n some in
    let times : pos q *ℤ pos d ≡ pos (q * d) = signed_product false false q d in
    let above : pos (q + 1) *ℤ pos d ≡ pos ((q + 1) * d) = signed_product false false (q + 1) d in
    record { least = rw times (omega (arith, ints, whole)); greatest = rw above (omega (arith, ints, whole, low)) }

-- the quotient q of a negative word by d, where d * u = 2 ^ 32, and u is twice v
quotient_low : (w d q r u : ℕ) → w < 2 ^ 32 → d * u ≡ 2 ^ 32 → d * q + r ≡ w → q < u
quotient_low w d q r u fits whole parts =
    ⊎_elim
    (λ (low : q < u). low)
    (λ (high : u ≤ q). let more : d * u ≤ d * q = mul-le d u d q (omega arith) high in absurd (omega (arith, more, whole, parts)))
    (cases_lt q u)

quotient_high : (w d q r u v : ℕ) → 2 ^ 31 ≤ w → d * u ≡ 2 ^ 32 → u ≡ 2 * v → d * q + r ≡ w → r < d → v ≤ q
quotient_high w d q r u v high whole half parts rest =
    ⊎_elim
    (λ (low : q < v).
    let more : d * (q + 1) ≤ d * v = mul-le d (q + 1) d v (omega arith) (omega arith) in
    let twice : d * u ≡ 2 * (d * v) = rw half (omega arith) in
    absurd (omega (arith, more, twice, whole, parts)))
    (λ (least : v ≤ q). least)
    (cases_lt q v)

negative_rounds : (w d q r u v : ℕ) → 2 ^ 31 ≤ w → w < 2 ^ 32 → d * u ≡ 2 ^ 32 → u ≡ 2 * v → v ≤ 2 ^ 31 → d * q + r ≡ w → r < d
    → IsWord (q + (2 ^ 32 - u)) × RoundsDown (signed_value w) (pos d) (signed_value (q + (2 ^ 32 - u)))
negative_rounds w d q r u v high fits whole half small parts rest =
    let under : q < u = quotient_low w d q r u fits whole parts in
    let over : v ≤ q = quotient_high w d q r u v high whole half parts rest in
    let c : ℕ = u - q in
    let back : 2 ^ 32 - (q + (2 ^ 32 - u)) ≡ c = omega arith in
    let value : signed_value (q + (2 ^ 32 - u)) ≡ neg_ℤ (pos c) = value_high (q + (2 ^ 32 - u)) (omega arith) (omega arith) ∙ ap (λ (k : ℕ). neg_ℤ (pos k)) back in
    let distance : c * d + d * q ≡ 2 ^ 32 = let e : c + q ≡ u = omega arith in omega (arith, ap (λ (x : ℕ). d * x) e, whole) in
    (omega arith, rw (value_high w high fits, value) (rounds_less (2 ^ 32 - w) c d (omega arith) (omega (arith, distance, parts)) (omega (arith, distance, parts))))

shift_by : (s : Bool) (w by : ℕ) → w < 2 ^ 32 → by < 32 → is_negative w ≡ s
    → IsWord (shifted_right_signed w by) × RoundsDown (signed_value w) (pos (2 ^ by)) (signed_value (shifted_right_signed w by))
shift_by false w by fits lt e =
    let low : w < 2 ^ 31 = bounds false w fits e in
    let least : w / 2 ^ by ≤ w = div-le_self w (2 ^ by) in
    rw e (omega arith, rw (value_low w low, value_low (w / 2 ^ by) (omega arith)) (rounds_some w (2 ^ by) (pow_pos by)))
shift_by true w by fits lt e =
    let b = bounds true w fits e in
    let d : ℕ = 2 ^ by in
    let u : ℕ = 2 ^ (32 - by) in
    let v : ℕ = 2 ^ (32 - by - 1) in
    let whole : d * u ≡ 2 ^ 32 = sym (pow-add 2 by (32 - by)) ∙ ap (λ (k : ℕ). 2 ^ k) (let all : by + (32 - by) ≡ 32 = omega arith in all) in
    let half : u ≡ 2 * v = half_power (32 - by) (omega arith) in
    let few : 32 - by - 1 ≤ 31 = omega arith in
    let small : v ≤ 2 ^ 31 = pow_mono few in
    rw e (negative_rounds w d (w / d) (w % d) u v b.0 b.1 whole half small (div-add-mod w d) (mod-lt w (pow_pos by)))

pub signed_shift_rounds_down : SignedShiftRoundsDown
signed_shift_rounds_down w by fits lt = shift_by (is_negative w) w by fits lt refl

-- ---- sign extension

extend_by : (s : Bool) (bits number : ℕ) → 0 < bits → bits < 32 → number < 2 ^ bits → nat_lt number (2 ^ (bits - 1)) ≡ s → Extends bits number (sign_extended bits number)
extend_by true bits number some few fits e =
    let low : number < 2 ^ (bits - 1) = grind (arith, nat_tests) in
    let few_bits : bits - 1 ≤ 30 = omega arith in
    let top : 2 ^ (bits - 1) ≤ 2 ^ 30 = pow_mono few_bits in
    let is : sign_extended bits number ≡ number = rw e refl in
    let number_is : signed_number bits number ≡ pos number = rw e refl in
    record { is_word = subst IsWord (sym is) (omega (arith, low, top)); value = ap signed_value is ∙ value_low number (omega (arith, low, top)) ∙ sym number_is }
extend_by false bits number some few fits e =
    let high : 2 ^ (bits - 1) ≤ number = grind (arith, nat_tests) in
    let few_bits : bits - 1 ≤ 30 = omega arith in
    let top : 2 ^ (bits - 1) ≤ 2 ^ 30 = pow_mono few_bits in
    let half = half_power bits some in
    let word : ℕ = number + (2 ^ 32 - 2 ^ bits) in
    let value = value_high word (omega (arith, high, top, half)) (omega (arith, fits, half, top)) in
    let is : sign_extended bits number ≡ word = rw e refl in
    let number_is : signed_number bits number ≡ (pos number -ℤ pos (2 ^ bits)) = rw e refl in
    let distance : neg_ℤ (pos (2 ^ 32 - word)) ≡ (pos number -ℤ pos (2 ^ bits)) = omega (arith, ints, fits, half, top) in
    record { is_word = subst IsWord (sym is) (omega (arith, fits, half, top)); value = ap signed_value is ∙ value ∙ distance ∙ sym number_is }

pub sign_extension : SignExtensionKeepsTheValue
sign_extension bits number some few fits = extend_by (nat_lt number (2 ^ (bits - 1))) bits number some few fits refl
