-- What instructions make of words is a word.
use Rattle.std.proofs.Common.{◌≡◌, ℕ, ◌+◌, ◌-◌, ◌/◌, ◌%◌, ◌^◌, ◌<◌, ◌≤◌, ◌==◌, Bool, true, false, cond, nat_lt, refl, subst, arith}
use Rattle.std.proofs.Math.Nat.{div-le_self, mod-le}
use Rattle.std.proofs.lemmas.Bool.Decides.{nat_tests}
use Rattle.std.proofs.lemmas.Nat.{or_lt, xor_lt, and_le_l, mul-le, shr_below}
use Rattle.vm_word.specs.declared.operation.AluOp.{AluOp}
use Rattle.vm_word.specs.declared.operation.AluOp.TheVariants.{Add, Sub, Sll, Slt, Sltu, Xor, Srl, Sra, Or, And}
use Rattle.vm_word.specs.declared.operation.MulDivOp.{MulDivOp}
use Rattle.vm_word.specs.declared.operation.MulDivOp.TheVariants.{Mul, Mulh, Mulhsu, Mulhu, Div, Divu, Rem, Remu}
use Rattle.vm_word.specs.declared.operation.LoadKind.{LoadKind}
use Rattle.vm_word.specs.declared.operation.LoadKind.TheVariants.{Lb, Lh, Lw, Lbu, Lhu}
use Rattle.vm_word.specs.Arithmetic.{is_negative, signed_less, shifted_right, high_product, magnitude, negated_if}
use Rattle.rv_run.specs.Memory.{number_at}
use Rattle.vm_word.specs.Operations.{alu_result, mul_div_result, load_extended, load_width, word_of_test}

test_word : (b : Bool) → word_of_test b < 2 ^ 32
test_word true = omega arith
test_word false = omega arith

shift_word : (a by : ℕ) → a < 2 ^ 32 → shifted_right a by < 2 ^ 32
shift_word a by low = omega (arith, div-le_self a (2 ^ by))

signed_shift_by : (a by : ℕ) (negative : Bool) → a < 2 ^ 32 → by ≤ 32 → cond negative (a / 2 ^ by + (2 ^ 32 - 2 ^ (32 - by))) (a / 2 ^ by) < 2 ^ 32
signed_shift_by a by true low few =
    let whole : 32 ≡ 32 - by + by = omega arith in
    let under : a / 2 ^ by < 2 ^ (32 - by) = shr_below a (32 - by) by (subst (λ (k : ℕ). a < 2 ^ k) whole low) in
    omega (arith, div-le_self a (2 ^ by), under)
signed_shift_by a by false low few = omega (arith, div-le_self a (2 ^ by))

pub alu_word : (op : AluOp) (a b : ℕ) → a < 2 ^ 32 → b < 2 ^ 32 → alu_result op a b < 2 ^ 32
alu_word Add a b x y = omega arith
alu_word Sub a b x y = omega arith
alu_word Sll a b x y = omega arith
alu_word Slt a b x y = test_word (signed_less a b)
alu_word Sltu a b x y = test_word (nat_lt a b)
alu_word Xor a b x y = xor_lt 32 a b x y
alu_word Srl a b x y = shift_word a (b % 32) x
alu_word Sra a b x y = signed_shift_by a (b % 32) (is_negative a) x (omega arith)
alu_word Or a b x y = or_lt 32 a b x y
alu_word And a b x y = omega (arith, and_le_l a b)

product_word : (a b : ℕ) → a < 2 ^ 32 → b < 2 ^ 32 → high_product a b < 2 ^ 32
product_word a b x y = omega (arith, mul-le a b 4294967295 4294967295 (omega arith) (omega arith))

magnitude_by : (a : ℕ) (negative : Bool) → is_negative a ≡ negative → a < 2 ^ 32 → cond negative (2 ^ 32 - a) a < 2 ^ 32
magnitude_by a true e low = let high : 2 ^ 31 ≤ a = grind (arith, nat_tests) in omega arith
magnitude_by a false e low = low

magnitude_word : (a : ℕ) → a < 2 ^ 32 → magnitude a < 2 ^ 32
magnitude_word a low = magnitude_by a (is_negative a) refl low

negated_word : (negative : Bool) (w : ℕ) → w < 2 ^ 32 → negated_if negative w < 2 ^ 32
negated_word true w low = omega arith
negated_word false w low = low

choice_word : (b : Bool) (x y : ℕ) → x < 2 ^ 32 → y < 2 ^ 32 → cond b x y < 2 ^ 32
choice_word true x y p q = p
choice_word false x y p q = q

pub mul_div_word : (op : MulDivOp) (a b : ℕ) → a < 2 ^ 32 → b < 2 ^ 32 → mul_div_result op a b < 2 ^ 32
mul_div_word Mul a b x y = omega arith
mul_div_word Mulh a b x y = omega arith
mul_div_word Mulhsu a b x y = omega arith
mul_div_word Mulhu a b x y = product_word a b x y
mul_div_word Div a b x y =
    choice_word (b == 0) (2 ^ 32 - 1) (negated_if (is_negative a) (negated_if (is_negative b) (magnitude a / magnitude b))) (omega arith)
    (negated_word (is_negative a) _ (negated_word (is_negative b) (magnitude a / magnitude b) (let low = magnitude_word a x in omega (arith, low, div-le_self (magnitude a) (magnitude b)))))
mul_div_word Divu a b x y = choice_word (b == 0) (2 ^ 32 - 1) (a / b) (omega arith) (omega (arith, div-le_self a b))
mul_div_word Rem a b x y =
    choice_word (b == 0) a (negated_if (is_negative a) (magnitude a % magnitude b)) x
    (negated_word (is_negative a) (magnitude a % magnitude b) (let low = magnitude_word a x in omega (arith, low, mod-le (magnitude a) (magnitude b))))
mul_div_word Remu a b x y = choice_word (b == 0) a (a % b) x (omega (arith, mod-le a b))

byte_extended : (n : ℕ) (b : Bool) → n < 256 → cond b n (n + (2 ^ 32 - 2 ^ 8)) < 2 ^ 32
byte_extended n true low = omega arith
byte_extended n false low = omega arith

half_extended : (n : ℕ) (b : Bool) → n < 65536 → cond b n (n + (2 ^ 32 - 2 ^ 16)) < 2 ^ 32
half_extended n true low = omega arith
half_extended n false low = omega arith

pub loaded_word : (kind : LoadKind) (m : ℕ → ℕ) (a : ℕ) → ((x : ℕ) → m x < 256) → load_extended kind (number_at m a (load_width kind)) < 2 ^ 32
loaded_word Lb m a h = let one = h a in byte_extended (number_at m a 1) (nat_lt (number_at m a 1) (2 ^ (8 - 1))) (omega (arith, one))
loaded_word Lh m a h = let one = h a in let two = h (a + 1) in half_extended (number_at m a 2) (nat_lt (number_at m a 2) (2 ^ (16 - 1))) (omega (arith, one, two))
loaded_word Lw m a h = omega (arith, h a, h (a + 1), h (a + 1 + 1), h (a + 1 + 1 + 1))
loaded_word Lbu m a h = omega (arith, h a)
loaded_word Lhu m a h = omega (arith, h a, h (a + 1))
