-- One limb of a shift: from the field to whole numbers and back.
use Rattle.std.proofs.Common.{◌≡◌, ℕ, zero, suc, ◌+◌, ◌*◌, ◌/◌, ◌%◌, ◌^◌, ◌<◌, ◌≤◌, slice_index, refl, ap, ◌∙◌, arith, add-one}
use Rattle.std.proofs.lemmas.Nat.{mul-le}
use Rattle.vm_field.specs.Field.{modulus, field_add, field_sub, field_mul}
use Rattle.vm_field.proofs.Lift.{lift}
use Rattle.vm_field.specs.declared.limbs.Limbs.{Limbs}
use Rattle.vm_field.specs.Limbs.{list_of}
use Rattle.vm_word.specs.Digits.{number_of_digits}
use Rattle.vm_word.specs.Word.{word_of_limbs, limbs_of}
use Rattle.vm_word.specs.Digits.{digit}
use Rattle.vm_isa.specs.Words.{IsBytes}
use Rattle.gadget_shift.specs.Shift.{left_limb, right_limb, amount_part, limb_at, left_carries, right_carries}
use Rattle.gadget_shift.proofs.Numbers.{N}
use Rattle.air_core.specs.Ring.{field}

product_small : (t b : ℕ) → t ≤ 256 → b < 256 → b * t ≤ 65280
product_small t b p q = mul-le b t 255 256 (omega arith) p

left_lift : (P a c next : ℕ) → P ≤ 65280 → a < 256 → c < 256 → next < 256 → field_sub a (field_add (field_sub (P % modulus) (field_mul 256 next)) c) % modulus ≡ 0 → a + 256 * next ≡ P + c
left_lift P a c next p q r s h = omega arith

pub left_equation : (t a b c next : ℕ) → t ≤ 256 → a < 256 → b < 256 → c < 256 → next < 256 → (left_limb field) t a b c next % modulus ≡ 0 → a + 256 * next ≡ t * b + c
unfolding left_limb
left_equation t a b c next p q r s u h = left_lift (b * t) a c next (product_small t b p r) q s u h ∙ omega arith

left_drop : (P a c next : ℕ) → P ≤ 65280 → a < 256 → c < 256 → next < 256 → a + 256 * next ≡ P + c → field_sub a (field_add (field_sub (P % modulus) (field_mul 256 next)) c) ≡ 0
left_drop P a c next p q r s h = omega arith

pub left_back : (t a b c next : ℕ) → t ≤ 256 → a < 256 → b < 256 → c < 256 → next < 256 → a + 256 * next ≡ t * b + c → (left_limb field) t a b c next ≡ 0
unfolding left_limb
left_back t a b c next p q r s u h = left_drop (b * t) a c next (product_small t b p r) q s u (h ∙ omega arith)

right_lift : (P b c next : ℕ) → P ≤ 65280 → b < 256 → c < 256 → next < 256 → field_sub (field_add (field_sub (P % modulus) b) c) (field_mul 256 next) % modulus ≡ 0 → b + 256 * next ≡ P + c
right_lift P b c next p q r s h = omega arith

pub right_equation : (t a b c next : ℕ) → t ≤ 256 → a < 256 → b < 256 → c < 256 → next < 256 → (right_limb field) t a b c next % modulus ≡ 0 → b + 256 * next ≡ t * a + c
unfolding right_limb
right_equation t a b c next p q r s u h =
    let turned : field_mul t a ≡ (a * t) % modulus = omega arith in
    right_lift (a * t) b c next (product_small t a p q) r s u (rw turned at h) ∙ omega arith

right_drop : (P b c next : ℕ) → P ≤ 65280 → b < 256 → c < 256 → next < 256 → b + 256 * next ≡ P + c → field_sub (field_add (field_sub (P % modulus) b) c) (field_mul 256 next) ≡ 0
right_drop P b c next p q r s h = omega arith

pub right_back : (t a b c next : ℕ) → t ≤ 256 → a < 256 → b < 256 → c < 256 → next < 256 → b + 256 * next ≡ t * a + c → (right_limb field) t a b c next ≡ 0
unfolding right_limb
right_back t a b c next p q r s u h =
    let turned : field_mul t a ≡ (a * t) % modulus = omega arith in
    rw turned (right_drop (a * t) b c next (product_small t a p q) r s u (h ∙ omega arith))

-- the top carry
pub top_is : (t g : ℕ) → 0 < t → t ≤ 256 → g ≤ 1 → field_mul g (field_sub t 1) + g ≡ g * t
top_is t zero p q r = omega arith
top_is t (suc zero) p q r = omega arith
top_is t (suc (suc g)) p q r = absurd (omega arith)

-- ---- the amount

pub amount_law : (c l s : ℕ) → c < 256 → l < 4 → s < 8 → (amount_part field) c l s < 8 → c % 32 ≡ 8 * l + s
unfolding amount_part
amount_law c l s p q r h =
    let w = (amount_part field) c l s in
    let joined : field_sub (field_sub c (field_mul 8 l)) s ≡ field_sub c (8 * l + s) = omega arith in
    let whole : c ≡ 8 * l + s + 32 * w = lift 32 1950351361 w c (8 * l + s) refl (ap (λ (v : ℕ). field_mul v 1950351361) joined) (omega arith) (omega arith) in
    omega arith

pub amount_back : (c : ℕ) → c < 256 → (amount_part field) c (c % 32 / 8) (c % 8) ≡ c / 32
unfolding amount_part
amount_back c p =
    let joined : field_sub (field_sub c (field_mul 8 (c % 32 / 8))) (c % 8) ≡ 32 * (c / 32) = omega arith in
    rw joined (omega arith)

-- ---- limbs by their index

pub each_limb : (P : ℕ → Type 0) (w : Limbs ℕ) → P w.x0 → P w.x1 → P w.x2 → P w.x3 → (i : ℕ) → i < 4 → P (limb_at field w i)
unfolding list_of
each_limb P w p q r s zero low = p
each_limb P w p q r s (suc zero) low = q
each_limb P w p q r s (suc (suc zero)) low = r
each_limb P w p q r s (suc (suc (suc zero))) low = s
each_limb P w p q r s (suc (suc (suc (suc i)))) low = absurd (omega arith)

pub each_byte : (w : Limbs ℕ) → IsBytes (list_of w) → (i : ℕ) → i < 4 → limb_at field w i < 256
unfolding list_of
each_byte w h = each_limb (λ x. x < 256) w h.0 h.1.0 h.1.1.0 h.1.1.1.0

pub number_at : (w : Limbs ℕ) → N (limb_at field w) 4 ≡ word_of_limbs (list_of w)
unfolding number_of_digits list_of
number_at w = omega arith

pub limb_digit : (w : ℕ) (i : ℕ) → i < 4 → slice_index (limbs_of w) i ≡ digit 256 w i
limb_digit w zero low = refl
limb_digit w (suc zero) low = refl
limb_digit w (suc (suc zero)) low = refl
limb_digit w (suc (suc (suc zero))) low = refl
limb_digit w (suc (suc (suc (suc i)))) low = absurd (omega arith)

pub left_carry : (k : Limbs ℕ) (i : ℕ) → (left_carries field) k (i + 1) ≡ limb_at field k i
left_carry k i = ap ((left_carries field) k) (add-one i)

pub right_carry : (k : Limbs ℕ) (t g i : ℕ) → i < 4 → (right_carries field) k t g i ≡ limb_at field k i
unfolding list_of
right_carry k t g zero low = refl
right_carry k t g (suc zero) low = refl
right_carry k t g (suc (suc zero)) low = refl
right_carry k t g (suc (suc (suc zero))) low = refl
right_carry k t g (suc (suc (suc (suc i)))) low = absurd (omega arith)

pub right_top : (k : Limbs ℕ) (t g : ℕ) → (right_carries field) k t g 4 ≡ field_mul g (field_sub t 1)
unfolding list_of
right_top k t g = refl

pub power_256 : (l : ℕ) → l < 4 → 256 ^ l ≡ 2 ^ (8 * l)
power_256 zero low = refl
power_256 (suc zero) low = refl
power_256 (suc (suc zero)) low = refl
power_256 (suc (suc (suc zero))) low = refl
power_256 (suc (suc (suc (suc l)))) low = absurd (omega arith)
