-- What the constraints of ADD say, at any number of limbs, and what the lookups of results say.
use Rattle.std.specs.Prelude.{◌≡◌, ℕ, ◌+◌, ◌*◌, ◌^◌, ◌<◌, ◌≤◌, ◌↔◌, List, length, bit_xor, bit_or, bit_and}
use Rattle.vm_field.specs.Field.{modulus}
use Rattle.vm_isa.specs.Words.{IsBytes}
use Rattle.air_core.specs.Sheet.{AllZero}
use Rattle.air_core.specs.Lookups.{IsXorRow}
use Rattle.gadget_limbs.specs.declared.lookup.OperationFlags.{OperationFlags}
use Rattle.gadget_limbs.specs.Number.{number_of}
use Rattle.gadget_limbs.specs.Sum.{sum_constraints}
use Rattle.gadget_limbs.specs.Lookup.{looked_up}
use Rattle.air_core.specs.Ring.{field}

-- three numbers of equally many limbs, each a byte
pub record AreBytes (xs ys zs : List ℕ) : Type 0 where
  pub left_long : length xs ≡ length zs
  pub right_long : length ys ≡ length zs
  pub left : IsBytes xs
  pub right : IsBytes ys
  pub sum : IsBytes zs

-- with a carry k in and a carry out, the first two numbers add up to the third
abbrev pub AddUp : ℕ → List ℕ → List ℕ → List ℕ → ℕ → Type 0
AddUp k xs ys zs out = number_of xs + number_of ys + k ≡ number_of zs + 256 ^ length zs * out

abbrev pub LimbsThatHoldAddUp : Type 0
LimbsThatHoldAddUp = (xs ys zs : List ℕ) (k : ℕ) → AreBytes xs ys zs → k ≤ 1 → AllZero (sum_constraints field 1 k xs ys zs)
    → (out : ℕ) × (out ≤ 1) × AddUp k xs ys zs out

abbrev pub LimbsThatAddUpHold : Type 0
LimbsThatAddUpHold = (gate k : ℕ) (xs ys zs : List ℕ)
    → ((out : ℕ) → AreBytes xs ys zs → k ≤ 1 → AddUp k xs ys zs out → AllZero (sum_constraints field gate k xs ys zs))
    × (gate ≡ 0 → AllZero (sum_constraints field gate k xs ys zs))

-- the flags of a valid row
abbrev pub flags_of : ℕ → ℕ → ℕ → ℕ → OperationFlags ℕ
flags_of sums xor or and = record { valid = 1; sums = sums; xor = xor; or = or; and = and }

-- what is looked up of the limb a, by the operation, stands in the xor table exactly where a is right
pub record RightLimb (a b c : ℕ) : Type 0 where
  pub sum : IsXorRow (looked_up field (flags_of 1 0 0 0) a b c) ↔ (a < 256)
  pub xor : IsXorRow (looked_up field (flags_of 0 1 0 0) a b c) ↔ (a ≡ bit_xor b c)
  pub or : IsXorRow (looked_up field (flags_of 0 0 1 0) a b c) ↔ (a ≡ bit_or b c)
  pub and : IsXorRow (looked_up field (flags_of 0 0 0 1) a b c) ↔ (a ≡ bit_and b c)

abbrev pub RightLimbsAreLookedUp : Type 0
RightLimbsAreLookedUp = (a b c : ℕ) → a < modulus → b < 256 → c < 256 → RightLimb a b c
