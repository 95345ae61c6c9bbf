-- The two conditions: whether two words are the same, and which is below the other.
use Rattle.std.specs.Prelude.{ℕ, suc, zero, ◌/◌, ◌%◌, nat_eq, if◌then◌else◌, List, [], ◌∷◌}
use Rattle.std.specs.Int.{from_bool}
use Rattle.vm_field.specs.Field.{modulus, field_sub, field_mul, field_neg}
use Rattle.vm_field.specs.declared.limbs.Limbs.{Limbs}
use Rattle.vm_isa.specs.Opcodes.{BEQ, BNE, BLT, BLTU, BGE, BGEU}
use Rattle.air_core.specs.First.{bit, gated_difference}
use Rattle.air_core.specs.Flags.{sum_from}
use Rattle.air_core.specs.Formal.{formal}
use Rattle.air_core.specs.Ring.{Ring, field, cell}
use Rattle.gadget_limbs.specs.Less.{less_columns, less_cells, less_constraints, less_ranges, less_filled}
use Rattle.gadget_limbs.specs.OrderLaws.{digits_of}
use Rattle.gadget_limbs.specs.Ranges.{range_lines}
use Rattle.gadget_time.specs.Form.{IsFormal}
use Rattle.chip_branch.specs.Branch.{Condition, ConditionParts, branch_form, branch_parts}

-- ---- BEQ and BNE: whether the words are the same, and a factor for each limb

-- the sum of factor * (left - right)
unfoldable pub apart_by : {A E : Type 0} → Ring A E → List A → Limbs A → Limbs A → A
apart_by o own x y =
    o.plus (o.plus (o.plus (o.times (cell o own 1) (o.minus x.x0 y.x0)) (o.times (cell o own 2) (o.minus x.x1 y.x1))) (o.times (cell o own 3) (o.minus x.x2 y.x2))) (o.times (cell o own 4) (o.minus x.x3 y.x3))

-- same * (left - right) of each limb, and valid * (1 - same) less the sum
unfoldable pub equal_constraints : {A E : Type 0} → Ring A E → A → List A → Limbs A → Limbs A → List A
equal_constraints o valid own x y =
    let same = cell o own 0 in
    bit o same
    ∷ gated_difference o same x.x0 y.x0
    ∷ gated_difference o same x.x1 y.x1
    ∷ gated_difference o same x.x2 y.x2
    ∷ gated_difference o same x.x3 y.x3
    ∷ o.minus (o.times valid (o.minus (o.number 1) same)) (apart_by o own x y)
    ∷ []

-- one flag * x + other flag * (1 - x)
unfoldable pub either_way : {A E : Type 0} → Ring A E → A → A → A → A
either_way o straight turned x = o.plus (o.times straight x) (o.times turned (o.minus (o.number 1) x))

abbrev pub equal_parts : {A E : Type 0} → Ring A E → ConditionParts A E
equal_parts o = record {
  taken = λ x. either_way o (cell o x.flags 0) (cell o x.flags 1) (cell o x.own 0);
  constraints = λ x. equal_constraints o (sum_from o (o.number 0) x.flags) x.own x.left x.right;
  lookups = λ x. [];
}

-- the inverse of an element by Euclid's steps, of which so many are enough: factor * element is rest
unfoldable pub inverse_by : ℕ → ℕ → ℕ → ℕ
inverse_by zero factor rest = factor
inverse_by (suc n) factor rest = if nat_eq rest 1 then factor else inverse_by n (field_neg (field_mul (modulus / rest) factor)) (modulus % rest)

unfoldable pub inverse_of : ℕ → ℕ
inverse_of x = inverse_by x 1 x

-- the factor of the lowest limb at which the words differ makes the sum 1
unfoldable pub equal_cells : Limbs ℕ → Limbs ℕ → List ℕ
equal_cells x y =
    if nat_eq x.x0 y.x0 then
    (if nat_eq x.x1 y.x1 then
    (if nat_eq x.x2 y.x2 then
    (if nat_eq x.x3 y.x3 then 1 ∷ 0 ∷ 0 ∷ 0 ∷ 0 ∷ []
    else 0 ∷ 0 ∷ 0 ∷ 0 ∷ inverse_of (field_sub x.x3 y.x3) ∷ [])
    else 0 ∷ 0 ∷ 0 ∷ inverse_of (field_sub x.x2 y.x2) ∷ 0 ∷ [])
    else 0 ∷ 0 ∷ inverse_of (field_sub x.x1 y.x1) ∷ 0 ∷ 0 ∷ [])
    else 0 ∷ inverse_of (field_sub x.x0 y.x0) ∷ 0 ∷ 0 ∷ 0 ∷ []

abbrev pub equal_condition : Condition
equal_condition = record {
  opcodes = BEQ ∷ BNE ∷ [];
  own = 5;
  parts = equal_parts field;
  filled = λ place left right. equal_cells left right;
}

abbrev pub BranchEqIsFormal : Type 0
BranchEqIsFormal = IsFormal (branch_form equal_condition) (branch_parts formal 5 (equal_parts formal))

-- ---- BLT, BLTU, BGE and BGEU: the columns of LT

-- 1 where words are signed
abbrev pub signed_by : {A E : Type 0} → Ring A E → List A → A
signed_by o flags = o.plus (cell o flags 0) (cell o flags 2)

abbrev pub order_parts : {A E : Type 0} → Ring A E → ConditionParts A E
order_parts o = record {
  taken = λ x. either_way o (o.plus (cell o x.flags 0) (cell o x.flags 1)) (o.plus (cell o x.flags 2) (cell o x.flags 3)) (cell o x.own 7);
  constraints = λ x. less_constraints o (digits_of x.left) (digits_of x.right) (less_columns 4 0 (cell o x.own));
  lookups = λ x. range_lines o (sum_from o (o.number 0) x.flags) (o.number 8) (less_ranges o (signed_by o x.flags) (less_columns 4 0 (cell o x.own)));
}

-- BLT and BGE order signed words
abbrev pub signed_at : ℕ → ℕ
signed_at place = from_bool (nat_eq (place % 2) 0)

abbrev pub order_condition : Condition
order_condition = record {
  opcodes = BLT ∷ BLTU ∷ BGE ∷ BGEU ∷ [];
  own = 8;
  parts = order_parts field;
  filled = λ place left right. less_cells (less_filled (signed_at place) (digits_of left) (digits_of right));
}

abbrev pub BranchLtIsFormal : Type 0
BranchLtIsFormal = IsFormal (branch_form order_condition) (branch_parts formal 8 (order_parts formal))
