-- DIV, DIVU, REM and REMU, as a core of the register form without immediates: its own columns are those of a division.
-- With the form a row has 65 columns.
use Rattle.std.specs.Prelude.{ℕ, ◌||◌, Bool, false, nat_eq, List, [], ◌∷◌, ◌++◌}
use Rattle.vm_field.specs.declared.limbs.Limbs.{Limbs}
use Rattle.vm_field.specs.Limbs.{list_of}
use Rattle.vm_isa.specs.Opcodes.{DIV, DIVU, REM, REMU}
use Rattle.air_core.specs.Flags.{sum_from, opcode_place}
use Rattle.air_core.specs.Ring.{Ring, field, cell}
use Rattle.gadget_limbs.specs.Ranges.{range_lines}
use Rattle.gadget_products.specs.Carry.{carry_lines}
use Rattle.gadget_products.specs.Divide.{division_carries, division_top}
use Rattle.gadget_products.specs.Laws.{word_in}
use Rattle.gadget_divide.specs.Divided.{Divided, divided_of, operand_constraints, result_constraints, divided_lookups, divided_filled}
use Rattle.adapter_regs.specs.Core.{Core, CoreParts}

abbrev pub divrem_opcodes : List ℕ
divrem_opcodes = DIV ∷ DIVU ∷ REM ∷ REMU ∷ []

-- DIV + REM, which take both words as signed
unfoldable pub signed : {A E : Type 0} → Ring A E → List A → A
signed o flags = o.plus (cell o flags 0) (cell o flags 2)

-- DIV + DIVU, and REM + REMU
unfoldable pub quotients : {A E : Type 0} → Ring A E → List A → A
quotients o flags = o.plus (cell o flags 0) (cell o flags 1)

unfoldable pub remainders : {A E : Type 0} → Ring A E → List A → A
remainders o flags = o.plus (cell o flags 2) (cell o flags 3)

-- quotients * (255 * z + (1 - z) * u) + remainders * s
unfoldable pub chosen_limb : {A E : Type 0} → Ring A E → A → A → A → A → A → A
chosen_limb o quotients remainders z u s =
    o.plus (o.times quotients (o.plus (o.times (o.number 255) z) (o.times (o.minus (o.number 1) z) u))) (o.times remainders s)

-- the quotient, which has all bits set where the divisor is 0, or the remainder
unfoldable pub chosen : {A E : Type 0} → Ring A E → A → A → Divided A → Limbs A
chosen o q r c = record {
  x0 = chosen_limb o q r c.by_zero c.signed_quotient.x0 c.signed_remainder.x0;
  x1 = chosen_limb o q r c.by_zero c.signed_quotient.x1 c.signed_remainder.x1;
  x2 = chosen_limb o q r c.by_zero c.signed_quotient.x2 c.signed_remainder.x2;
  x3 = chosen_limb o q r c.by_zero c.signed_quotient.x3 c.signed_remainder.x3;
}

-- the signs, whether the divisor is 0 and the distances from 0; their division; and the results with their signs
unfoldable pub divrem_constraints : {A E : Type 0} → Ring A E → A → A → Divided A → Limbs A → Limbs A → List A
divrem_constraints o valid gate c left right =
    operand_constraints o gate c left right ++ (division_top o c.dividend c.divisor c.quotient c.remainder ∷ result_constraints o valid c)

unfoldable pub divrem_lookups : {A E : Type 0} → Ring A E → A → A → Divided A → Limbs A → Limbs A → List E
divrem_lookups o valid gate c left right =
    divided_lookups o valid gate c left right
    ++ (carry_lines o valid (division_carries o c.dividend c.divisor c.quotient c.remainder)
    ++ range_lines o valid (o.number 8) (list_of c.quotient ++ list_of c.remainder))

abbrev pub divrem_parts : {A E : Type 0} → Ring A E → CoreParts A E
divrem_parts o = record {
  new = λ x. chosen o (quotients o x.flags) (remainders o x.flags) (divided_of o x.own);
  constraints = λ x. divrem_constraints o (sum_from o (o.number 0) x.flags) (signed o x.flags) (divided_of o x.own) x.left x.right;
  lookups = λ x. divrem_lookups o (sum_from o (o.number 0) x.flags) (signed o x.flags) (divided_of o x.own) x.left x.right;
}

-- whether the opcode of the flag at a place takes words as signed
abbrev pub is_signed : ℕ → Bool
is_signed place = nat_eq place 0 || nat_eq place 2

abbrev pub divrem_core : Core
divrem_core = record {
  immediates = false;
  opcodes = divrem_opcodes;
  own = 35;
  parts = divrem_parts field;
  place = λ op left right. opcode_place divrem_opcodes op;
  filled = λ place left right new. divided_filled (is_signed place) (word_in left) (word_in right);
}
