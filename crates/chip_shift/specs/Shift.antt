-- SLL, SRL and SRA, as a core of the register form. Its own columns: those of a shift, the sign, and the new word.
use Rattle.std.specs.Prelude.{ℕ, true, ◌/◌, nat_eq, if◌then◌else◌, List, [], ◌∷◌, ◌++◌}
use Rattle.vm_field.specs.declared.limbs.Limbs.{Limbs}
use Rattle.vm_field.specs.Limbs.{list_of, limbs_by}
use Rattle.vm_isa.specs.Opcodes.{SLL, SRL, SRA}
use Rattle.air_core.specs.declared.bus.TheConstants.{XOR}
use Rattle.air_core.specs.declared.event.Side.TheVariants.{Send}
use Rattle.air_core.specs.Flags.{sum_from, opcode_place}
use Rattle.air_core.specs.Ring.{Ring, field, cell}
use Rattle.gadget_limbs.specs.Sign.{sign_constraints, sign_looked_up}
use Rattle.gadget_shift.specs.Shift.{shift_columns, amount_constraints, shift_lookups, left_constraints, right_constraints, shift_filled}
use Rattle.adapter_regs.specs.Core.{Core, CoreParts}

abbrev pub shift_opcodes : List ℕ
shift_opcodes = SLL ∷ SRL ∷ SRA ∷ []

abbrev pub sign_of : {A E : Type 0} → Ring A E → List A → A
sign_of o own = cell o own 16

abbrev pub new_of : {A E : Type 0} → Ring A E → List A → Limbs A
new_of o own = limbs_by (cell o own) 17

-- the amount; the sign, which is 0 but under SRA; the new word under SLL, and under SRL and SRA
unfoldable pub shift_constraints_of : {A E : Type 0} → Ring A E → List A → List A → Limbs A → List A
shift_constraints_of o flags own b =
    amount_constraints o (sum_from o (o.number 0) flags) (shift_columns o own)
    ++ (sign_constraints o (sign_of o own) (cell o flags 2)
    ++ (left_constraints o (cell o flags 0) (shift_columns o own) b (new_of o own)
    ++ right_constraints o (o.plus (cell o flags 1) (cell o flags 2)) (sign_of o own) (shift_columns o own) b (new_of o own)))

unfoldable pub shift_lookups_of : {A E : Type 0} → Ring A E → List A → List A → Limbs A → Limbs A → List E
shift_lookups_of o flags own b c =
    shift_lookups o (sum_from o (o.number 0) flags) c.x0 (shift_columns o own) (new_of o own) ++ (o.event XOR Send (cell o flags 2) (sign_looked_up o (sign_of o own) b.x3) ∷ [])

abbrev pub shift_parts : {A E : Type 0} → Ring A E → CoreParts A E
shift_parts o = record {
  new = λ x. new_of o x.own;
  constraints = λ x. shift_constraints_of o x.flags x.own x.left;
  lookups = λ x. shift_lookups_of o x.flags x.own x.left x.right;
}

-- the sign at the place of SRA
abbrev pub sign_fill : ℕ → ℕ → ℕ
sign_fill place top = if nat_eq place 2 then top / 128 else 0

abbrev pub shift_core : Core
shift_core = record {
  immediates = true;
  opcodes = shift_opcodes;
  own = 21;
  parts = shift_parts field;
  place = λ op left right. opcode_place shift_opcodes op;
  filled = λ place left right new. shift_filled (nat_eq place 0) right.x0 left ++ (sign_fill place left.x3 ∷ list_of new);
}
