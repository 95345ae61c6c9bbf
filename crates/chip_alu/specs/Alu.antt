-- ADD, SUB, XOR, OR and AND, as a core of the register form: its own columns are the four limbs of the
-- result. With the form a row has 40 columns, 21 constraints and 19 events.
use Rattle.std.specs.Prelude.{ℕ, true, List, [], ◌∷◌, ◌++◌}
use Rattle.vm_field.specs.declared.limbs.Limbs.{Limbs}
use Rattle.vm_field.specs.Limbs.{limbs_by, list_of}
use Rattle.vm_isa.specs.Opcodes.{ADD, SUB, XOR, OR, AND}
use Rattle.air_core.specs.Flags.{sum_from, opcode_place}
use Rattle.air_core.specs.Ring.{Ring, field, cell}
use Rattle.gadget_limbs.specs.declared.lookup.OperationFlags.{OperationFlags}
use Rattle.gadget_limbs.specs.Lookup.{lookup_lines}
use Rattle.gadget_limbs.specs.Sum.{sum_constraints}
use Rattle.air_core.specs.Sheet.{Sheet}
use Rattle.gadget_time.specs.Form.{form_sheet}
use Rattle.adapter_regs.specs.Core.{Core, CoreParts, Operands, regs_form}

abbrev pub alu_opcodes : List ℕ
alu_opcodes = ADD ∷ SUB ∷ XOR ∷ OR ∷ AND ∷ []

-- the result
abbrev pub result_of : {A E : Type 0} → Ring A E → List A → Limbs A
result_of o own = limbs_by (cell o own) 0

-- by the flag of ADD the words add up to the result, and by that of SUB the result and the second word to the first
abbrev pub alu_sums : {A E : Type 0} → Ring A E → A → A → Limbs A → Limbs A → Limbs A → List A
alu_sums o add sub a b c = sum_constraints o add (o.number 0) (list_of b) (list_of c) (list_of a) ++ sum_constraints o sub (o.number 0) (list_of a) (list_of c) (list_of b)

-- the flags by their operations
abbrev pub operation : {A E : Type 0} → Ring A E → List A → OperationFlags A
operation o flags = record {
  valid = sum_from o (o.number 0) flags;
  sums = o.plus (cell o flags 0) (cell o flags 1);
  xor = cell o flags 2;
  or = cell o flags 3;
  and = cell o flags 4;
}

abbrev pub alu_parts : {A E : Type 0} → Ring A E → CoreParts A E
alu_parts o = record {
  new = λ x. result_of o x.own;
  constraints = λ x. alu_sums o (cell o x.flags 0) (cell o x.flags 1) (result_of o x.own) x.left x.right;
  lookups = λ x. lookup_lines o (operation o x.flags) (result_of o x.own) x.left x.right;
}

abbrev pub alu_core : Core
alu_core = record {
  immediates = true;
  opcodes = alu_opcodes;
  own = 4;
  parts = alu_parts field;
  place = λ op left right. opcode_place alu_opcodes op;
  filled = λ place left right new. list_of new;
}

-- the table, with times of 16 + hi bits
abbrev pub alu_sheet : ℕ → Sheet
alu_sheet hi = form_sheet (regs_form alu_core) hi
