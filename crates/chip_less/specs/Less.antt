-- SLT and SLTU, as a core of the register form: its own columns are those of LT, whose answer is the result.
use Rattle.std.specs.Prelude.{ℕ, true, nat_eq, List, [], ◌∷◌}
use Rattle.std.specs.Int.{from_bool}
use Rattle.vm_field.specs.declared.limbs.Limbs.{Limbs}
use Rattle.vm_isa.specs.Opcodes.{SLT, SLTU}
use Rattle.air_core.specs.Flags.{sum_from, opcode_place}
use Rattle.air_core.specs.Ring.{Ring, field, cell}
use Rattle.gadget_limbs.specs.Less.{less_columns, less_cells, less_constraints, less_ranges, less_filled}
use Rattle.gadget_limbs.specs.OrderLaws.{digits_of}
use Rattle.gadget_limbs.specs.Ranges.{range_lines}
use Rattle.adapter_regs.specs.Core.{Core, CoreParts}

abbrev pub less_opcodes : List ℕ
less_opcodes = SLT ∷ SLTU ∷ []

-- the answer as a word
abbrev pub result_of : {A E : Type 0} → Ring A E → List A → Limbs A
result_of o own = record { x0 = cell o own 7; x1 = o.number 0; x2 = o.number 0; x3 = o.number 0 }

abbrev pub less_parts : {A E : Type 0} → Ring A E → CoreParts A E
less_parts o = record {
  new = λ x. result_of o x.own;
  constraints = λ x. less_constraints o (digits_of x.left) (digits_of x.right) (less_columns 4 0 (cell o x.own));
  lookups = λ x. range_lines o (sum_from o (o.number 0) x.flags) (o.number 8) (less_ranges o (cell o x.flags 0) (less_columns 4 0 (cell o x.own)));
}

-- 1 at the place of SLT, which orders signed words
abbrev pub signed_at : ℕ → ℕ
signed_at place = from_bool (nat_eq place 0)

abbrev pub less_core : Core
less_core = record {
  immediates = true;
  opcodes = less_opcodes;
  own = 8;
  parts = less_parts field;
  place = λ op left right. opcode_place less_opcodes op;
  filled = λ place left right new. less_cells (less_filled (signed_at place) (digits_of left) (digits_of right));
}
