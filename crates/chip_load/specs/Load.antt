-- LB, LH, LW, LBU and LHU: a register gets what is read of the block at the sum of another register's word and an
-- immediate.
use Rattle.std.specs.Prelude.{ℕ, true, false, List, [], ◌∷◌, ◌++◌}
use Rattle.vm_field.specs.declared.limbs.Limbs.{Limbs}
use Rattle.vm_field.specs.Limbs.{limbs_by}
use Rattle.vm_isa.specs.declared.record.StepRecord.{StepRecord}
use Rattle.vm_isa.specs.Opcodes.{LB, LH, LW, LBU, LHU}
use Rattle.air_core.specs.declared.bus.TheConstants.{XOR}
use Rattle.air_core.specs.declared.event.Side.TheVariants.{Send}
use Rattle.air_core.specs.Formal.{formal}
use Rattle.air_core.specs.Ring.{Ring, field, cell}
use Rattle.gadget_limbs.specs.Sign.{sign_constraints, sign_looked_up}
use Rattle.gadget_time.specs.Access.{gap_by, gap_cells, access_at}
use Rattle.gadget_time.specs.Form.{IsFormal}
use Rattle.adapter_mem.specs.declared.forms.AccessForm.{AccessForm}
use Rattle.adapter_mem.specs.declared.memory.MemoryColumns.{MemoryColumns}
use Rattle.adapter_mem.specs.Forms.{access_form, form_at, signed_by}
use Rattle.adapter_mem.specs.Memory.{MemoryParts, MemoryTable, memory_form, memory_parts, memory_filled, memory_cells, place_filled, read_touches}
use Rattle.adapter_mem.specs.Select.{top_by, loaded_word, sign_of}

-- LB at each place of a block, LH at two, LW, LBU and LHU
abbrev pub load_forms : List AccessForm
load_forms =
    access_form LB 0 1 true ∷ access_form LB 1 1 true ∷ access_form LB 2 1 true ∷ access_form LB 3 1 true
    ∷ access_form LH 0 2 true ∷ access_form LH 2 2 true ∷ access_form LW 0 4 false
    ∷ access_form LBU 0 1 false ∷ access_form LBU 1 1 false ∷ access_form LBU 2 1 false ∷ access_form LBU 3 1 false
    ∷ access_form LHU 0 2 false ∷ access_form LHU 2 2 false ∷ []

-- the word that is written
abbrev pub load_new : {A E : Type 0} → Ring A E → List A → MemoryColumns A → Limbs A
load_new o flags m = loaded_word o load_forms flags m.middle m.sign

-- behind the flags: rd, rs1, whether rd is written, the immediate, the base, the block, the old word of rd, the halves
-- of the address, the sign, and the times of the accesses
abbrev pub load_read : {A E : Type 0} → Ring A E → List A → MemoryColumns A
load_read o rest = record {
  rd = cell o rest 0;
  rs1 = cell o rest 1;
  rs2 = o.number 0;
  write = cell o rest 2;
  imm = limbs_by (cell o rest) 3;
  base = limbs_by (cell o rest) 7;
  middle = limbs_by (cell o rest) 11;
  last = limbs_by (cell o rest) 15;
  low = cell o rest 19;
  high = cell o rest 20;
  sign = cell o rest 21;
  first = gap_by (cell o rest) 22;
  second = gap_by (cell o rest) 25;
  third = gap_by (cell o rest) 28;
}

abbrev pub load_parts : {A E : Type 0} → Ring A E → MemoryParts A E
load_parts o = record {
  read = load_read o;
  touches = λ valid block flags m. read_touches o valid block m (load_new o flags m);
  constraints = λ flags m. sign_constraints o m.sign (signed_by o load_forms flags);
  lookups = λ valid flags m. o.event XOR Send (signed_by o load_forms flags) (sign_looked_up o m.sign (top_by o load_forms flags m.middle)) ∷ [];
}

abbrev pub load_filled : StepRecord → MemoryColumns ℕ
load_filled done = record (memory_filled done) { rs2 = 0; sign = sign_of (form_at load_forms (place_filled load_forms done)) (access_at done.accesses 1).access.old }

abbrev pub load_table : MemoryTable
load_table = record {
  slots = 3;
  forms = load_forms;
  width = 31;
  parts = load_parts field;
  filled = load_filled;
  cells = λ m. m.rd ∷ m.rs1 ∷ m.write ∷ (memory_cells m ++ (m.sign ∷ (gap_cells m.first ++ (gap_cells m.second ++ gap_cells m.third))));
}

abbrev pub LoadIsFormal : Type 0
LoadIsFormal = IsFormal (memory_form load_table) (memory_parts formal load_forms (load_parts formal))
