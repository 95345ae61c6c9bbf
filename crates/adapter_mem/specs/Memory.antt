-- The memory form: the word of a register and an immediate make the address of a block, which is accessed beside a
-- second register, or none. What a table has of its own, and the form that it is.
use Rattle.std.specs.Prelude.{ℕ, ◌/◌, ◌%◌, true, List, [], ◌∷◌, ◌++◌}
use Rattle.vm_field.specs.declared.limbs.Limbs.{Limbs}
use Rattle.vm_field.specs.Limbs.{list_of, limbs_from}
use Rattle.vm_word.specs.Word.{word_of_limbs}
use Rattle.vm_word.specs.Arithmetic.{word_sum}
use Rattle.vm_isa.specs.declared.record.StepRecord.{StepRecord}
use Rattle.vm_isa.specs.Instr.{bit_of}
use Rattle.vm_isa.specs.Spaces.{MEMORY}
use Rattle.air_core.specs.declared.event.Event.{Event}
use Rattle.air_core.specs.Ring.{Ring, field}
use Rattle.gadget_limbs.specs.Ranges.{range_lines}
use Rattle.gadget_time.specs.declared.touch.Touch.{Touch}
use Rattle.gadget_time.specs.declared.touch.Gap.{Gap}
use Rattle.gadget_time.specs.Access.{block_touch, register_touch, access_at, gap_of}
use Rattle.gadget_time.specs.Form.{Form, Parts, valid_of}
use Rattle.adapter_mem.specs.declared.memory.MemoryColumns.{MemoryColumns}
use Rattle.adapter_mem.specs.declared.forms.AccessForm.{AccessForm}
use Rattle.adapter_mem.specs.Forms.{place_in, opcodes_of, shift_by}
use Rattle.adapter_mem.specs.Pointer.{pointer_constraints, part, pointer}

-- how a table reads the columns behind the flags, its accesses by the count and the pointer, and its own constraints
-- and lookups
pub record MemoryParts (A E : Type 0) : Type 0 where
  pub read : List A → MemoryColumns A
  pub touches : A → A → List A → MemoryColumns A → List (Touch A)
  pub constraints : List A → MemoryColumns A → List A
  pub lookups : A → List A → MemoryColumns A → List E

pub record MemoryTable : Type 0 where
  pub slots : ℕ
  -- the form of each flag
  pub forms : List AccessForm
  -- how many columns stand behind the flags
  pub width : ℕ
  pub parts : MemoryParts ℕ Event
  -- the columns of a record, and their order in the row
  pub filled : StepRecord → MemoryColumns ℕ
  pub cells : MemoryColumns ℕ → List ℕ

-- ---- the form

-- the program row behind pc and opcode: there is neither use_imm nor a target
unfoldable pub memory_numbers : {A E : Type 0} → Ring A E → MemoryColumns A → List A
memory_numbers o m = m.rd ∷ m.rs1 ∷ m.rs2 ∷ m.write ∷ o.number 0 ∷ m.imm.x0 ∷ m.imm.x1 ∷ m.imm.x2 ∷ m.imm.x3 ∷ o.number 0 ∷ []

-- the pointer of the block, by the shift; 1509949441 is the inverse of 4
abbrev pub pointer_of : {A E : Type 0} → Ring A E → A → MemoryColumns A → A
pointer_of o shift m = pointer o m.low m.high shift

abbrev pub address_constraints : {A E : Type 0} → Ring A E → MemoryColumns A → List A
address_constraints o m = pointer_constraints o m.base m.imm m.low m.high

abbrev pub address_lines : {A E : Type 0} → Ring A E → A → A → MemoryColumns A → List E
address_lines o valid shift m = range_lines o valid (o.number 14) (part o 1509949441 m.low shift ∷ []) ++ range_lines o valid (o.number 13) (m.high ∷ [])

abbrev pub memory_parts : {A E : Type 0} → Ring A E → List AccessForm → MemoryParts A E → Parts A E
memory_parts o forms own = record {
  next = λ c. o.plus c.pc (o.number 4);
  numbers = λ c. memory_numbers o (own.read c.rest);
  touches = λ c. own.touches (valid_of o c) (pointer_of o (shift_by o forms c.flags) (own.read c.rest)) c.flags (own.read c.rest);
  others = λ c. address_lines o (valid_of o c) (shift_by o forms c.flags) (own.read c.rest) ++ own.lookups (valid_of o c) c.flags (own.read c.rest);
  constraints = λ c. address_constraints o (own.read c.rest) ++ own.constraints c.flags (own.read c.rest);
}

-- the address of a record, and the place of the flag: of its opcode and the address modulo 4
unfoldable pub address_filled : StepRecord → ℕ
address_filled done = word_sum (word_of_limbs (access_at done.accesses 0).access.old) (word_of_limbs done.instr.imm)

abbrev pub place_filled : List AccessForm → StepRecord → ℕ
place_filled forms done = place_in forms done.instr.op (address_filled done % 4)

abbrev pub memory_form : MemoryTable → Form
memory_form t = record {
  slots = t.slots;
  opcodes = opcodes_of t.forms;
  width = t.width;
  alone = true;
  parts = memory_parts field t.forms t.parts;
  place = place_filled t.forms;
  filled = λ done. t.cells (t.filled done);
}

-- ---- what tables have alike

-- the columns of a step, as a table has them that names all
abbrev pub memory_filled : StepRecord → MemoryColumns ℕ
memory_filled done = record {
  rd = done.instr.rd;
  rs1 = done.instr.rs1;
  rs2 = done.instr.rs2;
  write = bit_of done.instr.write;
  imm = limbs_from done.instr.imm;
  base = limbs_from (access_at done.accesses 0).access.old;
  middle = limbs_from (access_at done.accesses 1).access.old;
  last = limbs_from (access_at done.accesses 2).access.old;
  low = address_filled done % 65536;
  high = address_filled done / 65536;
  sign = 0;
  first = gap_of (access_at done.accesses 0);
  second = gap_of (access_at done.accesses 1);
  third = gap_of (access_at done.accesses 2);
}

-- the words of a row and the halves of the address, in the order of the columns
abbrev pub memory_cells : {A : Type 0} → MemoryColumns A → List A
memory_cells m = list_of m.imm ++ (list_of m.base ++ (list_of m.middle ++ (list_of m.last ++ (m.low ∷ m.high ∷ []))))

-- two registers are read, and a block of a space is written
abbrev pub write_touches : {A E : Type 0} → Ring A E → ℕ → A → A → A → A → MemoryColumns A → Limbs A → List (Touch A)
write_touches o space valid block base other m new =
    register_touch o valid 0 base m.base m.base m.first
    ∷ register_touch o valid 1 other m.middle m.middle m.second
    ∷ block_touch o valid 2 space block m.last new m.third
    ∷ []

-- a register and a block of memory are read, and a register is written where the row says so
abbrev pub read_touches : {A E : Type 0} → Ring A E → A → A → MemoryColumns A → Limbs A → List (Touch A)
read_touches o valid block m new =
    register_touch o valid 0 m.rs1 m.base m.base m.first
    ∷ block_touch o valid 1 MEMORY block m.middle m.middle m.second
    ∷ register_touch o (o.times valid m.write) 2 m.rd m.last new m.third
    ∷ []

-- columns of zeros
abbrev pub no_word : Limbs ℕ
no_word = record { x0 = 0; x1 = 0; x2 = 0; x3 = 0 }

abbrev pub no_gap : Gap ℕ
no_gap = record { before = 0; lo = 0; hi = 0 }

abbrev pub no_memory : MemoryColumns ℕ
no_memory = record {
  rd = 0;
  rs1 = 0;
  rs2 = 0;
  write = 0;
  imm = no_word;
  base = no_word;
  middle = no_word;
  last = no_word;
  low = 0;
  high = 0;
  sign = 0;
  first = no_gap;
  second = no_gap;
  third = no_gap;
}
