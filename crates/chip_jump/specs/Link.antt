-- A step that writes one register or none, after another was read or none: what a table of such steps has of its own, and
-- the form that it is. Return addresses and words of a pc are below 2 ^ 30.
use Rattle.std.specs.Prelude.{ℕ, ◌/◌, ◌%◌, Bool, true, nat_eq, if◌then◌else◌, List, [], ◌∷◌, ◌++◌, length, map, get_or, slice_index}
use Rattle.vm_field.specs.Field.{modulus}
use Rattle.vm_field.specs.declared.limbs.Limbs.{Limbs}
use Rattle.vm_field.specs.Limbs.{limbs_by, limbs_from}
use Rattle.vm_word.specs.Arithmetic.{word_sum}
use Rattle.vm_word.specs.Word.{limbs_of, word_of_limbs}
use Rattle.vm_isa.specs.declared.instr.VmInstr.{VmInstr}
use Rattle.vm_isa.specs.declared.record.StepRecord.{StepRecord}
use Rattle.vm_isa.specs.Instr.{bit_of}
use Rattle.vm_isa.specs.Opcodes.{LUI, AUIPC}
use Rattle.air_core.specs.declared.bus.TheConstants.{RANGE}
use Rattle.air_core.specs.declared.event.Side.TheVariants.{Send}
use Rattle.air_core.specs.Flags.{opcode_place}
use Rattle.air_core.specs.Ring.{Ring, field}
use Rattle.gadget_time.specs.declared.touch.Gap.{Gap}
use Rattle.gadget_time.specs.declared.touch.Touch.{Touch}
use Rattle.gadget_time.specs.Access.{register_touch, gap_by, gap_of, gap_cells, access_at}
use Rattle.gadget_time.specs.Form.{Form, Parts, valid_of}
use Rattle.chip_jump.specs.declared.columns.LinkColumns.{LinkColumns}
use Rattle.chip_jump.specs.declared.columns.Ranged.{Ranged}

-- ---- words

-- the number that the limbs of a word make
unfoldable pub number_by : {A E : Type 0} → Ring A E → Limbs A → A
number_by o w = o.plus (o.plus (o.plus w.x0 (o.times (o.number 256) w.x1)) (o.times (o.number 65536) w.x2)) (o.times (o.number 16777216) w.x3)

-- the number less pc + 4: 0 where the word is the return address
unfoldable pub link_difference : {A E : Type 0} → Ring A E → Limbs A → A → A
link_difference o w pc = o.minus (o.minus (number_by o w) pc) (o.number 4)

abbrev pub with_bits : {A : Type 0} → A → A → Ranged A
with_bits number bits = record { number = number; bits = bits }

-- the three lower limbs are looked up with 8 bits, and the top one with so many
abbrev pub word_ranges : {A E : Type 0} → Ring A E → A → Limbs A → List (Ranged A)
word_ranges o bits w = with_bits w.x0 (o.number 8) ∷ with_bits w.x1 (o.number 8) ∷ with_bits w.x2 (o.number 8) ∷ with_bits w.x3 bits ∷ []

abbrev pub ranged_lines : {A E : Type 0} → Ring A E → A → List (Ranged A) → List E
ranged_lines o count xs = map (λ r. o.event RANGE Send count (r.number ∷ r.bits ∷ [])) xs

-- ---- columns: a row has some of them, in an order of its own

abbrev pub columns_by : {A : Type 0} → (ℕ → A) → LinkColumns A
columns_by column = record {
  rd = column 0;
  rs1 = column 1;
  write = column 2;
  target = column 3;
  imm = limbs_by column 4;
  word = limbs_by column 8;
  new = limbs_by column 12;
  old = limbs_by column 16;
  low = column 20;
  high = column 21;
  parity = column 22;
  read = gap_by column 23;
  wrote = gap_by column 26;
}

-- the number of each column
abbrev pub numbered : LinkColumns ℕ
numbered = columns_by (λ n. n)

abbrev pub four_of : {A : Type 0} → Limbs A → List A
four_of w = w.x0 ∷ w.x1 ∷ w.x2 ∷ w.x3 ∷ []

-- all of them, by their numbers, and those of a row
abbrev pub all_cells : LinkColumns ℕ → List ℕ
all_cells m = m.rd ∷ m.rs1 ∷ m.write ∷ m.target ∷ (four_of m.imm ++ (four_of m.word ++ (four_of m.new ++ (four_of m.old ++ (m.low ∷ m.high ∷ m.parity ∷ (gap_cells m.read ++ gap_cells m.wrote))))))

abbrev pub cells_of : List ℕ → LinkColumns ℕ → List ℕ
cells_of layout m = map (slice_index (all_cells m)) layout

-- the columns of a row: one that it hasn't is 0, but for `write`, which is 1
abbrev pub columns_of : {A E : Type 0} → Ring A E → List ℕ → List A → LinkColumns A
columns_of o layout rest = columns_by (λ n. get_or rest (opcode_place layout n) (o.number (if nat_eq n 2 then 1 else 0)))

-- ---- the form

-- of pc, the flags and the columns: the next pc, the constraints, and the numbers that are looked up
pub record LinkParts (A : Type 0) : Type 0 where
  pub next : A → List A → LinkColumns A → A
  pub constraints : A → List A → LinkColumns A → List A
  pub ranges : List A → LinkColumns A → List (Ranged A)

pub record Link : Type 0 where
  -- a register is read, before another may be written
  pub reads : Bool
  pub opcodes : List ℕ
  -- the numbers of the columns behind the flags
  pub layout : List ℕ
  pub parts : LinkParts ℕ
  -- the word of a record beside the new one: what is read, or pc
  pub word : StepRecord → Limbs ℕ

abbrev pub write_at : Bool → ℕ
write_at reads = if reads then 1 else 0

abbrev pub slots_by : Bool → ℕ
slots_by reads = if reads then 2 else 1

-- the program row behind pc and opcode
unfoldable pub link_numbers : {A E : Type 0} → Ring A E → LinkColumns A → List A
link_numbers o m =
    let zero = o.number 0 in
    m.rd ∷ m.rs1 ∷ zero ∷ m.write ∷ zero ∷ m.imm.x0 ∷ m.imm.x1 ∷ m.imm.x2 ∷ m.imm.x3 ∷ m.target ∷ []

-- the write, at a slot
abbrev pub link_touch : {A E : Type 0} → Ring A E → A → ℕ → LinkColumns A → Touch A
link_touch o valid slot m = register_touch o (o.times valid m.write) slot m.rd m.old m.new m.wrote

abbrev pub link_touches : {A E : Type 0} → Ring A E → Bool → A → LinkColumns A → List (Touch A)
link_touches o reads valid m =
    if reads then register_touch o valid 0 m.rs1 m.word m.word m.read ∷ link_touch o valid 1 m ∷ []
    else link_touch o valid 0 m ∷ []

abbrev pub link_parts : {A E : Type 0} → Ring A E → Bool → List ℕ → LinkParts A → Parts A E
link_parts o reads layout own = record {
  next = λ c. own.next c.pc c.flags (columns_of o layout c.rest);
  numbers = λ c. link_numbers o (columns_of o layout c.rest);
  touches = λ c. link_touches o reads (valid_of o c) (columns_of o layout c.rest);
  others = λ c. ranged_lines o (valid_of o c) (own.ranges c.flags (columns_of o layout c.rest));
  constraints = λ c. own.constraints c.pc c.flags (columns_of o layout c.rest);
}

-- the word that an instruction writes: the immediate, the sum of pc and it, or the return address
unfoldable pub written : VmInstr → List ℕ
written i = if nat_eq i.op LUI then i.imm else limbs_of (word_sum i.pc (if nat_eq i.op AUIPC then word_of_limbs i.imm else 4))

abbrev pub no_gap : Gap ℕ
no_gap = record { before = 0; lo = 0; hi = 0 }

-- the columns of a record, with this word
abbrev pub filled_by : Bool → Limbs ℕ → StepRecord → LinkColumns ℕ
filled_by reads word done =
    let i = done.instr in
    let first = access_at done.accesses 0 in
    let last = access_at done.accesses (write_at reads) in
    let sum = if reads then word_sum (word_of_limbs first.access.old) (word_of_limbs i.imm) else 0 in
    record {
      rd = i.rd;
      rs1 = i.rs1;
      write = bit_of i.write;
      target = i.target % modulus;
      imm = limbs_from i.imm;
      word = word;
      new = limbs_from (written i);
      old = limbs_from last.access.old;
      low = sum % 65536;
      high = sum / 65536;
      parity = sum % 2;
      read = if reads then gap_of first else no_gap;
      wrote = gap_of last;
    }

abbrev pub link_filled : Link → StepRecord → LinkColumns ℕ
link_filled l done = filled_by l.reads (l.word done) done

abbrev pub link_form : Link → Form
link_form l = record {
  slots = slots_by l.reads;
  opcodes = l.opcodes;
  width = length l.layout;
  alone = true;
  parts = link_parts field l.reads l.layout l.parts;
  place = λ done. opcode_place l.opcodes done.instr.op;
  filled = λ done. cells_of l.layout (link_filled l done);
}
