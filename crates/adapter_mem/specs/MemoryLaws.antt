-- What a table of the memory form owes: each law speaks of its flags and columns. Then it is a form with its laws.
use Rattle.std.specs.Prelude.{◌≡◌, ◌≢◌, ℕ, ◌+◌, ◌-◌, ◌*◌, ◌/◌, ◌%◌, ◌^◌, ◌<◌, ◌≤◌, ◌⊎◌, true, false, List, ◌∷◌, length, map, replicate, Option}
use Rattle.std.specs.List.{AllByRecursion}
use Rattle.vm_field.specs.Field.{modulus}
use Rattle.vm_field.specs.Limbs.{list_of, limbs_from}
use Rattle.vm_word.specs.Word.{word_of_limbs}
use Rattle.vm_word.specs.Arithmetic.{word_sum}
use Rattle.vm_isa.specs.declared.access.TimedAccess.{TimedAccess}
use Rattle.vm_isa.specs.declared.instr.VmInstr.{VmInstr}
use Rattle.vm_isa.specs.declared.record.StepRecord.{StepRecord}
use Rattle.vm_isa.specs.Instr.{InRange, numbers_of, bit_of}
use Rattle.vm_isa.specs.Means.{Fillable, address, block_address, is_bad, bars_first, bars_second, places_of}
use Rattle.vm_isa.specs.Opcodes.{has_meaning}
use Rattle.vm_isa.specs.Results.{width_of}
use Rattle.vm_isa.specs.Slots.{slots_of}
use Rattle.vm_isa.specs.Words.{IsBytes}
use Rattle.air_core.specs.Flags.{one_hot}
use Rattle.air_core.specs.Lookups.{GoodEvent}
use Rattle.air_core.specs.Ring.{field}
use Rattle.air_core.specs.Sheet.{AllZero, AllBelow}
use Rattle.air_core.specs.Step.{Rising, NewBytes, IsMeaning}
use Rattle.gadget_time.specs.Told.{touch_constraint, touched_of, MadeByAll, made}
use Rattle.gadget_time.specs.Laws.{CountsSmall}
use Rattle.gadget_time.specs.Access.{access_at}
use Rattle.gadget_time.specs.Form.{owns_of}
use Rattle.gadget_time.specs.FormLaws.{FormLaws, IsOther}
use Rattle.adapter_mem.specs.declared.memory.MemoryColumns.{MemoryColumns}
use Rattle.adapter_mem.specs.declared.forms.AccessForm.{AccessForm}
use Rattle.adapter_mem.specs.Forms.{form_at, place_in, opcodes_of}
use Rattle.adapter_mem.specs.Memory.{MemoryTable, memory_form, memory_numbers, address_filled, place_filled, no_memory}

-- ---- forms and addresses

-- a form's bytes stand in one block, as many as its opcode has
pub record IsForm (f : AccessForm) : Type 0 where
  pub width_is : width_of f.op ≡ f.width
  pub widths : ((f.width ≡ 1) × (f.shift < 4)) ⊎ (((f.width ≡ 2) × ((f.shift ≡ 0) ⊎ (f.shift ≡ 2))) ⊎ ((f.width ≡ 4) × (f.shift ≡ 0)))

pub record IsPlace (fs : List AccessForm) (op shift : ℕ) : Type 0 where
  pub below : place_in fs op shift < length fs
  pub op_is : (form_at fs (place_in fs op shift)).op ≡ op
  pub shift_is : (form_at fs (place_in fs op shift)).shift ≡ shift

-- an instruction that has a meaning exactly at an address of its width
pub record IsMemory (i : VmInstr) : Type 0 where
  pub meant : has_meaning i.op ≡ true
  pub bars : (b : ℕ) → bars_first i b ≡ is_bad (width_of i.op) (address i b)
  pub second : (c : ℕ) → bars_second i c ≡ false
  pub accesses : (olds : List (List ℕ)) → 1 ≤ length (places_of i olds)

-- the address is that of a form, and this is the pointer of its block
pub record IsAddress (i : VmInstr) (b : ℕ) (f : AccessForm) (block : ℕ) : Type 0 where
  pub below : address i b < 2 ^ 29
  pub aligned : address i b % width_of i.op ≡ 0
  pub shift : address i b % 4 ≡ f.shift
  pub block_is : block ≡ block_address i b

-- ---- valid rows

-- the flag at a place is set, the program row is that of an instruction, and constraints and lookups hold
pub record MemoryAt (t : MemoryTable) (k block : ℕ) (flags : List ℕ) (m : MemoryColumns ℕ) (i : VmInstr) : Type 0 where
  pub below : k < length t.forms
  pub flags_are : flags ≡ one_hot (length t.forms) k
  pub op : i.op ≡ (form_at t.forms k).op
  pub owned : owns_of (memory_form t) i.op ≡ true
  pub rd : m.rd ≡ i.rd
  pub rs1 : m.rs1 ≡ i.rs1
  pub rs2 : m.rs2 ≡ i.rs2
  pub write : m.write ≡ bit_of i.write
  pub in_range : InRange i
  pub sign_below : m.sign < modulus
  pub zero : AllZero (t.parts.constraints flags m)
  pub good : AllByRecursion (λ e. e.count ≢ 0 → GoodEvent e) (t.parts.lookups 1 flags m)
  pub address_is : IsBytes (list_of m.base) → IsAddress i (word_of_limbs (list_of m.base)) (form_at t.forms k) block

-- its accesses rise and leave bytes, and they are the meaning
pub record MemoryTells (t : MemoryTable) (block : ℕ) (flags : List ℕ) (m : MemoryColumns ℕ) (i : VmInstr) : Type 0 where
  pub counts : CountsSmall (t.parts.touches 1 block flags m)
  pub slots : AllByRecursion (λ a. a.slot < t.slots) (t.parts.touches 1 block flags m)
  pub rising : Rising 0 t.slots (touched_of (t.parts.touches 1 block flags m))
  pub new_bytes : NewBytes (touched_of (t.parts.touches 1 block flags m))
  pub means : AllByRecursion (λ a. IsBytes a.old) (touched_of (t.parts.touches 1 block flags m)) → IsMeaning i (touched_of (t.parts.touches 1 block flags m)) (word_sum i.pc 4)

-- ---- rows of a record

-- the place of the flag, and the address
pub record MemoryPlaced (t : MemoryTable) (done : StepRecord) : Type 0 where
  pub place : IsPlace t.forms done.instr.op (address_filled done % 4)
  pub owned : owns_of (memory_form t) done.instr.op ≡ true
  pub below : address_filled done < 2 ^ 29
  pub aligned : address_filled done % width_of done.instr.op ≡ 0
  pub base_is : list_of (limbs_from (access_at done.accesses 0).access.old) ≡ (access_at done.accesses 0).access.old
  pub base : IsBytes (list_of (limbs_from (access_at done.accesses 0).access.old))

abbrev pub flags_filled : MemoryTable → StepRecord → List ℕ
flags_filled t done = one_hot (length t.forms) (place_filled t.forms done)

abbrev pub block_filled : StepRecord → ℕ
block_filled done = address_filled done - address_filled done % 4

-- the columns meet the table's constraints, and tell the record
pub record MemoryFills (t : MemoryTable) (hi : ℕ) (done : StepRecord) : Type 0 where
  pub below : AllBelow (t.cells (t.filled done))
  pub numbers : done.instr.pc ∷ done.instr.op ∷ memory_numbers field (t.filled done) ≡ numbers_of done.instr
  pub next : done.next ≡ word_sum done.instr.pc 4
  pub zero : AllZero (t.parts.constraints (flags_filled t done) (t.filled done))
  pub small : AllByRecursion (λ e. e.count ≤ 1) (t.parts.lookups 1 (flags_filled t done) (t.filled done))
  pub good : AllByRecursion (λ e. e.count ≢ 0 → GoodEvent e) (t.parts.lookups 1 (flags_filled t done) (t.filled done))
  pub sources : List (Option TimedAccess)
  pub made_by : MadeByAll hi done.time (t.parts.touches 1 (block_filled done) (flags_filled t done) (t.filled done)) sources
  pub accesses : made sources ≡ done.accesses

-- the words of the address, as every table fills them
pub record AddressFilled (done : StepRecord) (m : MemoryColumns ℕ) : Type 0 where
  pub base : m.base ≡ limbs_from (access_at done.accesses 0).access.old
  pub imm : m.imm ≡ limbs_from done.instr.imm
  pub low : m.low ≡ address_filled done % 65536
  pub high : m.high ≡ address_filled done / 65536

-- columns of a row that are field elements
pub record MemoryBelow (m : MemoryColumns ℕ) : Type 0 where
  pub low : m.low < modulus
  pub high : m.high < modulus
  pub sign : m.sign < modulus

pub record MemoryLaws (t : MemoryTable) : Type 0 where
  pub some : 1 ≤ length t.forms
  pub few_flags : length t.forms ≤ 64
  pub slots_some : 1 ≤ t.slots
  pub slots_few : t.slots ≤ 64
  pub narrow : t.width ≤ 2 ^ 16
  pub opcodes_below : AllBelow (opcodes_of t.forms)
  pub slots : AllByRecursion (λ op. slots_of op ≡ t.slots) (opcodes_of t.forms)
  pub forms : AllByRecursion IsForm t.forms
  pub memory : (i : VmInstr) → owns_of (memory_form t) i.op ≡ true → IsMemory i
  pub few : (valid block : ℕ) (flags : List ℕ) (m : MemoryColumns ℕ) → 4 * length (t.parts.touches valid block flags m) + length (t.parts.lookups valid flags m) ≤ 251
  pub others : (valid : ℕ) (flags : List ℕ) (m : MemoryColumns ℕ) → AllByRecursion (IsOther true) (t.parts.lookups valid flags m)
  pub silent_touches : (valid block : ℕ) (flags : List ℕ) (m : MemoryColumns ℕ) → valid ≡ 0 → AllByRecursion (λ a. a.count ≡ 0) (t.parts.touches valid block flags m)
  pub silent_others : (valid : ℕ) (flags : List ℕ) (m : MemoryColumns ℕ) → valid ≡ 0 → AllZero flags → AllByRecursion (λ e. e.count ≡ 0) (t.parts.lookups valid flags m)
  -- columns of zeros
  pub read_zeros : t.parts.read (replicate t.width 0) ≡ no_memory
  pub zeros : AllZero (t.parts.constraints (replicate (length t.forms) 0) no_memory)
  pub zero_touches : (block : ℕ) (flags : List ℕ) → AllZero (map (touch_constraint field 0) (t.parts.touches 0 block flags no_memory))
  -- columns of a row and of a record
  pub below : (rest : List ℕ) → AllBelow rest → MemoryBelow (t.parts.read rest)
  pub long : (m : MemoryColumns ℕ) → length (t.cells m) ≡ t.width
  pub back : (done : StepRecord) → t.parts.read (t.cells (t.filled done)) ≡ t.filled done
  pub address : (done : StepRecord) → AddressFilled done (t.filled done)
  -- each opcode has a form at each address of its width
  pub place : (op shift : ℕ) → owns_of (memory_form t) op ≡ true → shift < 4 → shift % width_of op ≡ 0 → IsPlace t.forms op shift
  pub tells : (k block : ℕ) (flags : List ℕ) (m : MemoryColumns ℕ) (i : VmInstr) → MemoryAt t k block flags m i → MemoryTells t block flags m i
  pub fills : (hi : ℕ) (done : StepRecord) → hi ≤ 13 → Fillable (16 + hi) done → MemoryPlaced t done → MemoryFills t hi done

-- a table with these laws is a form with its laws
abbrev pub AMemoryTableIsAForm : Type 0
AMemoryTableIsAForm = (t : MemoryTable) → MemoryLaws t → FormLaws (memory_form t)
