-- What a core owes: each law speaks of its flags and columns. Then it is a form with its laws.
use Rattle.std.specs.Prelude.{◌≡◌, ℕ, ◌^◌, ◌<◌, ◌≤◌, Bool, true, false, nat_eq, if◌then◌else◌, List, [], ◌∷◌, length, replicate, slice_index}
use Rattle.std.specs.List.{AllByRecursion, list_any}
use Rattle.vm_field.specs.Field.{modulus}
use Rattle.vm_field.specs.Limbs.{list_of, limbs_from}
use Rattle.vm_word.specs.Word.{word_of_limbs}
use Rattle.vm_isa.specs.declared.instr.VmInstr.{VmInstr}
use Rattle.vm_isa.specs.declared.record.StepRecord.{StepRecord}
use Rattle.vm_isa.specs.Instr.{InRange}
use Rattle.vm_isa.specs.Means.{jalr_target, next_of}
use Rattle.vm_isa.specs.Opcodes.{JAL, LUI, JALR, AUIPC}
use Rattle.vm_isa.specs.Words.{IsBytes}
use Rattle.air_core.specs.Flags.{one_hot}
use Rattle.air_core.specs.Ring.{field}
use Rattle.air_core.specs.Sheet.{AllZero}
use Rattle.gadget_time.specs.Access.{access_at}
use Rattle.gadget_time.specs.FormLaws.{FormLaws}
use Rattle.chip_jump.specs.declared.columns.LinkColumns.{LinkColumns}
use Rattle.chip_jump.specs.declared.columns.Ranged.{Ranged}
use Rattle.chip_jump.specs.Link.{Link, columns_of, cells_of, link_filled, link_form, written}

-- the opcodes that read a register, and that read none
abbrev pub link_opcodes : Bool → List ℕ
link_opcodes reads = if reads then JALR ∷ [] else JAL ∷ LUI ∷ AUIPC ∷ []

abbrev pub is_link : Bool → ℕ → Bool
is_link reads op = list_any (nat_eq op) (link_opcodes reads)

-- a number has its bits, at most 16
abbrev pub InBits : Ranged ℕ → Type 0
InBits r = (r.bits ≤ 16) × (r.number < 2 ^ r.bits)

-- the flag at a place is set in the row of an instruction, and its constraints and lookups hold
pub record LinkAt (l : Link) (k : ℕ) (m : LinkColumns ℕ) (i : VmInstr) : Type 0 where
  pub below : k < length l.opcodes
  pub op_is : i.op ≡ slice_index l.opcodes k
  pub in_range : InRange i
  pub target : m.target ≡ i.target
  pub imm : list_of m.imm ≡ i.imm
  pub word : l.reads ≡ true → IsBytes (list_of m.word)
  pub low : m.low < modulus
  pub parity : m.parity < modulus
  pub zero : AllZero (l.parts.constraints i.pc (one_hot (length l.opcodes) k) m)
  pub ranges : AllByRecursion InBits (l.parts.ranges (one_hot (length l.opcodes) k) m)

-- the new word and the next pc are the instruction's
pub record LinkTells (l : Link) (k : ℕ) (m : LinkColumns ℕ) (i : VmInstr) : Type 0 where
  pub new : list_of m.new ≡ written i
  pub next : l.parts.next i.pc (one_hot (length l.opcodes) k) m ≡ next_of i (list_of m.word ∷ [])
  pub low : l.reads ≡ true → jalr_target i (word_of_limbs (list_of m.word)) < 2 ^ 29

-- a record of an opcode of the table
pub record LinkDone (l : Link) (k : ℕ) (done : StepRecord) : Type 0 where
  pub below : k < length l.opcodes
  pub op_is : done.instr.op ≡ slice_index l.opcodes k
  pub in_range : InRange done.instr
  pub rs1 : l.reads ≡ false → done.instr.rs1 ≡ 0
  pub word_is : l.reads ≡ true → list_of (limbs_from (access_at done.accesses 0).access.old) ≡ (access_at done.accesses 0).access.old
  pub word : l.reads ≡ true → IsBytes (list_of (limbs_from (access_at done.accesses 0).access.old))
  pub low : l.reads ≡ true → jalr_target done.instr (word_of_limbs (access_at done.accesses 0).access.old) < 2 ^ 29

-- its columns are read back, and meet constraints and lookups
pub record LinkFills (l : Link) (k : ℕ) (done : StepRecord) : Type 0 where
  pub back : columns_of field l.layout (cells_of l.layout (link_filled l done)) ≡ link_filled l done
  pub word : IsBytes (list_of (l.word done))
  pub zero : AllZero (l.parts.constraints done.instr.pc (one_hot (length l.opcodes) k) (link_filled l done))
  pub ranges : AllByRecursion InBits (l.parts.ranges (one_hot (length l.opcodes) k) (link_filled l done))

pub record LinkLaws (l : Link) : Type 0 where
  pub some : 1 ≤ length l.opcodes
  pub few_flags : length l.opcodes ≤ 64
  pub narrow : length l.layout ≤ 2 ^ 16
  pub opcodes : AllByRecursion (λ op. is_link l.reads op ≡ true) l.opcodes
  pub few : (flags : List ℕ) (m : LinkColumns ℕ) → length (l.parts.ranges flags m) ≤ 240
  pub zeros : AllZero (l.parts.constraints 0 (replicate (length l.opcodes) 0) (columns_of field l.layout (replicate (length l.layout) 0)))
  -- the word beside the new one is the one that is read
  pub word : l.reads ≡ true → (done : StepRecord) → l.word done ≡ limbs_from (access_at done.accesses 0).access.old
  pub sound : (k : ℕ) (m : LinkColumns ℕ) (i : VmInstr) → LinkAt l k m i → LinkTells l k m i
  pub complete : (k : ℕ) (done : StepRecord) → LinkDone l k done → LinkFills l k done

-- a core with its laws is a form with its laws
abbrev pub ALinkIsAForm : Type 0
ALinkIsAForm = (l : Link) → LinkLaws l → FormLaws (link_form l)
