-- One step of the machine. What an instruction does is the manual's (RISC-V Unprivileged ISA 20191213, the
-- section beside each); hint store, reveal, SHA block, terminate and the traps are this project's own.
use Rattle.std.specs.Prelude.{ℕ, ◌+◌, ◌-◌, ◌*◌, ◌%◌, ◌^◌, List, ◌++◌, length, take, drop, map, slice_index, slice_set, Bool, ◌&&◌, not, ◌==◌, nat_le, nat_lt, Option, None, Some, if◌then◌else◌}
use Rattle.std.specs.List.{range_with_len}
use Rattle.byteorder.specs.Endian.{little_bytes}
use Rattle.vm_word.specs.Arithmetic.{word_sum}
use Rattle.vm_word.specs.Operations.{alu_result, branch_holds, jump_target, load_extended, load_width, mul_div_result, store_width}
use Rattle.sha_words.specs.Sha256.{compress}
use Rattle.rv_decode.specs.declared.instr.Instr.{Instr}
use Rattle.rv_decode.specs.declared.instr.Instr.TheVariants.{Lui, Auipc, Jal, Jalr, Branch, Load, Store, AluImm, Alu, MulDiv, Fence, Terminate, HintStore, Reveal, ShaBlock}
use Rattle.vm_word.specs.declared.operation.BranchKind.{BranchKind}
use Rattle.rv_decode.specs.Listing.{decode_of}
use Rattle.elf_image.specs.Loaded.{Loaded, word_of}
use Rattle.rv_run.specs.declared.outcome.Cause.{Cause}
use Rattle.rv_run.specs.declared.outcome.Cause.TheVariants.{NotText, Undecoded, MisalignedTarget, Misaligned, OutOfRange, HintsEnd, PublicIndex}
use Rattle.rv_run.specs.declared.outcome.Trap.{Trap}
use Rattle.rv_run.specs.Machine.{Machine}
use Rattle.rv_run.specs.Memory.{number_at, with_bytes, with_words}

-- what a step comes to: the next state, the end with an exit code, or a trap
pub data Next : Type 0 where
  goes : Machine → Next
  ends : ℕ → Next
  traps : Trap → Next

abbrev pub register : Machine → ℕ → ℕ
register m number = slice_index m.registers number

-- on at another pc
abbrev pub jumps : ℕ → Machine → Machine
jumps pc m = record m { pc = pc }

-- on to the next instruction
abbrev pub goes_on : Machine → Machine
goes_on m = jumps (word_sum m.pc 4) m

-- a word goes to a register; x0 stays 0
abbrev pub put : ℕ → ℕ → Machine → Machine
put rd word m = record m { registers = if rd == 0 then m.registers else slice_set m.registers rd word }

-- bytes go to memory
abbrev pub store : ℕ → List ℕ → Machine → Machine
store address bytes m = record m { memory = with_bytes m.memory address bytes }

-- words go to memory, one after another
abbrev pub store_words : ℕ → List ℕ → Machine → Machine
store_words address words m = record m { memory = with_words m.memory address words }

-- the first hint bytes are used up
abbrev pub use_hints : ℕ → Machine → Machine
use_hints count m = record m { hints = drop count m.hints }

-- a word goes to the public bytes from this place on, the lowest byte first
abbrev pub make_public : ℕ → ℕ → Machine → Machine
make_public place word m = record m {
  public_bytes = take place m.public_bytes ++ (little_bytes 4 word ++ drop (place + 4) m.public_bytes);
}

-- ---- branches and jumps (2.5)

abbrev pub branch_taken : Machine → BranchKind → ℕ → ℕ → Bool
branch_taken m kind rs1 rs2 = branch_holds kind (register m rs1) (register m rs2)

abbrev pub jalr_target : Machine → ℕ → ℕ → ℕ
jalr_target m rs1 imm = jump_target (register m rs1) imm

-- ---- loads and stores (2.6)

abbrev pub address_of : Machine → ℕ → ℕ → ℕ
address_of m base imm = word_sum (register m base) imm

-- ---- SHA block: eight words at one address are replaced by their compression with 64 bytes at another

unfoldable pub words_at : (ℕ → ℕ) → ℕ → ℕ → List ℕ
words_at memory address count = map (λ i. number_at memory (address + 4 * i) 4) (range_with_len 0 count)

unfoldable pub bytes_at : (ℕ → ℕ) → ℕ → ℕ → List ℕ
bytes_at memory address count = map (λ i. memory (address + i)) (range_with_len 0 count)

abbrev pub compressed : Machine → ℕ → ℕ → List ℕ
compressed m state block = compress (words_at m.memory (register m state) 8) (bytes_at m.memory (register m block) 64)

-- ---- what keeps an instruction from being done, in the order in which it is tested

abbrev pub at_target : ℕ → Option Cause
at_target target = if target % 4 == 0 then None else Some MisalignedTarget

abbrev pub at_address : ℕ → ℕ → Option Cause
at_address width address =
    if not (address % width == 0) then Some Misaligned
    else if nat_lt address (2 ^ 29) then None
    else Some OutOfRange

-- a hint store needs four more hint bytes
abbrev pub or_hints_end : Machine → Option Cause → Option Cause
or_hints_end m (Some cause) = Some cause
or_hints_end m None = if nat_lt (length m.hints) 4 then Some HintsEnd else None

abbrev pub at_block : ℕ → ℕ → Option Cause
at_block state block =
    if not ((state % 4 == 0) && (block % 4 == 0)) then Some Misaligned
    else if nat_le state (2 ^ 29 - 32) && nat_le block (2 ^ 29 - 64) then None
    else Some OutOfRange

-- a place of a word in the public bytes
abbrev pub at_public : ℕ → Option Cause
at_public place = if (place % 4 == 0) && nat_lt place 64 then None else Some PublicIndex

abbrev pub obstacle : Machine → Instr → Option Cause
obstacle m (Jal rd offset) = at_target (word_sum m.pc offset)
obstacle m (Jalr rd rs1 imm) = at_target (jalr_target m rs1 imm)
obstacle m (Branch kind rs1 rs2 offset) = if branch_taken m kind rs1 rs2 then at_target (word_sum m.pc offset) else None
obstacle m (Load kind rd rs1 imm) = at_address (load_width kind) (address_of m rs1 imm)
obstacle m (Store kind rs1 rs2 imm) = at_address (store_width kind) (address_of m rs1 imm)
obstacle m (HintStore base imm) = or_hints_end m (at_address 4 (address_of m base imm))
obstacle m (Reveal base rs1 imm) = at_public (address_of m base imm)
obstacle m (ShaBlock state block) = at_block (register m state) (register m block)
obstacle m (Lui rd imm) = None
obstacle m (Auipc rd imm) = None
obstacle m (AluImm op rd rs1 imm) = None
obstacle m (Alu op rd rs1 rs2) = None
obstacle m (MulDiv op rd rs1 rs2) = None
obstacle m Fence = None
obstacle m (Terminate code) = None

-- ---- what an instruction does where nothing keeps it from it

abbrev pub performed : Machine → Instr → Next
performed m (Lui rd imm) = goes (goes_on (put rd imm m))
performed m (Auipc rd imm) = goes (goes_on (put rd (word_sum m.pc imm) m))
performed m (Jal rd offset) = goes (jumps (word_sum m.pc offset) (put rd (word_sum m.pc 4) m))
performed m (Jalr rd rs1 imm) = goes (jumps (jalr_target m rs1 imm) (put rd (word_sum m.pc 4) m))
performed m (Branch kind rs1 rs2 offset) = goes (if branch_taken m kind rs1 rs2 then jumps (word_sum m.pc offset) m else goes_on m)
performed m (Load kind rd rs1 imm) = goes (goes_on (put rd (load_extended kind (number_at m.memory (address_of m rs1 imm) (load_width kind))) m))
performed m (Store kind rs1 rs2 imm) = goes (goes_on (store (address_of m rs1 imm) (little_bytes (store_width kind) (register m rs2)) m))
performed m (AluImm op rd rs1 imm) = goes (goes_on (put rd (alu_result op (register m rs1) imm) m))
performed m (Alu op rd rs1 rs2) = goes (goes_on (put rd (alu_result op (register m rs1) (register m rs2)) m))
performed m (MulDiv op rd rs1 rs2) = goes (goes_on (put rd (mul_div_result op (register m rs1) (register m rs2)) m))
performed m Fence = goes (goes_on m)
performed m (Terminate code) = ends code
performed m (HintStore base imm) = goes (goes_on (use_hints 4 (store (address_of m base imm) (take 4 m.hints) m)))
performed m (Reveal base rs1 imm) = goes (goes_on (make_public (address_of m base imm) (register m rs1) m))
performed m (ShaBlock state block) = goes (goes_on (store_words (register m state) (compressed m state block) m))

-- ---- the step

abbrev pub trap_at : Machine → Cause → Next
trap_at m cause = traps (record { cause = cause; pc = m.pc })

abbrev pub unless : Machine → Option Cause → Next → Next
unless m (Some cause) next = trap_at m cause
unless m None next = next

abbrev pub step_by : Machine → Instr → Next
step_by m instr = unless m (obstacle m instr) (performed m instr)

-- a word that doesn't decode is a trap
abbrev pub step_at_instr : Machine → Option Instr → Next
step_at_instr m None = trap_at m Undecoded
step_at_instr m (Some instr) = step_by m instr

-- a pc at which no text word stands is a trap
abbrev pub step_at_word : Machine → Option ℕ → Next
step_at_word m None = trap_at m NotText
step_at_word m (Some word) = step_at_instr m (decode_of word)

-- one step of the machine over a loaded program, whose text stays as it was loaded
abbrev pub step_of : Loaded → Machine → Next
step_of loaded m = step_at_word m (word_of loaded m.pc)
