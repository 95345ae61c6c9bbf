-- The slots of an opcode.
use Rattle.std.specs.Prelude.{ℕ, ◌||◌, nat_eq, if◌then◌else◌}
use Rattle.vm_isa.specs.Opcodes.{is_from, ADD, SW, BEQ, BGEU, JAL, LUI, JALR, AUIPC, MUL, REMU, HINT, REVEAL, NOP, SHA}

-- a step of an opcode goes on by this many; TERMINATE and what is no opcode have none
abbrev pub slots_of : ℕ → ℕ
slots_of op =
    if is_from ADD SW op || (is_from MUL REMU op || nat_eq op REVEAL) then 3
    else if is_from BEQ BGEU op || (nat_eq op JALR || nat_eq op HINT) then 2
    else if is_from JAL LUI op || (nat_eq op AUIPC || nat_eq op NOP) then 1
    else if nat_eq op SHA then 26
    else 0
