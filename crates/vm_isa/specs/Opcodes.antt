-- The opcodes by name, with the numbers of src/opcode.rt, and their groups.
use Rattle.std.specs.Prelude.{ℕ, Bool, ◌&&◌, ◌||◌, nat_eq, nat_le}

abbrev pub ADD : ℕ
ADD = 1

abbrev pub SUB : ℕ
SUB = 2

abbrev pub XOR : ℕ
XOR = 3

abbrev pub OR : ℕ
OR = 4

abbrev pub AND : ℕ
AND = 5

abbrev pub SLT : ℕ
SLT = 6

abbrev pub SLTU : ℕ
SLTU = 7

abbrev pub SLL : ℕ
SLL = 8

abbrev pub SRL : ℕ
SRL = 9

abbrev pub SRA : ℕ
SRA = 10

abbrev pub LB : ℕ
LB = 11

abbrev pub LH : ℕ
LH = 12

abbrev pub LW : ℕ
LW = 13

abbrev pub LBU : ℕ
LBU = 14

abbrev pub LHU : ℕ
LHU = 15

abbrev pub SB : ℕ
SB = 16

abbrev pub SH : ℕ
SH = 17

abbrev pub SW : ℕ
SW = 18

abbrev pub BEQ : ℕ
BEQ = 19

abbrev pub BNE : ℕ
BNE = 20

abbrev pub BLT : ℕ
BLT = 21

abbrev pub BLTU : ℕ
BLTU = 22

abbrev pub BGE : ℕ
BGE = 23

abbrev pub BGEU : ℕ
BGEU = 24

abbrev pub JAL : ℕ
JAL = 25

abbrev pub LUI : ℕ
LUI = 26

abbrev pub JALR : ℕ
JALR = 27

abbrev pub AUIPC : ℕ
AUIPC = 28

abbrev pub MUL : ℕ
MUL = 29

abbrev pub MULH : ℕ
MULH = 30

abbrev pub MULHSU : ℕ
MULHSU = 31

abbrev pub MULHU : ℕ
MULHU = 32

abbrev pub DIV : ℕ
DIV = 33

abbrev pub DIVU : ℕ
DIVU = 34

abbrev pub REM : ℕ
REM = 35

abbrev pub REMU : ℕ
REMU = 36

-- stores a word that the host gives
abbrev pub HINT : ℕ
HINT = 37

-- puts a word among the public bytes
abbrev pub REVEAL : ℕ
REVEAL = 38

-- does nothing but go on
abbrev pub NOP : ℕ
NOP = 39

-- compresses one block of SHA-256
abbrev pub SHA : ℕ
SHA = 40

-- ends the program
abbrev pub TERMINATE : ℕ
TERMINATE = 41

-- no opcode: the number is kept for a row that asks the host for the next input
abbrev pub HINT_NEXT : ℕ
HINT_NEXT = 42

-- the greatest opcode
abbrev pub GREATEST : ℕ
GREATEST = TERMINATE

-- ---- groups

-- from the first of two opcodes to the last
abbrev pub is_from : ℕ → ℕ → ℕ → Bool
is_from first last op = nat_le first op && nat_le op last

abbrev pub is_opcode : ℕ → Bool
is_opcode op = is_from ADD GREATEST op

-- the opcodes of steps: all but TERMINATE
abbrev pub has_meaning : ℕ → Bool
has_meaning op = is_from ADD SHA op

-- two words in, the second a register's or an immediate, and one word out
abbrev pub is_alu : ℕ → Bool
is_alu op = is_from ADD SRA op

abbrev pub is_load : ℕ → Bool
is_load op = is_from LB LHU op

abbrev pub is_store : ℕ → Bool
is_store op = is_from SB SW op

abbrev pub is_branch : ℕ → Bool
is_branch op = is_from BEQ BGEU op

abbrev pub is_upper : ℕ → Bool
is_upper op = nat_eq op LUI || nat_eq op AUIPC

-- two registers' words in, one word out
abbrev pub is_mul : ℕ → Bool
is_mul op = is_from MUL REMU op

-- the register form: from two words a word for a register
abbrev pub is_register : ℕ → Bool
is_register op = is_alu op || is_mul op
