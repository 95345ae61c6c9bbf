-- What the tables are, one by one.
use Rattle.std.specs.Prelude.{◌≡◌, ℕ, ◌≤◌, ◌↔◌, nat_eq, true, List, [], ◌∷◌, length}
use Rattle.std.specs.List.{list_any}
use Rattle.vm_isa.specs.Opcodes.{ADD, SUB, XOR, OR, AND, SLT, SLTU, SLL, SRL, SRA, LB, LH, LW, LBU, LHU, SB, SH, SW, BEQ, BNE, BLT, BLTU, BGE, BGEU, JAL, LUI, AUIPC, JALR, NOP, MUL, MULH, MULHSU, MULHU, DIV, DIVU, REM, REMU, HINT, REVEAL, SHA}
use Rattle.air_core.specs.System.{Part, is_owned}
use Rattle.vm_config.specs.Config.{full}

-- the slots and columns of a table, how many constraints and events each row has, and the opcode of each flag that owns one
pub record Outline : Type 0 where
  pub slots : ℕ
  pub width : ℕ
  pub constraints : ℕ
  pub events : ℕ
  pub opcodes : List ℕ

abbrev pub outline : ℕ → ℕ → ℕ → ℕ → List ℕ → Outline
outline slots width constraints events opcodes = record { slots = slots; width = width; constraints = constraints; events = events; opcodes = opcodes }

abbrev pub full_outlines : List Outline
full_outlines =
    outline 3 40 21 19 (ADD ∷ SUB ∷ XOR ∷ OR ∷ AND ∷ [])
    ∷ outline 3 41 27 18 (SLT ∷ SLTU ∷ [])
    ∷ outline 3 55 59 25 (SLL ∷ SRL ∷ SRA ∷ [])
    ∷ outline 3 46 21 18 (LB ∷ LB ∷ LB ∷ LB ∷ LH ∷ LH ∷ LW ∷ LBU ∷ LBU ∷ LBU ∷ LBU ∷ LHU ∷ LHU ∷ [])
    ∷ outline 3 38 13 17 (SB ∷ SB ∷ SB ∷ SB ∷ SH ∷ SH ∷ SW ∷ [])
    ∷ outline 2 26 11 11 (BEQ ∷ BNE ∷ [])
    ∷ outline 2 31 24 14 (BLT ∷ BLTU ∷ BGE ∷ BGEU ∷ [])
    ∷ outline 1 22 9 11 (JAL ∷ LUI ∷ [])
    ∷ outline 1 23 8 15 (AUIPC ∷ [])
    ∷ outline 2 31 8 17 (JALR ∷ [])
    ∷ outline 1 3 2 3 (NOP ∷ [])
    ∷ outline 3 40 12 33 (MUL ∷ MULH ∷ MULHSU ∷ MULHU ∷ [])
    ∷ outline 3 65 68 50 (DIV ∷ DIVU ∷ REM ∷ REMU ∷ [])
    ∷ outline 2 28 6 17 (HINT ∷ [])
    ∷ outline 3 32 7 17 (REVEAL ∷ [])
    ∷ outline 26 267 44 143 (SHA ∷ [])
    ∷ outline 0 299 258 15 []
    ∷ []

pub record HasOutline (p : Part) (l : Outline) : Type 0 where
  pub slots : p.sheet.slots ≡ l.slots
  pub width : p.sheet.width ≡ l.width
  pub constraints : (row : List ℕ) → length (p.sheet.constraints row) ≡ l.constraints
  pub events : (row : List ℕ) → length (p.sheet.lines row) ≡ l.events
  pub owns : (op : ℕ) → p.sheet.owns op ≡ list_any (nat_eq op) l.opcodes

-- table by table
abbrev pub HaveOutlines : List Part → List Outline → Type 0
HaveOutlines [] [] = Unit {0}
HaveOutlines (p ∷ ps) (l ∷ ls) = HasOutline p l × HaveOutlines ps ls
HaveOutlines _ _ = ⊥

-- There are seventeen tables, and they own the opcodes of all instructions but TERMINATE.
pub record FullIs (hi : ℕ) : Type 0 where
  pub outlines : HaveOutlines (full hi).parts full_outlines
  pub owns : (op : ℕ) → (is_owned (full hi).parts op ≡ true) ↔ ((1 ≤ op) × (op ≤ 40))

abbrev pub FullIsTheTables : Type 0
FullIsTheTables = (hi : ℕ) → FullIs hi
