-- The three cores: JAL and LUI, AUIPC, and JALR.
use Rattle.std.specs.Prelude.{true, false, List, ℕ, [], ◌∷◌, ◌++◌}
use Rattle.vm_field.specs.declared.limbs.Limbs.{Limbs}
use Rattle.vm_field.specs.Limbs.{list_of, limbs_from}
use Rattle.vm_word.specs.Word.{limbs_of}
use Rattle.vm_isa.specs.Opcodes.{JAL, LUI, JALR, AUIPC}
use Rattle.air_core.specs.First.{bit, gated_difference}
use Rattle.air_core.specs.Flags.{sum_from}
use Rattle.air_core.specs.Formal.{formal}
use Rattle.air_core.specs.Ring.{Ring, field, cell}
use Rattle.gadget_limbs.specs.Sum.{sum_constraints}
use Rattle.gadget_time.specs.Access.{access_at, gap_cells}
use Rattle.gadget_time.specs.Form.{Form, IsFormal}
use Rattle.adapter_mem.specs.Pointer.{pointer_constraints, part, pointer}
use Rattle.adapter_regs.specs.Next.{next_by}
use Rattle.chip_jump.specs.declared.columns.LinkColumns.{LinkColumns}
use Rattle.chip_jump.specs.declared.columns.Ranged.{Ranged}
use Rattle.chip_jump.specs.Link.{Link, LinkParts, link_form, link_parts, numbered, four_of, with_bits, word_ranges, number_by, link_difference}

-- ---- JAL and LUI: the new word is the return address, or the immediate

abbrev pub jal_lui_layout : List ℕ
jal_lui_layout = let n = numbered in n.rd ∷ n.write ∷ n.target ∷ (four_of n.imm ++ (four_of n.new ++ (four_of n.old ++ gap_cells n.wrote)))

abbrev pub jal_constraints : {A E : Type 0} → Ring A E → A → A → A → Limbs A → Limbs A → List A
jal_constraints o jal lui pc new imm =
    o.times jal (link_difference o new pc)
    ∷ gated_difference o lui new.x0 imm.x0
    ∷ gated_difference o lui new.x1 imm.x1
    ∷ gated_difference o lui new.x2 imm.x2
    ∷ gated_difference o lui new.x3 imm.x3
    ∷ []

-- the top limb of a return address has 6 bits: 8 - 2 * jal
abbrev pub jal_lui_parts : {A E : Type 0} → Ring A E → LinkParts A
jal_lui_parts o = record {
  next = λ pc flags m. next_by o pc m.target (cell o flags 0);
  constraints = λ pc flags m. jal_constraints o (cell o flags 0) (cell o flags 1) pc m.new m.imm;
  ranges = λ flags m. word_ranges o (o.minus (o.number 8) (o.times (o.number 2) (cell o flags 0))) m.new;
}

abbrev pub jal_lui_link : Link
jal_lui_link = record {
  reads = false;
  opcodes = JAL ∷ LUI ∷ [];
  layout = jal_lui_layout;
  parts = jal_lui_parts field;
  word = λ done. record { x0 = 0; x1 = 0; x2 = 0; x3 = 0 };
}

abbrev pub jal_lui_form : Form
jal_lui_form = link_form jal_lui_link

abbrev pub JalLuiIsFormal : Type 0
JalLuiIsFormal = IsFormal jal_lui_form (link_parts formal false jal_lui_layout (jal_lui_parts formal))

-- ---- AUIPC: the new word is the sum of the word of pc and the immediate

abbrev pub auipc_layout : List ℕ
auipc_layout = let n = numbered in n.rd ∷ (four_of n.imm ++ (four_of n.word ++ (four_of n.new ++ (four_of n.old ++ gap_cells n.wrote))))

abbrev pub auipc_constraints : {A E : Type 0} → Ring A E → A → A → Limbs A → Limbs A → Limbs A → List A
auipc_constraints o valid pc word imm new = o.minus (number_by o word) pc ∷ sum_constraints o valid (o.number 0) (list_of word) (list_of imm) (list_of new)

abbrev pub auipc_parts : {A E : Type 0} → Ring A E → LinkParts A
auipc_parts o = record {
  next = λ pc flags m. o.plus pc (o.number 4);
  constraints = λ pc flags m. auipc_constraints o (sum_from o (o.number 0) flags) pc m.word m.imm m.new;
  ranges = λ flags m. word_ranges o (o.number 6) m.word ++ word_ranges o (o.number 8) m.new;
}

abbrev pub auipc_link : Link
auipc_link = record {
  reads = false;
  opcodes = AUIPC ∷ [];
  layout = auipc_layout;
  parts = auipc_parts field;
  word = λ done. limbs_from (limbs_of done.instr.pc);
}

abbrev pub auipc_form : Form
auipc_form = link_form auipc_link

abbrev pub AuipcIsFormal : Type 0
AuipcIsFormal = IsFormal auipc_form (link_parts formal false auipc_layout (auipc_parts formal))

-- ---- JALR: the next pc is the sum of a register's word and the immediate, less its remainder by 2; the new word is the
-- return address

abbrev pub jalr_layout : List ℕ
jalr_layout = let n = numbered in n.rd ∷ n.rs1 ∷ n.write
    ∷ (four_of n.imm ++ (four_of n.word ++ (four_of n.new ++ (four_of n.old ++ (n.low ∷ n.high ∷ n.parity ∷ (gap_cells n.read ++ gap_cells n.wrote))))))

-- the halves of the sum, its remainder, and the return address
abbrev pub jalr_constraints : {A E : Type 0} → Ring A E → A → A → LinkColumns A → List A
jalr_constraints o valid pc m = pointer_constraints o m.word m.imm m.low m.high ++ (bit o m.parity ∷ o.times valid (link_difference o m.new pc) ∷ [])

-- 1006632961 is the inverse of 2
abbrev pub jalr_ranges : {A E : Type 0} → Ring A E → LinkColumns A → List (Ranged A)
jalr_ranges o m = with_bits (part o 1006632961 m.low m.parity) (o.number 15) ∷ with_bits m.high (o.number 13) ∷ word_ranges o (o.number 6) m.new

abbrev pub jalr_parts : {A E : Type 0} → Ring A E → LinkParts A
jalr_parts o = record {
  next = λ pc flags m. pointer o m.low m.high m.parity;
  constraints = λ pc flags m. jalr_constraints o (sum_from o (o.number 0) flags) pc m;
  ranges = λ flags m. jalr_ranges o m;
}

abbrev pub jalr_link : Link
jalr_link = record {
  reads = true;
  opcodes = JALR ∷ [];
  layout = jalr_layout;
  parts = jalr_parts field;
  word = λ done. limbs_from (access_at done.accesses 0).access.old;
}

abbrev pub jalr_form : Form
jalr_form = link_form jalr_link

abbrev pub JalrIsFormal : Type 0
JalrIsFormal = IsFormal jalr_form (link_parts formal true jalr_layout (jalr_parts formal))
