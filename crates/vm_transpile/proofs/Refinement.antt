-- One step on both machines.
use Rattle.std.proofs.Common.{◌≡◌, ℕ, ◌%◌, ◌^◌, ◌<◌, ◌==◌, Bool, true, false, cond, List, None, Some, Option, refl, sym, ap, ◌∙◌, subst, arith}
use Rattle.std.specs.Prelude.{Contains, slice_index}
use Rattle.elf_image.specs.Loaded.{Loaded, word_of}
use Rattle.elf_image.specs.Image.{HasImage}
use Rattle.rv_decode.specs.declared.instr.Instr.{Instr}
use Rattle.rv_decode.specs.declared.instr.Instr.TheVariants.{Lui, Auipc, Jal, Jalr, Branch, Load, Store, AluImm, Alu, MulDiv, Fence, Terminate, HintStore, Reveal, ShaBlock}
use Rattle.vm_word.specs.declared.operation.AluOp.{AluOp}
use Rattle.vm_word.specs.declared.operation.AluOp.TheVariants.{Add}
use Rattle.vm_word.specs.declared.operation.BranchKind.{BranchKind}
use Rattle.vm_word.specs.declared.operation.BranchKind.TheVariants.{Beq}
use Rattle.vm_word.specs.declared.operation.LoadKind.{LoadKind}
use Rattle.vm_word.specs.declared.operation.LoadKind.TheVariants.{Lb}
use Rattle.vm_word.specs.declared.operation.MulDivOp.{MulDivOp}
use Rattle.vm_word.specs.declared.operation.MulDivOp.TheVariants.{Mul}
use Rattle.vm_word.specs.declared.operation.StoreKind.{StoreKind}
use Rattle.vm_word.specs.declared.operation.StoreKind.TheVariants.{Sb}
use Rattle.rv_decode.specs.Ranges.{HasFieldsInRange}
use Rattle.rv_decode.specs.Listing.{decode_of}
use Rattle.rv_decode.proofs.ListingLemmas.{IfSome-decode_of}
use Rattle.rv_run.specs.declared.outcome.Cause.{Cause}
use Rattle.rv_run.specs.declared.outcome.Trap.{Trap}
use Rattle.rv_run.specs.Machine.{Machine}
use Rattle.rv_run.specs.Step.{Next, goes, ends, traps, obstacle, performed, step_by, step_at_instr, step_at_word, step_of, unless}
use Rattle.vm_isa.specs.declared.instr.VmInstr.{VmInstr}
use Rattle.vm_isa.specs.Means.{is_refused}
use Rattle.vm_isa.specs.Blocks.{VmState}
use Rattle.vm_isa.proofs.RowSteps.{By, step_by_row, row_steps}
use Rattle.vm_transpile.specs.Rows.{alu_opcode, load_opcode, store_opcode, branch_opcode, mul_div_opcode, nop_row, terminate_row, row_of}
use Rattle.vm_transpile.specs.Program.{row_at, program_of}
use Rattle.vm_transpile.specs.Same.{IsMachine, Same}
use Rattle.vm_transpile.specs.Refines.{HasText, StateIsKept, StepsGoForth, StepsGoBack, StepsEndByRows}
use Rattle.vm_transpile.proofs.Texts.{row_at-decoded, row_at-pc, word_aligned, rows_of_text, text_has_rows}
use Rattle.vm_transpile.proofs.Ranges.{word_low, fields_in_range}
use Rattle.vm_transpile.proofs.Turns.{Turns}
use Rattle.vm_transpile.proofs.OperationTurns.{alu_turn, mul_turn, imm_turn, lui_turn, auipc_turn, fence_turn}
use Rattle.vm_transpile.proofs.MemoryTurns.{load_turn}
use Rattle.vm_transpile.proofs.StoreTurns.{store_turn, hint_turn, reveal_turn}
use Rattle.vm_transpile.proofs.JumpTurns.{branch_turn, jal_turn, jalr_turn}
use Rattle.vm_transpile.proofs.ShaTurn.{sha_turn}
use Rattle.vm_transpile.proofs.Kept.{went_parts, step_kept}

-- ---- each instruction but the end has its turn

turn_of : (m : Machine) (s : VmState) → IsMachine m → Same m s → (instr : Instr) → HasFieldsInRange instr → ((code : ℕ) → instr ≡ Terminate code → ⊥) → Turns m instr (row_of m.pc instr) s
turn_of m s is h (Lui rd imm) f other = lui_turn m s is h rd imm f.0
turn_of m s is h (Auipc rd imm) f other = auipc_turn m s is h rd imm f.0 f.1
turn_of m s is h (Jal rd offset) f other = jal_turn m s is h rd offset f.0
turn_of m s is h (Jalr rd rs1 imm) f other = jalr_turn m s is h rd rs1 imm f.0 f.1 f.2
turn_of m s is h (Branch kind rs1 rs2 offset) f other = branch_turn m s is h kind rs1 rs2 offset f.0 f.1
turn_of m s is h (Load kind rd rs1 imm) f other = load_turn m s is h kind rd rs1 imm f.0 f.1 f.2
turn_of m s is h (Store kind rs1 rs2 imm) f other = store_turn m s is h kind rs1 rs2 imm f.0 f.1 f.2
turn_of m s is h (AluImm op rd rs1 imm) f other = imm_turn m s is h op rd rs1 imm f.0 f.1 f.2
turn_of m s is h (Alu op rd rs1 rs2) f other = alu_turn m s is h op rd rs1 rs2 f.0 f.1 f.2
turn_of m s is h (MulDiv op rd rs1 rs2) f other = mul_turn m s is h op rd rs1 rs2 f.0 f.1 f.2
turn_of m s is h Fence f other = fence_turn m s is h
turn_of m s is h (Terminate code) f other = absurd (other code refl)
turn_of m s is h (HintStore base imm) f other = hint_turn m s is h base imm f.0 f.1
turn_of m s is h (Reveal base rs1 imm) f other = reveal_turn m s is h base rs1 imm f.0 f.1 f.2
turn_of m s is h (ShaBlock state block) f other = sha_turn m s is h state block f.0 f.1

-- ---- the instruction at the pc

-- the text word at the pc and its instruction
pub record Stands (loaded : Loaded) (pc : ℕ) (instr : Instr) : Type 0 where
  pub word : ℕ
  pub text : word_of loaded pc ≡ Some word
  pub decodes : decode_of word ≡ Some instr

pub fields_of : (loaded : Loaded) (pc : ℕ) (instr : Instr) → Stands loaded pc instr → HasFieldsInRange instr
fields_of loaded pc instr at = fields_in_range at.word (decode_of at.word) instr (IfSome-decode_of at.word) at.decodes

step_is : (loaded : Loaded) (m : Machine) (instr : Instr) → Stands loaded m.pc instr → step_of loaded m ≡ step_by m instr
step_is loaded m instr at = ap (step_at_word m) at.text ∙ ap (step_at_instr m) at.decodes

-- no trap
Moves : Next → Type 0
Moves next = (t : Trap) → traps t ≡ next → ⊥

instr_stands : (loaded : Loaded) (m : Machine) (next : Next) (word : ℕ) (o : Option Instr) → Moves next → word_of loaded m.pc ≡ Some word → decode_of word ≡ o → step_at_instr m o ≡ next
    → (instr : Instr) × Stands loaded m.pc instr × (step_by m instr ≡ next)
unfolding Moves
instr_stands loaded m next word None moves text e h = absurd (moves _ h)
instr_stands loaded m next word (Some instr) moves text e h = (instr, record { word = word; text = text; decodes = e }, h)

word_stands : (loaded : Loaded) (m : Machine) (next : Next) (o : Option ℕ) → Moves next → word_of loaded m.pc ≡ o → step_at_word m o ≡ next
    → (instr : Instr) × Stands loaded m.pc instr × (step_by m instr ≡ next)
unfolding Moves
word_stands loaded m next None moves e h = absurd (moves _ h)
word_stands loaded m next (Some word) moves e h = instr_stands loaded m next word (decode_of word) moves e refl h

-- a step that is no trap is that of an instruction
stands : (loaded : Loaded) (m : Machine) (next : Next) → Moves next → step_of loaded m ≡ next → (instr : Instr) × Stands loaded m.pc instr × (step_by m instr ≡ next)
stands loaded m next moves h = word_stands loaded m next (word_of loaded m.pc) moves refl h

goes_moves : (m : Machine) → Moves (goes m)
unfolding Moves
goes_moves m t e = cc

ends_moves : (code : ℕ) → Moves (ends code)
unfolding Moves
ends_moves code t e = cc

pub went_text : (loaded : Loaded) (m next : Machine) → step_of loaded m ≡ goes next → HasText loaded m.pc
went_text loaded m next h = let at = stands loaded m (goes next) (goes_moves next) h in (at.1.word, at.1.text)

pub ended_text : (loaded : Loaded) (m : Machine) (code : ℕ) → step_of loaded m ≡ ends code → HasText loaded m.pc
ended_text loaded m code h = let at = stands loaded m (ends code) (ends_moves code) h in (at.1.word, at.1.text)

-- ---- rows of the program

text_low : (bytes : List ℕ) (loaded : Loaded) (pc word : ℕ) → HasImage bytes loaded → word_of loaded pc ≡ Some word → (pc % 4 ≡ 0) × (pc < 2 ^ 29)
text_low bytes loaded pc word image e =
    let at = word_aligned loaded pc word e in
    (at.0, word_low bytes loaded pc word image at.1)

row_stands : (bytes : List ℕ) (loaded : Loaded) (pc : ℕ) (instr : Instr) → HasImage bytes loaded → Stands loaded pc instr → Contains (program_of loaded) (row_of pc instr) × ((row_of pc instr).pc ≡ pc)
row_stands bytes loaded pc instr image at =
    let row : row_at (record { pc = pc; word = at.word }) ≡ Some (row_of pc instr) = rw at.decodes refl in
    let low : pc < 2 ^ 29 = (text_low bytes loaded pc at.word image at.text).1 in
    (text_has_rows loaded pc at.word (row_of pc instr) (omega arith) at.text row, row_at-pc (record { pc = pc; word = at.word }) (row_of pc instr) row)

-- a row of the program is that of an instruction of the text
row_instr : (loaded : Loaded) (row : VmInstr) → Contains (program_of loaded) row → (instr : Instr) × Stands loaded row.pc instr × (row_of row.pc instr ≡ row)
row_instr loaded row h =
    let text = rows_of_text loaded row h in
    let decoded = row_at-decoded (record { pc = row.pc; word = text.0 }) row text.2 in
    (decoded.0, record { word = text.0; text = text.1; decodes = decoded.1 }, decoded.2)

-- the same, where it stands at the pc
row_here : (loaded : Loaded) (row : VmInstr) (pc : ℕ) → Contains (program_of loaded) row → row.pc ≡ pc → (instr : Instr) × Stands loaded pc instr × (row_of pc instr ≡ row)
row_here loaded row pc h at =
    let r = row_instr loaded row h in
    (r.0, subst (λ (n : ℕ). Stands loaded n r.0) at r.1, subst (λ (n : ℕ). row_of n r.0 ≡ row) at r.2)

-- ---- forth

pub goes_forth : StepsGoForth
goes_forth bytes loaded image m next s is h step text =
    let at = stands loaded m (goes next) (goes_moves next) step in
    let parts = went_parts m is at.0 next at.2 in
    let no_end = λ (code : ℕ) (e : at.0 ≡ Terminate code). absurd (let no : performed m (Terminate code) ≡ goes next = ap (performed m) (sym e) ∙ parts.1 in cc) in
    let turn = turn_of m s is h at.0 (fields_of loaded m.pc at.0 at.1) no_end in
    let both : goes next ≡ goes turn.next = sym parts.1 ∙ turn.performs in
    let same : next ≡ turn.next = cc in
    let low : turn.next.pc < 2 ^ 29 = subst (λ (n : Machine). n.pc < 2 ^ 29) same (text_low bytes loaded next.pc text.0 image text.1).1 in
    let done = turn.forth parts.0 low in
    let row = row_stands bytes loaded m.pc at.0 image at.1 in
    (done.0, row_steps (program_of loaded) (row_of m.pc at.0) s done.0 row.0 (row.1 ∙ sym h.pc) done.1, subst (λ (n : Machine). Same n done.0) (sym same) done.2)

-- ---- back

end_refused : (pc code : ℕ) (olds : List (List ℕ)) → is_refused (terminate_row pc code) olds ≡ true
unfolding is_refused
end_refused pc code olds = refl

pub goes_back : StepsGoBack
goes_back bytes loaded image m s t is h step row =
    let here = row_here loaded step.instr m.pc step.stands (step.here ∙ h.pc) in
    let by : By (row_of m.pc here.0) s t = subst (λ (i : VmInstr). By i s t) (sym here.2) (step_by_row (program_of loaded) s t step) in
    let no_end = λ (code : ℕ) (e : here.0 ≡ Terminate code). absurd (
    let fits : is_refused (row_of m.pc (Terminate code)) by.olds ≡ false = ap (λ (j : Instr). is_refused (row_of m.pc j) by.olds) (sym e) ∙ by.can.fits in
    let no : true ≡ false = sym (end_refused m.pc code by.olds) ∙ fits in cc) in
    let turn = turn_of m s is h here.0 (fields_of loaded m.pc here.0 here.1) no_end in
    let there = row_instr loaded row.0 row.1 in
    let place = text_low bytes loaded row.0.pc there.1.word image there.1.text in
    let back = turn.back t by (subst (λ (n : ℕ). n % 4 ≡ 0) row.2 place.0) (subst (λ (n : ℕ). n < 2 ^ 29) row.2 place.1) in
    let went : step_by m here.0 ≡ goes turn.next = ap (λ (o : Option Cause). unless m o (performed m here.0)) back.0 ∙ turn.performs in
    (turn.next, step_is loaded m here.0 here.1 ∙ went, back.1)

-- ---- the end

end_by : (m : Machine) (o : Option Cause) (p : Next) (code : ℕ) → unless m o p ≡ ends code → p ≡ ends code
end_by m (Some cause) p code e = absurd (cc)
end_by m None p code e = e

ended_instr : (m : Machine) (instr : Instr) (code : ℕ) → performed m instr ≡ ends code → instr ≡ Terminate code
ended_instr m (Terminate c) code e = let same : c ≡ code = cc in ap Terminate same
ended_instr m (Branch kind rs1 rs2 offset) code e = absurd (cc)
ended_instr m _ code e = absurd (cc)

-- only the end has opcode 41

alu_other : (op : AluOp) → alu_opcode op ≡ 41 → ⊥
alu_other Add e = omega arith
alu_other _ e = omega arith

mul_other : (op : MulDivOp) → mul_div_opcode op ≡ 41 → ⊥
mul_other Mul e = omega arith
mul_other _ e = omega arith

load_other : (kind : LoadKind) → load_opcode kind ≡ 41 → ⊥
load_other Lb e = omega arith
load_other _ e = omega arith

store_other : (kind : StoreKind) → store_opcode kind ≡ 41 → ⊥
store_other Sb e = omega arith
store_other _ e = omega arith

branch_other : (kind : BranchKind) → branch_opcode kind ≡ 41 → ⊥
branch_other Beq e = omega arith
branch_other _ e = omega arith

or_nop_other : (row : VmInstr) (b : Bool) → (row.op ≡ 41 → ⊥) → (cond b (nop_row row.pc) row).op ≡ 41 → ⊥
or_nop_other row true other e = omega arith
or_nop_other row false other e = other e

end_row : (pc : ℕ) (instr : Instr) → (row_of pc instr).op ≡ 41 → (code : ℕ) × (instr ≡ Terminate code)
end_row pc (Terminate code) e = (code, refl)
end_row pc (Lui rd imm) e = absurd (or_nop_other _ (rd == 0) (λ f. omega arith) e)
end_row pc (Auipc rd imm) e = absurd (or_nop_other _ (rd == 0) (λ f. omega arith) e)
end_row pc (AluImm op rd rs1 imm) e = absurd (or_nop_other _ (rd == 0) (alu_other op) e)
end_row pc (Alu op rd rs1 rs2) e = absurd (or_nop_other _ (rd == 0) (alu_other op) e)
end_row pc (MulDiv op rd rs1 rs2) e = absurd (or_nop_other _ (rd == 0) (mul_other op) e)
end_row pc (Load kind rd rs1 imm) e = absurd (load_other kind e)
end_row pc (Store kind rs1 rs2 imm) e = absurd (store_other kind e)
end_row pc (Branch kind rs1 rs2 offset) e = absurd (branch_other kind e)
end_row pc _ e = absurd (omega arith)

pub ends_by_row : StepsEndByRows
ends_by_row bytes loaded image m code = (
  λ step.
      let at = stands loaded m (ends code) (ends_moves code) step in
      let instr : at.0 ≡ Terminate code = ended_instr m at.0 code (end_by m (obstacle m at.0) (performed m at.0) code at.2) in
      let row = row_stands bytes loaded m.pc (Terminate code) image (subst (Stands loaded m.pc) instr at.1) in
      record { row = terminate_row m.pc code; stands = row.0; here = row.1; is_end = refl; states = refl },
  λ end.
      let at = row_here loaded end.row m.pc end.stands end.here in
      let is_end = end_row m.pc at.0 (ap (λ (i : VmInstr). i.op) at.2 ∙ end.is_end) in
      let same : is_end.0 ≡ code = ap (λ (j : Instr). slice_index (row_of m.pc j).imm 0) (sym is_end.1) ∙ ap (λ (i : VmInstr). slice_index i.imm 0) at.2 ∙ end.states in
      step_is loaded m at.0 at.1 ∙ ap (step_by m) is_end.1 ∙ ap ends same,
)

pub state_is_kept : StateIsKept
state_is_kept loaded m next is step =
    let at = stands loaded m (goes next) (goes_moves next) step in
    step_kept m is at.0 next (fields_of loaded m.pc at.0 at.1) at.2
