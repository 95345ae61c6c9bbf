-- The no-operation is a form with its laws.
use Rattle.std.proofs.Common.{◌≡◌, ℕ, zero, suc, ◌+◌, ◌<◌, ◌≤◌, true, [], ◌∷◌, slice_index, refl, sym, ap, ◌∙◌, arith, lit<, lit≤}
use Rattle.vm_field.specs.Field.{field_add}
use Rattle.vm_isa.specs.declared.instr.VmInstr.{VmInstr}
use Rattle.vm_isa.specs.declared.record.StepRecord.{StepRecord}
use Rattle.vm_isa.specs.Instr.{numbers_of}
use Rattle.vm_isa.specs.Means.{Fillable}
use Rattle.vm_isa.specs.Opcodes.{NOP}
use Rattle.vm_isa.proofs.InstrLaws.{numbers_of-nop}
use Rattle.vm_isa.proofs.MeansLaws.{means_of-nop, nop_goes_on}
use Rattle.air_core.specs.Laws.{Fits, Buses, Sound}
use Rattle.air_core.specs.Step.{IsMeaning}
use Rattle.air_core.specs.lemmas.OneHot.{of_owned}
use Rattle.gadget_time.specs.Form.{Columns, owns_of}
use Rattle.gadget_time.specs.FormLaws.{FormLaws, IsAt, InstructionAt, NoHints, TellsDone}
use Rattle.gadget_time.specs.Nop.{nop_form, nop_sheet}
use Rattle.gadget_time.specs.lemmas.FormBounds.{form_buses}
use Rattle.gadget_time.specs.lemmas.FormComplete.{form_table}

-- the instruction of a row is a no-operation at its pc
record IsNopAt (pc : ℕ) (instr : VmInstr) : Type 0 where
  pc_is : pc ≡ instr.pc
  op_is : instr.op ≡ NOP

is_nop : (pc op : ℕ) (instr : VmInstr) → op ≡ NOP → pc ∷ op ∷ 0 ∷ 0 ∷ 0 ∷ 0 ∷ 0 ∷ 0 ∷ 0 ∷ 0 ∷ 0 ∷ 0 ∷ [] ≡ numbers_of instr → IsNopAt pc instr
unfolding numbers_of
is_nop pc op instr e are = let at : op ≡ instr.op = cc in record { pc_is = cc; op_is = sym at ∙ e }

only : (k : ℕ) → k < 1 → slice_index (NOP ∷ []) k ≡ NOP
only zero h = refl
only (suc k) h = absurd (omega arith)

means : (k : ℕ) (c : Columns ℕ) → IsAt nop_form k c → (i : InstructionAt nop_form k c) → IsMeaning i.instr [] (field_add c.pc 4)
means k c at i =
    let is = is_nop c.pc (slice_index (NOP ∷ []) k) i.instr (only k at.below) i.are in
    let next : i.instr.pc + 4 ≡ field_add c.pc 4 = rw is.pc_is (omega (arith, i.in_range.low)) in
    ([], means_of-nop i.instr [] [] is.op_is i.in_range.low ∙ rw next refl)

fills : (hi : ℕ) (done : StepRecord) → Fillable (16 + hi) done → owns_of nop_form done.instr.op ≡ true → TellsDone nop_form hi done
fills hi done f own =
    let op : done.instr.op ≡ NOP = of_owned (λ k. k ≡ NOP) (NOP ∷ []) done.instr.op (refl, tt) own in
    let shape = nop_goes_on (16 + hi) done f op in
    record {
      below = lit< tt;
      opcode = sym op;
      rest_long = refl;
      rest_below = tt;
      holds = record { zero = tt; good = tt };
      others_small = tt;
      next = omega (arith, f.in_range.low, shape.next_is);
      numbers = ap (λ (x : ℕ). done.instr.pc ∷ x ∷ 0 ∷ 0 ∷ 0 ∷ 0 ∷ 0 ∷ 0 ∷ 0 ∷ 0 ∷ 0 ∷ 0 ∷ []) op ∙ sym (numbers_of-nop done.instr f.in_range op);
      sources = [];
      made_by = tt;
      accesses = sym shape.none;
    }

pub nop_no_hints : NoHints nop_form
nop_no_hints = ((refl, refl), tt)

pub nop_laws : FormLaws nop_form
nop_laws = record {
  bounds = record {
    some = lit≤ tt;
    few_flags = lit≤ tt;
    opcodes_below = (lit< tt, tt);
    slots_some = lit≤ tt;
    slots_few = lit≤ tt;
    slots = (refl, tt);
    narrow = lit≤ tt;
    few = λ c. lit≤ tt;
    others = λ c. tt;
    zeros = tt;
    zero_touches = tt;
    silent_touches = λ c none. tt;
    silent_others = λ c none. tt;
  };
  tells = λ k c at holds i. record { accesses = []; counts = tt; slots = tt; are = refl; rising = tt; new_bytes = tt };
  means = λ alone k c at holds i old. means k c at i;
  fills = λ hi done top f own. fills hi done f own;
}

-- the laws of the table that checks cite
pub nop_fits : (hi : ℕ) → 8 ≤ hi → hi ≤ 13 → Fits (nop_sheet hi)
nop_fits hi low high = (form_table nop_form hi nop_laws low high).fits

pub nop_buses : (hi : ℕ) → Buses (nop_sheet hi)
nop_buses hi = form_buses nop_form hi nop_laws

pub nop_sound : (hi : ℕ) → 8 ≤ hi → hi ≤ 13 → Sound (nop_sheet hi)
nop_sound hi low high = (form_table nop_form hi nop_laws low high).sound
