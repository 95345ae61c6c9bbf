-- A record can be a step: a no-operation at pc 4096 as the first step of a segment.
use Rattle.std.proofs.Common.{false, [], ◌∷◌, refl, lit<, lit≤}
use Rattle.vm_isa.specs.declared.instr.VmInstr.{VmInstr}
use Rattle.vm_isa.specs.declared.record.StepRecord.{StepRecord}
use Rattle.vm_isa.specs.Opcodes.{NOP}
use Rattle.vm_isa.specs.Instr.{InRange}
use Rattle.vm_isa.specs.Means.{Fillable, means_of, is_refused, bars_first, bars_second, places_by, accessed_by, next_of}

abbrev pub fence : VmInstr
fence = record { pc = 4096; op = NOP; rd = 0; rs1 = 0; rs2 = 0; write = false; use_imm = false; imm = 0 ∷ 0 ∷ 0 ∷ 0 ∷ []; target = 0 }

fence_in_range : InRange fence
fence_in_range = record {
  opcode = refl;
  aligned = refl;
  low = lit< tt;
  rd = lit< tt;
  rs1 = lit< tt;
  rs2 = lit< tt;
  imm = record { four = refl; bytes = (lit< tt, (lit< tt, (lit< tt, (lit< tt, tt)))) };
  target = lit< tt;
  alu = λ h. absurd (cc);
  load = λ h. absurd (cc);
  store = λ h. absurd (cc);
  branch = λ h. absurd (cc);
  jal = λ h. absurd (cc);
  upper = λ h. absurd (cc);
  jalr = λ h. absurd (cc);
  mul = λ h. absurd (cc);
  hint = λ h. absurd (cc);
  reveal = λ h. absurd (cc);
  nop = λ h. (refl, refl, refl, refl, refl, refl, refl);
  sha = λ h. absurd (cc);
  terminate = λ h. absurd (cc);
}

abbrev pub fence_record : StepRecord
fence_record = record { instr = fence; time = 1; accesses = []; next = 4100 }

pub fence_fillable : Fillable 24 fence_record
unfolding means_of is_refused bars_first bars_second places_by accessed_by next_of
fence_fillable = record {
  in_range = fence_in_range;
  words = tt;
  given = 0 ∷ 0 ∷ 0 ∷ 0 ∷ [];
  given_word = record { four = refl; bytes = (lit< tt, (lit< tt, (lit< tt, (lit< tt, tt)))) };
  meaning = record { accesses = []; next = 4100 };
  means = refl;
  accesses = refl;
  next = refl;
  earlier = tt;
  ends = lit≤ tt;
}
