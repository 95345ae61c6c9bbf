use Rattle.std.proofs.Common.{◌≡◌, length, take, Some}
use Rattle.std.specs.List.{AllByRecursion}
use Rattle.vm_isa.specs.Words.{IsWord}
use Rattle.vm_isa.specs.Means.{Meaning, means_of}
use Rattle.vm_executor.specs.Memory.{times_of}
use Rattle.vm_executor.specs.Write.{ArePlanned}
use Rattle.vm_executor.proofs.write.plan.Given as goal

abbrev pub invariant-loop-number : goal.invariant-loop-number
invariant-loop-number l = record {
  count : length l.planned ≡ l.number;
  words : AllByRecursion (λ a. IsWord a.access.old) l.planned;
  made : (m : Meaning) → means_of l.instr l.reading.words.items l.given ≡ Some m → ArePlanned l.time (take l.number m.accesses) (times_of l.memory) l.planned;
}
