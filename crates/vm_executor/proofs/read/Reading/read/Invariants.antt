use Rattle.std.proofs.Common.{◌≡◌, ◌≤◌, length}
use Rattle.vm_executor.specs.Memory.{KeepsAll, now_of}
use Rattle.vm_executor.specs.Read.{AreReached}
use Rattle.vm_executor.proofs.ReadLemmas.{HasRead}
use Rattle.vm_executor.proofs.read.Reading.read.Given as goal

abbrev pub invariant-loop : goal.invariant-loop
invariant-loop l = record {
  count : length l.self.words.items ≡ l.counter;
  few : l.counter ≤ 26;
  keeps : KeepsAll l.initial.memory l.memory;
  read : HasRead l.instr (now_of l.initial.memory) l.self.words.items;
  reached : AreReached l.instr l.memory l.self.words.items l.self.blocks.items;
}
