use Rattle.std.proofs.Common.{◌≡◌, take}
use Rattle.vm_executor.specs.Write.{AreMade}
use Rattle.vm_executor.proofs.write.make.Given as goal

abbrev pub invariant-loop-number : goal.invariant-loop-number
invariant-loop-number l = record {
  made : AreMade l.initial.memory l.memory (take l.number l.planned);
  stays : l.memory.reached ≡ l.initial.memory.reached;
}
