use Rattle.vm_executor.proofs.TouchedLemmas.{Gathered}
use Rattle.vm_executor.proofs.memory.Memory.touched.Given as goal

abbrev pub invariant-loop-place : goal.invariant-loop-place
invariant-loop-place l = Gathered l.self l.place-iterator l.touched.items
