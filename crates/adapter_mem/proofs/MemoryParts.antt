-- The constraints of the address, before those of the table.
use Rattle.std.proofs.Common.{◌≡◌, ℕ, ◌+◌, List, ◌++◌, length, refl, arith}
use Rattle.air_core.specs.First.{first_from, or_else}
use Rattle.air_core.specs.Ring.{field}
use Rattle.air_core.proofs.FirstLemmas.{first_from-part}
use Rattle.adapter_mem.specs.declared.memory.MemoryColumns.{MemoryColumns}
use Rattle.adapter_mem.specs.Pointer.{pointer_constraints}
use Rattle.adapter_mem.specs.Memory.{address_constraints}

pub length-address : (m : MemoryColumns ℕ) → length (address_constraints field m) ≡ 2
unfolding pointer_constraints
length-address m = refl

pub first_address : (from : ℕ) (m : MemoryColumns ℕ) (own : List ℕ) → first_from from (address_constraints field m ++ own) ≡ or_else (first_from from (address_constraints field m)) (first_from (from + 2) own)
first_address from m own = first_from-part from (from + 2) (address_constraints field m) own (omega (arith, length-address m))
