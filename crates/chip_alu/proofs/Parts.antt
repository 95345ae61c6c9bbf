-- The ALU's own constraints, by their two parts.
use Rattle.std.proofs.Common.{◌≡◌, ℕ, ◌+◌, length, refl, arith}
use Rattle.air_core.specs.First.{first_from, or_else}
use Rattle.air_core.proofs.FirstLemmas.{first_from-part}
use Rattle.vm_field.specs.declared.limbs.Limbs.{Limbs}
use Rattle.vm_field.specs.Limbs.{list_of, limbs_from}
use Rattle.gadget_limbs.specs.Sum.{sum_constraints}
use Rattle.air_core.specs.Ring.{field}
use Rattle.adapter_regs.specs.Core.{Operands}
use Rattle.chip_alu.specs.Alu.{alu_core, alu_sums}

pub length-sum : (g : ℕ) (x y z : Limbs ℕ) → length (sum_constraints field g 0 (list_of x) (list_of y) (list_of z)) ≡ 4
unfolding sum_constraints list_of
length-sum g x y z = refl

pub length-alu : (o : Operands ℕ) → length (alu_core.parts.constraints o) ≡ 8
unfolding sum_constraints list_of
length-alu o = refl

pub first_of_sums : (from add sub : ℕ) (a b c : Limbs ℕ) → first_from from (alu_sums field add sub a b c)
    ≡ or_else (first_from from (sum_constraints field add 0 (list_of b) (list_of c) (list_of a))) (first_from (from + 4) (sum_constraints field sub 0 (list_of a) (list_of c) (list_of b)))
first_of_sums from add sub a b c =
    first_from-part from (from + 4) (sum_constraints field add 0 (list_of b) (list_of c) (list_of a)) (sum_constraints field sub 0 (list_of a) (list_of c) (list_of b)) (omega (arith, length-sum add b c a))
