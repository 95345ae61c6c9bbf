use Rattle.std.proofs.Common.{refl}
use Rattle.gadget_limbs.specs.Sign.{sign_constraints}
use Rattle.chip_load.proofs.load.LoadCoreMemoryCore.constraints.Goals as goal

pub returns-clause-number : goal.returns-clause-number
unfolding sign_constraints
returns-clause-number c flags m long = refl
