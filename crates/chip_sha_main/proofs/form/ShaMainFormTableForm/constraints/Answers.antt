use Rattle.std.proofs.Common.{refl}
use Rattle.chip_sha_main.specs.Main.{main_row, sum_bits, carry_bits}
use Rattle.chip_sha_main.proofs.form.ShaMainFormTableForm.constraints.Goals as goal

pub returns-clause-number : goal.returns-clause-number
unfolding main_row sum_bits carry_bits
returns-clause-number c flags rest pc time flags_long rest_long = refl
