use Rattle.std.proofs.Common.{refl}
use Rattle.air_core.specs.First.{bit}
use Rattle.air_core.specs.Flags.{flag_constraints}
use Rattle.air_core.specs.Path.{path_lines}
use Rattle.vm_field.specs.Limbs.{list_of}
use Rattle.gadget_bits.specs.Bits.{halves_at}
use Rattle.gadget_bits.specs.Sum.{half_carry}
use Rattle.gadget_time.specs.Told.{time_constraint, touch_constraint, touch_lines}
use Rattle.gadget_time.specs.Form.{columns_by, form_constraints}
use Rattle.chip_sha_main.specs.Main.{main_row, word_field, word_halves, block_halves, run_touches, main_touches, carry_bits, sum_bits, main_ranges, start_words, end_words, chain_lines, main_numbers}
use Rattle.chip_sha_main.proofs.laws.sha_main_is_formal.Goals as goal

pub returns : goal.returns
unfolding bit flag_constraints path_lines list_of halves_at half_carry time_constraint touch_constraint touch_lines columns_by form_constraints main_row word_field word_halves block_halves run_touches main_touches carry_bits sum_bits main_ranges start_words end_words chain_lines main_numbers
returns c = record { constraints = λ row. refl; lines = λ hi row. refl }
