use Rattle.std.proofs.Common.{refl}
use Rattle.air_core.specs.First.{bit}
use Rattle.air_core.specs.Flags.{flag_constraints}
use Rattle.gadget_bits.specs.Bits.{number_by, halves_by, xor3_of, choice_of, majority_of, big_sigma_bits, small_sigma_bits, choice_bits, majority_bits, halves_at}
use Rattle.gadget_bits.specs.Sum.{half_carry, low_carry, high_carry, sum_lines}
use Rattle.chip_sha_round.specs.Round.{round_row, before_of, after_of, a_words, e_words, w_words, stage_lines, round_lines, round_constraints}
use Rattle.chip_sha_round.proofs.laws.the_round_is_formal.Goals as goal

pub returns : goal.returns
unfolding bit flag_constraints number_by halves_by xor3_of choice_of majority_of big_sigma_bits small_sigma_bits choice_bits majority_bits halves_at half_carry low_carry high_carry sum_lines round_row before_of after_of a_words e_words w_words stage_lines round_lines round_constraints
returns c = record { constraints = λ row. refl; lines = λ row. refl }
