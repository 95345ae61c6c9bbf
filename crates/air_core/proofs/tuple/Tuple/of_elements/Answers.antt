use Rattle.std.proofs.Common.{arith, rules}
use Rattle.std.proofs.lemmas.Grind.{common_steps}
use Rattle.air_core.specs.Padded.{zeros_behind}
use Rattle.air_core.proofs.tuple.Tuple.of_elements.Goals as goal

pub loop-i-preserved : goal.loop-i-preserved
loop-i-preserved c = record { long = search rules; same = grind (arith, common_steps); rest = zeros_behind 50 c.loop-i.numbers c.loop-i.i c.value.result c.loop-i.invariant.rest }
