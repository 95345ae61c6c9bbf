use Rattle.air_core.specs.Ring.{field}
use Rattle.std.proofs.Common.{ℕ, arith, slice_index}
use Rattle.std.proofs.lemmas.List.FromFn.{fill_by_all}
use Rattle.gadget_bits.specs.Bits.{choice_of, choice_bits}
use Rattle.gadget_bits.proofs.bits.choice_columns.Goals as goal

pub returns : goal.returns
unfolding choice_bits
returns c =
    fill_by_all (λ (i : ℕ). choice_of field (slice_index c.args.x.now i) (slice_index c.args.y.now i) (slice_index c.args.z.now i)) c.loop-i.all 32 0 c.loop-i.invariant.long
    (λ k lt. c.loop-i.invariant.are k (omega arith))
