use Rattle.std.proofs.Common.{ℕ, ◌+◌, ◌*◌, arith, slice_index}
use Rattle.std.proofs.lemmas.List.FromFn.{fill_by_all}
use Rattle.gadget_bits.specs.declared.halves.Halves.{Halves}
use Rattle.gadget_bits.specs.Bits.{halves_at}
use Rattle.chip_sha_main.proofs.words.halves_by.Goals as goal

pub returns : goal.returns
returns g c =
    let none : Halves ℕ = record { lo = 0; hi = 0 } in
    fill_by_all (λ (i : ℕ). halves_at (slice_index c.args.rest.now) (c.args.at + 2 * i)) c.loop-i.all g.row.N none c.loop-i.invariant.long
    (λ k lt. c.loop-i.invariant.are k none (omega arith))
