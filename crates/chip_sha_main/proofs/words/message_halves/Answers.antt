use Rattle.std.proofs.Common.{ℕ, ◌+◌, ◌*◌, arith, slice_index}
use Rattle.std.proofs.lemmas.List.FromFn.{fill_by_all}
use Rattle.vm_field.specs.Limbs.{limbs_by}
use Rattle.air_core.specs.Ring.{field}
use Rattle.gadget_bits.specs.declared.halves.Halves.{Halves}
use Rattle.chip_sha_main.specs.Main.{block_halves}
use Rattle.chip_sha_main.proofs.words.message_halves.Goals as goal

pub returns : goal.returns
returns c =
    let none : Halves ℕ = record { lo = 0; hi = 0 } in
    fill_by_all (λ (i : ℕ). block_halves field (limbs_by (slice_index c.args.rest.now) (10 + 4 * i))) c.loop-i.all 16 none c.loop-i.invariant.long
    (λ k lt. c.loop-i.invariant.are k none (omega arith))
