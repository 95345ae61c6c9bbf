use Rattle.std.proofs.Common.{ℕ, ◌+◌, ◌*◌, arith, slice_index}
use Rattle.std.proofs.lemmas.List.FromFn.{fill_by_all}
use Rattle.vm_field.specs.Limbs.{limbs_by}
use Rattle.air_core.specs.Ring.{field}
use Rattle.gadget_bits.specs.declared.halves.Halves.{Halves}
use Rattle.chip_sha_main.specs.Main.{word_halves}
use Rattle.chip_sha_main.proofs.words.state_halves.Goals as goal

pub returns : goal.returns
returns c =
    let none : Halves ℕ = record { lo = 0; hi = 0 } in
    fill_by_all (λ (i : ℕ). word_halves field (limbs_by (slice_index c.args.rest.now) (74 + 4 * i))) c.loop-i.all 8 none c.loop-i.invariant.long
    (λ k lt. c.loop-i.invariant.are k none (omega arith))
