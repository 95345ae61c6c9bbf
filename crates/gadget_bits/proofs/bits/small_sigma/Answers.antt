use Rattle.std.proofs.Common.{sym, ◌∙◌, ◌/◌, ◌^◌, bit_xor}
use Rattle.gadget_bits.specs.Bits.{halves_filled}
use Rattle.gadget_bits.proofs.Known.{small_sigma_known}
use Rattle.gadget_bits.proofs.bits.small_sigma.Goals as goal

pub returns-in-Some : goal.returns-in-Some
returns-in-Some c =
    let first = c.rotate_right.ensures in
    let second = c.rotate_right-in-Some.ensures in
    c.halves_of.ensures ∙ (λ i. halves_filled (bit_xor (bit_xor (first i) (second i)) (c.in-Some.w / 2 ^ c.args.l)))
    ∙ small_sigma_known c.args.j c.args.k c.args.l c.args.bits.now c.in-Some.w c.requires.low.0 c.requires.low.1 (sym c.requires.known ∙ c.in-Some.is)
