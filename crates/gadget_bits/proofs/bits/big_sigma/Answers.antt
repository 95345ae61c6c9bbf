use Rattle.std.proofs.Common.{sym, ◌∙◌, bit_xor}
use Rattle.gadget_bits.specs.Bits.{halves_filled}
use Rattle.gadget_bits.proofs.Known.{big_sigma_known}
use Rattle.gadget_bits.proofs.bits.big_sigma.Goals as goal

pub returns-in-Some : goal.returns-in-Some
returns-in-Some c =
    let first = c.rotate_right.ensures in
    let second = c.rotate_right-in-Some.ensures in
    let third = c.rotate_right-in-Some-2.ensures in
    c.halves_of.ensures ∙ (λ i. halves_filled (bit_xor (bit_xor (first i) (second i)) (third i)))
    ∙ big_sigma_known c.args.j c.args.k c.args.l c.args.bits.now c.in-Some.w c.requires.low.0 c.requires.low.1 c.requires.low.2 (sym c.requires.known ∙ c.in-Some.is)
