use Rattle.std.proofs.Common.{sym, ◌∙◌}
use Rattle.gadget_bits.proofs.Known.{majority_known}
use Rattle.gadget_bits.proofs.bits.majority.Goals as goal

pub returns-in-Some-Some-Some : goal.returns-in-Some-Some-Some
returns-in-Some-Some-Some c =
    c.halves_of.ensures
    ∙ majority_known c.args.x.now c.args.y.now c.args.z.now c.in-Some-Some-Some.u c.in-Some-Some-Some.v c.in-Some-Some-Some.w
    (sym c.requires.known.0 ∙ c.in-Some-Some-Some.is-0) (sym c.requires.known.1 ∙ c.in-Some-Some-Some.is-1) (sym c.requires.known.2 ∙ c.in-Some-Some-Some.is-2)
