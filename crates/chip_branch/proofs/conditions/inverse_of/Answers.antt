use Rattle.std.proofs.Common.{rules, ◌<◌}
use Rattle.vm_field.specs.Field.{modulus}
use Rattle.vm_field.proofs.Inverse.{inverse_unique}
use Rattle.chip_branch.specs.Conditions.{inverse_of}
use Rattle.chip_branch.specs.lemmas.Conditions.{inverse_is}
use Rattle.chip_branch.proofs.conditions.inverse_of.Goals as goal

pub returns-in-Some : goal.returns-in-Some
returns-in-Some c =
    let x = c.args.x in
    let low : x < modulus = search rules in
    let found : c.in-Some.inverse < modulus = search rules in
    let is = inverse_is x low c.requires in
    inverse_unique x c.in-Some.inverse (inverse_of x) found is.0 c.in-Some.ensures.inverse is.1
