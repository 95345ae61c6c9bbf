use Rattle.std.proofs.Common.{arith, refl, ◌∙◌}
use Rattle.std.proofs.lemmas.Grind.{get_or_default_zero}
use Rattle.gadget_time.proofs.Row.{first_by_parts}
use Rattle.gadget_time.proofs.chip.first_broken.Goals as goal

pub returns : goal.returns
returns g c =
    let f = g.T.TableForm.form in
    let row = c.args.row.now in
    let flags = c.flags_of-flags.result.now in
    let rest = c.rest_of-rest.result.now in
    let pc = c.index-row-0.result in
    let time = c.index-row-1.result in
    let e = first_by_parts f row flags rest pc time (c.index-row-0.is ∙ get_or_default_zero row 0 pc (omega (arith, c.requires))) (c.index-row-1.is ∙ get_or_default_zero row 1 time (omega (arith, c.requires))) c.flags_of-flags.ensures.is c.rest_of-rest.ensures.is _ _ c.constraints.result
    refl refl (c.constraints.ensures.number flags rest pc time c.flags_of-flags.ensures.long c.rest_of-rest.ensures.long) in
    rw (c.first-2.ensures, c.first.ensures, c.flags_broken-broken.ensures, c.first_broken-own.ensures, c.times_broken-times.ensures) e
