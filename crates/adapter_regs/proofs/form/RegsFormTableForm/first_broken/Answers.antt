use Rattle.std.proofs.Common.{sym, ◌∙◌}
use Rattle.air_core.specs.Ring.{field}
use Rattle.gadget_time.specs.Form.{parts_of}
use Rattle.adapter_regs.specs.Core.{operands_of, registers}
use Rattle.adapter_regs.proofs.Parts.{first_with}
use Rattle.adapter_regs.proofs.form.RegsFormTableForm.first_broken.Goals as goal

pub returns-then-immediates : goal.returns-then-immediates
returns-then-immediates g c =
    let core = g.C.RegsCore.core in
    let parts = parts_of c.args.pc c.args.time c.args.flags.now c.args.rest.now in
    let e = first_with core.immediates c.args.from (registers field core.immediates core.own parts) (core.parts.constraints (operands_of field core.immediates core.own parts)) (sym c.immediates.ensures ∙ c.if-immediates.true) in
    rw (c.first.ensures, c.first_nonzero-immediates.ensures, c.immediate.ensures, c.first_broken-mine.ensures, c.own_of-own.ensures.is, c.regs_at-regs.ensures) (sym e)
