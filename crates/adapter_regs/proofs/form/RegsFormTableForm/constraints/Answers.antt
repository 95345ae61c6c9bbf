use Rattle.std.proofs.Common.{◌+◌, sym, ◌∙◌, slice_index}
use Rattle.air_core.specs.Ring.{field}
use Rattle.air_core.specs.lemmas.Cells.{length-cells}
use Rattle.gadget_time.specs.Form.{parts_of}
use Rattle.adapter_regs.specs.Core.{operands_of, registers}
use Rattle.adapter_regs.specs.Regs.{words_from}
use Rattle.adapter_regs.proofs.Parts.{count_with, count_without}
use Rattle.adapter_regs.proofs.form.RegsFormTableForm.constraints.Goals as goal

pub returns-then-immediates-clause-number : goal.returns-then-immediates-clause-number
returns-then-immediates-clause-number g c flags rest pc time flags_long rest_long =
    let core = g.C.RegsCore.core in
    let o = operands_of field core.immediates core.own (parts_of pc time flags rest) in
    count_with core.immediates (registers field core.immediates core.own (parts_of pc time flags rest)) (core.parts.constraints o) c.constraints-own.result (sym c.immediates.ensures ∙ c.if-immediates.true)
    (c.constraints-own.ensures.number o flags_long (length-cells (slice_index rest) (words_from core.immediates + 12) core.own))

pub returns-else-immediates-clause-number : goal.returns-else-immediates-clause-number
returns-else-immediates-clause-number g c flags rest pc time flags_long rest_long =
    let core = g.C.RegsCore.core in
    let o = operands_of field core.immediates core.own (parts_of pc time flags rest) in
    count_without core.immediates (registers field core.immediates core.own (parts_of pc time flags rest)) (core.parts.constraints o) c.constraints-own.result (sym c.immediates.ensures ∙ c.if-immediates.false)
    (c.constraints-own.ensures.number o flags_long (length-cells (slice_index rest) (words_from core.immediates + 12) core.own))
