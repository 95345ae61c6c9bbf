use Rattle.std.proofs.Common.{slice_index}
use Rattle.air_core.specs.Ring.{field}
use Rattle.air_core.specs.lemmas.Cells.{length-cells}
use Rattle.gadget_time.specs.Form.{parts_of}
use Rattle.chip_branch.specs.Branch.{operands_of}
use Rattle.chip_branch.proofs.form.BranchFormTableForm.constraints.Goals as goal

pub returns-clause-number : goal.returns-clause-number
returns-clause-number g c flags rest pc time flags_long rest_long =
    let own = g.C.Condition.condition.own in
    c.constraints.ensures.number (operands_of field own (parts_of pc time flags rest)) flags_long (length-cells (slice_index rest) 11 own)
