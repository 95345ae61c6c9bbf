-- The sheet of the divisions over expressions.
use Rattle.std.specs.Prelude.{false}
use Rattle.air_core.specs.Formal.{formal}
use Rattle.gadget_time.specs.Form.{IsFormal}
use Rattle.adapter_regs.specs.Core.{regs_form, regs_parts}
use Rattle.chip_divrem.specs.DivRem.{divrem_core, divrem_parts}

-- its constraints and interactions as expressions over 65 columns have the values of the sheet, on every row
abbrev pub DivRemIsFormal : Type 0
DivRemIsFormal = IsFormal (regs_form divrem_core) (regs_parts formal false 35 (divrem_parts formal))
