-- The sheet of SLT and SLTU over expressions.
use Rattle.std.specs.Prelude.{true}
use Rattle.air_core.specs.Formal.{formal}
use Rattle.gadget_time.specs.Form.{IsFormal}
use Rattle.adapter_regs.specs.Core.{regs_form, regs_parts}
use Rattle.chip_less.specs.Less.{less_core, less_parts}

-- its constraints and interactions as expressions over 41 columns have the values of the sheet, on every row
abbrev pub LessIsFormal : Type 0
LessIsFormal = IsFormal (regs_form less_core) (regs_parts formal true 8 (less_parts formal))
