-- The shifts' sheet over expressions.
use Rattle.std.specs.Prelude.{true}
use Rattle.air_core.specs.Formal.{formal}
use Rattle.gadget_time.specs.Form.{IsFormal}
use Rattle.adapter_regs.specs.Core.{regs_form, regs_parts}
use Rattle.chip_shift.specs.Shift.{shift_core, shift_parts}

-- its constraints and interactions as expressions over 55 columns have the values of the sheet, on every row
abbrev pub ShiftIsFormal : Type 0
ShiftIsFormal = IsFormal (regs_form shift_core) (regs_parts formal true 21 (shift_parts formal))
