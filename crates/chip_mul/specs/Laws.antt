-- The sheet of the products over expressions.
use Rattle.std.specs.Prelude.{false}
use Rattle.air_core.specs.Formal.{formal}
use Rattle.gadget_time.specs.Form.{IsFormal}
use Rattle.adapter_regs.specs.Core.{regs_form, regs_parts}
use Rattle.chip_mul.specs.Mul.{mul_core, mul_parts}

-- its constraints and interactions as expressions over 40 columns have the values of the sheet, on every row
abbrev pub MulIsFormal : Type 0
MulIsFormal = IsFormal (regs_form mul_core) (regs_parts formal false 10 (mul_parts formal))
