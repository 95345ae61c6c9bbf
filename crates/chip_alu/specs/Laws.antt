-- The ALU's sheet over expressions.
use Rattle.std.specs.Prelude.{true}
use Rattle.air_core.specs.Formal.{formal}
use Rattle.gadget_time.specs.Form.{IsFormal}
use Rattle.adapter_regs.specs.Core.{regs_form, regs_parts}
use Rattle.chip_alu.specs.Alu.{alu_core, alu_parts}

-- its constraints and interactions as expressions over 40 columns have the values of the sheet, on every row
abbrev pub AluIsFormal : Type 0
AluIsFormal = IsFormal (regs_form alu_core) (regs_parts formal true 4 (alu_parts formal))
