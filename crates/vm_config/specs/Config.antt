-- The tables that rows of all instructions stand in, in their order.
use Rattle.std.specs.Prelude.{ℕ, ◌+◌, false, List, [], ◌∷◌, flat_map}
use Rattle.air_core.specs.Join.{join, single}
use Rattle.air_core.specs.System.{System}
use Rattle.gadget_time.specs.Form.{Form, form_sheet}
use Rattle.gadget_time.specs.Nop.{nop_form}
use Rattle.adapter_regs.specs.Core.{regs_form}
use Rattle.adapter_mem.specs.Memory.{memory_form}
use Rattle.chip_alu.specs.Alu.{alu_core}
use Rattle.chip_less.specs.Less.{less_core}
use Rattle.chip_shift.specs.Shift.{shift_core}
use Rattle.chip_load.specs.Load.{load_table}
use Rattle.chip_store.specs.Store.{store_table}
use Rattle.chip_branch.specs.Branch.{branch_form}
use Rattle.chip_branch.specs.Conditions.{equal_condition, order_condition}
use Rattle.chip_jump.specs.Cores.{jal_lui_form, auipc_form, jalr_form}
use Rattle.chip_mul.specs.Mul.{mul_core}
use Rattle.chip_divrem.specs.DivRem.{divrem_core}
use Rattle.chip_io.specs.Hint.{hint_table}
use Rattle.chip_io.specs.Reveal.{reveal_table}
use Rattle.chip_sha_main.specs.Sha.{sha}

-- tables of these forms, whose rows mean something alone, with times of 16 + hi bits
abbrev pub standing : List Form → ℕ → System
standing forms hi = record { parts = flat_map (λ form. (single (form_sheet form hi)).parts) forms; private = λ bus. false; time_bits = 16 + hi }

abbrev pub arithmetic_forms : List Form
arithmetic_forms = regs_form alu_core ∷ regs_form less_core ∷ regs_form shift_core ∷ []

abbrev pub access_forms : List Form
access_forms = memory_form load_table ∷ memory_form store_table ∷ []

abbrev pub branch_forms : List Form
branch_forms = branch_form equal_condition ∷ branch_form order_condition ∷ []

abbrev pub jump_forms : List Form
jump_forms = jal_lui_form ∷ auipc_form ∷ jalr_form ∷ []

abbrev pub product_forms : List Form
product_forms = regs_form mul_core ∷ regs_form divrem_core ∷ []

abbrev pub io_forms : List Form
io_forms = memory_form hint_table ∷ memory_form reveal_table ∷ []

-- the tables of RV32I
abbrev pub rv32i : ℕ → System
rv32i hi = join (join (standing arithmetic_forms hi) (standing access_forms hi)) (join (join (standing branch_forms hi) (standing jump_forms hi)) (standing (nop_form ∷ []) hi))

-- those of RV32M, and those of hints and public bytes
abbrev pub rv32m : ℕ → System
rv32m hi = standing product_forms hi

abbrev pub io : ℕ → System
io hi = standing io_forms hi

-- all of them, and behind them the two of SHA blocks
abbrev pub full : ℕ → System
full hi = join (join (join (rv32i hi) (rv32m hi)) (io hi)) (sha hi)
