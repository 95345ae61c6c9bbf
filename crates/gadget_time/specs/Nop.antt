-- The no-operation: one flag, and nothing but the step and its program row.
use Rattle.std.specs.Prelude.{ℕ, true, [], ◌∷◌}
use Rattle.vm_isa.specs.Opcodes.{NOP}
use Rattle.air_core.specs.Formal.{formal}
use Rattle.air_core.specs.Ring.{Ring, field}
use Rattle.air_core.specs.Sheet.{Sheet}
use Rattle.gadget_time.specs.Form.{Form, Parts, form_sheet, IsFormal}

abbrev pub nop_parts : {A E : Type 0} → Ring A E → Parts A E
nop_parts o =
    let zero = o.number 0 in
    record {
      next = λ c. o.plus c.pc (o.number 4);
      numbers = λ c. zero ∷ zero ∷ zero ∷ zero ∷ zero ∷ zero ∷ zero ∷ zero ∷ zero ∷ zero ∷ [];
      touches = λ c. [];
      others = λ c. [];
      constraints = λ c. [];
    }

abbrev pub nop_form : Form
nop_form = record {
  slots = 1;
  opcodes = NOP ∷ [];
  width = 0;
  alone = true;
  parts = nop_parts field;
  place = λ done. 0;
  filled = λ done. [];
}

-- columns pc, time and the flag; constraints 0 and 1 on the flag and the sum of flags; three events
abbrev pub nop_sheet : ℕ → Sheet
nop_sheet hi = form_sheet nop_form hi

-- its expressions over the three columns have the values of the sheet
abbrev pub NopIsFormal : Type 0
NopIsFormal = IsFormal nop_form (nop_parts formal)
