use Rattle.std.proofs.Common.{◌∷◌, ap, ◌∙◌}
use Rattle.air_core.specs.Ring.{field}
use Rattle.adapter_regs.specs.declared.regs.Regs.{Regs}
use Rattle.adapter_regs.specs.Regs.{regs_of, regs_numbers}
use Rattle.adapter_regs.proofs.form.RegsFormTableForm.numbers.Goals as goal

pub returns : goal.returns
unfolding regs_of
returns g c = c.numbers.ensures ∙ ap (λ (r : Regs _). r.pc ∷ c.args.op ∷ regs_numbers field r) c.regs_at.ensures
