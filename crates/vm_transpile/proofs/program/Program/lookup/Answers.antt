use Rattle.std.proofs.Common.{◌∙◌, sym, ◌==◌}
use Rattle.vm_transpile.proofs.RowOrder.{find-absent, find-place}
use Rattle.vm_transpile.proofs.program.Program.lookup.Goals as goal

pub returns-in_err-place : goal.returns-in_err-place
returns-in_err-place c =
    c.from_residual.ensures ∙ sym (find-absent (λ row. row.pc == c.args.pc) c.args.self.now (sym c.place.ensures ∙ c.in_err-place.was))

pub returns : goal.returns
returns c =
    c.at.ensures ∙ find-place (λ row. row.pc == c.args.pc) c.args.self.now c.in_ok-place.field-0 (sym c.place.ensures ∙ c.in_ok-place.was)
