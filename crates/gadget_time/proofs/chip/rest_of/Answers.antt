use Rattle.std.proofs.Common.{◌≡◌, ◌+◌, ◌-◌, arith, length, take, drop, ap, sym, ◌∙◌}
use Rattle.air_core.specs.lemmas.Cells.{cells_take}
use Rattle.gadget_time.specs.Form.{columns_by}
use Rattle.gadget_time.proofs.chip.rest_of.Goals as goal

pub returns-clause-is : goal.returns-clause-is
unfolding columns_by
returns-clause-is g c =
    let f = g.T.TableForm.form in
    let row = c.args.row.now in
    let at : c.rest_from.result ≡ 2 + length f.opcodes = c.rest_from.ensures.is in
    let long : length row - c.rest_from.result ≡ f.width = omega (arith, at, c.requires) in
    ap (λ k. take k (drop c.rest_from.result row)) long ∙ ap (λ k. take f.width (drop k row)) at ∙ sym (cells_take row (2 + length f.opcodes) f.width (omega (arith, c.requires)))
