use Rattle.std.proofs.Common.{◌≡◌, ◌-◌, arith, length, take, drop, ap, sym, ◌∙◌}
use Rattle.air_core.specs.lemmas.Cells.{cells_take}
use Rattle.gadget_time.specs.Form.{columns_by}
use Rattle.gadget_time.proofs.chip.flags_of.Goals as goal

pub returns-clause-is : goal.returns-clause-is
unfolding columns_by
returns-clause-is g c =
    let n = length g.T.TableForm.form.opcodes in
    let row = c.args.row.now in
    let long : c.rest_from.result - 2 ≡ n = omega (arith, c.rest_from.ensures.is) in
    ap (λ k. take k (drop 2 row)) long ∙ sym (cells_take row 2 n (omega (arith, c.requires)))
