use Rattle.std.proofs.Common.{ℕ, ◌+◌, List, [], ◌∷◌, ◌++◌, sym, ap, ◌∙◌, arith}
use Rattle.air_core.specs.First.{first_from, or_else}
use Rattle.air_core.specs.Ring.{field}
use Rattle.air_core.proofs.FirstLemmas.{first_from-part}
use Rattle.gadget_products.specs.Divide.{division_top}
use Rattle.gadget_divide.specs.Divided.{divided_of, operand_constraints, result_constraints}
use Rattle.chip_divrem.specs.DivRem.{divrem_constraints}
use Rattle.chip_divrem.proofs.Parts.{length-operands}
use Rattle.chip_divrem.proofs.division.divrem_broken.Goals as goal

pub returns : goal.returns
unfolding divrem_constraints
returns c =
    let from = c.args.from in
    let d = divided_of field c.args.own.now in
    let operands = operand_constraints field c.args.gate d c.args.left c.args.right in
    let top : List ℕ = division_top field d.dividend d.divisor d.quotient d.remainder ∷ [] in
    let results = result_constraints field c.args.valid d in
    rw (c.first-2.ensures, c.first.ensures, c.operands_broken-operands.ensures, c.first_nonzero-top.ensures, c.division.ensures.top, c.results_broken-results.ensures)
    (sym (first_from-part from (from + 25) operands (top ++ results) (omega (arith, length-operands c.args.gate d c.args.left c.args.right))
    ∙ ap (or_else (first_from from operands)) (first_from-part (from + 25) (from + 26) top results (omega arith))))
