use Rattle.std.proofs.Common.{◌≡◌, ◌+◌, ◌-◌, ℕ, arith, take, drop, ap, sym, ◌∙◌}
use Rattle.air_core.specs.lemmas.Cells.{cells_take}
use Rattle.chip_branch.proofs.form.own_of.Goals as goal

pub returns-clause-is : goal.returns-clause-is
returns-clause-is g c =
    let n = g.C.Condition.condition.own in
    let rest = c.args.rest.now in
    let long : 11 + c.OWN-own.result - 11 ≡ n = omega (arith, c.OWN-own.ensures, g.met.C.Condition.sizes.1) in
    ap (λ (k : ℕ). take k (drop 11 rest)) long ∙ sym (cells_take rest 11 n (omega (arith, c.requires)))
