use Rattle.std.proofs.Common.{◌≡◌, ◌+◌, ◌-◌, arith, take, drop, ap, sym, ◌∙◌}
use Rattle.air_core.specs.lemmas.Cells.{cells_take}
use Rattle.adapter_regs.specs.Regs.{words_from}
use Rattle.adapter_regs.proofs.form.own_of.Goals as goal

pub returns-clause-is : goal.returns-clause-is
returns-clause-is g c =
    let core = g.C.RegsCore.core in
    let from = words_from core.immediates + 12 in
    let rest = c.args.rest.now in
    let long : c.own_end.result - c.own_from.result ≡ core.own = omega (arith, c.own_from.ensures.is, c.own_end.ensures.is) in
    ap (λ k. take k (drop c.own_from.result rest)) long ∙ ap (λ k. take core.own (drop k rest)) c.own_from.ensures.is ∙ sym (cells_take rest from core.own (omega (arith, c.requires)))
