use Rattle.std.proofs.Common.{length, arith, rules, sym, ap}
use Rattle.std.proofs.lemmas.List.Sorted.{answers_always}
use Rattle.vm_transpile.proofs.RowOrder.{rises_few, searched_found, searched_absent}
use Rattle.vm_transpile.proofs.program.Program.place.Goals as goal

pub overflow_cast-result : goal.overflow_cast-result
overflow_cast-result c =
    let few = rises_few 0 c.self.inside.rows.items (omega arith) c.self.invariant.0 in
    omega (arith, few, c.in-Ok.ensures.bound, ap length c.deref.ensures.value)

pub returns-in-Ok : goal.returns-in-Ok
returns-in-Ok c =
    let position = c.in-Ok.ensures.position (λ row. row.pc) (answers_always _ _ _ (λ f a r g called. search rules)) in
    rw (← c.self.view_is)
    (sym (searched_found c.self.inside.rows.items c.args.pc c.in-Ok.place c.self.invariant.0 (rw c.deref.ensures.value at c.in-Ok.ensures.bound)
    (rw c.deref.ensures.value at position)))

pub returns-in-Err : goal.returns-in-Err
returns-in-Err c =
    let position = c.in-Err.ensures.position (λ row. row.pc) (answers_always _ _ _ (λ f a r g called. search rules)) in
    rw (← c.self.view_is)
    (sym (searched_absent c.self.inside.rows.items c.args.pc c.in-Err.field-0 c.self.invariant.0 (rw c.deref.ensures.value at position)))
