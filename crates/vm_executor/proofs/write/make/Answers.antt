use Rattle.std.proofs.Common.{◌≡◌, ℕ, ◌+◌, ◌≤◌, List, take, Some, slice_index_or, sym, ap, ◌∙◌, subst, arith}
use Rattle.std.specs.Prelude.{slice_get}
use Rattle.vm_isa.specs.declared.access.TimedAccess.{TimedAccess}
use Rattle.vm_executor.specs.declared.block.Reached.{Reached}
use Rattle.vm_executor.specs.Memory.{Kept, entry_at, label_of}
use Rattle.vm_executor.specs.Write.{AreMade}
use Rattle.vm_executor.proofs.WriteLemmas.{get_is, get_some, made_more, take_one}
use Rattle.vm_executor.proofs.write.make.Goals as goal
use Rattle.vm_executor.proofs.write.make.Goals.{in-Some, in_default}

pub put-requires-clause-reached : goal.put-requires-clause-reached
put-requires-clause-reached c =
    let none : Reached = record { slot = 0; space = 0; pointer = 0; page = 0 } in
    let is = (c.requires.each c.loop-number.number none c.in-Some.made c.loop-number-test.true).0 in
    let block = slice_index_or c.args.blocks.now c.loop-number.number none in
    record { on = is.on; at = ap (λ (entries : List (ℕ × ℕ)). entry_at entries (label_of block.space block.pointer)) c.loop-number.invariant.stays ∙ is.at }

pub put-requires-clause-begun : goal.put-requires-clause-begun
put-requires-clause-begun c =
    let none : Reached = record { slot = 0; space = 0; pointer = 0; page = 0 } in
    let at = (c.requires.each c.loop-number.number none c.in-Some.made c.loop-number-test.true).1 in
    subst (λ (a : TimedAccess). 1 ≤ a.time) (get_is c.args.planned.now c.loop-number.number c.in-Some.made c.in-Some.made (sym c.in-Some.ensures)) at.begun

pub loop-number-preserved : goal.loop-number-preserved
loop-number-preserved c =
    let none : Reached = record { slot = 0; space = 0; pointer = 0; page = 0 } in
    let number = c.loop-number.number in
    elim c.match-at.branch [
      | in-Some w ↦
          let made = w.in-Some.made in
          let stands : slice_get c.args.planned.now number ≡ Some made = sym w.in-Some.ensures in
          let at = (c.requires.each number none made c.loop-number-test.true).1 in
          let same = get_is c.args.planned.now number made made stands in
          record {
            made = subst (λ (k : Kept). AreMade c.args.memory.now k (take (number + 1) c.args.planned.now)) (sym w.memory-is)
                (subst (AreMade c.args.memory.now w.put.new.self) (sym (take_one c.args.planned.now number made stands))
                (made_more c.args.memory.now c.loop-number.memory w.put.new.self (take number c.args.planned.now) made _ _ c.loop-number.invariant.made
                (ap (λ (a : TimedAccess). a.access.space) (sym same) ∙ at.space_is) (ap (λ (a : TimedAccess). a.access.pointer) (sym same) ∙ at.pointer_is) w.put.ensures.put));
            stays = ap (λ (k : Kept). k.reached) w.memory-is ∙ w.put.ensures.stays ∙ c.loop-number.invariant.stays;
          }
      | in_default w ↦ (let there = get_some c.args.planned.now number (omega (arith, c.loop-number-test.true, c.requires.count)) in absurd (w.in_default.not-Some there.0 (c.at.ensures ∙ there.1)))
    ]
