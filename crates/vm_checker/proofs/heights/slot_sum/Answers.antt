use Rattle.std.proofs.Common.{◌^◌, ◌<◌, ◌≤◌, length, slice_index, rules, arith}
use Rattle.vm_checker.proofs.Places.{all_at_place, slots_more, slots_step, add_small, product_small, height_small}
use Rattle.vm_checker.proofs.heights.slot_sum.Goals as goal

pub loop-table-preserved : goal.loop-table-preserved
loop-table-preserved g c =
    let parts = (g.E.Extension.system c.args.ext.now).parts in
    let codes = c.args.codes.now in
    let i = c.loop-table.table in
    let inv = c.loop-table.invariant in
    let low : i < length parts = omega (arith, c.loop-table-test.true, c.tables-table-end.ensures) in
    let below : i < length codes = omega (arith, low, c.requires.number) in
    let code : slice_index codes i ≤ 25 = all_at_place (λ code. code ≤ 25) codes i 0 c.requires.low below in
    let slots : c.slots.result < 2 ^ 32 = search rules in
    record {
      whole = rw (c.height-height.ensures, c.slots.ensures) (slots_step _ _ _ _ _ (slots_more parts codes i low below) inv.whole);
      small = add_small _ _ _ inv.small (product_small _ _ (omega (arith, c.height-height.ensures, height_small (slice_index codes i) code)) slots);
    }
