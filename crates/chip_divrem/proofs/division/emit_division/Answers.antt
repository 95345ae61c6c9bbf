use Rattle.std.proofs.Common.{ℕ, ◌≤◌, List, ◌++◌, length, arith}
use Rattle.vm_field.specs.declared.limbs.Limbs.{Limbs}
use Rattle.vm_field.specs.Limbs.{list_of}
use Rattle.air_core.specs.declared.event.Event.{Event}
use Rattle.air_core.specs.Ring.{field}
use Rattle.air_core.proofs.Counted.{on_err_anyway, on_err_map}
use Rattle.air_core.proofs.Handing.{all_all, all_some, some_none, room_left, on_ok_map}
use Rattle.gadget_limbs.specs.Ranges.{range_lines}
use Rattle.gadget_limbs.proofs.RangesSplit.{length-ranges}
use Rattle.gadget_products.specs.Carry.{carry_lines}
use Rattle.gadget_products.specs.Divide.{division_carries}
use Rattle.gadget_divide.specs.Divided.{divided_of, divided_lookups}
use Rattle.chip_divrem.specs.DivRem.{divrem_lookups}
use Rattle.chip_divrem.proofs.Parts.{length-divided, length-carries, length-limbs}
use Rattle.chip_divrem.proofs.division.emit_division.Goals as goal

-- what stands beside the product, its carries, and the bytes of its parts
abbrev beside : ℕ → ℕ → List ℕ → Limbs ℕ → Limbs ℕ → List Event
beside valid gate own left right = divided_lookups field valid gate (divided_of field own) left right

abbrev carries : ℕ → List ℕ → List Event
carries valid own = let d = divided_of field own in carry_lines field valid (division_carries field d.dividend d.divisor d.quotient d.remainder)

abbrev bytes : ℕ → List ℕ → List Event
bytes valid own = let d = divided_of field own in range_lines field valid 8 (list_of d.quotient ++ list_of d.remainder)

pub returns-in_err-emit_divided-clause-err : goal.returns-in_err-emit_divided-clause-err
unfolding divrem_lookups
returns-in_err-emit_divided-clause-err g c =
    let a = beside c.args.valid c.args.gate c.args.own.now c.args.left.now c.args.right.now in
    on_err_anyway _ (some_none a (carries c.args.valid c.args.own.now ++ bytes c.args.valid c.args.own.now) c.in_err-emit_divided.ensures.err)

pub returns-in_err-emit_carries-clause-err : goal.returns-in_err-emit_carries-clause-err
unfolding divrem_lookups
returns-in_err-emit_carries-clause-err g c =
    let a = beside c.args.valid c.args.gate c.args.own.now c.args.left.now c.args.right.now in
    let k = carries c.args.valid c.args.own.now in
    let e = bytes c.args.valid c.args.own.now in
    on_err_anyway _ (all_some a (k ++ e) c.in_ok-emit_divided.ensures.ok (some_none k e (rw c.division.ensures.carries at c.in_err-emit_carries.ensures.err)))

pub returns-clause-err : goal.returns-clause-err
unfolding divrem_lookups
returns-clause-err g c =
    let a = beside c.args.valid c.args.gate c.args.own.now c.args.left.now c.args.right.now in
    let k = carries c.args.valid c.args.own.now in
    let e = bytes c.args.valid c.args.own.now in
    on_err_map c.emit_ranges.result (λ h. all_some a (k ++ e) c.in_ok-emit_divided.ensures.ok (all_some k e (rw c.division.ensures.carries at c.in_ok-emit_carries.ensures.ok) (rw (c.of_u16.ensures, c.both.ensures, c.read-c.ensures.quotient, c.read-c.ensures.remainder) at h))) c.emit_ranges.ensures.err

pub returns-clause-ok : goal.returns-clause-ok
unfolding divrem_lookups
returns-clause-ok g c =
    let a = beside c.args.valid c.args.gate c.args.own.now c.args.left.now c.args.right.now in
    let k = carries c.args.valid c.args.own.now in
    let e = bytes c.args.valid c.args.own.now in
    on_ok_map c.emit_ranges.result (λ h. all_all a (k ++ e) c.in_ok-emit_divided.ensures.ok (all_all k e (rw c.division.ensures.carries at c.in_ok-emit_carries.ensures.ok) (rw (c.of_u16.ensures, c.both.ensures, c.read-c.ensures.quotient, c.read-c.ensures.remainder) at h))) c.emit_ranges.ensures.ok

pub emit_carries-requires : goal.emit_carries-requires
emit_carries-requires g c =
    let a = beside c.args.valid c.args.gate c.args.own.now c.args.left.now c.args.right.now in
    let d = divided_of field c.args.own.now in
    let few : length a ≤ 21 = omega (arith, length-divided c.args.valid c.args.gate d c.args.left.now c.args.right.now) in
    let room : 14 ≤ g.S.EventSink.room c.emit_divided.new.sink = room_left a c.in_ok-emit_divided.ensures.ok few c.requires.room in
    record { room = rw c.division.ensures.carries (omega (arith, room, length-carries d.dividend d.divisor d.quotient d.remainder)) }

pub emit_ranges-requires : goal.emit_ranges-requires
emit_ranges-requires g c =
    let a = beside c.args.valid c.args.gate c.args.own.now c.args.left.now c.args.right.now in
    let k = carries c.args.valid c.args.own.now in
    let d = divided_of field c.args.own.now in
    let few : length a ≤ 21 = omega (arith, length-divided c.args.valid c.args.gate d c.args.left.now c.args.right.now) in
    let six : length k ≤ 6 = omega (arith, length-ranges c.args.valid 11 (division_carries field d.dividend d.divisor d.quotient d.remainder), length-carries d.dividend d.divisor d.quotient d.remainder) in
    let room : 14 ≤ g.S.EventSink.room c.emit_divided.new.sink = room_left a c.in_ok-emit_divided.ensures.ok few c.requires.room in
    let rest : 8 ≤ g.S.EventSink.room c.emit_carries.new.sink = room_left k (rw c.division.ensures.carries at c.in_ok-emit_carries.ensures.ok) six room in
    record { room = rw c.both.ensures (omega (arith, rest, length-limbs c.read-c.result.quotient c.read-c.result.remainder)) }
