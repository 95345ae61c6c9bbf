use Rattle.std.proofs.Common.{◌≡◌, ℕ, ◌+◌, ◌≤◌, List, [], ◌∷◌, ◌++◌, length, arith, lit≤}
use Rattle.vm_field.specs.declared.limbs.Limbs.{Limbs}
use Rattle.vm_field.specs.Limbs.{list_of}
use Rattle.air_core.specs.declared.event.Event.{Event}
use Rattle.air_core.specs.declared.bus.TheConstants.{XOR}
use Rattle.air_core.specs.declared.event.Side.TheVariants.{Send}
use Rattle.air_core.specs.Ring.{field}
use Rattle.air_core.specs.Sheet.{event}
use Rattle.air_core.proofs.Counted.{on_err_anyway, on_err_map}
use Rattle.air_core.proofs.Handing.{all_all, all_some, some_none, room_left, on_ok_map}
use Rattle.gadget_limbs.specs.Ranges.{range_lines}
use Rattle.gadget_limbs.specs.Sign.{sign_looked_up}
use Rattle.gadget_limbs.proofs.RangesSplit.{length-ranges}
use Rattle.gadget_products.specs.Carry.{carry_lines}
use Rattle.gadget_products.specs.Multiply.{product_carries}
use Rattle.chip_mul.specs.Mul.{products_of, mul_lookups}
use Rattle.chip_mul.proofs.Parts.{length-carries, length-limbs}
use Rattle.chip_mul.proofs.emit_products.Goals as goal

abbrev first_line : ℕ → ℕ → List ℕ → List Event
first_line gate top own = event XOR Send gate (sign_looked_up field (products_of field own).left_sign top) ∷ []

abbrev second_line : ℕ → ℕ → List ℕ → List Event
second_line gate top own = event XOR Send gate (sign_looked_up field (products_of field own).right_sign top) ∷ []

abbrev carries_of : List ℕ → Limbs ℕ → Limbs ℕ → List ℕ
carries_of own left right = let p = products_of field own in product_carries field p.left_sign p.right_sign left right p.low p.high

abbrev limbs_of : List ℕ → List ℕ
limbs_of own = let p = products_of field own in list_of p.low ++ list_of p.high

pub returns-in_err-emit_sent-clause-err : goal.returns-in_err-emit_sent-clause-err
unfolding mul_lookups
returns-in_err-emit_sent-clause-err g c =
    let a = first_line c.args.first c.args.left.x3 c.args.own.now in
    let b = second_line c.args.second c.args.right.x3 c.args.own.now in
    let d = carry_lines field c.args.valid (carries_of c.args.own.now c.args.left c.args.right) in
    let e = range_lines field c.args.valid 8 (limbs_of c.args.own.now) in
    on_err_anyway _ (some_none a (b ++ (d ++ e)) (rw (c.sign_looked_up.ensures, c.read-c.ensures.left) at c.in_err-emit_sent.ensures.err))

pub returns-in_err-emit_sent-2-clause-err : goal.returns-in_err-emit_sent-2-clause-err
unfolding mul_lookups
returns-in_err-emit_sent-2-clause-err g c =
    let a = first_line c.args.first c.args.left.x3 c.args.own.now in
    let b = second_line c.args.second c.args.right.x3 c.args.own.now in
    let d = carry_lines field c.args.valid (carries_of c.args.own.now c.args.left c.args.right) in
    let e = range_lines field c.args.valid 8 (limbs_of c.args.own.now) in
    on_err_anyway _ (all_some a (b ++ (d ++ e)) (rw (c.sign_looked_up.ensures, c.read-c.ensures.left) at c.in_ok-emit_sent.ensures.ok) (some_none b (d ++ e) (rw (c.sign_looked_up-2.ensures, c.read-c.ensures.right) at c.in_err-emit_sent-2.ensures.err)))

pub returns-in_err-emit_carries-clause-err : goal.returns-in_err-emit_carries-clause-err
unfolding mul_lookups
returns-in_err-emit_carries-clause-err g c =
    let a = first_line c.args.first c.args.left.x3 c.args.own.now in
    let b = second_line c.args.second c.args.right.x3 c.args.own.now in
    let d = carry_lines field c.args.valid (carries_of c.args.own.now c.args.left c.args.right) in
    let e = range_lines field c.args.valid 8 (limbs_of c.args.own.now) in
    on_err_anyway _ (all_some a (b ++ (d ++ e)) (rw (c.sign_looked_up.ensures, c.read-c.ensures.left) at c.in_ok-emit_sent.ensures.ok) (all_some b (d ++ e) (rw (c.sign_looked_up-2.ensures, c.read-c.ensures.right) at c.in_ok-emit_sent-2.ensures.ok) (some_none d e (rw (c.product_carries-carries.ensures, c.read-c.ensures.left, c.read-c.ensures.right, c.read-c.ensures.low, c.read-c.ensures.high) at c.in_err-emit_carries.ensures.err))))

pub returns-clause-err : goal.returns-clause-err
unfolding mul_lookups
returns-clause-err g c =
    let a = first_line c.args.first c.args.left.x3 c.args.own.now in
    let b = second_line c.args.second c.args.right.x3 c.args.own.now in
    let d = carry_lines field c.args.valid (carries_of c.args.own.now c.args.left c.args.right) in
    let e = range_lines field c.args.valid 8 (limbs_of c.args.own.now) in
    on_err_map c.emit_ranges.result (λ h. all_some a (b ++ (d ++ e)) (rw (c.sign_looked_up.ensures, c.read-c.ensures.left) at c.in_ok-emit_sent.ensures.ok) (all_some b (d ++ e) (rw (c.sign_looked_up-2.ensures, c.read-c.ensures.right) at c.in_ok-emit_sent-2.ensures.ok) (all_some d e (rw (c.product_carries-carries.ensures, c.read-c.ensures.left, c.read-c.ensures.right, c.read-c.ensures.low, c.read-c.ensures.high) at c.in_ok-emit_carries.ensures.ok) (rw (c.of_u16.ensures, c.both.ensures, c.read-c.ensures.low, c.read-c.ensures.high) at h)))) c.emit_ranges.ensures.err

pub returns-clause-ok : goal.returns-clause-ok
unfolding mul_lookups
returns-clause-ok g c =
    let a = first_line c.args.first c.args.left.x3 c.args.own.now in
    let b = second_line c.args.second c.args.right.x3 c.args.own.now in
    let d = carry_lines field c.args.valid (carries_of c.args.own.now c.args.left c.args.right) in
    let e = range_lines field c.args.valid 8 (limbs_of c.args.own.now) in
    on_ok_map c.emit_ranges.result (λ h. all_all a (b ++ (d ++ e)) (rw (c.sign_looked_up.ensures, c.read-c.ensures.left) at c.in_ok-emit_sent.ensures.ok) (all_all b (d ++ e) (rw (c.sign_looked_up-2.ensures, c.read-c.ensures.right) at c.in_ok-emit_sent-2.ensures.ok) (all_all d e (rw (c.product_carries-carries.ensures, c.read-c.ensures.left, c.read-c.ensures.right, c.read-c.ensures.low, c.read-c.ensures.high) at c.in_ok-emit_carries.ensures.ok) (rw (c.of_u16.ensures, c.both.ensures, c.read-c.ensures.low, c.read-c.ensures.high) at h)))) c.emit_ranges.ensures.ok

pub emit_ranges-requires : goal.emit_ranges-requires
emit_ranges-requires g c =
    let a = first_line c.args.first c.args.left.x3 c.args.own.now in
    let b = second_line c.args.second c.args.right.x3 c.args.own.now in
    let d = carry_lines field c.args.valid (carries_of c.args.own.now c.args.left c.args.right) in
    let e = range_lines field c.args.valid 8 (limbs_of c.args.own.now) in
    let p = products_of field c.args.own.now in
    let one : length a ≤ 1 = lit≤ tt in
    let more : length b ≤ 1 = lit≤ tt in
    let eight : length d ≤ 8 = omega (arith, length-ranges c.args.valid 11 (carries_of c.args.own.now c.args.left c.args.right), length-carries p.left_sign p.right_sign c.args.left c.args.right p.low p.high) in
    let seventeen : 17 ≤ g.S.EventSink.room c.emit_sent.new.sink = room_left a (rw (c.sign_looked_up.ensures, c.read-c.ensures.left) at c.in_ok-emit_sent.ensures.ok) one c.requires.room in
    let sixteen : 16 ≤ g.S.EventSink.room c.emit_sent-2.new.sink = room_left b (rw (c.sign_looked_up-2.ensures, c.read-c.ensures.right) at c.in_ok-emit_sent-2.ensures.ok) more seventeen in
    let left : 8 ≤ g.S.EventSink.room c.emit_carries.new.sink = room_left d (rw (c.product_carries-carries.ensures, c.read-c.ensures.left, c.read-c.ensures.right, c.read-c.ensures.low, c.read-c.ensures.high) at c.in_ok-emit_carries.ensures.ok) eight sixteen in
    record { room = rw c.both.ensures (omega (arith, left, length-limbs c.read-c.result.low c.read-c.result.high)) }
