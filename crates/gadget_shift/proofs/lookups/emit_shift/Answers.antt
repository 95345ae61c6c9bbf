use Rattle.std.proofs.Common.{◌≡◌, ℕ, ◌≤◌, List, [], ◌∷◌, ◌++◌, length, refl, arith, lit≤}
use Rattle.vm_field.specs.declared.limbs.Limbs.{Limbs}
use Rattle.vm_field.specs.Limbs.{list_of}
use Rattle.air_core.specs.declared.event.Event.{Event}
use Rattle.air_core.specs.Ring.{field}
use Rattle.air_core.proofs.Counted.{on_err_anyway, on_err_map}
use Rattle.air_core.proofs.Handing.{all_all, all_some, some_none, room_left, on_ok_map}
use Rattle.gadget_limbs.specs.Ranges.{range_lines}
use Rattle.gadget_limbs.proofs.RangesSplit.{length-ranges}
use Rattle.gadget_shift.specs.Shift.{shift_columns, shift_lookups, amount_part, bits_by, limbs_by_flags}
use Rattle.gadget_shift.proofs.lookups.emit_shift.Goals as goal

abbrev rest_lines : ℕ → ℕ → List ℕ → List Event
rest_lines valid limb own = let s = shift_columns field own in range_lines field valid 3 (amount_part field limb (limbs_by_flags field s.limbs) (bits_by field s.bits) ∷ [])

abbrev carry_lines : ℕ → List ℕ → List Event
carry_lines valid own = let s = shift_columns field own in range_lines field valid (bits_by field s.bits) (list_of s.carries)

abbrev new_lines : ℕ → Limbs ℕ → List Event
new_lines valid new = range_lines field valid 8 (list_of new)

length-limbs : (w : Limbs ℕ) → length (list_of w) ≡ 4
unfolding list_of
length-limbs w = refl

pub returns-in_err-emit_ranges-clause-err : goal.returns-in_err-emit_ranges-clause-err
unfolding shift_lookups
returns-in_err-emit_ranges-clause-err g c =
    let a = rest_lines c.args.valid c.args.amount c.args.own.now in
    let back = carry_lines c.args.valid c.args.own.now ++ new_lines c.args.valid c.args.new in
    on_err_anyway _ (some_none a back (rw (c.of_u16.ensures, c.amount_part-rest.ensures, c.limbs_by.ensures, c.bits_by-width.ensures, c.read-c.ensures.bits, c.read-c.ensures.limbs) at c.in_err-emit_ranges.ensures.err))

pub returns-in_err-emit_ranges-2-clause-err : goal.returns-in_err-emit_ranges-2-clause-err
unfolding shift_lookups
returns-in_err-emit_ranges-2-clause-err g c =
    let a = rest_lines c.args.valid c.args.amount c.args.own.now in
    let b = carry_lines c.args.valid c.args.own.now in
    let d = new_lines c.args.valid c.args.new in
    let first = rw (c.of_u16.ensures, c.amount_part-rest.ensures, c.limbs_by.ensures, c.bits_by-width.ensures, c.read-c.ensures.bits, c.read-c.ensures.limbs) at c.in_ok-emit_ranges.ensures.ok in
    on_err_anyway _ (all_some a (b ++ d) first (some_none b d (rw (c.array.ensures, c.bits_by-width.ensures, c.read-c.ensures.bits, c.read-c.ensures.carries) at c.in_err-emit_ranges-2.ensures.err)))

pub returns-clause-err : goal.returns-clause-err
unfolding shift_lookups
returns-clause-err g c =
    let a = rest_lines c.args.valid c.args.amount c.args.own.now in
    let b = carry_lines c.args.valid c.args.own.now in
    let d = new_lines c.args.valid c.args.new in
    let first = rw (c.of_u16.ensures, c.amount_part-rest.ensures, c.limbs_by.ensures, c.bits_by-width.ensures, c.read-c.ensures.bits, c.read-c.ensures.limbs) at c.in_ok-emit_ranges.ensures.ok in
    let second = rw (c.array.ensures, c.bits_by-width.ensures, c.read-c.ensures.bits, c.read-c.ensures.carries) at c.in_ok-emit_ranges-2.ensures.ok in
    on_err_map c.emit_ranges-3.result (λ h. all_some a (b ++ d) first (all_some b d second (rw (c.of_u16-2.ensures, c.array-2.ensures) at h))) c.emit_ranges-3.ensures.err

pub returns-clause-ok : goal.returns-clause-ok
unfolding shift_lookups
returns-clause-ok g c =
    let a = rest_lines c.args.valid c.args.amount c.args.own.now in
    let b = carry_lines c.args.valid c.args.own.now in
    let d = new_lines c.args.valid c.args.new in
    let first = rw (c.of_u16.ensures, c.amount_part-rest.ensures, c.limbs_by.ensures, c.bits_by-width.ensures, c.read-c.ensures.bits, c.read-c.ensures.limbs) at c.in_ok-emit_ranges.ensures.ok in
    let second = rw (c.array.ensures, c.bits_by-width.ensures, c.read-c.ensures.bits, c.read-c.ensures.carries) at c.in_ok-emit_ranges-2.ensures.ok in
    on_ok_map c.emit_ranges-3.result (λ h. all_all a (b ++ d) first (all_all b d second (rw (c.of_u16-2.ensures, c.array-2.ensures) at h))) c.emit_ranges-3.ensures.ok

pub emit_ranges-requires-3 : goal.emit_ranges-requires-3
emit_ranges-requires-3 g c =
    let a = rest_lines c.args.valid c.args.amount c.args.own.now in
    let b = carry_lines c.args.valid c.args.own.now in
    let first = rw (c.of_u16.ensures, c.amount_part-rest.ensures, c.limbs_by.ensures, c.bits_by-width.ensures, c.read-c.ensures.bits, c.read-c.ensures.limbs) at c.in_ok-emit_ranges.ensures.ok in
    let second = rw (c.array.ensures, c.bits_by-width.ensures, c.read-c.ensures.bits, c.read-c.ensures.carries) at c.in_ok-emit_ranges-2.ensures.ok in
    let s = shift_columns field c.args.own.now in
    let one : length a ≤ 1 = lit≤ tt in
    let few : length b ≤ 4 = omega (arith, length-ranges c.args.valid (bits_by field s.bits) (list_of s.carries), length-limbs s.carries) in
    let eight : 8 ≤ g.S.EventSink.room c.emit_ranges.new.sink = room_left a first one c.requires.room in
    let four : 4 ≤ g.S.EventSink.room c.emit_ranges-2.new.sink = room_left b second few eight in
    record { room = rw c.array-2.ensures (omega (arith, four, length-limbs c.args.new)) }
