use Rattle.std.proofs.Common.{◌≡◌, ℕ, ◌≤◌, List, [], ◌∷◌, length, arith, slice_index, refl}
use Rattle.air_core.specs.declared.event.Event.{Event}
use Rattle.air_core.specs.declared.bus.TheConstants.{XOR}
use Rattle.air_core.specs.declared.event.Side.TheVariants.{Send}
use Rattle.air_core.specs.Flags.{sum_from}
use Rattle.air_core.specs.Ring.{field}
use Rattle.air_core.specs.Sheet.{event}
use Rattle.air_core.proofs.Counted.{on_err_anyway, on_err_map}
use Rattle.air_core.proofs.Handing.{all_all, all_some, some_none, room_left, on_ok_map}
use Rattle.vm_field.specs.Limbs.{list_of}
use Rattle.gadget_limbs.specs.Sign.{sign_looked_up}
use Rattle.gadget_shift.specs.Shift.{shift_columns, shift_lookups}
use Rattle.gadget_shift.proofs.ShiftHolds.{length-lookups}
use Rattle.adapter_regs.specs.Core.{Operands, operands}
use Rattle.chip_shift.specs.Shift.{sign_of, new_of, shift_core, shift_lookups_of}
use Rattle.chip_shift.proofs.ShiftCoreRegsCore.lookups.Goals as goal

abbrev lines : List ℕ → ℕ → List ℕ → List Event
lines flags c own = shift_lookups field (sum_from field 0 flags) c (shift_columns field own) (new_of field own)

abbrev sign_line : List ℕ → ℕ → List ℕ → List Event
sign_line flags top own = event XOR Send (slice_index flags 2) (sign_looked_up field (sign_of field own) top) ∷ []

length-all : (o : Operands ℕ) → length (shift_core.parts.lookups o) ≡ 10
unfolding shift_lookups_of shift_lookups list_of
length-all o = refl

few : (flags : List ℕ) (c : ℕ) (own : List ℕ) → length (lines flags c own) ≡ 9
few flags c own = length-lookups (sum_from field 0 flags) c (shift_columns field own) (new_of field own)

pub emit_shift-requires-clause-room : goal.emit_shift-requires-clause-room
emit_shift-requires-clause-room g c = omega (arith, c.requires.room, length-all (operands c.args.flags.now c.args.left c.args.right c.args.own.now))

pub emit_sent-requires-clause-room : goal.emit_sent-requires-clause-room
emit_sent-requires-clause-room g c =
    let all : 10 ≤ g.S.EventSink.room c.args.sink.now = omega (arith, c.requires.room, length-all (operands c.args.flags.now c.args.left c.args.right c.args.own.now)) in
    let nine : length (lines c.args.flags.now c.args.right.x0 c.args.own.now) ≤ 9 = omega (arith, few c.args.flags.now c.args.right.x0 c.args.own.now) in
    room_left (lines c.args.flags.now c.args.right.x0 c.args.own.now) (rw (c.flag_sum.ensures, c.new_of.ensures) at c.in_ok-emit_shift.ensures.ok) nine all

pub returns-in_err-emit_shift-clause-err : goal.returns-in_err-emit_shift-clause-err
unfolding shift_lookups_of
returns-in_err-emit_shift-clause-err g c =
    on_err_anyway _ (some_none (lines c.args.flags.now c.args.right.x0 c.args.own.now) (sign_line c.args.flags.now c.args.left.x3 c.args.own.now) (rw (c.flag_sum.ensures, c.new_of.ensures) at c.in_err-emit_shift.ensures.err))

pub returns-clause-err : goal.returns-clause-err
unfolding shift_lookups_of
returns-clause-err g c =
    let first = rw (c.flag_sum.ensures, c.new_of.ensures) at c.in_ok-emit_shift.ensures.ok in
    on_err_map c.emit_sent.result (λ h. all_some (lines c.args.flags.now c.args.right.x0 c.args.own.now) (sign_line c.args.flags.now c.args.left.x3 c.args.own.now) first (rw (c.sign_looked_up-looked_up.ensures, c.flag.ensures, c.sign_of.ensures) at h)) c.emit_sent.ensures.err

pub returns-clause-ok : goal.returns-clause-ok
unfolding shift_lookups_of
returns-clause-ok g c =
    let first = rw (c.flag_sum.ensures, c.new_of.ensures) at c.in_ok-emit_shift.ensures.ok in
    on_ok_map c.emit_sent.result (λ h. all_all (lines c.args.flags.now c.args.right.x0 c.args.own.now) (sign_line c.args.flags.now c.args.left.x3 c.args.own.now) first (rw (c.sign_looked_up-looked_up.ensures, c.flag.ensures, c.sign_of.ensures) at h)) c.emit_sent.ensures.ok
