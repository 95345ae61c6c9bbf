use Rattle.std.proofs.Common.{◌≡◌, ℕ, List, [], ◌∷◌, ◌++◌, length, refl}
use Rattle.air_core.specs.declared.event.Event.{Event}
use Rattle.air_core.specs.declared.bus.TheConstants.{XOR}
use Rattle.air_core.specs.declared.event.Side.TheVariants.{Send}
use Rattle.air_core.specs.Ring.{field}
use Rattle.air_core.specs.Sheet.{event}
use Rattle.air_core.proofs.Counted.{on_err_anyway, on_err_map}
use Rattle.air_core.proofs.Handing.{all_all, all_some, some_none, on_ok_map}
use Rattle.vm_field.specs.Limbs.{list_of}
use Rattle.gadget_limbs.specs.Less.{less_ranges}
use Rattle.gadget_limbs.specs.Ranges.{range_lines}
use Rattle.gadget_limbs.specs.Sign.{sign_looked_up}
use Rattle.gadget_divide.specs.Divided.{Divided, divided_of, divided_bytes, divided_lookups}
use Rattle.gadget_divide.proofs.lookups.emit_divided.Goals as goal

length-bytes : (c : Divided ℕ) → length (divided_bytes field c) ≡ 19
unfolding divided_bytes less_ranges list_of
length-bytes c = refl

abbrev line : ℕ → ℕ → ℕ → List Event
line gate sign top = event XOR Send gate (sign_looked_up field sign top) ∷ []

abbrev bytes : ℕ → List ℕ → List Event
bytes valid own = range_lines field valid 8 (divided_bytes field (divided_of field own))

abbrev first_line : ℕ → List ℕ → ℕ → List Event
first_line gate own top = line gate (divided_of field own).left_sign top

abbrev second_line : ℕ → List ℕ → ℕ → List Event
second_line gate own top = line gate (divided_of field own).right_sign top

pub returns-in_err-emit_sent-clause-err : goal.returns-in_err-emit_sent-clause-err
unfolding divided_lookups
returns-in_err-emit_sent-clause-err g c =
    let a = first_line c.args.gate c.args.own.now c.args.left.now.x3 in
    let b = second_line c.args.gate c.args.own.now c.args.right.now.x3 in
    on_err_anyway _ (some_none a (b ++ bytes c.args.valid c.args.own.now) (rw (c.sign_looked_up-left_row.ensures, c.read-c.ensures.left_sign) at c.in_err-emit_sent.ensures.err))

pub returns-in_err-emit_sent-2-clause-err : goal.returns-in_err-emit_sent-2-clause-err
unfolding divided_lookups
returns-in_err-emit_sent-2-clause-err g c =
    let a = first_line c.args.gate c.args.own.now c.args.left.now.x3 in
    let b = second_line c.args.gate c.args.own.now c.args.right.now.x3 in
    let f = bytes c.args.valid c.args.own.now in
    on_err_anyway _ (all_some a (b ++ f) (rw (c.sign_looked_up-left_row.ensures, c.read-c.ensures.left_sign) at c.in_ok-emit_sent.ensures.ok) (some_none b f (rw (c.sign_looked_up-right_row.ensures, c.read-c.ensures.right_sign) at c.in_err-emit_sent-2.ensures.err)))

pub returns-clause-err : goal.returns-clause-err
unfolding divided_lookups
returns-clause-err g c =
    let a = first_line c.args.gate c.args.own.now c.args.left.now.x3 in
    let b = second_line c.args.gate c.args.own.now c.args.right.now.x3 in
    let f = bytes c.args.valid c.args.own.now in
    on_err_map c.emit_ranges.result (λ h. all_some a (b ++ f) (rw (c.sign_looked_up-left_row.ensures, c.read-c.ensures.left_sign) at c.in_ok-emit_sent.ensures.ok) (all_some b f (rw (c.sign_looked_up-right_row.ensures, c.read-c.ensures.right_sign) at c.in_ok-emit_sent-2.ensures.ok) (rw (c.of_u16.ensures, c.divided_bytes.ensures) at h))) c.emit_ranges.ensures.err

pub returns-clause-ok : goal.returns-clause-ok
unfolding divided_lookups
returns-clause-ok g c =
    let a = first_line c.args.gate c.args.own.now c.args.left.now.x3 in
    let b = second_line c.args.gate c.args.own.now c.args.right.now.x3 in
    let f = bytes c.args.valid c.args.own.now in
    on_ok_map c.emit_ranges.result (λ h. all_all a (b ++ f) (rw (c.sign_looked_up-left_row.ensures, c.read-c.ensures.left_sign) at c.in_ok-emit_sent.ensures.ok) (all_all b f (rw (c.sign_looked_up-right_row.ensures, c.read-c.ensures.right_sign) at c.in_ok-emit_sent-2.ensures.ok) (rw (c.of_u16.ensures, c.divided_bytes.ensures) at h))) c.emit_ranges.ensures.ok
