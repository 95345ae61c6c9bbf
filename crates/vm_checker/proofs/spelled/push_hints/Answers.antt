use Rattle.std.proofs.Common.{◌∙◌, ◌++◌, ℕ, List, map, ap, subst, arith}
use Rattle.std.specs.Prelude.{flat_map}
use Rattle.std.proofs.lemmas.List.{take_all}
use Rattle.exec_path.specs.declared.order.PathRow.{PathRow}
use Rattle.exec_path.specs.Order.{IsOrder}
use Rattle.vm_checker.specs.Kept.{bytes_of, hint_at}
use Rattle.vm_checker.proofs.HintOrder.{sorted_hints}
use Rattle.vm_checker.proofs.spelled.push_hints.Goals as goal

pub returns : goal.returns
returns c =
    let hints = c.args.hints.now in
    let places = c.in_ok-places.places.items in
    let order = subst (λ (rows : List PathRow). IsOrder rows places) (c.deref.ensures.value ∙ c.in_ok-rows.ensures) c.in_ok-places.ensures in
    let all = take_all c.loop-place.place-index c.deref-place-items.result.now (omega (arith, c.loop-place-test.false)) in (
      map (hint_at hints) places,
      sorted_hints hints places order,
      c.loop-place.invariant ∙ ap (λ (given : List ℕ). c.args.bytes.now.items ++ flat_map bytes_of (map (hint_at hints) given)) (all ∙ c.deref-place-items.ensures.value),
    )
