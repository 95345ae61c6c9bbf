use Rattle.std.proofs.Common.{take, drop}
use Rattle.air_core.proofs.Counted.{on_err_anyway, on_err_map}
use Rattle.air_core.proofs.Handing.{all_all, some_at}
use Rattle.air_core.specs.Ring.{field}
use Rattle.gadget_limbs.specs.Lookup.{lookup_lines}
use Rattle.gadget_limbs.proofs.lookup.emit_lookups.Goals as goal

pub returns-in_err-emit_lookup-2-clause-err : goal.returns-in_err-emit_lookup-2-clause-err
returns-in_err-emit_lookup-2-clause-err g c =
    let lines = lookup_lines field c.args.flags.now c.args.a c.args.b c.args.c in
    on_err_anyway _ (some_at 1 lines c.in_ok-emit_lookup.ensures.ok c.in_err-emit_lookup-2.ensures.err)

pub returns-in_err-emit_lookup-3-clause-err : goal.returns-in_err-emit_lookup-3-clause-err
returns-in_err-emit_lookup-3-clause-err g c =
    let lines = lookup_lines field c.args.flags.now c.args.a c.args.b c.args.c in
    let two = all_all (take 1 lines) (take 1 (drop 1 lines)) c.in_ok-emit_lookup.ensures.ok c.in_ok-emit_lookup-2.ensures.ok in
    on_err_anyway _ (some_at 2 lines two c.in_err-emit_lookup-3.ensures.err)

pub returns-clause-err : goal.returns-clause-err
returns-clause-err g c =
    let lines = lookup_lines field c.args.flags.now c.args.a c.args.b c.args.c in
    let two = all_all (take 1 lines) (take 1 (drop 1 lines)) c.in_ok-emit_lookup.ensures.ok c.in_ok-emit_lookup-2.ensures.ok in
    let three = all_all (take 2 lines) (take 1 (drop 2 lines)) two c.in_ok-emit_lookup-3.ensures.ok in
    on_err_map c.emit_lookup-4.result (some_at 3 lines three) c.emit_lookup-4.ensures.err
