use Rattle.air_core.proofs.ExtensionLemmas.{few_events}
use Rattle.table_format.proofs.Drawn.{drew_of, halts_of, halts_answers}
use Rattle.vm_checker.proofs.RowsTaken.{no_rows, one_row, row_halts}
use Rattle.vm_checker.proofs.tables.take_rows.Goals as goal

pub loop-place-init : goal.loop-place-init
loop-place-init g c = no_rows (g.E.Extension.system c.args.ext.now) c.args.segment c.args.table c.args.stream.now (g.H.Host.state c.args.host.now) c.args.tally.now c.requires.open

pub returns-in_err-take_row-clause-reads : goal.returns-in_err-take_row-clause-reads
returns-in_err-take_row-clause-reads g c =
    halts_answers c.from_residual.result c.from_residual.ensures.1 (row_halts (g.E.Extension.system c.args.ext.now) c.args.segment c.args.table c.loop-place-test.true c.loop-place.invariant (halts_of c.in_err-take_row.ensures))

pub loop-place-preserved : goal.loop-place-preserved
loop-place-preserved g c =
    let x = g.E.Extension.system c.args.ext.now in
    let d = drew_of c.in_ok-take_row.ensures in
    one_row x c.args.segment c.args.table d.0 c.loop-place.invariant d.2 d.1 (few_events x (g.met.E.Extension.buses c.args.ext.now) c.args.table d.0)
