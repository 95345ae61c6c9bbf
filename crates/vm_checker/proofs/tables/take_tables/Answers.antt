use Rattle.std.proofs.Common.{ℕ, ◌+◌, ◌*◌, ◌^◌, ◌<◌, ◌≤◌, length, slice_index, subst, arith}
use Rattle.table_format.proofs.Drawn.{Drew, Halts, drew_of, halts_of, halts_answers}
use Rattle.vm_checker.specs.Heard.{room_left}
use Rattle.vm_checker.specs.Items.{rows_of}
use Rattle.vm_checker.proofs.Places.{all_at_place, height_small}
use Rattle.vm_checker.proofs.RowsTaken.{no_tables, one_table, table_halts}
use Rattle.vm_checker.proofs.tables.take_tables.Goals as goal

pub loop-table-init : goal.loop-table-init
loop-table-init g c = no_tables (g.E.Extension.system c.args.ext.now) c.args.segment c.args.codes.now c.args.stream.now (g.H.Host.state c.args.host.now) c.args.tally.now c.requires.open

pub take_rows-requires-clause-room : goal.take_rows-requires-clause-room
take_rows-requires-clause-room g c =
    let codes = c.args.codes.now in
    let i = c.loop-table.table in
    let below : i < length codes = omega (arith, c.loop-table-test.true, c.tables-table-end.ensures, c.requires.number) in
    let code : slice_index codes i ≤ 25 = all_at_place (λ code. code ≤ 25) codes i 0 c.requires.low below in
    let last : i < 2 ^ 32 = omega (arith, c.loop-table-test.true, c.loop-table.auto.table-end) in
    omega (arith, c.loop-table.invariant.left, c.requires.room, c.height-height.ensures, height_small (slice_index codes i) code, last)

pub returns-in_err-take_rows-clause-reads : goal.returns-in_err-take_rows-clause-reads
returns-in_err-take_rows-clause-reads g c =
    let x = g.E.Extension.system c.args.ext.now in
    let low : c.loop-table.table < length x.parts = omega (arith, c.loop-table-test.true, c.tables-table-end.ensures) in
    let stopped = subst (λ (height : ℕ). Halts (rows_of x c.args.segment c.loop-table.table height) c.loop-table.stream c.take_rows.new.stream (g.H.Host.state c.loop-table.host) (g.H.Host.state c.take_rows.new.host) c.in_err-take_rows.field-0.0)
    c.height-height.ensures (halts_of c.in_err-take_rows.ensures.reads) in
    halts_answers c.from_residual.result c.from_residual.ensures.1 (table_halts x c.args.segment c.args.codes.now low c.loop-table.invariant stopped)

pub loop-table-preserved : goal.loop-table-preserved
loop-table-preserved g c =
    let x = g.E.Extension.system c.args.ext.now in
    let codes = c.args.codes.now in
    let i = c.loop-table.table in
    let low : i < length x.parts = omega (arith, c.loop-table-test.true, c.tables-table-end.ensures) in
    let code : slice_index codes i ≤ 25 = all_at_place (λ code. code ≤ 25) codes i 0 c.requires.low (omega (arith, low, c.requires.number)) in
    let d = drew_of c.in_ok-take_rows.ensures.reads in
    let drew = subst (λ (height : ℕ). Drew (rows_of x c.args.segment i height) c.loop-table.stream c.take_rows.new.stream (g.H.Host.state c.loop-table.host) (g.H.Host.state c.take_rows.new.host) d.0) c.height-height.ensures d.2 in
    one_table x c.args.segment codes d.0 low (height_small (slice_index codes i) code) c.loop-table.invariant drew d.1
    (subst (λ (height : ℕ). room_left c.loop-table.tally.said ≤ room_left c.take_rows.new.tally.said + 256 * height) c.height-height.ensures c.in_ok-take_rows.ensures.left)
    (subst (λ (height : ℕ). c.take_rows.new.tally.valid ≤ c.loop-table.tally.valid + height) c.height-height.ensures c.in_ok-take_rows.ensures.counted)

pub returns-clause-left : goal.returns-clause-left
returns-clause-left g c =
    let few : c.loop-table.table < 2 ^ 32 = omega (arith, c.loop-table.auto.table-end, c.tables-table-end.type_inv) in
    omega (arith, c.loop-table.invariant.left, few)
