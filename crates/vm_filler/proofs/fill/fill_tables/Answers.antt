use Rattle.std.proofs.Common.{refl, sym, subst, arith}
use Rattle.vm_trace.specs.Contents.{Contents}
use Rattle.vm_filler.specs.Filling.{FilledTo}
use Rattle.vm_filler.proofs.TablesLemmas.{filled_none, filled_more, next_table, filled_all}
use Rattle.vm_filler.proofs.fill.fill_tables.Goals as goal

pub loop-table-init : goal.loop-table-init
loop-table-init g c =
    let x = g.E.Extension.system c.args.ext.now in
    record {
      filled = subst (λ (t : Contents). FilledTo x c.args.records.now 0 t c.args.lookups.now c.args.lookups.now) (sym c.in_ok-tables.ensures) (filled_none x c.args.records.now _ c.args.lookups.now refl);
    }

pub fill_table-requires-clause-in_tables : goal.fill_table-requires-clause-in_tables
fill_table-requires-clause-in_tables g c =
    (next_table (g.E.Extension.system c.args.ext.now) c.args.records.now c.loop-table.table c.loop-table.tables c.args.lookups.now c.loop-table.lookups (omega (arith, c.loop-table-test.true, c.tables-table-end.ensures)) c.loop-table.invariant.filled).below

pub fill_table-requires-clause-width : goal.fill_table-requires-clause-width
fill_table-requires-clause-width g c =
    (next_table (g.E.Extension.system c.args.ext.now) c.args.records.now c.loop-table.table c.loop-table.tables c.args.lookups.now c.loop-table.lookups (omega (arith, c.loop-table-test.true, c.tables-table-end.ensures)) c.loop-table.invariant.filled).wide

pub fill_table-requires-clause-none : goal.fill_table-requires-clause-none
fill_table-requires-clause-none g c =
    (next_table (g.E.Extension.system c.args.ext.now) c.args.records.now c.loop-table.table c.loop-table.tables c.args.lookups.now c.loop-table.lookups (omega (arith, c.loop-table-test.true, c.tables-table-end.ensures)) c.loop-table.invariant.filled).none

pub loop-table-preserved : goal.loop-table-preserved
loop-table-preserved g c =
    let x = g.E.Extension.system c.args.ext.now in
    record {
      filled =
          filled_more x (g.met.E.Extension.quiet c.args.ext.now) c.args.records.now c.loop-table.table c.loop-table.tables c.fill_table.new.tables c.args.lookups.now c.loop-table.lookups c.fill_table.new.lookups
          (omega (arith, c.loop-table-test.true, c.tables-table-end.ensures)) c.loop-table.invariant.filled c.in_ok-fill_table.ensures;
    }

pub returns : goal.returns
returns g c =
    let x = g.E.Extension.system c.args.ext.now in
    filled_all x c.args.records.now c.loop-table.table c.loop-table.tables c.args.lookups.now c.loop-table.lookups (omega (arith, c.loop-table-test.false, c.loop-table.auto.table-end, c.tables-table-end.ensures)) c.loop-table.invariant.filled
