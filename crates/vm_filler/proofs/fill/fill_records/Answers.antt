use Rattle.std.proofs.Common.{ℕ, List, length, take, sym, ap, ◌∙◌, subst, arith, rules}
use Rattle.std.specs.Prelude.{flat_map}
use Rattle.air_core.specs.declared.event.Event.{Event}
use Rattle.air_core.specs.Sheet.{row_events}
use Rattle.air_core.specs.Sink.{Handed, handed_both}
use Rattle.air_core.specs.System.{part_at, rows_of}
use Rattle.vm_filler.specs.Tables.{filled_rows}
use Rattle.vm_filler.specs.Filling.{with_rows}
use Rattle.vm_filler.specs.Lookups.{CountLookups, events_left}
use Rattle.vm_filler.proofs.RowsLemmas.{with_rows_none, with_rows_twice, records_more, rows_few, rows_events_few, said_rows, all_taken, height_then, width_then, length_then}
use Rattle.vm_filler.proofs.fill.fill_records.Goals as goal

pub loop-done-init : goal.loop-done-init
loop-done-init g c = record { rows = sym (with_rows_none c.args.tables.now c.args.table); handed = search rules; wide = search rules }

pub fill_record-requires-clause-in_tables : goal.fill_record-requires-clause-in_tables
fill_record-requires-clause-in_tables g c =
    omega (arith, c.requires.in_tables, length_then c.args.tables.now c.loop-done.tables c.args.table _ c.loop-done.invariant.rows)

pub fill_record-requires-clause-width : goal.fill_record-requires-clause-width
fill_record-requires-clause-width g c = width_then c.args.tables.now c.loop-done.tables c.args.table _ c.loop-done.invariant.rows c.requires.in_tables ∙ c.requires.width

pub fill_record-requires-clause-few : goal.fill_record-requires-clause-few
fill_record-requires-clause-few g c =
    let x = g.E.Extension.system c.args.ext.now in
    omega (
      arith,
      height_then c.args.tables.now c.loop-done.tables c.args.table _ c.loop-done.invariant.rows c.requires.in_tables,
      ap (λ (rows : List (List ℕ)). length rows) c.requires.none,
      rows_few x (g.met.E.Extension.rows c.args.ext.now) c.args.records.now c.args.table c.loop-done.done-index c.requires.known,
      c.loop-done-test.true,
      c.requires.few,
    )

pub fill_record-requires-clause-room : goal.fill_record-requires-clause-room
fill_record-requires-clause-room g c =
    let x = g.E.Extension.system c.args.ext.now in
    omega (
      arith,
      c.requires.room,
      c.loop-done.invariant.handed.used,
      rows_events_few x (g.met.E.Extension.buses c.args.ext.now) c.args.table (filled_rows (take c.loop-done.done-index c.args.records.now) (part_at x c.args.table)),
      rows_few x (g.met.E.Extension.rows c.args.ext.now) c.args.records.now c.args.table c.loop-done.done-index c.requires.known,
      c.loop-done-test.true,
      c.requires.few,
    )

pub loop-done-preserved : goal.loop-done-preserved
loop-done-preserved g c =
    let x = g.E.Extension.system c.args.ext.now in
    let part = part_at x c.args.table in
    let so_far = filled_rows (take c.loop-done.done-index c.args.records.now) part in
    let mine = rows_of c.done-item.result part in
    let next = records_more c.args.records.now c.loop-done.done-index c.done-item.result part c.loop-done-test.true (search rules) in
    record {
      rows =
          c.in_ok-fill_record.ensures.rows ∙ ap (λ t. with_rows t c.args.table mine) c.loop-done.invariant.rows
          ∙ with_rows_twice c.args.tables.now c.args.table so_far mine c.requires.in_tables ∙ ap (with_rows c.args.tables.now c.args.table) (sym next);
      handed =
          subst (λ (events : List Event). Handed CountLookups events_left c.args.lookups.now c.fill_record.new.lookups events)
          (sym (said_rows part.sheet so_far mine) ∙ ap (λ (rows : List (List ℕ)). flat_map (row_events part.sheet) rows) (sym next))
          (handed_both c.loop-done.invariant.handed c.in_ok-fill_record.ensures.counted);
      wide = search rules;
    }

pub returns-clause-rows : goal.returns-clause-rows
returns-clause-rows g c =
    let part = part_at (g.E.Extension.system c.args.ext.now) c.args.table in
    c.loop-done.invariant.rows
    ∙ ap (λ done. with_rows c.args.tables.now c.args.table (filled_rows done part)) (all_taken c.args.records.now c.loop-done.done-index c.loop-done-test.false)

pub returns-clause-counted : goal.returns-clause-counted
returns-clause-counted g c =
    let part = part_at (g.E.Extension.system c.args.ext.now) c.args.table in
    subst (λ done. Handed CountLookups events_left c.args.lookups.now c.loop-done.lookups (flat_map (row_events part.sheet) (filled_rows done part)))
    (all_taken c.args.records.now c.loop-done.done-index c.loop-done-test.false) c.loop-done.invariant.handed
