use Rattle.std.proofs.Common.{◌≡◌, ℕ, List, sym, ap, ◌∙◌, subst, arith, rules}
use Rattle.std.specs.Prelude.{flat_map}
use Rattle.air_core.specs.declared.event.Event.{Event}
use Rattle.vm_trace.specs.Contents.{with_row}
use Rattle.air_core.specs.Sheet.{row_events}
use Rattle.air_core.specs.Sink.{Handed, handed_both}
use Rattle.air_core.specs.System.{sheet_at, rows_at}
use Rattle.air_core.proofs.ExtensionLemmas.{few_rows}
use Rattle.vm_filler.specs.Filling.{with_rows}
use Rattle.vm_filler.specs.Lookups.{CountLookups, events_left}
use Rattle.vm_filler.proofs.RowsLemmas.{rows_to, rows_to_length, rows_to_more, rows_events_few, height_then, put_more, said_more}
use Rattle.vm_filler.proofs.fill.fill_record.Goals as goal

pub push_row-requires-clause-few : goal.push_row-requires-clause-few
push_row-requires-clause-few g c =
    let x = g.E.Extension.system c.args.ext.now in
    let rows = rows_to (sheet_at x c.args.table) c.args.done.now c.loop-place.place in
    omega (
      arith,
      c.requires.few,
      height_then c.args.tables.now c.loop-place.tables c.args.table rows c.loop-place.invariant.rows c.requires.in_tables,
      rows_to_length (sheet_at x c.args.table) c.args.done.now c.loop-place.place,
      few_rows x (g.met.E.Extension.rows c.args.ext.now) c.args.done.now c.args.table c.requires.known,
      c.loop-place-test.true,
      c.rows_for-place-end.ensures,
    )

pub events-requires-clause-room : goal.events-requires-clause-room
events-requires-clause-room g c =
    let x = g.E.Extension.system c.args.ext.now in
    let rows = rows_to (sheet_at x c.args.table) c.args.done.now c.loop-place.place in
    omega (
      arith,
      c.requires.room,
      c.loop-place.invariant.handed.used,
      rows_events_few x (g.met.E.Extension.buses c.args.ext.now) c.args.table rows,
      rows_to_length (sheet_at x c.args.table) c.args.done.now c.loop-place.place,
      few_rows x (g.met.E.Extension.rows c.args.ext.now) c.args.done.now c.args.table c.requires.known,
      c.loop-place-test.true,
      c.rows_for-place-end.ensures,
    )

pub loop-place-preserved : goal.loop-place-preserved
loop-place-preserved g c =
    let x = g.E.Extension.system c.args.ext.now in
    let sheet = sheet_at x c.args.table in
    let rows = rows_to sheet c.args.done.now c.loop-place.place in
    let row = sheet.filled c.args.done.now c.loop-place.place in
    let put = c.in_ok-push_row.ensures.ok ∙ ap (λ (r : List ℕ). with_row c.loop-place.tables c.args.table r) c.fill.ensures in
    let said = subst (λ (r : List ℕ). Handed CountLookups events_left c.loop-place.lookups c.events.new.sink (row_events sheet r)) c.fill.ensures c.in_ok-events.ensures.ok in
    record {
      rows =
          put_more c.args.tables.now c.loop-place.tables c.push_row.new.self c.args.table rows row c.requires.in_tables c.loop-place.invariant.rows put
          ∙ ap (with_rows c.args.tables.now c.args.table) (sym (rows_to_more sheet c.args.done.now c.loop-place.place));
      handed =
          subst (λ (events : List Event). Handed CountLookups events_left c.args.lookups.now c.events.new.sink events)
          (sym (said_more sheet rows row) ∙ ap (λ (rs : List (List ℕ)). flat_map (row_events sheet) rs) (sym (rows_to_more sheet c.args.done.now c.loop-place.place)))
          (handed_both c.loop-place.invariant.handed said);
      wide = search rules;
    }

pub returns-clause-counted : goal.returns-clause-counted
returns-clause-counted g c =
    let x = g.E.Extension.system c.args.ext.now in
    let sheet = sheet_at x c.args.table in
    let all : c.loop-place.place ≡ rows_at x c.args.table c.args.done.now = search rules in
    subst (λ (n : ℕ). Handed CountLookups events_left c.args.lookups.now c.loop-place.lookups (flat_map (row_events sheet) (rows_to sheet c.args.done.now n))) all c.loop-place.invariant.handed
