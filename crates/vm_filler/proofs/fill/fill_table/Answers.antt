use Rattle.std.proofs.Common.{ℕ, List, length, replicate, ap, ◌∙◌, arith}
use Rattle.air_core.specs.System.{part_at}
use Rattle.vm_filler.specs.Tables.{filled_rows}
use Rattle.vm_filler.proofs.RowsLemmas.{all_few, height_then, table_filled}
use Rattle.vm_filler.proofs.fill.fill_table.Goals as goal

pub pad-requires-clause-few : goal.pad-requires-clause-few
pad-requires-clause-few g c =
    let x = g.E.Extension.system c.args.ext.now in
    omega (
      arith,
      height_then c.args.tables.now c.fill_records.new.tables c.args.table (filled_rows c.args.records.now (part_at x c.args.table)) c.in_ok-fill_records.ensures.rows c.requires.in_tables,
      ap (λ (rows : List (List ℕ)). length rows) c.requires.none,
      all_few x (g.met.E.Extension.rows c.args.ext.now) c.args.records.now c.args.table c.requires.known,
      c.requires.few,
    )

pub returns : goal.returns
returns g c =
    let x = g.E.Extension.system c.args.ext.now in
    table_filled x (g.met.E.Extension.buses c.args.ext.now) (g.met.E.Extension.rows c.args.ext.now) c.args.records.now c.args.table c.args.tables.now c.fill_records.new.tables c.pad.new.tables
    c.args.lookups.now c.fill_records.new.lookups c.deref-2.result.now c.requires.known c.requires.in_tables c.requires.few c.requires.none c.in_ok-fill_records.ensures.rows c.in_ok-fill_records.ensures.counted
    (c.deref-2.ensures.value ∙ c.in_ok-zeros.ensures.items_if_clones_equal (λ y e. e) ∙ ap (λ (n : ℕ). replicate n 0) c.width-2.ensures) c.in_ok-pad.ensures
