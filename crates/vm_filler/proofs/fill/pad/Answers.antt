use Rattle.std.proofs.Common.{◌≡◌, ℕ, ◌+◌, ◌-◌, replicate, sym, ap, ◌∙◌, arith}
use Rattle.vm_filler.specs.Filling.{with_rows}
use Rattle.vm_filler.proofs.RowsLemmas.{height_then, put_more, repeat_more}
use Rattle.vm_filler.proofs.Limits.{repeated_length, twice_at_most}
use Rattle.vm_filler.proofs.fill.pad.Goals as goal

pub loop-preserved : goal.loop-preserved
loop-preserved c =
    let row = c.args.zeros.now in
    let n = c.loop.counter - c.height-rows.result in
    let next : c.loop.counter + 1 - c.height-rows.result ≡ n + 1 = omega (arith, c.loop.auto.counter) in
    record {
      rows =
          put_more c.args.tables.now c.loop.tables c.push_row.new.self c.args.table (replicate n row) row c.requires.in_tables c.loop.invariant.rows c.in_ok-push_row.ensures.ok
          ∙ ap (with_rows c.args.tables.now c.args.table) (sym (repeat_more n row)) ∙ ap (λ (k : ℕ). with_rows c.args.tables.now c.args.table (replicate k row)) (sym next);
    }

pub push_row-requires-clause-few : goal.push_row-requires-clause-few
push_row-requires-clause-few c =
    let n = c.loop.counter - c.height-rows.result in
    omega (
      arith,
      height_then c.args.tables.now c.loop.tables c.args.table (replicate n c.args.zeros.now) c.loop.invariant.rows c.requires.in_tables,
      repeated_length n c.args.zeros.now,
      c.height-rows.ensures,
      c.requires.few,
      c.loop-test.true,
      c.loop.auto.counter,
      twice_at_most c.height-rows.result c.height_of-end.result c.height_of-end.ensures,
    )
