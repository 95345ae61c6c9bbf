use Rattle.std.proofs.Common.{◌≤◌, ◌∷◌, [], refl, arith, length-append}
use Rattle.air_core.specs.ListLemmas.{all_append}
use Rattle.table_format.specs.Order.{height_code, next_place}
use Rattle.table_format.proofs.Drawn.{drew_is, drew_none, drew_more, halts_of, halts_chained, halts_answers, memory_halts}
use Rattle.table_format.proofs.Draws.{draws_both}
use Rattle.vm_checker.proofs.Places.{drew_here, halts_here}
use Rattle.vm_checker.proofs.heights.take_list.Goals as goal

pub loop-table-init : goal.loop-table-init
loop-table-init g c = record {
  drew = rw c.new-codes.ensures.items (drew_none (height_code c.args.greatest c.args.segment) next_place 0 c.args.stream.now (g.H.Host.state c.args.host.now) c.requires.open);
  number = rw c.new-codes.ensures.items refl;
  low = rw c.new-codes.ensures.items tt;
}

pub returns-in_err-code-clause-reads : goal.returns-in_err-code-clause-reads
returns-in_err-code-clause-reads g c =
    let r = height_code c.args.greatest c.args.segment in
    let inv = c.loop-table.invariant in
    halts_answers c.from_residual.result c.from_residual.ensures.1 (halts_chained r next_place 0 c.loop-table.table c.args.tables c.loop-table-test.true inv.drew (halts_here r c.loop-table.codes.items inv.number (halts_of c.in_err-code.ensures.reads)))

pub returns-in_err-push-clause-reads : goal.returns-in_err-push-clause-reads
returns-in_err-push-clause-reads g c =
    halts_answers c.from_residual-in_err-push.result c.from_residual-in_err-push.ensures.1 (memory_halts (draws_both c.loop-table.invariant.drew.draws c.in_ok-code.ensures.reads.kept))

pub loop-table-preserved : goal.loop-table-preserved
loop-table-preserved g c =
    let r = height_code c.args.greatest c.args.segment in
    let inv = c.loop-table.invariant in
    let codes = c.loop-table.codes.items in
    let code = c.in_ok-code.code in
    let small : code ≤ 25 = omega (arith, c.in_ok-code.ensures.low, c.requires.small) in
    record {
      drew = rw c.in_ok-push.ensures.items (drew_more r next_place 0 c.loop-table.table inv.drew (drew_here r codes inv.number (drew_is c.in_ok-code.ensures.reads)));
      number = rw c.in_ok-push.ensures.items (omega (arith, length-append codes (code ∷ []), inv.number));
      low = rw c.in_ok-push.ensures.items (all_append (λ k. k ≤ 25) codes (code ∷ []) inv.low (small, tt));
    }
