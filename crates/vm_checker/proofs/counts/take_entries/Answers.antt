use Rattle.std.proofs.Common.{◌≡◌, ℕ, arith, subst}
use Rattle.readings.specs.Readings.{chain}
use Rattle.table_format.specs.Order.{entry, next_least}
use Rattle.table_format.proofs.Drawn.{Drew, drew_is, drew_seen, drew_both, drew_answers, halts_of, halts_then, seen_halts, halts_answers, memory_halts}
use Rattle.table_format.proofs.Draws.{draws_both}
use Rattle.vm_checker.proofs.CountsTaken.{no_entries, one_entry, entry_halts}
use Rattle.vm_checker.proofs.counts.take_entries.Goals as goal

pub loop-init : goal.loop-init
loop-init g c = no_entries c.args.program.now c.args.bus c.args.end c.number.new.self (g.H.Host.state c.number.new.host) c.args.said.now c.in_ok-count.ensures.kept.took.is_open

pub entry-requires : goal.entry-requires
entry-requires g c = record { «open» = c.loop.invariant.drew.draws.took.is_open }

pub returns-in_err-entry-clause-reads : goal.returns-in_err-entry-clause-reads
returns-in_err-entry-clause-reads g c =
    halts_answers c.from_residual-in_err-entry.result c.from_residual-in_err-entry.ensures.1
    (seen_halts (λ p. p.1) (halts_then (λ n. chain (entry c.args.end) next_least n 0) (drew_is c.in_ok-count.ensures) (entry_halts c.args.program.now c.args.bus c.args.end c.loop-test.true c.loop.invariant (halts_of c.in_err-entry.ensures.reads))))

pub hand_entry-requires : goal.hand_entry-requires
hand_entry-requires g c = omega (arith, c.loop.invariant.left, c.requires.room, c.loop-test.true, c.in_ok-count.ensures.ok.1)

pub returns-in_err-hand_entry-clause-reads : goal.returns-in_err-hand_entry-clause-reads
returns-in_err-hand_entry-clause-reads g c =
    halts_answers c.from_residual-in_err-hand_entry.result c.from_residual-in_err-hand_entry.ensures.1
    (memory_halts (draws_both c.in_ok-count.ensures.kept (draws_both c.loop.invariant.drew.draws c.in_ok-entry.ensures.reads.kept)))

pub loop-preserved : goal.loop-preserved
loop-preserved g c = one_entry c.args.program.now c.args.bus c.args.end c.in_ok-entry.entry c.loop.invariant (drew_is c.in_ok-entry.ensures.reads) c.in_ok-hand_entry.ensures

pub returns-clause-reads : goal.returns-clause-reads
returns-clause-reads g c =
    let k : c.loop.counter ≡ c.in_ok-count.count = omega arith in
    let inv = c.loop.invariant in
    drew_answers _ (drew_seen (λ p. p.1) (drew_both (λ n. chain (entry c.args.end) next_least n 0) (drew_is c.in_ok-count.ensures)
    (subst (λ (n : ℕ). Drew (chain (entry c.args.end) next_least n 0) c.number.new.self c.loop.stream (g.H.Host.state c.number.new.host) (g.H.Host.state c.loop.host) inv.given) k inv.drew))) inv.handed
