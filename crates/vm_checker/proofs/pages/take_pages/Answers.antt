use Rattle.std.proofs.Common.{◌≡◌, ℕ, refl, arith, sym, subst}
use Rattle.readings.specs.Readings.{chain}
use Rattle.offline_memory.specs.MemoryEvents.{boundary_events}
use Rattle.air_core.specs.Sink.{Handed}
use Rattle.vm_trace.specs.declared.page.Touched.{Touched}
use Rattle.table_format.specs.Order.{next_page, first_page}
use Rattle.table_format.proofs.Drawn.{Drew, drew_of, drew_seen, drew_is, drew_both, drew_answers, halts_of, halts_then, seen_halts, halts_answers, memory_halts}
use Rattle.table_format.proofs.Draws.{draws_both}
use Rattle.vm_checker.specs.Heard.{Hears, room_left}
use Rattle.vm_checker.specs.Items.{page_of}
use Rattle.vm_checker.proofs.CountsTaken.{no_pages, one_page, page_halts, pages_rise, pages_in_tree}
use Rattle.vm_checker.proofs.pages.take_pages.Goals as goal

pub loop-number-init : goal.loop-number-init
loop-number-init g c = rw c.new-pages.ensures.items (no_pages c.args.segment c.number.new.self (g.H.Host.state c.number.new.host) c.args.said.now c.in_ok-count.ensures.kept.took.is_open)

pub take_page-requires-clause-open : goal.take_page-requires-clause-open
take_page-requires-clause-open g c = c.loop-number.invariant.drew.draws.took.is_open

pub take_page-requires-clause-room : goal.take_page-requires-clause-room
take_page-requires-clause-room g c = omega (arith, c.loop-number.invariant.left, c.requires.room, c.loop-number-test.true)

pub returns-in_err-page-clause-reads : goal.returns-in_err-page-clause-reads
returns-in_err-page-clause-reads g c =
    halts_answers c.from_residual-in_err-page.result c.from_residual-in_err-page.ensures.1
    (seen_halts (λ p. p.1) (halts_then (λ n. chain (page_of c.args.segment) next_page n first_page) (drew_is c.in_ok-count.ensures) (page_halts c.args.segment c.loop-number-test.true c.loop-number.invariant (halts_of c.in_err-page.ensures.reads))))

pub returns-in_err-push-clause-reads : goal.returns-in_err-push-clause-reads
returns-in_err-push-clause-reads g c =
    halts_answers c.from_residual-in_err-push.result c.from_residual-in_err-push.ensures.1
    (memory_halts (draws_both c.in_ok-count.ensures.kept (draws_both c.loop-number.invariant.drew.draws c.in_ok-page.ensures.reads.kept)))

pub loop-number-preserved : goal.loop-number-preserved
loop-number-preserved g c =
    let d = drew_of c.in_ok-page.ensures.reads in
    let page = c.in_ok-page.page in
    rw c.in_ok-push.ensures.items (one_page c.args.segment page c.loop-number.invariant
    (subst (λ (v : Touched). Drew (page_of c.args.segment (record { number = c.loop-number.number; least = c.loop-number.least })) c.loop-number.stream c.take_page.new.stream (g.H.Host.state c.loop-number.host) (g.H.Host.state c.take_page.new.host) v) (sym d.1.0) d.2)
    c.in_ok-page.ensures.passes (subst (λ (v : Touched). Handed Hears room_left c.loop-number.said c.take_page.new.said (boundary_events v)) (sym d.1.0) d.1.1))

pub returns-clause-reads : goal.returns-clause-reads
returns-clause-reads g c =
    let k : c.loop-number.number ≡ c.in_ok-count.count = omega arith in
    let inv = c.loop-number.invariant in
    drew_answers _ (drew_seen (λ p. p.1) (drew_both (λ n. chain (page_of c.args.segment) next_page n first_page) (drew_is c.in_ok-count.ensures)
    (subst (λ (n : ℕ). Drew (chain (page_of c.args.segment) next_page n first_page) c.number.new.self c.loop-number.stream (g.H.Host.state c.number.new.host) (g.H.Host.state c.loop-number.host) c.loop-number.pages.items) k inv.drew))) (refl, inv.handed)

pub returns-clause-rising : goal.returns-clause-rising
returns-clause-rising g c = pages_rise c.args.segment c.loop-number.invariant

pub returns-clause-labels : goal.returns-clause-labels
returns-clause-labels g c = pages_in_tree c.args.segment c.loop-number.invariant
