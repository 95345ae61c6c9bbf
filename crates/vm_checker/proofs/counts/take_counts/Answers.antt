use Rattle.std.proofs.Common.{ℕ, arith, subst}
use Rattle.air_core.specs.Sink.{handed_both}
use Rattle.table_format.specs.Order.{entries}
use Rattle.table_format.proofs.Drawn.{Drew, drew_of, drew_both, drew_answers, halts_of, halts_first, halts_then, halts_answers}
use Rattle.vm_checker.proofs.counts.take_counts.Goals as goal

pub take_entries-requires-2-clause-room : goal.take_entries-requires-2-clause-room
take_entries-requires-2-clause-room g c = omega (arith, c.requires.room, c.in_ok-take_entries.ensures.left)

pub take_entries-requires-3-clause-room : goal.take_entries-requires-3-clause-room
take_entries-requires-3-clause-room g c = omega (arith, c.requires.room, c.in_ok-take_entries.ensures.left, c.in_ok-take_entries-2.ensures.left)

pub take_entries-requires-4-clause-room : goal.take_entries-requires-4-clause-room
take_entries-requires-4-clause-room g c = omega (arith, c.requires.room, c.in_ok-take_entries.ensures.left, c.in_ok-take_entries-2.ensures.left, c.in_ok-take_entries-3.ensures.left)

pub returns-in_err-take_entries-2-clause-reads : goal.returns-in_err-take_entries-2-clause-reads
returns-in_err-take_entries-2-clause-reads g c =
    halts_answers c.from_residual-in_err-take_entries-2.result c.from_residual-in_err-take_entries-2.ensures.1 (halts_then _ (subst (λ (end : ℕ). Drew (entries end) c.args.stream.now c.take_entries.new.stream (g.H.Host.state c.args.host.now) (g.H.Host.state c.take_entries.new.host) (drew_of c.in_ok-take_entries.ensures.reads).0) c.len.ensures (drew_of c.in_ok-take_entries.ensures.reads).2) (halts_first _ (halts_of c.in_err-take_entries-2.ensures.reads)))

pub returns-in_err-take_entries-3-clause-reads : goal.returns-in_err-take_entries-3-clause-reads
returns-in_err-take_entries-3-clause-reads g c =
    halts_answers c.from_residual-in_err-take_entries-3.result c.from_residual-in_err-take_entries-3.ensures.1
    (halts_then _ (subst (λ (end : ℕ). Drew (entries end) c.args.stream.now c.take_entries.new.stream (g.H.Host.state c.args.host.now) (g.H.Host.state c.take_entries.new.host) (drew_of c.in_ok-take_entries.ensures.reads).0) c.len.ensures (drew_of c.in_ok-take_entries.ensures.reads).2) (halts_then _ (drew_of c.in_ok-take_entries-2.ensures.reads).2 (halts_first _ (halts_of c.in_err-take_entries-3.ensures.reads))))

pub returns-in_err-take_entries-4-clause-reads : goal.returns-in_err-take_entries-4-clause-reads
returns-in_err-take_entries-4-clause-reads g c =
    halts_answers c.from_residual-in_err-take_entries-4.result c.from_residual-in_err-take_entries-4.ensures.1
    (halts_then _ (subst (λ (end : ℕ). Drew (entries end) c.args.stream.now c.take_entries.new.stream (g.H.Host.state c.args.host.now) (g.H.Host.state c.take_entries.new.host) (drew_of c.in_ok-take_entries.ensures.reads).0) c.len.ensures (drew_of c.in_ok-take_entries.ensures.reads).2) (halts_then _ (drew_of c.in_ok-take_entries-2.ensures.reads).2 (halts_then _ (drew_of c.in_ok-take_entries-3.ensures.reads).2 (halts_of c.in_err-take_entries-4.ensures.reads))))

pub returns-clause-left : goal.returns-clause-left
returns-clause-left g c = omega (arith, c.in_ok-take_entries.ensures.left, c.in_ok-take_entries-2.ensures.left, c.in_ok-take_entries-3.ensures.left, c.in_ok-take_entries-4.ensures.left)

pub returns-clause-reads : goal.returns-clause-reads
returns-clause-reads g c =
    let one = drew_of c.in_ok-take_entries.ensures.reads in
    let two = drew_of c.in_ok-take_entries-2.ensures.reads in
    let three = drew_of c.in_ok-take_entries-3.ensures.reads in
    let four = drew_of c.in_ok-take_entries-4.ensures.reads in
    drew_answers _ (drew_both _ (subst (λ (end : ℕ). Drew (entries end) c.args.stream.now c.take_entries.new.stream (g.H.Host.state c.args.host.now) (g.H.Host.state c.take_entries.new.host) (drew_of c.in_ok-take_entries.ensures.reads).0) c.len.ensures (drew_of c.in_ok-take_entries.ensures.reads).2) (drew_both _ two.2 (drew_both _ three.2 four.2))) (handed_both one.1 (handed_both two.1 (handed_both three.1 four.1)))
