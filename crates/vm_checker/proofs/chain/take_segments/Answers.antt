use Rattle.std.proofs.Common.{◌≡◌, ℕ, ◌≤◌, ◌<◌, Bool, true, false, Option, None, refl, subst, arith}
use Rattle.readings.specs.Readings.{by_mark}
use Rattle.table_format.proofs.Drawn.{Drew, drew_of, drew_is, drew_answers, halts_of, halts_answers}
use Rattle.vm_checker.specs.FirstReason.{open_test}
use Rattle.vm_checker.specs.Items.{mark_of, more_test}
use Rattle.vm_checker.proofs.ChainTaken.{chain_begins, chain_mark_halts, chain_more, chain_segment_halts, chain_ends, last_mark}
use Rattle.vm_checker.proofs.chain.take_segments.Goals as goal

pub loop-init : goal.loop-init
loop-init g c = chain_begins (g.E.Extension.system c.args.ext.now) c.args.image.now c.args.version c.args.stream.now (g.H.Host.state c.args.host.now) c.in_ok-chain.chain c.requires.open c.in_ok-chain.ensures

pub returns-in_err-take_mark : goal.returns-in_err-take_mark
returns-in_err-take_mark g c =
    let low : c.loop.counter ≤ 4096 = omega (arith, c.loop-test.true) in
    halts_answers c.from_residual-in_err-take_mark.result c.from_residual-in_err-take_mark.ensures.1
    (chain_mark_halts (g.E.Extension.system c.args.ext.now) c.args.image.now c.args.version c.loop.invariant low (halts_of c.in_err-take_mark.ensures.reads))

pub returns-then-not-branch : goal.returns-then-not-branch
returns-then-not-branch g c =
    let k = c.loop.chain in
    let low : c.loop.counter ≤ 4096 = omega (arith, c.loop-test.true) in
    let none : c.in_ok-take_mark.field-0 ≡ false = c.if-not-branch.true in
    let mark = subst (λ (more : Bool). Drew (mark_of k.ended k.segments) c.loop.stream c.take_mark.new.stream (g.H.Host.state c.loop.host) (g.H.Host.state c.take_mark.new.host) more) none (drew_is c.in_ok-take_mark.ensures.reads) in
    let passes = subst (λ (more : Bool). by_mark (more_test k.ended k.segments) (open_test k.ended) more ≡ None) none c.in_ok-take_mark.ensures.passes in
    drew_answers _ (chain_ends (g.E.Extension.system c.args.ext.now) c.args.image.now c.args.version c.loop.invariant low passes mark) c.loop.invariant.is

pub returns-in_err-take_segment : goal.returns-in_err-take_segment
returns-in_err-take_segment g c =
    let k = c.loop.chain in
    let low : c.loop.counter < 4096 = omega (arith, c.loop-test.true) in
    let some : c.in_ok-take_mark.field-0 ≡ true = c.if-not-branch.false in
    let mark = subst (λ (more : Bool). Drew (mark_of k.ended k.segments) c.loop.stream c.take_mark.new.stream (g.H.Host.state c.loop.host) (g.H.Host.state c.take_mark.new.host) more) some (drew_is c.in_ok-take_mark.ensures.reads) in
    let passes = subst (λ (more : Bool). by_mark (more_test k.ended k.segments) (open_test k.ended) more ≡ None) some c.in_ok-take_mark.ensures.passes in
    halts_answers c.from_residual-in_err-take_segment.result c.from_residual-in_err-take_segment.ensures.1
    (chain_segment_halts (g.E.Extension.system c.args.ext.now) c.args.image.now c.args.version c.loop.invariant low passes mark c.args.program.now c.requires.program (halts_of c.in_err-take_segment.ensures))

pub loop-preserved : goal.loop-preserved
loop-preserved g c =
    let k = c.loop.chain in
    let low : c.loop.counter < 4096 = omega (arith, c.loop-test.true) in
    let some : c.in_ok-take_mark.field-0 ≡ true = c.if-not-branch.false in
    let mark = subst (λ (more : Bool). Drew (mark_of k.ended k.segments) c.loop.stream c.take_mark.new.stream (g.H.Host.state c.loop.host) (g.H.Host.state c.take_mark.new.host) more) some (drew_is c.in_ok-take_mark.ensures.reads) in
    let passes = subst (λ (more : Bool). by_mark (more_test k.ended k.segments) (open_test k.ended) more ≡ None) some c.in_ok-take_mark.ensures.passes in
    let d = drew_of c.in_ok-take_segment.ensures in
    chain_more (g.E.Extension.system c.args.ext.now) c.args.image.now c.args.version c.loop.invariant low passes mark c.args.program.now c.requires.program d.0 c.take_segment.new.chain d.2 d.1

pub returns-in_err-take_mark-2 : goal.returns-in_err-take_mark-2
returns-in_err-take_mark-2 g c =
    let low : c.loop.counter ≤ 4096 = omega (arith, c.loop.auto.counter-end) in
    halts_answers c.from_residual-in_err-take_mark-2.result c.from_residual-in_err-take_mark-2.ensures.1
    (chain_mark_halts (g.E.Extension.system c.args.ext.now) c.args.image.now c.args.version c.loop.invariant low (halts_of c.in_err-take_mark-2.ensures.reads))

pub returns : goal.returns
returns g c =
    let k = c.loop.chain in
    let all : c.loop.counter ≡ 4096 = omega (arith, c.loop.auto.counter-end, c.loop-test.false) in
    let low : c.loop.counter ≤ 4096 = omega (arith, all) in
    let none : c.in_ok-take_mark-2.field-0 ≡ false = last_mark (g.E.Extension.system c.args.ext.now) c.args.image.now c.args.version c.loop.invariant all c.in_ok-take_mark-2.field-0 c.in_ok-take_mark-2.ensures.passes in
    let mark = subst (λ (more : Bool). Drew (mark_of k.ended k.segments) c.loop.stream c.take_mark-2.new.stream (g.H.Host.state c.loop.host) (g.H.Host.state c.take_mark-2.new.host) more) none (drew_is c.in_ok-take_mark-2.ensures.reads) in
    let passes = subst (λ (more : Bool). by_mark (more_test k.ended k.segments) (open_test k.ended) more ≡ None) none c.in_ok-take_mark-2.ensures.passes in
    drew_answers _ (chain_ends (g.E.Extension.system c.args.ext.now) c.args.image.now c.args.version c.loop.invariant low passes mark) c.loop.invariant.is
