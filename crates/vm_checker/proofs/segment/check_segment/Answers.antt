use Rattle.std.proofs.Common.{◌≡◌, ◌∙◌}
use Rattle.std.specs.Prelude.{Some, None}
use Rattle.vm_trace.specs.Limits.{limits_of}
use Rattle.table_format.specs.Items.{bounds_in}
use Rattle.table_format.specs.Order.{segment_of}
use Rattle.table_format.proofs.Drawn.{drew_of, drew_answers, halts_of, halts_first, halts_then, seen_halts, unless_halts, halts_answers, halts_answer, memory_halts}
use Rattle.table_format.proofs.Draws.{draws_both}
use Rattle.vm_checker.specs.FirstReason.{whole_test}
use Rattle.vm_checker.specs.Items.{bounds_test, codes_of, inside_of}
use Rattle.vm_checker.proofs.SegmentRead.{is_segment, drew_at, halts_at, drew_bounds, inside_halts, segment_halts, segment_drew}
use Rattle.vm_checker.proofs.Bridge.{reads_alone}
use Rattle.vm_checker.proofs.segment.check_segment.Goals as goal

pub returns-in_err-bounds : goal.returns-in_err-bounds
returns-in_err-bounds g c =
    reads_alone (g.E.Extension.system c.args.ext.now) c.args.program.now c.args.version c.args.before c.args.place c.from_residual.result (halts_answers c.from_residual.result c.from_residual.ensures.1
    (unless_halts (whole_test c.args.program.now c.args.before c.args.place) (seen_halts segment_of (halts_first _ (halts_of c.in_err-bounds.ensures)))))

pub returns-in_err-codes : goal.returns-in_err-codes
returns-in_err-codes g c =
    let stopped = halts_at (λ greatest. codes_of (g.E.Extension.system c.args.ext.now) greatest c.args.place) c.greatest_code.ensures.greatest (halts_of c.in_err-codes.ensures.reads) in
    reads_alone (g.E.Extension.system c.args.ext.now) c.args.program.now c.args.version c.args.before c.args.place c.from_residual-in_err-codes.result (halts_answers c.from_residual-in_err-codes.result c.from_residual-in_err-codes.ensures.1
    (unless_halts (whole_test c.args.program.now c.args.before c.args.place) (seen_halts segment_of (halts_then _ (drew_bounds c.in_ok-bounds.ensures) (halts_first _ stopped)))))

pub returns-in_err-inside : goal.returns-in_err-inside
returns-in_err-inside g c =
    let x = g.E.Extension.system c.args.ext.now in
    let program = c.args.program.now in
    let place = c.args.place in
    let cs = drew_of c.in_ok-codes.ensures.reads in
    let coded = drew_at (λ greatest. codes_of x greatest place) c.greatest_code.ensures.greatest cs.2 in
    let stopped = halts_at (inside_of x program place (bounds_in c.in_ok-bounds.bounds)) (c.deref.ensures.value ∙ cs.1) (halts_of c.in_err-inside.ensures.reads) in
    reads_alone x program c.args.version c.args.before place c.from_residual-in_err-inside.result (halts_answers c.from_residual-in_err-inside.result c.from_residual-in_err-inside.ensures.1
    (inside_halts (limits_of c.args.version).greatest_code x program c.args.before place (drew_bounds c.in_ok-bounds.ensures) coded stopped))

pub returns-in_err-facts : goal.returns-in_err-facts
returns-in_err-facts g c =
    halts_answers c.from_residual-in_err-facts.result c.from_residual-in_err-facts.ensures.1
    (memory_halts (draws_both c.in_ok-bounds.ensures.kept (draws_both c.in_ok-codes.ensures.reads.kept c.in_ok-inside.ensures.reads.kept)))

pub whole_reason-requires-clause-few : goal.whole_reason-requires-clause-few
whole_reason-requires-clause-few g c = rw c.deref-3.ensures.value c.in_ok-inside.ensures.opens.1.1.1

pub returns-in-Some : goal.returns-in-Some
returns-in-Some g c =
    let x = g.E.Extension.system c.args.ext.now in
    let program = c.args.program.now in
    let place = c.args.place in
    let fails : bounds_test program c.args.before place c.in_ok-bounds.bounds c.in_ok-inside.inside.pages.items c.in_ok-inside.inside.siblings.items ≡ Some c.in-Some.reason =
    cc (c.whole_reason.ensures, c.deref-2.ensures.value, c.deref-3.ensures.value, c.in-Some.is) in
    let cs = drew_of c.in_ok-codes.ensures.reads in
    let v = drew_of c.in_ok-inside.ensures.reads in
    let coded = drew_at (λ greatest. codes_of x greatest place) c.greatest_code.ensures.greatest cs.2 in
    let inside = drew_at (inside_of x program place (bounds_in c.in_ok-bounds.bounds)) (c.deref.ensures.value ∙ cs.1) v.2 in
    reads_alone x program c.args.version c.args.before place _ (halts_answer (segment_halts (limits_of c.args.version).greatest_code x program c.args.before place (drew_bounds c.in_ok-bounds.ensures) coded inside v.1 fails))

pub returns : goal.returns
returns g c =
    let x = g.E.Extension.system c.args.ext.now in
    let program = c.args.program.now in
    let place = c.args.place in
    let passes : bounds_test program c.args.before place c.in_ok-bounds.bounds c.in_ok-inside.inside.pages.items c.in_ok-inside.inside.siblings.items ≡ None =
    cc (c.whole_reason.ensures, c.deref-2.ensures.value, c.deref-3.ensures.value, c.in_default.is) in
    let cs = drew_of c.in_ok-codes.ensures.reads in
    let v = drew_of c.in_ok-inside.ensures.reads in
    let coded = drew_at (λ greatest. codes_of x greatest place) c.greatest_code.ensures.greatest cs.2 in
    let inside = drew_at (inside_of x program place (bounds_in c.in_ok-bounds.bounds)) (c.deref.ensures.value ∙ cs.1) v.2 in
    reads_alone x program c.args.version c.args.before place _ (drew_answers _ (segment_drew (limits_of c.args.version).greatest_code x program c.args.before place (drew_bounds c.in_ok-bounds.ensures) coded inside v.1 passes)
    (is_segment x program c.in_ok-bounds.bounds cs.0 v.0 c.in_ok-inside.inside _ v.1 c.in_ok-facts.ensures))
