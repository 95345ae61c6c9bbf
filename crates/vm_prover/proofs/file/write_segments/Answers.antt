use Rattle.std.proofs.Common.{◌∙◌, ◌+◌, length, take, nat_eq, subst, ap}
use Rattle.page_tree.specs.Kept.{leaves_of}
use Rattle.vm_executor.specs.State.{machine_of}
use Rattle.vm_prover.specs.Segments.{IsWritten}
use Rattle.vm_prover.proofs.Chapters.{later_then, ready, segment_of_parts, written_more}
use Rattle.vm_prover.proofs.file.write_segments.Goals as goal

pub make_segment-requires-clause-ready : goal.make_segment-requires-clause-ready
make_segment-requires-clause-ready g c =
    let r = c.requires.ready in
    let so = c.loop-count.invariant.written r.0 r.1 in (
      r.0,
      (
        so.segments,
        (
          take c.loop-count.count-index c.args.lengths.now,
          ready _ r.0 _ _ (machine_of c.args.machine.now) (leaves_of c.args.tree.now) c.args.writer.now _ r.1 c.loop-count.count-index 0 c.loop-count-test.true (machine_of c.loop-count.machine) (leaves_of c.loop-count.tree) c.loop-count.writer _ so,
        ),
      ),
    )

pub write_parts-requires-clause-segment : goal.write_parts-requires-clause-segment
write_parts-requires-clause-segment g c =
    let r = c.requires.ready in
    let so = c.loop-count.invariant.written r.0 r.1 in
    let next = ready _ r.0 _ _ (machine_of c.args.machine.now) (leaves_of c.args.tree.now) c.args.writer.now _ r.1 c.loop-count.count-index 0 c.loop-count-test.true (machine_of c.loop-count.machine) (leaves_of c.loop-count.tree) c.loop-count.writer _ so in
    let made = c.in_ok-parts.ensures.made r.0 so.segments (take c.loop-count.count-index c.args.lengths.now) next in
    (r.0.version, (so.writing, (made.segment, segment_of_parts _ r.0 _ _ _ _ _ _ c.in_ok-parts.parts made)))

pub loop-count-preserved : goal.loop-count-preserved
loop-count-preserved g c =
    let i = c.loop-count.invariant in
    record {
      same = c.in_ok-parts.ensures.program ∙ i.same;
      later = later_then _ _ _ _ i.later c.in_ok-write_parts.ensures.writes;
      counted = ap (λ n. n + 1) i.counted;
      written = λ run to.
          let so = i.written run to in
          let next = ready _ run _ _ (machine_of c.args.machine.now) (leaves_of c.args.tree.now) c.args.writer.now _ to c.loop-count.count-index 0 c.loop-count-test.true (machine_of c.loop-count.machine) (leaves_of c.loop-count.tree) c.loop-count.writer _ so in
          let made = c.in_ok-parts.ensures.made run so.segments (take c.loop-count.count-index c.args.lengths.now) next in
          let piece = c.in_ok-write_parts.ensures.written run.version made.segment so.writing (segment_of_parts _ run _ _ _ _ _ _ c.in_ok-parts.parts made) in
          subst (λ n. IsWritten run (nat_eq (n + 1) (length c.args.lengths.now)) (take (c.loop-count.count-index + 1) c.args.lengths.now) (machine_of c.make_segment.new.machine) (leaves_of c.make_segment.new.tree) c.write_parts.new.writer (g.H.Host.state c.write_parts.new.host)) i.counted
          (written_more _ run _ _ c.args.lengths.now c.loop-count.count-index 0 _ _ _ _ c.loop-count.writer c.write_parts.new.writer _ _ c.in_ok-parts.parts c.loop-count-test.true so made piece);
    }
