use Rattle.page_tree.specs.Kept.{leaves_of}
use Rattle.vm_executor.specs.State.{machine_of}
use Rattle.vm_prover.proofs.Whole.{finish_goes_on, later_of, run_of, to_write, whole}
use Rattle.vm_prover.proofs.file.write_run.Goals as goal

pub write_segments-requires-clause-ready : goal.write_segments-requires-clause-ready
write_segments-requires-clause-ready g c =
    let fits = g.met.E.Extension.fits c.args.ext.now in (
      run_of _ fits _ _ c.args.ending.now c.args.writer.now c.requires.can c.requires.ends,
      to_write _ fits _ _ c.args.ending.now c.args.writer.now c.requires.can c.requires.ends _ _ (machine_of c.new-machine.result) (leaves_of c.in_ok-tree.tree) _ c.requires.over c.as_slice-lengths.ensures.value c.new-machine.ensures.start c.in_ok-tree.ensures c.requires.begun,
    )

pub finish-requires-clause-open : goal.finish-requires-clause-open
finish-requires-clause-open g c =
    let fits = g.met.E.Extension.fits c.args.ext.now in
    let run = run_of _ fits _ _ c.args.ending.now c.args.writer.now c.requires.can c.requires.ends in
    let to = to_write _ fits _ _ c.args.ending.now c.args.writer.now c.requires.can c.requires.ends _ _ (machine_of c.new-machine.result) (leaves_of c.in_ok-tree.tree) _ c.requires.over c.as_slice-lengths.ensures.value c.new-machine.ensures.start c.in_ok-tree.ensures c.requires.begun in
    let so = c.in_ok-write_segments.ensures.written run to in
    λ sound. so.creating

pub finish-requires-clause-going : goal.finish-requires-clause-going
finish-requires-clause-going g c =
    let fits = g.met.E.Extension.fits c.args.ext.now in
    let run = run_of _ fits _ _ c.args.ending.now c.args.writer.now c.requires.can c.requires.ends in
    let to = to_write _ fits _ _ c.args.ending.now c.args.writer.now c.requires.can c.requires.ends _ _ (machine_of c.new-machine.result) (leaves_of c.in_ok-tree.tree) _ c.requires.over c.as_slice-lengths.ensures.value c.new-machine.ensures.start c.in_ok-tree.ensures c.requires.begun in
    let so = c.in_ok-write_segments.ensures.written run to in
    so.writing.unfinished

pub returns-clause-writes : goal.returns-clause-writes
returns-clause-writes g c =
    let fits = g.met.E.Extension.fits c.args.ext.now in
    let run = run_of _ fits _ _ c.args.ending.now c.args.writer.now c.requires.can c.requires.ends in
    let to = to_write _ fits _ _ c.args.ending.now c.args.writer.now c.requires.can c.requires.ends _ _ (machine_of c.new-machine.result) (leaves_of c.in_ok-tree.tree) _ c.requires.over c.as_slice-lengths.ensures.value c.new-machine.ensures.start c.in_ok-tree.ensures c.requires.begun in
    let so = c.in_ok-write_segments.ensures.written run to in
    finish_goes_on (record { code = c.args.ending.now.code; public = c.args.ending.now.public; path = c.public_path.result }) c.write_segments.new.writer c.finish.new.self _ _ _ _ (later_of _ _ _ c.write_segments.ensures.writes) so.writing.sound c.finish.ensures

pub returns-clause-whole : goal.returns-clause-whole
returns-clause-whole g c =
    let fits = g.met.E.Extension.fits c.args.ext.now in
    let run = run_of _ fits _ _ c.args.ending.now c.args.writer.now c.requires.can c.requires.ends in
    let to = to_write _ fits _ _ c.args.ending.now c.args.writer.now c.requires.can c.requires.ends _ _ (machine_of c.new-machine.result) (leaves_of c.in_ok-tree.tree) _ c.requires.over c.as_slice-lengths.ensures.value c.new-machine.ensures.start c.in_ok-tree.ensures c.requires.begun in
    let so = c.in_ok-write_segments.ensures.written run to in
    whole _ fits _ _ c.args.ending.now c.args.writer.now c.requires.can c.requires.ends _ _ (machine_of c.new-machine.result) (machine_of c.write_segments.new.machine) (leaves_of c.in_ok-tree.tree) (leaves_of c.write_segments.new.tree)
    c.write_segments.new.writer c.finish.new.self _ _ _ _ _ c.as_slice-lengths.ensures.value to so
    (λ i. record { code = c.args.ending.now.code; public = c.args.ending.now.public; path = c.public_path.ensures i }) c.finish.ensures
