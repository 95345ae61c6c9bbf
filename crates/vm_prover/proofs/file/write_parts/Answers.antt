use Rattle.vm_prover.proofs.Writes.{parts_go_on, parts_written}
use Rattle.vm_prover.proofs.file.write_parts.Goals as goal

pub returns-clause-writes : goal.returns-clause-writes
returns-clause-writes g c =
    let r = c.requires.segment in
    parts_go_on _ _ c.args.parts.now c.args.writer.now c.segment.new.self _ _ _ r.0 r.1.1.0 c.deref.ensures.value c.deref-2.ensures.value c.segment.ensures r.1.0 r.1.1.1

pub returns-clause-written : goal.returns-clause-written
returns-clause-written g c = parts_written _ _ c.args.parts.now c.args.writer.now c.segment.new.self _ _ _ c.deref.ensures.value c.deref-2.ensures.value c.segment.ensures
