use Rattle.std.proofs.Common.{arith, sym}
use Rattle.elf_image.proofs.Members.{All_in}
use Rattle.elf_image.proofs.Searches.{byte_before, begins_before, byte_here, byte_past}
use Rattle.elf_image.proofs.image.Image.byte.Goals as goal

pub returns-then-begun-eq0 : goal.returns-then-begun-eq0
returns-then-begun-eq0 c =
    let own = c.self.inside in
    let laid = c.self.invariant.0 in
    let ends = rw c.deref.ensures.value at c.count_begun-begun.ensures.begun in
    rw (← c.self.view_is) (sym (byte_before own.file.items own.loads.items laid.apart (All_in _ _ laid.fit.held) c.args.address c.count_begun-begun.result ends c.if-begun-eq0.true))

pub overflow_sub-offset : goal.overflow_sub-offset
overflow_sub-offset c =
    let own = c.self.inside in
    let laid = c.self.invariant.0 in
    let ends = rw c.deref.ensures.value at c.count_begun-begun.ensures.begun in
    let within = rw c.deref.ensures.value at c.count_begun-begun.ensures.within in
    begins_before own.file.items own.loads.items laid.apart (All_in _ _ laid.fit.held) c.args.address c.count_begun-begun.result ends c.index.result.now c.index.ensures (omega arith) within

pub returns-then-offset-bytes : goal.returns-then-offset-bytes
returns-then-offset-bytes c =
    let own = c.self.inside in
    let laid = c.self.invariant.0 in
    let ends = rw c.deref.ensures.value at c.count_begun-begun.ensures.begun in
    let within = rw c.deref.ensures.value at c.count_begun-begun.ensures.within in
    let bytes = rw c.deref-2.ensures.value at c.bytes_of-bytes.ensures in
    let inside = rw bytes at c.if-offset-bytes.true in
    rw (← c.self.view_is, bytes) (sym (byte_here own.file.items own.loads.items laid.apart (All_in _ _ laid.fit.held) c.args.address c.count_begun-begun.result ends c.index.result.now c.index.ensures (omega arith) within inside))

pub returns-else-offset-bytes : goal.returns-else-offset-bytes
returns-else-offset-bytes c =
    let own = c.self.inside in
    let laid = c.self.invariant.0 in
    let ends = rw c.deref.ensures.value at c.count_begun-begun.ensures.begun in
    let within = rw c.deref.ensures.value at c.count_begun-begun.ensures.within in
    let bytes = rw c.deref-2.ensures.value at c.bytes_of-bytes.ensures in
    let past = rw bytes at c.if-offset-bytes.false in
    rw (← c.self.view_is) (sym (byte_past own.file.items own.loads.items laid.apart (All_in _ _ laid.fit.held) c.args.address c.count_begun-begun.result ends c.index.result.now c.index.ensures (omega arith) within past))
