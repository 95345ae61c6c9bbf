use Rattle.std.proofs.Common.{[], sym, ap, ◌∙◌, subst, arith}
use Rattle.vm_trace.specs.Pages.{block_word}
use Rattle.vm_trace.specs.declared.page.Touched.{Touched}
use Rattle.vm_executor.specs.Memory.{Kept, IsReached, block_in, label_of, now_of}
use Rattle.vm_executor.proofs.KeepLemmas.{found_word}
use Rattle.vm_executor.proofs.SegmentLemmas.{reached_page}
use Rattle.vm_executor.proofs.memory.Memory.word.Goals as goal

pub index-requires : goal.index-requires
index-requires c =
    let kept : Kept = record { loaded = c.self.inside.image.now; pages = c.self.inside.pages.items; reached = c.self.inside.segment.entries } in
    let reached = subst (λ (k : Kept). IsReached k c.args.block.now) (sym c.self.view_is) c.requires in
    let none : Touched = record { label = 0; old = []; new = []; times = [] } in
    omega (arith, (reached_page kept c.args.block.now none c.self.invariant.2 reached).within, c.self.inside.pages.ok.0)

pub returns : goal.returns
returns c =
    let kept : Kept = record { loaded = c.self.inside.image.now; pages = c.self.inside.pages.items; reached = c.self.inside.segment.entries } in
    let reached = subst (λ (k : Kept). IsReached k c.args.block.now) (sym c.self.view_is) c.requires in
    let block = c.args.block.now in
    c.word_of.ensures
    ∙ ap (λ (page : Touched). block_word page.new (block_in block.pointer)) c.index.ensures
    ∙ found_word kept block.space block.pointer block.page c.index.result.now reached.on (c.self.invariant.2.stands (label_of block.space block.pointer) block.page reached.at)
    ∙ ap (λ (k : Kept). now_of k block.space block.pointer) c.self.view_is
