use Rattle.std.proofs.Common.{ℕ, ◌+◌, List, length, [], ◌∷◌, ◌++◌, sym, ap, ◌∙◌, subst, arith, length-append}
use Rattle.vm_isa.specs.Blocks.{Blocks}
use Rattle.vm_isa.specs.Means.{next_access_of}
use Rattle.vm_executor.specs.declared.block.Reached.{Reached}
use Rattle.vm_executor.specs.Memory.{now_of}
use Rattle.vm_executor.specs.Read.{AreReached}
use Rattle.vm_executor.proofs.KeepLemmas.{keeps_both}
use Rattle.vm_executor.proofs.ReadLemmas.{HasRead, read_more, read_none, read_off, read_forced, read_meets, reached_more, at_few}
use Rattle.vm_executor.proofs.read.Reading.read.Goals as goal

pub returns-in-NoMeaning-clause-words : goal.returns-in-NoMeaning-clause-words
returns-in-NoMeaning-clause-words c = λ olds given m h meets.
    read_none c.args.instr.now (now_of c.args.memory.now) c.loop.self.words.items olds given m c.loop.invariant.read
    (ap (next_access_of c.args.instr.now) (sym c.as_slice.ensures.value) ∙ sym c.in-NoMeaning.ensures) h meets

pub returns-in-Done-clause-words : goal.returns-in-Done-clause-words
returns-in-Done-clause-words c =
    let i = c.args.instr.now in
    let blocks = now_of c.args.memory.now in
    let words = c.loop.self.words.items in
    let done = ap (next_access_of i) (sym c.as_slice.ensures.value) ∙ sym c.in-Done.ensures in
    (done, (λ given m h. read_meets i blocks words given m c.loop.invariant.read h), (λ olds given m h meets. read_forced i blocks words olds given m c.loop.invariant.read done h meets))

pub returns-then-not-is_block-clause-words : goal.returns-then-not-is_block-clause-words
returns-then-not-is_block-clause-words c = λ olds given m h meets.
    read_off c.args.instr.now (now_of c.args.memory.now) c.loop.self.words.items olds given m _ c.in-At.space c.in-At.pointer c.loop.invariant.read
    (ap (next_access_of c.args.instr.now) (sym c.as_slice.ensures.value) ∙ sym c.in-At.ensures) (sym c.is_block.ensures ∙ c.if-not-is_block.true) h meets

pub loop-preserved : goal.loop-preserved
loop-preserved c =
    let i = c.args.instr.now in
    let blocks = now_of c.args.memory.now in
    let words = c.loop.self.words.items in
    let at = ap (next_access_of i) (sym c.as_slice.ensures.value) ∙ sym c.in-At.ensures in
    let on = sym c.is_block.ensures ∙ c.if-not-is_block.false in
    let items = c.in_ok-push-in-At.ensures.items in
    let few = at_few i words c.in-At.slot c.in-At.space c.in-At.pointer at in
    let keeps = keeps_both c.args.memory.now c.loop.memory c.reach.new.self c.loop.invariant.keeps c.in_ok-reach-in-At.ensures.keeps in
    let word = c.word.ensures ∙ ap (λ (b : Blocks). b c.in-At.space c.in-At.pointer) keeps.now in
    let block : Reached = record { slot = c.in-At.slot; space = c.in-At.space; pointer = c.in-At.pointer; page = c.in_ok-reach-in-At.field-0 } in
    record {
      count = ap length items ∙ length-append words (c.word.result ∷ []) ∙ ap (λ (n : ℕ). n + 1) c.loop.invariant.count;
      few = omega (arith, few, c.loop.invariant.count);
      keeps = keeps;
      read = subst (HasRead i blocks) (sym items) (read_more i blocks words c.in-At.slot c.in-At.space c.in-At.pointer c.word.result c.loop.invariant.read at on word);
      reached = subst (λ (ws : List (List ℕ)). AreReached i c.reach.new.self ws c.push-in-At.new.self.items) (sym items)
          (subst (AreReached i c.reach.new.self (words ++ c.word.result ∷ [])) (sym c.in_ok-push-in-At-2.ensures.items)
          (reached_more i c.loop.memory c.reach.new.self words c.word.result c.loop.self.blocks.items block c.loop.invariant.reached c.in_ok-reach-in-At.ensures.stays at (record { on = on; at = c.in_ok-reach-in-At.ensures.place })));
    }
