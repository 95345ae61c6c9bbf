use Rattle.std.proofs.Common.{◌≡◌, ℕ, ◌+◌, ◌<◌, ◌≤◌, List, length, take, Some, [], ◌∷◌, sym, ap, ◌∙◌, subst, arith, length-append, slice_index_or}
use Rattle.std.specs.List.{AllByRecursion}
use Rattle.air_core.specs.ListLemmas.{all_append}
use Rattle.vm_isa.specs.declared.access.TimedAccess.{TimedAccess}
use Rattle.vm_isa.specs.Blocks.{Meets}
use Rattle.vm_isa.specs.Means.{Meaning, means_of, next_access_of}
use Rattle.vm_isa.specs.Words.{IsWord}
use Rattle.vm_executor.specs.declared.block.Reached.{Reached}
use Rattle.vm_executor.specs.Memory.{now_of, times_of}
use Rattle.vm_executor.specs.Read.{IsNext}
use Rattle.vm_executor.specs.Write.{ArePlanned}
use Rattle.vm_executor.proofs.ReadLemmas.{words_few}
use Rattle.vm_executor.proofs.WriteLemmas.{met, planned_all, planned_next}
use Rattle.vm_executor.proofs.write.plan.Goals as goal

pub overflow_cast-number : goal.overflow_cast-number
overflow_cast-number c =
    let low : c.loop-number.number < length c.args.reading.now.blocks.items = subst (λ (bs : List Reached). c.loop-number.number < length bs) c.deref-block-items.ensures.value c.loop-number-test.true in
    omega (arith, low, c.requires.reached.count, words_few c.args.instr.now c.args.reading.now.words.items c.requires.whole)

pub overflow_add-time : goal.overflow_add-time
overflow_add-time c =
    let i = c.args.instr.now in
    let words = c.args.reading.now.words.items in
    let number = c.loop-number.number in
    let none : Reached = record { slot = 0; space = 0; pointer = 0; page = 0 } in
    let same = c.deref-block-items.ensures.value in
    let low : number < length c.args.reading.now.blocks.items = subst (λ (bs : List Reached). number < length bs) same c.loop-number-test.true in
    let next = c.requires.reached.each number none low in
    let slot : (slice_index_or c.deref-block-items.result.now number none).slot < 26 =
    subst (λ (bs : List Reached). (slice_index_or bs number none).slot < 26) (sym same)
    (met i (now_of c.args.memory.now) words c.args.given number _ _ _ c.requires.whole c.requires.meets (omega (arith, low, c.requires.reached.count)) next.is).is.low in
    omega (arith, slot, c.requires.early)

pub push-requires : goal.push-requires
push-requires c =
    let low : c.loop-number.number < length c.args.reading.now.blocks.items = subst (λ (bs : List Reached). c.loop-number.number < length bs) c.deref-block-items.ensures.value c.loop-number-test.true in
    omega (arith, low, c.requires.reached.count, words_few c.args.instr.now c.args.reading.now.words.items c.requires.whole, c.loop-number.invariant.count)

pub loop-number-preserved : goal.loop-number-preserved
loop-number-preserved c =
    let i = c.args.instr.now in
    let kept = c.args.memory.now in
    let words = c.as_slice-words.result.now in
    let value = c.as_slice-words.ensures.value in
    let bs = c.deref-block-items.result.now in
    let same = c.deref-block-items.ensures.value in
    let number = c.loop-number.number in
    let none : Reached = record { slot = 0; space = 0; pointer = 0; page = 0 } in
    let block = slice_index_or bs number none in
    let low : number < length c.args.reading.now.blocks.items = subst (λ (xs : List Reached). number < length xs) same c.loop-number-test.true in
    let next = subst (λ (ws : List (List ℕ)). IsNext i kept ws number block) (sym value) (subst (λ (xs : List Reached). IsNext i kept c.args.reading.now.words.items number (slice_index_or xs number none)) (sym same) (c.requires.reached.each number none low)) in
    let whole = ap (next_access_of i) value ∙ c.requires.whole in
    let meets = subst (λ (ws : List (List ℕ)). (word : List ℕ) (m : Meaning) → means_of i ws word ≡ Some m → Meets (now_of kept) m.accesses) (sym value) c.requires.meets in
    let there = met i (now_of kept) words c.args.given number block.slot block.space block.pointer whole meets (omega (arith, low, c.requires.reached.count, ap length value)) next.is in
    let pushed = c.in_ok-push.ensures.ok in
    record {
      count = ap length pushed ∙ length-append c.loop-number.planned (_ ∷ []) ∙ ap (λ (n : ℕ). n + 1) c.loop-number.invariant.count;
      words = subst (λ (done : List TimedAccess). AllByRecursion (λ a. IsWord a.access.old) done) (sym pushed) (all_append (λ (a : TimedAccess). IsWord a.access.old) c.loop-number.planned (_ ∷ []) c.loop-number.invariant.words (record { four = c.is_word.ensures.four; bytes = c.is_word.ensures.bytes }, tt));
      made = λ m h.
          subst (λ (done : List TimedAccess). ArePlanned c.args.time (take (number + 1) m.accesses) (times_of kept) done) (sym pushed)
          (planned_next i (now_of kept) words c.args.given number block.slot block.space block.pointer c.args.time c.new_word.result c.time_after-before.result (times_of kept) c.loop-number.planned m
          there (ap (λ (ws : List (List ℕ)). means_of i ws c.args.given) value ∙ h) c.new_word.ensures.0 c.new_word.ensures.1 c.new_word.ensures.2 (c.loop-number.invariant.made m h) (c.time_after-before.ensures (times_of kept) (sym c.time.ensures)));
    }

pub returns-clause-planned : goal.returns-clause-planned
returns-clause-planned c = λ m h.
    let high : length c.args.reading.now.words.items ≤ c.loop-number.number = omega (arith, c.loop-number-test.false, ap length c.deref-block-items.ensures.value, c.requires.reached.count) in
    planned_all c.args.instr.now c.args.reading.now.words.items c.args.given m c.args.time c.loop-number.number (times_of c.args.memory.now) c.loop-number.planned h high (c.loop-number.invariant.made m h)
