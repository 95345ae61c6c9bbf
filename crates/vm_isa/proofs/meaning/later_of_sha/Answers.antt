use Rattle.std.proofs.Common.{length, sym, ◌∙◌, arith}
use Rattle.vm_isa.specs.Means.{word_at}
use Rattle.vm_isa.proofs.PlaceLaws.{in_sha-state, in_sha-past}
use Rattle.vm_isa.proofs.meaning.later_of_sha.Goals as goal

pub returns-then-number-ge26 : goal.returns-then-number-ge26
returns-then-number-ge26 c = c.past.ensures ∙ sym (in_sha-past c.args.instr.now (word_at c.args.old.now 0) (word_at c.args.old.now 1) (length c.args.old.now) (omega (arith, c.if-number-ge26.true)))

pub returns-else-slot-lt18 : goal.returns-else-slot-lt18
returns-else-slot-lt18 c =
    let at = in_sha-state c.args.instr.now (word_at c.args.old.now 0) (word_at c.args.old.now 1) (length c.args.old.now) (omega arith) (omega arith) in
    cc
