use Rattle.std.proofs.Common.{ℕ, ◌≤◌, subst}
use Rattle.adapter_regs.specs.Core.{operands}
use Rattle.chip_mul.proofs.Parts.{length-lookups}
use Rattle.chip_mul.proofs.MulCoreRegsCore.lookups.Goals as goal

pub emit_products-requires-clause-room : goal.emit_products-requires-clause-room
emit_products-requires-clause-room g c =
    subst (λ (n : ℕ). n ≤ g.S.EventSink.room c.args.sink.now) (length-lookups (operands c.args.flags.now c.args.left c.args.right c.args.own.now)) c.requires.room
