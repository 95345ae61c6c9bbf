use Rattle.std.proofs.Common.{ℕ, ◌≤◌, subst}
use Rattle.adapter_regs.specs.Core.{operands}
use Rattle.chip_divrem.proofs.Parts.{length-lookups}
use Rattle.chip_divrem.proofs.DivRemCoreRegsCore.lookups.Goals as goal

pub emit_division-requires-clause-room : goal.emit_division-requires-clause-room
emit_division-requires-clause-room g c =
    subst (λ (n : ℕ). n ≤ g.S.EventSink.room c.args.sink.now) (length-lookups (operands c.args.flags.now c.args.left c.args.right c.args.own.now)) c.requires.room
