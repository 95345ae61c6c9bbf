use Rattle.std.proofs.Common.{◌≡◌, Bool, true, false, Ok, subst}
use Rattle.table_format.specs.Stream.{TellsEnd}
use Rattle.vm_checker.proofs.WholeTaken.{reads_stopped, end_stopped, reads_all, reads_trailing}
use Rattle.vm_checker.proofs.body.take_whole.Goals as goal

pub returns-in_err-accepted : goal.returns-in_err-accepted
returns-in_err-accepted g c = reads_stopped _ _ c.from_residual.result c.from_residual.ensures.1 c.in_err-accepted.ensures

pub returns-in_err-at_end : goal.returns-in_err-at_end
returns-in_err-at_end g c = end_stopped _ _ c.from_residual-in_err-at_end.result c.from_residual-in_err-at_end.ensures.1 c.in_ok-accepted.ensures c.in_err-at_end.ensures

pub returns-then-branch : goal.returns-then-branch
returns-then-branch g c =
    reads_all _ _ c.in_ok-accepted.ensures (subst (λ (ended : Bool). TellsEnd c.take_body.new.stream c.at_end.new.self (g.H.Host.state c.take_body.new.host) (g.H.Host.state c.at_end.new.host) (Ok ended)) c.if-branch.true c.in_ok-at_end.ensures)

pub returns-else-branch : goal.returns-else-branch
returns-else-branch g c =
    reads_trailing _ _ c.offset.result c.offset.ensures c.in_ok-accepted.ensures (subst (λ (ended : Bool). TellsEnd c.take_body.new.stream c.at_end.new.self (g.H.Host.state c.take_body.new.host) (g.H.Host.state c.at_end.new.host) (Ok ended)) c.if-branch.false c.in_ok-at_end.ensures)
