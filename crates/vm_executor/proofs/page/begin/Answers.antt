use Rattle.std.proofs.Common.{refl}
use Rattle.vm_executor.proofs.page.begin.Goals as goal

pub returns-clause-whole : goal.returns-clause-whole
returns-clause-whole c = λ whole. record { old = whole.new; new = whole.new; times = refl }
