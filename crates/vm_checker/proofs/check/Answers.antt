use Rattle.std.proofs.Common.{◌≡◌, refl, sym, ap, subst, ◌∙◌}
use Rattle.vm_host.specs.declared.Slot.TheVariants.{Second}
use Rattle.vm_checker.proofs.Judging.{checks_file, checks_head}
use Rattle.vm_checker.proofs.check.Goals as goal

pub returns-in-Ok : goal.returns-in-Ok
returns-in-Ok g c =
    checks_file (g.E.Extension.system c.args.ext.now) c.args.image.now c.check_body.result ((g.met.H.Host.bytes c.args.host.now).rest Second) (rw c.in-Ok.is at c.read_head.ensures) c.check_body.ensures

pub returns-in-Err : goal.returns-in-Err
returns-in-Err g c = rw c.verdict_of.ensures (checks_head (g.E.Extension.system c.args.ext.now) c.args.image.now c.in-Err.stop (rw c.in-Err.is at c.read_head.ensures))
