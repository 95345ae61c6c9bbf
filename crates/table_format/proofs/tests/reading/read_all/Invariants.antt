use Rattle.std.proofs.Common.{◌≡◌, true}
use Rattle.vm_host.specs.declared.Slot.TheVariants.{Second}
use Rattle.table_format.proofs.tests.reading.read_all.Given as goal

abbrev pub invariant-items : goal.invariant-items
invariant-items g l = record { stays : ((g.H.Host.state l.host).input Second).is_open ≡ true }
