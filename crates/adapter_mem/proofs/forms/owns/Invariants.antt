use Rattle.std.proofs.Common.{◌≡◌, nat_eq, drop}
use Rattle.std.specs.List.{list_any}
use Rattle.adapter_mem.specs.Forms.{opcodes_of}
use Rattle.adapter_mem.proofs.forms.owns.Given as goal

abbrev pub invariant-loop-form : goal.invariant-loop-form
invariant-loop-form l = list_any (nat_eq l.op) (opcodes_of l.forms) ≡ list_any (nat_eq l.op) (opcodes_of (drop l.form-index l.forms))
