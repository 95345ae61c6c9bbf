use Rattle.std.proofs.Common.{◌≡◌, ◌+◌, drop}
use Rattle.adapter_mem.specs.Forms.{place_in}
use Rattle.adapter_mem.proofs.forms.place_in.Given as goal

abbrev pub invariant-loop-form : goal.invariant-loop-form
invariant-loop-form l = (l.place ≡ l.form-index) × (place_in l.forms l.op l.shift ≡ l.place + place_in (drop l.form-index l.forms) l.op l.shift)
