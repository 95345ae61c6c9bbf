use Rattle.std.proofs.Common.{◌≡◌, drop}
use Rattle.air_core.specs.Ring.{field}
use Rattle.adapter_mem.specs.Forms.{selected_from}
use Rattle.adapter_mem.proofs.forms.selected.Given as goal

abbrev pub invariant-loop-i : goal.invariant-loop-i
invariant-loop-i l = selected_from field l.sum (drop l.i l.flags) (drop l.i l.values) ≡ selected_from field 0 l.flags l.values
