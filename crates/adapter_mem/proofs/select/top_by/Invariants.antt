use Rattle.std.proofs.Common.{◌≡◌, drop, map}
use Rattle.air_core.specs.Ring.{field}
use Rattle.adapter_mem.specs.Forms.{selected_from}
use Rattle.adapter_mem.specs.Select.{top_of}
use Rattle.adapter_mem.proofs.select.top_by.Given as goal

abbrev pub invariant-loop-i : goal.invariant-loop-i
invariant-loop-i l = selected_from field l.sum (drop l.i l.flags) (map (top_of field l.block) (drop l.i l.forms)) ≡ selected_from field 0 l.flags (map (top_of field l.block) l.forms)
