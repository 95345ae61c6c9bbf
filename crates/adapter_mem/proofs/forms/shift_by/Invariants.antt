use Rattle.std.proofs.Common.{◌≡◌, drop, map}
use Rattle.air_core.specs.Flags.{weighted_from}
use Rattle.air_core.specs.Ring.{field}
use Rattle.adapter_mem.proofs.forms.shift_by.Given as goal

abbrev pub invariant-loop-i : goal.invariant-loop-i
invariant-loop-i l = weighted_from field l.sum (drop l.i l.flags) (map (λ f. f.shift) (drop l.i l.forms)) ≡ weighted_from field 0 l.flags (map (λ f. f.shift) l.forms)
