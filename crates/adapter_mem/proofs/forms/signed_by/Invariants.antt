use Rattle.std.proofs.Common.{◌≡◌, drop, map}
use Rattle.vm_isa.specs.Instr.{bit_of}
use Rattle.air_core.specs.Flags.{weighted_from}
use Rattle.air_core.specs.Ring.{field}
use Rattle.adapter_mem.proofs.forms.signed_by.Given as goal

abbrev pub invariant-loop-i : goal.invariant-loop-i
invariant-loop-i l = weighted_from field l.sum (drop l.i l.flags) (map (λ f. bit_of f.signed) (drop l.i l.forms)) ≡ weighted_from field 0 l.flags (map (λ f. bit_of f.signed) l.forms)
