use Rattle.std.proofs.Common.{◌≡◌, drop}
use Rattle.elf_image.specs.Layout.{follow}
use Rattle.elf_image.proofs.refusals.overlap.Given as goal

-- the loads that are left decide
abbrev pub invariant-loop-load : goal.invariant-loop-load
invariant-loop-load l = follow 0 l.loads ≡ follow l.end (drop l.load-index l.loads)
