use Rattle.std.proofs.Common.{◌≡◌, map, filter}
use Rattle.std.specs.List.{range_with_len}
use Rattle.elf_image.specs.Elf.{header_at, is_load}
use Rattle.elf_image.proofs.headers.read_loads.Given as goal

-- the loads among the headers so far
abbrev pub invariant-loop-place : goal.invariant-loop-place
invariant-loop-place l = l.loads.items ≡ filter is_load (map (header_at l.bytes) (range_with_len 0 l.place))
