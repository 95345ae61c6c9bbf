use Rattle.std.proofs.Common.{◌≡◌, ◌+◌, ◌*◌, [], ◌++◌, flat_map, get_or, length, take}
use Rattle.std.specs.List.{range_with_len}
use Rattle.gadget_time.specs.Access.{access_at, gap_cells, gap_of}
use Rattle.chip_sha_main.proofs.fill.put_gaps.Given as goal

abbrev pub invariant-loop-i : goal.invariant-loop-i
invariant-loop-i l = record { long : length l.rest ≡ length l.fn.rest; front : take (l.at + 3 * l.i) l.rest ≡ take l.at l.fn.rest ++ flat_map (λ i. gap_cells (gap_of (get_or l.done.accesses (l.from + i) (access_at [] 0)))) (range_with_len 0 l.i) }
