use Rattle.std.proofs.Common.{take}
use Rattle.std.specs.List.{flat_map}
use Rattle.table_format.specs.Texts.{raw_text}
use Rattle.table_format.proofs.Putting.{no_error}
use Rattle.table_format.specs.Writing.{Puts}
use Rattle.table_format.proofs.table_writer.put.put_digests.Given as goal

-- those so far were written
abbrev pub invariant-digests : goal.invariant-digests
invariant-digests g l = Puts (flat_map raw_text (take l.digest-index l.digests)) l.fn.waiting.items l.waiting.items (g.H.Host.state l.fn.host) (g.H.Host.state l.host) no_error
