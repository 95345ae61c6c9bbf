use Rattle.std.proofs.Common.{take}
use Rattle.std.specs.List.{flat_map}
use Rattle.table_format.specs.Texts.{number_text}
use Rattle.vm_trace.specs.Contents.{table_at}
use Rattle.table_format.proofs.Putting.{no_error}
use Rattle.table_format.specs.Writing.{Puts}
use Rattle.table_format.proofs.table_writer.parts.put_rows.Given as goal

-- those so far were written
abbrev pub invariant-rows : goal.invariant-rows
invariant-rows g l = Puts (flat_map (flat_map number_text) (take l.place (table_at l.tables l.table).rows)) l.fn.waiting.items l.waiting.items (g.H.Host.state l.fn.host) (g.H.Host.state l.host) no_error
