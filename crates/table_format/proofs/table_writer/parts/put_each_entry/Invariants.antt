use Rattle.std.proofs.Common.{take}
use Rattle.std.specs.List.{flat_map}
use Rattle.table_format.specs.Texts.{entry_text}
use Rattle.table_format.proofs.Putting.{no_error}
use Rattle.table_format.specs.Writing.{Puts}
use Rattle.table_format.proofs.table_writer.parts.put_each_entry.Given as goal

-- those so far were written
abbrev pub invariant-entries : goal.invariant-entries
invariant-entries g l = Puts (flat_map entry_text (take l.entry-index l.entries)) l.fn.waiting.items l.waiting.items (g.H.Host.state l.fn.host) (g.H.Host.state l.host) no_error
