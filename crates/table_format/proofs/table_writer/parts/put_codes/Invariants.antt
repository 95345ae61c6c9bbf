use Rattle.std.proofs.Common.{take}
use Rattle.std.specs.List.{flat_map}
use Rattle.table_format.specs.Writing.{code_text}
use Rattle.table_format.proofs.Putting.{no_error}
use Rattle.table_format.specs.Writing.{Puts}
use Rattle.table_format.proofs.table_writer.parts.put_codes.Given as goal

-- those so far were written
abbrev pub invariant-tables : goal.invariant-tables
invariant-tables g l = Puts (flat_map code_text (take l.table l.tables.tables)) l.fn.waiting.items l.waiting.items (g.H.Host.state l.fn.host) (g.H.Host.state l.host) no_error
