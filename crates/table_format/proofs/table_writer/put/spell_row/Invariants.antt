use Rattle.std.proofs.Common.{◌≡◌, ◌*◌, ◌++◌, take, drop}
use Rattle.std.specs.List.{flat_map}
use Rattle.table_format.specs.Texts.{number_text}
use Rattle.table_format.proofs.table_writer.put.spell_row.Given as goal

-- those so far are spelled, and the rest of the buffer is as it was
abbrev pub invariant-values : goal.invariant-values
invariant-values l = l.text ≡ flat_map number_text (take l.place l.row) ++ drop (4 * l.place) l.fn.text
