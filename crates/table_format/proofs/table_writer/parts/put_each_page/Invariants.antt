use Rattle.std.proofs.Common.{take}
use Rattle.std.specs.List.{flat_map}
use Rattle.table_format.specs.Texts.{page_text}
use Rattle.table_format.proofs.Putting.{no_error}
use Rattle.table_format.specs.Writing.{Puts}
use Rattle.table_format.proofs.table_writer.parts.put_each_page.Given as goal

-- those so far were written
abbrev pub invariant-pages : goal.invariant-pages
invariant-pages g l = Puts (flat_map page_text (take l.page-index l.pages)) l.fn.waiting.items l.waiting.items (g.H.Host.state l.fn.host) (g.H.Host.state l.host) no_error
