use Rattle.std.proofs.Common.{◌∙◌}
use Rattle.std.proofs.lemmas.List.{append-nil}
use Rattle.table_format.proofs.Putting.{puts_both, puts_as}
use Rattle.table_format.proofs.Closing.{wrote, wrote_part}
use Rattle.table_format.proofs.table_writer.writing.write_segment.Goals as goal

pub returns-in_err-put_segment-clause-wrote : goal.returns-in_err-put_segment-clause-wrote
returns-in_err-put_segment-clause-wrote g c = wrote_part _ c.from_residual.result c.from_residual.ensures.1 c.requires.none c.in_err-put_segment.ensures

pub returns-in_err-put_segment-clause-creating : goal.returns-in_err-put_segment-clause-creating
returns-in_err-put_segment-clause-creating g c = c.in_err-put_segment.ensures.creating ∙ c.requires.«open»

pub returns-clause-wrote : goal.returns-clause-wrote
returns-clause-wrote g c = wrote c.flush.result c.requires.none (puts_as (append-nil _) (puts_both c.in_ok-put_segment.ensures c.flush.ensures.puts)) c.flush.ensures.none

pub returns-clause-creating : goal.returns-clause-creating
returns-clause-creating g c = c.flush.ensures.puts.creating ∙ c.in_ok-put_segment.ensures.creating ∙ c.requires.«open»
