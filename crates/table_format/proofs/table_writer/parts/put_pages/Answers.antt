use Rattle.std.specs.List.{flat_map}
use Rattle.table_format.proofs.Putting.{puts_both, puts_error}
use Rattle.table_format.specs.Texts.{page_text}
use Rattle.table_format.proofs.table_writer.parts.put_pages.Goals as goal

pub returns-in_err-put_number : goal.returns-in_err-put_number
returns-in_err-put_number g c = puts_error (flat_map page_text c.args.pages.now) _ c.from_residual.result c.from_residual.ensures.1 c.in_err-put_number.ensures

pub returns : goal.returns
returns g c = puts_both c.in_ok-put_number.ensures c.put_each_page.ensures
