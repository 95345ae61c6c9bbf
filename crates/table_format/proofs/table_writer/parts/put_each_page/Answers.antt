use Rattle.std.proofs.Common.{ap}
use Rattle.std.specs.List.{flat_map}
use Rattle.std.proofs.lemmas.List.{take_all}
use Rattle.table_format.proofs.Putting.{puts_none, puts_more, puts_stops, puts_as}
use Rattle.table_format.specs.Texts.{page_text}
use Rattle.table_format.proofs.table_writer.parts.put_each_page.Goals as goal

pub pages-init : goal.pages-init
pages-init g c = puts_none _ _

pub returns-in_err-put_page : goal.returns-in_err-put_page
returns-in_err-put_page g c = puts_stops page_text c.args.pages.now c.pages.page-index _ _ c.from_residual.result c.from_residual.ensures.1 c.pages-test.true c.pages.invariant c.in_err-put_page.ensures

pub pages-preserved : goal.pages-preserved
pages-preserved g c = puts_more page_text c.args.pages.now c.pages.page-index _ c.pages-test.true c.pages.invariant c.in_ok-put_page.ensures

pub returns : goal.returns
returns g c = puts_as (ap (flat_map page_text) (take_all c.pages.page-index c.args.pages.now c.pages-test.false)) c.pages.invariant
