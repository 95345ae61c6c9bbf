use Rattle.std.proofs.Common.{ap, ◌∙◌}
use Rattle.page_tree.specs.Parts.{labels_of}
use Rattle.page_tree.proofs.PageLemmas.{labels_of-push}
use Rattle.page_tree.proofs.tests.plain.pages_of.Goals as goal

pub loop-label-init : goal.loop-label-init
unfolding labels_of
loop-label-init c = ap labels_of c.new-pages.ensures.items

pub loop-label-preserved : goal.loop-label-preserved
loop-label-preserved c =
    ap labels_of c.in_ok-push.ensures.items
    ∙ labels_of-push c.loop-label.pages.items c.args.labels.now c.loop-label.label-index c.touched.result c.loop-label-test.true c.loop-label.invariant c.touched.ensures
