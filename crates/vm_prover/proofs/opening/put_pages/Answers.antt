use Rattle.vm_prover.proofs.TreePuts.{label_low, no_puts, put_more}
use Rattle.vm_prover.proofs.opening.put_pages.Goals as goal

pub loop-page-init : goal.loop-page-init
loop-page-init c = no_puts _

pub put-requires : goal.put-requires
put-requires c = label_low _ _ _ c.requires.in_tree c.loop-page-test.true

pub loop-page-preserved : goal.loop-page-preserved
loop-page-preserved c = put_more _ _ _ _ _ _ c.requires.rising c.loop-page-test.true c.loop-page.invariant c.in_ok-put.ensures.ok
