use Rattle.vm_host.proofs.Writing.{stays_within, appends_more}
use Rattle.vm_host.proofs.real.write_whole.Goals as goal

pub pieces-preserved : goal.pieces-preserved
pieces-preserved g c = record {
  within = stays_within _ _ _ c.pieces.invariant.within c.in_ok-count.ensures.bound;
  appended = appends_more _ _ _ _ _ _ c.pieces.invariant.appended c.in_ok-count.ensures.bytes;
}
