use Rattle.vm_filler.proofs.SegmentHolds.{filled_segments_hold}
use Rattle.vm_filler.proofs.laws.filled_segments_hold.Goals as goal

pub returns : goal.returns
returns g c = λ ext.
    filled_segments_hold (g.E.Extension.system ext) (record { fits = g.met.E.Extension.fits ext; buses = g.met.E.Extension.buses ext; rows = g.met.E.Extension.rows ext; complete = g.met.E.Extension.complete ext; quiet = g.met.E.Extension.quiet ext })
