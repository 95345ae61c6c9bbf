use Rattle.std.proofs.Common.{◌≡◌, take, length, nat_eq}
use Rattle.page_tree.specs.Kept.{leaves_of}
use Rattle.vm_executor.specs.State.{machine_of, program_of}
use Rattle.vm_prover.specs.Segments.{IsLater, IsToWrite, IsWritten, Run}
use Rattle.vm_prover.proofs.file.write_segments.Given as goal

abbrev pub invariant-loop-count : goal.invariant-loop-count
invariant-loop-count g l = record {
  same : program_of l.machine ≡ l.program;
  later : IsLater (g.H.Host.state l.fn.host) (g.H.Host.state l.host);
  counted : l.begun ≡ l.count-index;
  written : (run : Run (g.E.Extension.system l.ext)) → IsToWrite run l.program l.lengths (machine_of l.fn.machine) (leaves_of l.fn.tree) l.fn.writer (g.H.Host.state l.fn.host)
      → IsWritten run (nat_eq l.count-index (length l.lengths)) (take l.count-index l.lengths) (machine_of l.machine) (leaves_of l.tree) l.writer (g.H.Host.state l.host);
}
