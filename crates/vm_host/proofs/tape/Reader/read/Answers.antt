use Rattle.std.proofs.Common.{ℕ, ◌<◌, slice_index, sym, subst}
use Rattle.std.specs.Prelude.{List}
use Rattle.vm_host.proofs.Lists.{left_bytes}
use Rattle.vm_host.proofs.tape.Reader.read.Goals as goal

pub invariant_of-self : goal.invariant_of-self
invariant_of-self c = record {
  all_bytes = λ k. subst (λ (xs : List ℕ). slice_index xs k < 256) (sym c.read.ensures.all) (c.args.self.now.all_bytes k);
  rest_bytes = left_bytes _ _ _ _ c.read.ensures.taken c.args.self.now.rest_bytes;
}
