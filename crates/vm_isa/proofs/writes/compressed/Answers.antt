use Rattle.std.proofs.Common.{◌≡◌, ◌∙◌, length, arith}
use Rattle.std.proofs.lemmas.List.{length-set}
use Rattle.vm_isa.proofs.NewLaws.{compress_parts, state_more}
use Rattle.vm_isa.proofs.writes.compressed.Goals as goal

pub loop-j-preserved : goal.loop-j-preserved
loop-j-preserved c =
    let long : length c.loop-j.state ≡ 8 = c.loop-j.invariant.0 in (
      length-set c.loop-j.state c.loop-j.j c.of_limbs.result ∙ long,
      state_more c.loop-j.state c.args.old.now c.loop-j.j c.of_limbs.result (omega arith) c.loop-j.invariant.1 c.of_limbs.ensures,
    )

pub returns : goal.returns
returns c =
    c.compress.ensures ∙ compress_parts c.loop-j.state c.copy_from_slice.new.self c.args.old.now c.loop-j.invariant.0 c.requires
    (λ k low. c.loop-j.invariant.1 k (omega arith)) (c.copy_from_slice.ensures.after ∙ c.as_flattened.ensures.value)
