-- What `sample` answers.
use Rattle.std.proofs.Common.{◌≡◌, ◌⊎◌, ℕ, List, [], ◌∷◌, take, refl, ap, ◌∙◌, Some, Ok, Err, inl, inr, arith}
use Rattle.std.specs.Prelude.{Result}
use Rattle.vm_host.specs.declared.Place.TheVariants as place
use Rattle.vm_host.specs.declared.HostError.{HostError}
use Rattle.vm_host.specs.declared.HostError.TheVariants as host
use Rattle.vm_host.specs.Memory.{by_slot}
use Rattle.vm_host.specs.State.{HostState}
use Rattle.vm_prover.specs.declared.proving.Proved.{Proved}
use Rattle.vm_prover.specs.declared.proving.Proving.{Proving}
use Rattle.vm_prover.specs.declared.proving.Proving.TheVariants as proving
use Rattle.vm_prover.specs.Proving.{EndsSo, Proves}
use Rattle.vm_tool.specs.declared.answer.Answer.TheVariants as answer
use Rattle.vm_tool.specs.declared.answer.Halt.{Halt}
use Rattle.vm_tool.specs.declared.answer.Halt.TheVariants.{Found, Host}
use Rattle.vm_tool.specs.Command.{sample}
use Rattle.vm_tool.specs.ProveCommand.{KeepsOutput, MayWriteTables, LeavesTables}
use Rattle.vm_tool.specs.SampleCommand.{answer_of_sample, sample_image, sample_per_segment}
use Rattle.vm_tool.specs.Tables.{program_tables}
use Rattle.vm_tool.specs.Outcome.{Finds, IsCauseOf, WritesOutput}
use Rattle.vm_tool.proofs.Outputs.{writes_output}
use Rattle.vm_tool.proofs.Quiet.{quiet_none}
use Rattle.vm_tool.proofs.SampleRuns.{sample_is_claimed}
use Rattle.vm_tool.proofs.Stages.{output_first}

module _ (number : ℕ) (out : List ℕ) (s w : HostState) where
  -- what is found, whatever it is
  finds : (result : Result Proving HostError) → Proves program_tables 1 (sample_image number) [] sample_per_segment out s w result → (halt : Halt) → IsCauseOf (by_slot [] []) (Some (sample number out)) s w halt
      → LeavesTables (λ loaded. loaded ≡ sample_image number) [] sample_per_segment s w halt → Finds (Some (sample number out)) s w halt
  finds result p halt cause left = record {
    inputs = by_slot [] [];
    contents = (tt, tt);
    cause = cause;
    leaves = (writes_output s s w [] (quiet_none s) p.frame, left);
    later = p.cause.later;
    said = ap (λ (y : HostState). y.said) p.frame;
    named = p.named;
    elf_first = λ elf others names. absurd (output_first out elf [] others names);
  }

  -- its run ends and is proved
  claim_found : (claim : Proved) → Proves program_tables 1 (sample_image number) [] sample_per_segment out s w (Ok (proving.Proved claim)) → Finds (Some (sample number out)) s w (Found (answer.Sampled number claim))
  claim_found claim p =
      let so = sample_is_claimed number (proving.Proved claim) p.comes in
      let same : claim ≡ so.0 = cc (so.1) in
      finds (Ok (proving.Proved claim)) p (Found (answer.Sampled number claim)) (
        record {
          claim = claim;
          ends = p.comes;
          steps = ap (λ (c : Proved). c.steps) same ∙ so.2;
          code = ap (λ (c : Proved). c.code) same ∙ so.3;
          segments = ap (λ (c : Proved). c.segments) same ∙ so.4;
          is = refl;
        },
        λ done. p.leaves.1,
      )
      (record { loaded = sample_image number; image = refl; writes = p.leaves.0 })

  -- it comes to nothing else
  pub sample_found : (p : Proving) → Proves program_tables 1 (sample_image number) [] sample_per_segment out s w (Ok p) → Finds (Some (sample number out)) s w (Found (answer_of_sample number p))
  sample_found (proving.Proved claim) p = claim_found claim p
  sample_found (proving.Trapped trap) p = let so = sample_is_claimed number (proving.Trapped trap) p.comes in absurd (cc (so.1))
  sample_found proving.TooManySegments p = let so = sample_is_claimed number proving.TooManySegments p.comes in absurd (cc (so.1))

  -- the host failed, or memory was refused
  pub sample_fails : (error : HostError) → Proves program_tables 1 (sample_image number) [] sample_per_segment out s w (Err error) → Finds (Some (sample number out)) s w (Host error)
  sample_fails error p = finds (Err error) p (Host error) (λ failed. p.cause.failed (ap Err failed)) (left_over p.kept)
    where
      left_over : (w ≡ s) ⊎ ((claim : Proved) × EndsSo (sample_image number) [] sample_per_segment claim) → KeepsOutput s w ⊎ MayWriteTables (λ loaded. loaded ≡ sample_image number) [] sample_per_segment
      left_over (inl same) = inl (record { output = ap (λ (y : HostState). y.output) same; content = ap (λ (y : HostState). y.content) same })
      left_over (inr ends) = inr (record { loaded = sample_image number; image = refl; claim = ends.0; so = ends.1 })

-- memory was refused before anything was done
pub sample_without_memory : (number : ℕ) (out : List ℕ) (s : HostState) → Finds (Some (sample number out)) s s (Host host.OutOfMemory)
sample_without_memory number out s = record {
  inputs = by_slot [] [];
  contents = (tt, tt);
  cause = λ failed. absurd (cc (failed));
  leaves = (refl, inl (record { output = refl; content = refl }));
  later = omega arith;
  said = refl;
  named = record { count = 0; grown = (quiet_none s).named };
  elf_first = λ elf others names. absurd (output_first out elf [] others names);
}
