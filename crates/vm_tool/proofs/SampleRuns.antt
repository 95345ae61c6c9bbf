-- What the run of the sample program comes to.
use Rattle.std.proofs.Common.{◌≡◌, ℕ, [], lit≤}
use Rattle.vm_prover.specs.Proving.{ComesTo}
use Rattle.vm_prover.specs.declared.proving.Proved.{Proved}
use Rattle.vm_prover.specs.declared.proving.Proving.{Proving}
use Rattle.vm_prover.specs.declared.proving.Proving.TheVariants as proving
use Rattle.vm_prover.proofs.PlainRun.{ClaimsEnd, plain_run_is_claimed}
use Rattle.vm_vectors.specs.ElfFile.{text_image}
use Rattle.vm_vectors.specs.Sample.{sample_base, sample_text}
use Rattle.vm_vectors.proofs.SampleRun.{sample_ends}
use Rattle.vm_vectors.proofs.SampleText.{no_sha_block}
use Rattle.vm_vectors.proofs.SampleWords.{sample_text_is_the_sample}

pub sample_is_claimed : (number : ℕ) (found : Proving) → ComesTo (text_image sample_base (sample_text number)) [] 4096 found
    → (claim : Proved) × (found ≡ proving.Proved claim) × (claim.steps ≡ 26011) × (claim.code ≡ 0) × (claim.segments ≡ 7)
sample_is_claimed number found comes =
    let are = sample_text_is_the_sample number in
    let ends = sample_ends number (sample_text number) [] are in
    let is : ClaimsEnd (text_image sample_base (sample_text number)) [] 4096 26011 0 ends.0 found =
    plain_run_is_claimed (text_image sample_base (sample_text number)) (λ pc word state block here. no_sha_block number (sample_text number) are pc word state block here)
    [] 4096 26011 0 ends.0 ends.1 (lit≤ tt) (lit≤ tt) (lit≤ tt) found comes in
    (is.claim, is.is, is.steps_are, is.code_is, is.segments_are)
