-- What a run with no SHA block comes to, where it is known how it ends.
use Rattle.std.proofs.Common.{◌≡◌, ℕ, ◌≤◌, List, length, replicate, false, refl, ◌∙◌, arith}
use Rattle.std.specs.Int.{div_ceil}
use Rattle.elf_image.specs.Loaded.{Loaded}
use Rattle.rv_run.specs.Run.{Ends}
use Rattle.vm_prover.specs.Cut.{cut}
use Rattle.vm_prover.specs.Proving.{ComesTo, EndsSo}
use Rattle.vm_prover.specs.Survey.{EndsCut}
use Rattle.vm_prover.specs.declared.proving.Proved.{Proved}
use Rattle.vm_prover.specs.declared.proving.Proving.{Proving}
use Rattle.vm_prover.specs.declared.proving.Proving.TheVariants as proving
use Rattle.vm_prover.proofs.OneWay.{proving_is_one}
use Rattle.vm_prover.proofs.PlainCut.{HasNoShaBlock, plain_cut, plain_run_is_cut}

-- it ends so, and that is claimed
pub record ClaimsEnd (loaded : Loaded) (hints : List ℕ) (per_segment steps code : ℕ) (public_bytes : List ℕ) (found : Proving) : Type 0 where
  pub claim : Proved
  pub is : found ≡ proving.Proved claim
  pub so : EndsSo loaded hints per_segment claim
  pub steps_are : claim.steps ≡ steps
  pub code_is : claim.code ≡ code
  pub public_is : claim.public ≡ public_bytes
  pub segments_are : claim.segments ≡ div_ceil steps per_segment

module _ (loaded : Loaded) (plain : HasNoShaBlock loaded) (hints : List ℕ) (per_segment steps code : ℕ) (public_bytes : List ℕ)
    (ends : Ends loaded hints steps code public_bytes) (least : 1 ≤ per_segment) (some : 1 ≤ steps) (few : div_ceil steps per_segment ≤ 4096) where
  plain_lengths : List ℕ
  plain_lengths = cut per_segment (replicate steps false)

  count : length plain_lengths ≡ div_ceil steps per_segment
  unfolding plain_lengths
  count = plain_cut per_segment steps least some

  ends_cut : EndsCut loaded hints per_segment steps plain_lengths code public_bytes
  unfolding plain_lengths
  ends_cut = record {
    ends = ends;
    cuts = plain_run_is_cut loaded plain hints per_segment steps ends.last ends.reached;
    few = omega (arith, count, few);
  }

  claimed : Proved
  unfolding plain_lengths
  claimed = record { code = code; public = public_bytes; segments = length plain_lengths; steps = steps }

  claimed_so : EndsSo loaded hints per_segment claimed
  unfolding plain_lengths claimed
  claimed_so = record { lengths = plain_lengths; ends = ends_cut; count = refl }

  pub plain_run_is_claimed : (found : Proving) → ComesTo loaded hints per_segment found → ClaimsEnd loaded hints per_segment steps code public_bytes found
  unfolding claimed
  plain_run_is_claimed found comes = record {
    claim = claimed;
    is = proving_is_one loaded hints per_segment found (proving.Proved claimed) comes claimed_so;
    so = claimed_so;
    steps_are = refl;
    code_is = refl;
    public_is = refl;
    segments_are = count;
  }
