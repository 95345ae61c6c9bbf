-- What `run` answers.
use Rattle.std.proofs.Common.{◌≡◌, ℕ, ◌≤◌, List, [], ◌∷◌, length, refl, Some}
use Rattle.vm_host.specs.declared.Slot.TheVariants.{Elf, Second}
use Rattle.vm_host.specs.declared.Place.TheVariants as place
use Rattle.vm_host.specs.declared.HostError.TheVariants as host
use Rattle.vm_host.specs.Memory.{by_slot}
use Rattle.vm_host.specs.State.{HostState}
use Rattle.elf_image.specs.Loaded.{Loaded}
use Rattle.rv_run.specs.declared.outcome.RunEnd.{RunEnd}
use Rattle.rv_run.specs.Run.{IsRunEnd}
use Rattle.vm_tool.specs.declared.answer.Halt.TheVariants.{Found, Host}
use Rattle.vm_tool.specs.Command.{run}
use Rattle.vm_tool.specs.Files.{MAX_FILE, GivesImage, elf_refused, over_image}
use Rattle.vm_tool.specs.RunCommand.{answer_of_end, hints_refused, ended}
use Rattle.vm_tool.specs.ReadFile.{ReadWhole}
use Rattle.vm_tool.specs.Outcome.{Finds}
use Rattle.vm_tool.proofs.Quiet.{some_content, told_before}
use Rattle.vm_tool.proofs.Stages.{ElfCommand, HintCommand, both_read, finds_second, fails_second}

pub run_elf : (elf hints : List ℕ) (steps : ℕ) → ElfCommand (run elf hints steps) elf ((place.Second, hints) ∷ [])
run_elf elf hints steps = record {
  names = refl;
  says = λ content inputs found why. elf_refused why;
  leaves = λ inputs s u halt fails writes. writes;
  fill = λ content bytes told. let other = some_content (content Second hints) in (by_slot bytes other.0, (told, (other.1, tt)), refl);
}

pub run_known : (elf hints : List ℕ) (steps : ℕ) → HintCommand (run elf hints steps) elf hints []
run_known elf hints steps = record {
  known = run_elf elf hints steps;
  two = record { names = refl; others = λ Fact. tt };
  says = λ content inputs loaded found image why. over_image loaded image (hints_refused why);
}

module _ (elf hints : List ℕ) (steps : ℕ) (s t u : HostState) (bytes : List ℕ) (loaded : Loaded) (a : ReadWhole Elf elf s t bytes) (image : GivesImage bytes loaded)
    (given : List ℕ) (b : ReadWhole Second hints t u given) where
  -- the run decides
  pub run_found : (end : RunEnd) → length given ≤ MAX_FILE → IsRunEnd loaded given steps end → Finds (Some (run elf hints steps)) s u (Found (answer_of_end steps end))
  run_found end short is_end =
      let told = told_before s t ((place.Elf, elf) ∷ []) Second hints given a.quiet b.told in
      let both = both_read (run elf hints steps) elf hints [] (run_known elf hints steps) s t u bytes loaded a image given b in
      finds_second (run elf hints steps) elf hints [] s u bytes given loaded 1 (Found (answer_of_end steps end)) (run_known elf hints steps).two a.told told image (λ writes. writes) both
      (over_image loaded image (ended (record { short = short; end = end; ended = is_end; is = refl })), λ done. both.named)

  -- memory was refused after both files were read
  pub run_without_memory : Finds (Some (run elf hints steps)) s u (Host host.OutOfMemory)
  run_without_memory =
      fails_second (run elf hints steps) elf hints [] s u bytes loaded 1 host.OutOfMemory (run_elf elf hints steps) (run_known elf hints steps).two a.told image
      (both_read (run elf hints steps) elf hints [] (run_known elf hints steps) s t u bytes loaded a image given b) (λ failed. absurd (cc (failed)))
