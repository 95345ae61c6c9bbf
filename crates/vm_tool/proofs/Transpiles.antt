-- What `transpile` answers.
use Rattle.std.proofs.Common.{ℕ, List, [], ◌∷◌, Some, refl, inr}
use Rattle.vm_host.specs.declared.Slot.TheVariants.{Elf}
use Rattle.vm_host.specs.declared.Place.TheVariants as place
use Rattle.vm_host.specs.declared.HostError.TheVariants as host
use Rattle.vm_host.specs.Memory.{by_slot}
use Rattle.vm_host.specs.State.{HostState}
use Rattle.elf_image.specs.Loaded.{Loaded}
use Rattle.vm_transpile.specs.Program.{program_of}
use Rattle.vm_tool.specs.declared.answer.Answer.TheVariants.{Listing}
use Rattle.vm_tool.specs.declared.answer.Halt.{Halt}
use Rattle.vm_tool.specs.declared.answer.Halt.TheVariants.{Found, Host}
use Rattle.vm_tool.specs.Command.{transpile}
use Rattle.vm_tool.specs.Files.{GivesImage, elf_refused, over_image}
use Rattle.vm_tool.specs.ReadFile.{ReadWhole}
use Rattle.vm_tool.specs.Outcome.{Finds, IsCauseOf}
use Rattle.vm_tool.proofs.Stages.{ElfCommand, finds_quietly}

pub transpile_known : (elf : List ℕ) → ElfCommand (transpile elf) elf []
transpile_known elf = record {
  names = refl;
  says = λ content inputs found why. elf_refused why;
  leaves = λ inputs s u halt fails writes. writes;
  fill = λ content bytes told. (by_slot bytes [], (told, tt), refl);
}

module _ (elf : List ℕ) (s t : HostState) (bytes : List ℕ) (loaded : Loaded) (a : ReadWhole Elf elf s t bytes) (image : GivesImage bytes loaded) where
  after_reading : (halt : Halt) → IsCauseOf (by_slot bytes []) (Some (transpile elf)) s t halt → Finds (Some (transpile elf)) s t halt
  after_reading halt cause =
      finds_quietly (transpile elf) (by_slot bytes []) [] [] (place.Elf, elf) 1 s t halt refl (a.told, tt) (λ writes. writes)
      (λ name rest e. inr (loaded, image)) a.quiet cause

  -- the rows are listed
  pub transpile_found : Finds (Some (transpile elf)) s t (Found (Listing (program_of loaded)))
  transpile_found = after_reading (Found (Listing (program_of loaded))) (over_image loaded image refl, λ done. a.quiet.named)

  -- memory was refused after the file was read
  pub transpile_without_memory : Finds (Some (transpile elf)) s t (Host host.OutOfMemory)
  transpile_without_memory = after_reading (Host host.OutOfMemory) (λ failed. absurd (cc (failed)))
