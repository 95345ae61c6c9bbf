-- What `prove` answers.
use Rattle.std.proofs.Common.{◌≡◌, ◌⊎◌, ℕ, ◌+◌, ◌≤◌, List, [], ◌∷◌, ◌++◌, take, length, refl, sym, ap, ◌∙◌, Some, Ok, Err, inl, inr, arith}
use Rattle.std.proofs.Math.Seq.{take-append-add}
use Rattle.std.specs.declared.option.Option.{Option}
use Rattle.std.specs.Prelude.{Result}
use Rattle.vm_host.specs.declared.Slot.{Slot}
use Rattle.vm_host.specs.declared.Slot.TheVariants.{Elf, Second}
use Rattle.vm_host.specs.declared.Place.{Place}
use Rattle.vm_host.specs.declared.Place.TheVariants as place
use Rattle.vm_host.specs.declared.HostError.{HostError}
use Rattle.vm_host.specs.declared.HostError.TheVariants.{Failed}
use Rattle.vm_host.specs.Memory.{by_slot}
use Rattle.vm_host.specs.State.{HostState, then_more}
use Rattle.vm_host.specs.Calls.{GrowsByPart, Rose}
use Rattle.elf_image.specs.Loaded.{Loaded}
use Rattle.vm_prover.specs.declared.proving.Proved.{Proved}
use Rattle.vm_prover.specs.declared.proving.Proving.{Proving}
use Rattle.vm_prover.specs.declared.proving.Proving.TheVariants as proving
use Rattle.vm_prover.specs.Proving.{ComesTo, EndsSo, Proves}
use Rattle.vm_tool.specs.declared.answer.Halt.{Halt}
use Rattle.vm_tool.specs.declared.answer.Halt.TheVariants.{Found, Host}
use Rattle.vm_tool.specs.Command.{prove}
use Rattle.vm_tool.specs.Says.{Says}
use Rattle.vm_tool.specs.Files.{MAX_FILE, GivesImage, elf_refused, over_image}
use Rattle.vm_tool.specs.ProveCommand.{answer_of_proving, no_hints, run_is_proved, KeepsOutput, MayWriteTables, LeavesTables}
use Rattle.vm_tool.specs.Tables.{program_tables}
use Rattle.vm_tool.specs.ReadFile.{Quiet, ReadWhole}
use Rattle.vm_tool.specs.Outcome.{Finds, IsCauseOf}
use Rattle.vm_tool.proofs.Files.{rose_after}
use Rattle.vm_tool.proofs.Outputs.{nothing_left, writes_output}
use Rattle.vm_tool.proofs.Quiet.{more_both, same_content, same_said, some_content, told_before}
use Rattle.vm_tool.proofs.Stages.{ElfCommand, HintCommand, both_read, two_contents}

pub prove_elf : (elf hints out : List ℕ) (per_segment : ℕ) → ElfCommand (prove elf hints out per_segment) elf ((place.Second, hints) ∷ (place.Out, out) ∷ [])
prove_elf elf hints out per_segment = record {
  names = refl;
  says = λ content inputs found why. elf_refused why;
  leaves = λ inputs s u halt fails writes. nothing_left (GivesImage (inputs Elf)) (inputs Second) per_segment s u halt fails writes;
  fill = λ content bytes told. let other = some_content (content Second hints) in (by_slot bytes other.0, (told, (other.1, (tt, tt))), refl);
}

pub prove_known : (elf hints out : List ℕ) (per_segment : ℕ) → HintCommand (prove elf hints out per_segment) elf hints ((place.Out, out) ∷ [])
prove_known elf hints out per_segment = record {
  known = prove_elf elf hints out per_segment;
  two = record { names = refl; others = λ Fact. (tt, tt) };
  says = λ content inputs loaded found image why. over_image loaded image (no_hints why);
}

-- names behind others
grows_behind : (told mid new : Option (List (Place × List ℕ))) (front rest : List (Place × List ℕ)) → mid ≡ then_more told front → GrowsByPart mid new rest → GrowsByPart told new (front ++ rest)
grows_behind told mid new front rest e g = record {
  count = length front + g.count;
  grown = g.grown ∙ ap (λ o. then_more o (take g.count rest)) e ∙ more_both told front (take g.count rest) ∙ ap (then_more told) (sym (take-append-add front rest g.count));
}

module _ (elf hints out : List ℕ) (per_segment : ℕ) (s t u : HostState) (bytes : List ℕ) (loaded : Loaded) (a : ReadWhole Elf elf s t bytes) (image : GivesImage bytes loaded)
    (given : List ℕ) (b : ReadWhole Second hints t u given) (short : length given ≤ MAX_FILE) (w : HostState) where
  read : Quiet s u ((place.Elf, elf) ∷ (place.Second, hints) ∷ [])
  read = both_read (prove elf hints out per_segment) elf hints ((place.Out, out) ∷ []) (prove_known elf hints out per_segment) s t u bytes loaded a image given b

  module _ (result : Result Proving HostError) (p : Proves program_tables 1 loaded given per_segment out u w result) where
    -- what is found, whatever it is
    finds : (halt : Halt) → IsCauseOf (by_slot bytes given) (Some (prove elf hints out per_segment)) s w halt → LeavesTables (GivesImage bytes) given per_segment s w halt
        → Finds (Some (prove elf hints out per_segment)) s w halt
    finds halt cause left = record {
      inputs = by_slot bytes given;
      contents = two_contents (prove elf hints out per_segment) elf hints ((place.Out, out) ∷ []) s bytes given (prove_known elf hints out per_segment).two a.told
          (told_before s t ((place.Elf, elf) ∷ []) Second hints given a.quiet b.told);
      cause = cause;
      leaves = (writes_output s u w ((place.Elf, elf) ∷ (place.Second, hints) ∷ []) read p.frame, left);
      later = omega (arith, read.later, p.cause.later);
      said = ap (λ (y : HostState). y.said) p.frame ∙ same_said s u ((place.Elf, elf) ∷ (place.Second, hints) ∷ []) read;
      named = grows_behind s.named u.named w.named ((place.Elf, elf) ∷ (place.Second, hints) ∷ []) ((place.Out, out) ∷ []) read.named p.named;
      elf_first = λ name others e. inr (loaded, image);
    }

    -- the output and the files are as they were
    kept : w ≡ u → KeepsOutput s w
    kept same = record {
      output = ap (λ (y : HostState). y.output) same ∙ ap (λ (y : HostState). y.output) read.frame;
      content = ap (λ (y : HostState). y.content) same ∙ same_content s u ((place.Elf, elf) ∷ (place.Second, hints) ∷ []) read;
    }

  says_so : (p : Proving) → ComesTo loaded given per_segment p → Says s.content (by_slot bytes given) (Some (prove elf hints out per_segment)) (answer_of_proving p)
  says_so p comes = over_image loaded image (run_is_proved (record { short = short; proving = p; comes = comes; is = refl }))

  -- what the run comes to is found
  pub prove_found : (p : Proving) → Proves program_tables 1 loaded given per_segment out u w (Ok p) → Finds (Some (prove elf hints out per_segment)) s w (Found (answer_of_proving p))
  prove_found (proving.Proved claim) p =
      finds (Ok (proving.Proved claim)) p (Found (answer_of_proving (proving.Proved claim)))
      (says_so (proving.Proved claim) p.comes, λ done. p.leaves.1 ∙ ap (λ o. then_more o ((place.Out, out) ∷ [])) read.named ∙ more_both s.named ((place.Elf, elf) ∷ (place.Second, hints) ∷ []) ((place.Out, out) ∷ []))
      (record { loaded = loaded; image = image; writes = p.leaves.0 })
  prove_found (proving.Trapped trap) p =
      finds (Ok (proving.Trapped trap)) p (Found (answer_of_proving (proving.Trapped trap))) (says_so (proving.Trapped trap) p.comes, λ done. absurd (cc (done))) (kept (Ok (proving.Trapped trap)) p p.leaves)
  prove_found proving.TooManySegments p =
      finds (Ok proving.TooManySegments) p (Found (answer_of_proving proving.TooManySegments)) (says_so proving.TooManySegments p.comes, λ done. absurd (cc (done))) (kept (Ok proving.TooManySegments) p p.leaves)

  -- the host failed, or memory was refused
  pub prove_fails : (error : HostError) → Proves program_tables 1 loaded given per_segment out u w (Err error) → Finds (Some (prove elf hints out per_segment)) s w (Host error)
  prove_fails error p =
      finds (Err error) p (Host error) (λ failed. rose_after s.faults u.faults w.faults read.later (p.cause.failed (ap Err failed))) (left_over p.kept)
    where
      left_over : (w ≡ u) ⊎ ((claim : Proved) × EndsSo loaded given per_segment claim) → KeepsOutput s w ⊎ MayWriteTables (GivesImage bytes) given per_segment
      left_over (inl same) = inl (kept (Err error) p same)
      left_over (inr ends) = inr (record { loaded = loaded; image = image; claim = ends.0; so = ends.1 })
