-- An answer is found, and then said.
use Rattle.std.proofs.Common.{◌≡◌, ◌⊎◌, ℕ, ◌≤◌, List, [], ◌∷◌, take, refl, sym, ap, ◌∙◌, None, Some, arith, inl, inr, subst}
use Rattle.std.specs.declared.option.Option.{Option}
use Rattle.vm_host.specs.declared.Slot.{Slot}
use Rattle.vm_host.specs.declared.Slot.TheVariants.{Elf, Second}
use Rattle.vm_host.specs.declared.Place.{Place}
use Rattle.vm_host.specs.declared.HostError.{HostError}
use Rattle.vm_host.specs.declared.HostError.TheVariants.{Failed, OutOfMemory}
use Rattle.vm_host.specs.State.{HostState, then_more}
use Rattle.vm_host.specs.Calls.{GrowsByPart}
use Rattle.vm_tool.specs.declared.answer.Answer.{Answer}
use Rattle.vm_tool.specs.declared.answer.Status.{Status}
use Rattle.vm_tool.specs.declared.answer.Status.TheVariants.{Done}
use Rattle.vm_tool.specs.declared.answer.Halt.{Halt}
use Rattle.vm_tool.specs.declared.answer.Halt.TheVariants.{Found, Host}
use Rattle.vm_tool.specs.Answer.{status_of, text_of, status_of_error}
use Rattle.vm_tool.specs.Command.{Command, run, transpile, check, prove, sample}
use Rattle.vm_tool.specs.Files.{GivesImage}
use Rattle.vm_tool.specs.SampleCommand.{sample_image, sample_per_segment}
use Rattle.vm_tool.specs.Says.{Says}
use Rattle.vm_tool.specs.Outcome.{WritesNothing, WritesOutput, ReadsAccepted, Leaves, OpensElfAlone, ElfFirst, SaysPart, Outcome, answered, fault, memory, Answers, Finds, Spoken, whole, fault_in, memory_in, Speaks}
use Rattle.vm_tool.proofs.Outputs.{left_after, left_unsaid}

same_input : (found : Answer) (t u : HostState) (status : Status) → Speaks found t u status → u.input ≡ t.input
same_input found t u status p = ap (λ (y : HostState). y.input) p.frame

same_named : (found : Answer) (t u : HostState) (status : Status) → Speaks found t u status → u.named ≡ t.named
same_named found t u status p = ap (λ (y : HostState). y.named) p.frame

-- saying writes nothing
said_writes : (found : Answer) (s t u : HostState) (status : Status) → WritesNothing s t → Speaks found t u status → WritesNothing s u
said_writes found s t u status w p =
    p.frame ∙ ap (λ (x : HostState). record x { faults = u.faults; said = u.said }) w
    ∙ ap (λ i. record s { faults = u.faults; input = i; said = u.said; named = t.named }) (sym (same_input found t u status p))
    ∙ ap (λ n. record s { faults = u.faults; input = u.input; said = u.said; named = n }) (sym (same_named found t u status p))

same_output : (found : Answer) (t u : HostState) (status : Status) → Speaks found t u status → u.output ≡ t.output
same_output found t u status p = ap (λ (y : HostState). y.output) p.frame

same_files : (found : Answer) (t u : HostState) (status : Status) → Speaks found t u status → u.content ≡ t.content
same_files found t u status p = ap (λ (y : HostState). y.content) p.frame

said_output : (found : Answer) (s t u : HostState) (status : Status) → WritesOutput s t → Speaks found t u status → WritesOutput s u
said_output found s t u status w p =
    p.frame ∙ ap (λ (x : HostState). record x { faults = u.faults; said = u.said }) w
    ∙ ap (λ i. record s { faults = u.faults; input = i; output = t.output; said = u.said; named = t.named; content = t.content }) (sym (same_input found t u status p))
    ∙ ap (λ o. record s { faults = u.faults; input = u.input; output = o; said = u.said; named = t.named; content = t.content }) (sym (same_output found t u status p))
    ∙ ap (λ n. record s { faults = u.faults; input = u.input; output = u.output; said = u.said; named = n; content = t.content }) (sym (same_named found t u status p))
    ∙ ap (λ c. record s { faults = u.faults; input = u.input; output = u.output; said = u.said; named = u.named; content = c }) (sym (same_files found t u status p))

-- what was left before an answer was said is left after it
said_leaves : (inputs : Slot → List ℕ) (command : Option Command) (s t u : HostState) (found : Answer) (status : Status) → Speaks found t u status → Leaves inputs command s t (Found found) → Leaves inputs command s u (Found found)
said_leaves inputs None s t u found status p w = said_writes found s t u status w p
said_leaves inputs (Some (run elf hints steps)) s t u found status p w = said_writes found s t u status w p
said_leaves inputs (Some (transpile elf)) s t u found status p w = said_writes found s t u status w p
said_leaves inputs (Some (check elf tables)) s t u found status p w =
    (said_writes found s t u status w.0 p, λ accepted is. ap (λ input. input Second) (same_input found t u status p) ∙ w.1 accepted is)
said_leaves inputs (Some (prove elf hints out per_segment)) s t u found status p w =
    (said_output found s t u status w.0 p, left_after (GivesImage (inputs Elf)) (inputs Second) per_segment s t u found (same_output found t u status p) (same_files found t u status p) w.1)
said_leaves inputs (Some (sample number out)) s t u found status p w =
    (said_output found s t u status w.0 p, left_after (λ loaded. loaded ≡ sample_image number) [] sample_per_segment s t u found (same_output found t u status p) (same_files found t u status p) w.1)

-- and where saying it failed, what a failure leaves
unsaid_leaves : (inputs : Slot → List ℕ) (command : Option Command) (s t u : HostState) (found : Answer) (status : Status) (error : HostError) → Speaks found t u status → Leaves inputs command s t (Found found) → Leaves inputs command s u (Host error)
unsaid_leaves inputs None s t u found status error p w = said_writes found s t u status w p
unsaid_leaves inputs (Some (run elf hints steps)) s t u found status error p w = said_writes found s t u status w p
unsaid_leaves inputs (Some (transpile elf)) s t u found status error p w = said_writes found s t u status w p
unsaid_leaves inputs (Some (check elf tables)) s t u found status error p w = (said_writes found s t u status w.0 p, λ accepted is. absurd (cc (is)))
unsaid_leaves inputs (Some (prove elf hints out per_segment)) s t u found status error p w =
    (said_output found s t u status w.0 p, left_unsaid (GivesImage (inputs Elf)) (inputs Second) per_segment s t u found error (same_output found t u status p) (same_files found t u status p) w.1)
unsaid_leaves inputs (Some (sample number out)) s t u found status error p w =
    (said_output found s t u status w.0 p, left_unsaid (λ loaded. loaded ≡ sample_image number) [] sample_per_segment s t u found error (same_output found t u status p) (same_files found t u status p) w.1)

elf_first_said : (inputs : Slot → List ℕ) (command : Option Command) (s t u : HostState) (found : Answer) (status : Status) → Speaks found t u status → ElfFirst inputs command s t → ElfFirst inputs command s u
elf_first_said inputs command s t u found status p first elf others names = still (first elf others names)
  where
    still : {B : Type 0} → OpensElfAlone elf s t ⊎ B → OpensElfAlone elf s u ⊎ B
    still (inl alone) = inl (record {
      named = record { count = alone.named.count; grown = same_named found t u status p ∙ alone.named.grown };
      second = ap (λ input. input Second) (same_input found t u status p) ∙ alone.second;
      writes = said_writes found s t u status alone.writes p;
    })
    still (inr image) = inr image

said_part : (inputs : Slot → List ℕ) (command : Option Command) (s t u : HostState) (found : Answer) → Says s.content inputs command found → t.said ≡ s.said → GrowsByPart t.said u.said (text_of found) → SaysPart inputs command s u
said_part inputs command s t u found says same part =
    inr (found, says, record { count = part.count; grown = part.grown ∙ ap (λ o. then_more o (take part.count (text_of found))) same })

outcome_spoken : (command : Option Command) (s t u : HostState) (found : Answer) (status : Status) (f : Finds command s t (Found found)) → Speaks found t u status → Spoken found t u status → Outcome f.inputs command s u status
outcome_spoken command s t u found status f p (whole is text) =
    answered found f.cause.0 is (text ∙ ap (λ o. then_more o (text_of found)) f.said) (said_leaves f.inputs command s t u found status p f.leaves)
outcome_spoken command s t u found status f p (fault_in is rose part) =
    fault is (omega (arith, rose, f.later)) (said_part f.inputs command s t u found f.cause.0 f.said part) (unsaid_leaves f.inputs command s t u found status Failed p f.leaves)
outcome_spoken command s t u found status f p (memory_in is part) =
    memory is (said_part f.inputs command s t u found f.cause.0 f.said part) (unsaid_leaves f.inputs command s t u found status OutOfMemory p f.leaves)

done_is_found : (t u : HostState) (found : Answer) (status : Status) → Spoken found t u status → status ≡ Done → status_of found ≡ Done
done_is_found t u found status (whole is text) done = sym is ∙ done
done_is_found t u found status (fault_in is rose part) done = absurd (cc (is, done))
done_is_found t u found status (memory_in is part) done = absurd (cc (is, done))

pub answers_spoken : (command : Option Command) (s t u : HostState) (found : Answer) (status : Status) → Finds command s t (Found found) → Speaks found t u status → Answers command s u status
answers_spoken command s t u found status f p = record {
  inputs = f.inputs;
  contents = f.contents;
  outcome = outcome_spoken command s t u found status f p p.is;
  later = omega (arith, f.later, p.later);
  named = record { count = f.named.count; grown = same_named found t u status p ∙ f.named.grown };
  done = λ done. same_named found t u status p ∙ f.cause.1 (done_is_found t u found status p.is done);
  elf_first = elf_first_said f.inputs command s t u found status p f.elf_first;
}

-- nothing was said, since the host failed or memory was refused
pub answers_broken : (command : Option Command) (s t : HostState) (error : HostError) → Finds command s t (Host error) → Answers command s t (status_of_error error)
answers_broken command s t Failed f = record {
  inputs = f.inputs;
  contents = f.contents;
  outcome = fault refl (f.cause refl) (inl f.said) f.leaves;
  later = f.later;
  named = f.named;
  done = λ done. absurd (cc (done));
  elf_first = f.elf_first;
}
answers_broken command s t OutOfMemory f = record {
  inputs = f.inputs;
  contents = f.contents;
  outcome = memory refl (inl f.said) f.leaves;
  later = f.later;
  named = f.named;
  done = λ done. absurd (cc (done));
  elf_first = f.elf_first;
}
