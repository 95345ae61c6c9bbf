-- What is left of the output.
use Rattle.std.proofs.Common.{◌≡◌, ◌⊎◌, ℕ, List, refl, sym, ap, ◌∙◌, None, Some, inl, inr, MatchOption}
use Rattle.std.specs.declared.option.Option.{Option}
use Rattle.vm_host.specs.declared.Place.{Place}
use Rattle.vm_host.specs.declared.HostError.{HostError}
use Rattle.vm_host.specs.State.{HostState, Output}
use Rattle.vm_host.specs.declared.Slot.{Slot}
use Rattle.elf_image.specs.Loaded.{Loaded}
use Rattle.vm_prover.specs.declared.proving.Proved.{Proved}
use Rattle.vm_tool.specs.declared.answer.Answer.{Answer}
use Rattle.vm_tool.specs.declared.answer.Answer.TheVariants as answer
use Rattle.vm_tool.specs.declared.answer.Status.TheVariants.{Done}
use Rattle.vm_tool.specs.declared.answer.Halt.{Halt}
use Rattle.vm_tool.specs.declared.answer.Halt.TheVariants.{Found, Host}
use Rattle.vm_tool.specs.Answer.{status_of}
use Rattle.vm_tool.specs.ReadFile.{Quiet}
use Rattle.vm_tool.specs.ProveCommand.{stated_claim, KeepsOutput, WritesTables, MayWriteTables, LeavesTables}
use Rattle.vm_tool.specs.Outcome.{WritesNothing, WritesOutput}
use Rattle.vm_tool.proofs.Stages.{Fails}

-- an answer that is no success has no claim
no_stated_claim : (found : Answer) → (status_of found ≡ Done → ⊥) → stated_claim found ≡ None
no_stated_claim answer.Words fails = refl
no_stated_claim answer.ElfTooLong fails = refl
no_stated_claim (answer.ElfRefused refusal) fails = refl
no_stated_claim answer.HintLimit fails = refl
no_stated_claim (answer.Exit code public_bytes steps) fails = refl
no_stated_claim (answer.Listing rows) fails = refl
no_stated_claim (answer.Proved claim) fails = absurd (fails refl)
no_stated_claim (answer.Sampled number claim) fails = absurd (fails refl)
no_stated_claim answer.SegmentLimit fails = refl
no_stated_claim (answer.Accepted accepted) fails = refl
no_stated_claim (answer.Rejected reason) fails = refl
no_stated_claim (answer.Trapped trap) fails = refl
no_stated_claim (answer.StepLimit limit) fails = refl

pub nothing_is_output : (s t : HostState) → WritesNothing s t → WritesOutput s t × KeepsOutput s t
nothing_is_output s t w = (
  w ∙ ap (λ o. record s { faults = t.faults; input = t.input; output = o; said = t.said; named = t.named }) (sym output)
      ∙ ap (λ c. record s { faults = t.faults; input = t.input; output = t.output; said = t.said; named = t.named; content = c }) (sym content),
  record { output = output; content = content },
)
  where
    output : t.output ≡ s.output
    output = ap (λ (y : HostState). y.output) w

    content : t.content ≡ s.content
    content = ap (λ (y : HostState). y.content) w

-- calls that only read, and then one that writes
pub writes_output : (s t u : HostState) (names : List (Place × List ℕ)) → Quiet s t names → u ≡ record t { faults = u.faults; output = u.output; named = u.named; content = u.content } → WritesOutput s u
writes_output s t u names q frame =
    frame ∙ ap (λ (y : HostState). record y { faults = u.faults; output = u.output; named = u.named; content = u.content }) q.frame
    ∙ ap (λ i. record s { faults = u.faults; input = i; output = u.output; named = u.named; content = u.content }) (sym (ap (λ (y : HostState). y.input) frame))
    ∙ ap (λ said. record s { faults = u.faults; input = u.input; output = u.output; said = said; named = u.named; content = u.content }) (sym (ap (λ (y : HostState). y.said) frame ∙ ap (λ (y : HostState). y.said) q.frame))

module _ (IsImage : Loaded → Type 0) (hints : List ℕ) (per_segment : ℕ) where
  abbrev Left : HostState → HostState → Option Proved → Type 0
  Left s t claim = MatchOption claim (KeepsOutput s t) (λ c. WritesTables IsImage hints per_segment c t)

  -- where nothing was written and no success is answered
  pub nothing_left : (s t : HostState) (halt : Halt) → Fails halt → WritesNothing s t → WritesOutput s t × LeavesTables IsImage hints per_segment s t halt
  nothing_left s t (Found found) fails w =
      let none : stated_claim found ≡ None = no_stated_claim found fails in
      ((nothing_is_output s t w).0, rw none ((nothing_is_output s t w).1))
  nothing_left s t (Host error) fails w = ((nothing_is_output s t w).0, inl (nothing_is_output s t w).1)

  -- what was left is left where the output and the files stay
  pub left_after : (s t u : HostState) (found : Answer) → u.output ≡ t.output → u.content ≡ t.content → LeavesTables IsImage hints per_segment s t (Found found) → LeavesTables IsImage hints per_segment s u (Found found)
  left_after s t u found output content left = by_claim (stated_claim found) left
    where
      by_claim : (claim : Option Proved) → Left s t claim → Left s u claim
      by_claim None kept = record { output = output ∙ kept.output; content = content ∙ kept.content }
      by_claim (Some claim) w = record {
        loaded = w.loaded;
        image = w.image;
        writes = record {
          so = w.writes.so;
          closed = ap (λ (o : Output). o.creating) output ∙ w.writes.closed;
          written = rw (ap (λ (o : Output). o.written) output) w.writes.written;
        };
      }

  -- and where saying it fails, it may have been written
  pub left_unsaid : (s t u : HostState) (found : Answer) (error : HostError) → u.output ≡ t.output → u.content ≡ t.content → LeavesTables IsImage hints per_segment s t (Found found) → LeavesTables IsImage hints per_segment s u (Host error)
  left_unsaid s t u found error output content left = by_claim (stated_claim found) left
    where
      by_claim : (claim : Option Proved) → Left s t claim → KeepsOutput s u ⊎ MayWriteTables IsImage hints per_segment
      by_claim None kept = inl (record { output = output ∙ kept.output; content = content ∙ kept.content })
      by_claim (Some claim) w = inr (record { loaded = w.loaded; image = w.image; claim = claim; so = w.writes.so })
