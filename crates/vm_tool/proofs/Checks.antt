-- What `check` answers.
use Rattle.std.proofs.Common.{◌≡◌, ℕ, List, [], ◌∷◌, take, Bool, true, refl, sym, ap, ◌∙◌, subst, None, Some, Ok, Err, arith, IfSome}
use Rattle.std.specs.Option.{option_map}
use Rattle.std.specs.declared.option.Option.{Option}
use Rattle.std.specs.Prelude.{Result}
use Rattle.vm_host.specs.declared.Slot.TheVariants.{Elf, Second}
use Rattle.vm_host.specs.declared.Place.{Place}
use Rattle.vm_host.specs.declared.Place.TheVariants as place
use Rattle.vm_host.specs.declared.HostError.{HostError}
use Rattle.vm_host.specs.Memory.{by_slot}
use Rattle.vm_host.specs.State.{HostState, Input, after_these}
use Rattle.vm_host.specs.ReadUpTo.{Took}
use Rattle.vm_host.specs.Calls.{AtEnd, Rose}
use Rattle.elf_image.specs.Loaded.{Loaded}
use Rattle.vm_checker.specs.declared.Accepted.{Accepted as Acceptance}
use Rattle.vm_checker.specs.declared.Verdict.{Verdict}
use Rattle.vm_checker.specs.declared.Verdict.TheVariants as verdict
use Rattle.vm_checker.specs.Verdicts.{Checks, JudgesFile}
use Rattle.vm_tool.specs.declared.answer.Answer.TheVariants.{Accepted}
use Rattle.vm_tool.specs.declared.answer.Halt.{Halt}
use Rattle.vm_tool.specs.declared.answer.Halt.TheVariants.{Found, Host}
use Rattle.vm_tool.specs.Answer.{status_of}
use Rattle.vm_tool.specs.Command.{check}
use Rattle.vm_tool.specs.Files.{GivesImage, RefusesElf, IsContent, elf_refused, over_image}
use Rattle.vm_tool.specs.CheckCommand.{answer_of_verdict}
use Rattle.vm_tool.specs.Tables.{program_tables}
use Rattle.vm_tool.specs.ReadFile.{Quiet, IsOpened, ReadWhole, HaltsAt}
use Rattle.vm_tool.specs.Outcome.{Finds, ReadsAccepted}
use Rattle.vm_tool.proofs.Files.{opened_then_took, rose_after}
use Rattle.vm_tool.proofs.Quiet.{quiet_both, some_content, same_content}
use Rattle.vm_tool.proofs.Stages.{Fails, ElfCommand, TwoInputs, finds_second, fails_second}

failed_not_accepted : (halt : Halt) (accepted : Acceptance) → Fails halt → halt ≡ Found (Accepted accepted) → ⊥
failed_not_accepted (Found found) accepted fails e = let is : found ≡ Accepted accepted = cc in fails (ap status_of is)
failed_not_accepted (Host error) accepted fails e = cc (e)

check_two : (elf tables : List ℕ) → TwoInputs (check elf tables) elf tables []
check_two elf tables = record { names = refl; others = λ Fact. tt }

pub check_known : (elf tables : List ℕ) → ElfCommand (check elf tables) elf ((place.Second, tables) ∷ [])
check_known elf tables = record {
  names = refl;
  says = λ content inputs found why. elf_refused why;
  leaves = λ inputs s u halt fails writes. (writes, λ accepted is. absurd (failed_not_accepted halt accepted fails is));
  fill = λ content bytes told. let other = some_content (content Second tables) in (by_slot bytes other.0, (told, (other.1, tt)), refl);
}

-- of an accepted verdict the answer is an accepted file
accepted_verdict : (v : Verdict) (accepted : Acceptance) → Found (answer_of_verdict v) ≡ Found (Accepted accepted) → v ≡ verdict.Accepted accepted
accepted_verdict (verdict.Accepted other) accepted e = let same : other ≡ accepted = cc in ap verdict.Accepted same
accepted_verdict (verdict.Rejected why) accepted e = absurd (cc (e))

-- what was told of an input is told at its end, and nothing is left
rest_at_end : (told left : Option (List ℕ)) (taken : List ℕ) → told ≡ after_these taken left → AtEnd left → left ≡ option_map (λ bytes. []) told
rest_at_end None None taken e end = refl
rest_at_end None (Some xs) taken e end = absurd (cc (e))
rest_at_end (Some ys) None taken e end = absurd (cc (e))
rest_at_end (Some ys) (Some xs) taken e end = ap Some end

same_input : (i : Input) (b : Bool) (told : Option (List ℕ)) → i.is_open ≡ b → i.rest ≡ told → i ≡ record { is_open = b; rest = told }
same_input i b told stands rest = ap (λ x. record i { is_open = x }) stands ∙ ap (λ x. record { is_open = b; rest = x }) rest

module _ (elf tables : List ℕ) (s t : HostState) (bytes : List ℕ) (loaded : Loaded) (a : ReadWhole Elf elf s t bytes) (image : GivesImage bytes loaded) where
  -- the table file can't be opened
  pub tables_halt : (u : HostState) (halt : Halt) → HaltsAt (λ _ _. ⊥) Second tables t u halt → Finds (Some (check elf tables)) s u halt
  tables_halt u (Found found) h = absurd (h.2)
  tables_halt u (Host error) h =
      let both = quiet_both s t u ((place.Elf, elf) ∷ []) (take h.0.count ((place.Second, tables) ∷ [])) a.quiet h.0.quiet in
      fails_second (check elf tables) elf tables [] s u bytes loaded h.0.count error (check_known elf tables) (check_two elf tables) a.told image both
      (λ failed. omega (arith, h.1 failed, a.quiet.later, h.0.quiet.later))

  module _ (u w : HostState) (o : IsOpened Second tables t u) where
    read_both : (taken : List ℕ) → Took Second u w taken → Quiet s w ((place.Elf, elf) ∷ (place.Second, tables) ∷ [])
    read_both taken took =
        quiet_both s t w ((place.Elf, elf) ∷ []) ((place.Second, tables) ∷ []) a.quiet (opened_then_took Second tables taken t u w o took).quiet

    -- an accepted table file was read to its end
    reads_accepted : (v : Verdict) (c : Checks (JudgesFile program_tables loaded) u w (Ok v)) → ReadsAccepted tables s w (Found (answer_of_verdict v))
    reads_accepted v c accepted e =
        let is : v ≡ verdict.Accepted accepted = accepted_verdict v accepted e in
        let end : AtEnd (w.input Second).rest = c.end accepted (ap (λ (x : Verdict). Ok x) is) in
        let content : (u.input Second).rest ≡ s.content Second tables = ap (λ (i : Input). i.rest) o.input ∙ ap (λ told. told Second tables) (same_content s t ((place.Elf, elf) ∷ []) a.quiet) in
        let rest : (w.input Second).rest ≡ option_map (λ bytes. []) (s.content Second tables) =
        rest_at_end (s.content Second tables) (w.input Second).rest c.took.0 (sym content ∙ c.took.1.taken) end in
        let stands : (w.input Second).is_open ≡ true = c.took.1.is_open in
        same_input (w.input Second) true (option_map (λ bytes. []) (s.content Second tables)) stands rest

    -- the verdict is found
    pub check_found : (v : Verdict) → Checks (JudgesFile program_tables loaded) u w (Ok v) → Finds (Some (check elf tables)) s w (Found (answer_of_verdict v))
    check_found v c =
        let quiet = read_both c.took.0 c.took.1 in
        let other = some_content (s.content Second tables) in
        let content : (u.input Second).rest ≡ s.content Second tables = ap (λ (i : Input). i.rest) o.input ∙ ap (λ told. told Second tables) (same_content s t ((place.Elf, elf) ∷ []) a.quiet) in
        let judges : IfSome (s.content Second tables) (λ bytes. JudgesFile program_tables loaded bytes v) = subst (λ (told : Option (List ℕ)). IfSome told (λ bytes. JudgesFile program_tables loaded bytes v)) content c.judged in
        finds_second (check elf tables) elf tables [] s w bytes other.0 loaded 1 (Found (answer_of_verdict v)) (check_two elf tables) a.told other.1 image
        (λ writes. (writes, reads_accepted v c)) quiet
        (over_image loaded image (record { verdict = v; judges = judges; is = refl }), λ done. quiet.named)

    -- reading fails, or memory was refused
    pub check_fails : (error : HostError) → Checks (JudgesFile program_tables loaded) u w (Err error) → Finds (Some (check elf tables)) s w (Host error)
    check_fails error c =
        fails_second (check elf tables) elf tables [] s w bytes loaded 1 error (check_known elf tables) (check_two elf tables) a.told image (read_both c.took.0 c.took.1)
        (λ failed. rose_after s.faults u.faults w.faults (omega (arith, a.quiet.later, o.quiet.later)) (c.fault (ap Err failed)))
