-- What status 0 of `check` says.
use Rattle.std.proofs.Common.{◌≡◌, ◌⊎◌, ℕ, ◌≤◌, List, [], ◌∷◌, length, true, refl, sym, ap, ◌∙◌, subst, Some}
use Rattle.std.specs.declared.option.Option.{Option}
use Rattle.std.specs.Option.{option_map}
use Rattle.hex.specs.Hex.{encode_lower}
use Rattle.vm_host.specs.declared.Slot.{Slot}
use Rattle.vm_host.specs.declared.Slot.TheVariants.{Elf, Second}
use Rattle.vm_host.specs.State.{HostState, then_more}
use Rattle.vm_host.specs.Calls.{Rose}
use Rattle.elf_image.specs.Loaded.{Loaded}
use Rattle.elf_image.specs.Image.{HasImage}
use Rattle.vm_trace.specs.File.{File}
use Rattle.acceptance.specs.Spelled.{hints_before}
use Rattle.vm_prover.specs.Survey.{EndsCut}
use Rattle.vm_checker.specs.declared.Accepted.{Accepted as Acceptance}
use Rattle.vm_checker.specs.declared.Verdict.{Verdict}
use Rattle.vm_checker.specs.declared.Verdict.TheVariants as verdict
use Rattle.vm_checker.specs.Exactly.{IsAcceptedFile}
use Rattle.vm_checker.specs.Verdicts.{States, RunsOrCollides, JudgesFile, accepted, rejected}
use Rattle.vm_tool.specs.declared.answer.Answer.{Answer}
use Rattle.vm_tool.specs.declared.answer.Answer.TheVariants as answer
use Rattle.vm_tool.specs.declared.answer.Halt.TheVariants.{Found}
use Rattle.vm_tool.specs.declared.answer.Status.{Status}
use Rattle.vm_tool.specs.declared.answer.Status.TheVariants as status
use Rattle.vm_tool.specs.Answer.{line_of_accepted, status_of, text_of}
use Rattle.vm_tool.specs.Command.{Command, Means, check, prove}
use Rattle.vm_tool.specs.Files.{MAX_FILE, GivesImage, OverElf, elf_refused, over_image}
use Rattle.vm_tool.specs.CheckCommand.{answer_of_verdict, CheckAnswers}
use Rattle.vm_tool.specs.Headline.{RunsAsSaid, ProvedAsSaid, Headline}
use Rattle.vm_tool.specs.Outcome.{Answers, Outcome, answered, fault, memory}
use Rattle.vm_tool.specs.Tables.{program_tables}
use Rattle.vm_tool.proofs.ProveLaws.{ending_run_is_proved}
use Rattle.vm_tool.proofs.Stages.{elf_not_done}
use Rattle.vm_tool.proofs.Quiet.{told_is}
use Rattle.vm_tool.proofs.LawLemmas.{meaning_is_one}

-- an answer with status 0 is an accepted file
record IsAccepted (elf tables : List ℕ) (found : Answer) : Type 0 where
  loaded : Loaded
  image : HasImage elf loaded
  file : File
  is : IsAcceptedFile (λ version. program_tables) loaded 1 tables file
  stated : Acceptance
  states : States program_tables loaded file stated
  runs : RunsOrCollides program_tables loaded file stated.hints
  found_is : found ≡ answer.Accepted stated

not_both : status.Rejected ≡ status.Done → ⊥
not_both e = cc

judged_done : (elf tables : List ℕ) (found : Answer) (loaded : Loaded) → HasImage elf loaded → (v : Verdict) → found ≡ answer_of_verdict v → JudgesFile program_tables loaded tables v → status_of found ≡ status.Done → IsAccepted elf tables found
judged_done elf tables found loaded image v is (accepted file here stated states runs none same) done =
    record { loaded = loaded; image = image; file = file; is = here; stated = stated; states = states; runs = runs; found_is = is ∙ ap answer_of_verdict same }
judged_done elf tables found loaded image v is (rejected why some same) done =
    let other : status.Rejected ≡ status.Done = sym (ap status_of (is ∙ ap answer_of_verdict same)) ∙ done in
    absurd (not_both other)

check_done : (elf tables : List ℕ) (found : Answer) → OverElf elf (CheckAnswers (Some tables)) found → status_of found ≡ status.Done → IsAccepted elf tables found
check_done elf tables found (elf_refused why) done = absurd (elf_not_done elf found why done)
check_done elf tables found (over_image loaded image c) done = judged_done elf tables found loaded image.image c.verdict c.is c.judges done

-- the line of what is stated
line_is : (f : File) (a : Acceptance) (loaded : Loaded) (s : States program_tables loaded f a) → text_of (answer.Accepted a) ≡ line_of_accepted f.code (encode_lower f.public_bytes) (length f.segments) (length (hints_before s.events []))
line_is f a loaded s =
    ap (λ (code : ℕ). line_of_accepted code (encode_lower a.public) a.segments (length a.hints)) s.code
    ∙ ap (λ (public : List ℕ). line_of_accepted f.code (encode_lower public) a.segments (length a.hints)) s.public
    ∙ ap (λ (segments : ℕ). line_of_accepted f.code (encode_lower f.public_bytes) segments (length a.hints)) s.segments
    ∙ ap (λ (hints : List ℕ). line_of_accepted f.code (encode_lower f.public_bytes) (length f.segments) (length hints)) s.hints

said_by : (elf elf_name tables tables_name : List ℕ) (inputs : Slot → List ℕ) (old new : HostState) → elf ≡ inputs Elf → old.content Second tables_name ≡ Some tables → Outcome inputs (Some (check elf_name tables_name)) old new status.Done → RunsAsSaid elf tables old new
said_by elf elf_name tables tables_name inputs old new one two (answered found says is text leaves) =
    let over = subst (λ (o : Option (List ℕ)). OverElf elf (CheckAnswers o) found) two (subst (λ (e : List ℕ). OverElf e (CheckAnswers (old.content Second tables_name)) found) (sym one) says) in
    let a = check_done elf tables found over (sym is) in
    record {
      loaded = a.loaded;
      image = a.image;
      file = a.file;
      spelled = a.is.text;
      accepts = a.is.accepts;
      hints = a.states.events;
      spell = a.states.spell;
      run = subst (λ (hints : List ℕ). RunsOrCollides program_tables a.loaded a.file hints) a.states.hints a.runs;
      said = text ∙ ap (λ (x : Answer). then_more old.said (text_of x)) a.found_is ∙ ap (then_more old.said) (line_is a.file a.stated a.loaded a.states);
      read = leaves.1 a.stated (ap Found a.found_is) ∙ ap (λ told. record { is_open = true; rest = option_map (λ bytes. []) told }) two;
    }
said_by elf elf_name tables tables_name inputs old new one two (fault is rose part leaves) = absurd (cc (is))
said_by elf elf_name tables tables_name inputs old new one two (memory is part leaves) = absurd (cc (is))

proved_by : (elf hints out : List ℕ) (inputs : Slot → List ℕ) (per_segment : ℕ) (old new : HostState) (result : Status) (lengths : List ℕ) (steps code : ℕ) (shown : List ℕ) (loaded : Loaded) (e h : List ℕ)
    → e ≡ inputs Elf → h ≡ inputs Second → length e ≤ MAX_FILE → length h ≤ MAX_FILE → HasImage e loaded → EndsCut loaded h per_segment steps lengths code shown
    → old.content Elf elf ≡ Some e → old.content Second hints ≡ Some h → (Rose old.faults new.faults → ⊥) → Outcome inputs (Some (prove elf hints out per_segment)) old new result
    → (result ≡ status.NoMemory) ⊎ ((result ≡ status.Done) × ProvedAsSaid loaded h lengths steps code shown old new)
proved_by elf hints out inputs per_segment old new result lengths steps code shown loaded e h same_elf same_hints short_elf short image ends told_elf told_hints quiet outcome =
    let gives : GivesImage (inputs Elf) loaded = record { short = subst (λ xs. length xs ≤ MAX_FILE) same_elf short_elf; image = subst (λ xs. HasImage xs loaded) same_elf image } in
    subst (λ xs. (result ≡ status.NoMemory) ⊎ ((result ≡ status.Done) × ProvedAsSaid loaded xs lengths steps code shown old new)) (sym same_hints)
    (ending_run_is_proved elf hints out inputs per_segment old new result lengths steps code shown loaded gives (subst (λ xs. length xs ≤ MAX_FILE) same_hints short)
    (subst (λ xs. EndsCut loaded xs per_segment steps lengths code shown) same_hints ends) (told_elf ∙ ap Some same_elf) (told_hints ∙ ap Some same_hints) quiet outcome)

pub headline : (words : List (List ℕ)) (command : Option Command) (old new : HostState) (result : Status) → Means words command → Answers command old new result → Headline words old new result
headline words command old new result means answers = record {
  accepted = λ elf tables e t is done told_elf told_tables.
      let same : command ≡ Some (check elf tables) = meaning_is_one words command (Some (check elf tables)) means (is, tt) in
      let a : Answers (Some (check elf tables)) old new status.Done = subst (λ s. Answers (Some (check elf tables)) old new s) done (subst (λ c. Answers c old new result) same answers) in
      said_by e elf t tables a.inputs old new (told_is (old.content Elf elf) e (a.inputs Elf) told_elf a.contents.0) told_tables a.outcome;
  proved = λ elf hints out e h lengths shown per_segment steps code loaded is least most told_elf told_hints short_elf short image ends quiet.
      let same : command ≡ Some (prove elf hints out per_segment) = meaning_is_one words command (Some (prove elf hints out per_segment)) means (is, (least, most)) in
      let a : Answers (Some (prove elf hints out per_segment)) old new result = subst (λ c. Answers c old new result) same answers in
      let same_elf : e ≡ a.inputs Elf = told_is (old.content Elf elf) e (a.inputs Elf) told_elf a.contents.0 in
      let same_hints : h ≡ a.inputs Second = told_is (old.content Second hints) h (a.inputs Second) told_hints a.contents.1.0 in
      proved_by elf hints out a.inputs per_segment old new result lengths steps code shown loaded e h same_elf same_hints short_elf short image ends told_elf told_hints quiet a.outcome;
}
