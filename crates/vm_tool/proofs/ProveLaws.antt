-- What is written is what the run says, and is accepted.
use Rattle.std.proofs.Common.{◌≡◌, ◌⊎◌, ℕ, ◌≤◌, List, [], ◌∷◌, length, map, None, Some, IfSome, refl, sym, ap, ◌∙◌, inl, inr, subst, lit≤}
use Rattle.std.proofs.lemmas.List.{length-map}
use Rattle.std.specs.declared.option.Option.{Option}
use Rattle.vm_host.specs.declared.Place.TheVariants as place
use Rattle.vm_host.specs.declared.Slot.{Slot}
use Rattle.vm_host.specs.declared.Slot.TheVariants.{Elf, Second}
use Rattle.vm_host.specs.Memory.{by_slot}
use Rattle.vm_host.specs.State.{HostState, then_more}
use Rattle.vm_host.specs.Calls.{Rose}
use Rattle.hex.specs.Hex.{encode_lower}
use Rattle.elf_image.specs.Loaded.{Loaded}
use Rattle.elf_image.specs.Image.{HasImage}
use Rattle.elf_image.proofs.Images.{image_is_one}
use Rattle.vm_trace.specs.File.{File}
use Rattle.page_tree.specs.Start.{start_map}
use Rattle.page_tree.specs.Tree.{root}
use Rattle.acceptance.specs.Accepts.{last_root}
use Rattle.acceptance.specs.Events.{valid_rows}
use Rattle.acceptance.specs.Laws.{AcceptedFilesSpellOneList}
use Rattle.acceptance.specs.Spelled.{HintEvent, hints_before}
use Rattle.vm_prover.specs.declared.proving.Proved.{Proved}
use Rattle.vm_prover.specs.declared.proving.Proving.{Proving}
use Rattle.vm_prover.specs.declared.proving.Proving.TheVariants as proving
use Rattle.vm_prover.specs.Survey.{EndsCut}
use Rattle.vm_prover.specs.Proving.{EndsSo, SpellsRun, WritesRun}
use Rattle.vm_prover.proofs.OneWay.{two_ends}
use Rattle.vm_checker.specs.declared.Accepted.{Accepted as Acceptance}
use Rattle.vm_checker.specs.Exactly.{IsAcceptedFile}
use Rattle.vm_checker.specs.Verdicts.{States}
use Rattle.vm_tool.specs.declared.answer.Answer.{Answer}
use Rattle.vm_tool.specs.declared.answer.Answer.TheVariants as answer
use Rattle.vm_tool.specs.declared.answer.Status.{Status}
use Rattle.vm_tool.specs.declared.answer.Status.TheVariants as status
use Rattle.vm_tool.specs.declared.answer.Halt.TheVariants.{Found}
use Rattle.vm_tool.specs.Answer.{status_of, text_of, line_of_accepted, line_of_proved}
use Rattle.vm_tool.specs.CheckCommand.{CheckSucceeds}
use Rattle.vm_tool.specs.Command.{check, prove}
use Rattle.vm_tool.specs.Files.{MAX_FILE, GivesImage, OverElf, elf_refused, over_image}
use Rattle.vm_tool.specs.Headline.{ProvedAsSaid}
use Rattle.vm_tool.specs.Laws.{AreTold, IsAnswered, SaysTheSame, WrittenFilesAreAccepted}
use Rattle.vm_tool.specs.Outcome.{Outcome, answered, fault, memory, Answers}
use Rattle.vm_tool.specs.ProveCommand.{answer_of_proving, ProveAnswers, no_hints, run_is_proved, WritesTables, LeavesTables}
use Rattle.vm_tool.specs.Tables.{program_tables}
use Rattle.vm_tool.proofs.LawLemmas.{answer_is_one, is_complete}
use Rattle.vm_tool.proofs.Stages.{elf_not_done, hints_not_done}

-- ---- a run that ends is proved

-- what was written over an image states the run that ends so
module _ (bytes hints lengths : List ℕ) (per_segment steps code : ℕ) (public_bytes : List ℕ) (loaded : Loaded) (image : HasImage bytes loaded) (ends : EndsCut loaded hints per_segment steps lengths code public_bytes) where
  claim : Proved
  claim = record { code = code; public = public_bytes; segments = length lengths; steps = steps }

  states_run : (new : HostState) → WritesTables (GivesImage bytes) hints per_segment claim new → IfSome new.output.written (SpellsRun program_tables 1 loaded hints lengths code public_bytes)
  unfolding claim
  states_run new w =
      let same : w.loaded ≡ loaded = image_is_one bytes w.loaded loaded w.image.image image in
      let writes : WritesRun program_tables 1 loaded hints per_segment claim new = subst (λ l. WritesRun program_tables 1 l hints per_segment claim new) same w.writes in
      let cut : writes.so.lengths ≡ lengths = (two_ends loaded hints per_segment steps steps writes.so.lengths lengths code code public_bytes public_bytes writes.so.ends ends).1 in
      subst (λ ls. IfSome new.output.written (SpellsRun program_tables 1 loaded hints ls code public_bytes)) cut writes.written

module _ (elf hints out : List ℕ) (inputs : Slot → List ℕ) (per_segment : ℕ) (old new : HostState) (result : Status) (lengths : List ℕ) (steps code : ℕ) (public_bytes : List ℕ) (loaded : Loaded)
    (image : GivesImage (inputs Elf) loaded) (short : length (inputs Second) ≤ MAX_FILE) (ends : EndsCut loaded (inputs Second) per_segment steps lengths code public_bytes)
    (told_elf : old.content Elf elf ≡ Some (inputs Elf)) (told_hints : old.content Second hints ≡ Some (inputs Second)) (quiet : Rose old.faults new.faults → ⊥) where
  found_is : Answer
  found_is = answer.Proved (record { code = code; public = public_bytes; segments = length lengths; steps = steps })

  pub ending_run_is_proved : Outcome inputs (Some (prove elf hints out per_segment)) old new result
      → (result ≡ status.NoMemory) ⊎ ((result ≡ status.Done) × ProvedAsSaid loaded (inputs Second) lengths steps code public_bytes old new)
  unfolding found_is claim
  ending_run_is_proved (answered found says is text leaves) =
      let told : AreTold old.content ((place.Elf, elf) ∷ (place.Second, hints) ∷ (place.Out, out) ∷ []) inputs = (told_elf, (told_hints, (tt, tt))) in
      let one : found ≡ found_is = answer_is_one old.content inputs (Some (prove elf hints out per_segment)) found found_is told says
      (over_image loaded image (run_is_proved (record { short = short; proving = proving.Proved (record { code = code; public = public_bytes; segments = length lengths; steps = steps }); comes = record { lengths = lengths; ends = ends; count = refl }; is = refl }))) in
      let left : LeavesTables (GivesImage (inputs Elf)) (inputs Second) per_segment old new (Found found_is) = subst (λ f. LeavesTables (GivesImage (inputs Elf)) (inputs Second) per_segment old new (Found f)) one leaves.1 in
      inr (
        is ∙ ap status_of one,
        record {
          closed = left.writes.closed;
          written = states_run (inputs Elf) (inputs Second) lengths per_segment steps code public_bytes loaded image.image ends new left;
          said = text ∙ ap (λ f. then_more old.said (text_of f)) one;
        },
      )
  ending_run_is_proved (fault is rose part leaves) = absurd (quiet rose)
  ending_run_is_proved (memory is part leaves) = inl is

-- ---- what was written is accepted

-- a success of `prove` is a claim
prove_done : (elf hints : List ℕ) (per_segment : ℕ) (found : Answer) → OverElf elf (ProveAnswers hints per_segment) found → status_of found ≡ status.Done → (claim : Proved) × (found ≡ answer.Proved claim)
prove_done elf hints per_segment found (elf_refused why) done = absurd (elf_not_done elf found why done)
prove_done elf hints per_segment found (over_image loaded image (no_hints why)) done = absurd (hints_not_done hints found why done)
prove_done elf hints per_segment found (over_image loaded image (run_is_proved x)) done = by_proving x.proving x.is
  where
    by_proving : (p : Proving) → found ≡ answer_of_proving p → (claim : Proved) × (found ≡ answer.Proved claim)
    by_proving (proving.Proved claim) is = (claim, is)
    by_proving (proving.Trapped trap) is = absurd (cc (sym (ap status_of is) ∙ done))
    by_proving proving.TooManySegments is = absurd (cc (sym (ap status_of is) ∙ done))

module _ (one_list : AcceptedFilesSpellOneList program_tables) where
  -- a file that states a run is accepted, and this is what is said of it
  module _ (elf hints bytes : List ℕ) (per_segment : ℕ) (claim : Proved) (loaded : Loaded) (image : GivesImage elf loaded) (so : EndsSo loaded hints per_segment claim)
      (spells : SpellsRun program_tables 1 loaded hints so.lengths claim.code claim.public bytes) where
    file : File
    file = spells.file

    count : length spells.file.segments ≡ claim.segments
    count = sym (length-map spells.file.segments (valid_rows program_tables)) ∙ rows ∙ sym so.count
      where
        rows : length (map (valid_rows program_tables) spells.file.segments) ≡ length so.lengths
        rows = ap (λ (xs : List ℕ). length xs) spells.states.rows

    stated : Acceptance
    stated = record {
      code = claim.code;
      public = claim.public;
      root = last_root (root (start_map loaded)) spells.file.segments;
      segments = claim.segments;
      hints = hints_before spells.states.spelled [];
    }

    states : States program_tables loaded spells.file stated
    unfolding stated
    states = record {
      code = sym spells.states.code_is;
      public = sym spells.states.public_are;
      root = refl;
      segments = sym count;
      events = spells.states.spelled;
      spell = spells.states.spell;
      only = λ other spell. one_list elf loaded spells.file other spells.states.spelled image.image spells.states.accepts.claim spell spells.states.spell;
      hints = refl;
    }

    checks : CheckSucceeds elf bytes (answer.Accepted stated)
    checks = record {
      loaded = loaded;
      image = image;
      file = spells.file;
      accepted = record { version = version_low; accepts = spells.states.accepts; text = spells.text };
      stated = stated;
      states = states;
      is = refl;
    }
      where
        version_low : spells.file.version ≤ 1
        version_low = subst (λ v. v ≤ 1) (sym spells.version_is) (lit≤ tt)

  -- what one call left, and another checks
  over_two : (elf hints out image tables bytes : List ℕ) (per_segment : ℕ) (old new again later : HostState) (result : Status) (inputs : Slot → List ℕ)
      → Outcome inputs (Some (prove elf hints out per_segment)) old new status.Done → new.output.written ≡ Some bytes
      → Answers (Some (check image tables)) again later result → again.content Elf image ≡ Some (inputs Elf) → again.content Second tables ≡ Some bytes → (Rose again.faults later.faults → ⊥)
      → SaysTheSame old new again later result
  unfolding prove_done stated
  over_two elf hints out image tables bytes per_segment old new again later result inputs (fault is rose part leaves) written b told_elf told_tables quiet = absurd (cc (is))
  over_two elf hints out image tables bytes per_segment old new again later result inputs (memory is part leaves) written b told_elf told_tables quiet = absurd (cc (is))
  over_two elf hints out image tables bytes per_segment old new again later result inputs (answered found says is text leaves) written b told_elf told_tables quiet =
      let d = prove_done (inputs Elf) (inputs Second) per_segment found says (sym is) in
      let left : LeavesTables (GivesImage (inputs Elf)) (inputs Second) per_segment old new (Found (answer.Proved d.0)) =
      subst (λ f. LeavesTables (GivesImage (inputs Elf)) (inputs Second) per_segment old new (Found f)) d.1 leaves.1 in
      let spells : SpellsRun program_tables 1 left.loaded (inputs Second) left.writes.so.lengths d.0.code d.0.public bytes =
      subst (λ (o : Option (List ℕ)). IfSome o (SpellsRun program_tables 1 left.loaded (inputs Second) left.writes.so.lengths d.0.code d.0.public)) written left.writes.written in
      let succeeds = checks (inputs Elf) (inputs Second) bytes per_segment d.0 left.loaded left.image left.writes.so spells in
      let found_there = stated (inputs Elf) (inputs Second) bytes per_segment d.0 left.loaded left.image left.writes.so spells in
      let done = is_complete (check image tables) again later result (by_slot (inputs Elf) bytes) (answer.Accepted found_there) b (told_elf, (told_tables, tt)) quiet succeeds in
      record {
        code = d.0.code;
        public_bytes = d.0.public;
        segments = d.0.segments;
        steps = d.0.steps;
        hint_bytes = length (hints_before spells.states.spelled []);
        proved = text ∙ ap (λ f. then_more old.said (text_of f)) d.1;
        accepted = done.1;
      }

  pub written_files_are_accepted : WrittenFilesAreAccepted
  written_files_are_accepted elf hints out image tables bytes per_segment old new again later result a written b told_elf told_tables quiet =
      over_two elf hints out image tables bytes per_segment old new again later result a.inputs a.outcome written b told_elf told_tables quiet
