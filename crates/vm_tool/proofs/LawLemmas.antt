-- What follows from the contract of the top call.
use Rattle.std.proofs.Common.{◌≡◌, ◌⊎◌, ℕ, ◌<◌, ◌≤◌, ◌^◌, List, [], ◌∷◌, length, suc, zero, None, Some, refl, sym, ap, ◌∙◌, inl, inr, arith, subst}
use Rattle.std.specs.Prelude.{if◌then◌else◌, codes}
use Rattle.std.specs.Str.{bytes_eq}
use Rattle.std.specs.Str.Parse.{digits_value}
use Rattle.std.specs.declared.option.Option.{Option}
use Rattle.std.specs.Fmt.{decimal}
use Rattle.std.proofs.lemmas.Fmt.{decimal_is_IsNumeral}
use Rattle.vm_host.specs.declared.Slot.{Slot}
use Rattle.vm_host.specs.declared.Slot.TheVariants.{Elf, Second}
use Rattle.vm_host.specs.declared.Place.{Place}
use Rattle.vm_host.specs.declared.Place.TheVariants as place
use Rattle.vm_host.specs.State.{HostState, then_more}
use Rattle.vm_host.specs.Calls.{Rose}
use Rattle.elf_image.specs.Loaded.{Loaded}
use Rattle.elf_image.proofs.Images.{image_is_one, refusal_is_one, refused_has_no_image}
use Rattle.rv_run.specs.declared.outcome.RunEnd.TheVariants.{Ended}
use Rattle.rv_run.proofs.Runs.{run_end_is_one}
use Rattle.vm_prover.specs.declared.proving.Proving.TheVariants as proving
use Rattle.vm_prover.proofs.OneWay.{proving_is_one}
use Rattle.vm_tool.specs.declared.answer.Answer.{Answer}
use Rattle.vm_tool.specs.declared.answer.Answer.TheVariants as answer
use Rattle.vm_tool.specs.declared.answer.Status.{Status}
use Rattle.vm_tool.specs.declared.answer.Status.TheVariants as status
use Rattle.vm_tool.specs.Answer.{status_of, text_of}
use Rattle.vm_tool.specs.Command.{Command, run, transpile, check, prove, sample, names_of, words_of, IsInLimits}
use Rattle.vm_tool.specs.Files.{MAX_FILE, IsContent, AreContents, GivesImage, RefusesElf, too_long, refused, OverElf, elf_refused, over_image, RefusesHints}
use Rattle.vm_tool.specs.RunCommand.{answer_of_end, RunAnswers, hints_refused, ended, RunEnds}
use Rattle.vm_tool.specs.TranspileCommand.{Lists}
use Rattle.vm_tool.specs.CheckCommand.{CheckAnswers, CheckSucceeds}
use Rattle.vm_tool.specs.ProveCommand.{answer_of_proving, ProveAnswers, no_hints, run_is_proved}
use Rattle.vm_tool.specs.SampleCommand.{sample_image, sample_per_segment, SampleAnswers}
use Rattle.vm_tool.specs.Says.{Says, Succeeds}
use Rattle.vm_tool.specs.Outcome.{all_names, OpensElfAlone, Outcome, answered, fault, memory, Answers}
use Rattle.vm_tool.specs.Laws.{MeaningIsOne, AnswerIsOne, AreTold, IsAnswered, Determined, Complete, RefusedElfDecides, FaultHasCause}
use Rattle.vm_tool.proofs.Verdicts.{check_answers_are_one, accepted_says}
use Rattle.vm_tool.proofs.Quiet.{told_is}
use Rattle.vm_tool.proofs.Stages.{output_first}

-- ---- words

word_at : ℕ → List (List ℕ) → List ℕ
word_at n [] = []
word_at zero (word ∷ words) = word
word_at (suc n) (word ∷ words) = word_at n words

-- the command that words are, if they are one
read_back : List (List ℕ) → Option Command
read_back words =
    let name = word_at 0 words in
    if bytes_eq name (codes "run") then Some (run (word_at 1 words) (word_at 2 words) (digits_value 10 (word_at 3 words)))
    else if bytes_eq name (codes "transpile") then Some (transpile (word_at 1 words))
    else if bytes_eq name (codes "check") then Some (check (word_at 1 words) (word_at 2 words))
    else if bytes_eq name (codes "prove") then Some (prove (word_at 1 words) (word_at 2 words) (word_at 3 words) (digits_value 10 (word_at 4 words)))
    else if bytes_eq name (codes "sample") then Some (sample (digits_value 10 (word_at 1 words)) (word_at 2 words))
    else None

reads_back : (command : Command) → IsInLimits command → read_back (words_of command) ≡ Some command
unfolding read_back word_at
reads_back (run elf hints steps) h =
    let small : steps < 2 ^ 64 = omega arith in
    ap (λ n. Some (run elf hints n)) (decimal_is_IsNumeral steps small).1
reads_back (transpile elf) h = refl
reads_back (check elf tables) h = refl
reads_back (prove elf hints out per_segment) h =
    let small : per_segment < 2 ^ 64 = omega (arith, h.1) in
    ap (λ n. Some (prove elf hints out n)) (decimal_is_IsNumeral per_segment small).1
reads_back (sample number out) h =
    let small : number < 2 ^ 64 = omega (arith, h) in
    ap (λ n. Some (sample n out)) (decimal_is_IsNumeral number small).1

same_command : (a b : Command) → IsInLimits a → IsInLimits b → words_of a ≡ words_of b → a ≡ b
same_command a b h k e =
    let same : Some a ≡ Some b = sym (reads_back a h) ∙ ap read_back e ∙ reads_back b k in
    cc (same)

pub meaning_is_one : MeaningIsOne
meaning_is_one words None None a b = refl
meaning_is_one words None (Some d) a b = absurd (a d b.1 b.0)
meaning_is_one words (Some c) None a b = absurd (b c a.1 a.0)
meaning_is_one words (Some c) (Some d) a b = ap Some (same_command c d a.1 b.1 (sym a.0 ∙ b.0))

-- ---- one answer

-- a refused file gives no image, so nothing else is answered
refused_alone : (elf : List ℕ) (found : Answer) (loaded : Loaded) → RefusesElf elf found → GivesImage elf loaded → ⊥
refused_alone elf found loaded (too_long long is) g = omega (arith, long, g.short)
refused_alone elf found loaded (refused error short r is) g = refused_has_no_image elf loaded error r g.image

-- a file is refused with one answer
refusal_answer_is_one : (elf : List ℕ) (a b : Answer) → RefusesElf elf a → RefusesElf elf b → a ≡ b
refusal_answer_is_one elf a b (too_long long is) (too_long long' is') = is ∙ sym is'
refusal_answer_is_one elf a b (too_long long is) (refused error short r is') = absurd (omega (arith, long, short))
refusal_answer_is_one elf a b (refused error short r is) (too_long long is') = absurd (omega (arith, long, short))
refusal_answer_is_one elf a b (refused error short r is) (refused error' short' r' is') =
    is ∙ ap answer.ElfRefused (refusal_is_one elf error error' r r') ∙ sym is'

-- over an ELF file there is one answer where there is one over its image
over_elf_is_one : (elf : List ℕ) (Over : Loaded → Answer → Type 0) → ((loaded : Loaded) (a b : Answer) → Over loaded a → Over loaded b → a ≡ b)
    → (a b : Answer) → OverElf elf Over a → OverElf elf Over b → a ≡ b
over_elf_is_one elf Over one a b (elf_refused x) (elf_refused y) = refusal_answer_is_one elf a b x y
over_elf_is_one elf Over one a b (elf_refused x) (over_image loaded image y) = absurd (refused_alone elf a loaded x image)
over_elf_is_one elf Over one a b (over_image loaded image x) (elf_refused y) = absurd (refused_alone elf b loaded y image)
over_elf_is_one elf Over one a b (over_image loaded image x) (over_image loaded' image' y) =
    let same : loaded ≡ loaded' = image_is_one elf loaded loaded' image.image image'.image in
    one loaded' a b (subst (λ l. Over l a) same x) y

long_alone : (hints : List ℕ) (found : Answer) → RefusesHints hints found → length hints ≤ MAX_FILE → ⊥
long_alone hints found r short = omega (arith, r.long, short)

run_answers_are_one : (hints : List ℕ) (limit : ℕ) (loaded : Loaded) (a b : Answer) → RunAnswers hints limit loaded a → RunAnswers hints limit loaded b → a ≡ b
run_answers_are_one hints limit loaded a b (hints_refused x) (hints_refused y) = x.is ∙ sym y.is
run_answers_are_one hints limit loaded a b (hints_refused x) (ended y) = absurd (long_alone hints a x y.short)
run_answers_are_one hints limit loaded a b (ended x) (hints_refused y) = absurd (long_alone hints b y x.short)
run_answers_are_one hints limit loaded a b (ended x) (ended y) =
    x.is ∙ ap (answer_of_end limit) (run_end_is_one loaded hints limit x.end y.end x.ended y.ended) ∙ sym y.is

prove_answers_are_one : (hints : List ℕ) (per_segment : ℕ) (loaded : Loaded) (a b : Answer) → ProveAnswers hints per_segment loaded a → ProveAnswers hints per_segment loaded b → a ≡ b
prove_answers_are_one hints per_segment loaded a b (no_hints x) (no_hints y) = x.is ∙ sym y.is
prove_answers_are_one hints per_segment loaded a b (no_hints x) (run_is_proved y) = absurd (long_alone hints a x y.short)
prove_answers_are_one hints per_segment loaded a b (run_is_proved x) (no_hints y) = absurd (long_alone hints b y x.short)
prove_answers_are_one hints per_segment loaded a b (run_is_proved x) (run_is_proved y) =
    x.is ∙ ap answer_of_proving (proving_is_one loaded hints per_segment x.proving y.proving x.comes y.comes) ∙ sym y.is

sample_answers_are_one : (number : ℕ) (a b : Answer) → SampleAnswers number a → SampleAnswers number b → a ≡ b
sample_answers_are_one number a b x y =
    let same : proving.Proved x.claim ≡ proving.Proved y.claim = proving_is_one (sample_image number) [] sample_per_segment (proving.Proved x.claim) (proving.Proved y.claim) x.ends y.ends in
    let claims : x.claim ≡ y.claim = cc in
    x.is ∙ ap (answer.Sampled number) claims ∙ sym y.is

one_by : (told : Option (List ℕ)) (tables : List ℕ) → told ≡ Some tables → (loaded : Loaded) (a b : Answer) → CheckAnswers told loaded a → CheckAnswers told loaded b → a ≡ b
one_by told tables e loaded a b x y =
    check_answers_are_one tables loaded a b (subst (λ (o : Option (List ℕ)). CheckAnswers o loaded a) e x) (subst (λ (o : Option (List ℕ)). CheckAnswers o loaded b) e y)

pub answer_is_one : AnswerIsOne
answer_is_one content inputs None a b told x y = x ∙ sym y
answer_is_one content inputs (Some (run elf hints steps)) a b told x y =
    over_elf_is_one (inputs Elf) (RunAnswers (inputs Second) steps) (run_answers_are_one (inputs Second) steps) a b x y
answer_is_one content inputs (Some (transpile elf)) a b told x y = over_elf_is_one (inputs Elf) Lists (λ loaded c d p q. p ∙ sym q) a b x y
answer_is_one content inputs (Some (check elf tables)) a b told x y =
    over_elf_is_one (inputs Elf) (CheckAnswers (content Second tables)) (one_by (content Second tables) (inputs Second) told.1.0) a b x y
answer_is_one content inputs (Some (prove elf hints out per_segment)) a b told x y =
    over_elf_is_one (inputs Elf) (ProveAnswers (inputs Second) per_segment) (prove_answers_are_one (inputs Second) per_segment) a b x y
answer_is_one content inputs (Some (sample number out)) a b told x y = sample_answers_are_one number a b x y

-- ---- told files

-- an answer over the bytes that are told
says_told : (content : Slot → List ℕ → Option (List ℕ)) (command : Option Command) (inputs told : Slot → List ℕ) (found : Answer)
    → AreContents content (all_names command) inputs → AreTold content (all_names command) told → Says content inputs command found → Says content told command found
says_told content None inputs told found c k says = says
says_told content (Some (run elf hints steps)) inputs told found c k says =
    subst (λ h. OverElf (told Elf) (RunAnswers h steps) found) (sym (told_is (content Second hints) (told Second) (inputs Second) k.1.0 c.1.0))
    (subst (λ e. OverElf e (RunAnswers (inputs Second) steps) found) (sym (told_is (content Elf elf) (told Elf) (inputs Elf) k.0 c.0)) says)
says_told content (Some (transpile elf)) inputs told found c k says =
    subst (λ e. OverElf e Lists found) (sym (told_is (content Elf elf) (told Elf) (inputs Elf) k.0 c.0)) says
says_told content (Some (check elf tables)) inputs told found c k says =
    subst (λ e. OverElf e (CheckAnswers (content Second tables)) found) (sym (told_is (content Elf elf) (told Elf) (inputs Elf) k.0 c.0)) says
says_told content (Some (prove elf hints out per_segment)) inputs told found c k says =
    subst (λ h. OverElf (told Elf) (ProveAnswers h per_segment) found) (sym (told_is (content Second hints) (told Second) (inputs Second) k.1.0 c.1.0))
    (subst (λ e. OverElf e (ProveAnswers (inputs Second) per_segment) found) (sym (told_is (content Elf elf) (told Elf) (inputs Elf) k.0 c.0)) says)
says_told content (Some (sample number out)) inputs told found c k says = says

-- a call without a fault says the one answer that its words can have
answered_by : (inputs : Slot → List ℕ) (command : Option Command) (old new : HostState) (result : Status) (found : Answer) → Outcome inputs command old new result
    → (Rose old.faults new.faults → ⊥) → ((other : Answer) → Says old.content inputs command other → other ≡ found) → IsAnswered old new result found
answered_by inputs command old new result found (answered other says is text leaves) quiet one =
    let same = one other says in
    inr (is ∙ ap status_of same, text ∙ ap (λ x. then_more old.said (text_of x)) same)
answered_by inputs command old new result found (fault is rose part leaves) quiet one = absurd (quiet rose)
answered_by inputs command old new result found (memory is part leaves) quiet one = inl is

pub is_determined : Determined
is_determined command old new result told found a contents quiet is =
    answered_by a.inputs command old new result found a.outcome quiet
    (λ other says. answer_is_one old.content told command other found contents (says_told old.content command a.inputs told other a.contents contents says) is)

-- an accepted claim is the one answer
check_alone : (elf tables : List ℕ) (found other : Answer) (x : CheckSucceeds elf tables found) → OverElf elf (CheckAnswers (Some tables)) other → other ≡ found
check_alone elf tables found other x (elf_refused why) = absurd (refused_alone elf other x.loaded why x.image)
check_alone elf tables found other x (over_image loaded image says) =
    let same : loaded ≡ x.loaded = image_is_one elf loaded x.loaded image.image x.image.image in
    accepted_says elf tables found other x (subst (λ l. CheckAnswers (Some tables) l other) same says)

-- a command that succeeds says so, and nothing else
success_alone : (content : Slot → List ℕ → Option (List ℕ)) (inputs : Slot → List ℕ) (command : Command) (found other : Answer) → AreTold content (names_of command) inputs
    → Succeeds inputs command found → Says content inputs (Some command) other → other ≡ found
success_alone content inputs (run elf hints steps) found other told x says =
    answer_is_one content inputs (Some (run elf hints steps)) other found told says
    (over_image x.loaded x.image (ended (record { short = x.short; end = Ended x.steps x.code x.public_bytes; ended = (x.within, x.ends); is = x.is })))
success_alone content inputs (transpile elf) found other told x says = answer_is_one content inputs (Some (transpile elf)) other found told says (over_image x.loaded x.image x.lists)
success_alone content inputs (check elf tables) found other told x says =
    check_alone (inputs Elf) (inputs Second) found other x (subst (λ (o : Option (List ℕ)). OverElf (inputs Elf) (CheckAnswers o) other) told.1.0 says)
success_alone content inputs (prove elf hints out per_segment) found other told x says =
    answer_is_one content inputs (Some (prove elf hints out per_segment)) other found told says
    (over_image x.loaded x.image (run_is_proved (record { short = x.short; proving = proving.Proved x.claim; comes = x.ends; is = x.is })))
success_alone content inputs (sample number out) found other told x says = sample_answers_are_one number other found says x

success_done : (inputs : Slot → List ℕ) (command : Command) (found : Answer) → Succeeds inputs command found → status_of found ≡ status.Done
success_done inputs (run elf hints steps) found x = ap status_of x.is
success_done inputs (transpile elf) found x = ap status_of x.lists
success_done inputs (check elf tables) found x = ap status_of x.is
success_done inputs (prove elf hints out per_segment) found x = ap status_of x.is
success_done inputs (sample number out) found x = ap status_of x.is

pub is_complete : Complete
is_complete command old new result told found a contents quiet x = (
  success_done told command found x,
  answered_by a.inputs (Some command) old new result found a.outcome quiet
      (λ other says. success_alone old.content told command found other contents x (says_told old.content (Some command) a.inputs told other a.contents contents says)),
)

-- ---- refused files

-- over a refused ELF file that is the one answer
over_refused : (bytes : List ℕ) (Over : Loaded → Answer → Type 0) (found refusal : Answer) → RefusesElf bytes refusal → OverElf bytes Over found → found ≡ refusal
over_refused bytes Over found refusal why (elf_refused other) = refusal_answer_is_one bytes found refusal other why
over_refused bytes Over found refusal why (over_image loaded image x) = absurd (refused_alone bytes refusal loaded why image)

refusal_alone : (content : Slot → List ℕ → Option (List ℕ)) (inputs : Slot → List ℕ) (command : Option Command) (elf : List ℕ) (others : List (Place × List ℕ)) (found refusal : Answer)
    → all_names command ≡ (place.Elf, elf) ∷ others → RefusesElf (inputs Elf) refusal → Says content inputs command found → found ≡ refusal
refusal_alone content inputs None elf others found refusal names why says = absurd (cc (names))
refusal_alone content inputs (Some (run name hints steps)) elf others found refusal names why says = over_refused (inputs Elf) _ found refusal why says
refusal_alone content inputs (Some (transpile name)) elf others found refusal names why says = over_refused (inputs Elf) _ found refusal why says
refusal_alone content inputs (Some (check name tables)) elf others found refusal names why says = over_refused (inputs Elf) _ found refusal why says
refusal_alone content inputs (Some (prove name hints out per_segment)) elf others found refusal names why says = over_refused (inputs Elf) _ found refusal why says
refusal_alone content inputs (Some (sample number out)) elf others found refusal names why says = absurd (output_first out elf [] others names)

-- the ELF file is the one that is told
elf_is : (content : Slot → List ℕ → Option (List ℕ)) (inputs : Slot → List ℕ) (names others : List (Place × List ℕ)) (elf bytes : List ℕ)
    → AreContents content names inputs → names ≡ (place.Elf, elf) ∷ others → content Elf elf ≡ Some bytes → bytes ≡ inputs Elf
elf_is content inputs names others elf bytes contents is told =
    let all : AreContents content ((place.Elf, elf) ∷ others) inputs = subst (λ n. AreContents content n inputs) is contents in
    told_is (content Elf elf) bytes (inputs Elf) told all.0

pub refused_elf_decides : RefusedElfDecides
refused_elf_decides command old new result elf bytes others refusal a names told why =
    let same : bytes ≡ a.inputs Elf = elf_is old.content a.inputs (all_names command) others elf bytes a.contents names told in
    let refused_here : RefusesElf (a.inputs Elf) refusal = subst (λ e. RefusesElf e refusal) same why in (
      alone refused_here (a.elf_first elf others names),
      λ quiet. answered_by a.inputs command old new result refusal a.outcome quiet (λ other other_says. refusal_alone old.content a.inputs command elf others other refusal names refused_here other_says),
    )
  where
    alone : RefusesElf (a.inputs Elf) refusal → OpensElfAlone elf old new ⊎ ((loaded : Loaded) × GivesImage (a.inputs Elf) loaded) → OpensElfAlone elf old new
    alone refused_here (inl opens) = opens
    alone refused_here (inr image) = absurd (refused_alone (a.inputs Elf) refusal image.0 refused_here image.1)

-- ---- faults

no_fault_answer : (found : Answer) → status.HostFault ≡ status_of found → ⊥
no_fault_answer answer.Words e = cc
no_fault_answer answer.ElfTooLong e = cc
no_fault_answer (answer.ElfRefused refusal) e = cc
no_fault_answer answer.HintLimit e = cc
no_fault_answer (answer.Exit code public_bytes steps) e = cc
no_fault_answer (answer.Listing rows) e = cc
no_fault_answer (answer.Proved claim) e = cc
no_fault_answer (answer.Sampled number claim) e = cc
no_fault_answer answer.SegmentLimit e = cc
no_fault_answer (answer.Accepted accepted) e = cc
no_fault_answer (answer.Rejected reason) e = cc
no_fault_answer (answer.Trapped trap) e = cc
no_fault_answer (answer.StepLimit limit) e = cc

fault_is_counted : (inputs : Slot → List ℕ) (command : Option Command) (old new : HostState) → Outcome inputs command old new status.HostFault → Rose old.faults new.faults
fault_is_counted inputs command old new (answered found says is text leaves) = absurd (no_fault_answer found is)
fault_is_counted inputs command old new (fault is rose part leaves) = rose
fault_is_counted inputs command old new (memory is part leaves) = absurd (cc (is))

pub fault_has_cause : FaultHasCause
fault_has_cause command old new a = fault_is_counted a.inputs command old new a.outcome
