-- One file after another is read, and its bytes may decide the answer.
use Rattle.std.proofs.Common.{◌≡◌, ℕ, List, [], ◌∷◌, ◌++◌, take, suc, refl, sym, ap, ◌∙◌, None, Some, arith, inl, inr, subst}
use Rattle.std.specs.declared.option.Option.{Option}
use Rattle.vm_host.specs.declared.Slot.{Slot}
use Rattle.vm_host.specs.declared.Slot.TheVariants.{Elf, Second}
use Rattle.vm_host.specs.declared.Place.{Place}
use Rattle.vm_host.specs.declared.Place.TheVariants as place
use Rattle.vm_host.specs.declared.HostError.{HostError}
use Rattle.vm_host.specs.declared.HostError.TheVariants.{Failed}
use Rattle.vm_host.specs.State.{HostState, then_more}
use Rattle.vm_host.specs.Memory.{by_slot}
use Rattle.vm_host.specs.Calls.{GrowsByPart, KeepsOther, Rose}
use Rattle.elf_image.specs.Loaded.{Loaded}
use Rattle.vm_tool.specs.declared.answer.Answer.{Answer}
use Rattle.vm_tool.specs.declared.answer.Answer.TheVariants.{Words}
use Rattle.vm_tool.specs.declared.answer.Status.TheVariants.{Done}
use Rattle.vm_tool.specs.declared.answer.Halt.{Halt}
use Rattle.vm_tool.specs.declared.answer.Halt.TheVariants.{Found, Host}
use Rattle.vm_tool.specs.Answer.{status_of}
use Rattle.vm_tool.specs.Command.{Command, names_of}
use Rattle.vm_tool.specs.Files.{IsContent, EachInput, AreContents, GivesImage, RefusesElf, RefusesHints, too_long, refused, OverElf, elf_refused}
use Rattle.vm_tool.specs.Says.{Says}
use Rattle.vm_tool.specs.ReadFile.{Quiet, ReadWhole, HaltsAt}
use Rattle.vm_tool.specs.Outcome.{all_names, Finds, IsCauseOf, Leaves, WritesNothing, OpensElfAlone, ElfFirst}
use Rattle.vm_tool.proofs.Quiet.{part_of_first, quiet_none, quiet_both, same_said, some_content, told_before, writes_nothing}

part_after : {A : Type 0} (before : List A) (a : A) (rest : List A) (n : ℕ) → (m : ℕ) × (before ++ take n (a ∷ []) ≡ take m (before ++ a ∷ rest))
part_after [] a rest n = part_of_first a rest n
part_after (b ∷ before) a rest n = let p = part_after before a rest n in (suc p.0, ap (λ xs. b ∷ xs) p.1)

-- the names so far are the first of the command's
part_noted : (command : Command) (before rest : List (Place × List ℕ)) (pair : Place × List ℕ) (s u : HostState) (count : ℕ)
    → names_of command ≡ before ++ pair ∷ rest → u.named ≡ then_more s.named (before ++ take count (pair ∷ []))
    → GrowsByPart s.named u.named (names_of command)
part_noted command before rest pair s u count names e =
    let part = part_after before pair rest count in
    record { count = part.0; grown = e ∙ ap (then_more s.named) (part.1 ∙ ap (take part.0) (sym names)) }

-- what is found after calls that only read, of which the last noted its name or not
pub finds_quietly : (command : Command) (inputs : Slot → List ℕ) (before rest : List (Place × List ℕ)) (pair : Place × List ℕ) (count : ℕ) (s u : HostState) (halt : Halt)
    → names_of command ≡ before ++ pair ∷ rest
    → AreContents s.content (names_of command) inputs
    → (WritesNothing s u → Leaves inputs (Some command) s u halt)
    → ElfFirst inputs (Some command) s u
    → Quiet s u (before ++ take count (pair ∷ []))
    → IsCauseOf inputs (Some command) s u halt
    → Finds (Some command) s u halt
finds_quietly command inputs before rest pair count s u halt names contents leaves elf_first q cause = record {
  inputs = inputs;
  contents = contents;
  cause = cause;
  leaves = leaves (writes_nothing s u (before ++ take count (pair ∷ [])) q);
  later = q.later;
  said = same_said s u (before ++ take count (pair ∷ [])) q;
  named = part_noted command before rest pair s u count names q.named;
  elf_first = elf_first;
}

-- the place of the first name of a list
first_place : List (Place × List ℕ) → Place
first_place [] = place.Out
first_place (named ∷ names) = named.0

-- names that begin with an output's begin with no ELF file's
pub output_first : (out elf : List ℕ) (rest others : List (Place × List ℕ)) → (place.Out, out) ∷ rest ≡ (place.Elf, elf) ∷ others → ⊥
unfolding first_place
output_first out elf rest others names = let same : place.Out ≡ place.Elf = ap first_place names in cc (same)

-- words of no command are said to be so, and nothing is done
pub finds_no_command : (s : HostState) → Finds None s s (Found Words)
finds_no_command s = record {
  inputs = by_slot [] [];
  contents = tt;
  cause = (refl, λ done. absurd (cc (done)));
  leaves = refl;
  later = omega arith;
  said = refl;
  named = record { count = 0; grown = (quiet_none s).named };
  elf_first = λ elf others names. absurd (cc (names));
}

-- the answer that was found is no success, or there is none
abbrev pub Fails : Halt → Type 0
Fails (Found found) = status_of found ≡ Done → ⊥
Fails (Host error) = Unit {0}

-- What is known of a command that reads an ELF file first.
pub record ElfCommand (command : Command) (elf : List ℕ) (others : List (Place × List ℕ)) : Type 1 where
  pub names : names_of command ≡ (place.Elf, elf) ∷ others
  pub says : (content : Slot → List ℕ → Option (List ℕ)) (inputs : Slot → List ℕ) (found : Answer) → RefusesElf (inputs Elf) found → Says content inputs (Some command) found
  pub leaves : (inputs : Slot → List ℕ) (s u : HostState) (halt : Halt) → Fails halt → WritesNothing s u → Leaves inputs (Some command) s u halt
  -- the ELF file's bytes, and those of the others as far as they are told
  pub fill : (content : Slot → List ℕ → Option (List ℕ)) (bytes : List ℕ) → IsContent (content Elf elf) bytes
      → (inputs : Slot → List ℕ) × AreContents content (names_of command) inputs × (bytes ≡ inputs Elf)

-- the first name of a list is one
first_name : List (Place × List ℕ) → List ℕ
first_name [] = []
first_name (named ∷ names) = named.1

-- a refusal is no success
pub elf_not_done : (bytes : List ℕ) (found : Answer) → RefusesElf bytes found → status_of found ≡ Done → ⊥
elf_not_done bytes found (too_long long is) d = cc (sym (ap status_of is) ∙ d)
elf_not_done bytes found (refused error short r is) d = cc (sym (ap status_of is) ∙ d)

module _ (command : Command) (elf : List ℕ) (others : List (Place × List ℕ)) (known : ElfCommand command elf others) (s t : HostState) where
  -- so far the ELF file alone was opened
  alone : (inputs : Slot → List ℕ) (count : ℕ) → KeepsOther Elf s t → Quiet s t (take count ((place.Elf, elf) ∷ [])) → ElfFirst inputs (Some command) s t
  unfolding first_name
  alone inputs count other q name rest names =
      let same : elf ≡ name = ap first_name (sym known.names ∙ names) in
      let here : OpensElfAlone elf s t = record {
        named = record { count = count; grown = q.named };
        second = other;
        writes = writes_nothing s t (take count ((place.Elf, elf) ∷ [])) q;
      } in
      inl (subst (λ n. OpensElfAlone n s t) same here)

  -- the ELF file's bytes decide the answer, or reading it fails
  pub elf_halts : (halt : Halt) → HaltsAt RefusesElf Elf elf s t halt → Finds (Some command) s t halt
  elf_halts (Found found) h =
      let read = h.1 in
      let filled = known.fill s.content h.0 read.told in
      let why : RefusesElf (filled.0 Elf) found = subst (λ bytes. RefusesElf bytes found) filled.2 h.2 in
      finds_quietly command filled.0 [] others (place.Elf, elf) 1 s t (Found found) known.names filled.1
      (known.leaves filled.0 s t (Found found) (elf_not_done h.0 found h.2))
      (alone filled.0 1 read.other read.quiet) read.quiet
      (known.says s.content filled.0 found why, λ done. absurd (elf_not_done h.0 found h.2 done))
  elf_halts (Host error) h =
      let told = some_content (s.content Elf elf) in
      let filled = known.fill s.content told.0 told.1 in
      finds_quietly command filled.0 [] others (place.Elf, elf) h.0.count s t (Host error) known.names filled.1
      (known.leaves filled.0 s t (Host error) tt)
      (alone filled.0 h.0.count h.0.other h.0.quiet) h.0.quiet h.1

-- What is known of a command with two inputs: its other names are no inputs.
pub record TwoInputs (command : Command) (elf second : List ℕ) (rest : List (Place × List ℕ)) : Type 1 where
  pub names : names_of command ≡ (place.Elf, elf) ∷ (place.Second, second) ∷ rest
  pub others : (Fact : Slot → List ℕ → Type 0) → EachInput Fact rest

pub two_contents : (command : Command) (elf second : List ℕ) (rest : List (Place × List ℕ)) (s : HostState) (bytes given : List ℕ) → TwoInputs command elf second rest
    → IsContent (s.content Elf elf) bytes → IsContent (s.content Second second) given → AreContents s.content (names_of command) (by_slot bytes given)
two_contents command elf second rest s bytes given two told_elf told_second = rw two.names (told_elf, (told_second, two.others (λ slot name. IsContent (s.content slot name) (by_slot bytes given slot))))

-- what is found after the ELF file was read and the second was opened or not
pub finds_second : (command : Command) (elf second : List ℕ) (rest : List (Place × List ℕ)) (s u : HostState) (bytes given : List ℕ) (loaded : Loaded) (count : ℕ) (halt : Halt)
    → TwoInputs command elf second rest
    → IsContent (s.content Elf elf) bytes → IsContent (s.content Second second) given → GivesImage bytes loaded
    → (WritesNothing s u → Leaves (by_slot bytes given) (Some command) s u halt)
    → Quiet s u ((place.Elf, elf) ∷ take count ((place.Second, second) ∷ []))
    → IsCauseOf (by_slot bytes given) (Some command) s u halt
    → Finds (Some command) s u halt
finds_second command elf second rest s u bytes given loaded count halt two told_elf told_second image leaves q cause =
    finds_quietly command (by_slot bytes given) ((place.Elf, elf) ∷ []) rest (place.Second, second) count s u halt two.names
    (two_contents command elf second rest s bytes given two told_elf told_second) leaves
    (λ name others e. inr (loaded, image)) q cause

-- the same where the host failed or memory was refused
pub fails_second : (command : Command) (elf second : List ℕ) (rest : List (Place × List ℕ)) (s u : HostState) (bytes : List ℕ) (loaded : Loaded) (count : ℕ) (error : HostError)
    → ElfCommand command elf ((place.Second, second) ∷ rest) → TwoInputs command elf second rest
    → IsContent (s.content Elf elf) bytes → GivesImage bytes loaded
    → Quiet s u ((place.Elf, elf) ∷ take count ((place.Second, second) ∷ []))
    → (error ≡ Failed → Rose s.faults u.faults)
    → Finds (Some command) s u (Host error)
fails_second command elf second rest s u bytes loaded count error known two told image q rose =
    let other = some_content (s.content Second second) in
    finds_second command elf second rest s u bytes other.0 loaded count (Host error) two told other.1 image
    (known.leaves (by_slot bytes other.0) s u (Host error) tt) q rose

-- ---- a hint file is read behind the ELF file

-- What is known of a command that reads a hint file behind an ELF file.
pub record HintCommand (command : Command) (elf hints : List ℕ) (rest : List (Place × List ℕ)) : Type 1 where
  pub known : ElfCommand command elf ((place.Second, hints) ∷ rest)
  pub two : TwoInputs command elf hints rest
  pub says : (content : Slot → List ℕ → Option (List ℕ)) (inputs : Slot → List ℕ) (loaded : Loaded) (found : Answer) → GivesImage (inputs Elf) loaded → RefusesHints (inputs Second) found
      → Says content inputs (Some command) found

pub hints_not_done : (bytes : List ℕ) (found : Answer) → RefusesHints bytes found → status_of found ≡ Done → ⊥
hints_not_done bytes found r d = cc (sym (ap status_of r.is) ∙ d)

module _ (command : Command) (elf hints : List ℕ) (rest : List (Place × List ℕ)) (k : HintCommand command elf hints rest)
    (s t u : HostState) (bytes : List ℕ) (loaded : Loaded) (a : ReadWhole Elf elf s t bytes) (image : GivesImage bytes loaded) where
  -- the hint file's bytes decide
  pub hints_halt : (halt : Halt) → HaltsAt RefusesHints Second hints t u halt → Finds (Some command) s u halt
  hints_halt (Found found) h =
      let both = quiet_both s t u ((place.Elf, elf) ∷ []) ((place.Second, hints) ∷ []) a.quiet h.1.quiet in
      let told = told_before s t ((place.Elf, elf) ∷ []) Second hints h.0 a.quiet h.1.told in
      let no = hints_not_done h.0 found h.2 in
      finds_second command elf hints rest s u bytes h.0 loaded 1 (Found found) k.two a.told told image (k.known.leaves (by_slot bytes h.0) s u (Found found) no) both
      (k.says s.content (by_slot bytes h.0) loaded found image h.2, λ done. absurd (no done))
  hints_halt (Host error) h =
      let both = quiet_both s t u ((place.Elf, elf) ∷ []) (take h.0.count ((place.Second, hints) ∷ [])) a.quiet h.0.quiet in
      fails_second command elf hints rest s u bytes loaded h.0.count error k.known k.two a.told image both
      (λ failed. omega (arith, h.1 failed, a.quiet.later, h.0.quiet.later))

  pub both_read : (given : List ℕ) → ReadWhole Second hints t u given → Quiet s u ((place.Elf, elf) ∷ (place.Second, hints) ∷ [])
  both_read given b = quiet_both s t u ((place.Elf, elf) ∷ []) ((place.Second, hints) ∷ []) a.quiet b.quiet
