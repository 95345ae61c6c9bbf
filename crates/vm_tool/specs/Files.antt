-- The files that a command reads, and what their bytes are refused with.
use Rattle.std.specs.Prelude.{◌≡◌, ℕ, ◌<◌, ◌≤◌, List, length, IfSome, Option}
use Rattle.std.specs.List.{AllByRecursion}
use Rattle.vm_host.specs.declared.Slot.{Slot}
use Rattle.vm_host.specs.declared.Slot.TheVariants.{Elf, Second}
use Rattle.vm_host.specs.declared.Place.{Place}
use Rattle.vm_host.specs.declared.Place.TheVariants as place
use Rattle.elf_image.specs.declared.ImageError.{ImageError}
use Rattle.elf_image.specs.declared.ImageError.TheVariants.{OutOfMemory}
use Rattle.elf_image.specs.Image.{HasImage, IsRefused}
use Rattle.elf_image.specs.Loaded.{Loaded}
use Rattle.vm_host.specs.declared.HostError.TheVariants as host
use Rattle.vm_tool.specs.declared.answer.Answer.{Answer}
use Rattle.vm_tool.specs.declared.answer.Halt.{Halt}
use Rattle.vm_tool.specs.declared.answer.Halt.TheVariants.{Found, Host}
use Rattle.vm_tool.specs.declared.answer.Answer.TheVariants.{ElfTooLong, ElfRefused, HintLimit}

-- the most bytes that a file may have, 2 ^ 26
abbrev pub MAX_FILE : ℕ
MAX_FILE = 67108864

-- what a host tells of a file is these bytes
abbrev pub IsContent : Option (List ℕ) → List ℕ → Type 0
IsContent told bytes = IfSome told (λ all. all ≡ bytes)

-- a fact of a name that is an input's
abbrev pub IfInput : (Slot → List ℕ → Type 0) → Place → List ℕ → Type 0
IfInput Fact place.Elf name = Fact Elf name
IfInput Fact place.Second name = Fact Second name
IfInput Fact place.Out name = Unit {0}

-- a fact of each input among names
abbrev pub EachInput : (Slot → List ℕ → Type 0) → List (Place × List ℕ) → Type 0
EachInput Fact names = AllByRecursion (λ named. IfInput Fact named.0 named.1) names

-- where a host tells the files of these names, the inputs have their bytes
abbrev pub AreContents : (Slot → List ℕ → Option (List ℕ)) → List (Place × List ℕ) → (Slot → List ℕ) → Type 0
AreContents content names inputs = EachInput (λ slot name. IsContent (content slot name) (inputs slot)) names

-- an ELF file that is too long, or has no image
pub data RefusesElf (bytes : List ℕ) (found : Answer) : Type 0 where
  too_long : MAX_FILE < length bytes → found ≡ ElfTooLong → RefusesElf bytes found
  refused : (error : ImageError) → length bytes ≤ MAX_FILE → IsRefused bytes error → found ≡ ElfRefused error → RefusesElf bytes found

-- an ELF file that is short enough, and its image
pub record GivesImage (bytes : List ℕ) (loaded : Loaded) : Type 0 where
  pub short : length bytes ≤ MAX_FILE
  pub image : HasImage bytes loaded

-- what a command answers that reads an ELF file first: its refusal, or an answer over its image
pub data OverElf (bytes : List ℕ) (Over : Loaded → Answer → Type 0) (found : Answer) : Type 0 where
  elf_refused : RefusesElf bytes found → OverElf bytes Over found
  over_image : (loaded : Loaded) → GivesImage bytes loaded → Over loaded found → OverElf bytes Over found

-- a hint file that is too long
pub record RefusesHints (bytes : List ℕ) (found : Answer) : Type 0 where
  pub long : MAX_FILE < length bytes
  pub is : found ≡ HintLimit

-- a refusal is an answer, and want of memory is none
abbrev pub halt_of_image : ImageError → Halt
halt_of_image OutOfMemory = Host host.OutOfMemory
halt_of_image refusal = Found (ElfRefused refusal)
