-- The commands, each by the words that spell it.
use Rattle.std.specs.Prelude.{◌≡◌, ◌≢◌, ℕ, ◌≤◌, ◌<◌, ◌^◌, List, [], ◌∷◌, codes, None, Some}
use Rattle.std.specs.Fmt.{decimal}
use Rattle.std.specs.declared.option.Option.{Option}
use Rattle.vm_host.specs.declared.Place.{Place}
use Rattle.vm_host.specs.declared.Place.TheVariants as place

pub data Command : Type 0 where
  -- run an ELF file on a hint file for at most this many steps
  run : List ℕ → List ℕ → ℕ → Command
  -- list the program rows of an ELF file
  transpile : List ℕ → Command
  -- check a table file against the program of an ELF file
  check : List ℕ → List ℕ → Command
  -- prove the run of an ELF file on a hint file: write its tables, in segments of at most so many steps
  prove : List ℕ → List ℕ → List ℕ → ℕ → Command
  -- write the tables of the sample program of a number
  sample : ℕ → List ℕ → Command

-- the words of a command; a number is decimal digits, without sign or leading zero
abbrev pub words_of : Command → List (List ℕ)
words_of (run elf hints steps) = codes "run" ∷ elf ∷ hints ∷ decimal steps ∷ []
words_of (transpile elf) = codes "transpile" ∷ elf ∷ []
words_of (check elf tables) = codes "check" ∷ elf ∷ tables ∷ []
words_of (prove elf hints out per_segment) = codes "prove" ∷ elf ∷ hints ∷ out ∷ decimal per_segment ∷ []
words_of (sample number out) = codes "sample" ∷ decimal number ∷ out ∷ []

abbrev pub IsInLimits : Command → Type 0
IsInLimits (run elf hints steps) = steps ≤ 1000000000
IsInLimits (transpile elf) = Unit {0}
IsInLimits (check elf tables) = Unit {0}
IsInLimits (prove elf hints out per_segment) = (1 ≤ per_segment) × (per_segment ≤ 16384)
IsInLimits (sample number out) = number < 2 ^ 32

-- the words are this command, or none
abbrev pub Means : List (List ℕ) → Option Command → Type 0
Means words (Some command) = (words ≡ words_of command) × IsInLimits command
Means words None = (command : Command) → IsInLimits command → words ≢ words_of command

-- the names that are handed to the host, in order
abbrev pub names_of : Command → List (Place × List ℕ)
names_of (run elf hints steps) = (place.Elf, elf) ∷ (place.Second, hints) ∷ []
names_of (transpile elf) = (place.Elf, elf) ∷ []
names_of (check elf tables) = (place.Elf, elf) ∷ (place.Second, tables) ∷ []
names_of (prove elf hints out per_segment) = (place.Elf, elf) ∷ (place.Second, hints) ∷ (place.Out, out) ∷ []
names_of (sample number out) = (place.Out, out) ∷ []
