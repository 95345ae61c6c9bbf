-- A host in memory, as contracts see it.
use Rattle.std.specs.Prelude.{ℕ, List, [], ◌∷◌, map, None, Some, string_bytes, if◌then◌else◌, Bool}
use Rattle.std.specs.Str.{bytes_eq}
use Rattle.std.specs.declared.option.Option.{Option}
use Rattle.vm_host.specs.declared.Slot.{Slot}
use Rattle.vm_host.specs.declared.Slot.TheVariants.{Elf, Second}
use Rattle.vm_host.specs.declared.Place.{Place}
use Rattle.vm_host.specs.declared.named_file.NamedFile.{NamedFile}
use Rattle.vm_host.specs.declared.memory.Noted.{Noted}
use Rattle.vm_host.specs.declared.memory.MemoryHost.{MemoryHost}
use Rattle.vm_host.specs.State.{HostState, Input}
use Rattle.vm_host.specs.Bytes.{Bytes}

-- the bytes of the first file of this name
abbrev pub content_of : List NamedFile → List ℕ → Option (List ℕ)
content_of [] name = None
content_of (file ∷ files) name = if bytes_eq file.name name then Some file.bytes else content_of files name

-- the place and the name that were noted
abbrev pub pair_of : Noted → Place × List ℕ
pair_of noted = (noted.place, string_bytes noted.name)

-- an input that is open or not, at a tape
abbrev pub input_at : Bool → Bytes → Input
input_at is_open tape = record { is_open = is_open; rest = Some tape.rest }

-- the value of each slot
abbrev pub by_slot : {A : Type 0} → A → A → Slot → A
by_slot first second Elf = first
by_slot first second Second = second

-- everything is told; a file has the same bytes for both inputs
abbrev pub memory_state : MemoryHost → HostState
memory_state m = record {
  faults = m.failing.faults.count;
  content = λ slot name. content_of m.files.items name;
  input = by_slot (input_at m.elf.is_open m.elf.tape) (input_at m.second.is_open m.second.tape);
  output = record { creating = m.creating; written = Some m.written.items };
  said = Some m.said.items;
  named = Some (map pair_of m.named.items);
}
