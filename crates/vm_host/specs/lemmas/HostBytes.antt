-- What the three hosts tell of files is made of bytes.
use Rattle.std.specs.Prelude.{ℕ, suc, ◌<◌, Bool, true, false, List, [], ◌∷◌, Option, Some, slice_index, if◌then◌else◌}
use Rattle.std.specs.List.{AllByRecursion}
use Rattle.std.specs.Str.{bytes_eq}
use Rattle.vm_host.specs.declared.Slot.{Slot}
use Rattle.vm_host.specs.declared.Slot.TheVariants.{Elf, Second}
use Rattle.vm_host.specs.declared.named_file.NamedFile.{NamedFile}
use Rattle.vm_host.specs.declared.memory.MemoryHost.{MemoryHost}
use Rattle.vm_host.specs.declared.no_fault.NoFaultHost.{NoFaultHost}
use Rattle.vm_host.specs.State.{AreBytes, TellsBytes}
use Rattle.vm_host.specs.Memory.{content_of, memory_state}
use Rattle.vm_host.specs.NoFault.{no_fault_state}
use Rattle.vm_host.specs.Real.{untold_state}

-- bytes at each place are bytes
bytes_at : (xs : List ℕ) → ((k : ℕ) → slice_index xs k < 256) → AllByRecursion (λ byte. byte < 256) xs
bytes_at [] h = tt
bytes_at (x ∷ xs) h = (h 0, bytes_at xs (λ k. h (suc k)))

bytes_of_either : (test : Bool) (xs : List ℕ) (other : Option (List ℕ)) → AreBytes (Some xs) → AreBytes other → AreBytes (if test then Some xs else other)
bytes_of_either true xs other h k = h
bytes_of_either false xs other h k = k

content_bytes : (files : List NamedFile) (name : List ℕ) → AreBytes (content_of files name)
content_bytes [] name = tt
content_bytes (file ∷ files) name =
    bytes_of_either (bytes_eq file.name name) file.bytes (content_of files name) (bytes_at file.bytes file.are_bytes) (content_bytes files name)

memory_rest : (m : MemoryHost) (slot : Slot) → AreBytes ((memory_state m).input slot).rest
memory_rest m Elf = bytes_at m.elf.tape.rest m.elf.rest_bytes
memory_rest m Second = bytes_at m.second.tape.rest m.second.rest_bytes

pub memory_bytes : (m : MemoryHost) → TellsBytes (memory_state m)
memory_bytes m = record { content = λ slot name. content_bytes m.files.items name; rest = memory_rest m }

no_fault_content : (h : NoFaultHost) (slot : Slot) (name : List ℕ) → AreBytes ((no_fault_state h).content slot name)
no_fault_content h Elf name = bytes_at h.elf.tape.all h.elf.all_bytes
no_fault_content h Second name = bytes_at h.second.tape.all h.second.all_bytes

no_fault_rest : (h : NoFaultHost) (slot : Slot) → AreBytes ((no_fault_state h).input slot).rest
no_fault_rest h Elf = bytes_at h.elf.tape.rest h.elf.rest_bytes
no_fault_rest h Second = bytes_at h.second.tape.rest h.second.rest_bytes

pub no_fault_bytes : (h : NoFaultHost) → TellsBytes (no_fault_state h)
no_fault_bytes h = record { content = no_fault_content h; rest = no_fault_rest h }

untold_rest : {F : Type 0} (faults : ℕ) (elf second out : Option F) (slot : Slot) → AreBytes ((untold_state faults elf second out).input slot).rest
untold_rest faults elf second out Elf = tt
untold_rest faults elf second out Second = tt

pub untold_bytes : {F : Type 0} (faults : ℕ) (elf second out : Option F) → TellsBytes (untold_state faults elf second out)
untold_bytes faults elf second out = record { content = λ slot name. tt; rest = untold_rest faults elf second out }
