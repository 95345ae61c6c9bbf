-- A host in memory that never fails.
use Rattle.std.specs.Prelude.{None, Some}
use Rattle.vm_host.specs.declared.no_fault.NoFaultHost.{NoFaultHost}
use Rattle.vm_host.specs.State.{HostState}
use Rattle.vm_host.specs.Memory.{by_slot, input_at}

-- no fault is ever counted, each name opens the bytes of its slot, and no name is told
abbrev pub no_fault_state : NoFaultHost → HostState
no_fault_state h = record {
  faults = 0;
  content = λ slot name. Some (by_slot h.elf.tape.all h.second.tape.all slot);
  input = by_slot (input_at h.elf.is_open h.elf.tape) (input_at h.second.is_open h.second.tape);
  output = record { creating = h.creating; written = Some h.written.items };
  said = Some h.said.items;
  named = None;
}
