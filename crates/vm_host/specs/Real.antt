-- A host over files and standard output: it tells nothing but what stands open, and its faults.
use Rattle.std.specs.Prelude.{ℕ, None, List, is_some}
use Rattle.std.specs.Option.{option_and_then}
use Rattle.std.specs.declared.option.Option.{Option}
use Rattle.vm_host.specs.State.{HostState, Input}
use Rattle.vm_host.specs.Memory.{by_slot}

-- what an open file tells, and nothing where none stands open
abbrev pub told_of_open : {F : Type 0} → (F → Option (List ℕ)) → Option F → Option (List ℕ)
told_of_open tells file = option_and_then tells file

-- an input that is open where there is a file
abbrev pub untold_input : {F : Type 0} → Option F → Input
untold_input file = record { is_open = is_some file; rest = None }

-- the faults, and whether each of the three files stands open
abbrev pub untold_state : {F : Type 0} → ℕ → Option F → Option F → Option F → HostState
untold_state faults elf second out = record {
  faults = faults;
  content = λ slot name. None;
  input = by_slot (untold_input elf) (untold_input second);
  output = record { creating = is_some out; written = None };
  said = None;
  named = None;
}
