-- A row that sends no program tuple of the opcodes that ask the host for a word is no hint.
use Rattle.std.proofs.Common.{◌≡◌, ℕ, Bool, true, false, ◌&&◌, nat_eq, List, [], ◌∷◌, slice_index, refl}
use Rattle.std.specs.List.{AllByRecursion}
use Rattle.air_core.specs.declared.event.Event.{Event}
use Rattle.air_core.specs.Sheet.{counted}
use Rattle.air_core.specs.Path.{path_lines}
use Rattle.air_core.specs.Hint.{is_program, sends_program, NoHint}
use Rattle.air_core.specs.ListLemmas.{all_counted}
use Rattle.air_core.specs.Ring.{field}

-- an event that sends no program tuple of an opcode
abbrev pub NoProgram : ℕ → List Event → Type 0
NoProgram op events = AllByRecursion (λ e. is_program op e ≡ false) events

pub no_program : (op : ℕ) (events : List Event) → NoProgram op events → sends_program op events ≡ false
no_program op [] h = refl
no_program op (e ∷ es) h = rw h.0 (no_program op es h.1)

and_none : (b : Bool) → (b && false) ≡ false
and_none true = refl
and_none false = refl

pub path_no_program : (op valid pc time next slots : ℕ) (numbers : List ℕ) → nat_eq (slice_index numbers 1) op ≡ false → NoProgram op (path_lines field valid pc time next slots numbers)
unfolding path_lines
path_no_program op valid pc time next slots numbers h = (refl, (refl, (rw h (and_none (nat_eq valid 1)), tt)))

pub no_hint : (lines : List Event) → NoProgram 37 lines → NoProgram 42 lines → NoHint (counted lines)
no_hint lines h n = record {
  hint = no_program 37 (counted lines) (all_counted (λ e. is_program 37 e ≡ false) lines h);
  next = no_program 42 (counted lines) (all_counted (λ e. is_program 42 e ≡ false) lines n);
}
