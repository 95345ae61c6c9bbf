-- What the path of a row says, and that its program tuple is good.
use Rattle.std.proofs.Common.{◌≡◌, ◌≢◌, ℕ, ◌+◌, ◌^◌, ◌<◌, ◌≤◌, List, [], ◌∷◌, refl, ap, sym, ◌∙◌, arith, subst, pow_mono}
use Rattle.std.specs.List.{AllByRecursion}
use Rattle.vm_field.specs.Field.{modulus, field_add}
use Rattle.vm_isa.specs.declared.instr.VmInstr.{VmInstr}
use Rattle.vm_isa.specs.declared.record.StepRecord.{StepRecord}
use Rattle.vm_isa.specs.Instr.{InRange, IsInstruction, numbers_of}
use Rattle.vm_isa.specs.Slots.{slots_of}
use Rattle.air_core.specs.declared.event.Event.{Event}
use Rattle.air_core.specs.Sheet.{counted, sent, received}
use Rattle.air_core.specs.Path.{path_lines}
use Rattle.air_core.specs.Lookups.{GoodEvent}
use Rattle.air_core.specs.Step.{on_bus, IsStep}
use Rattle.air_core.specs.Laws.{Recorded}
use Rattle.air_core.specs.Ring.{field}
use Rattle.air_core.specs.declared.bus.TheConstants.{EXECUTION, PROGRAM, MEMORY}

-- times of 16 + hi bits are far below the modulus
pub time_fits : (hi time slots : ℕ) → hi ≤ 13 → time + slots ≤ 2 ^ (16 + hi) → time + slots ≤ 2 ^ 29
time_fits hi time slots top ends =
    let up : 16 + hi ≤ 29 = omega arith in
    let most : 2 ^ (16 + hi) ≤ 2 ^ 29 = pow_mono up in
    omega arith

-- a row that is not valid has no path
pub path_quiet : (valid pc time next slots : ℕ) (numbers : List ℕ) → valid ≡ 0 → AllByRecursion (λ e. e.count ≡ 0) (path_lines field valid pc time next slots numbers)
unfolding path_lines
path_quiet valid pc time next slots numbers h = (h, (h, (h, tt)))

-- the path of a valid row, bus by bus
pub record PathOn (pc time next slots : ℕ) (numbers : List ℕ) (events : List Event) : Type 0 where
  pub path : on_bus EXECUTION events ≡ received EXECUTION 1 (pc ∷ time ∷ []) ∷ sent EXECUTION 1 (next ∷ field_add time slots ∷ []) ∷ []
  pub program : on_bus PROGRAM events ≡ sent PROGRAM 1 numbers ∷ []
  pub memory : on_bus MEMORY events ≡ []

path_on_one : (pc time next slots : ℕ) (numbers : List ℕ) → PathOn pc time next slots numbers (counted (path_lines field 1 pc time next slots numbers))
unfolding path_lines
path_on_one pc time next slots numbers = record { path = refl; program = refl; memory = refl }

pub path_on : (valid pc time next slots : ℕ) (numbers : List ℕ) → valid ≡ 1 → PathOn pc time next slots numbers (counted (path_lines field valid pc time next slots numbers))
path_on valid pc time next slots numbers v =
    subst (λ (x : ℕ). PathOn pc time next slots numbers (counted (path_lines field x pc time next slots numbers))) (sym v) (path_on_one pc time next slots numbers)

-- a valid row's program tuple is an instruction's
pub path_program : (valid pc time next slots : ℕ) (numbers : List ℕ) → valid ≡ 1
    → AllByRecursion (λ e. e.count ≢ 0 → GoodEvent e) (path_lines field valid pc time next slots numbers) → IsInstruction numbers
unfolding path_lines
path_program valid pc time next slots numbers v h = (h.1.1.0 (omega arith)).program refl

-- an event on a bus that has no table
pub good_free : (e : Event) → e.bus ≢ 1 → e.bus ≢ 3 → e.bus ≢ 4 → e.bus ≢ 5 → GoodEvent e
good_free e p x r k =
    record { program = λ h. absurd (p h); xor = λ h. absurd (x h); range = λ h. absurd (r h); constant = λ h. absurd (k h) }

pub path_good : (valid pc time next slots : ℕ) (numbers : List ℕ) → IsInstruction numbers
    → AllByRecursion (λ e. e.count ≢ 0 → GoodEvent e) (path_lines field valid pc time next slots numbers)
unfolding path_lines
path_good valid pc time next slots numbers is = (
  λ n. good_free _ (omega arith) (omega arith) (omega arith) (omega arith),
  (
    λ n. good_free _ (omega arith) (omega arith) (omega arith) (omega arith),
    (λ n. record { program = λ h. is; xor = λ h. absurd (omega arith); range = λ h. absurd (omega arith); constant = λ h. absurd (omega arith) }, tt),
  ),
)

pub path_counts : (valid pc time next slots : ℕ) (numbers : List ℕ) → valid ≡ 1 → AllByRecursion (λ e. e.count ≡ 1) (path_lines field valid pc time next slots numbers)
unfolding path_lines
path_counts valid pc time next slots numbers v = (v, (v, (v, tt)))

-- a valid row that has a path alone is a step without accesses
pub path_step : (slots bits : ℕ) (instr : VmInstr) (valid pc time next : ℕ) (numbers : List ℕ) → valid ≡ 1 → InRange instr → numbers ≡ numbers_of instr → pc ≡ instr.pc → time < modulus
    → IsStep slots bits instr time next [] (counted (path_lines field valid pc time next slots numbers))
path_step slots bits instr valid pc time next numbers v range are at below =
    let on = path_on valid pc time next slots numbers v in
    record {
      in_range = range;
      time_below = below;
      spoken = record {
        path = on.path ∙ ap (λ (x : ℕ). received EXECUTION 1 (x ∷ time ∷ []) ∷ sent EXECUTION 1 (next ∷ field_add time slots ∷ []) ∷ []) at;
        program = on.program ∙ ap (λ (xs : List ℕ). sent PROGRAM 1 xs ∷ []) are;
        memory = on.memory;
      };
      words = tt;
      rising = tt;
      earlier = λ ends. tt;
      new_bytes = tt;
    }

-- and it says a record without accesses
pub path_recorded : (done : StepRecord) (valid next slots : ℕ) (numbers : List ℕ) → valid ≡ 1 → next ≡ done.next → numbers ≡ numbers_of done.instr
    → field_add done.time slots ≡ done.time + slots_of done.instr.op → done.accesses ≡ []
    → Recorded done (counted (path_lines field valid done.instr.pc done.time next slots numbers))
path_recorded done valid next slots numbers v goes are ends none =
    let on = path_on valid done.instr.pc done.time next slots numbers v in
    record {
      path = on.path ∙ rw (goes, ends) refl;
      program = on.program ∙ ap (λ (xs : List ℕ). sent PROGRAM 1 xs ∷ []) are;
      memory = on.memory ∙ rw none refl;
    }
