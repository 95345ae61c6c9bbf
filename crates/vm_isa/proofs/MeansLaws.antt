-- What the meaning of an opcode says of a record.
use Rattle.std.proofs.Common.{◌≡◌, ℕ, ◌+◌, ◌%◌, ◌^◌, ◌<◌, Bool, true, false, nat_eq, slice_get, List, [], ◌∷◌, length, Option, Some, None, map, refl, sym, ap, ◌∙◌, arith}
use Rattle.std.proofs.lemmas.Bool.Decides.{nat_tests}
use Rattle.vm_isa.specs.declared.instr.VmInstr.{VmInstr}
use Rattle.vm_isa.specs.declared.access.TimedAccess.{TimedAccess}
use Rattle.vm_isa.specs.declared.record.StepRecord.{StepRecord}
use Rattle.vm_isa.specs.declared.meaning.Place.{Place}
use Rattle.vm_isa.specs.declared.meaning.NextAccess.TheVariants.{NoMeaning, Done}
use Rattle.vm_isa.specs.Means.{Meaning, Fillable, means_of, is_refused, bars_first, bars_second, places_by, places_of, accessed_by, new_at, next_of, at_place, in_places, next_access_of}
use Rattle.vm_isa.specs.Opcodes.{NOP}

at_place-done : (o : Option Place) (ends : Bool) → at_place o ends ≡ Done → ends ≡ true
at_place-done (Some p) ends h = absurd (cc)
at_place-done None true h = refl
at_place-done None false h = absurd (cc)

-- the meaning at the old words of all accesses
abbrev pub whole : VmInstr → List (List ℕ) → List ℕ → Meaning
whole i olds given = record { accesses = accessed_by (new_at i olds given) (places_of i olds) olds; next = next_of i olds }

chosen : (refused : Bool) (i : VmInstr) (olds : List (List ℕ)) (given : List ℕ) → is_refused i olds ≡ refused → next_access_of i olds ≡ Done → means_of i olds given ≡ Some (whole i olds given)
unfolding means_of next_access_of
chosen true i olds given r h = let no : NoMeaning ≡ Done = rw r at h in absurd (cc)
chosen false i olds given r h =
    let done : in_places (places_of i olds) (length olds) ≡ Done = rw r at h in
    let ends : nat_eq (length olds) (length (places_of i olds)) ≡ true = at_place-done (slice_get (places_of i olds) (length olds)) (nat_eq (length olds) (length (places_of i olds))) done in
    rw (r, ends) refl

pub done_whole : (i : VmInstr) (olds : List (List ℕ)) (given : List ℕ) → next_access_of i olds ≡ Done → means_of i olds given ≡ Some (whole i olds given)
done_whole i olds given h = chosen (is_refused i olds) i olds given refl h

pub done_means : (i : VmInstr) (olds : List (List ℕ)) (next : ℕ) → next_access_of i olds ≡ Done → next ≡ next_of i olds
    → (given : List ℕ) → (m : Meaning) × (means_of i olds given ≡ Some m) × (m.next ≡ next)
done_means i olds next h e given = (whole i olds given, done_whole i olds given h, sym e)

-- no access, and the pc of the next instruction
abbrev pub goes_on : VmInstr → List (List ℕ) → Option Meaning
goes_on i [] = Some (record { accesses = []; next = i.pc + 4 })
goes_on i (old ∷ olds) = None

no_length : (old : List ℕ) (olds : List (List ℕ)) → nat_eq (length (old ∷ olds)) 0 ≡ false
no_length old olds = grind (arith, nat_tests)

pub means_of-nop : (i : VmInstr) (olds : List (List ℕ)) (given : List ℕ) → i.op ≡ NOP → i.pc < 2 ^ 29 → means_of i olds given ≡ goes_on i olds
unfolding means_of is_refused bars_first bars_second places_by accessed_by next_of
means_of-nop i [] given e low =
    let next : (i.pc + 4) % 2 ^ 32 ≡ i.pc + 4 = omega arith in
    rw (e, next) refl
means_of-nop i (old ∷ olds) given e low = rw (e, no_length old olds) refl

-- a step without accesses that goes on
pub record GoesOn (i : VmInstr) (next : ℕ) (accesses : List TimedAccess) : Type 0 where
  pub none : accesses ≡ []
  pub next_is : next ≡ i.pc + 4

goes_on_shape : (i : VmInstr) (accesses : List TimedAccess) (m : Meaning) → goes_on i (map (λ a. a.access.old) accesses) ≡ Some m → GoesOn i m.next accesses
goes_on_shape i [] m e = record { none = refl; next_is = ap (λ (x : Meaning). x.next) (let same : m ≡ record { accesses = []; next = i.pc + 4 } = cc in same) }
goes_on_shape i (a ∷ more) m e = absurd (cc)

-- so is the step of a no-operation
pub nop_goes_on : (bits : ℕ) (done : StepRecord) → Fillable bits done → done.instr.op ≡ NOP → GoesOn done.instr done.next done.accesses
nop_goes_on bits done f e =
    let shape = goes_on_shape done.instr done.accesses f.meaning (sym (means_of-nop done.instr (map (λ a. a.access.old) done.accesses) f.given e f.in_range.low) ∙ f.means) in
    record { none = shape.none; next_is = f.next ∙ shape.next_is }
