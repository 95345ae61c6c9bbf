-- The meaning of an instruction by its places, and what it says of a record.
use Rattle.std.proofs.Common.{◌≡◌, ℕ, false, List, Some, length, map, refl, sym, ap, ◌∙◌}
use Rattle.std.proofs.lemmas.Bool.{eq-eqb}
use Rattle.vm_isa.specs.declared.instr.VmInstr.{VmInstr}
use Rattle.vm_isa.specs.declared.access.TimedAccess.{TimedAccess}
use Rattle.vm_isa.specs.Means.{Accessed, Meaning, means_of, is_refused, places_of, accessed_by, new_at, next_of, placed, placed_at}
use Rattle.vm_isa.proofs.NextLaws.{meant}

abbrev pub olds_of : List TimedAccess → List (List ℕ)
olds_of accesses = map (λ a. a.access.old) accesses

pub means_by : (i : VmInstr) (olds : List (List ℕ)) (given : List ℕ) (places : List _) (accesses : List Accessed) (next : ℕ) → is_refused i olds ≡ false → places_of i olds ≡ places → length olds ≡ length places
    → accessed_by (new_at i olds given) places olds ≡ accesses → next_of i olds ≡ next → means_of i olds given ≡ Some (record { accesses = accesses; next = next })
unfolding means_of
means_by i olds given places accesses next fits are long made is = rw (fits, are, eq-eqb (length olds) (length places) long, made, is) refl

-- there are as many accesses as places
pub as_many : (i : VmInstr) (accesses : List TimedAccess) (given : List ℕ) (m : Meaning) → means_of i (olds_of accesses) given ≡ Some m → length (olds_of accesses) ≡ length (places_of i (olds_of accesses))
as_many i accesses given m e = (meant i (olds_of accesses) given m e).long

-- a record whose meaning is known
pub record Recorded (time next : ℕ) (accesses : List TimedAccess) (m : Meaning) : Type 0 where
  pub are : map placed accesses ≡ map (placed_at time) m.accesses
  pub next_is : next ≡ m.next

pub recorded : (i : VmInstr) (time next : ℕ) (accesses : List TimedAccess) (given : List ℕ) (m whole : Meaning) → means_of i (olds_of accesses) given ≡ Some m → next ≡ m.next → map placed accesses ≡ map (placed_at time) m.accesses
    → means_of i (olds_of accesses) given ≡ Some whole → Recorded time next accesses whole
recorded i time next accesses given m whole e n p w =
    let some : Some whole ≡ Some m = sym w ∙ e in
    let is : whole ≡ m = cc in
    record { are = p ∙ ap (λ (x : Meaning). map (placed_at time) x.accesses) (sym is); next_is = n ∙ ap (λ (x : Meaning). x.next) (sym is) }
