-- A completed step is a step of the machine on blocks.
use Rattle.std.proofs.Common.{◌≡◌, ℕ, List, [], ◌∷◌, map, take, Some, refl, sym, ap, ◌∙◌, subst}
use Rattle.vm_isa.specs.declared.access.TimedAccess.{TimedAccess}
use Rattle.vm_isa.specs.declared.instr.VmInstr.{VmInstr}
use Rattle.vm_isa.specs.declared.record.StepRecord.{StepRecord}
use Rattle.vm_isa.specs.Blocks.{VmStep, VmState}
use Rattle.vm_isa.specs.Means.{Accessed, Placed, means_of, placed, placed_at}
use Rattle.vm_executor.specs.Machine.{Machine, vm_state, Goes}

pub olds_of : (xs : List TimedAccess) → map (λ (p : Placed). p.old) (map placed xs) ≡ map (λ a. a.access.old) xs
olds_of [] = refl
olds_of (x ∷ xs) = ap (λ (t : List (List ℕ)). x.access.old ∷ t) (olds_of xs)

pub olds_at : (time : ℕ) (ys : List Accessed) → map (λ (p : Placed). p.old) (map (placed_at time) ys) ≡ map (λ (a : Accessed). a.old) ys
olds_at time [] = refl
olds_at time (y ∷ ys) = ap (λ (t : List (List ℕ)). y.old ∷ t) (olds_at time ys)

pub vm_step : (program : List VmInstr) (s t : Machine) (d : StepRecord) → Goes program s t d → VmStep program (vm_state s) (vm_state t)
vm_step program s t d goes =
    let olds : map (λ a. a.access.old) d.accesses ≡ map (λ (a : Accessed). a.old) goes.meaning.accesses = sym (olds_of d.accesses) ∙ ap (λ (ps : List Placed). map (λ (p : Placed). p.old) ps) goes.accesses ∙ olds_at d.time goes.meaning.accesses in
    let make : ℕ → Machine → VmState = λ pc m. record { pc = pc; blocks = m.now; hints = m.hints } in
    record {
      instr = d.instr;
      stands = goes.stands;
      here = goes.here;
      meaning = goes.meaning;
      means = ap (λ (os : List (List ℕ)). means_of d.instr os (take 4 s.hints)) (sym olds) ∙ goes.means;
      meets = goes.meets;
      enough = goes.enough;
      next = ap vm_state goes.after ∙ ap (λ (pc : ℕ). record { pc = pc; blocks = Rattle.vm_isa.specs.Blocks.after_accesses s.now goes.meaning.accesses; hints = Rattle.std.proofs.Common.drop (Rattle.vm_isa.specs.Blocks.hints_used d.instr.op) s.hints }) goes.next;
    }
