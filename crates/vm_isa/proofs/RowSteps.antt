-- The step of one row, by the old words of its accesses.
use Rattle.std.proofs.Common.{◌≡◌, ℕ, ◌≤◌, false, List, length, map, take, drop, Some, ap, ◌∙◌, subst}
use Rattle.std.specs.Prelude.{Contains}
use Rattle.vm_isa.specs.declared.instr.VmInstr.{VmInstr}
use Rattle.vm_isa.specs.Means.{Accessed, Meaning, means_of, accessed_by, is_refused, new_at, next_of, places_of}
use Rattle.vm_isa.specs.Blocks.{VmState, VmStep, Meets, after_accesses, hints_used}
use Rattle.vm_isa.proofs.MeansLaws.{whole, done_whole}
use Rattle.vm_isa.proofs.NextLaws.{meant, is_done}
use Rattle.vm_isa.proofs.ReadsKept.{map-old}

abbrev pub accesses_of : VmInstr → List (List ℕ) → List ℕ → List Accessed
accesses_of i olds given = accessed_by (new_at i olds given) (places_of i olds) olds

-- what a state is followed by, with these old words
abbrev pub followed_by : VmInstr → VmState → List (List ℕ) → VmState
followed_by i s olds = record { pc = next_of i olds; blocks = after_accesses s.blocks (accesses_of i olds (take 4 s.hints)); hints = drop (hints_used i.op) s.hints }

-- the row can be done with these old words
pub record Can (i : VmInstr) (s : VmState) (olds : List (List ℕ)) : Type 0 where
  pub fits : is_refused i olds ≡ false
  pub long : length olds ≡ length (places_of i olds)
  pub meets : Meets s.blocks (accesses_of i olds (take 4 s.hints))
  pub enough : hints_used i.op ≤ length s.hints

-- a step by this row
pub record By (i : VmInstr) (s t : VmState) : Type 0 where
  pub olds : List (List ℕ)
  pub can : Can i s olds
  pub next : t ≡ followed_by i s olds

pub step_by_row : (program : List VmInstr) (s t : VmState) (step : VmStep program s t) → By step.instr s t
step_by_row program s t step =
    let olds = map (λ (a : Accessed). a.old) step.meaning.accesses in
    let m = meant step.instr olds (take 4 s.hints) step.meaning step.means in
    let same : step.meaning.accesses ≡ accesses_of step.instr olds (take 4 s.hints) = ap (λ (x : Meaning). x.accesses) m.is in
    let next : step.meaning.next ≡ next_of step.instr olds = ap (λ (x : Meaning). x.next) m.is in
    record {
      olds = olds;
      can = record { fits = m.fits; long = m.long; meets = subst (Meets s.blocks) same step.meets; enough = step.enough };
      next = step.next ∙ ap (λ (n : ℕ). record { pc = n; blocks = after_accesses s.blocks step.meaning.accesses; hints = drop (hints_used step.instr.op) s.hints }) next
          ∙ ap (λ (xs : List Accessed). record { pc = next_of step.instr olds; blocks = after_accesses s.blocks xs; hints = drop (hints_used step.instr.op) s.hints }) same;
    }

pub row_steps : (program : List VmInstr) (i : VmInstr) (s t : VmState) → Contains program i → i.pc ≡ s.pc → By i s t → VmStep program s t
row_steps program i s t stands here by =
    let is : map (λ (a : Accessed). a.old) (accesses_of i by.olds (take 4 s.hints)) ≡ by.olds = map-old (new_at i by.olds (take 4 s.hints)) (places_of i by.olds) by.olds by.can.long in
    let means : means_of i by.olds (take 4 s.hints) ≡ Some (whole i by.olds (take 4 s.hints)) = done_whole i by.olds (take 4 s.hints) (is_done i by.olds by.can.fits by.can.long) in
    record {
      instr = i;
      stands = stands;
      here = here;
      meaning = whole i by.olds (take 4 s.hints);
      means = ap (λ (xs : List (List ℕ)). means_of i xs (take 4 s.hints)) is ∙ means;
      meets = by.can.meets;
      enough = by.can.enough;
      next = by.next;
    }
