-- The row of a program that is found by its pc.
use Rattle.std.proofs.Common.{◌≡◌, ℕ, suc, ◌==◌, Bool, true, false, cond, List, [], ◌∷◌, get_or, Some, refl, sym, ap, ◌∙◌, arith, Contains, zero}
use Rattle.std.specs.Prelude.{find}
use Rattle.std.proofs.lemmas.Bool.{eqb-true}
use Rattle.std.proofs.lemmas.Option.{slice_get-get_or}
use Rattle.vm_isa.specs.declared.instr.VmInstr.{VmInstr}
use Rattle.vm_transpile.specs.Order.{RisesFrom}
use Rattle.vm_transpile.proofs.RowOrder.{found_place, find-place}

-- what is found is a row of the program with this pc
pub record IsFound (rows : List VmInstr) (pc : ℕ) (row : VmInstr) : Type 0 where
  pub stands : Contains rows row
  pub here : row.pc ≡ pc

found_more : (rows : List VmInstr) (pc : ℕ) (first row : VmInstr) → IsFound rows pc row → IsFound (first ∷ rows) pc row
found_more rows pc first row f = record { stands = (suc f.stands.0, omega (arith, f.stands.1), f.stands.2); here = f.here }

found_by : (first : VmInstr) (rows : List VmInstr) (pc : ℕ) (row : VmInstr) (b : Bool) → (first.pc == pc) ≡ b → (find (λ r. r.pc == pc) rows ≡ Some row → IsFound rows pc row)
    → cond b (Some first) (find (λ r. r.pc == pc) rows) ≡ Some row → IsFound (first ∷ rows) pc row
found_by first rows pc row true is rest h =
    let same : first ≡ row = cc in
    record { stands = (zero, omega arith, same); here = ap (λ (r : VmInstr). r.pc) (sym same) ∙ eqb-true first.pc pc is }
found_by first rows pc row false is rest h = found_more rows pc first row (rest h)

pub found : (rows : List VmInstr) (pc : ℕ) (row : VmInstr) → find (λ r. r.pc == pc) rows ≡ Some row → IsFound rows pc row
found [] pc row h = absurd (cc)
found (first ∷ rows) pc row h = found_by first rows pc row (first.pc == pc) refl (found rows pc row) h

-- and each row is found
pub finds : (rows : List VmInstr) (pc : ℕ) (row : VmInstr) → RisesFrom 0 rows → IsFound rows pc row → find (λ r. r.pc == pc) rows ≡ Some row
finds rows pc row rises f =
    let k = f.stands.0 in
    let here : (get_or rows k row).pc ≡ pc = ap (λ (r : VmInstr). r.pc) f.stands.2 ∙ f.here in
    sym (find-place (λ (r : VmInstr). r.pc == pc) rows k (found_place rows pc k row rises f.stands.1 here))
    ∙ slice_get-get_or rows k row f.stands.1 ∙ ap Some f.stands.2
