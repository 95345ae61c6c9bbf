-- The words of a meaning.
use Rattle.std.proofs.Common.{◌≡◌, ℕ, List, map, Some, ap, ◌∙◌}
use Rattle.vm_isa.specs.declared.instr.VmInstr.{VmInstr}
use Rattle.vm_isa.specs.Means.{Accessed, Meaning, means_of, new_at, places_of}
use Rattle.vm_isa.proofs.NextLaws.{meant}
use Rattle.vm_isa.proofs.ReadsKept.{map-old}

-- the old words of a meaning are those that it was made of
pub old_words : (i : VmInstr) (olds : List (List ℕ)) (given : List ℕ) (m : Meaning) → means_of i olds given ≡ Some m → map (λ (a : Accessed). a.old) m.accesses ≡ olds
old_words i olds given m h =
    let is = meant i olds given m h in
    ap (λ (x : Meaning). map (λ (a : Accessed). a.old) x.accesses) is.is ∙ map-old (new_at i olds given) (places_of i olds) olds is.long
