-- The word that the host gives is HINT's alone: no other meaning depends on it.
use Rattle.std.proofs.Common.{◌≡◌, ℕ, ◌&&◌, Bool, true, false, cond, nat_eq, List, [], ◌∷◌, length, Some, None, refl, ap, ◌∙◌}
use Rattle.std.specs.Prelude.{not}
use Rattle.std.proofs.lemmas.Bool.{eqb-true}
use Rattle.vm_isa.specs.declared.instr.VmInstr.{VmInstr}
use Rattle.vm_isa.specs.declared.meaning.Place.{Place}
use Rattle.vm_isa.specs.Opcodes.{HINT}
use Rattle.vm_isa.specs.Means.{Accessed, means_of, accessed_by, new_at, next_of, places_of, is_refused}

new_same : (i : VmInstr) (olds : List (List ℕ)) (given other : List ℕ) (slot : ℕ) (old : List ℕ) → nat_eq i.op HINT ≡ false → new_at i olds given slot old ≡ new_at i olds other slot old
unfolding new_at
new_same i olds given other slot old none = rw none refl

accessed_same : (f g : ℕ → List ℕ → List ℕ) → ((slot : ℕ) (old : List ℕ) → f slot old ≡ g slot old) → (places : List Place) (olds : List (List ℕ)) → accessed_by f places olds ≡ accessed_by g places olds
unfolding accessed_by
accessed_same f g same [] olds = refl
accessed_same f g same (p ∷ places) [] = refl
accessed_same f g same (p ∷ places) (old ∷ olds) =
    let make : List ℕ → List Accessed → List Accessed = λ w rest. record { slot = p.slot; space = p.space; pointer = p.pointer; old = old; new = w } ∷ rest in
    ap (λ w. make w (accessed_by f places olds)) (same p.slot old) ∙ ap (make (g p.slot old)) (accessed_same f g same places olds)

pub means_same : (i : VmInstr) (olds : List (List ℕ)) (given other : List ℕ) → nat_eq i.op HINT ≡ false → means_of i olds given ≡ means_of i olds other
unfolding means_of
means_same i olds given other none =
    ap (λ (accesses : List Accessed). cond (not (is_refused i olds) && nat_eq (length olds) (length (places_of i olds))) (Some (record { accesses = accesses; next = next_of i olds })) None)
    (accessed_same (new_at i olds given) (new_at i olds other) (λ slot old. new_same i olds given other slot old none) (places_of i olds) olds)

by_test : {P : Type 0} (b : Bool) → (b ≡ true → P) → (b ≡ false → P) → P
by_test true holds fails = holds refl
by_test false holds fails = fails refl

pub given_for_hints : (i : VmInstr) (olds : List (List ℕ)) (given other : List ℕ) → (i.op ≡ HINT → ⊥) → means_of i olds given ≡ means_of i olds other
given_for_hints i olds given other none = by_test (nat_eq i.op HINT) (λ is. absurd (none (eqb-true i.op HINT is))) (means_same i olds given other)
