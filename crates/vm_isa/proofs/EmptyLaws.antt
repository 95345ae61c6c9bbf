-- Instructions whose meaning has no accesses.
use Rattle.std.proofs.Common.{◌≡◌, ℕ, false, nat_eq, List, [], ◌∷◌, length, Some, refl, sym, ap, ◌∙◌, arith}
use Rattle.std.proofs.lemmas.Bool.{ne_eqb}
use Rattle.vm_isa.specs.declared.instr.VmInstr.{VmInstr}
use Rattle.vm_isa.specs.declared.meaning.Place.{Place}
use Rattle.vm_isa.specs.Means.{Meaning, means_of, places_by, places_of, accessed_by, new_at, word_at}
use Rattle.vm_isa.specs.Blocks.{hints_used}
use Rattle.vm_isa.proofs.MeansLaws.{done_whole, whole}
use Rattle.vm_isa.proofs.NextLaws.{meant, is_done}
use Rattle.vm_isa.specs.Opcodes.{HINT}

no_accessed : (new : ℕ → List ℕ → List ℕ) (places : List Place) → accessed_by new places [] ≡ []
unfolding accessed_by
no_accessed new [] = refl
no_accessed new (p ∷ places) = refl

-- such a meaning is the same whatever word the host gives
pub any_given : (i : VmInstr) (next : ℕ) (given other : List ℕ) → means_of i [] given ≡ Some (record { accesses = []; next = next }) → means_of i [] other ≡ Some (record { accesses = []; next = next })
any_given i next given other h =
    let m = meant i [] given (record { accesses = []; next = next }) h in
    let same : whole i [] other ≡ record { accesses = []; next = next } =
    ap (λ (accesses : List _). record { accesses = accesses; next = (whole i [] other).next }) (no_accessed (new_at i [] other) (places_of i []))
    ∙ ap (λ (n : ℕ). record { accesses = []; next = n }) (sym (ap (λ (w : Meaning). w.next) m.is)) in
    done_whole i [] other (is_done i [] m.fits m.long) ∙ ap Some same

-- a HINT has accesses
hint_places : (i : VmInstr) (b c : ℕ) → i.op ≡ HINT → length (places_by i b c) ≡ 2
unfolding places_by
hint_places i b c h = rw h refl

-- so no hint bytes are used up
pub no_hints_used : (i : VmInstr) (next : ℕ) (given : List ℕ) → means_of i [] given ≡ Some (record { accesses = []; next = next }) → hints_used i.op ≡ 0
no_hints_used i next given h =
    let m = meant i [] given (record { accesses = []; next = next }) h in
    let other : nat_eq i.op HINT ≡ false = ne_eqb i.op HINT (λ is. omega (arith, m.long, hint_places i (word_at [] 0) (word_at [] 1) is)) in
    rw other refl
