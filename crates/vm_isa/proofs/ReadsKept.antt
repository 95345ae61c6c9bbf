-- Accesses that are made one after another: those that leave their word change nothing.
use Rattle.std.proofs.Common.{◌≡◌, ℕ, Bool, true, false, ◌&&◌, nat_eq, if◌then◌else◌, List, [], ◌∷◌, length, map, refl, sym, ap, ◌∙◌, subst, arith}
use Rattle.std.proofs.Math.Path.{fun_ext}
use Rattle.std.proofs.lemmas.Bool.Decides.{nat_tests}
use Rattle.vm_isa.specs.declared.meaning.Place.{Place}
use Rattle.vm_isa.specs.Means.{Accessed, accessed_by}
use Rattle.vm_isa.specs.Blocks.{Blocks, Meets, after_accesses, is_block, with_block}

-- the word at a place
abbrev pub look : Blocks → Place → List ℕ
look blocks p = blocks p.space p.pointer

same_by : (blocks : Blocks) (s p s' p' : ℕ) (x y : Bool) → nat_eq s' s ≡ x → nat_eq p' p ≡ y → (if x && y then blocks s p else blocks s' p') ≡ blocks s' p'
same_by blocks s p s' p' true true e f =
    let space : s ≡ s' = grind (arith, nat_tests) in
    let pointer : p ≡ p' = grind (arith, nat_tests) in
    rw (space, pointer) refl
same_by blocks s p s' p' true false e f = refl
same_by blocks s p s' p' false y e f = refl

-- a block that gets its own word
pub with_block-same : (blocks : Blocks) (s p : ℕ) → with_block blocks s p (blocks s p) ≡ blocks
with_block-same blocks s p = fun_ext (λ s'. fun_ext (λ p'. same_by blocks s p s' p' (nat_eq s' s) (nat_eq p' p) refl refl))

kept : (blocks : Blocks) (a : Accessed) → a.new ≡ a.old → blocks a.space a.pointer ≡ a.old → with_block blocks a.space a.pointer a.new ≡ blocks
kept blocks a new at = ap (with_block blocks a.space a.pointer) (new ∙ sym at) ∙ with_block-same blocks a.space a.pointer

pub read_met : (blocks : Blocks) (a : Accessed) (more : List Accessed) → a.new ≡ a.old → Meets blocks (a ∷ more)
    → (is_block a.space a.pointer ≡ true) × (blocks a.space a.pointer ≡ a.old) × Meets blocks more
unfolding Meets
read_met blocks a more new h = (h.0, h.1, subst (λ b. Meets b more) (kept blocks a new h.1) h.2)

pub read_meets : (blocks : Blocks) (a : Accessed) (more : List Accessed) → a.new ≡ a.old → is_block a.space a.pointer ≡ true → blocks a.space a.pointer ≡ a.old → Meets blocks more
    → Meets blocks (a ∷ more)
unfolding Meets
read_meets blocks a more new on at h = (on, at, subst (λ b. Meets b more) (sym (kept blocks a new at)) h)

pub after_read : (blocks : Blocks) (a : Accessed) (more : List Accessed) → a.new ≡ a.old → blocks a.space a.pointer ≡ a.old
    → after_accesses blocks (a ∷ more) ≡ after_accesses blocks more
unfolding after_accesses
after_read blocks a more new at = ap (λ b. after_accesses b more) (kept blocks a new at)

-- the old words of accesses
pub map-old : (new : ℕ → List ℕ → List ℕ) (ps : List Place) (xs : List (List ℕ)) → length xs ≡ length ps → map (λ (a : Accessed). a.old) (accessed_by new ps xs) ≡ xs
unfolding accessed_by
map-old new [] [] h = refl
map-old new [] (x ∷ xs) h = absurd (omega arith)
map-old new (p ∷ ps) [] h = absurd (omega arith)
map-old new (p ∷ ps) (x ∷ xs) h = ap (λ (ys : List (List ℕ)). x ∷ ys) (map-old new ps xs (omega arith))
