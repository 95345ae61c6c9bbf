-- What places_by has in common for all words: how many places there are, and the places that come
-- before a word on which they could depend.
use Rattle.std.proofs.Common.{◌≡◌, ℕ, Bool, true, false, nat_eq, List, [], ◌∷◌, ◌++◌, Option, length, slice_get, if◌then◌else◌, refl}
use Rattle.vm_isa.specs.declared.instr.VmInstr.{VmInstr}
use Rattle.vm_isa.specs.declared.meaning.Place.{Place}
use Rattle.vm_isa.specs.Opcodes.{is_load, is_store, is_branch, is_upper, is_register, JAL, JALR, HINT, REVEAL, SHA}
use Rattle.vm_isa.specs.Means.{places_by, places_of, word_at}

same : {X Y : Type 0} (f : X → Y) (t : Bool) (a b c d : X) → f a ≡ f c → f b ≡ f d → f (if t then a else b) ≡ f (if t then c else d)
same f true a b c d p q = p
same f false a b c d p q = q

pub places_by-length : (i : VmInstr) (b c d e : ℕ) → length (places_by i b c) ≡ length (places_by i d e)
unfolding places_by
places_by-length i b c d e =
    let f : List Place → ℕ = λ ps. length ps in
    same f (is_register i.op) _ _ _ _ (same f i.use_imm _ _ _ _ refl refl)
    (same f (is_load i.op) _ _ _ _ (same f i.write _ _ _ _ refl refl)
    (same f (is_store i.op) _ _ _ _ refl
    (same f (is_branch i.op) _ _ _ _ refl
    (same f (nat_eq i.op JAL) _ _ _ _ refl
    (same f (is_upper i.op) _ _ _ _ refl
    (same f (nat_eq i.op JALR) _ _ _ _ refl
    (same f (nat_eq i.op HINT) _ _ _ _ refl
    (same f (nat_eq i.op REVEAL) _ _ _ _ refl
    (same f (nat_eq i.op SHA) _ _ _ _ refl refl)))))))))

pub places_by-first : (i : VmInstr) (b c d e : ℕ) → slice_get (places_by i b c) 0 ≡ slice_get (places_by i d e) 0
unfolding places_by
places_by-first i b c d e =
    let f : List Place → Option Place = λ ps. slice_get ps 0 in
    same f (is_register i.op) _ _ _ _ (same f i.use_imm _ _ _ _ refl refl)
    (same f (is_load i.op) _ _ _ _ (same f i.write _ _ _ _ refl refl)
    (same f (is_store i.op) _ _ _ _ refl
    (same f (is_branch i.op) _ _ _ _ refl
    (same f (nat_eq i.op JAL) _ _ _ _ refl
    (same f (is_upper i.op) _ _ _ _ refl
    (same f (nat_eq i.op JALR) _ _ _ _ refl
    (same f (nat_eq i.op HINT) _ _ _ _ refl
    (same f (nat_eq i.op REVEAL) _ _ _ _ refl
    (same f (nat_eq i.op SHA) _ _ _ _ refl refl)))))))))

pub places_by-second : (i : VmInstr) (b c e : ℕ) → slice_get (places_by i b c) 1 ≡ slice_get (places_by i b e) 1
unfolding places_by
places_by-second i b c e =
    let f : List Place → Option Place = λ ps. slice_get ps 1 in
    same f (is_register i.op) _ _ _ _ (same f i.use_imm _ _ _ _ refl refl)
    (same f (is_load i.op) _ _ _ _ (same f i.write _ _ _ _ refl refl)
    (same f (is_store i.op) _ _ _ _ refl
    (same f (is_branch i.op) _ _ _ _ refl
    (same f (nat_eq i.op JAL) _ _ _ _ refl
    (same f (is_upper i.op) _ _ _ _ refl
    (same f (nat_eq i.op JALR) _ _ _ _ refl
    (same f (nat_eq i.op HINT) _ _ _ _ refl
    (same f (nat_eq i.op REVEAL) _ _ _ _ refl
    (same f (nat_eq i.op SHA) _ _ _ _ refl refl)))))))))

-- the place of the next access stays when words come after
pub next_place : (i : VmInstr) (olds more : List (List ℕ)) → slice_get (places_of i (olds ++ more)) (length olds) ≡ slice_get (places_of i olds) (length olds)
unfolding word_at
next_place i [] more = places_by-first i _ _ _ _
next_place i (x ∷ []) more = places_by-second i _ _ _
next_place i (x ∷ y ∷ olds) more = refl
