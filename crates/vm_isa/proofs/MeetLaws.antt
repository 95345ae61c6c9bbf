-- Of two accesses of a meaning to one block the earlier keeps its word, so accesses that find their old
-- words before the step find them one after another, and the other way round.
use Rattle.std.proofs.Common.{◌≡◌, ℕ, ◌+◌, ◌*◌, ◌<◌, ◌&&◌, ◌||◌, Bool, true, false, nat_eq, List, [], ◌∷◌, ◌++◌, Some, refl, sym, ap, ◌∙◌, subst, arith, if◌then◌else◌}
use Rattle.std.specs.List.{AllByRecursion}
use Rattle.std.proofs.lemmas.Bool.{eqb-true}
use Rattle.std.proofs.lemmas.Bool.Decides.{nat_tests}
use Rattle.vm_word.specs.Arithmetic.{word_sum}
use Rattle.vm_isa.specs.declared.instr.VmInstr.{VmInstr}
use Rattle.vm_isa.specs.declared.meaning.Place.{Place}
use Rattle.vm_isa.specs.Means.{Accessed, Meaning, means_of, accessed_by, memory, memory_from, new_at, places_by, places_of, register, sha_places}
use Rattle.vm_isa.specs.Opcodes.{is_load, is_store, is_branch, is_upper, is_register, JAL, JALR, HINT, REVEAL, SHA}
use Rattle.vm_isa.specs.Blocks.{Blocks, Meets, with_block}
use Rattle.vm_isa.specs.Laws.{FindsItsWord}
use Rattle.vm_isa.proofs.MeansLaws.{whole}
use Rattle.vm_isa.proofs.NextLaws.{meant}
use Rattle.vm_isa.proofs.Shapes.{access}
use Rattle.vm_isa.proofs.ShaShape.{Quiet, Apart, Separate, all_range, state_separate}

-- ---- lists of accesses

-- an access keeps its word, if the other is to its block
abbrev Undisturbed : Accessed → Accessed → Type 0
Undisturbed a b = b.space ≡ a.space → b.pointer ≡ a.pointer → a.new ≡ a.old

KeptBefore : List Accessed → Type 0
KeptBefore [] = Unit {0}
KeptBefore (a ∷ more) = AllByRecursion (Undisturbed a) more × KeptBefore more

found_by : (blocks : Blocks) (a b : Accessed) (x y : Bool) → nat_eq b.space a.space ≡ x → nat_eq b.pointer a.pointer ≡ y → blocks a.space a.pointer ≡ a.old → blocks b.space b.pointer ≡ b.old → Undisturbed a b
    → (if x && y then a.new else blocks b.space b.pointer) ≡ b.old
found_by blocks a b true true e f at here kept =
    let space : b.space ≡ a.space = eqb-true b.space a.space e in
    let pointer : b.pointer ≡ a.pointer = eqb-true b.pointer a.pointer f in
    kept space pointer ∙ sym at ∙ ap (λ (s : ℕ). blocks s a.pointer) (sym space) ∙ ap (blocks b.space) (sym pointer) ∙ here
found_by blocks a b true false e f at here kept = here
found_by blocks a b false y e f at here kept = here

found_after : (blocks : Blocks) (a : Accessed) (more : List Accessed) → blocks a.space a.pointer ≡ a.old → AllByRecursion (Undisturbed a) more → AllByRecursion (FindsItsWord blocks) more
    → AllByRecursion (FindsItsWord (with_block blocks a.space a.pointer a.new)) more
found_after blocks a [] at kept found = tt
found_after blocks a (b ∷ more) at kept found =
    ((found.0.0, found_by blocks a b (nat_eq b.space a.space) (nat_eq b.pointer a.pointer) refl refl at found.0.1 kept.0), found_after blocks a more at kept.1 found.1)

meets_kept : (blocks : Blocks) (accesses : List Accessed) → KeptBefore accesses → AllByRecursion (FindsItsWord blocks) accesses → Meets blocks accesses
unfolding Meets KeptBefore
meets_kept blocks [] kept found = tt
meets_kept blocks (a ∷ more) kept found =
    (found.0.0, found.0.1, meets_kept (with_block blocks a.space a.pointer a.new) more kept.1 (found_after blocks a more found.0.1 kept.0 found.1))

stood_by : (blocks : Blocks) (a b : Accessed) (x y : Bool) → nat_eq b.space a.space ≡ x → nat_eq b.pointer a.pointer ≡ y → blocks a.space a.pointer ≡ a.old → (if x && y then a.new else blocks b.space b.pointer) ≡ b.old → Undisturbed a b
    → blocks b.space b.pointer ≡ b.old
stood_by blocks a b true true e f at here kept =
    let space : b.space ≡ a.space = eqb-true b.space a.space e in
    let pointer : b.pointer ≡ a.pointer = eqb-true b.pointer a.pointer f in
    ap (λ (s : ℕ). blocks s b.pointer) space ∙ ap (blocks a.space) pointer ∙ at ∙ sym (kept space pointer) ∙ here
stood_by blocks a b true false e f at here kept = here
stood_by blocks a b false y e f at here kept = here

stood_before : (blocks : Blocks) (a : Accessed) (more : List Accessed) → blocks a.space a.pointer ≡ a.old → AllByRecursion (Undisturbed a) more
    → AllByRecursion (FindsItsWord (with_block blocks a.space a.pointer a.new)) more → AllByRecursion (FindsItsWord blocks) more
stood_before blocks a [] at kept found = tt
stood_before blocks a (b ∷ more) at kept found =
    ((found.0.0, stood_by blocks a b (nat_eq b.space a.space) (nat_eq b.pointer a.pointer) refl refl at found.0.1 kept.0), stood_before blocks a more at kept.1 found.1)

stand_kept : (blocks : Blocks) (accesses : List Accessed) → KeptBefore accesses → Meets blocks accesses → AllByRecursion (FindsItsWord blocks) accesses
unfolding Meets KeptBefore
stand_kept blocks [] kept met = tt
stand_kept blocks (a ∷ more) kept met =
    ((met.0, met.1), stood_before blocks a more met.1 kept.0 (stand_kept (with_block blocks a.space a.pointer a.new) more kept.1 met.2))

-- ---- lists of places

abbrev QuietIfMet : (ℕ → List ℕ → List ℕ) → Place → Place → Type 0
QuietIfMet new p q = q.pointer ≡ p.pointer → Quiet new p

PlacesKept : (ℕ → List ℕ → List ℕ) → List Place → Type 0
PlacesKept new [] = Unit {0}
PlacesKept new (p ∷ places) = AllByRecursion (QuietIfMet new p) places × PlacesKept new places

undisturbed : (new : ℕ → List ℕ → List ℕ) (p : Place) (x : List ℕ) (places : List Place) (xs : List (List ℕ)) → AllByRecursion (QuietIfMet new p) places → AllByRecursion (Undisturbed (access new p x)) (accessed_by new places xs)
unfolding accessed_by Quiet
undisturbed new p x [] xs h = tt
undisturbed new p x (q ∷ places) [] h = tt
undisturbed new p x (q ∷ places) (y ∷ xs) h = (λ space pointer. h.0 pointer x, undisturbed new p x places xs h.1)

kept_accesses : (new : ℕ → List ℕ → List ℕ) (places : List Place) (xs : List (List ℕ)) → PlacesKept new places → KeptBefore (accessed_by new places xs)
unfolding accessed_by KeptBefore PlacesKept
kept_accesses new [] xs h = tt
kept_accesses new (p ∷ places) [] h = tt
kept_accesses new (p ∷ places) (x ∷ xs) h = (undisturbed new p x places xs h.0, kept_accesses new places xs h.1)

quiet_before : (new : ℕ → List ℕ → List ℕ) (p : Place) → Quiet new p → (places : List Place) → AllByRecursion (QuietIfMet new p) places
quiet_before new p quiet [] = tt
quiet_before new p quiet (q ∷ places) = (λ met. quiet, quiet_before new p quiet places)

reads_before : (new : ℕ → List ℕ → List ℕ) (reads places : List Place) → AllByRecursion (Quiet new) reads → PlacesKept new places → PlacesKept new (reads ++ places)
unfolding PlacesKept
reads_before new [] places quiet h = h
reads_before new (p ∷ reads) places quiet h = (quiet_before new p quiet.0 (reads ++ places), reads_before new reads places quiet.1 h)

apart_quiet : (new : ℕ → List ℕ → List ℕ) (p : Place) (places : List Place) → AllByRecursion (Apart p) places → AllByRecursion (QuietIfMet new p) places
unfolding Apart
apart_quiet new p [] h = tt
apart_quiet new p (q ∷ places) h = (λ met. absurd (h.0 met), apart_quiet new p places h.1)

separate_kept : (new : ℕ → List ℕ → List ℕ) (places : List Place) → Separate places → PlacesKept new places
unfolding PlacesKept Separate
separate_kept new [] h = tt
separate_kept new (p ∷ places) h = (apart_quiet new p places h.0, separate_kept new places h.1)

-- ---- the forms of instructions

by_test : {P : Type 0} (b : Bool) → (b ≡ true → P) → (b ≡ false → P) → P
by_test true holds fails = holds refl
by_test false holds fails = fails refl

module _ (new : ℕ → List ℕ → List ℕ) where
  one_kept : (p : Place) → PlacesKept new (p ∷ [])
  unfolding PlacesKept
  one_kept p = (tt, tt)

  none_kept : PlacesKept new []
  unfolding PlacesKept
  none_kept = tt

  two_kept : (p q : Place) → Quiet new p → PlacesKept new (p ∷ q ∷ [])
  two_kept p q quiet = reads_before new (p ∷ []) (q ∷ []) (quiet, tt) (one_kept q)

  three_kept : (p q r : Place) → Quiet new p → Quiet new q → PlacesKept new (p ∷ q ∷ r ∷ [])
  three_kept p q r first second = reads_before new (p ∷ q ∷ []) (r ∷ []) (first, (second, tt)) (one_kept r)

-- the slots at which each form reads
low_quiet : (i : VmInstr) (olds : List (List ℕ)) (given : List ℕ) (slot : ℕ) (x : List ℕ) → (is_register i.op || (is_load i.op || (is_store i.op || (is_branch i.op || nat_eq i.op REVEAL)))) ≡ true → slot < 2 → new_at i olds given slot x ≡ x
unfolding new_at
low_quiet i olds given slot x form low = grind (arith, nat_tests, form, low)

first_quiet : (i : VmInstr) (olds : List (List ℕ)) (given : List ℕ) (x : List ℕ) → (nat_eq i.op JALR || nat_eq i.op HINT) ≡ true → new_at i olds given 0 x ≡ x
unfolding new_at
first_quiet i olds given x form = grind (arith, nat_tests, form)

sha_quiet : (i : VmInstr) (olds : List (List ℕ)) (given : List ℕ) (slot : ℕ) (x : List ℕ) → nat_eq i.op SHA ≡ true → slot < 18 → new_at i olds given slot x ≡ x
unfolding new_at
sha_quiet i olds given slot x form low = grind (arith, nat_tests, form, low)

block_quiet : (i : VmInstr) (olds : List (List ℕ)) (given : List ℕ) (c : ℕ) → nat_eq i.op SHA ≡ true → AllByRecursion (Quiet (new_at i olds given)) (memory_from 2 c 16)
unfolding Quiet
block_quiet i olds given c form = all_range (λ p. (x : List ℕ) → new_at i olds given p.slot x ≡ x) (λ j. memory (2 + j) (word_sum c (4 * j))) 0 16 (λ j low high x. sha_quiet i olds given (2 + j) x form (omega arith))

sha_kept : (i : VmInstr) (olds : List (List ℕ)) (given : List ℕ) (b c : ℕ) → nat_eq i.op SHA ≡ true → PlacesKept (new_at i olds given) (sha_places i b c)
unfolding Quiet
sha_kept i olds given b c form =
    let new = new_at i olds given in
    let block = reads_before new (memory_from 2 c 16) (memory_from 18 b 8) (block_quiet i olds given c form) (separate_kept new (memory_from 18 b 8) (state_separate b)) in
    reads_before new (register 0 i.rd ∷ register 1 i.rs1 ∷ []) (memory_from 2 c 16 ++ memory_from 18 b 8)
    (λ x. sha_quiet i olds given 0 x form (omega arith), (λ x. sha_quiet i olds given 1 x form (omega arith), tt)) block

-- An access that writes is the last of its instruction, or one of the eight words of a state. (What is
-- written is a variable, so that the tests of the instruction are rewritten in the places alone.)
module _ (i : VmInstr) (new : ℕ → List ℕ → List ℕ)
    (low : (is_register i.op || (is_load i.op || (is_store i.op || (is_branch i.op || nat_eq i.op REVEAL)))) ≡ true → (slot : ℕ) (x : List ℕ) → slot < 2 → new slot x ≡ x)
    (first : (nat_eq i.op JALR || nat_eq i.op HINT) ≡ true → (x : List ℕ) → new 0 x ≡ x)
    (sha : (b c : ℕ) → nat_eq i.op SHA ≡ true → PlacesKept new (sha_places i b c)) where
  two_low : (p q : Place) → (is_register i.op || (is_load i.op || (is_store i.op || (is_branch i.op || nat_eq i.op REVEAL)))) ≡ true → p.slot < 2 → PlacesKept new (p ∷ q ∷ [])
  unfolding Quiet
  two_low p q form few = two_kept new p q (λ x. low form p.slot x few)

  three_low : (p q r : Place) → (is_register i.op || (is_load i.op || (is_store i.op || (is_branch i.op || nat_eq i.op REVEAL)))) ≡ true → p.slot < 2 → q.slot < 2 → PlacesKept new (p ∷ q ∷ r ∷ [])
  unfolding Quiet
  three_low p q r form few less = three_kept new p q r (λ x. low form p.slot x few) (λ x. low form q.slot x less)

  two_first : (p q : Place) → (nat_eq i.op JALR || nat_eq i.op HINT) ≡ true → p.slot ≡ 0 → PlacesKept new (p ∷ q ∷ [])
  unfolding Quiet
  two_first p q form at = two_kept new p q (λ x. ap (λ (n : ℕ). new n x) at ∙ first form x)

  kept_by : (b c : ℕ) → PlacesKept new (places_by i b c)
  unfolding places_by
  kept_by b c =
      by_test (is_register i.op)
      (λ h. let form : (is_register i.op || (is_load i.op || (is_store i.op || (is_branch i.op || nat_eq i.op REVEAL)))) ≡ true = rw h refl in
      rw h (by_test i.use_imm (λ u. rw u (two_low (register 0 i.rs1) (register 2 i.rd) form (omega arith)))
      (λ u. rw u (three_low (register 0 i.rs1) (register 1 i.rs2) (register 2 i.rd) form (omega arith) (omega arith)))))
      (λ a. rw a
      (by_test (is_load i.op)
      (λ h. let form : (is_register i.op || (is_load i.op || (is_store i.op || (is_branch i.op || nat_eq i.op REVEAL)))) ≡ true = rw (a, h) refl in
      rw h (by_test i.write (λ u. rw u (three_low _ _ _ form (omega arith) (omega arith))) (λ u. rw u (two_low _ _ form (omega arith)))))
      (λ l. rw l
      (by_test (is_store i.op)
      (λ h. rw h (three_low _ _ _ (rw (a, l, h) refl) (omega arith) (omega arith)))
      (λ s. rw s
      (by_test (is_branch i.op)
      (λ h. rw h (two_low _ _ (rw (a, l, s, h) refl) (omega arith)))
      (λ r. rw r
      (by_test (nat_eq i.op JAL)
      (λ h. rw h (by_test i.write (λ u. rw u (one_kept new _)) (λ u. rw u (none_kept new))))
      (λ j. rw j
      (by_test (is_upper i.op)
      (λ h. rw h (one_kept new _))
      (λ p. rw p
      (by_test (nat_eq i.op JALR)
      (λ h. rw h (by_test i.write (λ u. rw u (two_first _ _ (rw h refl) refl)) (λ u. rw u (one_kept new _))))
      (λ k. rw k
      (by_test (nat_eq i.op HINT)
      (λ h. rw h (two_first _ _ (rw (k, h) refl) refl))
      (λ m. rw m
      (by_test (nat_eq i.op REVEAL)
      (λ h. rw h (three_low _ _ _ (rw (a, l, s, r, h) refl) (omega arith) (omega arith)))
      (λ q. rw q
      (by_test (nat_eq i.op SHA) (λ h. rw h (sha b c h)) (λ z. rw z (none_kept new))))))))))))))))))))

places_kept : (i : VmInstr) (olds : List (List ℕ)) (given : List ℕ) (b c : ℕ) → PlacesKept (new_at i olds given) (places_by i b c)
places_kept i olds given =
    kept_by i (new_at i olds given) (λ form slot x few. low_quiet i olds given slot x form few) (λ form x. first_quiet i olds given x form) (λ b c form. sha_kept i olds given b c form)

pub standing_words_are_met : (blocks : Blocks) (i : VmInstr) (olds : List (List ℕ)) (given : List ℕ) (m : Meaning) → means_of i olds given ≡ Some m → AllByRecursion (FindsItsWord blocks) m.accesses → Meets blocks m.accesses
standing_words_are_met blocks i olds given m h found =
    let is = meant i olds given m h in
    let same : m.accesses ≡ (whole i olds given).accesses = ap (λ (x : Meaning). x.accesses) is.is in
    subst (Meets blocks) (sym same)
    (meets_kept blocks (whole i olds given).accesses (kept_accesses (new_at i olds given) (places_of i olds) olds (places_kept i olds given _ _)) (subst (AllByRecursion (FindsItsWord blocks)) same found))

pub met_words_stand : (blocks : Blocks) (i : VmInstr) (olds : List (List ℕ)) (given : List ℕ) (m : Meaning) → means_of i olds given ≡ Some m → Meets blocks m.accesses → AllByRecursion (FindsItsWord blocks) m.accesses
met_words_stand blocks i olds given m h met =
    let is = meant i olds given m h in
    let same : m.accesses ≡ (whole i olds given).accesses = ap (λ (x : Meaning). x.accesses) is.is in
    subst (AllByRecursion (FindsItsWord blocks)) (sym same)
    (stand_kept blocks (whole i olds given).accesses (kept_accesses (new_at i olds given) (places_of i olds) olds (places_kept i olds given _ _)) (subst (Meets blocks) same met))
