-- The accesses of a meaning stand at rising slots, below those of the opcode.
use Rattle.std.proofs.Common.{◌≡◌, ℕ, zero, suc, ◌+◌, ◌*◌, ◌<◌, ◌≤◌, ◌&&◌, ◌||◌, not, Bool, true, false, cond, nat_eq, List, [], ◌∷◌, ◌++◌, map, length, Some, None, refl, ap, ◌∙◌, subst, arith}
use Rattle.std.specs.List.{range_with_len}
use Rattle.std.proofs.lemmas.Bool.{eqb-true}
use Rattle.vm_word.specs.Arithmetic.{word_sum}
use Rattle.std.proofs.lemmas.Bool.Decides.{nat_tests}
use Rattle.vm_isa.specs.declared.instr.VmInstr.{VmInstr}
use Rattle.vm_isa.specs.declared.meaning.Place.{Place}
use Rattle.vm_isa.specs.Means.{Meaning, means_of, accessed_by, new_at, next_of, places_by, places_of, is_refused, place, memory, memory_from, sha_places}
use Rattle.vm_isa.specs.Opcodes.{is_alu, is_load, is_store, is_branch, is_upper, is_mul}
use Rattle.vm_isa.specs.Slots.{slots_of}
use Rattle.vm_isa.specs.Laws.{SlotsRise}

-- the slots of places rise from one on, below another
abbrev PlacesRise : ℕ → ℕ → List Place → Type 0
PlacesRise from slots [] = Unit {0}
PlacesRise from slots (p ∷ more) = (from ≤ p.slot) × (p.slot < slots) × PlacesRise (p.slot + 1) slots more

accessed_rise : (new : ℕ → List ℕ → List ℕ) (from slots : ℕ) (places : List Place) (olds : List (List ℕ)) → PlacesRise from slots places → SlotsRise from slots (accessed_by new places olds)
unfolding accessed_by
accessed_rise new from slots [] olds h = tt
accessed_rise new from slots (p ∷ places) [] h = tt
accessed_rise new from slots (p ∷ places) (old ∷ olds) h = (h.0, h.1, accessed_rise new (p.slot + 1) slots places olds h.2)

by_test : {P : Type 0} (b : Bool) → (b ≡ true → P) → (b ≡ false → P) → P
by_test true holds fails = holds refl
by_test false holds fails = fails refl

-- the slots of forms
slots_alu : (op : ℕ) → (is_alu op || is_mul op) ≡ true → slots_of op ≡ 3
slots_alu op h = grind (arith, nat_tests, h)

slots_load : (op : ℕ) → is_load op ≡ true → slots_of op ≡ 3
slots_load op h = grind (arith, nat_tests, h)

slots_store : (op : ℕ) → is_store op ≡ true → slots_of op ≡ 3
slots_store op h = grind (arith, nat_tests, h)

slots_branch : (op : ℕ) → is_branch op ≡ true → slots_of op ≡ 2
slots_branch op h = grind (arith, nat_tests, h)

slots_upper : (op : ℕ) → is_upper op ≡ true → slots_of op ≡ 1
slots_upper op h = grind (arith, nat_tests, h)

slots_sha : (op : ℕ) → nat_eq op 40 ≡ true → slots_of op ≡ 26
slots_sha op h = ap slots_of (eqb-true op 40 h)

slots_at : (op n : ℕ) → nat_eq op n ≡ true → slots_of op ≡ slots_of n
slots_at op n h = ap slots_of (eqb-true op n h)

one_place : (slots s space pointer : ℕ) → s < slots → PlacesRise 0 slots (place s space pointer ∷ [])
one_place slots s space pointer low = (omega arith, low, tt)

two_places : (slots s t u v m n : ℕ) → s < t → t < slots → PlacesRise 0 slots (place s u v ∷ place t m n ∷ [])
two_places slots s t u v m n rise low = (omega arith, omega (arith, rise, low), (omega (arith, rise), low, tt))

three_places : (slots s t r u v m n k l : ℕ) → s < t → t < r → r < slots → PlacesRise 0 slots (place s u v ∷ place t m n ∷ place r k l ∷ [])
three_places slots s t r u v m n k l rise more low = (omega arith, omega (arith, rise, more, low), (omega (arith, rise), omega (arith, more, low), (omega (arith, more), low, tt)))

words_rise : (slots slot pointer from count : ℕ) → slot + from + count ≤ slots → PlacesRise (slot + from) slots (map (λ j. memory (slot + j) (word_sum pointer (4 * j))) (range_with_len from count))
words_rise slots slot pointer from zero low = tt
words_rise slots slot pointer from (suc count) low = (
  omega arith,
  omega (arith, low),
  subst (λ (k : ℕ). PlacesRise k slots (map (λ j. memory (slot + j) (word_sum pointer (4 * j))) (range_with_len (from + 1) count))) (omega arith) (words_rise slots slot pointer (from + 1) count (omega (arith, low))),
)

rise_append : (from mid slots : ℕ) (xs ys : List Place) → PlacesRise from mid xs → from ≤ mid → mid ≤ slots → PlacesRise mid slots ys → PlacesRise from slots (xs ++ ys)
rise_append from mid slots [] [] h a b k = tt
rise_append from mid slots [] (y ∷ ys) h a b k = (omega (arith, a, k.0), k.1, k.2)
rise_append from mid slots (x ∷ xs) ys h a b k = (h.0, omega (arith, h.1, b), rise_append (x.slot + 1) mid slots xs ys h.2 (omega (arith, h.1)) b k)

sha_rise : (i : VmInstr) (b c slots : ℕ) → slots ≡ 26 → PlacesRise 0 slots (sha_places i b c)
sha_rise i b c slots is = (
  omega arith,
  omega (arith, is),
  (
    omega arith,
    omega (arith, is),
    rise_append 2 18 slots (memory_from 2 c 16) (memory_from 18 b 8) (words_rise 18 2 c 0 16 (omega arith)) (omega arith) (omega (arith, is)) (words_rise slots 18 b 0 8 (omega (arith, is))),
  ),
)

-- the accesses of an instruction stand at rising slots of its opcode
-- (The slots are a variable, so that the tests of opcodes are rewritten in the places alone.)
rise_in : (slots : ℕ) (i : VmInstr) (b c : ℕ) → slots ≡ slots_of i.op → PlacesRise 0 slots (places_by i b c)
unfolding places_by
rise_in slots i b c is =
    by_test (is_alu i.op || is_mul i.op)
    (λ h. let n = is ∙ slots_alu i.op h in rw h (by_test i.use_imm (λ u. rw u (two_places slots 0 2 1 0 1 0 (omega arith) (omega (arith, n)))) (λ u. rw u (three_places slots 0 1 2 1 0 1 0 1 0 (omega arith) (omega arith) (omega (arith, n))))))
    (λ a. rw a
    (by_test (is_load i.op)
    (λ h. let n = is ∙ slots_load i.op h in rw h (by_test i.write (λ u. rw u (three_places slots 0 1 2 1 0 2 0 1 0 (omega arith) (omega arith) (omega (arith, n)))) (λ u. rw u (two_places slots 0 1 1 0 2 0 (omega arith) (omega (arith, n))))))
    (λ l. rw l
    (by_test (is_store i.op)
    (λ h. let n = is ∙ slots_store i.op h in rw h (three_places slots 0 1 2 1 0 1 0 2 0 (omega arith) (omega arith) (omega (arith, n))))
    (λ s. rw s
    (by_test (is_branch i.op)
    (λ h. let n = is ∙ slots_branch i.op h in rw h (two_places slots 0 1 1 0 1 0 (omega arith) (omega (arith, n))))
    (λ r. rw r
    (by_test (nat_eq i.op 25)
    (λ h. let n = is ∙ slots_at i.op 25 h in rw h (by_test i.write (λ u. rw u (one_place slots 0 1 0 (omega (arith, n)))) (λ u. rw u tt)))
    (λ j. rw j
    (by_test (is_upper i.op)
    (λ h. let n = is ∙ slots_upper i.op h in rw h (one_place slots 0 1 0 (omega (arith, n))))
    (λ p. rw p
    (by_test (nat_eq i.op 27)
    (λ h. let n = is ∙ slots_at i.op 27 h in rw h (by_test i.write (λ u. rw u (two_places slots 0 1 1 0 1 0 (omega arith) (omega (arith, n)))) (λ u. rw u (one_place slots 0 1 0 (omega (arith, n))))))
    (λ k. rw k
    (by_test (nat_eq i.op 37)
    (λ h. let n = is ∙ slots_at i.op 37 h in rw h (two_places slots 0 1 1 0 2 0 (omega arith) (omega (arith, n))))
    (λ m. rw m
    (by_test (nat_eq i.op 38)
    (λ h. let n = is ∙ slots_at i.op 38 h in rw h (three_places slots 0 1 2 1 0 1 0 3 0 (omega arith) (omega arith) (omega (arith, n))))
    (λ q. rw q
    (by_test (nat_eq i.op 40) (λ h. rw h (sha_rise i b c slots (is ∙ slots_sha i.op h))) (λ z. rw z tt)))))))))))))))))))

places_rise : (i : VmInstr) (b c : ℕ) → PlacesRise 0 (slots_of i.op) (places_by i b c)
places_rise i b c = rise_in (slots_of i.op) i b c refl

-- the accesses of a meaning
pub meaning_rises : (i : VmInstr) (olds : List (List ℕ)) (given : List ℕ) (m : Meaning) → means_of i olds given ≡ Some m → SlotsRise 0 (slots_of i.op) m.accesses
unfolding means_of
meaning_rises i olds given m h = by_meaning (not (is_refused i olds) && nat_eq (length olds) (length (places_of i olds))) h
  where
    by_meaning : (b : Bool) → cond b (Some (record { accesses = accessed_by (new_at i olds given) (places_of i olds) olds; next = next_of i olds })) None ≡ Some m → SlotsRise 0 (slots_of i.op) m.accesses
    by_meaning true e =
        let same : record { accesses = accessed_by (new_at i olds given) (places_of i olds) olds; next = next_of i olds } ≡ m = cc in
        subst (λ (k : Meaning). SlotsRise 0 (slots_of i.op) k.accesses) same
        (accessed_rise (new_at i olds given) 0 (slots_of i.op) (places_of i olds) olds (places_rise i _ _))
    by_meaning false e = absurd (cc)
