-- What a SHA block means at old words.
use Rattle.std.proofs.Common.{◌≡◌, ℕ, zero, suc, ◌+◌, ◌-◌, ◌*◌, ◌^◌, ◌<◌, ◌≤◌, true, false, nat_lt, List, [], ◌∷◌, ◌++◌, length, map, slice_index, Some, refl, ap, arith, lt-ltb}
use Rattle.std.specs.List.{range_with_len}
use Rattle.std.proofs.lemmas.Bool.{le-leb, lt-leb}
use Rattle.vm_word.specs.Word.{limbs_of}
use Rattle.vm_word.specs.Arithmetic.{word_sum}
use Rattle.vm_isa.specs.declared.instr.VmInstr.{VmInstr}
use Rattle.vm_isa.specs.Means.{Accessed, accessed_by, bars_first, bars_second, compressed, is_refused, means_of, memory, memory_from, new_at, next_of, places_by, sha_places, word_at}

-- the opcode

not_refused : (i : VmInstr) (olds : List (List ℕ)) → i.op ≡ 40 → word_at olds 0 < 2 ^ 29 → word_at olds 1 < 2 ^ 29 → is_refused i olds ≡ false
unfolding is_refused bars_first bars_second
not_refused i olds op b c =
    let low_b : nat_lt (word_at olds 0) 536870912 ≡ true = lt-ltb (word_at olds 0) 536870912 b in
    let low_c : nat_lt (word_at olds 1) 536870912 ≡ true = lt-ltb (word_at olds 1) 536870912 c in
    rw (op, low_b, low_c) refl

pub places_are : (i : VmInstr) (b c : ℕ) → i.op ≡ 40 → places_by i b c ≡ sha_places i b c
unfolding places_by
places_are i b c op = rw op refl

pub next_sha : (i : VmInstr) (olds : List (List ℕ)) → i.op ≡ 40 → next_of i olds ≡ word_sum i.pc 4
unfolding next_of
next_sha i olds op = rw op refl

pub means_sha : (i : VmInstr) (olds : List (List ℕ)) (given : List ℕ) (b c : ℕ) → i.op ≡ 40 → word_at olds 0 ≡ b → word_at olds 1 ≡ c → b < 2 ^ 29 → c < 2 ^ 29 → length olds ≡ 26
    → means_of i olds given ≡ Some (record { accesses = accessed_by (new_at i olds given) (sha_places i b c) olds; next = word_sum i.pc 4 })
unfolding means_of
means_sha i olds given b c op eb ec lb lc long =
    let places = places_are i (word_at olds 0) (word_at olds 1) op in
    rw (not_refused i olds op (omega (arith, eb, lb)) (omega (arith, ec, lc)), places, long, next_sha i olds op, eb, ec) refl

-- what is written

pub keeps : (i : VmInstr) (olds : List (List ℕ)) (given x : List ℕ) (slot : ℕ) → i.op ≡ 40 → slot < 18 → new_at i olds given slot x ≡ x
unfolding new_at
keeps i olds given x slot op low = rw (op, lt-leb 18 slot low) refl

pub writes : (i : VmInstr) (olds : List (List ℕ)) (given x : List ℕ) (slot : ℕ) → i.op ≡ 40 → 18 ≤ slot → new_at i olds given slot x ≡ limbs_of (slice_index (compressed olds) (slot - 18))
unfolding new_at
writes i olds given x slot op high = rw (op, le-leb 18 slot high) refl

-- the accesses of a meaning at two runs of words
pub accessed_both : (new : ℕ → List ℕ → List ℕ) (first b second c m a n : ℕ) (xs more : List (List ℕ)) → length xs ≡ n
    → accessed_by new (map (λ j. memory (first + j) (word_sum b (4 * j))) (range_with_len a n) ++ memory_from second c m) (xs ++ more)
    ≡ accessed_by new (map (λ j. memory (first + j) (word_sum b (4 * j))) (range_with_len a n)) xs ++ accessed_by new (memory_from second c m) more
unfolding accessed_by
accessed_both new first b second c m a n [] more long = rw (← long) refl
accessed_both new first b second c m a zero (x ∷ xs) more long = absurd (omega (arith, long))
accessed_both new first b second c m a (suc n) (x ∷ xs) more long =
    ap (λ (rest : List Accessed). record { slot = first + a; space = 2; pointer = word_sum b (4 * a); old = x; new = new (first + a) x } ∷ rest)
    (accessed_both new first b second c m (a + 1) n xs more (omega (arith, long)))
