-- What a load means.
use Rattle.std.proofs.Common.{◌≡◌, ℕ, ◌+◌, ◌%◌, ◌^◌, ◌<◌, Bool, true, false, List, [], ◌∷◌, length, Some, refl, ap, arith}
use Rattle.std.specs.Prelude.{if◌then◌else◌}
use Rattle.std.proofs.lemmas.Bool.Decides.{nat_tests}
use Rattle.vm_word.specs.Word.{word_of_limbs, limbs_of}
use Rattle.vm_word.specs.Arithmetic.{word_sum}
use Rattle.vm_isa.specs.declared.instr.VmInstr.{VmInstr}
use Rattle.vm_isa.specs.Instr.{bit_of}
use Rattle.vm_isa.specs.Means.{address, block_address, in_block, bars_first, bars_second, means_of, memory, new_at, next_of, places_by, places_of, register, word_at}
use Rattle.vm_isa.specs.Opcodes.{is_load, is_store}
use Rattle.vm_isa.specs.Results.{width_of, extended, number_in}
use Rattle.adapter_mem.specs.MemoryLaws.{IsMemory}
use Rattle.adapter_mem.proofs.AddressLemmas.{Apart, apart, fits}
use Rattle.adapter_mem.proofs.ReadSteps.{read_meaning, reads_mean, third_count}

pub apart_load : (op : ℕ) → is_load op ≡ true → Apart op
apart_load op h = apart op (rw h refl)

no_store : (op : ℕ) → is_load op ≡ true → is_store op ≡ false
no_store op h = grind (arith, nat_tests)

-- ---- the meaning, where rd is written or not

places_by_write : (w : Bool) (i : VmInstr) (olds : List (List ℕ)) → is_load i.op ≡ true → i.write ≡ w
    → places_of i olds ≡ register 0 i.rs1 ∷ memory 1 (block_address i (word_at olds 0)) ∷ (if w then register 2 i.rd ∷ [] else [])
unfolding places_by
places_by_write true i olds h w = let n = apart_load i.op h in rw (n.register, h, w) refl
places_by_write false i olds h w = let n = apart_load i.op h in rw (n.register, h, w) refl

places : (i : VmInstr) (olds : List (List ℕ)) → is_load i.op ≡ true → places_of i olds ≡ register 0 i.rs1 ∷ memory 1 (block_address i (word_at olds 0)) ∷ (if i.write then register 2 i.rd ∷ [] else [])
places i olds h = places_by_write i.write i olds h refl

pub many_places : (i : VmInstr) (olds : List (List ℕ)) → is_load i.op ≡ true → length (places_of i olds) ≡ 2 + bit_of i.write
many_places i olds h = omega (arith, ap length (places i olds h), third_count i.write i.rd)

pub is_memory : (i : VmInstr) → is_load i.op ≡ true → IsMemory i
unfolding bars_first bars_second
is_memory i h =
    let n = apart_load i.op h in
    record { meant = n.meant; bars = λ b. rw h refl; second = λ c. rw n.sha refl; accesses = λ olds. omega (arith, many_places i olds h) }

kept : (i : VmInstr) (olds : List (List ℕ)) (given o : List ℕ) → is_load i.op ≡ true → (new_at i olds given 0 o ≡ o) × (new_at i olds given 1 o ≡ o)
unfolding new_at
kept i olds given o h =
    let n = apart_load i.op h in
    (rw (n.register, h, no_store i.op h, n.jal, n.lui, n.jalr, n.auipc, n.hint, n.reveal, n.sha) refl, rw (n.register, h, no_store i.op h, n.jal, n.lui, n.jalr, n.auipc, n.hint, n.reveal, n.sha) refl)

-- the word that is written
abbrev pub loaded : VmInstr → List ℕ → List ℕ → List ℕ
loaded i b x = limbs_of (extended i.op (number_in x (in_block i (word_of_limbs b)) (width_of i.op)))

written : (i : VmInstr) (b x given o : List ℕ) (more : List (List ℕ)) → is_load i.op ≡ true → new_at i (b ∷ x ∷ more) given 2 o ≡ loaded i b x
unfolding new_at word_at
written i b x given o more h = let n = apart_load i.op h in rw (n.register, h) refl

goes_on : (i : VmInstr) (olds : List (List ℕ)) → is_load i.op ≡ true → next_of i olds ≡ word_sum i.pc 4
unfolding next_of
goes_on i olds h = let n = apart_load i.op h in rw (n.branch, n.jal, n.jalr) refl

pub load_means : (i : VmInstr) (b x given : List ℕ) (old : List (List ℕ)) → is_load i.op ≡ true → length old ≡ bit_of i.write → address i (word_of_limbs b) < 2 ^ 29 → address i (word_of_limbs b) % width_of i.op ≡ 0
    → means_of i (b ∷ x ∷ old) given ≡ Some (read_meaning i (block_address i (word_of_limbs b)) b x (loaded i b x) old)
unfolding word_at
load_means i b x given old h long low aligned =
    let olds : List (List ℕ) = b ∷ x ∷ old in
    reads_mean i (block_address i (word_of_limbs b)) b x (loaded i b x) given old long (fits i b (x ∷ old) (is_memory i h) low aligned) (places i olds h) (kept i olds given b h).0 (kept i olds given x h).1 (λ o. written i b x given o old h) (goes_on i olds h)
