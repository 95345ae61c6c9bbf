-- Where the words of a text stand in its image.
use Rattle.std.proofs.Common.{◌≡◌, ℕ, ◌+◌, ◌-◌, ◌*◌, ◌/◌, ◌%◌, ◌^◌, ◌<◌, ◌≤◌, ◌==◌, ◌&&◌, nat_lt, nat_le, Bool, true, false, if◌then◌else◌, List, length, get_or, drop, Some, None, refl, ap, arith}
use Rattle.std.proofs.lemmas.Bool.{and_parts}
use Rattle.std.proofs.lemmas.Bool.Decides.{nat_tests}
use Rattle.byteorder.specs.Endian.{little_number}
use Rattle.elf_image.specs.Loaded.{Load, gives, word_of}
use Rattle.vm_vectors.specs.ElfFile.{text_bytes, text_image}
use Rattle.vm_vectors.proofs.Texts.{length-text_bytes, word_in_text}

-- the word at a place
pub word_at_place : (base : ℕ) (words : List ℕ) (k : ℕ) → k < length words → base % 4 ≡ 0 → ((i : ℕ) → i < length words → get_or words i 0 < 2 ^ 32)
    → word_of (text_image base words) (base + 4 * k) ≡ Some (get_or words k 0)
word_at_place base words k low even fit =
    let load : Load = record { address = base; bytes = text_bytes words; size = 4 * length words; executable = true } in
    let aligned : ((base + 4 * k) % 4 == 0) ≡ true = grind (arith, nat_tests) in
    let long : length (text_bytes words) ≡ 4 * length words = length-text_bytes words in
    let first : gives load (base + 4 * k) ≡ true = rw long (grind (arith, nat_tests)) in
    let last : gives load (base + 4 * k + 3) ≡ true = rw long (grind (arith, nat_tests)) in
    let place : base + 4 * k - base ≡ 4 * k = omega arith in
    rw (aligned, first, last, place) (ap (λ (w : ℕ). Some w) (word_in_text words k low fit))

some_of : (aligned given : Bool) (here word : ℕ) → (if aligned then (if given then Some here else None) else None) ≡ Some word
    → (aligned ≡ true) × (given ≡ true)
some_of true true here word e = (refl, refl)
some_of true false here word e = absurd (cc)
some_of false given here word e = absurd (cc)

-- a text word of an image stands at a place
pub word_has_place : (base : ℕ) (words : List ℕ) (pc word : ℕ) → base % 4 ≡ 0 → word_of (text_image base words) pc ≡ Some word
    → (k : ℕ) × (k < length words) × (pc ≡ base + 4 * k)
word_has_place base words pc word even found =
    let load : Load = record { address = base; bytes = text_bytes words; size = 4 * length words; executable = true } in
    let tests = some_of (pc % 4 == 0) (gives load pc && gives load (pc + 3)) (little_number 4 (drop (pc - base) (text_bytes words))) word found in
    let aligned : pc % 4 ≡ 0 = grind (arith, nat_tests, tests.0) in
    let long : length (text_bytes words) ≡ 4 * length words = length-text_bytes words in
    let both = and_parts (gives load pc) (gives load (pc + 3)) tests.1 in
    let first = and_parts (nat_le base pc) (nat_lt pc (base + length (text_bytes words))) both.0 in
    let last = and_parts (nat_le base (pc + 3)) (nat_lt (pc + 3) (base + length (text_bytes words))) both.1 in
    let low : base ≤ pc = grind (arith, nat_tests, first.0) in
    let high : pc + 3 < base + 4 * length words = grind (arith, nat_tests, last.1, long) in
    ((pc - base) / 4, omega (arith, aligned, low, high, even), omega (arith, aligned, low, high, even))
