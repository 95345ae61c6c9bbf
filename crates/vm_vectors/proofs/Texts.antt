-- The words of a text.
use Rattle.std.proofs.Common.{◌≡◌, ℕ, zero, suc, ◌+◌, ◌*◌, ◌<◌, ◌≤◌, ◌^◌, List, [], ◌∷◌, ◌++◌, length, get_or, take, drop, refl, ap, ◌∙◌, arith, add-one, append_assoc}
use Rattle.std.proofs.Math.Seq.{take-suc}
use Rattle.byteorder.specs.Endian.{little_bytes, little_number}
use Rattle.byteorder.specs.Numbers.{little_number-reads_back}
use Rattle.vm_vectors.specs.ElfFile.{text_bytes, text_from}

pub text_bytes-append : (xs ys : List ℕ) → text_bytes (xs ++ ys) ≡ text_bytes xs ++ text_bytes ys
text_bytes-append [] ys = refl
text_bytes-append (x ∷ xs) ys = ap (λ rest. little_bytes 4 x ++ rest) (text_bytes-append xs ys)

pub length-text_bytes : (words : List ℕ) → length (text_bytes words) ≡ 4 * length words
length-text_bytes [] = refl
length-text_bytes (x ∷ xs) = omega (arith, length-text_bytes xs)

-- the bytes from a word on
pub drop-text_bytes : (words : List ℕ) (k : ℕ) → k ≤ length words → drop (4 * k) (text_bytes words) ≡ text_bytes (drop k words)
drop-text_bytes words zero h = refl
drop-text_bytes [] (suc k) h = absurd (omega arith)
drop-text_bytes (x ∷ xs) (suc k) h =
    let four : 4 * suc k ≡ suc (suc (suc (suc (4 * k)))) = omega arith in
    rw four (drop-text_bytes xs k (omega arith))

pub word_in_text : (words : List ℕ) (k : ℕ) → k < length words → ((i : ℕ) → i < length words → get_or words i 0 < 2 ^ 32) → little_number 4 (drop (4 * k) (text_bytes words)) ≡ get_or words k 0
word_in_text [] k h fits = absurd (omega arith)
word_in_text (x ∷ xs) zero h fits = little_number-reads_back 4 x (text_bytes xs) (fits 0 (omega arith))
word_in_text (x ∷ xs) (suc k) h fits =
    let four : 4 * suc k ≡ suc (suc (suc (suc (4 * k)))) = omega arith in
    rw four (word_in_text xs k (omega arith) (λ i below. fits (suc i) (omega arith)))

pub text_from-push : (pc : ℕ) (words : List ℕ) (word : ℕ) → text_from pc (words ++ word ∷ []) ≡ text_from pc words ++ record { pc = pc + 4 * length words; word = word } ∷ []
text_from-push pc [] word = let here : pc ≡ pc + 4 * 0 = omega arith in rw (← here) refl
text_from-push pc (x ∷ xs) word =
    let next : pc + 4 + 4 * length xs ≡ pc + 4 * suc (length xs) = omega arith in
    let rest = rw next at (text_from-push (pc + 4) xs word) in
    ap (λ ys. record { pc = pc; word = x } ∷ ys) rest

pub length-text_from : (pc : ℕ) (words : List ℕ) → length (text_from pc words) ≡ length words
length-text_from pc [] = refl
length-text_from pc (x ∷ xs) = ap suc (length-text_from (pc + 4) xs)

-- the bytes of one word more
pub text_bytes-more : (words : List ℕ) (i : ℕ) → i < length words → text_bytes (take (i + 1) words) ≡ text_bytes (take i words) ++ little_bytes 4 (get_or words i 0)
text_bytes-more words i h =
    let more = take-suc words i 0 h in
    rw (add-one, more, text_bytes-append) refl

pub appended : (front text word old new : List ℕ) → new ≡ old ++ word → old ≡ front ++ text → new ≡ front ++ (text ++ word)
appended front text word old new pushed so_far = pushed ∙ ap (λ xs. xs ++ word) so_far ∙ append_assoc front text word
