-- The sample program. It draws 2,000 numbers, each from the one before by a linear congruential generator (x * 1664525 +
-- 1013904223, of Numerical Recipes, section 7.1), and begins with a given one. Each is xored into one of 64 words at 0x2000,
-- and its upper half divides that word. It makes public the last number, the last word, and how often the quotient was
-- below its divisor.
use Rattle.std.specs.Prelude.{◌≡◌, ℕ, ◌-◌, ◌%◌, ◌^◌, ◌<◌, List, [], ◌∷◌, ◌++◌, map, All, Some}
use Rattle.vm_word.specs.Arithmetic.{sign_extended, word_difference}
use Rattle.vm_word.specs.declared.operation.AluOp.TheVariants.{Add, Xor, And, Srl, Sltu}
use Rattle.vm_word.specs.declared.operation.MulDivOp.TheVariants.{Mul, Divu}
use Rattle.vm_word.specs.declared.operation.LoadKind.TheVariants.{Lw}
use Rattle.vm_word.specs.declared.operation.StoreKind.TheVariants.{Sw}
use Rattle.vm_word.specs.declared.operation.BranchKind.TheVariants.{Bne}
use Rattle.rv_decode.specs.declared.instr.Instr.{Instr}
use Rattle.rv_decode.specs.declared.instr.Instr.TheVariants.{Lui, Branch, Load, Store, AluImm, Alu, MulDiv, Terminate, Reveal}
use Rattle.rv_decode.specs.Listing.{decode_of}
use Rattle.vm_vectors.specs.Words.{lui_word, addi_word, andi_word, srli_word, add_word, xor_word, sltu_word, mul_word, divu_word, lw_word, sw_word, bne_word, reveal_word, terminate_word}

-- the low twelve bits of a number, sign-extended: what ADDI adds to the rest
abbrev pub low_part : ℕ → ℕ
low_part number = sign_extended 12 (number % 2 ^ 12)

-- x5 is the number, x6 the factor, x7 the summand, x8 the address of the words, x9 how many rounds are left
abbrev pub sample_setup : ℕ → List Instr
sample_setup number =
    Lui 5 (word_difference number (low_part number))
    ∷ AluImm Add 5 5 (low_part number)
    ∷ Lui 6 0x196000
    ∷ AluImm Add 6 6 0x60d
    ∷ Lui 7 0x3c6ef000
    ∷ AluImm Add 7 7 0x35f
    ∷ Lui 8 0x2000
    ∷ AluImm Add 9 0 2000
    ∷ []

-- one round; x10 is the address of its word, x11 the word, x15 counts
abbrev pub sample_round : List Instr
sample_round =
    MulDiv Mul 5 5 6
    ∷ Alu Add 5 5 7
    ∷ AluImm And 10 5 252
    ∷ Alu Add 10 10 8
    ∷ Load Lw 11 10 0
    ∷ Alu Xor 11 11 5
    ∷ Store Sw 10 11 0
    ∷ AluImm Srl 12 5 16
    ∷ MulDiv Divu 13 11 12
    ∷ Alu Sltu 14 13 12
    ∷ Alu Add 15 15 14
    ∷ AluImm Add 9 9 (2 ^ 32 - 1)
    ∷ Branch Bne 9 0 (2 ^ 32 - 48)
    ∷ []

abbrev pub sample_end : List Instr
sample_end = Reveal 0 5 0 ∷ Reveal 0 11 4 ∷ Reveal 0 15 8 ∷ Terminate 0 ∷ []

abbrev pub sample_of : ℕ → List Instr
sample_of number = sample_setup number ++ (sample_round ++ sample_end)

-- ---- its words

abbrev pub sample_setup_text : ℕ → List ℕ
sample_setup_text number =
    lui_word 5 (word_difference number (low_part number))
    ∷ addi_word 5 5 (low_part number)
    ∷ lui_word 6 0x196000
    ∷ addi_word 6 6 0x60d
    ∷ lui_word 7 0x3c6ef000
    ∷ addi_word 7 7 0x35f
    ∷ lui_word 8 0x2000
    ∷ addi_word 9 0 2000
    ∷ []

abbrev pub sample_round_text : List ℕ
sample_round_text =
    mul_word 5 5 6
    ∷ add_word 5 5 7
    ∷ andi_word 10 5 252
    ∷ add_word 10 10 8
    ∷ lw_word 11 10 0
    ∷ xor_word 11 11 5
    ∷ sw_word 10 11 0
    ∷ srli_word 12 5 16
    ∷ divu_word 13 11 12
    ∷ sltu_word 14 13 12
    ∷ add_word 15 15 14
    ∷ addi_word 9 9 (2 ^ 32 - 1)
    ∷ bne_word 9 0 (2 ^ 32 - 48)
    ∷ []

abbrev pub sample_end_text : List ℕ
sample_end_text = reveal_word 0 5 0 ∷ reveal_word 0 11 4 ∷ reveal_word 0 15 8 ∷ terminate_word 0 ∷ []

unfoldable pub sample_text : ℕ → List ℕ
sample_text number = sample_setup_text number ++ (sample_round_text ++ sample_end_text)

-- where they stand
abbrev pub sample_base : ℕ
sample_base = 0x1000

-- words that decode to these instructions, one after another
pub record AreWordsOf (instrs : List Instr) (words : List ℕ) : Type 0 where
  pub are_words : All (λ word. word < 2 ^ 32) words
  pub decoded : map decode_of words ≡ map Some instrs
