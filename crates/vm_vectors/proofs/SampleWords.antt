-- The words of the sample program decode to its instructions.
use Rattle.std.proofs.Common.{◌≡◌, ℕ, ◌%◌, ◌^◌, ◌<◌, nat_lt, true, List, ◌∷◌, drop, Some, refl, lit<, arith}
use Rattle.std.specs.List.{All, list_all}
use Rattle.std.proofs.lemmas.Bool.Decides.{nat_tests}
use Rattle.std.proofs.lemmas.List.Elements.{All-cons, All-weaker}
use Rattle.std.proofs.lemmas.List.Sums.{AllPass-from_list_all}
use Rattle.vm_word.specs.Arithmetic.{word_difference}
use Rattle.vm_word.specs.declared.operation.AluOp.TheVariants.{Add}
use Rattle.rv_decode.specs.declared.instr.Instr.{Instr}
use Rattle.rv_decode.specs.declared.instr.Instr.TheVariants.{Lui, AluImm}
use Rattle.rv_decode.specs.Listing.{listing, decode_of}
use Rattle.vm_vectors.specs.Laws.{SampleTextIsTheSample}
use Rattle.vm_vectors.specs.Makers.{IsSignExtended}
use Rattle.vm_vectors.specs.Sample.{AreWordsOf, low_part, sample_of, sample_text}
use Rattle.vm_vectors.specs.Words.{lui_word, addi_word}
use Rattle.vm_vectors.proofs.InstrWords.{lui_decodes, addi_decodes}
use Rattle.vm_vectors.proofs.WordFields.{i_fits, i_decodes, u_fits, u_decodes}

one_word : (instr : Instr) (instrs : List Instr) (word : ℕ) (words : List ℕ) → word < 2 ^ 32 → decode_of word ≡ Some instr → AreWordsOf instrs words → AreWordsOf (instr ∷ instrs) (word ∷ words)
one_word instr instrs word words fits decodes rest = record {
  are_words = All-cons (λ word. word < 2 ^ 32) word words fits rest.are_words;
  decoded = cc (rest.decoded);
}

all_fit : (words : List ℕ) → list_all (λ word. nat_lt word (2 ^ 32)) words ≡ true → All (λ word. word < 2 ^ 32) words
all_fit words tested =
    let below : (word : ℕ) → nat_lt word (2 ^ 32) ≡ true → word < 2 ^ 32 = λ word test. grind (arith, nat_tests) in
    All-weaker _ _ below words (AllPass-from_list_all _ words tested)

-- the words that are the same for each number
fixed_words : AreWordsOf (drop 2 (sample_of 0)) (drop 2 (sample_text 0))
unfolding listing sample_text
fixed_words = record { are_words = all_fit (drop 2 (sample_text 0)) refl; decoded = refl }

-- the two that set x5 to the number
module _ (number : ℕ) where
  abbrev high_part : ℕ
  high_part = word_difference number (low_part number)

  high_is_high : high_part % 2 ^ 12 ≡ 0
  high_is_high = grind (arith, nat_tests)

  lui_is : decode_of (lui_word 5 high_part) ≡ Some (Lui 5 high_part)
  lui_is = lui_decodes _ 5 high_part (u_decodes 0x37 5 high_part (lit< tt) (lit< tt) (omega arith) high_is_high)

  low_is_extended : IsSignExtended 12 (low_part number)
  low_is_extended = grind arith

  addi_is : decode_of (addi_word 5 5 (low_part number)) ≡ Some (AluImm Add 5 5 (low_part number))
  addi_is = addi_decodes _ 5 5 (low_part number) (i_decodes 0x13 0 5 5 (low_part number) (lit< tt) (lit< tt) (lit< tt) (lit< tt) low_is_extended)

pub sample_text_is_the_sample : SampleTextIsTheSample
unfolding sample_text
sample_text_is_the_sample number =
    one_word _ _ (lui_word 5 (high_part number)) _ (u_fits 0x37 5 (high_part number) (lit< tt) (lit< tt)) (lui_is number)
    (one_word _ _ (addi_word 5 5 (low_part number)) _
    (i_fits 0x13 0 5 5 (low_part number) (lit< tt) (lit< tt) (lit< tt) (lit< tt)) (addi_is number) fixed_words)
