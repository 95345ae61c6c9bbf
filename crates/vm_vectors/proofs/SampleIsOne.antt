-- The sample program has no other words.
use Rattle.std.proofs.Common.{◌≡◌, ◌≢◌, ℕ, suc, Bool, true, false, not, ◌&&◌, List, [], ◌∷◌, refl, sym, ap, ◌∙◌, arith}
use Rattle.std.proofs.lemmas.Bool.{and_parts}
use Rattle.rv_decode.specs.declared.instr.Instr.{Instr}
use Rattle.rv_decode.specs.declared.instr.Instr.TheVariants.{Fence}
use Rattle.vm_vectors.specs.Laws.{SampleIsOne}
use Rattle.vm_vectors.specs.Sample.{AreWordsOf, sample_of, sample_text}
use Rattle.vm_vectors.proofs.OneWord.{one_word}
use Rattle.vm_vectors.proofs.SampleWords.{sample_text_is_the_sample}

abbrev is_fence : Instr → Bool
is_fence Fence = true
is_fence _ = false

abbrev has_no_fence : List Instr → Bool
has_no_fence [] = true
has_no_fence (instr ∷ instrs) = not (is_fence instr) && has_no_fence instrs

no_fence : (instr : Instr) → not (is_fence instr) ≡ true → instr ≢ Fence
no_fence instr h is = let no : false ≡ true = ap (λ (i : Instr). not (is_fence i)) (sym is) ∙ h in absurd (cc)

words_are_one : (instrs : List Instr) (words others : List ℕ) → has_no_fence instrs ≡ true → AreWordsOf instrs words → AreWordsOf instrs others → words ≡ others
words_are_one [] [] [] free a b = refl
words_are_one [] (x ∷ xs) ys free a b = absurd (cc (a.decoded))
words_are_one [] [] (y ∷ ys) free a b = absurd (cc (b.decoded))
words_are_one (instr ∷ instrs) [] ys free a b = absurd (cc (a.decoded))
words_are_one (instr ∷ instrs) (x ∷ xs) [] free a b = absurd (cc (b.decoded))
words_are_one (instr ∷ instrs) (x ∷ xs) (y ∷ ys) free a b =
    let parts = and_parts (not (is_fence instr)) (has_no_fence instrs) free in
    let first : x ≡ y = one_word x y instr (a.are_words 0 0 (omega arith)) (b.are_words 0 0 (omega arith)) (cc (a.decoded)) (cc (b.decoded)) (no_fence instr parts.0) in
    let rest : xs ≡ ys =
    words_are_one instrs xs ys parts.1
    (record { are_words = λ k d h. a.are_words (suc k) d (omega arith); decoded = cc (a.decoded) })
    (record { are_words = λ k d h. b.are_words (suc k) d (omega arith); decoded = cc (b.decoded) }) in
    cc

pub sample_is_one : SampleIsOne
sample_is_one number words are = words_are_one (sample_of number) words (sample_text number) refl are (sample_text_is_the_sample number)
