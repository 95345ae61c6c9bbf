use Rattle.std.proofs.Common.{◌≡◌, ℕ, List, [], ◌++◌, sym, ap, ◌∙◌, subst, append_assoc}
use Rattle.vm_vectors.specs.Sample.{AreWordsOf, sample_of, sample_text}
use Rattle.vm_vectors.proofs.SampleWords.{sample_text_is_the_sample}
use Rattle.vm_vectors.proofs.sample.sample_words.Goals as goal

three_parts : (xs ys zs none one two three : List ℕ) → none ≡ [] → one ≡ none ++ xs → two ≡ one ++ ys → three ≡ two ++ zs
    → three ≡ xs ++ (ys ++ zs)
three_parts xs ys zs none one two three start first second third =
    let begun : one ≡ xs = first ∙ ap (λ (front : List ℕ). front ++ xs) start in
    third ∙ ap (λ (front : List ℕ). front ++ zs) (second ∙ ap (λ (front : List ℕ). front ++ ys) begun) ∙ append_assoc xs ys zs

parts : (a b c x y z : List ℕ) → a ≡ x → b ≡ y → c ≡ z → a ++ (b ++ c) ≡ x ++ (y ++ z)
parts a b c x y z p q r = cc

pub returns-clause-text : goal.returns-clause-text
unfolding sample_text
returns-clause-text c =
    three_parts _ _ _ _ _ _ _ c.in_ok-words.ensures.items c.in_ok-extend_from_slice.ensures.items
    c.in_ok-extend_from_slice-2.ensures.items c.in_ok-extend_from_slice-3.ensures.items
    ∙ parts _ _ _ _ _ _ c.setup_words.ensures c.round_words.ensures c.end_words.ensures

pub returns-clause-words : goal.returns-clause-words
returns-clause-words c =
    subst (AreWordsOf (sample_of c.args.number)) (sym (returns-clause-text c)) (sample_text_is_the_sample c.args.number)
