-- Xor, or and and of bytes, and of words by their bytes.
use Rattle.std.proofs.Common.{◌≡◌, ℕ, zero, suc, ◌+◌, ◌*◌, ◌^◌, ◌<◌, Bool, true, eqb, ◌&&◌, [], ◌∷◌, refl, sym, ap, ◌∙◌, subst, ⊎_elim, arith, bit_xor, bit_or, bit_and}
use Rattle.std.proofs.lemmas.Bool.{and_parts, eqb-true, cases_eq}
use Rattle.std.proofs.lemmas.Nat.{xor_block, or_block, and_block}
use Rattle.vm_word.specs.Word.{word_of_limbs}
use Rattle.gadget_limbs.specs.Number.{number_of}
use Rattle.gadget_limbs.proofs.LimbsLaws.{number_is_word}

-- the two identities at a pair of bytes
same_at : ℕ → ℕ → Bool
same_at x y = eqb (x + y) (bit_xor x y + 2 * bit_and x y) && eqb (bit_or x y) (bit_xor x y + bit_and x y)

each_right : ℕ → ℕ → Bool
each_right x zero = true
each_right x (suc n) = same_at x n && each_right x n

each_left : ℕ → Bool
each_left zero = true
each_left (suc n) = each_right n 256 && each_left n

-- by a table of 65,536 pairs
each_all : each_left 256 ≡ true
unfolding each_left each_right same_at
each_all = refl

right_at : (x n y : ℕ) → each_right x n ≡ true → y < n → same_at x y ≡ true
unfolding each_right
right_at x zero y h low = absurd (omega arith)
right_at x (suc n) y h low =
    let parts = and_parts (same_at x n) (each_right x n) h in
    ⊎_elim
    (λ (here : y ≡ n). subst (λ k. same_at x k ≡ true) (sym here) parts.0)
    (λ (other : y ≡ n → ⊥). right_at x n y parts.1 (omega arith))
    (cases_eq y n)

left_at : (n x : ℕ) → each_left n ≡ true → x < n → each_right x 256 ≡ true
unfolding each_left
left_at zero x h low = absurd (omega arith)
left_at (suc n) x h low =
    let parts = and_parts (each_right n 256) (each_left n) h in
    ⊎_elim
    (λ (here : x ≡ n). subst (λ k. each_right k 256 ≡ true) (sym here) parts.0)
    (λ (other : x ≡ n → ⊥). left_at n x parts.1 (omega arith))
    (cases_eq x n)

-- of bytes: x + y is the xor and twice the and, and the or is the xor and the and
pub byte_bits : (x y : ℕ) → x < 256 → y < 256 → (x + y ≡ bit_xor x y + 2 * bit_and x y) × (bit_or x y ≡ bit_xor x y + bit_and x y)
unfolding same_at
byte_bits x y p q =
    let parts = and_parts _ _ (right_at x 256 y (left_at 256 x each_all p) q) in
    (eqb-true _ _ parts.0, eqb-true _ _ parts.1)

-- a function of two numbers that works on the lowest byte and on the rest apart
abbrev ByBytes : (ℕ → ℕ → ℕ) → Type 0
ByBytes f = (x y m n : ℕ) → x < 256 → y < 256 → f (x + 256 * m) (y + 256 * n) ≡ f x y + 256 * f m n

flip : (x m : ℕ) → x + 256 * m ≡ m * 2 ^ 8 + x
flip x m = omega arith

xor_by_bytes : ByBytes bit_xor
xor_by_bytes x y m n p q = rw (flip x m, flip y n) (xor_block 8 m n x y p q ∙ omega arith)

or_by_bytes : ByBytes bit_or
or_by_bytes x y m n p q = rw (flip x m, flip y n) (or_block 8 m n x y p q ∙ omega arith)

and_by_bytes : ByBytes bit_and
and_by_bytes x y m n p q = rw (flip x m, flip y n) (and_block 8 m n x y p q ∙ omega arith)

word_by_bytes : (f : ℕ → ℕ → ℕ) → ByBytes f → f 0 0 ≡ 0 → (a b c d e g h i : ℕ) → a < 256 → b < 256 → c < 256 → d < 256 → e < 256 → g < 256 → h < 256 → i < 256
    → f (number_of (a ∷ b ∷ c ∷ d ∷ [])) (number_of (e ∷ g ∷ h ∷ i ∷ [])) ≡ number_of (f a e ∷ f b g ∷ f c h ∷ f d i ∷ [])
word_by_bytes f each none a b c d e g h i pa pb pc pd pe pg ph pi =
    each a e _ _ pa pe
    ∙ ap (λ x. f a e + 256 * x) (each b g _ _ pb pg
    ∙ ap (λ x. f b g + 256 * x) (each c h _ _ pc ph
    ∙ ap (λ x. f c h + 256 * x) (each d i 0 0 pd pi ∙ ap (λ x. f d i + 256 * x) none)))

-- of four bytes and four bytes, as words
abbrev pub WordByBytes : (ℕ → ℕ → ℕ) → Type 0
WordByBytes f = (a b c d e g h i : ℕ) → a < 256 → b < 256 → c < 256 → d < 256 → e < 256 → g < 256 → h < 256 → i < 256
    → f (word_of_limbs (a ∷ b ∷ c ∷ d ∷ [])) (word_of_limbs (e ∷ g ∷ h ∷ i ∷ [])) ≡ word_of_limbs (f a e ∷ f b g ∷ f c h ∷ f d i ∷ [])

as_words : (f : ℕ → ℕ → ℕ) → ByBytes f → f 0 0 ≡ 0 → WordByBytes f
as_words f each none a b c d e g h i pa pb pc pd pe pg ph pi =
    ap (λ (x : ℕ). f x (word_of_limbs (e ∷ g ∷ h ∷ i ∷ []))) (sym (number_is_word a b c d))
    ∙ ap (λ (x : ℕ). f (number_of (a ∷ b ∷ c ∷ d ∷ [])) x) (sym (number_is_word e g h i))
    ∙ word_by_bytes f each none a b c d e g h i pa pb pc pd pe pg ph pi
    ∙ number_is_word (f a e) (f b g) (f c h) (f d i)

pub xor_word : WordByBytes bit_xor
xor_word = as_words bit_xor xor_by_bytes refl

pub or_word : WordByBytes bit_or
or_word = as_words bit_or or_by_bytes refl

pub and_word : WordByBytes bit_and
and_word = as_words bit_and and_by_bytes refl
