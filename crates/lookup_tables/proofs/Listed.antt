-- A list of two or three elements, written out.
use Rattle.std.proofs.Common.{◌≡◌, ℕ, List, [], ◌∷◌, length, get_or, ap, ◌∙◌, arith}

pub two_listed : (xs : List ℕ) (a b : ℕ) → length xs ≡ 2 → a ≡ get_or xs 0 a → b ≡ get_or xs 1 b → a ∷ b ∷ [] ≡ xs
two_listed [] a b size p q = absurd (omega (arith, size))
two_listed (x ∷ []) a b size p q = absurd (omega (arith, size))
two_listed (x ∷ y ∷ []) a b size p q = ap (λ (t : ℕ). t ∷ b ∷ []) p ∙ ap (λ (t : ℕ). x ∷ t ∷ []) q
two_listed (x ∷ y ∷ z ∷ more) a b size p q = absurd (omega (arith, size))

pub three_listed : (xs : List ℕ) (a b c : ℕ) → length xs ≡ 3 → a ≡ get_or xs 0 a → b ≡ get_or xs 1 b → c ≡ get_or xs 2 c → a ∷ b ∷ c ∷ [] ≡ xs
three_listed [] a b c size p q r = absurd (omega (arith, size))
three_listed (x ∷ []) a b c size p q r = absurd (omega (arith, size))
three_listed (x ∷ y ∷ []) a b c size p q r = absurd (omega (arith, size))
three_listed (x ∷ y ∷ z ∷ []) a b c size p q r = ap (λ (t : ℕ). t ∷ b ∷ c ∷ []) p ∙ ap (λ (t : ℕ). x ∷ t ∷ c ∷ []) q ∙ ap (λ (t : ℕ). x ∷ y ∷ t ∷ []) r
three_listed (x ∷ y ∷ z ∷ w ∷ more) a b c size p q r = absurd (omega (arith, size))
