-- Lists of a known length.
use Rattle.std.proofs.Common.{◌≡◌, ℕ, ◌<◌, ◌≤◌, List, [], ◌∷◌, length, get_or, sym, arith}

-- five items are the list
pub five_items : {A : Type 0} (xs : List A) (a b c d e : A) → 5 ≤ length xs → length xs < 6
    → a ≡ get_or xs 0 a → b ≡ get_or xs 1 b → c ≡ get_or xs 2 c → d ≡ get_or xs 3 d → e ≡ get_or xs 4 e → a ∷ b ∷ c ∷ d ∷ e ∷ [] ≡ xs
five_items [] a b c d e least most h0 h1 h2 h3 h4 = absurd (omega (arith, least))
five_items (x ∷ []) a b c d e least most h0 h1 h2 h3 h4 = absurd (omega (arith, least))
five_items (x ∷ y ∷ []) a b c d e least most h0 h1 h2 h3 h4 = absurd (omega (arith, least))
five_items (x ∷ y ∷ z ∷ []) a b c d e least most h0 h1 h2 h3 h4 = absurd (omega (arith, least))
five_items (x ∷ y ∷ z ∷ v ∷ []) a b c d e least most h0 h1 h2 h3 h4 = absurd (omega (arith, least))
five_items (x ∷ y ∷ z ∷ v ∷ w ∷ []) a b c d e least most h0 h1 h2 h3 h4 = λ i. h0 i ∷ h1 i ∷ h2 i ∷ h3 i ∷ h4 i ∷ []
five_items (x ∷ y ∷ z ∷ v ∷ w ∷ u ∷ xs) a b c d e least most h0 h1 h2 h3 h4 = absurd (omega (arith, most))
