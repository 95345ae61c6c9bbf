-- Lookups that are handed over one behind the other.
use Rattle.std.proofs.Common.{◌≡◌, ℕ, zero, suc, ◌<◌, List, [], ◌∷◌, ◌++◌, length, take, get_or, refl, sym, ap, arith}
use Rattle.air_core.specs.declared.event.Event.{Event}
use Rattle.air_core.specs.Ring.{field}
use Rattle.chip_jump.specs.declared.columns.Ranged.{Ranged}
use Rattle.chip_jump.specs.Link.{ranged_lines}

pub length-ranged : (count : ℕ) (xs : List (Ranged ℕ)) → length (ranged_lines field count xs) ≡ length xs
length-ranged count [] = refl
length-ranged count (x ∷ xs) = omega (arith, length-ranged count xs)

-- the lookups before one, it, and those behind it
pub split_at : (count : ℕ) (xs : List (Ranged ℕ)) (i : ℕ) (x : Ranged ℕ) → i < length xs → x ≡ get_or xs i x
    → (rest : List Event) × (ranged_lines field count xs ≡ ranged_lines field count (take i xs) ++ (ranged_lines field count (x ∷ []) ++ rest))
split_at count [] i x h is = absurd (omega arith)
split_at count (y ∷ xs) zero x h is = (ranged_lines field count xs, ap (λ (z : Ranged ℕ). ranged_lines field count (z ∷ xs)) (sym is))
split_at count (y ∷ xs) (suc i) x h is = let s = split_at count xs i x (omega arith) is in (s.0, ap (λ (es : List Event). ranged_lines field count (y ∷ []) ++ es) s.1)
