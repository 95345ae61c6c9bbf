-- Range lookups that are handed over one behind the other.
use Rattle.std.proofs.Common.{◌≡◌, ℕ, ◌+◌, ◌<◌, List, [], ◌∷◌, ◌++◌, length, take, drop, get_or, refl, sym, ap, ◌∙◌, arith, take-append-drop, append_assoc}
use Rattle.std.proofs.lemmas.List.{take_more, map-append}
use Rattle.air_core.specs.declared.event.Event.{Event}
use Rattle.air_core.specs.Ring.{field}
use Rattle.gadget_limbs.specs.Ranges.{range_lines}

pub ranges_split : (count bits : ℕ) (xs : List ℕ) (i x : ℕ) → i < length xs → x ≡ get_or xs i x
    → range_lines field count bits xs ≡ range_lines field count bits (take i xs) ++ (range_lines field count bits (x ∷ []) ++ range_lines field count bits (drop (i + 1) xs))
ranges_split count bits xs i x h is =
    ap (range_lines field count bits) (sym (take-append-drop (i + 1) xs) ∙ ap (λ (t : List ℕ). t ++ drop (i + 1) xs) (take_more xs i x h))
    ∙ map-append _ (take i xs ++ (get_or xs i x ∷ [])) (drop (i + 1) xs)
    ∙ ap (λ (t : List Event). t ++ range_lines field count bits (drop (i + 1) xs)) (map-append _ (take i xs) (get_or xs i x ∷ []))
    ∙ append_assoc (range_lines field count bits (take i xs)) (range_lines field count bits (get_or xs i x ∷ [])) (range_lines field count bits (drop (i + 1) xs))
    ∙ ap (λ (y : ℕ). range_lines field count bits (take i xs) ++ (range_lines field count bits (y ∷ []) ++ range_lines field count bits (drop (i + 1) xs))) (sym is)

pub length-ranges : (count bits : ℕ) (xs : List ℕ) → length (range_lines field count bits xs) ≡ length xs
length-ranges count bits [] = refl
length-ranges count bits (x ∷ xs) = omega (arith, length-ranges count bits xs)
