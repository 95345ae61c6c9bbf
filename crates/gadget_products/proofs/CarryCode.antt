-- How carries go on from a limb to the next.
use Rattle.std.proofs.Common.{◌≡◌, ℕ, suc, ◌+◌, ◌<◌, ◌≤◌, List, [], ◌∷◌, ◌++◌, length, get_or, take, drop, set, refl, sym, ap, ◌∙◌, add-one, drop-cons}
use Rattle.std.proofs.lemmas.List.{take_more_set, take_all, append_assoc}
use Rattle.std.proofs.Math.ListN.{drop_of_length-le}
use Rattle.gadget_products.specs.Carry.{carry_out, carries}
use Rattle.air_core.specs.Ring.{field}

drop_read : (xs : List ℕ) (i x : ℕ) → i < length xs → x ≡ get_or xs i x → drop i xs ≡ x ∷ drop (i + 1) xs
drop_read xs i x h e = drop-cons xs i x h ∙ (ap (λ y. y ∷ drop (suc i) xs) (sym e) ∙ ap (λ n. x ∷ drop n xs) (sym (add-one i)))

carries_step : (k : ℕ) (ss qs : List ℕ) (i s q : ℕ) → i < length ss → i < length qs → s ≡ get_or ss i s → q ≡ get_or qs i q
    → (carries field) k (drop i ss) (drop i qs) ≡ (carry_out field) s k q ∷ (carries field) ((carry_out field) s k q) (drop (i + 1) ss) (drop (i + 1) qs)
unfolding carries
carries_step k ss qs i s q p r e f = rw (drop_read ss i s p e, drop_read qs i q r f) refl

-- one more is written
pub carries_more : (whole all ss qs : List ℕ) (k i s q : ℕ) → i < length all → i < length ss → i < length qs → s ≡ get_or ss i s → q ≡ get_or qs i q
    → whole ≡ take i all ++ (carries field) k (drop i ss) (drop i qs)
    → whole ≡ take (i + 1) (set all i ((carry_out field) s k q)) ++ (carries field) ((carry_out field) s k q) (drop (i + 1) ss) (drop (i + 1) qs)
carries_more whole all ss qs k i s q a p r e f h =
    h ∙ ap (λ xs. take i all ++ xs) (carries_step k ss qs i s q p r e f)
    ∙ sym (append_assoc (take i all) ((carry_out field) s k q ∷ []) ((carries field) ((carry_out field) s k q) (drop (i + 1) ss) (drop (i + 1) qs)))
    ∙ ap (λ xs. xs ++ (carries field) ((carry_out field) s k q) (drop (i + 1) ss) (drop (i + 1) qs)) (sym (take_more_set all i ((carry_out field) s k q) a))

-- the carry is the one that was computed
pub carries_written : (whole all ss qs : List ℕ) (k i s q out : ℕ) → out ≡ (carry_out field) (get_or ss i s) k (get_or qs i q) → i < length all → i < length ss → i < length qs → s ≡ get_or ss i s → q ≡ get_or qs i q
    → whole ≡ take i all ++ (carries field) k (drop i ss) (drop i qs)
    → whole ≡ take (i + 1) (set all i out) ++ (carries field) out (drop (i + 1) ss) (drop (i + 1) qs)
carries_written whole all ss qs k i s q out is a p r e f h =
    let read : out ≡ (carry_out field) s k q = is ∙ ap (λ x. (carry_out field) x k (get_or qs i q)) (sym e) ∙ ap (λ y. (carry_out field) s k y) (sym f) in
    rw read (carries_more whole all ss qs k i s q a p r e f h)

append_none : (xs : List ℕ) → xs ++ [] ≡ xs
append_none [] = refl
append_none (x ∷ xs) = ap (λ ys. x ∷ ys) (append_none xs)

-- all are written
pub carries_all : (whole all ss qs : List ℕ) (k i : ℕ) → length all ≤ i → length ss ≤ i → whole ≡ take i all ++ (carries field) k (drop i ss) (drop i qs) → all ≡ whole
unfolding carries
carries_all whole all ss qs k i a p h = sym (h ∙ rw (take_all i all a, drop_of_length-le ss p) (append_none all))
