-- The first eight numbers of a short tuple.
use Rattle.std.proofs.Common.{◌≡◌, ℕ, ◌+◌, ◌-◌, ◌≤◌, List, ◌++◌, length, take, replicate, sym, ap, ◌∙◌, arith}
use Rattle.std.proofs.lemmas.List.{take-replicate}
use Rattle.std.proofs.Math.Seq.{take-append_seam, take-append-add}
use Rattle.air_core.specs.Padded.{padded}

-- are the tuple with zeros behind it
pub front_padded : (t : List ℕ) → length t ≤ 8 → take 8 (padded 50 t) ≡ padded 8 t
front_padded t h =
    let eight : 8 ≡ length t + (8 - length t) = omega (arith, h) in
    ap (λ (n : ℕ). take n (padded 50 t)) eight ∙ take-append-add t (replicate (50 - length t) 0) (8 - length t)
    ∙ ap (λ (z : List ℕ). t ++ z) (take-replicate (8 - length t) (50 - length t) 0 (omega arith))

pub front_again : (t front : List ℕ) → length t ≤ 8 → front ≡ take 8 (padded 50 t) → take (length t) front ≡ t
front_again t front h e = ap (take (length t)) (e ∙ front_padded t h) ∙ take-append_seam t (replicate (8 - length t) 0)

pub front_is_padded : (t front : List ℕ) → length t ≤ 8 → front ≡ take 8 (padded 50 t) → front ≡ padded 8 (take (length t) front)
front_is_padded t front h e = e ∙ front_padded t h ∙ ap (padded 8) (sym (front_again t front h e))
