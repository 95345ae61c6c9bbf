-- Bytes that are put over a part of others.
use Rattle.std.proofs.Common.{◌≡◌, ℕ, ◌+◌, ◌-◌, ◌≤◌, List, ◌++◌, length, take, drop, sym, ap, ◌∙◌, arith, length-append, length-take, length-drop}
use Rattle.std.proofs.Math.Seq.{take-append-add}
use Rattle.std.proofs.lemmas.List.{take-append-le}
use borrow.Rule.Slice.PartMut.{put_mid}

pub part_put : (at count : ℕ) (xs ys : List ℕ) → at ≤ length xs → length ys ≡ length xs - at → count ≤ length ys
    → (take at xs ++ take count ys ≡ take (at + count) (put_mid at (length xs - at) xs ys)) × (length (put_mid at (length xs - at) xs ys) ≡ length xs)
part_put at count xs ys le n fits =
    let left : List ℕ = drop (length xs - at) (drop at xs) in
    let front : length (take at xs) ≡ at = omega (arith, length-take at xs) in (
      sym (ap (λ k. take (k + count) (take at xs ++ (ys ++ left))) (sym front) ∙ take-append-add (take at xs) (ys ++ left) count ∙ ap (λ zs. take at xs ++ zs) (take-append-le count ys left fits)),
      omega (arith, length-append (take at xs) (ys ++ left), length-append ys left, length-drop (length xs - at) (drop at xs), length-drop at xs, length-take at xs),
    )
