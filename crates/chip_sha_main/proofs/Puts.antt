-- Parts of equal length written one behind the other.
use Rattle.std.proofs.Common.{◌≡◌, ℕ, ◌+◌, ◌≤◌, List, [], ◌++◌, flat_map, get_or, length, map, take, drop, refl, sym, ap, ◌∙◌, arith, append_assoc}
use Rattle.std.specs.List.{range_with_len}
use Rattle.std.proofs.lemmas.List.{length-take-le, length-drop, get_or-take, get_or-drop}
use Rattle.std.proofs.lemmas.List.FromFn.{fill_by_all}
use Rattle.std.proofs.lemmas.List.Folds.{flat_map-map}
use Rattle.std.proofs.lemmas.Option.{unwrap_or-slice_get}
use Rattle.vm_isa.specs.declared.access.TimedAccess.{TimedAccess}
use Rattle.gadget_time.specs.Access.{access_at}
use Rattle.chip_sha_main.proofs.Loops.{flat_more}

-- one part more
pub put_more : (at here next i : ℕ) (row new start columns : List ℕ) (G : ℕ → List ℕ) → take (here + length columns) new ≡ take here row ++ columns → here + length columns ≡ next → columns ≡ G i
    → take here row ≡ take at start ++ flat_map G (range_with_len 0 i) → take next new ≡ take at start ++ flat_map G (range_with_len 0 (i + 1))
put_more at here next i row new start columns G put place is before =
    ap (λ (k : ℕ). take k new) (sym place) ∙ put ∙ (λ k. before k ++ is k) ∙ append_assoc (take at start) (flat_map G (range_with_len 0 i)) (G i)
    ∙ ap (λ (ys : List ℕ). take at start ++ ys) (sym (flat_more G 0 i i (omega arith)))

-- a part of a list, by its places
pub part_by : {X : Type 0} (xs : List X) (from n : ℕ) (d : X) → from + n ≤ length xs → take n (drop from xs) ≡ map (λ i. get_or xs (from + i) d) (range_with_len 0 n)
part_by xs from n d few =
    fill_by_all (λ i. get_or xs (from + i) d) (take n (drop from xs)) n d (length-take-le n (drop from xs) (omega (arith, length-drop from xs)))
    (λ k lt. get_or-take n (drop from xs) k d lt ∙ get_or-drop from xs k d)

-- the columns of a part of a list
pub columns_by : {X : Type 0} (write : X → List ℕ) (xs : List X) (from n : ℕ) (d : X) → from + n ≤ length xs → flat_map (λ i. write (get_or xs (from + i) d)) (range_with_len 0 n) ≡ flat_map write (take n (drop from xs))
columns_by write xs from n d few = sym (ap (flat_map write) (part_by xs from n d few) ∙ flat_map-map write (λ i. get_or xs (from + i) d) (range_with_len 0 n))

-- and of a whole one
pub columns_whole : {X : Type 0} (write : X → List ℕ) (xs : List X) (n : ℕ) (d : X) → length xs ≡ n → flat_map (λ i. write (get_or xs i d)) (range_with_len 0 n) ≡ flat_map write xs
columns_whole write xs n d long = sym (ap (flat_map write) (fill_by_all (λ i. get_or xs i d) xs n d long (λ k lt. refl)) ∙ flat_map-map write (λ i. get_or xs i d) (range_with_len 0 n))

pub access_is : (xs : List TimedAccess) (i : ℕ) → access_at xs i ≡ get_or xs i (access_at [] 0)
access_is xs i = unwrap_or-slice_get xs i (access_at [] 0)
