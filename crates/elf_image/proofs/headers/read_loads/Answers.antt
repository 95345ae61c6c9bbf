use Rattle.std.proofs.Common.{◌≡◌, ℕ, ◌+◌, Bool, true, false, List, [], ◌∷◌, ◌++◌, map, filter, rules, arith}
use Rattle.std.specs.List.{range_with_len}
use Rattle.std.proofs.lemmas.Grind.{common_steps}
use Rattle.std.proofs.lemmas.List.FromFn.{filter_of_map_range_with_len_more}
use Rattle.elf_image.specs.Elf.{header_at, is_load}
use Rattle.elf_image.proofs.headers.read_loads.Goals as goal
use Rattle.elf_image.proofs.headers.read_loads.Goals.{then-header-eq-PT_LOAD+in_ok-push, else-header-eq-PT_LOAD}

module _ {X : Type 0} (p : X → Bool) (f : ℕ → X) (n : ℕ) (xs : List X) (x : X) (so_far : xs ≡ filter p (map f (range_with_len 0 n))) (is : x ≡ f n) where
  passed : p x ≡ true → xs ++ x ∷ [] ≡ filter p (map f (range_with_len 0 (n + 1)))
  passed said = let k : p (f n) ≡ true = rw is at said in rw (filter_of_map_range_with_len_more p f 0 n n (omega arith), k, so_far, is)

  left_out : p x ≡ false → xs ≡ filter p (map f (range_with_len 0 (n + 1)))
  left_out said = let k : p (f n) ≡ false = rw is at said in rw (filter_of_map_range_with_len_more p f 0 n n (omega arith), k) (grind (arith, common_steps, so_far))

pub loop-place-preserved : goal.loop-place-preserved
loop-place-preserved c =
    let f = header_at c.args.bytes.now in
    let found : c.read_header-header.result ≡ f c.loop-place.place = grind (arith, common_steps) in
    elim c.if-header-eq-PT_LOAD.branch [
      | then-header-eq-PT_LOAD+in_ok-push w ↦ rw (w.loads-is) (rw w.in_ok-push.ensures.items (passed is_load f _ _ _ c.loop-place.invariant found (search rules)))
      | else-header-eq-PT_LOAD w ↦ rw (w.loads-is) (left_out is_load f _ _ _ c.loop-place.invariant found (search rules))
    ]
