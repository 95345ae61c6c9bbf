-- The places of a SHA block.
use Rattle.std.proofs.Common.{◌≡◌, ℕ, ◌+◌, ◌-◌, ◌*◌, ◌<◌, ◌≤◌, suc, nat_eq, ◌++◌, length, map, slice_get, Some, None, refl, ap, ◌∙◌, arith}
use Rattle.std.specs.List.{range_with_len}
use Rattle.std.proofs.Math.ListN.{get_or-append, length-append}
use Rattle.std.proofs.lemmas.List.{get_or-append_right}
use Rattle.std.proofs.lemmas.Option.{slice_get-get_or, slice_get_past}
use Rattle.std.proofs.lemmas.List.FromFn.{get_or-map-range_with_len, length-map-range_with_len}
use Rattle.vm_word.specs.Arithmetic.{word_sum}
use Rattle.vm_isa.specs.declared.instr.VmInstr.{VmInstr}
use Rattle.vm_isa.specs.declared.meaning.NextAccess.TheVariants.{At}
use Rattle.vm_isa.specs.Spaces.{MEMORY}
use Rattle.vm_isa.specs.Means.{at_place, in_places, memory, sha_places}

get-left : {X : Type 0} (f g : ℕ → X) (n m j : ℕ) → j < n
    → slice_get (map f (range_with_len 0 n) ++ map g (range_with_len 0 m)) j ≡ Some (f j)
get-left f g n m j h =
    let xs = map f (range_with_len 0 n) in
    let ys = map g (range_with_len 0 m) in
    let long : length xs ≡ n = length-map-range_with_len f 0 n in
    let total : length (xs ++ ys) ≡ length xs + length ys = length-append xs ys in
    slice_get-get_or (xs ++ ys) j (f j) (omega arith)
    ∙ ap Some (get_or-append xs ys (f j) j (omega arith) ∙ get_or-map-range_with_len f 0 n j j (f j) h (omega arith))

get-right : {X : Type 0} (f g : ℕ → X) (n m j : ℕ) → n ≤ j → j < n + m
    → slice_get (map f (range_with_len 0 n) ++ map g (range_with_len 0 m)) j ≡ Some (g (j - n))
get-right f g n m j low high =
    let xs = map f (range_with_len 0 n) in
    let ys = map g (range_with_len 0 m) in
    let long : length xs ≡ n = length-map-range_with_len f 0 n in
    let longer : length ys ≡ m = length-map-range_with_len g 0 m in
    let total : length (xs ++ ys) ≡ length xs + length ys = length-append xs ys in
    slice_get-get_or (xs ++ ys) j (g (j - n)) (omega arith)
    ∙ ap Some (get_or-append_right xs ys n j (g (j - n)) long low ∙ get_or-map-range_with_len g 0 m (j - n) (j - n) (g (j - n)) (omega arith) (omega arith))

pub sha-block : (i : VmInstr) (b c : ℕ) (j : ℕ) → j < 16
    → slice_get (sha_places i b c) (suc (suc j)) ≡ Some (memory (2 + j) (word_sum c (4 * j)))
sha-block i b c j h = get-left (λ k. memory (2 + k) (word_sum c (4 * k))) (λ k. memory (18 + k) (word_sum b (4 * k))) 16 8 j h

pub sha-state : (i : VmInstr) (b c : ℕ) (j : ℕ) → 16 ≤ j → j < 24
    → slice_get (sha_places i b c) (suc (suc j)) ≡ Some (memory (18 + (j - 16)) (word_sum b (4 * (j - 16))))
sha-state i b c j low high = get-right (λ k. memory (2 + k) (word_sum c (4 * k))) (λ k. memory (18 + k) (word_sum b (4 * k))) 16 8 j low high

pub in_sha-block : (i : VmInstr) (b c : ℕ) (k : ℕ) → 2 ≤ k → k < 18
    → in_places (sha_places i b c) k ≡ At k MEMORY (word_sum c (4 * (k - 2)))
in_sha-block i b c k low high =
    let at : k ≡ suc (suc (k - 2)) = omega arith in
    let back : 2 + (k - 2) ≡ k = omega arith in
    let is : slice_get (sha_places i b c) k ≡ Some (memory (2 + (k - 2)) (word_sum c (4 * (k - 2)))) =
    ap (λ n. slice_get (sha_places i b c) n) at ∙ sha-block i b c (k - 2) (omega arith) in
    rw (is, back) refl

pub in_sha-state : (i : VmInstr) (b c : ℕ) (k : ℕ) → 18 ≤ k → k < 26
    → in_places (sha_places i b c) k ≡ At k MEMORY (word_sum b (4 * (k - 18)))
in_sha-state i b c k low high =
    let at : k ≡ suc (suc (k - 2)) = omega arith in
    let off : k - 2 - 16 ≡ k - 18 = omega arith in
    let back : 18 + (k - 18) ≡ k = omega arith in
    let is : slice_get (sha_places i b c) k ≡ Some (memory (18 + (k - 2 - 16)) (word_sum b (4 * (k - 2 - 16)))) =
    ap (λ n. slice_get (sha_places i b c) n) at ∙ sha-state i b c (k - 2) (omega arith) (omega arith) in
    rw (is, off, back) refl

pub in_sha-past : (i : VmInstr) (b c : ℕ) (k : ℕ) → 26 ≤ k → in_places (sha_places i b c) k ≡ at_place None (nat_eq k 26)
in_sha-past i b c k high =
    let long : length (sha_places i b c) ≡ 26 = refl in
    let is : slice_get (sha_places i b c) k ≡ None = slice_get_past (sha_places i b c) k (omega arith) in
    rw is refl
