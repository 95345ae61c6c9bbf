-- Counts that are 0 have no entry.
use Rattle.std.proofs.Common.{◌≡◌, ℕ, ◌+◌, true, nat_eq, List, [], ◌∷◌, ◌++◌, length, take, drop, append-nil, take-add, refl, ap, ◌∙◌}
use Rattle.std.specs.List.{AllByRecursion}
use Rattle.std.proofs.lemmas.Bool.{eq-eqb}
use Rattle.vm_trace.specs.declared.count.CountEntry.{CountEntry}
use Rattle.vm_filler.specs.Uses.{entries_from, entries_of}
use Rattle.vm_filler.proofs.PushLemmas.{entries_append}

unused_none : (least : ℕ) (xs : List ℕ) → AllByRecursion (λ n. n ≡ 0) xs → entries_from least xs ≡ []
unused_none least [] all = refl
unused_none least (n ∷ xs) all =
    let none : nat_eq n 0 ≡ true = eq-eqb n 0 all.0 in
    rw none (unused_none (least + 1) xs all.1)

-- a part of them is passed over
pub part_unused : (counts : List ℕ) (start size : ℕ) → AllByRecursion (λ n. n ≡ 0) (take size (drop start counts)) → entries_of (take (start + size) counts) ≡ entries_of (take start counts)
part_unused counts start size all =
    ap entries_of (take-add start size counts) ∙ entries_append 0 (take start counts) (take size (drop start counts))
    ∙ ap (λ (es : List CountEntry). entries_of (take start counts) ++ es) (unused_none (0 + length (take start counts)) (take size (drop start counts)) all)
    ∙ append-nil (entries_of (take start counts))
