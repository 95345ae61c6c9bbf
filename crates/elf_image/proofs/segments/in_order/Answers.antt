use Rattle.std.proofs.Common.{nat_lt, rules, tests}
use Rattle.std.proofs.lemmas.List.Elements.{filter_from_retain}
use Rattle.std.proofs.lemmas.List.Sorted.{IsNonDecreasingBy-from_sort_by_key}
use Rattle.elf_image.proofs.segments.in_order.Goals as goal

pub returns-clause-loads : goal.returns-clause-loads
returns-clause-loads c =
    let kept = filter_from_retain _ (λ load. nat_lt 0 load.p_memsz) (λ p x b q k. search (rules, tests)) _ _ _ c.retain.ensures.filtered in
    rw (← kept) c.sort_unstable_by_key.ensures.permutation

pub returns-clause-rising : goal.returns-clause-rising
returns-clause-rising c = IsNonDecreasingBy-from_sort_by_key (λ load. load.p_vaddr) _ c.sort_unstable_by_key.ensures.sorted (λ a r q k. search rules)
