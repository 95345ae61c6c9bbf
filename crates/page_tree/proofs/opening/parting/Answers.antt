use Rattle.std.proofs.Common.{◌≡◌, ℕ, ◌+◌, List, map, sym, subst, rules}
use Rattle.std.specs.List.Sorted.{IsStrictlyIncreasing}
use Rattle.page_tree.specs.Parts.{IsParting}
use Rattle.page_tree.proofs.PartingLemmas.{parts_from_search, map_same}
use Rattle.page_tree.proofs.opening.parting.Goals as goal

pub returns : goal.returns
returns c =
    let labels = c.args.labels.now in
    let same : map (λ (x : ℕ). x) labels ≡ labels = map_same labels in
    subst (λ (xs : List ℕ). IsParting xs c.args.places.from c.args.places.to c.args.middle (c.args.places.from + c.partition_point.result)) same
    (parts_from_search (λ x. x) labels c.args.places.from c.args.places.to c.requires.ordered c.requires.in_list c.args.middle c.partition_point.result 0 (subst (λ (xs : List ℕ). IsStrictlyIncreasing xs) (sym same) c.requires.rising) c.partition_point.ensures.bound c.partition_point.ensures.partitioned (λ a r q k. search rules))
