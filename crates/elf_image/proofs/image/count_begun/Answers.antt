use Rattle.std.proofs.Common.{leb, rules}
use Rattle.std.proofs.lemmas.List.Sorted.{IsPartitionPoint-from_clause, IsPartitionedBy-leb}
use Rattle.elf_image.proofs.Searches.{begun_from_parted, follow_rises}
use Rattle.elf_image.proofs.image.count_begun.Goals as goal

pub returns-clause-begun : goal.returns-clause-begun
returns-clause-begun c =
    let loads = c.args.loads.now in
    let parted = IsPartitionedBy-leb (λ load. load.p_vaddr) loads c.args.address (follow_rises loads c.requires) in
    begun_from_parted loads c.args.address _ (IsPartitionPoint-from_clause (λ load. leb load.p_vaddr c.args.address) loads _ c.partition_point.ensures.partitioned parted (λ a r q k. search rules))
