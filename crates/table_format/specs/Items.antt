-- What a call that takes an item gives, as the value that its reading has, and the item of such a value.
use Rattle.table_format.specs.declared.item.Bounds.{Bounds}
use Rattle.table_format.specs.declared.item.Claim.{Claim}
use Rattle.table_format.specs.declared.item.Item.{Item}
use Rattle.table_format.specs.declared.item.Item.TheVariants as item
use Rattle.table_format.specs.Order.{Bounds as BoundsRead, Claimed}

abbrev pub bounds_in : Bounds → BoundsRead
bounds_in b = (b.connector.pc_start, (b.connector.pc_end, (b.connector.end_time, (b.connector.ends, (b.start, b.end)))))

abbrev pub claim_in : Claim → Claimed
claim_in c = (c.code, (c.public, c.path))

abbrev pub segment_item : BoundsRead → Item
segment_item v = item.Segment (record { pc_start = v.0; pc_end = v.1.0; end_time = v.1.1.0; ends = v.1.1.1.0 }) v.1.1.1.1.0 v.1.1.1.1.1

abbrev pub claim_item : Claimed → Item
claim_item v = item.Claim (record { code = v.0; public = v.1.0; path = v.1.1 })
