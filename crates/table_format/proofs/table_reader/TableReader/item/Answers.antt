use Rattle.table_format.specs.declared.stage.Stage.TheVariants as stage
use Rattle.table_format.proofs.Advancing.{by_stage}
use Rattle.table_format.proofs.table_reader.TableReader.item.Goals as goal

pub returns-in-Head : goal.returns-in-Head
returns-in-Head g c = by_stage stage.Head c.in-Head.is c.first.ensures

pub returns-in-Marker : goal.returns-in-Marker
returns-in-Marker g c = by_stage stage.Marker c.in-Marker.is c.mark.ensures

pub returns-in-Segment : goal.returns-in-Segment
returns-in-Segment g c = by_stage stage.Segment c.in-Segment.is c.segment.ensures

pub returns-in-Height : goal.returns-in-Height
returns-in-Height g c = by_stage (stage.Height c.in-Height.table) c.in-Height.is c.height.ensures

pub returns-in-Row : goal.returns-in-Row
returns-in-Row g c = by_stage (stage.Row c.in-Row.table c.in-Row.left) c.in-Row.is c.next_row.ensures

pub returns-in-Counts : goal.returns-in-Counts
returns-in-Counts g c = by_stage stage.Counts c.in-Counts.is c.counts.ensures

pub returns-in-Entry : goal.returns-in-Entry
returns-in-Entry g c = by_stage (stage.Entry c.in-Entry.list c.in-Entry.left c.in-Entry.least) c.in-Entry.is c.entries.ensures

pub returns-in-Page : goal.returns-in-Page
returns-in-Page g c = by_stage (stage.Page c.in-Page.left) c.in-Page.is c.page.ensures

pub returns-in-Sibling : goal.returns-in-Sibling
returns-in-Sibling g c = by_stage (stage.Sibling c.in-Sibling.left) c.in-Sibling.is c.sibling.ensures

pub returns-in-Claim : goal.returns-in-Claim
returns-in-Claim g c = by_stage stage.Claim c.in-Claim.is c.claim.ensures

pub returns-in-End : goal.returns-in-End
returns-in-End g c = by_stage stage.End c.in-End.is c.ending.ensures
