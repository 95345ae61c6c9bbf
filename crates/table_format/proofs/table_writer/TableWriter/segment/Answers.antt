use Rattle.std.proofs.Common.{List, ℕ, true, false, subst}
use Rattle.table_format.specs.Writing.{Appends}
use Rattle.table_format.proofs.Closing.{made_is, countable}
use Rattle.table_format.proofs.table_writer.TableWriter.segment.Goals as goal

pub append-requires : goal.append-requires
append-requires g c =
    let few = countable c.args.self.now.version c.args.connector.now c.args.start.now c.args.end.now c.args.tables.now c.args.pages.now c.args.siblings.now c.requires.parts.0 c.requires.parts.1 in
    record { «open» = c.requires.«open»; going = c.requires.going; few = few.0; few_pages = few.1; few_siblings = few.2 }

pub returns : goal.returns
returns g c = λ v is.
    subst (λ (text : List ℕ). Appends text true false c.args.self.now c.append.new.self (g.H.Host.state c.args.host.now) (g.H.Host.state c.append.new.host) c.append.result)
    (made_is c.args.self.now.version c.args.connector.now c.args.start.now c.args.end.now c.args.tables.now c.args.pages.now c.args.siblings.now v is) c.append.ensures
