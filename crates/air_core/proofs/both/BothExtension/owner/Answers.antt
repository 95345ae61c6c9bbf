use Rattle.std.proofs.Common.{Some, None, sym, ◌∙◌, refl}
use Rattle.air_core.specs.System.{owner_in}
use Rattle.air_core.specs.PartLemmas.{owner_joined}
use Rattle.air_core.proofs.both.BothExtension.owner.Goals as goal

pub returns-in-Some-clause-owner : goal.returns-in-Some-clause-owner
returns-in-Some-clause-owner g c =
    let xs = (g.A.Extension.system c.args.self.now.first).parts in
    let ys = (g.B.Extension.system c.args.self.now.second).parts in
    owner_joined xs ys c.args.op (Some c.in-Some.table) (owner_in ys c.args.op) (sym c.in-Some.is ∙ c.owner.ensures.owner) refl

pub returns-in-Some-owner-clause-owner : goal.returns-in-Some-owner-clause-owner
returns-in-Some-owner-clause-owner g c =
    let xs = (g.A.Extension.system c.args.self.now.first).parts in
    let ys = (g.B.Extension.system c.args.self.now.second).parts in
    let second = c.in-Some-owner.table in
    rw c.tables.ensures (owner_joined xs ys c.args.op None (Some second) (sym c.in-None.is ∙ c.owner.ensures.owner) (sym c.in-Some-owner.is ∙ c.owner-in-None.ensures.owner))

pub returns-in-None-owner-clause-owner : goal.returns-in-None-owner-clause-owner
returns-in-None-owner-clause-owner g c =
    let xs = (g.A.Extension.system c.args.self.now.first).parts in
    let ys = (g.B.Extension.system c.args.self.now.second).parts in
    owner_joined xs ys c.args.op None None (sym c.in-None.is ∙ c.owner.ensures.owner) (sym c.in-None-owner.is ∙ c.owner-in-None.ensures.owner)
