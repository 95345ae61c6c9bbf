use Rattle.std.proofs.Common.{◌≡◌, true, false, sym, ap, ◌∙◌, subst, rules}
use Rattle.std.proofs.lemmas.Bool.{eq-eqb}
use Rattle.air_core.specs.System.{owner_in}
use Rattle.vm_filler.specs.Filling.{KeepsOut}
use Rattle.vm_filler.proofs.TakenLemmas.{out_of, keeps_more, same_owner}
use Rattle.vm_filler.proofs.fill.taken_opcodes.Goals as goal
use Rattle.vm_filler.proofs.fill.taken_opcodes.Goals.{then-each, else-each}

pub loop-op-preserved : goal.loop-op-preserved
loop-op-preserved g c =
    let ext = c.args.ext.now in
    let x = g.E.Extension.system ext in
    record {
      size = search rules;
      out = subst (KeepsOut x c.args.table) (sym c.in_ok-push.ensures.items)
          (keeps_more x c.args.table c.loop-op.takes.items c.if-each.push c.loop-op.invariant.out
          (λ d is no. elim c.if-each.branch [
            | then-each w ↦
                let some : c.if-each.push ≡ true = w.push-is ∙ eq-eqb c.slots-each.result 0 w.if-each.true in
                let z : true ≡ false = sym some ∙ no in absurd (cc)
            | else-each w ↦
                out_of x (g.met.E.Extension.fits ext) (g.met.E.Extension.rows ext) c.args.table c.requires.known (λ none. w.if-each.false (c.slots-each.ensures ∙ none)) d
                (λ owner.
                let found = w.owner.ensures.owner ∙ ap (owner_in x.parts) (sym (is ∙ c.loop-op.invariant.size)) ∙ owner in
                let some : c.if-each.push ≡ true = w.push-is ∙ w.eq.ensures ∙ same_owner w.owner.result c.args.table found in
                let z : true ≡ false = sym some ∙ no in absurd (cc))
          ]));
    }
