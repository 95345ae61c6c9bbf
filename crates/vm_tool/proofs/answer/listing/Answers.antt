use Rattle.std.proofs.Common.{◌∙◌, sym, ap, ◌++◌, append-nil, List, ℕ, Option}
use Rattle.std.specs.Prelude.{string_bytes}
use Rattle.vm_isa.specs.declared.instr.VmInstr.{VmInstr}
use Rattle.vm_tool.proofs.Listings.{listing_step, line_if_any}
use Rattle.vm_tool.proofs.answer.listing.Goals.{in-Some+in_ok-line+in_ok-push_str, in_default}
use Rattle.vm_tool.proofs.answer.listing.Goals as goal

pub loop-place-preserved : goal.loop-place-preserved
loop-place-preserved c =
    let step = listing_step c.args.program.now c.loop-place.place c.at.result (string_bytes c.loop-place.text) (string_bytes c.match-at.text) c.at.ensures c.loop-place.invariant in
    let said : Option VmInstr → List ℕ = λ row. string_bytes c.loop-place.text ++ line_if_any row in
    elim c.match-at.branch [
      | in-Some+in_ok-line+in_ok-push_str w ↦ step (ap string_bytes w.text-is ∙ w.in_ok-push_str.ensures.bytes ∙ ap (λ l. string_bytes c.loop-place.text ++ l) (w.deref.ensures ∙ w.in_ok-line.ensures) ∙ ap said (sym w.in-Some.is))
      | in_default w ↦ step (ap string_bytes w.text-is ∙ sym (append-nil (string_bytes c.loop-place.text)) ∙ ap said (sym w.in_default.is))
    ]
