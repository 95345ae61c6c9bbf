use Rattle.std.proofs.Common.{◌≡◌, ◌+◌, true, List, [], ◌∷◌, ◌++◌, sym, ap, subst, ◌∙◌}
use Rattle.vm_isa.specs.declared.instr.VmInstr.{VmInstr}
use Rattle.vm_isa.specs.declared.access.TimedAccess.{TimedAccess}
use Rattle.vm_isa.specs.Results.{result}
use Rattle.vm_isa.specs.Means.{Fillable}
use Rattle.adapter_regs.proofs.RecordLemmas.{instr_of, at_register, immediate_fillable}
use Rattle.adapter_regs.proofs.records.of_immediate.Goals as goal

pub returns : goal.returns
returns c =
    let o = c.args.operation.now in
    let time = c.args.time in
    let old = c.old_word.result in
    let before = c.last_access.result in
    let new = result o.op o.left o.right in
    let is : c.instruction.result ≡ instr_of o.op o.rd true o.right = c.instruction.ensures ∙ ap (λ use_imm. instr_of o.op o.rd use_imm o.right) c.requires.form in
    let second : c.access-2.result ≡ at_register o.rd old new (time + 2) before = c.access-2.ensures ∙ ap (λ word. at_register o.rd old word (time + 2) before) c.result-new.ensures in
    let one : c.push.new.self ≡ at_register 6 o.left o.left time 90 ∷ [] = c.in_ok-push.ensures.ok ∙ ap (λ (xs : List TimedAccess). xs ++ c.access.result ∷ []) c.new-accesses.ensures ∙ ap (λ (a : TimedAccess). a ∷ []) c.access.ensures in
    let all : c.push-2.new.self ≡ at_register 6 o.left o.left time 90 ∷ at_register o.rd old new (time + 2) before ∷ [] =
    c.in_ok-push-2.ensures.ok ∙ ap (λ (xs : List TimedAccess). xs ++ c.access-2.result ∷ []) one ∙ ap (λ (a : TimedAccess). at_register 6 o.left o.left time 90 ∷ a ∷ []) second in
    let fillable = immediate_fillable o.op o.rd time before o.left o.right old c.requires.alu c.requires.owned c.requires.register c.requires.time.0 c.requires.time.1 c.last_access.ensures c.fits-operation.1.0.1 c.fits-operation.1.1.0.1 in (
      ap (λ (i : VmInstr). i.op) is,
      subst (λ (i : VmInstr). Fillable 24 (record { instr = i; time = time; accesses = c.push-2.new.self; next = 4100 })) (sym is)
          (subst (λ (xs : List TimedAccess). Fillable 24 (record { instr = instr_of o.op o.rd true o.right; time = time; accesses = xs; next = 4100 })) (sym all) fillable),
    )
