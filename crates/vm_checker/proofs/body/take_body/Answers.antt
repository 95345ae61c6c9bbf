use Rattle.std.proofs.Common.{◌≡◌, ◌∙◌, refl, sym}
use Rattle.std.specs.Prelude.{Some, None}
use Rattle.vm_trace.specs.File.{File}
use Rattle.table_format.specs.Order.{file_of, first_stand, stand_after}
use Rattle.table_format.proofs.Drawn.{drew_of, drew_seen, drew_both, drew_unless, drew_answers, halts_of, halts_first, halts_then, halts_unless, seen_halts, unless_halts, halts_answers, halts_answer}
use Rattle.vm_checker.specs.FirstReason.{claim_test}
use Rattle.vm_checker.proofs.WholeTaken.{claim_is, tells}
use Rattle.vm_checker.proofs.body.take_body.Goals as goal

pub returns-in_err-chain : goal.returns-in_err-chain
returns-in_err-chain g c =
    let image = c.args.image.now in
    halts_answers c.from_residual.result c.from_residual.ensures.1
    (unless_halts (λ (f : File). claim_test image (stand_after first_stand f.segments) f) (seen_halts (file_of c.args.version) (halts_first _ (halts_of c.in_err-chain.ensures))))

pub returns-in_err-claim : goal.returns-in_err-claim
returns-in_err-claim g c =
    let image = c.args.image.now in
    halts_answers c.from_residual-in_err-claim.result c.from_residual-in_err-claim.ensures.1
    (unless_halts (λ (f : File). claim_test image (stand_after first_stand f.segments) f) (seen_halts (file_of c.args.version) (halts_then _ (drew_of c.in_ok-chain.ensures).2 (halts_of c.in_err-claim.ensures))))

pub returns-in-Some : goal.returns-in-Some
returns-in-Some g c =
    let x = g.E.Extension.system c.args.ext.now in
    let image = c.args.image.now in
    let ss = drew_of c.in_ok-chain.ensures in
    let d = drew_of c.in_ok-claim.ensures in
    let is = claim_is x image c.args.version ss.0 c.in_ok-chain.chain ss.1 c.in_ok-claim.claim d.0 d.1 c.args.program.now c.requires.program in
    halts_answer (halts_unless (λ (f : File). claim_test image (stand_after first_stand f.segments) f) c.in-Some.reason (sym is ∙ sym c.claim_reason.ensures ∙ c.in-Some.is) (drew_seen (file_of c.args.version) (drew_both _ ss.2 d.2)))

pub returns : goal.returns
returns g c =
    let x = g.E.Extension.system c.args.ext.now in
    let image = c.args.image.now in
    let ss = drew_of c.in_ok-chain.ensures in
    let d = drew_of c.in_ok-claim.ensures in
    let is = claim_is x image c.args.version ss.0 c.in_ok-chain.chain ss.1 c.in_ok-claim.claim d.0 d.1 c.args.program.now c.requires.program in
    drew_answers _ (drew_unless (λ (f : File). claim_test image (stand_after first_stand f.segments) f) (sym is ∙ sym c.claim_reason.ensures ∙ c.in_default.is) (drew_seen (file_of c.args.version) (drew_both _ ss.2 d.2)))
    (tells x image c.args.version ss.0 c.in_ok-chain.chain ss.1 c.in_ok-claim.claim d.0 d.1 _ refl refl refl refl c.of.ensures)
