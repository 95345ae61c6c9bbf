use Rattle.std.proofs.Common.{◌≡◌, ℕ, ◌∷◌, [], ◌∙◌, refl, arith, subst, length-append}
use Rattle.table_format.specs.Order.{digest, digests, next_place}
use Rattle.table_format.proofs.Drawn.{Drew, drew_is, drew_none, drew_more, drew_seen, drew_both, drew_answers, halts_of, halts_first, halts_then, halts_chained, seen_halts, halts_answers, memory_halts}
use Rattle.table_format.proofs.Draws.{draws_both}
use Rattle.vm_checker.proofs.pages.take_siblings.Goals as goal

pub returns-in_err-count-clause-reads : goal.returns-in_err-count-clause-reads
returns-in_err-count-clause-reads g c = λ events heard. halts_answers c.from_residual.result c.from_residual.ensures.1 (seen_halts (λ p. p.1) (halts_first (λ n. digests n) (halts_of (c.in_err-count.ensures.reads events heard))))

pub loop-init : goal.loop-init
loop-init g c = record {
  drew = rw c.new-siblings.ensures.items (drew_none (λ i. digest) next_place 0 c.take_number.new.stream (g.H.Host.state c.take_number.new.host) (c.in_ok-count.ensures.reads c.requires.heard.0 c.requires.heard.1).kept.took.is_open);
  number = rw c.new-siblings.ensures.items refl;
}

pub digest-requires : goal.digest-requires
digest-requires g c = record { «open» = c.loop.invariant.drew.draws.took.is_open }

pub returns-in_err-digest-clause-reads : goal.returns-in_err-digest-clause-reads
returns-in_err-digest-clause-reads g c = λ events heard.
    halts_answers c.from_residual-in_err-digest.result c.from_residual-in_err-digest.ensures.1
    (seen_halts (λ p. p.1) (halts_then (λ n. digests n) (drew_is (c.in_ok-count.ensures.reads events heard)) (halts_chained (λ i. digest) next_place 0 c.loop.counter c.in_ok-count.count c.loop-test.true c.loop.invariant.drew (halts_of c.in_err-digest.ensures))))

pub returns-in_err-push-clause-reads : goal.returns-in_err-push-clause-reads
returns-in_err-push-clause-reads g c = λ events heard.
    halts_answers c.from_residual-in_err-push.result c.from_residual-in_err-push.ensures.1
    (memory_halts (draws_both (c.in_ok-count.ensures.reads events heard).kept (draws_both c.loop.invariant.drew.draws c.in_ok-digest.ensures.kept)))

pub loop-preserved : goal.loop-preserved
loop-preserved g c =
    let inv = c.loop.invariant in
    record {
      drew = rw c.in_ok-push.ensures.items (drew_more (λ i. digest) next_place 0 c.loop.counter inv.drew (drew_is c.in_ok-digest.ensures));
      number = rw c.in_ok-push.ensures.items (omega (arith, length-append c.loop.siblings.items (c.in_ok-digest.digest ∷ []), inv.number));
    }

pub returns-clause-reads : goal.returns-clause-reads
returns-clause-reads g c = λ events heard.
    let k : c.loop.counter ≡ c.in_ok-count.count = omega arith in
    drew_answers _ (drew_seen (λ p. p.1) (drew_both (λ n. digests n) (drew_is (c.in_ok-count.ensures.reads events heard))
    (subst (λ (n : ℕ). Drew (digests n) c.take_number.new.stream c.loop.stream (g.H.Host.state c.take_number.new.host) (g.H.Host.state c.loop.host) c.loop.siblings.items) k c.loop.invariant.drew))) refl

pub returns-clause-right : goal.returns-clause-right
returns-clause-right g c = let k : c.loop.counter ≡ c.in_ok-count.count = omega arith in c.loop.invariant.number ∙ k ∙ c.in_ok-count.ensures.right

pub returns-clause-few : goal.returns-clause-few
returns-clause-few g c = omega (arith, c.loop.invariant.number)
