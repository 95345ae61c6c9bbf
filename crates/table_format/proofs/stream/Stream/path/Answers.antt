use Rattle.std.proofs.Common.{◌≡◌, ◌<◌, ◌+◌, length, take, refl, sym, subst, ◌∙◌, arith, length-set}
use Rattle.std.proofs.lemmas.List.{take_all, take_more_set}
use Rattle.table_format.specs.Order.{digest, digests, next_place}
use Rattle.table_format.proofs.Drawn.{Drew, drew_is, drew_none, drew_more, drew_answers, halts_of, halts_chained, halts_answers}
use Rattle.table_format.proofs.stream.Stream.path.Goals as goal

pub levels-init : goal.levels-init
levels-init g c = record { drew = drew_none (λ i. digest) next_place 0 c.args.self.now (g.H.Host.state c.args.host.now) c.requires.open; size = refl }

pub digest-requires : goal.digest-requires
digest-requires g c = record { «open» = c.levels.invariant.drew.draws.took.is_open }

pub returns-in_err-path : goal.returns-in_err-path
returns-in_err-path g c =
    halts_answers c.from_residual.result c.from_residual.ensures.1 (halts_chained (λ i. digest) next_place 0 c.levels.level 25 c.levels-test.true c.levels.invariant.drew (halts_of c.in_err-path.ensures))

pub levels-preserved : goal.levels-preserved
levels-preserved g c =
    let i = c.levels.invariant in
    let lt : c.levels.level < length c.levels.path = omega (arith, i.size) in
    record {
      drew = subst (Drew (digests (c.levels.level + 1)) _ _ _ _) (sym (take_more_set c.levels.path c.levels.level _ lt)) (drew_more (λ i. digest) next_place 0 c.levels.level i.drew (drew_is c.in_ok-path.ensures));
      size = length-set c.levels.path _ _ ∙ i.size;
    }

pub returns : goal.returns
returns g c =
    let i = c.levels.invariant in
    let k : c.levels.level ≡ 25 = omega arith in
    let all : take c.levels.level c.levels.path ≡ c.levels.path = take_all c.levels.level c.levels.path (omega (arith, i.size)) in
    drew_answers c.levels.path (subst (λ n. Drew (digests n) c.args.self.now c.levels.self (g.H.Host.state c.args.host.now) (g.H.Host.state c.levels.host) c.levels.path) k
    (subst (Drew (digests c.levels.level) _ _ _ _) all i.drew)) refl
