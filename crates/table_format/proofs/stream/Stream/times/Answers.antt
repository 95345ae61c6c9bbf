use Rattle.std.proofs.Common.{◌≡◌, ◌<◌, ◌+◌, length, take, refl, sym, subst, ◌∙◌, arith, length-set}
use Rattle.std.proofs.lemmas.List.{take_all, take_more_set}
use Rattle.table_format.specs.Order.{element, elements, next_place}
use Rattle.table_format.proofs.Drawn.{Drew, drew_is, drew_none, drew_more, drew_answers, halts_of, halts_chained, halts_answers}
use Rattle.table_format.proofs.stream.Stream.times.Goals as goal

pub times-init : goal.times-init
times-init g c = record { drew = drew_none (λ i. element) next_place 0 c.args.self.now (g.H.Host.state c.args.host.now) c.requires.open; size = refl }

pub element-requires : goal.element-requires
element-requires g c = record { «open» = c.times.invariant.drew.draws.took.is_open }

pub returns-in_err-element : goal.returns-in_err-element
returns-in_err-element g c =
    halts_answers c.from_residual.result c.from_residual.ensures.1 (halts_chained (λ i. element) next_place 0 c.times.block 16 c.times-test.true c.times.invariant.drew (halts_of c.in_err-element.ensures))

pub times-preserved : goal.times-preserved
times-preserved g c =
    let i = c.times.invariant in
    let lt : c.times.block < length c.times.times = omega (arith, i.size) in
    record {
      drew = rw c.value.ensures.number (subst (Drew (elements (c.times.block + 1)) _ _ _ _) (sym (take_more_set c.times.times c.times.block _ lt)) (drew_more (λ i. element) next_place 0 c.times.block i.drew (drew_is c.in_ok-element.ensures)));
      size = length-set c.times.times _ _ ∙ i.size;
    }

pub returns : goal.returns
returns g c =
    let i = c.times.invariant in
    let k : c.times.block ≡ 16 = omega arith in
    let all : take c.times.block c.times.times ≡ c.times.times = take_all c.times.block c.times.times (omega (arith, i.size)) in
    drew_answers c.times.times (subst (λ n. Drew (elements n) c.args.self.now c.times.self (g.H.Host.state c.args.host.now) (g.H.Host.state c.times.host) c.times.times) k
    (subst (Drew (elements c.times.block) _ _ _ _) all i.drew)) refl
