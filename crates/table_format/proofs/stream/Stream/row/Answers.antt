use Rattle.std.proofs.Common.{Err, ℕ, ◌+◌, ◌++◌, List, length, take, drop, ◌∙◌, ◌≡◌, ◌∷◌, [], refl, sym, subst, arith, length-append}
use Rattle.table_format.specs.Order.{element, elements, next_place}
use Rattle.readings.specs.Told.{Is}
use Rattle.std.proofs.lemmas.List.{take_at}
use Rattle.table_format.specs.Stream.{Held, ReadsBy, numbers_of}
use Rattle.table_format.proofs.Numbers.{drew_numbers}
use Rattle.table_format.proofs.Drawn.{Drew, drew_is, drew_none, drew_more, drew_held, drew_answers, halts_of, halts_chained, halts_answers, memory_halts}
use Rattle.table_format.proofs.Draws.{draws_both}
use Rattle.table_format.proofs.stream.Stream.row.Goals.{in-Some, in-None+in_ok-element-in-None}
use Rattle.table_format.proofs.stream.Stream.row.Goals as goal

pub values-init : goal.values-init
values-init g c =
    let s = g.H.Host.state c.args.host.now in
    let drew = subst (λ (k : Held). Drew (elements 0) c.args.self.now k s s []) (sym (c.held_elements.ensures.none c.if-held_elements.false)) (drew_none (λ i. element) next_place 0 c.args.self.now s c.requires.open) in
    record { drew = rw c.clear.ensures.items drew; wide = rw c.clear.ensures.items refl }

pub returns-in_err-element-in-None-clause-reads : goal.returns-in_err-element-in-None-clause-reads
returns-in_err-element-in-None-clause-reads g c =
    halts_answers c.from_residual-in_err-element-in-None.result c.from_residual-in_err-element-in-None.ensures.1 (halts_chained (λ i. element) next_place 0 c.values.counter c.args.width c.values-test.true c.values.invariant.drew (halts_of (subst (λ k. ReadsBy element Is k c.element.new.self (g.H.Host.state c.values.host) (g.H.Host.state c.element.new.host) (Err c.in_err-element-in-None.field-0.0)) c.in-None.ensures c.in_err-element-in-None.ensures)))

pub returns-in_err-push-clause-reads : goal.returns-in_err-push-clause-reads
returns-in_err-push-clause-reads g c =
    let s = g.H.Host.state c.values.host in
    let drew : Drew element c.values.self c.match-held_element.self s (g.H.Host.state c.match-held_element.host) c.match-held_element.element =
    elim c.match-held_element.branch [
      | in-Some w ↦ let h = w.in-Some.ensures in rw (w.self-is, w.host-is, w.element-is) (drew_held s w.in-Some.element h.1.0 c.values.invariant.drew.draws.took.is_open h.0 h.1.1 h.1.2)
      | in-None+in_ok-element-in-None w ↦
          rw (w.self-is, w.host-is, w.element-is)
          (subst (λ k. Drew element k w.element.new.self s (g.H.Host.state w.element.new.host) w.in_ok-element-in-None.element) w.in-None.ensures (drew_is w.in_ok-element-in-None.ensures))
    ] in
    halts_answers c.from_residual-in_err-push.result c.from_residual-in_err-push.ensures.1 (memory_halts (draws_both c.values.invariant.drew.draws drew.draws))

pub values-preserved : goal.values-preserved
values-preserved g c =
    let i = c.values.invariant in
    let s = g.H.Host.state c.values.host in
    let drew : Drew element c.values.self c.match-held_element.self s (g.H.Host.state c.match-held_element.host) c.match-held_element.element =
    elim c.match-held_element.branch [
      | in-Some w ↦ let h = w.in-Some.ensures in rw (w.self-is, w.host-is, w.element-is) (drew_held s w.in-Some.element h.1.0 c.values.invariant.drew.draws.took.is_open h.0 h.1.1 h.1.2)
      | in-None+in_ok-element-in-None w ↦
          rw (w.self-is, w.host-is, w.element-is)
          (subst (λ k. Drew element k w.element.new.self s (g.H.Host.state w.element.new.host) w.in_ok-element-in-None.element) w.in-None.ensures (drew_is w.in_ok-element-in-None.ensures))
    ] in
    record {
      drew = rw c.in_ok-push.ensures.items (drew_more (λ i. element) next_place 0 c.values.counter i.drew drew);
      wide = rw c.in_ok-push.ensures.items (omega (arith, length-append c.values.buffer.items (c.match-held_element.element ∷ []), i.wide));
    }

pub returns-clause-reads : goal.returns-clause-reads
returns-clause-reads g c =
    let k : c.values.counter ≡ c.args.width = omega arith in
    drew_answers _ (subst (λ n. Drew (elements n) c.args.self.now c.values.self (g.H.Host.state c.args.host.now) (g.H.Host.state c.values.host) c.values.buffer.items) k c.values.invariant.drew) refl

pub returns-then-held_elements-clause-reads : goal.returns-then-held_elements-clause-reads
returns-then-held_elements-clause-reads g c =
    let s = g.H.Host.state c.args.host.now in
    let held = c.held_elements.ensures.held c.if-held_elements.true in
    let values = c.held_elements.new.values in
    let grown = c.resize.new.self in
    let size : length c.deref_mut.result.now ≡ c.args.width = c.deref_mut.ensures.len ∙ c.in_ok-resize.ensures.len in
    let read : Drew (elements (0 + length c.deref_mut.result.now)) c.args.self.now c.held_elements.new.self s s (numbers_of (length c.deref_mut.result.now) held.0) =
    drew_numbers s (length c.deref_mut.result.now) c.args.self.now c.args.self.now c.held_elements.new.self 0 [] held.0 c.requires.open held.1.1 (drew_none (λ i. element) next_place 0 c.args.self.now s c.requires.open) held.2 in
    let count : 0 + length c.deref_mut.result.now ≡ c.args.width = omega (arith, size) in
    let whole : take grown.len (values ++ drop (length values) grown.items) ≡ values = take_at values (drop (length values) grown.items) grown.len (c.held_elements.ensures.size ∙ c.deref_mut.ensures.len) in
    drew_answers _ (subst (λ (n : ℕ). Drew (elements n) c.args.self.now c.held_elements.new.self s s (numbers_of (length c.deref_mut.result.now) held.0)) count read) (whole ∙ held.1.0)
