use Rattle.std.proofs.Common.{rules, ◌≡◌, ◌+◌, ◌-◌, ◌*◌, ◌<◌, ℕ, length, take, drop, ap, sym, subst, ◌∙◌, refl, arith}
use Rattle.std.specs.Int.{w32, from_le_bytes}
use Rattle.std.proofs.lemmas.Bool.{and_parts}
use Rattle.std.proofs.lemmas.List.{take_all}
use Rattle.vm_field.specs.Field.{modulus}
use Rattle.table_format.specs.Stream.{AreElements}
use Rattle.table_format.proofs.Numbers.{read_more, value_found}
use Rattle.table_format.proofs.stream.read_elements.Goals as goal

pub values-init : goal.values-init
values-init c = λ all. (refl, tt)

pub values-preserved : goal.values-preserved
values-preserved c = λ all.
    let at = 4 * c.values.place in
    let text = c.args.text.now in
    let parts = and_parts c.values.are_elements c.is_some-are_elements.result all in
    let four : (at + 4) - at ≡ 4 = omega arith in
    let copied : c.copy_from_slice.new.self ≡ take 4 (drop at text) = c.copy_from_slice.ensures.after ∙ ap (λ n. take n (drop at text)) four in
    let value = value_found c.new-element.result _ c.from_le_bytes.result c.unwrap_or.result c.new-element.ensures c.unwrap_or.ensures (sym c.is_some-are_elements.ensures ∙ parts.1) in
    let number : c.from_le_bytes.result ≡ from_le_bytes w32 (take 4 (drop at text)) = c.from_le_bytes.ensures ∙ ap (from_le_bytes w32) copied in
    read_more c.values.place text c.values.values c.unwrap_or.result (omega (arith, c.values-test.true, c.values.auto.values)) (value.1 ∙ number) (subst (λ (n : ℕ). n < modulus) (sym value.1) value.0) (c.values.invariant parts.0)

pub returns-clause-read : goal.returns-clause-read
returns-clause-read c = λ all.
    let size : c.values.place ≡ length c.args.values.now = omega (arith, c.values.auto.place-end, c.values-test.false) in
    let read = c.values.invariant all in
    subst (λ (n : ℕ). AreElements n c.args.text.now c.values.values) size (sym (take_all c.values.place c.values.values (omega (arith, c.values.auto.values, c.values-test.false))) ∙ read.0, read.1)
