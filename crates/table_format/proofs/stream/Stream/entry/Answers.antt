use Rattle.std.proofs.Common.{refl, sym, ◌∙◌}
use Rattle.std.proofs.lemmas.Bool.{ltb-true, leb-true, and_parts}
use Rattle.readings.specs.Readings.{number}
use Rattle.table_format.specs.declared.reason.Reason.TheVariants as reason
use Rattle.table_format.specs.Order.{entry_of, is_entry}
use Rattle.table_format.proofs.Drawn.{drew_is, drew_seen, drew_both, drew_only, drew_answers, halts_of, halts_then, halts_only, seen_halts, only_halts, halts_answers, halts_answer}
use Rattle.table_format.proofs.stream.Stream.entry.Goals as goal

pub returns-in_err-count-clause-reads : goal.returns-in_err-count-clause-reads
returns-in_err-count-clause-reads g c =
    halts_answers c.from_residual-in_err-count.result c.from_residual-in_err-count.ensures.1
    (only_halts (is_entry c.args.end c.args.least) reason.CountEntry (seen_halts entry_of (halts_then (λ p. number reason.Cut) (drew_is c.in_ok-place.ensures) (halts_of c.in_err-count.ensures))))

pub returns-then-is_entry-clause-reads : goal.returns-then-is_entry-clause-reads
returns-then-is_entry-clause-reads g c =
    drew_answers _ (drew_only (is_entry c.args.end c.args.least) reason.CountEntry (sym c.is_entry.ensures ∙ c.if-is_entry.true)
    (drew_seen entry_of (drew_both (λ p. number reason.Cut) (drew_is c.in_ok-place.ensures) (drew_is c.in_ok-count.ensures)))) refl

pub returns-then-is_entry-clause-good : goal.returns-then-is_entry-clause-good
returns-then-is_entry-clause-good g c =
    let p = and_parts _ _ (sym c.is_entry.ensures ∙ c.if-is_entry.true) in
    let q = and_parts _ _ p.1 in
    (leb-true _ _ p.0, ltb-true _ _ q.0, ltb-true _ _ q.1)

pub returns-else-is_entry-clause-reads : goal.returns-else-is_entry-clause-reads
returns-else-is_entry-clause-reads g c =
    rw c.offset-offset.ensures
    (halts_answer (halts_only (is_entry c.args.end c.args.least) reason.CountEntry (sym c.is_entry.ensures ∙ c.if-is_entry.false)
    (drew_seen entry_of (drew_both (λ p. number reason.Cut) (drew_is c.in_ok-place.ensures) (drew_is c.in_ok-count.ensures)))))
