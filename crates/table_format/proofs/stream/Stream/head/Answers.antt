use Rattle.std.proofs.Common.{◌≡◌, true, refl, sym, ap, subst, ◌∙◌}
use Rattle.table_format.specs.declared.reason.Reason.TheVariants as reason
use Rattle.table_format.specs.Texts.{magic}
use Rattle.table_format.specs.Order.{is_version, same_bytes, want}
use Rattle.table_format.proofs.ExactItems.{so_want}
use Rattle.table_format.proofs.Drawn.{drew_of, drew_is, drew_seen, drew_both, drew_unless, drew_answers, halts_of, halts_then, halts_unless, seen_halts, unless_halts, halts_answers, halts_answer}
use Rattle.table_format.proofs.stream.Stream.head.Goals as goal

pub returns-in_err-version-clause-reads : goal.returns-in_err-version-clause-reads
returns-in_err-version-clause-reads g c =
    let d = drew_of c.in_ok-fill.ensures in
    let same : same_bytes c.fill.new.into magic ≡ true = sym c.is_magic.ensures ∙ c.if-not-is_magic.false in
    let name = drew_unless (λ m. want (same_bytes m magic) reason.Magic) (so_want (same_bytes d.0 magic) reason.Magic (subst (λ k. same_bytes k magic ≡ true) d.1 same)) d.2 in
    halts_answers c.from_residual-in_err-version.result c.from_residual-in_err-version.ensures.1 (seen_halts (λ p. p.1) (halts_then _ name (unless_halts _ (halts_of c.in_err-version.ensures))))

pub returns-then-is_version-clause-reads : goal.returns-then-is_version-clause-reads
returns-then-is_version-clause-reads g c =
    let d = drew_of c.in_ok-fill.ensures in
    let same : same_bytes c.fill.new.into magic ≡ true = sym c.is_magic.ensures ∙ c.if-not-is_magic.false in
    let name = drew_unless (λ m. want (same_bytes m magic) reason.Magic) (so_want (same_bytes d.0 magic) reason.Magic (subst (λ k. same_bytes k magic ≡ true) d.1 same)) d.2 in
    let v = c.in_ok-version.version in
    let known : is_version c.args.greatest v ≡ true = sym c.is_version.ensures ∙ c.if-is_version.true in
    drew_answers v (drew_seen (λ p. p.1) (drew_both _ name (drew_unless (λ w. want (is_version c.args.greatest w) (reason.Version w)) (so_want (is_version c.args.greatest v) (reason.Version v) known) (drew_is c.in_ok-version.ensures)))) refl

pub returns-else-is_version-clause-reads : goal.returns-else-is_version-clause-reads
returns-else-is_version-clause-reads g c =
    let d = drew_of c.in_ok-fill.ensures in
    let same : same_bytes c.fill.new.into magic ≡ true = sym c.is_magic.ensures ∙ c.if-not-is_magic.false in
    let name = drew_unless (λ m. want (same_bytes m magic) reason.Magic) (so_want (same_bytes d.0 magic) reason.Magic (subst (λ k. same_bytes k magic ≡ true) d.1 same)) d.2 in
    let v = c.in_ok-version.version in
    let e = sym c.is_version.ensures ∙ c.if-is_version.false in
    halts_answer (seen_halts (λ p. p.1) (halts_then _ name (halts_unless (λ w. want (is_version c.args.greatest w) (reason.Version w)) (reason.Version v) (ap (λ b. want b (reason.Version v)) e) (drew_is c.in_ok-version.ensures))))
