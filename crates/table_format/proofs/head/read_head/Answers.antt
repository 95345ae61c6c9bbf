use Rattle.std.proofs.Common.{◌≡◌, true, false, sym, ap, subst, ◌∙◌}
use Rattle.std.specs.Int.{w32, from_le_bytes}
use Rattle.std.proofs.lemmas.Bool.{ltb-true, leb-true, and_parts}
use Rattle.std.proofs.lemmas.Result.{err_from_is_err_and}
use Rattle.readings.specs.Readings.{raw}
use Rattle.table_format.specs.declared.reason.Reason.TheVariants as reason
use Rattle.table_format.specs.Texts.{magic}
use Rattle.table_format.specs.Order.{is_version, same_bytes, want}
use Rattle.table_format.specs.Stream.{bare}
use Rattle.table_format.proofs.ExactItems.{so_want}
use Rattle.table_format.proofs.Drawn.{Drew, drew_of, drew_seen, drew_both, drew_unless, drew_answers, halts_of, halts_first, halts_then, halts_unless, seen_halts, unless_halts, halts_answer}
use Rattle.table_format.proofs.head.read_head.Goals as goal

pub returns-in_err-fill : goal.returns-in_err-fill
returns-in_err-fill g c =
    let k = err_from_is_err_and c.from_residual.result c.from_residual.ensures.1 in
    let x = c.in_err-fill.ensures in
    rw (k.1, k.2) (record { end = x.end; reads = halts_answer (seen_halts (λ p. p.1) (halts_first _ (unless_halts (λ m. want (same_bytes m magic) reason.Magic) (halts_of x.reads)))); whole = tt; known = tt })

pub returns-then-not-is_magic : goal.returns-then-not-is_magic
returns-then-not-is_magic g c =
    let x = c.in_ok-fill.ensures in
    let d = drew_of x.reads in
    let at = subst (λ n. Drew (raw reason.Cut 8) (bare 0) (bare n) (g.H.Host.state c.args.host.now) (g.H.Host.state c.fill.new.host) d.0) x.whole d.2 in
    let other : same_bytes d.0 magic ≡ false = subst (λ k. same_bytes k magic ≡ false) d.1 (sym c.is_magic.ensures ∙ c.if-not-is_magic.true) in
    record {
      end = 8;
      reads = halts_answer (seen_halts (λ p. p.1) (halts_first _ (halts_unless (λ m. want (same_bytes m magic) reason.Magic) reason.Magic (ap (λ b. want b reason.Magic) other) at)));
      whole = tt;
      known = tt;
    }

pub returns-in_err-fill-2 : goal.returns-in_err-fill-2
returns-in_err-fill-2 g c =
    let k = err_from_is_err_and c.from_residual-in_err-fill-2.result c.from_residual-in_err-fill-2.ensures.1 in
    let x = c.in_ok-fill.ensures in
    let d = drew_of x.reads in
    let at = subst (λ n. Drew (raw reason.Cut 8) (bare 0) (bare n) (g.H.Host.state c.args.host.now) (g.H.Host.state c.fill.new.host) d.0) x.whole d.2 in
    let same : same_bytes c.fill.new.into magic ≡ true = sym c.is_magic.ensures ∙ c.if-not-is_magic.false in
    let name = drew_unless (λ m. want (same_bytes m magic) reason.Magic) (so_want (same_bytes d.0 magic) reason.Magic (subst (λ k. same_bytes k magic ≡ true) d.1 same)) at in
    let y = c.in_err-fill-2.ensures in
    rw (k.1, k.2) (record {
      end = y.end;
      reads = halts_answer (seen_halts (λ p. p.1) (halts_then _ name (unless_halts (λ w. want (is_version c.args.greatest w) (reason.Version w)) (seen_halts (from_le_bytes w32) (halts_of y.reads)))));
      whole = tt;
      known = tt;
    })

pub returns-then-is_version : goal.returns-then-is_version
returns-then-is_version g c =
    let x = c.in_ok-fill.ensures in
    let d = drew_of x.reads in
    let at = subst (λ n. Drew (raw reason.Cut 8) (bare 0) (bare n) (g.H.Host.state c.args.host.now) (g.H.Host.state c.fill.new.host) d.0) x.whole d.2 in
    let same : same_bytes c.fill.new.into magic ≡ true = sym c.is_magic.ensures ∙ c.if-not-is_magic.false in
    let name = drew_unless (λ m. want (same_bytes m magic) reason.Magic) (so_want (same_bytes d.0 magic) reason.Magic (subst (λ k. same_bytes k magic ≡ true) d.1 same)) at in
    let y = c.in_ok-fill-2.ensures in
    let n = drew_of y.reads in
    let v = c.from_le_bytes-version.result in
    let number = drew_seen (from_le_bytes w32) n.2 in
    let is : v ≡ from_le_bytes w32 n.0 = c.from_le_bytes-version.ensures ∙ ap (from_le_bytes w32) n.1 in
    let known : is_version c.args.greatest v ≡ true = sym c.is_version.ensures ∙ c.if-is_version.true in
    let parts = and_parts _ _ known in
    record {
      end = y.end;
      reads = drew_answers v (drew_seen (λ p. p.1) (drew_both _ name (drew_unless (λ w. want (is_version c.args.greatest w) (reason.Version w)) (so_want (is_version c.args.greatest (from_le_bytes w32 n.0)) (reason.Version (from_le_bytes w32 n.0)) (subst (λ m. is_version c.args.greatest m ≡ true) is known)) number))) is;
      whole = y.whole;
      known = (ltb-true _ _ parts.0, leb-true _ _ parts.1);
    }

pub returns-else-is_version : goal.returns-else-is_version
returns-else-is_version g c =
    let x = c.in_ok-fill.ensures in
    let d = drew_of x.reads in
    let at = subst (λ n. Drew (raw reason.Cut 8) (bare 0) (bare n) (g.H.Host.state c.args.host.now) (g.H.Host.state c.fill.new.host) d.0) x.whole d.2 in
    let same : same_bytes c.fill.new.into magic ≡ true = sym c.is_magic.ensures ∙ c.if-not-is_magic.false in
    let name = drew_unless (λ m. want (same_bytes m magic) reason.Magic) (so_want (same_bytes d.0 magic) reason.Magic (subst (λ k. same_bytes k magic ≡ true) d.1 same)) at in
    let y = c.in_ok-fill-2.ensures in
    let n = drew_of y.reads in
    let v = c.from_le_bytes-version.result in
    let number = drew_seen (from_le_bytes w32) n.2 in
    let is : v ≡ from_le_bytes w32 n.0 = c.from_le_bytes-version.ensures ∙ ap (from_le_bytes w32) n.1 in
    let other : is_version c.args.greatest (from_le_bytes w32 n.0) ≡ false = subst (λ m. is_version c.args.greatest m ≡ false) is (sym c.is_version.ensures ∙ c.if-is_version.false) in
    rw is (record {
      end = y.end;
      reads = halts_answer (seen_halts (λ p. p.1) (halts_then _ name (halts_unless (λ w. want (is_version c.args.greatest w) (reason.Version w)) (reason.Version (from_le_bytes w32 n.0)) (ap (λ b. want b (reason.Version (from_le_bytes w32 n.0))) other) number)));
      whole = tt;
      known = tt;
    })
