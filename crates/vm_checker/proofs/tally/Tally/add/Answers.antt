use Rattle.std.proofs.Common.{List, [], ◌∷◌, ◌++◌, refl, sym, ap, ◌∙◌, append-nil, inl, inr}
use Rattle.air_core.specs.Sheet.{row_events}
use Rattle.air_core.specs.System.{sheet_at}
use Rattle.vm_checker.proofs.SegmentTests.{row_holds}
use Rattle.vm_checker.proofs.Tallying.{Counted, counted_more, counted_same, tallied_one}
use Rattle.vm_checker.proofs.tally.Tally.add.Goals as goal
use Rattle.vm_checker.proofs.tally.Tally.add.Goals.{then-path-before, else-path-before}

pub returns-in-Ok-clause-added : goal.returns-in-Ok-clause-added
returns-in-Ok-clause-added g c =
    let sheet = sheet_at (g.E.Extension.system c.args.ext.now) c.args.table in
    let events = row_events sheet c.args.row.now in
    let handed = c.in_ok-hint.ensures.handed in
    let told = rw c.in-Some.is at c.in_ok-hint.ensures.hint in
    let mid : Counted events c.args.self.now c.take_row.new.sink c.if-path-before.self = elim c.if-path-before.branch [
      | then-path-before w ↦ counted_more events c.args.self.now c.take_row.new.sink c.requires.heard handed c.path-before.ensures c.path.ensures w.if-path-before.true w.self-is
      | else-path-before w ↦ counted_same events c.args.self.now c.take_row.new.sink c.requires.heard handed c.path-before.ensures c.path.ensures w.if-path-before.false w.self-is
    ] in
    tallied_one events c.args.self.now (record c.if-path-before.self { hints = c.push.new.self }) (c.in-Some.hint ∷ []) (rw mid.heard handed) mid.valid
    (c.in-Ok.ensures.items ∙ ap (λ (x : List _). x ++ c.in-Some.hint ∷ []) (ap (λ v. v.items) mid.hints))
    (λ row. inr (c.in-Some.hint, [], told row (row_holds (sheet.constraints c.args.row.now) c.in_ok-hint.ensures.holds), refl, refl))

pub returns-in-None-clause-added : goal.returns-in-None-clause-added
returns-in-None-clause-added g c =
    let sheet = sheet_at (g.E.Extension.system c.args.ext.now) c.args.table in
    let events = row_events sheet c.args.row.now in
    let handed = c.in_ok-hint.ensures.handed in
    let told = rw c.in-None.is at c.in_ok-hint.ensures.hint in
    let mid : Counted events c.args.self.now c.take_row.new.sink c.if-path-before.self = elim c.if-path-before.branch [
      | then-path-before w ↦ counted_more events c.args.self.now c.take_row.new.sink c.requires.heard handed c.path-before.ensures c.path.ensures w.if-path-before.true w.self-is
      | else-path-before w ↦ counted_same events c.args.self.now c.take_row.new.sink c.requires.heard handed c.path-before.ensures c.path.ensures w.if-path-before.false w.self-is
    ] in
    tallied_one events c.args.self.now c.if-path-before.self [] (rw mid.heard handed) mid.valid
    (ap (λ v. v.items) mid.hints ∙ sym (append-nil c.args.self.now.hints.items))
    (λ row. inl (told row (row_holds (sheet.constraints c.args.row.now) c.in_ok-hint.ensures.holds), refl))
