use Rattle.std.proofs.Common.{◌≡◌, ℕ, ◌+◌, ◌<◌, List, [], ◌∷◌, ◌++◌, length, drop, refl, arith, sym, subst, ap, ◌∙◌, append_assoc, append-nil, drop_of_length-le}
use Rattle.std.specs.Prelude.{flat_map}
use Rattle.std.specs.List.{AllByRecursion}
use Rattle.air_core.specs.declared.event.Event.{Event}
use Rattle.air_core.specs.Sheet.{RowHolds, row_events, counted}
use Rattle.air_core.specs.ListLemmas.{counted_length}
use Rattle.air_core.specs.System.{EachRow, all_events, sheet_at, no_part}
use Rattle.air_core.specs.Balance.{Balanced}
use Rattle.extension_tests.specs.Rows.{lists, all_lists, IsWide, HoldsAndBalances}
use Rattle.extension_tests.proofs.TableLemmas.{length_lists, length-all_lists, all_lists_at, from_place, each_out, each_in, events_out, rows_out, all_wide, rows_mean}
use Rattle.extension_tests.proofs.check.check_tables.Goals as goal

pub loop-table-init : goal.loop-table-init
loop-table-init g c =
    let handed = c.in_ok-hand_counted.ensures.ok in
    record {
      kept = (counted c.args.others.now, (handed.lists [] c.new-balance.ensures, refl));
      hold = (λ rest. rest, λ all. all);
      wide = c.requires.wide;
      room = omega (arith, handed.used, c.new-balance.ensures.count, c.requires.few, counted_length c.args.others.now);
    }

pub hand_rows-requires-clause-room : goal.hand_rows-requires-clause-room
hand_rows-requires-clause-room g c =
    let system = g.E.Extension.system c.args.ext.now in
    let all = all_lists c.args.tables.now in
    let k = c.loop-table.table in
    let rows = c.index-tables-table.result.items in
    let in_parts : k < length system.parts = omega (arith, c.loop-table-test.true, c.tables-table-end.ensures) in
    let in_tables : k < length c.args.tables.now = omega (arith, in_parts, c.requires.count) in
    let in_all : k < length all = omega (arith, in_tables, length-all_lists c.args.tables.now) in
    let e = from_place system.parts k no_part in_parts in
    let f : drop k all ≡ lists rows ∷ drop (k + 1) all =
    from_place all k [] in_all ∙ ap (λ (r : List (List ℕ)). r ∷ drop (k + 1) all) (all_lists_at c.args.tables.now k c.index-tables-table.result in_tables c.index-tables-table.is) in
    omega (arith, c.loop-table.invariant.room, rows_out e f, ap length c.deref.ensures.value, length_lists rows)

pub hand_rows-requires-clause-wide : goal.hand_rows-requires-clause-wide
hand_rows-requires-clause-wide g c =
    let system = g.E.Extension.system c.args.ext.now in
    let all = all_lists c.args.tables.now in
    let k = c.loop-table.table in
    let rows = c.index-tables-table.result.items in
    let in_parts : k < length system.parts = omega (arith, c.loop-table-test.true, c.tables-table-end.ensures) in
    let in_tables : k < length c.args.tables.now = omega (arith, in_parts, c.requires.count) in
    let in_all : k < length all = omega (arith, in_tables, length-all_lists c.args.tables.now) in
    let here = each_out (from_place system.parts k no_part in_parts) (from_place all k [] in_all) IsWide c.loop-table.invariant.wide in
    let wide : AllByRecursion (IsWide (sheet_at system k)) (lists rows) =
    subst (AllByRecursion (IsWide (sheet_at system k))) (all_lists_at c.args.tables.now k c.index-tables-table.result in_tables c.index-tables-table.is) here.0 in
    rw c.deref.ensures.value (all_wide (sheet_at system k) rows wide)

pub loop-table-preserved : goal.loop-table-preserved
loop-table-preserved g c =
    let system = g.E.Extension.system c.args.ext.now in
    let all = all_lists c.args.tables.now in
    let k = c.loop-table.table in
    let rows = c.index-tables-table.result.items in
    let sheet = sheet_at system k in
    let in_parts : k < length system.parts = omega (arith, c.loop-table-test.true, c.tables-table-end.ensures) in
    let in_tables : k < length c.args.tables.now = omega (arith, in_parts, c.requires.count) in
    let in_all : k < length all = omega (arith, in_tables, length-all_lists c.args.tables.now) in
    let e = from_place system.parts k no_part in_parts in
    let f : drop k all ≡ lists rows ∷ drop (k + 1) all =
    from_place all k [] in_all ∙ ap (λ (r : List (List ℕ)). r ∷ drop (k + 1) all) (all_lists_at c.args.tables.now k c.index-tables-table.result in_tables c.index-tables-table.is) in
    let before = c.loop-table.invariant in
    let told = rw c.deref.ensures.value at c.in_ok-hand_rows.ensures.rows in
    let list = before.kept.0 in
    record {
      kept = (
        list ++ flat_map (row_events sheet) (lists rows),
        (
          told.handed.lists list before.kept.1.0,
          append_assoc list (flat_map (row_events sheet) (lists rows)) (all_events (drop (k + 1) system.parts) (drop (k + 1) all))
              ∙ ap (λ (es : List Event). list ++ es) (sym (events_out e f)) ∙ before.kept.1.1,
        ),
      );
      hold = (
        λ rest. before.hold.0 (each_in e f RowHolds (told.right.0 c.if-not-branch.false) rest),
        λ every. (each_out e f RowHolds (before.hold.1 every)).1,
      );
      wide = (each_out e f IsWide before.wide).1;
      room = omega (arith, before.room, rows_out e f, c.in_ok-hand_rows.ensures.left, ap length c.deref.ensures.value, length_lists rows);
    }

-- a row of this table is broken
pub returns-then-not-branch-clause-exact : goal.returns-then-not-branch-clause-exact
returns-then-not-branch-clause-exact g c =
    let system = g.E.Extension.system c.args.ext.now in
    let all = all_lists c.args.tables.now in
    let k = c.loop-table.table in
    let rows = c.index-tables-table.result.items in
    let in_parts : k < length system.parts = omega (arith, c.loop-table-test.true, c.tables-table-end.ensures) in
    let in_tables : k < length c.args.tables.now = omega (arith, in_parts, c.requires.count) in
    let in_all : k < length all = omega (arith, in_tables, length-all_lists c.args.tables.now) in
    let e = from_place system.parts k no_part in_parts in
    let f : drop k all ≡ lists rows ∷ drop (k + 1) all =
    from_place all k [] in_all ∙ ap (λ (r : List (List ℕ)). r ∷ drop (k + 1) all) (all_lists_at c.args.tables.now k c.index-tables-table.result in_tables c.index-tables-table.is) in
    let told = rw c.deref.ensures.value at c.in_ok-hand_rows.ensures.rows in
    (λ h. absurd (cc), λ (h : HoldsAndBalances system all c.args.others.now). let right = told.right.1 (each_out e f RowHolds (c.loop-table.invariant.hold.1 h.hold)).0 in let wrong = c.if-not-branch.true in absurd (cc))

pub returns-clause-exact : goal.returns-clause-exact
returns-clause-exact g c =
    let system = g.E.Extension.system c.args.ext.now in
    let all = all_lists c.args.tables.now in
    let k = c.loop-table.table in
    let after = c.loop-table.invariant in
    let none : drop k system.parts ≡ [] = drop_of_length-le system.parts (omega (arith, c.loop-table-test.false, c.tables-table-end.ensures)) in
    let holds : EachRow RowHolds system.parts all = after.hold.0 (subst (λ s. EachRow RowHolds s (drop k all)) (sym none) tt) in
    let is : after.kept.0 ≡ counted c.args.others.now ++ all_events system.parts all =
    sym (append-nil after.kept.0) ∙ ap (λ s. after.kept.0 ++ all_events s (drop k all)) (sym none) ∙ after.kept.1.1 in
    let even = c.is_balanced.ensures after.kept.0 after.kept.1.0 in
    (λ yes. record { hold = holds; balanced = subst Balanced is (even.0 yes) }, λ (h : HoldsAndBalances system all c.args.others.now). even.1 (subst Balanced (sym is) h.balanced))

pub returns-clause-meaning : goal.returns-clause-meaning
returns-clause-meaning g c =
    let system = g.E.Extension.system c.args.ext.now in
    let all = all_lists c.args.tables.now in
    let k = c.loop-table.table in
    let after = c.loop-table.invariant in
    let count : length all ≡ length system.parts = length-all_lists c.args.tables.now ∙ c.requires.count in
    let none : drop k system.parts ≡ [] = drop_of_length-le system.parts (omega (arith, c.loop-table-test.false, c.tables-table-end.ensures)) in
    let holds : EachRow RowHolds system.parts all = after.hold.0 (subst (λ s. EachRow RowHolds s (drop k all)) (sym none) tt) in
    let is : after.kept.0 ≡ counted c.args.others.now ++ all_events system.parts all =
    sym (append-nil after.kept.0) ∙ ap (λ s. after.kept.0 ++ all_events s (drop k all)) (sym none) ∙ after.kept.1.1 in
    λ yes. rows_mean system all c.args.others.now after.kept.0 (g.met.E.Extension.fits c.args.ext.now) (g.met.E.Extension.sound c.args.ext.now) count holds c.requires.others is
    ((c.is_balanced.ensures after.kept.0 after.kept.1.0).0 yes)
