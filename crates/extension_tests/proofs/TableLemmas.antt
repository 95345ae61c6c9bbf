-- One table more.
use Rattle.std.proofs.Common.{◌≡◌, ◌≢◌, ℕ, ◌+◌, ◌<◌, zero, suc, true, List, [], ◌∷◌, ◌++◌, length, drop, get_or, sym, ap, subst, arith, add-one, refl}
use Rattle.std.specs.Prelude.{flat_map, All}
use Rattle.std.specs.List.{AllByRecursion}
use Rattle.std.proofs.Math.Seq.{drop-cons}
use Rattle.std.proofs.lemmas.List.Elements.{All-from_recursion}
use Rattle.std.specs.declared.vec.Vec.{Vec}
use Rattle.std.specs.declared.alloc.Global.{Global}
use Rattle.air_core.specs.declared.event.Event.{Event}
use Rattle.air_core.specs.Sheet.{Sheet, RowHolds, row_events}
use Rattle.air_core.specs.Balance.{Balanced, BalancedOn}
use Rattle.air_core.specs.System.{System, Part, EachRow, all_events, GoodRow}
use Rattle.air_core.specs.ExtensionLaws.{ExtensionFits, ExtensionSound}
use Rattle.air_core.specs.ListLemmas.{all_counted, all_weaker}
use Rattle.air_core.specs.PartLemmas.{balanced_second}
use Rattle.air_core.specs.Sheet.{counted}
use Rattle.extension_tests.specs.Rows.{lists, all_lists, rows_in, IsWide, IsFit, RowsMean}

pub length_lists : (rows : List (Vec ℕ Global)) → length (lists rows) ≡ length rows
length_lists [] = refl
length_lists (row ∷ rows) = ap suc (length_lists rows)

pub length-all_lists : (tables : List (Vec (Vec ℕ Global) Global)) → length (all_lists tables) ≡ length tables
length-all_lists [] = refl
length-all_lists (t ∷ tables) = ap suc (length-all_lists tables)

pub all_lists_at : (tables : List (Vec (Vec ℕ Global) Global)) (k : ℕ) (t : Vec (Vec ℕ Global) Global) → k < length tables → t ≡ get_or tables k t → get_or (all_lists tables) k [] ≡ lists t.items
all_lists_at [] k t below is = absurd (omega (arith, below))
all_lists_at (u ∷ tables) zero t below is = ap (λ (v : Vec (Vec ℕ Global) Global). lists v.items) (sym is)
all_lists_at (u ∷ tables) (suc k) t below is = all_lists_at tables k t (omega (arith, below)) is

-- a list from a place on
pub from_place : {X : Type 0} (xs : List X) (k : ℕ) (d : X) → k < length xs → drop k xs ≡ get_or xs k d ∷ drop (k + 1) xs
from_place xs k d h = rw add-one (drop-cons xs k d h)

module _ {s : Part} {rows : List (List ℕ)} {all rest : List Part} {tables more : List (List (List ℕ))} (e : all ≡ s ∷ rest) (f : tables ≡ rows ∷ more) where
  pub each_out : (P : Sheet → List ℕ → Type 0) → EachRow P all tables → AllByRecursion (P s.sheet) rows × EachRow P rest more
  each_out P h = subst (λ (y : List (List (List ℕ))). EachRow P (s ∷ rest) y) f (subst (λ (x : List Part). EachRow P x tables) e h)

  pub each_in : (P : Sheet → List ℕ → Type 0) → AllByRecursion (P s.sheet) rows → EachRow P rest more → EachRow P all tables
  each_in P now later = subst (λ (x : List Part). EachRow P x tables) (sym e) (subst (λ (y : List (List (List ℕ))). EachRow P (s ∷ rest) y) (sym f) (now, later))

  pub events_out : all_events all tables ≡ flat_map (row_events s.sheet) rows ++ all_events rest more
  events_out = rw (e, f) refl

  pub rows_out : rows_in tables ≡ length rows + rows_in more
  rows_out = rw f refl

wide_rows : (sheet : Sheet) (rows : List (Vec ℕ Global)) → AllByRecursion (IsWide sheet) (lists rows) → AllByRecursion (λ row. length row.items ≡ sheet.width) rows
wide_rows sheet [] all = tt
wide_rows sheet (row ∷ rows) all = (all.0, wide_rows sheet rows all.1)

pub all_wide : (sheet : Sheet) (rows : List (Vec ℕ Global)) → AllByRecursion (IsWide sheet) (lists rows) → All (λ row. length row.items ≡ sheet.width) rows
all_wide sheet rows all = All-from_recursion (λ (row : Vec ℕ Global). length row.items ≡ sheet.width) rows (wide_rows sheet rows all)

good_rows : (sheet : Sheet) (rows : List (List ℕ)) → AllByRecursion (RowHolds sheet) rows → AllByRecursion (IsFit sheet) rows → AllByRecursion (GoodRow sheet) rows
good_rows sheet [] holds fit = tt
good_rows sheet (row ∷ rows) holds fit = (record { is_row = fit.0.0; holds = holds.0; good = fit.0.1 }, good_rows sheet rows holds.1 fit.1)

good_tables : (parts : List Part) (tables : List (List (List ℕ))) → EachRow RowHolds parts tables → EachRow IsFit parts tables → EachRow GoodRow parts tables
good_tables [] tables holds fit = tt
good_tables (p ∷ ps) [] holds fit = tt
good_tables (p ∷ ps) (rows ∷ tables) holds fit = (good_rows p.sheet rows holds.0 fit.0, good_tables ps tables holds.1 fit.1)

-- what balances with the others balances on the private buses alone
balanced_alone : (x : System) → ExtensionFits x → (others events : List Event) → AllByRecursion (λ e. e.bus < 6) others → Balanced (counted others ++ events) → BalancedOn x.private events
balanced_alone x fits others events low all =
    balanced_second x.private (λ _. true) (counted others) events (λ bus h. refl)
    (λ bus h. all_counted (λ e. e.bus ≢ bus) others (all_weaker (λ e. e.bus < 6) (λ e. e.bus ≢ bus) (λ e under same. absurd (omega (arith, under, same, fits.private_high bus h))) others low))
    (record { even = λ bus tuple h. all.even bus tuple })

-- The step from the laws: rows that hold and events that balance mean steps.
pub rows_mean : (x : System) (tables : List (List (List ℕ))) (others list : List Event) → ExtensionFits x → ExtensionSound x → length tables ≡ length x.parts
    → EachRow RowHolds x.parts tables → AllByRecursion (λ e. e.bus < 6) others → list ≡ counted others ++ all_events x.parts tables → Balanced list → RowsMean x tables
rows_mean x tables others list fits sound count holds low is balanced fit times =
    sound tables (record {
      count = count;
      rows = good_tables x.parts tables holds fit;
      balanced = balanced_alone x fits others (all_events x.parts tables) low (subst Balanced is balanced);
      times = times;
    })
