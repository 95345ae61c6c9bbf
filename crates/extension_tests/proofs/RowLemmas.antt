-- One row more.
use Rattle.std.proofs.Common.{◌≡◌, ℕ, ◌+◌, ◌<◌, ◌≤◌, Bool, true, false, cond, nat_eq, zero, suc, lit≤, List, [], ◌∷◌, ◌++◌, length, take, get_or, sym, ap, ◌∙◌, subst, refl, append-nil}
use Rattle.std.specs.Prelude.{is_some, Option, Some, None, flat_map}
use Rattle.std.specs.List.{AllByRecursion}
use Rattle.std.proofs.lemmas.Bool.{eqb-true, eqb-false}
use Rattle.std.proofs.lemmas.Grind.{flat_map-append}
use Rattle.std.proofs.lemmas.List.{take_more}
use Rattle.std.specs.declared.vec.Vec.{Vec}
use Rattle.std.specs.declared.alloc.Global.{Global}
use Rattle.air_core.specs.declared.event.Event.{Event}
use Rattle.air_core.specs.Sheet.{Sheet, RowHolds, row_events}
use Rattle.air_core.specs.First.{first_from}
use Rattle.air_core.specs.Sink.{Handed, handed_both}
use Rattle.air_core.specs.ListLemmas.{all_append, all_left}
use Rattle.air_core.specs.System.{Part, no_part}
use Rattle.air_core.specs.ExtensionLaws.{PartBuses}
use Rattle.extension_tests.specs.Rows.{lists, RowsHanded}

by_first : (n value : ℕ) (values : List ℕ) (zero : Bool) → nat_eq value 0 ≡ zero → ((first_from (n + 1) values ≡ None) → AllByRecursion (λ v. v ≡ 0) values) → cond zero (first_from (n + 1) values) (Some n) ≡ None → AllByRecursion (λ v. v ≡ 0) (value ∷ values)
by_first n value values true z rest h = (eqb-true value 0 z, rest h)
by_first n value values false z rest h = absurd (cc)

pub holds_from_none : (n : ℕ) (values : List ℕ) → first_from n values ≡ None → AllByRecursion (λ v. v ≡ 0) values
holds_from_none n [] h = tt
holds_from_none n (value ∷ values) h = by_first n value values (nat_eq value 0) refl (holds_from_none (n + 1) values) h

broken_first : (n value : ℕ) (values : List ℕ) (place : ℕ) (zero : Bool) → nat_eq value 0 ≡ zero → ((first_from (n + 1) values ≡ Some place) → AllByRecursion (λ v. v ≡ 0) values → ⊥) → cond zero (first_from (n + 1) values) (Some n) ≡ Some place → AllByRecursion (λ v. v ≡ 0) (value ∷ values) → ⊥
broken_first n value values place true z rest h all = rest h all.1
broken_first n value values place false z rest h all = eqb-false value 0 z all.0

pub broken_from_some : (n : ℕ) (values : List ℕ) (place : ℕ) → first_from n values ≡ Some place → AllByRecursion (λ v. v ≡ 0) values → ⊥
broken_from_some n [] place h all = cc
broken_from_some n (value ∷ values) place h all = broken_first n value values place (nat_eq value 0) refl (broken_from_some (n + 1) values place) h all

all_last : {X : Type 0} (P : X → Type 0) (xs : List X) (y : X) → AllByRecursion P (xs ++ y ∷ []) → P y
all_last P [] y all = all.0
all_last P (x ∷ xs) y all = all_last P xs y all.1

module _ {S : Type 0} {holds : S → List Event → Type 0} {room : S → ℕ} {old mid new : S} where
  handed_more : (sheet : Sheet) (rows : List (List ℕ)) (row : List ℕ) → Handed holds room old mid (flat_map (row_events sheet) rows) → Handed holds room mid new (row_events sheet row) → Handed holds room old new (flat_map (row_events sheet) (rows ++ row ∷ []))
  handed_more sheet rows row a b =
      subst (λ (es : List Event). Handed holds room old new es)
      (sym (flat_map-append (row_events sheet) rows (row ∷ []) ∙ ap (λ (es : List Event). flat_map (row_events sheet) rows ++ es) (append-nil (row_events sheet row))))
      (handed_both a b)

  -- a row more that holds
  pub row_holds : (sheet : Sheet) (rows : List (List ℕ)) (row : List ℕ) (told : Bool) → RowsHanded holds room old mid sheet rows told → Handed holds room mid new (row_events sheet row) → RowHolds sheet row → RowsHanded holds room old new sheet (rows ++ row ∷ []) told
  row_holds sheet rows row told a b good = record {
    handed = handed_more sheet rows row a.handed b;
    right = (λ t. all_append (RowHolds sheet) rows (row ∷ []) (a.right.0 t) (good, tt), λ all. a.right.1 (all_left (RowHolds sheet) rows (row ∷ []) all));
  }

  -- a row more that is broken
  pub row_broken : (sheet : Sheet) (rows : List (List ℕ)) (row : List ℕ) (told : Bool) → RowsHanded holds room old mid sheet rows told → Handed holds room mid new (row_events sheet row) → (RowHolds sheet row → ⊥) → RowsHanded holds room old new sheet (rows ++ row ∷ []) false
  row_broken sheet rows row told a b bad = record {
    handed = handed_more sheet rows row a.handed b;
    right = (λ t. absurd (cc), λ all. absurd (bad (all_last (RowHolds sheet) rows row all)));
  }

lists_append : (xs ys : List (Vec ℕ Global)) → lists (xs ++ ys) ≡ lists xs ++ lists ys
lists_append [] ys = refl
lists_append (x ∷ xs) ys = ap (λ (t : List (List ℕ)). x.items ∷ t) (lists_append xs ys)

pub lists_more : (rows : List (Vec ℕ Global)) (i : ℕ) (row : Vec ℕ Global) → i < length rows → row ≡ get_or rows i row → lists (take (i + 1) rows) ≡ lists (take i rows) ++ row.items ∷ []
lists_more rows i row below is =
    ap lists (take_more rows i row below) ∙ lists_append (take i rows) (get_or rows i row ∷ [])
    ∙ ap (λ (r : Vec ℕ Global). lists (take i rows) ++ r.items ∷ []) (sym is)

-- what the answer of first_broken says
pub broken_row : (sheet : Sheet) (row : List ℕ) (found : Option ℕ) → found ≡ first_from 0 (sheet.constraints row) → true ≡ is_some found → RowHolds sheet row → ⊥
broken_row sheet row None is some holds = cc
broken_row sheet row (Some place) is some holds = broken_from_some 0 (sheet.constraints row) place (sym is) holds

pub holding_row : (sheet : Sheet) (row : List ℕ) (found : Option ℕ) → found ≡ first_from 0 (sheet.constraints row) → false ≡ is_some found → RowHolds sheet row
holding_row sheet row None is some = holds_from_none 0 (sheet.constraints row) (sym is)
holding_row sheet row (Some place) is some = absurd (cc)

-- a law of all tables, at one
pub few_at : (private : ℕ → Bool) (ps : List Part) (n : ℕ) → AllByRecursion (PartBuses private) ps → (row : List ℕ) → length (row_events (get_or ps n no_part).sheet row) ≤ 256
few_at private [] n few row = lit≤ tt
few_at private (p ∷ ps) zero few row = few.0.few row
few_at private (p ∷ ps) (suc n) few row = few_at private ps n few.1 row
