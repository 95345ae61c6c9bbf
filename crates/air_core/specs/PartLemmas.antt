-- Lists of tables, joined, and their rows and events.
use Rattle.std.specs.Prelude.{◌≡◌, ◌≢◌, ℕ, ◌+◌, ◌<◌, ◌≤◌, Bool, true, false, if◌then◌else◌, nat_eq, List, [], ◌∷◌, ◌++◌, ◌||◌, flat_map, length, Option, Some, None, refl}
use Rattle.std.proofs.Common.{sym, ap, ◌∙◌, subst, arith, append_assoc}
use Rattle.std.specs.List.{AllByRecursion}
use Rattle.std.proofs.lemmas.Bool.{ne_eqb}
use Rattle.std.proofs.lemmas.Grind.{flat_map-append}
use Rattle.std.proofs.lemmas.List.Sums.{sum_by-append, sum_by-cons}
use Rattle.vm_isa.specs.declared.record.StepRecord.{StepRecord}
use Rattle.air_core.specs.declared.event.Event.{Event}
use Rattle.air_core.specs.declared.event.Side.{Side}
use Rattle.air_core.specs.declared.event.Side.TheVariants.{Send, Receive}
use Rattle.air_core.specs.Balance.{BalancedOn, amount_at, total}
use Rattle.air_core.specs.First.{or_else}
use Rattle.air_core.specs.ListLemmas.{all_append, all_left, all_weaker}
use Rattle.air_core.specs.Orders.{Distinct}
use Rattle.air_core.specs.Sheet.{Sheet, row_events}
use Rattle.air_core.specs.System.{Part, is_owned, owner_in, behind, all_events, EachRow, rows_of, tables_for, time_if, times_of}
use Rattle.air_core.specs.ExtensionLaws.{OnOwnBus, PartBuses}

-- ---- owners

behind_none : (o : Option ℕ) → o ≡ behind 0 o
behind_none None = refl
behind_none (Some n) = ap (λ (k : ℕ). Some k) (omega arith)

behind_else : (o p : Option ℕ) (n : ℕ) → behind 1 (or_else o (behind n p)) ≡ or_else (behind 1 o) (behind (n + 1) p)
behind_else (Some m) p n = refl
behind_else None None n = refl
behind_else None (Some m) n = ap (λ (k : ℕ). Some k) (omega arith)

owner_by : (owns : Bool) (o p q : Option ℕ) → behind 1 o ≡ or_else (behind 1 p) q
    → (if owns then Some 0 else behind 1 o) ≡ or_else (if owns then Some 0 else behind 1 p) q
owner_by true o p q h = refl
owner_by false o p q h = h

-- the owner among two lists of tables
pub owner_in-append : (xs ys : List Part) (op : ℕ) → owner_in (xs ++ ys) op ≡ or_else (owner_in xs op) (behind (length xs) (owner_in ys op))
owner_in-append [] ys op = behind_none (owner_in ys op)
owner_in-append (p ∷ xs) ys op =
    owner_by (p.sheet.owns op) (owner_in (xs ++ ys) op) (owner_in xs op) (behind (length (p ∷ xs)) (owner_in ys op))
    (ap (behind 1) (owner_in-append xs ys op) ∙ behind_else (owner_in xs op) (owner_in ys op) (length xs)
    ∙ ap (λ (n : ℕ). or_else (behind 1 (owner_in xs op)) (behind n (owner_in ys op))) (omega arith))

pub owner_joined : (xs ys : List Part) (op : ℕ) (o p : Option ℕ) → o ≡ owner_in xs op → p ≡ owner_in ys op → or_else o (behind (length xs) p) ≡ owner_in (xs ++ ys) op
owner_joined xs ys op o p e f = rw (e, f) (sym (owner_in-append xs ys op))

below_by : (n table : ℕ) (owns : Bool) (o : Option ℕ) → ((t : ℕ) → o ≡ Some t → t < n) → (if owns then Some 0 else behind 1 o) ≡ Some table → table < n + 1
below_by n table true o below h = let same : 0 ≡ table = cc in omega (arith, same)
below_by n table false None below h = absurd (cc)
below_by n table false (Some t) below h = let same : 1 + t ≡ table = cc in omega (arith, same, below t refl)

-- an owner is one of the tables
pub owner_below : (ps : List Part) (op table : ℕ) → owner_in ps op ≡ Some table → table < length ps
owner_below [] op table h = absurd (cc)
owner_below (p ∷ ps) op table h =
    let low = below_by (length ps) table (p.sheet.owns op) (owner_in ps op) (λ t e. owner_below ps op t e) h in
    omega (arith, low)

owned_by : (owns : Bool) (o : Option ℕ) (more : Bool) (table : ℕ) → ((t : ℕ) → o ≡ Some t → more ≡ true) → (if owns then Some 0 else behind 1 o) ≡ Some table → (owns || more) ≡ true
owned_by true o more table later h = refl
owned_by false None more table later h = absurd (cc)
owned_by false (Some t) more table later h = later t refl

or_of_or : (a b c : Bool) → (a || (b || c)) ≡ ((a || b) || c)
or_of_or true b c = refl
or_of_or false b c = refl

-- an owner owns the opcode
pub owned_of_owner : (ps : List Part) (op table : ℕ) → owner_in ps op ≡ Some table → is_owned ps op ≡ true
owned_of_owner [] op table h = absurd (cc)
owned_of_owner (p ∷ ps) op table h = owned_by (p.sheet.owns op) (owner_in ps op) (is_owned ps op) table (λ t e. owned_of_owner ps op t e) h

pub is_owned-append : (xs ys : List Part) (op : ℕ) → is_owned (xs ++ ys) op ≡ (is_owned xs op || is_owned ys op)
is_owned-append [] ys op = refl
is_owned-append (p ∷ xs) ys op = rw (is_owned-append xs ys op) (or_of_or (p.sheet.owns op) (is_owned xs op) (is_owned ys op))

-- ---- rows and events of tables joined

pub each_left : (P : Sheet → List ℕ → Type 0) (xs ys : List Part) (front rear : List (List (List ℕ))) → length front ≡ length xs → EachRow P (xs ++ ys) (front ++ rear) → EachRow P xs front
each_left P [] ys front rear n h = tt
each_left P (p ∷ xs) ys [] rear n h = tt
each_left P (p ∷ xs) ys (rows ∷ front) rear n h = (h.0, each_left P xs ys front rear (omega (arith, n)) h.1)

pub each_right : (P : Sheet → List ℕ → Type 0) (xs ys : List Part) (front rear : List (List (List ℕ))) → length front ≡ length xs → EachRow P (xs ++ ys) (front ++ rear) → EachRow P ys rear
each_right P [] ys [] rear n h = h
each_right P [] ys (rows ∷ front) rear n h = absurd (omega (arith, n))
each_right P (p ∷ xs) ys [] rear n h = absurd (omega (arith, n))
each_right P (p ∷ xs) ys (rows ∷ front) rear n h = each_right P xs ys front rear (omega (arith, n)) h.1

pub each_both : (P : Sheet → List ℕ → Type 0) (xs ys : List Part) (front rear : List (List (List ℕ))) → length front ≡ length xs → EachRow P xs front → EachRow P ys rear → EachRow P (xs ++ ys) (front ++ rear)
each_both P [] ys [] rear n a b = b
each_both P [] ys (rows ∷ front) rear n a b = absurd (omega (arith, n))
each_both P (p ∷ xs) ys [] rear n a b = absurd (omega (arith, n))
each_both P (p ∷ xs) ys (rows ∷ front) rear n a b = (a.0, each_both P xs ys front rear (omega (arith, n)) a.1 b)

pub events_both : (xs ys : List Part) (front rear : List (List (List ℕ))) → length front ≡ length xs → all_events (xs ++ ys) (front ++ rear) ≡ all_events xs front ++ all_events ys rear
events_both [] ys [] rear n = refl
events_both [] ys (rows ∷ front) rear n = absurd (omega (arith, n))
events_both (p ∷ xs) ys [] rear n = absurd (omega (arith, n))
events_both (p ∷ xs) ys (rows ∷ front) rear n =
    ap (λ (t : List Event). flat_map (row_events p.sheet) rows ++ t) (events_both xs ys front rear (omega (arith, n)))
    ∙ sym (append_assoc (flat_map (row_events p.sheet) rows) (all_events xs front) (all_events ys rear))

pub distinct_left : (xs ys : List ℕ) → Distinct (xs ++ ys) → Distinct xs
distinct_left [] ys h = tt
distinct_left (x ∷ xs) ys h = (all_left (λ y. x ≡ y → ⊥) xs ys h.0, distinct_left xs ys h.1)

pub distinct_right : (xs ys : List ℕ) → Distinct (xs ++ ys) → Distinct ys
distinct_right [] ys h = h
distinct_right (x ∷ xs) ys h = distinct_right xs ys h.1

pub times_of-append : (xs ys : List Event) → times_of (xs ++ ys) ≡ times_of xs ++ times_of ys
times_of-append xs ys = flat_map-append time_if xs ys

-- ---- the rows of a record

pub each_filled : (P : Sheet → List ℕ → Type 0) (done : StepRecord) (xs ys : List Part) → EachRow P xs (tables_for done xs) → EachRow P ys (tables_for done ys)
    → EachRow P (xs ++ ys) (tables_for done (xs ++ ys))
each_filled P done [] ys a b = b
each_filled P done (p ∷ xs) ys a b = (a.0, each_filled P done xs ys a.1 b)

pub events_filled : (done : StepRecord) (xs ys : List Part) → all_events (xs ++ ys) (tables_for done (xs ++ ys)) ≡ all_events xs (tables_for done xs) ++ all_events ys (tables_for done ys)
events_filled done [] ys = refl
events_filled done (p ∷ xs) ys =
    ap (λ (t : List Event). flat_map (row_events p.sheet) (rows_of done p) ++ t) (events_filled done xs ys)
    ∙ sym (append_assoc (flat_map (row_events p.sheet) (rows_of done p)) (all_events xs (tables_for done xs)) (all_events ys (tables_for done ys)))

-- where no row is filled
pub each_unfilled : (P : Sheet → List ℕ → Type 0) (done : StepRecord) (ps : List Part) → AllByRecursion (λ p. p.rows_for done ≡ 0) ps → EachRow P ps (tables_for done ps)
each_unfilled P done [] h = tt
each_unfilled P done (p ∷ ps) h = (rw h.0 tt, each_unfilled P done ps h.1)

pub events_unfilled : (done : StepRecord) (ps : List Part) → AllByRecursion (λ p. p.rows_for done ≡ 0) ps → all_events ps (tables_for done ps) ≡ []
events_unfilled done [] h = refl
events_unfilled done (p ∷ ps) h = rw h.0 (events_unfilled done ps h.1)

-- ---- what balances on some buses

-- of events that are not on a bus nothing is counted there
pub total_elsewhere : (side : Side) (bus : ℕ) (tuple : List ℕ) (events : List Event) → AllByRecursion (λ e. e.bus ≢ bus) events → total side bus tuple events ≡ 0
total_elsewhere side bus tuple [] h = refl
total_elsewhere side bus tuple (e ∷ events) h =
    let off : nat_eq e.bus bus ≡ false = ne_eqb e.bus bus h.0 in
    let nothing : amount_at side bus tuple e ≡ 0 = rw off refl in
    omega (arith, sum_by-cons (amount_at side bus tuple) e events, nothing, total_elsewhere side bus tuple events h.1)

-- an event with a bus that is none of the machine's is on one that passes the test
abbrev pub OwnOnly : (ℕ → Bool) → Event → Type 0
OwnOnly private e = 6 ≤ e.bus → private e.bus ≡ true

-- events of other buses: `private` has not this one
pub away : (private : ℕ → Bool) (bus : ℕ) → 6 ≤ bus → (private bus ≡ true → ⊥) → (events : List Event) → AllByRecursion (OwnOnly private) events → AllByRecursion (λ e. e.bus ≢ bus) events
away private bus high off events own =
    all_weaker (OwnOnly private) (λ e. e.bus ≢ bus) (λ e h same. off (subst (λ (b : ℕ). private b ≡ true) same (h (omega (arith, same, high))))) events own

rows_own : (private : ℕ → Bool) (p : Part) → PartBuses private p → (rows : List (List ℕ)) → AllByRecursion (OwnOnly private) (flat_map (row_events p.sheet) rows)
rows_own private p buses [] = tt
rows_own private p buses (row ∷ rows) =
    all_append (OwnOnly private) (row_events p.sheet row) (flat_map (row_events p.sheet) rows)
    (all_weaker (OnOwnBus private p.sheet) (OwnOnly private) (λ e h. h.own) (row_events p.sheet row) (buses.uses row))
    (rows_own private p buses rows)

pub all_own : (private : ℕ → Bool) (ps : List Part) → AllByRecursion (PartBuses private) ps → (tables : List (List (List ℕ))) → AllByRecursion (OwnOnly private) (all_events ps tables)
all_own private [] buses tables = tt
all_own private (p ∷ ps) buses [] = tt
all_own private (p ∷ ps) buses (rows ∷ tables) =
    all_append (OwnOnly private) (flat_map (row_events p.sheet) rows) (all_events ps tables)
    (rows_own private p buses.0 rows) (all_own private ps buses.1 tables)

-- what balances together balances alone, where the others are elsewhere
pub balanced_first : (on both : ℕ → Bool) (xs ys : List Event) → ((bus : ℕ) → on bus ≡ true → both bus ≡ true) → ((bus : ℕ) → on bus ≡ true → AllByRecursion (λ e. e.bus ≢ bus) ys)
    → BalancedOn both (xs ++ ys) → BalancedOn on xs
balanced_first on both xs ys part elsewhere balanced = record {
  even = λ bus tuple h.
      omega (arith, balanced.even bus tuple (part bus h), sum_by-append (amount_at Send bus tuple) xs ys, sum_by-append (amount_at Receive bus tuple) xs ys, total_elsewhere Send bus tuple ys (elsewhere bus h), total_elsewhere Receive bus tuple ys (elsewhere bus h));
}

pub balanced_second : (on both : ℕ → Bool) (xs ys : List Event) → ((bus : ℕ) → on bus ≡ true → both bus ≡ true) → ((bus : ℕ) → on bus ≡ true → AllByRecursion (λ e. e.bus ≢ bus) xs)
    → BalancedOn both (xs ++ ys) → BalancedOn on ys
balanced_second on both xs ys part elsewhere balanced = record {
  even = λ bus tuple h.
      omega (arith, balanced.even bus tuple (part bus h), sum_by-append (amount_at Send bus tuple) xs ys, sum_by-append (amount_at Receive bus tuple) xs ys, total_elsewhere Send bus tuple xs (elsewhere bus h), total_elsewhere Receive bus tuple xs (elsewhere bus h));
}
