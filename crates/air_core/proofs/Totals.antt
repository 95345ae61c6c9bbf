-- Sums of counts on one bus: of its events in any order, of the events of a list of rows, and of single events.
use Rattle.std.proofs.Common.{◌≡◌, ℕ, Bool, true, false, cond, nat_eq, List, [], ◌∷◌, ◌++◌, refl, sym, ◌∙◌, arith}
use Rattle.std.specs.Prelude.{flat_map, IsPermutation}
use Rattle.std.specs.List.{AllByRecursion}
use Rattle.std.specs.Cmp.Lexicographic.{pointwise}
use Rattle.std.proofs.lemmas.Bool.{eq-eqb}
use Rattle.air_core.specs.declared.event.Event.{Event}
use Rattle.air_core.specs.declared.event.Side.{Side}
use Rattle.air_core.specs.declared.event.Side.TheVariants.{Send, Receive}
use Rattle.air_core.specs.Balance.{total, amount_at, BalancedOn}
use Rattle.air_core.specs.Sheet.{sent, received}
use Rattle.air_core.specs.Step.{on_bus, if_on}
use Rattle.air_core.proofs.BalanceLemmas.{total-append, total-cons, total-IsPermutation}
use Rattle.air_core.specs.Counts.{weight, once}
use Rattle.air_core.specs.Totals.{SameTotals, is_bus}

-- the test for equal tuples
abbrev pub same_tuple : List ℕ → List ℕ → Bool
same_tuple a b = pointwise nat_eq a b

-- the total over the events of all rows, where each row's is known
pub total_each : {X : Type 0} (side : Side) (bus : ℕ) (tuple : List ℕ) (f : X → List Event) (w : X → ℕ) → ((row : X) → total side bus tuple (f row) ≡ w row) → (rows : List X) → total side bus tuple (flat_map f rows) ≡ weight w rows
total_each side bus tuple f w each [] = refl
total_each side bus tuple f w each (row ∷ rows) = omega (arith, total-append side bus tuple (f row) (flat_map f rows), each row, total_each side bus tuple f w each rows)

-- an event counts among those of the bus as it does anywhere
by_bus : (side : Side) (bus : ℕ) (tuple : List ℕ) (e : Event) (b : Bool) → nat_eq e.bus bus ≡ b → total side bus tuple (cond b (e ∷ []) []) ≡ amount_at side bus tuple e
by_bus side bus tuple e true h = total-cons side bus tuple e [] ∙ omega arith
by_bus side bus tuple e false h = rw h refl

pub total-on_bus : (side : Side) (bus : ℕ) (tuple : List ℕ) (events : List Event) → total side bus tuple (on_bus bus events) ≡ total side bus tuple events
total-on_bus side bus tuple [] = refl
total-on_bus side bus tuple (e ∷ events) =
    omega (arith, total-append side bus tuple (if_on bus e) (on_bus bus events), by_bus side bus tuple e (nat_eq e.bus bus) refl, total-on_bus side bus tuple events, total-cons side bus tuple e events)

pub SameTotals-listed : (bus : ℕ) (events listed : List Event) → IsPermutation listed (on_bus bus events) → SameTotals bus events listed
SameTotals-listed bus events listed p = record {
  sums = λ side tuple. sym (total-on_bus side bus tuple events) ∙ total-IsPermutation side bus tuple listed (on_bus bus events) p;
}

pub SameTotals-append : (bus : ℕ) (xs ys us vs : List Event) → SameTotals bus xs us → SameTotals bus ys vs → SameTotals bus (xs ++ ys) (us ++ vs)
SameTotals-append bus xs ys us vs h k = record {
  sums = λ side tuple. omega (arith, total-append side bus tuple xs ys, total-append side bus tuple us vs, h.sums side tuple, k.sums side tuple);
}

-- row by row
pub SameTotals-flat_map : {X : Type 0} (bus : ℕ) (f g : X → List Event) (rows : List X) → AllByRecursion (λ row. SameTotals bus (f row) (g row)) rows → SameTotals bus (flat_map f rows) (flat_map g rows)
SameTotals-flat_map bus f g [] same = record { sums = λ side tuple. refl }
SameTotals-flat_map bus f g (row ∷ rows) same =
    SameTotals-append bus (f row) (flat_map f rows) (g row) (flat_map g rows) same.0 (SameTotals-flat_map bus f g rows same.1)

-- what balances on a bus, and another list with its totals
pub balanced_same : (bus : ℕ) (xs ys : List Event) → BalancedOn (is_bus bus) xs → SameTotals bus xs ys → (tuple : List ℕ) → total Send bus tuple ys ≡ total Receive bus tuple ys
balanced_same bus xs ys balanced same tuple = sym (same.sums Send tuple) ∙ balanced.even bus tuple (eq-eqb bus bus refl) ∙ same.sums Receive tuple

-- One event of count 1, and one tuple received for another one sent.

at_send : (bus : ℕ) (tuple given : List ℕ) → amount_at Send bus tuple (sent bus 1 given) ≡ once (same_tuple given tuple)
at_send bus tuple given = rw (eq-eqb bus bus refl) refl

at_receive : (bus : ℕ) (tuple taken : List ℕ) → amount_at Receive bus tuple (received bus 1 taken) ≡ once (same_tuple taken tuple)
at_receive bus tuple taken = rw (eq-eqb bus bus refl) refl

not_sent : (bus : ℕ) (tuple taken : List ℕ) → amount_at Send bus tuple (received bus 1 taken) ≡ 0
not_sent bus tuple taken = rw (eq-eqb bus bus refl) refl

not_received : (bus : ℕ) (tuple given : List ℕ) → amount_at Receive bus tuple (sent bus 1 given) ≡ 0
not_received bus tuple given = rw (eq-eqb bus bus refl) refl

pub total_send-exchange : (bus : ℕ) (tuple taken given : List ℕ) → total Send bus tuple (received bus 1 taken ∷ sent bus 1 given ∷ []) ≡ once (same_tuple given tuple)
total_send-exchange bus tuple taken given =
    omega (arith, total-cons Send bus tuple (received bus 1 taken) (sent bus 1 given ∷ []), total-cons Send bus tuple (sent bus 1 given) [], not_sent bus tuple taken, at_send bus tuple given)

pub total_receive-exchange : (bus : ℕ) (tuple taken given : List ℕ) → total Receive bus tuple (received bus 1 taken ∷ sent bus 1 given ∷ []) ≡ once (same_tuple taken tuple)
total_receive-exchange bus tuple taken given =
    omega (arith, total-cons Receive bus tuple (received bus 1 taken) (sent bus 1 given ∷ []), total-cons Receive bus tuple (sent bus 1 given) [], at_receive bus tuple taken, not_received bus tuple given)

-- the same two events in the other order
pub total_send-given_first : (bus : ℕ) (tuple taken given : List ℕ) → total Send bus tuple (sent bus 1 given ∷ received bus 1 taken ∷ []) ≡ once (same_tuple given tuple)
total_send-given_first bus tuple taken given =
    omega (arith, total-cons Send bus tuple (sent bus 1 given) (received bus 1 taken ∷ []), total-cons Send bus tuple (received bus 1 taken) [], not_sent bus tuple taken, at_send bus tuple given)

pub total_receive-given_first : (bus : ℕ) (tuple taken given : List ℕ) → total Receive bus tuple (sent bus 1 given ∷ received bus 1 taken ∷ []) ≡ once (same_tuple taken tuple)
total_receive-given_first bus tuple taken given =
    omega (arith, total-cons Receive bus tuple (sent bus 1 given) (received bus 1 taken ∷ []), total-cons Receive bus tuple (received bus 1 taken) [], not_received bus tuple given, at_receive bus tuple taken)
