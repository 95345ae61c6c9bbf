-- Lists of events and of facts.
use Rattle.std.proofs.Common.{◌≡◌, ◌≢◌, ℕ, zero, suc, ◌+◌, ◌≤◌, ◌<◌, Bool, true, false, cond, nat_eq, List, [], ◌∷◌, ◌++◌, length, arith, length-append, refl, slice_index, take, drop, ◌&&◌, zero-add, subst}
use Rattle.std.specs.List.{AllByRecursion}
use Rattle.std.proofs.lemmas.Bool.{ne_eqb, eq-eqb, eqb-true, and_parts}
use Rattle.std.proofs.lemmas.Grind.{flat_map-append}
use Rattle.std.proofs.Math.Nat.{suc-add}
use Rattle.air_core.specs.declared.event.Event.{Event}
use Rattle.air_core.specs.Sheet.{counted, if_counted}
use Rattle.air_core.specs.Step.{on_bus, if_on}

pub all_append : {X : Type 0} (P : X → Type 0) (xs ys : List X) → AllByRecursion P xs → AllByRecursion P ys → AllByRecursion P (xs ++ ys)
all_append P [] ys a b = b
all_append P (x ∷ xs) ys a b = (a.0, all_append P xs ys a.1 b)

pub all_left : {X : Type 0} (P : X → Type 0) (xs ys : List X) → AllByRecursion P (xs ++ ys) → AllByRecursion P xs
all_left P [] ys h = tt
all_left P (x ∷ xs) ys h = (h.0, all_left P xs ys h.1)

pub all_right : {X : Type 0} (P : X → Type 0) (xs ys : List X) → AllByRecursion P (xs ++ ys) → AllByRecursion P ys
all_right P [] ys h = h
all_right P (x ∷ xs) ys h = all_right P xs ys h.1

pub all_weaker : {X : Type 0} (P Q : X → Type 0) → ((x : X) → P x → Q x) → (xs : List X) → AllByRecursion P xs → AllByRecursion Q xs
all_weaker P Q f [] a = tt
all_weaker P Q f (x ∷ xs) a = (f x a.0, all_weaker P Q f xs a.1)

-- what holds of each counted event
if_counted_back : (P : Event → Type 0) (e : Event) → AllByRecursion P (if_counted e) → e.count ≢ 0 → P e
if_counted_back P e h n =
    let some : nat_eq e.count 0 ≡ false = ne_eqb e.count 0 n in
    let at : AllByRecursion P (e ∷ []) = rw some at h in
    at.0

pub all_counted_back : (P : Event → Type 0) (events : List Event) → AllByRecursion P (counted events) → AllByRecursion (λ e. e.count ≢ 0 → P e) events
all_counted_back P [] h = tt
all_counted_back P (e ∷ es) h =
    (λ n. if_counted_back P e (all_left P (if_counted e) (counted es) h) n, all_counted_back P es (all_right P (if_counted e) (counted es) h))

if_counted_all : (P : Event → Type 0) (e : Event) (b : Bool) → P e → AllByRecursion P (cond b [] (e ∷ []))
if_counted_all P e true h = tt
if_counted_all P e false h = (h, tt)

pub all_counted : (P : Event → Type 0) (events : List Event) → AllByRecursion P events → AllByRecursion P (counted events)
all_counted P [] h = tt
all_counted P (e ∷ es) h = all_append P (if_counted e) (counted es) (if_counted_all P e (nat_eq e.count 0) h.0) (all_counted P es h.1)

-- an event of count 0 need not be good
if_counted_some : (P : Event → Type 0) (e : Event) (b : Bool) → nat_eq e.count 0 ≡ b → (e.count ≢ 0 → P e) → AllByRecursion P (cond b [] (e ∷ []))
if_counted_some P e true same h = tt
if_counted_some P e false same h = (h (λ zero. absurd (let t : nat_eq e.count 0 ≡ true = eq-eqb e.count 0 zero in cc)), tt)

pub all_counted_some : (P : Event → Type 0) (events : List Event) → AllByRecursion (λ e. e.count ≢ 0 → P e) events → AllByRecursion P (counted events)
all_counted_some P [] h = tt
all_counted_some P (e ∷ es) h = all_append P (if_counted e) (counted es) (if_counted_some P e (nat_eq e.count 0) refl h.0) (all_counted_some P es h.1)

pub counted-append : (xs ys : List Event) → counted (xs ++ ys) ≡ counted xs ++ counted ys
counted-append xs ys = flat_map-append if_counted xs ys

pub on_bus-append : (bus : ℕ) (xs ys : List Event) → on_bus bus (xs ++ ys) ≡ on_bus bus xs ++ on_bus bus ys
on_bus-append bus xs ys = flat_map-append (if_on bus) xs ys

-- events of count 0 are not said
pub counted_none : (events : List Event) → AllByRecursion (λ e. e.count ≡ 0) events → counted events ≡ []
counted_none [] h = refl
counted_none (e ∷ es) h = rw (eq-eqb e.count 0 h.0) (counted_none es h.1)

if_counted_length : (e : Event) (b : Bool) → length (cond b [] (e ∷ [])) ≤ 1
if_counted_length e true = omega arith
if_counted_length e false = omega arith

pub counted_length : (events : List Event) → length (counted events) ≤ length events
counted_length [] = omega arith
counted_length (e ∷ es) =
    omega (arith, length-append (if_counted e) (counted es), if_counted_length e (nat_eq e.count 0), counted_length es)

-- events of other buses are not on a bus
pub on_bus_none : (bus : ℕ) (events : List Event) → AllByRecursion (λ e. e.bus ≢ bus) events → on_bus bus events ≡ []
on_bus_none bus [] h = refl
on_bus_none bus (e ∷ es) h = rw (ne_eqb e.bus bus h.0) (on_bus_none bus es h.1)

-- the element at a place of a row of elements
pub below_at : (xs : List ℕ) (i : ℕ) → AllByRecursion (λ x. x < 2013265921) xs → slice_index xs i < 2013265921
below_at [] i h = omega arith
below_at (x ∷ xs) zero h = h.0
below_at (x ∷ xs) (suc i) h = below_at xs i h.1

-- a list of numerals that are all 0, by computing
unfoldable pub zero_test : List ℕ → Bool
zero_test [] = true
zero_test (x ∷ xs) = nat_eq x 0 && zero_test xs

pub by_zero_test : (xs : List ℕ) → zero_test xs ≡ true → AllByRecursion (λ x. x ≡ 0) xs
unfolding zero_test
by_zero_test [] h = tt
by_zero_test (x ∷ xs) h =
    let parts = and_parts (nat_eq x 0) (zero_test xs) h in
    (eqb-true x 0 parts.0, by_zero_test xs parts.1)

-- a column among some that are 0
pub zero_behind : (d n : ℕ) (row : List ℕ) (i : ℕ) → AllByRecursion (λ x. x ≡ 0) (take n (drop d row)) → i < n → slice_index row (d + i) ≡ 0
zero_behind d n [] i h low = refl
zero_behind zero zero (x ∷ row) i h low = absurd (omega arith)
zero_behind zero (suc n) (x ∷ row) zero h low = h.0
zero_behind zero (suc n) (x ∷ row) (suc i) h low = rw zero-add (subst (λ k. slice_index row k ≡ 0) (zero-add i) (zero_behind zero n row i h.1 (omega arith)))
zero_behind (suc d) n (x ∷ row) i h low = rw suc-add (zero_behind d n row i h low)
