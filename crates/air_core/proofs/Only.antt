-- Rows with times: where times differ, a row is the only one of its time.
use Rattle.std.proofs.Common.{◌≡◌, ℕ, Bool, true, false, cond, nat_eq, List, [], ◌∷◌, ◌++◌, flat_map, refl, sym, ap, subst}
use Rattle.std.specs.List.{AllByRecursion}
use Rattle.air_core.specs.declared.event.Event.{Event}
use Rattle.air_core.specs.ListLemmas.{all_left, all_right}
use Rattle.air_core.specs.Orders.{Distinct}
use Rattle.air_core.specs.PartLemmas.{times_of-append, distinct_right}
use Rattle.air_core.specs.Step.{on_bus}
use Rattle.air_core.specs.System.{times_of, time_if}

-- the times of events are those of the execution bus
times_by : (e : Event) (es : List Event) (b : Bool) → nat_eq e.bus 0 ≡ b → times_of es ≡ times_of (on_bus 0 es) → times_of (e ∷ es) ≡ times_of (cond b (e ∷ []) [] ++ on_bus 0 es)
times_by e es true h same = ap (λ (ts : List ℕ). time_if e ++ ts) same
times_by e es false h same = rw h same

pub times_on_bus : (events : List Event) → times_of events ≡ times_of (on_bus 0 events)
times_on_bus [] = refl
times_on_bus (e ∷ es) = times_by e es (nat_eq e.bus 0) refl (times_on_bus es)

-- rows with different times, of which some count
module _ (said : List ℕ → List Event) (Counts : List ℕ → Type 0) (time : List ℕ → ℕ) where
  abbrev Timed : List ℕ → Type 0
  Timed row = Counts row → times_of (said row) ≡ time row ∷ []

  -- what holds of all times holds of the times of rows that count
  times_have : (Q : ℕ → Type 0) (rows : List (List ℕ)) → AllByRecursion Timed rows → AllByRecursion Q (times_of (flat_map said rows)) → AllByRecursion (λ row. Counts row → Q (time row)) rows
  times_have Q [] timed h = tt
  times_have Q (row ∷ rows) timed h =
      let all = subst (AllByRecursion Q) (times_of-append (said row) (flat_map said rows)) h in (
        λ counts. let own = subst (AllByRecursion Q) (timed.0 counts) (all_left Q (times_of (said row)) (times_of (flat_map said rows)) all) in own.0,
        times_have Q rows timed.1 (all_right Q (times_of (said row)) (times_of (flat_map said rows)) all),
      )

  abbrev pub OnlyAt : List (List ℕ) → List ℕ → Type 0
  OnlyAt rows m = AllByRecursion (λ row. Counts row → time row ≡ time m → row ≡ m) rows

  others_apart : (m : List ℕ) (rows : List (List ℕ)) → AllByRecursion (λ row. Counts row → time m ≡ time row → ⊥) rows → OnlyAt rows m
  others_apart m [] h = tt
  others_apart m (row ∷ rows) h = (λ counts same. absurd (h.0 counts (sym same)), others_apart m rows h.1)

  join_head : (x : List ℕ) (xs ms : List (List ℕ)) → (Counts x → AllByRecursion (λ row. Counts row → time x ≡ time row → ⊥) ms) → AllByRecursion (λ m. Counts m → OnlyAt xs m) ms → AllByRecursion (λ m. Counts m → OnlyAt (x ∷ xs) m) ms
  join_head x xs [] apart only = tt
  join_head x xs (m ∷ ms) apart only = (
    λ counts. (λ head same. absurd ((apart head).0 counts same), only.0 counts),
    join_head x xs ms (λ head. (apart head).1) only.1,
  )

  -- a row that counts is the only one of its time
  pub only : (rows : List (List ℕ)) → AllByRecursion Timed rows → Distinct (times_of (flat_map said rows)) → AllByRecursion (λ m. Counts m → OnlyAt rows m) rows
  only [] timed distinct = tt
  only (x ∷ xs) timed distinct =
      let all = subst Distinct (times_of-append (said x) (flat_map said xs)) distinct in
      let rest = distinct_right (times_of (said x)) (times_of (flat_map said xs)) all in
      let apart : Counts x → AllByRecursion (λ row. Counts row → time x ≡ time row → ⊥) xs = λ counts.
      let here = subst (λ (ts : List ℕ). Distinct (ts ++ times_of (flat_map said xs))) (timed.0 counts) all in
      times_have (λ t. time x ≡ t → ⊥) xs timed.1 here.0 in (
        λ counts. (λ head same. refl, others_apart x xs (apart counts)),
        join_head x xs xs apart (only xs timed.1 rest),
      )
