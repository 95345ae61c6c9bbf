-- Where loops over numbered items stand.
use Rattle.std.proofs.Common.{◌≡◌, ℕ, zero, suc, ◌+◌, ◌*◌, ◌^◌, ◌<◌, ◌≤◌, List, [], ◌∷◌, length, get_or, drop, refl, subst, ◌∙◌, arith}
use Rattle.std.specs.List.{AllByRecursion}
use Rattle.std.proofs.Math.Pow.{pow_mono}
use Rattle.std.proofs.lemmas.Nat.{mul-le}
use Rattle.std.proofs.lemmas.List.{drop_more}
use Rattle.readings.specs.Readings.{Reading}
use Rattle.readings.proofs.Gives.{state_after}
use Rattle.vm_host.specs.State.{HostState}
use Rattle.vm_trace.specs.Canonical.{height_of}
use Rattle.air_core.specs.System.{Part, no_part}
use Rattle.table_format.specs.declared.reason.Reason.{Reason}
use Rattle.table_format.specs.Order.{next_place}
use Rattle.table_format.specs.Stream.{Held}
use Rattle.table_format.proofs.Drawn.{Drew, Halts}
use Rattle.readings.specs.declared.Stop.{Stop}
use Rattle.vm_checker.specs.FirstReason.{slots_of}

place_after : {V : Type 0} (x : ℕ) (vs : List V) → state_after next_place x vs ≡ x + length vs
place_after x [] = omega arith
place_after x (v ∷ vs) = place_after (x + 1) vs ∙ omega arith

-- behind so many values the place is their number
pub here : {V : Type 0} (vs : List V) (count : ℕ) → length vs ≡ count → count ≡ state_after next_place 0 vs
here vs count is = omega (arith, place_after 0 vs, is)

pub drew_here : {V W : Type 0} (r : ℕ → Reading Reason V) (vs : List W) {count : ℕ} {a b : Held} {s t : HostState} {v : V} → length vs ≡ count → Drew (r count) a b s t v → Drew (r (state_after next_place 0 vs)) a b s t v
drew_here r vs {count} {a} {b} {s} {t} {v} is h = subst (λ (k : ℕ). Drew (r k) a b s t v) (here vs count is) h

pub halts_here : {V W : Type 0} (r : ℕ → Reading Reason V) (vs : List W) {count : ℕ} {a b : Held} {s t : HostState} {e : Stop Reason} → length vs ≡ count → Halts (r count) a b s t e → Halts (r (state_after next_place 0 vs)) a b s t e
halts_here r vs {count} {a} {b} {s} {t} {e} is h = subst (λ (k : ℕ). Halts (r k) a b s t e) (here vs count is) h

-- ---- slots

pub slots_more : (ps : List Part) (cs : List ℕ) (i : ℕ) → i < length ps → i < length cs
    → slots_of (drop i ps) (drop i cs) ≡ height_of (get_or cs i 0) * (get_or ps i no_part).sheet.slots + slots_of (drop (i + 1) ps) (drop (i + 1) cs)
slots_more ps cs i low below = rw (drop_more ps i no_part low, drop_more cs i 0 below) refl

low : (k : ℕ) → suc k ≤ 25 → k ≤ 24
low k h = omega (arith, h)

pub height_small : (code : ℕ) → code ≤ 25 → height_of code ≤ 2 ^ 24
height_small zero h = omega arith
height_small (suc k) h = pow_mono (low k h)

pub slots_step : (sum here more rest total : ℕ) → here ≡ more + rest → sum + here ≡ total → (sum + more) + rest ≡ total
slots_step sum here more rest total is whole = omega (arith, is, whole)

pub add_small : (sum i more : ℕ) → sum ≤ i * 2 ^ 56 → more ≤ 2 ^ 56 → sum + more ≤ (i + 1) * 2 ^ 56
add_small sum i more small below = omega (arith, small, below)

pub product_small : (a b : ℕ) → a ≤ 2 ^ 24 → b < 2 ^ 32 → a * b ≤ 2 ^ 56
product_small a b small below = mul-le a b (2 ^ 24) (2 ^ 32) small (omega (arith, below))

-- ---- what holds of each

module _ {X : Type 0} (P : X → Type 0) where
  pub all_at_place : (xs : List X) (i : ℕ) (d : X) → AllByRecursion P xs → i < length xs → P (get_or xs i d)
  all_at_place [] i d all low = absurd (omega (arith, low))
  all_at_place (x ∷ xs) zero d all low = all.0
  all_at_place (x ∷ xs) (suc i) d all low = all_at_place xs i d all.1 (omega (arith, low))
