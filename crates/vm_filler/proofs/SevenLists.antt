-- Seven lists of events that balance together: the connector, the rows, what four tables receive, and the pages.
use Rattle.std.proofs.Common.{◌≡◌, ◌≢◌, ℕ, zero, suc, ◌+◌, ◌≤◌, List, ◌++◌, sym, ◌∙◌, arith}
use Rattle.std.specs.List.{AllByRecursion}
use Rattle.air_core.specs.declared.event.Event.{Event}
use Rattle.air_core.specs.declared.event.Side.{Side}
use Rattle.air_core.specs.declared.event.Side.TheVariants.{Send, Receive}
use Rattle.air_core.specs.Balance.{total, IsEven, Balanced}
use Rattle.air_core.specs.ListLemmas.{all_weaker}
use Rattle.air_core.specs.PartLemmas.{total_elsewhere}
use Rattle.air_core.proofs.BalanceLemmas.{total-append}

-- events of one bus say nothing on another
pub only_there : (here bus : ℕ) → bus ≢ here → (side : Side) (tuple : List ℕ) (events : List Event) → AllByRecursion (λ e. e.bus ≡ here) events → total side bus tuple events ≡ 0
only_there here bus differs side tuple events all =
    total_elsewhere side bus tuple events (all_weaker (λ e. e.bus ≡ here) (λ e. e.bus ≢ bus) (λ e same there. differs (sym there ∙ same)) events all)

-- events of one bus are even on another
pub off : (here bus : ℕ) → bus ≢ here → (tuple : List ℕ) (events : List Event) → AllByRecursion (λ e. e.bus ≡ here) events → total Send bus tuple events ≡ total Receive bus tuple events
off here bus differs tuple events all = only_there here bus differs Send tuple events all ∙ sym (only_there here bus differs Receive tuple events all)

-- what two lists send on a bus they receive there
abbrev pub EvenTogether : ℕ → List Event → List Event → Type 0
EvenTogether bus xs ys = (tuple : List ℕ) → total Send bus tuple xs + total Send bus tuple ys ≡ total Receive bus tuple xs + total Receive bus tuple ys

abbrev pub Only : ℕ → List Event → Type 0
Only bus events = AllByRecursion (λ e. e.bus ≡ bus) events

pub record Fit (a rows b c d e f : List Event) : Type 0 where
  pub connector : Only 0 a
  pub pages : Only 2 b
  pub program : Only 1 c
  pub xor : Only 3 d
  pub range : Only 4 e
  pub constants : Only 5 f
  pub path_even : EvenTogether 0 a rows
  pub memory_even : EvenTogether 2 rows b
  pub program_even : EvenTogether 1 rows c
  pub xor_even : EvenTogether 3 rows d
  pub range_even : EvenTogether 4 rows e
  pub constants_even : EvenTogether 5 rows f
  pub other_even : (bus : ℕ) (tuple : List ℕ) → 6 ≤ bus → IsEven bus tuple rows

seven : (side : Side) (bus : ℕ) (tuple : List ℕ) (a rows b c d e f : List Event) → total side bus tuple (a ++ (rows ++ ((c ++ (d ++ (e ++ f))) ++ b)))
    ≡ total side bus tuple a + (total side bus tuple rows + (total side bus tuple b + (total side bus tuple c + (total side bus tuple d + (total side bus tuple e + total side bus tuple f)))))
seven side bus tuple a rows b c d e f =
    omega (
      arith,
      total-append side bus tuple a (rows ++ ((c ++ (d ++ (e ++ f))) ++ b)),
      total-append side bus tuple rows ((c ++ (d ++ (e ++ f))) ++ b),
      total-append side bus tuple (c ++ (d ++ (e ++ f))) b,
      total-append side bus tuple c (d ++ (e ++ f)),
      total-append side bus tuple d (e ++ f),
      total-append side bus tuple e f,
    )

module _ (a rows b c d e f : List Event) (fit : Fit a rows b c d e f) (tuple : List ℕ) where
  off_a : (bus : ℕ) → bus ≢ 0 → total Send bus tuple a ≡ total Receive bus tuple a
  off_a bus h = off 0 bus h tuple a fit.connector

  off_b : (bus : ℕ) → bus ≢ 2 → total Send bus tuple b ≡ total Receive bus tuple b
  off_b bus h = off 2 bus h tuple b fit.pages

  off_c : (bus : ℕ) → bus ≢ 1 → total Send bus tuple c ≡ total Receive bus tuple c
  off_c bus h = off 1 bus h tuple c fit.program

  off_d : (bus : ℕ) → bus ≢ 3 → total Send bus tuple d ≡ total Receive bus tuple d
  off_d bus h = off 3 bus h tuple d fit.xor

  off_e : (bus : ℕ) → bus ≢ 4 → total Send bus tuple e ≡ total Receive bus tuple e
  off_e bus h = off 4 bus h tuple e fit.range

  off_f : (bus : ℕ) → bus ≢ 5 → total Send bus tuple f ≡ total Receive bus tuple f
  off_f bus h = off 5 bus h tuple f fit.constants

  sums : (bus : ℕ)
      → total Send bus tuple a + (total Send bus tuple rows + (total Send bus tuple b + (total Send bus tuple c + (total Send bus tuple d + (total Send bus tuple e + total Send bus tuple f)))))
      ≡ total Receive bus tuple a + (total Receive bus tuple rows + (total Receive bus tuple b + (total Receive bus tuple c + (total Receive bus tuple d + (total Receive bus tuple e + total Receive bus tuple f)))))
  sums zero =
      omega (arith, fit.path_even tuple, off_b 0 (λ h. omega (arith, h)), off_c 0 (λ h. omega (arith, h)), off_d 0 (λ h. omega (arith, h)), off_e 0 (λ h. omega (arith, h)), off_f 0 (λ h. omega (arith, h)))
  sums (suc zero) =
      omega (arith, fit.program_even tuple, off_a 1 (λ h. omega (arith, h)), off_b 1 (λ h. omega (arith, h)), off_d 1 (λ h. omega (arith, h)), off_e 1 (λ h. omega (arith, h)), off_f 1 (λ h. omega (arith, h)))
  sums (suc (suc zero)) =
      omega (arith, fit.memory_even tuple, off_a 2 (λ h. omega (arith, h)), off_c 2 (λ h. omega (arith, h)), off_d 2 (λ h. omega (arith, h)), off_e 2 (λ h. omega (arith, h)), off_f 2 (λ h. omega (arith, h)))
  sums (suc (suc (suc zero))) =
      omega (arith, fit.xor_even tuple, off_a 3 (λ h. omega (arith, h)), off_b 3 (λ h. omega (arith, h)), off_c 3 (λ h. omega (arith, h)), off_e 3 (λ h. omega (arith, h)), off_f 3 (λ h. omega (arith, h)))
  sums (suc (suc (suc (suc zero)))) =
      omega (arith, fit.range_even tuple, off_a 4 (λ h. omega (arith, h)), off_b 4 (λ h. omega (arith, h)), off_c 4 (λ h. omega (arith, h)), off_d 4 (λ h. omega (arith, h)), off_f 4 (λ h. omega (arith, h)))
  sums (suc (suc (suc (suc (suc zero))))) =
      omega (arith, fit.constants_even tuple, off_a 5 (λ h. omega (arith, h)), off_b 5 (λ h. omega (arith, h)), off_c 5 (λ h. omega (arith, h)), off_d 5 (λ h. omega (arith, h)), off_e 5 (λ h. omega (arith, h)))
  sums (suc (suc (suc (suc (suc (suc n)))))) =
      let bus : ℕ = suc (suc (suc (suc (suc (suc n))))) in
      omega (
        arith,
        fit.other_even bus tuple (omega arith),
        off_a bus (λ h. omega (arith, h)),
        off_b bus (λ h. omega (arith, h)),
        off_c bus (λ h. omega (arith, h)),
        off_d bus (λ h. omega (arith, h)),
        off_e bus (λ h. omega (arith, h)),
        off_f bus (λ h. omega (arith, h)),
      )

  seven_even : (bus : ℕ) → IsEven bus tuple (a ++ (rows ++ ((c ++ (d ++ (e ++ f))) ++ b)))
  seven_even bus = seven Send bus tuple a rows b c d e f ∙ sums bus ∙ sym (seven Receive bus tuple a rows b c d e f)

pub seven_balance : (a rows b c d e f : List Event) → Fit a rows b c d e f → Balanced (a ++ (rows ++ ((c ++ (d ++ (e ++ f))) ++ b)))
seven_balance a rows b c d e f fit = record { even = λ bus tuple. seven_even a rows b c d e f fit tuple bus }
