-- The sum of words as halves, with its two carries.
use Rattle.std.specs.Prelude.{ℕ, ◌+◌, ◌<◌, List, [], ◌∷◌, map}
use Rattle.air_core.specs.declared.bus.TheConstants.{RANGE}
use Rattle.air_core.specs.declared.event.Side.TheVariants.{Send}
use Rattle.air_core.specs.Flags.{sum_from}
use Rattle.air_core.specs.Ring.{Ring, field}
use Rattle.gadget_bits.specs.declared.halves.Halves.{Halves}
use Rattle.gadget_bits.specs.Bits.{HalvesOf}

abbrev pub lows : {A : Type 0} → List (Halves A) → List A
lows words = map (λ h. h.lo) words

abbrev pub highs : {A : Type 0} → List (Halves A) → List A
highs words = map (λ h. h.hi) words

-- (sum - half) / 65536, where 2013235201 is the inverse of 65536
unfoldable pub half_carry : {A E : Type 0} → Ring A E → A → A → A
half_carry o sum half = o.times (o.minus sum half) (o.number 2013235201)

unfoldable pub low_carry : {A E : Type 0} → Ring A E → List (Halves A) → Halves A → A
low_carry o words out = half_carry o (sum_from o (o.number 0) (lows words)) out.lo

unfoldable pub high_carry : {A E : Type 0} → Ring A E → List (Halves A) → Halves A → A
high_carry o words out = half_carry o (o.plus (sum_from o (o.number 0) (highs words)) (low_carry o words out)) out.hi

-- the carries are below 8, and the halves below 2 ^ 16
unfoldable pub sum_lines : {A E : Type 0} → Ring A E → A → List (Halves A) → Halves A → List E
sum_lines o count words out =
    o.event RANGE Send count (low_carry o words out ∷ o.number 3 ∷ [])
    ∷ o.event RANGE Send count (high_carry o words out ∷ o.number 3 ∷ [])
    ∷ o.event RANGE Send count (out.lo ∷ o.number 16 ∷ [])
    ∷ o.event RANGE Send count (out.hi ∷ o.number 16 ∷ [])
    ∷ []

-- the sum of whole numbers
abbrev pub plain_sum : List ℕ → ℕ
plain_sum [] = 0
plain_sum (x ∷ xs) = x + plain_sum xs

-- the words are these numbers
abbrev pub AllHalves : List (Halves ℕ) → List ℕ → Type 0
AllHalves [] [] = Unit {0}
AllHalves (w ∷ words) (n ∷ numbers) = HalvesOf w n × AllHalves words numbers
AllHalves _ _ = ⊥

-- what good lookups of a sum say
pub record SumGood (words : List (Halves ℕ)) (out : Halves ℕ) : Type 0 where
  pub low : low_carry field words out < 8
  pub high : high_carry field words out < 8
  pub lo : out.lo < 65536
  pub hi : out.hi < 65536
