-- Laws of the definitions that the contracts cite. Each is the contract of a function in src/laws.rt.
use Rattle.std.specs.Prelude.{◌≡◌, ℕ, ◌≤◌, ◌<◌, ◌↔◌, List, length, slice_index, IsTrue}
use Rattle.sha_words.specs.Sha256.{block_word, compress, next_word, rounds, schedule, sums_of}
use Rattle.sha_words.specs.Roots.{are_root_fractions, primes_below}
use Rattle.sha_words.specs.declared.constants.TheConstants.{INITIAL, ROUND_CONSTANTS}

-- the first n words are a block's schedule as the standard has it (6.2.2, step 1)
pub record IsSchedule (block words : List ℕ) (n : ℕ) : Type 0 where
  pub long : length words ≡ n
  pub first : (t : ℕ) → t < 16 → t < n → slice_index words t ≡ block_word block t
  pub next : (t : ℕ) → 16 ≤ t → t < n → slice_index words t ≡ next_word words t

-- a list is the schedule just where each of its words follows the standard's rule
abbrev pub ScheduleIsTheStandards : Type 0
ScheduleIsTheStandards = (block words : List ℕ) (n : ℕ) → IsSchedule block words n ↔ (words ≡ schedule block n)

-- the compression is 64 rounds over the schedule, of which only the first 64 words matter, and eight sums
abbrev pub CompressionIsRounds : Type 0
CompressionIsRounds = (state block : List ℕ) (n : ℕ) → 64 ≤ n
    → compress state block ≡ sums_of state (rounds state (schedule block n) 64)

-- the round constants are the first bits of the fractional parts of the cube roots of the 64 primes
-- below 312 (4.2.2)
abbrev pub RoundConstantsAreCubeRoots : Type 0
RoundConstantsAreCubeRoots = (length (primes_below 312) ≡ 64) × IsTrue (are_root_fractions 3 (primes_below 312) ROUND_CONSTANTS)

-- the initial hash value is that of the square roots of the 8 primes below 20 (5.3.3)
abbrev pub InitialIsSquareRoots : Type 0
InitialIsSquareRoots = (length (primes_below 20) ≡ 8) × IsTrue (are_root_fractions 2 (primes_below 20) INITIAL)
