-- A list in an array of 8 numbers, and how it is hashed.
use Rattle.std.specs.Prelude.{◌≡◌, ℕ, ◌≤◌, ◌*◌, ◌^◌, ◌+◌, ◌==◌, List, ◌++◌, length, take, slice_index, IsTrue}
use Rattle.std.specs.Cmp.Lexicographic.{pointwise, same_text}
use Rattle.std.specs.Hash as fed
use Rattle.std.proofs.Common.{sym, ap, ◌∙◌}
use Rattle.air_core.specs.Padded.{padded, length-take-padded}
use Rattle.bus_core.specs.declared.short.ShortTuple.TheInside.{Inside}

-- four numbers as one
abbrev pub quarter : ℕ → ℕ → ℕ → ℕ → ℕ
quarter a b c d = a + b * 2 ^ 32 + c * 2 ^ 64 + d * 2 ^ 96

abbrev pub four_at : ℕ → List ℕ → ℕ
four_at i xs = quarter (slice_index xs i) (slice_index xs (i + 1)) (slice_index xs (i + 2)) (slice_index xs (i + 3))

-- what is hashed of a list
abbrev pub hashed : List ℕ → List (List ℕ)
hashed list = fed.u128 (four_at 0 (padded 8 list)) ++ fed.u128 (four_at 4 (padded 8 list))

pub hashed_alike : (x y : List ℕ) → IsTrue (pointwise ◌==◌ x y) → hashed x ≡ hashed y
hashed_alike x y e = ap hashed (same_text x y (sym e))

abbrev pub fields_of : List ℕ → ℕ → Inside
fields_of numbers len = record { numbers = numbers; len = len }

pub fields_given_back : (a : Inside) → (a.len ≤ 8) × (a.numbers ≡ padded 8 (take a.len a.numbers)) → fields_of (padded 8 (take a.len a.numbers)) (length (take a.len a.numbers)) ≡ a
fields_given_back a h =
    ap (λ n. fields_of (padded 8 (take a.len a.numbers)) n) (length-take-padded 8 a.numbers a.len h.0 h.1)
    ∙ ap (λ xs. fields_of xs a.len) (sym h.1)
