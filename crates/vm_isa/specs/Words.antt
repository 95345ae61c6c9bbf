-- Words as lists of four bytes, lowest first.
use Rattle.std.specs.Prelude.{◌≡◌, ℕ, List, length}
pub use Rattle.vm_word.specs.Bytes.{IsBytes}

-- four bytes
pub record IsWord (xs : List ℕ) : Type 0 where
  pub four : length xs ≡ 4
  pub bytes : IsBytes xs
