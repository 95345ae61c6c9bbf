-- The row of a lookup table that code gives is that of its place.
use Rattle.std.proofs.Common.{◌≡◌, ℕ, List, refl, sym}
use Rattle.std.specs.Prelude.{Option, None, Some, ◌↔◌}
use Rattle.lookup_tables.specs.Places.{IsRowAt}
use Rattle.lookup_tables.specs.Rows.{row_at}
use Rattle.lookup_tables.proofs.RowsAt.{row_at-is}

same_rows : (a b : Option (List ℕ)) → ((row : List ℕ) → a ≡ Some row → b ≡ Some row) → ((row : List ℕ) → b ≡ Some row → a ≡ Some row) → a ≡ b
same_rows None None f g = refl
same_rows None (Some row) f g = g row refl
same_rows (Some row) b f g = sym (f row refl)

pub is_row_at : (bus place : ℕ) (found : Option (List ℕ)) → ((row : List ℕ) → found ≡ Some row ↔ IsRowAt bus place row) → found ≡ row_at bus place
is_row_at bus place found h = same_rows found (row_at bus place) (λ row is. (row_at-is bus place row).1 ((h row).0 is)) (λ row is. (h row).1 ((row_at-is bus place row).0 is))
