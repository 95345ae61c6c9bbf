-- Lists of columns that are looked up in the range table.
use Rattle.std.proofs.Common.{◌≡◌, ◌≢◌, ℕ, ◌^◌, ◌<◌, ◌≤◌, List, [], ◌∷◌, refl}
use Rattle.std.specs.List.{AllByRecursion}
use Rattle.air_core.specs.Lookups.{GoodEvent}
use Rattle.air_core.proofs.LookupLemmas.{range_good, good_range}
use Rattle.gadget_limbs.specs.Ranges.{range_lines}
use Rattle.air_core.specs.Ring.{field}

pub ranges_good : (count width : ℕ) (xs : List ℕ) → count ≢ 0 → AllByRecursion (λ e. e.count ≢ 0 → GoodEvent e) ((range_lines field) count width xs) → AllByRecursion (λ x. x < 2 ^ width) xs
ranges_good count width [] some h = tt
ranges_good count width (x ∷ xs) some h = (range_good x width ((h.0 some).range refl), ranges_good count width xs some h.1)

pub good_ranges : (count width : ℕ) (xs : List ℕ) → width ≤ 16 → AllByRecursion (λ x. x < 2 ^ width) xs → AllByRecursion (λ e. e.count ≢ 0 → GoodEvent e) ((range_lines field) count width xs)
good_ranges count width [] low h = tt
good_ranges count width (x ∷ xs) low h = (λ some. good_range _ refl (record { v = x; n = width; width = low; below = h.0; is = refl }), good_ranges count width xs low h.1)

pub ranges_count : (count most width : ℕ) (xs : List ℕ) → count ≤ most → AllByRecursion (λ e. e.count ≤ most) ((range_lines field) count width xs)
ranges_count count most width [] h = tt
ranges_count count most width (x ∷ xs) h = (h, ranges_count count most width xs h)

pub ranges_silent : (count width : ℕ) (xs : List ℕ) → count ≡ 0 → AllByRecursion (λ e. e.count ≡ 0) ((range_lines field) count width xs)
ranges_silent count width [] h = tt
ranges_silent count width (x ∷ xs) h = (h, ranges_silent count width xs h)
