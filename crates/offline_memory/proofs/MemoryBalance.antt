-- Accesses that meet what stands in a list of cells balance with the cells that they leave in the end.
use Rattle.std.proofs.Common.{◌≡◌, ℕ, ◌+◌, Bool, true, false, cond, nat_eq, List, [], ◌∷◌, map, Option, Some, refl, sym, ap, ◌∙◌, subst, arith}
use Rattle.std.specs.List.{AllByRecursion}
use Rattle.std.proofs.lemmas.Bool.{and_parts, eqb-true, eq-eqb, false_from_ne_true}
use Rattle.air_core.specs.Counts.{weight}
use Rattle.air_core.specs.Orders.{Distinct}
use Rattle.offline_memory.specs.Memory.{Cell, Access, met_cell, left_cell, cell_place, is_cell_at, cell_at, after_access, after_all}

abbrev pub AMemory : Type 0
AMemory = ℕ → ℕ → Option (List ℕ × ℕ)

-- each access meets what stands at its place
abbrev pub Meets : AMemory → List Access → Type 0
Meets m [] = Unit {0}
Meets m (a ∷ more) = (m a.space a.pointer ≡ Some (a.old, a.before)) × Meets (after_access a m) more

pub meets_same : (m n : AMemory) → ((s p : ℕ) → m s p ≡ n s p) → (more : List Access) → Meets m more → Meets n more
meets_same m n same [] h = tt
meets_same m n same (a ∷ more) h = (
  sym (same a.space a.pointer) ∙ h.0,
  meets_same (after_access a m) (after_access a n) (λ s p. ap (λ (t : Option (List ℕ × ℕ)). cond (is_cell_at a.space a.pointer s p) (Some (a.new, a.time)) t) (same s p)) more h.1,
)

pub after_all_same : (m n : AMemory) → ((s p : ℕ) → m s p ≡ n s p) → (more : List Access) → (s p : ℕ) → after_all more m s p ≡ after_all more n s p
after_all_same m n same [] s p = same s p
after_all_same m n same (a ∷ more) s p =
    after_all_same (after_access a m) (after_access a n) (λ s p. ap (λ (t : Option (List ℕ × ℕ)). cond (is_cell_at a.space a.pointer s p) (Some (a.new, a.time)) t) (same s p)) more s p

-- ---- places

pub same_place : (s p t q : ℕ) → is_cell_at s p t q ≡ true → (s ≡ t) × (p ≡ q)
same_place s p t q h =
    let parts = and_parts (nat_eq s t) (nat_eq p q) h in
    (eqb-true s t parts.0, eqb-true p q parts.1)

pub is_cell_at_itself : (s p : ℕ) → is_cell_at s p s p ≡ true
is_cell_at_itself s p = rw (eq-eqb s s refl, eq-eqb p p refl) refl

-- ---- the cell that an access leaves, put in the place of the one that it meets

abbrev pub put : Access → List Cell → List Cell
put a [] = []
put a (c ∷ cells) = cond (is_cell_at c.space c.pointer a.space a.pointer) (left_cell a ∷ cells) (c ∷ put a cells)

some_same : (x y : List ℕ × ℕ) → (Some x) ≡ (Some y) → x ≡ y
some_same x y h = cc

-- what stands at its place is the cell that it meets
met_there : (c : Cell) (a : Access) → is_cell_at c.space c.pointer a.space a.pointer ≡ true → ◌≡◌ {A = Option (List ℕ × ℕ)} (Some (c.word, c.time)) (Some (a.old, a.before)) → c ≡ met_cell a
met_there c a here there =
    let place = same_place c.space c.pointer a.space a.pointer here in
    let cell = some_same (c.word, c.time) (a.old, a.before) there in
    let make : ℕ → ℕ → List ℕ → ℕ → Cell = λ space pointer word time. record { space = space; pointer = pointer; word = word; time = time } in
    ap (λ x. make x c.pointer c.word c.time) place.0 ∙ ap (λ x. make a.space x c.word c.time) place.1
    ∙ ap (λ (x : List ℕ × ℕ). make a.space a.pointer x.0 x.1) cell

weight_by : (w : Cell → ℕ) (a : Access) (c : Cell) (cells : List Cell) (b : Bool) → is_cell_at c.space c.pointer a.space a.pointer ≡ b
    → cond b (Some (c.word, c.time)) (cell_at cells a.space a.pointer) ≡ Some (a.old, a.before)
    → (cell_at cells a.space a.pointer ≡ Some (a.old, a.before) → weight w (put a cells) + w (met_cell a) ≡ weight w cells + w (left_cell a))
    → weight w (cond b (left_cell a ∷ cells) (c ∷ put a cells)) + w (met_cell a) ≡ w c + weight w cells + w (left_cell a)
weight_by w a c cells true here there rest = omega (arith, ap w (met_there c a here there))
weight_by w a c cells false here there rest = omega (arith, rest there)

-- it goes in, and the one that was met goes out
pub put_weight : (w : Cell → ℕ) (a : Access) (cells : List Cell) → cell_at cells a.space a.pointer ≡ Some (a.old, a.before) → weight w (put a cells) + w (met_cell a) ≡ weight w cells + w (left_cell a)
put_weight w a [] there = absurd (cc)
put_weight w a (c ∷ cells) there = weight_by w a c cells (is_cell_at c.space c.pointer a.space a.pointer) refl there (put_weight w a cells)

places_by : (a : Access) (c : Cell) (cells : List Cell) (b : Bool) → is_cell_at c.space c.pointer a.space a.pointer ≡ b → map cell_place (put a cells) ≡ map cell_place cells
    → map cell_place (cond b (left_cell a ∷ cells) (c ∷ put a cells)) ≡ cell_place c ∷ map cell_place cells
places_by a c cells true here rest =
    let place = same_place c.space c.pointer a.space a.pointer here in
    let make : ℕ → ℕ → List (ℕ × ℕ) = λ s p. (s, p) ∷ map cell_place cells in
    ap (λ s. make s a.pointer) (sym place.0) ∙ ap (λ p. make c.space p) (sym place.1)
places_by a c cells false here rest = ap (λ (t : List (ℕ × ℕ)). cell_place c ∷ t) rest

-- the places stay
pub put_places : (a : Access) (cells : List Cell) → map cell_place (put a cells) ≡ map cell_place cells
put_places a [] = refl
put_places a (c ∷ cells) = places_by a c cells (is_cell_at c.space c.pointer a.space a.pointer) refl (put_places a cells)

-- two tests for one place and one test for another
both_there : (c : Cell) (a : Access) (s p : ℕ) → is_cell_at a.space a.pointer s p ≡ true → is_cell_at c.space c.pointer s p ≡ true → is_cell_at c.space c.pointer a.space a.pointer ≡ true
both_there c a s p h k =
    let x = same_place a.space a.pointer s p h in
    let y = same_place c.space c.pointer s p k in
    rw (y.0, y.1, x.0, x.1) (is_cell_at_itself s p)

-- the cell behind the first, by where it, the access and the place are
found_by : (c : Cell) (a : Access) (cells : List Cell) (s p : ℕ) (b here mine : Bool)
    → is_cell_at c.space c.pointer a.space a.pointer ≡ b → is_cell_at a.space a.pointer s p ≡ here → is_cell_at c.space c.pointer s p ≡ mine
    → cond b (Some (c.word, c.time)) (cell_at cells a.space a.pointer) ≡ Some (a.old, a.before)
    → (cell_at cells a.space a.pointer ≡ Some (a.old, a.before) → cell_at (put a cells) s p ≡ cond here (Some (a.new, a.time)) (cell_at cells s p))
    → cell_at (cond b (left_cell a ∷ cells) (c ∷ put a cells)) s p ≡ cond here (Some (a.new, a.time)) (cond mine (Some (c.word, c.time)) (cell_at cells s p))
found_by c a cells s p true true mine e f g there rest = rw f refl
found_by c a cells s p true false true e f g there rest =
    let place = same_place c.space c.pointer a.space a.pointer e in
    let same : is_cell_at c.space c.pointer s p ≡ is_cell_at a.space a.pointer s p = rw (place.0, place.1) refl in
    absurd (let z : true ≡ false = sym g ∙ same ∙ f in cc)
found_by c a cells s p true false false e f g there rest = rw f refl
found_by c a cells s p false true true e f g there rest = absurd (let z : true ≡ false = sym (both_there c a s p f g) ∙ e in cc)
found_by c a cells s p false false true e f g there rest = rw g refl
found_by c a cells s p false true false e f g there rest = rw g (rest there)
found_by c a cells s p false false false e f g there rest = rw g (rest there)

pub put_found : (a : Access) (cells : List Cell) (s p : ℕ) → cell_at cells a.space a.pointer ≡ Some (a.old, a.before) → cell_at (put a cells) s p ≡ after_access a (cell_at cells) s p
put_found a [] s p there = absurd (cc)
put_found a (c ∷ cells) s p there =
    found_by c a cells s p (is_cell_at c.space c.pointer a.space a.pointer) (is_cell_at a.space a.pointer s p) (is_cell_at c.space c.pointer s p) refl refl refl there (put_found a cells s p)

-- ---- cells at the same different places

one_cell : (c f : Cell) → cell_place c ≡ cell_place f → ◌≡◌ {A = List ℕ × ℕ} (c.word, c.time) (f.word, f.time) → c ≡ f
one_cell c f place cell =
    let make : ℕ × ℕ → List ℕ × ℕ → Cell = λ x y. record { space = x.0; pointer = x.1; word = y.0; time = y.1 } in
    ap (λ x. make x (c.word, c.time)) place ∙ ap (λ y. make (cell_place f) y) cell

off_place : (c f : Cell) → (cell_place c ≡ cell_place f → ⊥) → is_cell_at c.space c.pointer f.space f.pointer ≡ false
off_place c f differs =
    false_from_ne_true (is_cell_at c.space c.pointer f.space f.pointer) (λ h.
    let e = same_place c.space c.pointer f.space f.pointer h in
    let make : ℕ → ℕ → ℕ × ℕ = λ m n. (m, n) in
    differs (ap (λ m. make m c.pointer) e.0 ∙ ap (λ n. make f.space n) e.1))

abbrev pub Stands : List Cell → Cell → Type 0
Stands cells f = cell_at cells f.space f.pointer ≡ Some (f.word, f.time)

behind_first : (c : Cell) (cells finals : List Cell) → AllByRecursion (λ q. cell_place c ≡ q → ⊥) (map cell_place finals) → AllByRecursion (Stands (c ∷ cells)) finals → AllByRecursion (Stands cells) finals
behind_first c cells [] away h = tt
behind_first c cells (f ∷ finals) away h =
    let off = off_place c f away.0 in
    let head : cell_at (c ∷ cells) f.space f.pointer ≡ cell_at cells f.space f.pointer = rw off refl in
    (sym head ∙ h.0, behind_first c cells finals away.1 h.1)

-- cells at the places of others, which differ, and each of these stands among them: they are the same
pub all_stand : (cells finals : List Cell) → map cell_place cells ≡ map cell_place finals → Distinct (map cell_place finals) → AllByRecursion (Stands cells) finals → cells ≡ finals
all_stand [] [] places distinct stand = refl
all_stand [] (f ∷ finals) places distinct stand = absurd (cc)
all_stand (c ∷ cells) [] places distinct stand = absurd (cc)
all_stand (c ∷ cells) (f ∷ finals) places distinct stand =
    let here : cell_place c ≡ cell_place f = cc in
    let rest : map cell_place cells ≡ map cell_place finals = cc in
    let itself : is_cell_at c.space c.pointer f.space f.pointer ≡ true =
    ap (λ (x : ℕ × ℕ). is_cell_at x.0 x.1 f.space f.pointer) here ∙ is_cell_at_itself f.space f.pointer in
    let first : cell_at (c ∷ cells) f.space f.pointer ≡ Some (c.word, c.time) = rw itself refl in
    let same : c ≡ f = one_cell c f here (some_same (c.word, c.time) (f.word, f.time) (sym first ∙ stand.0)) in
    let away : AllByRecursion (λ q. cell_place c ≡ q → ⊥) (map cell_place finals) = subst (λ (x : ℕ × ℕ). AllByRecursion (λ q. x ≡ q → ⊥) (map cell_place finals)) (sym here) distinct.0 in
    let tails : cells ≡ finals = all_stand cells finals rest distinct.1 (behind_first c cells finals away stand.1) in
    ap (λ (t : Cell). t ∷ cells) same ∙ ap (λ (t : List Cell). f ∷ t) tails

-- ---- the balance

stand_later : (a : Access) (more : List Access) (cells finals : List Cell) → cell_at cells a.space a.pointer ≡ Some (a.old, a.before)
    → AllByRecursion (λ f. after_all (a ∷ more) (cell_at cells) f.space f.pointer ≡ Some (f.word, f.time)) finals
    → AllByRecursion (λ f. after_all more (cell_at (put a cells)) f.space f.pointer ≡ Some (f.word, f.time)) finals
stand_later a more cells [] there h = tt
stand_later a more cells (f ∷ finals) there h =
    (after_all_same (cell_at (put a cells)) (after_access a (cell_at cells)) (λ s p. put_found a cells s p there) more f.space f.pointer ∙ h.0, stand_later a more cells finals there h.1)

-- Accesses that meet the cells, one after the other, and leave the final ones: the cells and what is left
-- weigh as much as the final cells and what is met, by any weight.
pub meets_balance : (w : Cell → ℕ) (accesses : List Access) (cells finals : List Cell) → map cell_place cells ≡ map cell_place finals → Distinct (map cell_place finals) → Meets (cell_at cells) accesses
    → AllByRecursion (λ f. after_all accesses (cell_at cells) f.space f.pointer ≡ Some (f.word, f.time)) finals
    → weight w cells + weight w (map left_cell accesses) ≡ weight w finals + weight w (map met_cell accesses)
meets_balance w [] cells finals places distinct meets finish = omega (arith, ap (weight w) (all_stand cells finals places distinct finish))
meets_balance w (a ∷ more) cells finals places distinct meets finish =
    let rest = meets_balance w more (put a cells) finals (put_places a cells ∙ places) distinct
    (meets_same (after_access a (cell_at cells)) (cell_at (put a cells)) (λ s p. sym (put_found a cells s p meets.0)) more meets.1)
    (stand_later a more cells finals meets.0 finish) in
    omega (arith, rest, put_weight w a cells meets.0)
