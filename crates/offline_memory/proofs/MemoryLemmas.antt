-- The sequential memory law, by the list of cells that are outstanding.
use Rattle.std.proofs.Common.{◌≡◌, ℕ, ◌+◌, ◌<◌, inl, inr, Bool, true, false, cond, nat_eq, List, [], ◌∷◌, ◌++◌, map, Option, Some, length, length-append, refl, sym, ap, ◌∙◌, subst, arith}
use Rattle.std.specs.List.{AllByRecursion}
use Rattle.std.proofs.lemmas.Bool.{and_parts, eqb-true, eq-eqb, false_from_ne_true}
use Rattle.air_core.specs.Counts.{once, count_of, IsEquality}
use Rattle.air_core.specs.Orders.{Distinct, Member}
use Rattle.air_core.proofs.ElementLemmas.{all_at, member_image}
use Rattle.air_core.proofs.Counting.{weight_middle, SplitAt, split_at, count_itself, count_first, count_other, member_from_count}
use Rattle.std.specs.Cmp.Lexicographic.{pointwise, same_text}
use Rattle.offline_memory.specs.Memory.{Cell, cell_tuple, same_cell, Access, met_cell, left_cell, InTime, cell_place, is_cell_at, cell_at, after_access, after_all, Replays}

-- Equality of cells is that of their tuples.

same_itself : (a : List ℕ) → pointwise nat_eq a a ≡ true
same_itself [] = refl
same_itself (x ∷ xs) = rw (eq-eqb x x refl) (same_itself xs)

last_same : (xs ys : List ℕ) (a b : ℕ) → xs ++ a ∷ [] ≡ ys ++ b ∷ [] → (xs ≡ ys) × (a ≡ b)
last_same [] [] a b h = (refl, cc)
last_same [] (y ∷ ys) a b h = absurd (omega (arith, ap length h, length-append ys (b ∷ [])))
last_same (x ∷ xs) [] a b h = absurd (omega (arith, ap length h, length-append xs (a ∷ [])))
last_same (x ∷ xs) (y ∷ ys) a b h =
    let head : x ≡ y = cc in
    let tail : xs ++ a ∷ [] ≡ ys ++ b ∷ [] = cc in
    let rest = last_same xs ys a b tail in
    (ap (λ (t : ℕ). t ∷ xs) head ∙ ap (λ (t : List ℕ). y ∷ t) rest.0, rest.1)

cell_from_tuple : (a b : Cell) → cell_tuple a ≡ cell_tuple b → a ≡ b
cell_from_tuple a b h =
    let s : a.space ≡ b.space = cc in
    let p : a.pointer ≡ b.pointer = cc in
    let rest : a.word ++ a.time ∷ [] ≡ b.word ++ b.time ∷ [] = cc in
    let last = last_same a.word b.word a.time b.time rest in
    let make : ℕ → ℕ → List ℕ → ℕ → Cell = λ space pointer word time. record { space = space; pointer = pointer; word = word; time = time } in
    ap (λ x. make x a.pointer a.word a.time) s ∙ ap (λ x. make b.space x a.word a.time) p
    ∙ ap (λ x. make b.space b.pointer x a.time) last.0 ∙ ap (λ x. make b.space b.pointer b.word x) last.1

pub same_cell-IsEquality : IsEquality same_cell
same_cell-IsEquality = record {
  sound = λ a b h. cell_from_tuple a b (same_text (cell_tuple a) (cell_tuple b) (sym h));
  itself = λ a. same_itself (cell_tuple a);
}

-- The cells that are outstanding, between two accesses.

-- they stand at the places of the final cells, and balance with what is left of the accesses
pub record Outstanding (cells finals : List Cell) (accesses : List Access) : Type 0 where
  pub places : map cell_place cells ≡ map cell_place finals
  pub distinct : Distinct (map cell_place finals)
  pub counts : (c : Cell) → count_of same_cell c cells + count_of same_cell c (map left_cell accesses)
      ≡ count_of same_cell c finals + count_of same_cell c (map met_cell accesses)

-- the next access meets one of them, and puts the one that it leaves there
pub record Met (cells finals : List Cell) (a : Access) (more : List Access) : Type 0 where
  pub front : List Cell
  pub back : List Cell
  pub is : cells ≡ front ++ met_cell a ∷ back
  pub next : Outstanding (front ++ left_cell a ∷ back) finals more

places_middle : (front : List Cell) (x y : Cell) (back : List Cell) → cell_place x ≡ cell_place y → map cell_place (front ++ x ∷ back) ≡ map cell_place (front ++ y ∷ back)
places_middle [] x y back h = ap (λ (p : ℕ × ℕ). p ∷ map cell_place back) h
places_middle (c ∷ front) x y back h = ap (λ (t : List (ℕ × ℕ)). cell_place c ∷ t) (places_middle front x y back h)

-- accesses of later times leave other cells
none_left : (c : Cell) (more : List Access) → AllByRecursion (λ a. c.time < a.time) more → count_of same_cell c (map left_cell more) ≡ 0
none_left c [] later = refl
none_left c (a ∷ more) later =
    let other : once (same_cell (left_cell a) c) ≡ 0 = count_other same_cell same_cell-IsEquality (left_cell a) c (λ e. omega (arith, later.0, ap (λ (x : Cell). x.time) e)) in
    omega (arith, other, none_left c more later.1)

later_times : (before : ℕ) (a : Access) (more : List Access) → before < a.time → AllByRecursion (λ b. a.time < b.time) more → AllByRecursion (λ b. before < b.time) more
later_times before a [] h up = tt
later_times before a (b ∷ more) h up = (omega (arith, h, up.0), later_times before a more h up.1)

met_at : (cells finals : List Cell) (a : Access) (more : List Access) (front back : List Cell) → cells ≡ front ++ met_cell a ∷ back → Outstanding cells finals (a ∷ more) → Met cells finals a more
met_at cells finals a more front back there due = record {
  front = front;
  back = back;
  is = there;
  next = record {
    places = places_middle front (left_cell a) (met_cell a) back refl ∙ sym (ap (map cell_place) there) ∙ due.places;
    distinct = due.distinct;
    counts = λ d.
        omega (
          arith,
          due.counts d,
          ap (count_of same_cell d) there,
          weight_middle (λ y. once (same_cell y d)) front (met_cell a) back,
          weight_middle (λ y. once (same_cell y d)) front (left_cell a) back,
        );
  };
}

meet_by : (cells finals : List Cell) (a : Access) (more : List Access) → Outstanding cells finals (a ∷ more) → SplitAt (λ y. same_cell y (met_cell a)) cells → Met cells finals a more
meet_by cells finals a more due s =
    let same : s.found ≡ met_cell a = same_cell-IsEquality.sound s.found (met_cell a) s.passes in
    met_at cells finals a more s.front s.back (subst (λ (t : Cell). cells ≡ s.front ++ t ∷ s.back) same s.is) due

pub meet : (cells finals : List Cell) (a : Access) (more : List Access) → InTime (a ∷ more) → Outstanding cells finals (a ∷ more) → Met cells finals a more
meet cells finals a more time due =
    let none : count_of same_cell (met_cell a) (map left_cell (a ∷ more)) ≡ 0 =
    none_left (met_cell a) (a ∷ more) (time.before.0, later_times a.before a more time.before.0 time.rises.0) in
    let itself : once (same_cell (met_cell a) (met_cell a)) ≡ 1 = count_itself same_cell same_cell-IsEquality (met_cell a) in
    meet_by cells finals a more due (split_at (λ y. same_cell y (met_cell a)) cells (omega (arith, due.counts (met_cell a), none, itself)))

pub later_in_time : (a : Access) (more : List Access) → InTime (a ∷ more) → InTime more
later_in_time a more time = record { rises = time.rises.1; before = time.before.1 }

-- Cells at the same different places that count alike are the same.

place_not_there : (x : Cell) (ys : List Cell) → AllByRecursion (λ p. cell_place x ≡ p → ⊥) (map cell_place ys) → Member x ys → ⊥
place_not_there x [] away h = elim h [ ]
place_not_there x (y ∷ ys) away (inl e) = away.0 (sym (ap cell_place e))
place_not_there x (y ∷ ys) away (inr h) = place_not_there x ys away.1 h

pub same_cells : (xs ys : List Cell) → map cell_place xs ≡ map cell_place ys → Distinct (map cell_place ys) → ((c : Cell) → count_of same_cell c xs ≡ count_of same_cell c ys) → xs ≡ ys
same_cells [] [] places distinct counts = refl
same_cells [] (y ∷ ys) places distinct counts = absurd (cc)
same_cells (x ∷ xs) [] places distinct counts = absurd (cc)
same_cells (x ∷ xs) (y ∷ ys) places distinct counts =
    let here : cell_place x ≡ cell_place y = cc in
    let rest : map cell_place xs ≡ map cell_place ys = cc in
    let member : Member x (y ∷ ys) = member_from_count same_cell same_cell-IsEquality x (y ∷ ys) (omega (arith, counts x, count_first same_cell same_cell-IsEquality x xs)) in
    let away : AllByRecursion (λ p. cell_place x ≡ p → ⊥) (map cell_place ys) = subst (λ (q : ℕ × ℕ). AllByRecursion (λ p. q ≡ p → ⊥) (map cell_place ys)) (sym here) distinct.0 in
    let same : x ≡ y = elim member [ inl e ↦ sym e | inr h ↦ absurd (place_not_there x ys away h) ] in
    let tails : xs ≡ ys = same_cells xs ys rest distinct.1 (λ c. omega (arith, counts c, ap (λ (t : Cell). once (same_cell t c)) same)) in
    ap (λ (t : Cell). t ∷ xs) same ∙ ap (λ (t : List Cell). y ∷ t) tails

pub all_met : (cells finals : List Cell) → Outstanding cells finals [] → cells ≡ finals
all_met cells finals due = same_cells cells finals due.places due.distinct (λ c. omega (arith, due.counts c))

-- What stands at a place.

same_place : (s p t q : ℕ) → is_cell_at s p t q ≡ true → (s ≡ t) × (p ≡ q)
same_place s p t q h =
    let parts = and_parts (nat_eq s t) (nat_eq p q) h in
    (eqb-true s t parts.0, eqb-true p q parts.1)

is_place_itself : (s p : ℕ) → is_cell_at s p s p ≡ true
is_place_itself s p = rw (eq-eqb s s refl, eq-eqb p p refl) refl

other_place : (c : Cell) (s p : ℕ) → (cell_place c ≡ (s, p) → ⊥) → is_cell_at c.space c.pointer s p ≡ false
other_place c s p differs =
    false_from_ne_true (is_cell_at c.space c.pointer s p) (λ h.
    let e = same_place c.space c.pointer s p h in
    let make : ℕ → ℕ → ℕ × ℕ = λ m n. (m, n) in
    differs (ap (λ m. make m c.pointer) e.0 ∙ ap (λ n. make s n) e.1))

place_in_middle : (front : List Cell) (x : Cell) (back : List Cell) → Member (cell_place x) (map cell_place (front ++ x ∷ back))
place_in_middle [] x back = inl refl
place_in_middle (c ∷ front) x back = inr (place_in_middle front x back)

-- the cell in the middle is what stands at its place
cell_at_middle : (front : List Cell) (x : Cell) (back : List Cell) → Distinct (map cell_place (front ++ x ∷ back)) → cell_at (front ++ x ∷ back) x.space x.pointer ≡ Some (x.word, x.time)
cell_at_middle [] x back distinct = rw (is_place_itself x.space x.pointer) refl
cell_at_middle (c ∷ front) x back distinct =
    let off : is_cell_at c.space c.pointer x.space x.pointer ≡ false =
    other_place c x.space x.pointer (all_at (λ p. cell_place c ≡ p → ⊥) (map cell_place (front ++ x ∷ back)) (cell_place x) (place_in_middle front x back) distinct.0) in
    rw off (cell_at_middle front x back distinct.1)

by_place : {X : Type 0} (b c : Bool) (u v w : X) → (b ≡ true → c ≡ false) → cond b u (cond c v w) ≡ cond c v (cond b u w)
by_place true true u v w apart = absurd (let h : true ≡ false = apart refl in cc)
by_place true false u v w apart = refl
by_place false true u v w apart = refl
by_place false false u v w apart = refl

again : {X : Type 0} (b : Bool) (u v w : X) → cond b u w ≡ cond b u (cond b v w)
again true u v w = refl
again false u v w = refl

-- the cell that an access leaves, put in the place of the one that it met
cell_at_after : (front : List Cell) (a : Access) (back : List Cell) → Distinct (map cell_place (front ++ met_cell a ∷ back)) → (s p : ℕ)
    → cell_at (front ++ left_cell a ∷ back) s p ≡ after_access a (cell_at (front ++ met_cell a ∷ back)) s p
cell_at_after [] a back distinct s p = again (is_cell_at a.space a.pointer s p) (Some (a.new, a.time)) (Some (a.old, a.before)) (cell_at back s p)
cell_at_after (c ∷ front) a back distinct s p =
    let away : cell_place c ≡ (a.space, a.pointer) → ⊥ = all_at (λ q. cell_place c ≡ q → ⊥) (map cell_place (front ++ met_cell a ∷ back)) (a.space, a.pointer) (place_in_middle front (met_cell a) back) distinct.0 in
    let apart : is_cell_at a.space a.pointer s p ≡ true → is_cell_at c.space c.pointer s p ≡ false =
    λ h. other_place c s p (λ e. let k = same_place a.space a.pointer s p h in
    let make : ℕ → ℕ → ℕ × ℕ = λ m n. (m, n) in
    away (e ∙ sym (ap (λ m. make m a.pointer) k.0 ∙ ap (λ n. make s n) k.1))) in
    ap (λ (t : Option (List ℕ × ℕ)). cond (is_cell_at c.space c.pointer s p) (Some (c.word, c.time)) t) (cell_at_after front a back distinct.1 s p)
    ∙ sym (by_place (is_cell_at a.space a.pointer s p) (is_cell_at c.space c.pointer s p) (Some (a.new, a.time)) (Some (c.word, c.time)) (cell_at (front ++ met_cell a ∷ back) s p) apart)

-- memories that agree at each place replay alike
replays_same : (m n : ℕ → ℕ → Option (List ℕ × ℕ)) → ((s p : ℕ) → m s p ≡ n s p) → (more : List Access) (final : ℕ → ℕ → Option (List ℕ × ℕ)) → Replays m more final → Replays n more final
replays_same m n same [] final h = λ s p. sym (same s p) ∙ h s p
replays_same m n same (a ∷ more) final h = (
  sym (same a.space a.pointer) ∙ h.0,
  replays_same (after_access a m) (after_access a n) (λ s p. ap (λ (t : Option (List ℕ × ℕ)). cond (is_cell_at a.space a.pointer s p) (Some (a.new, a.time)) t) (same s p)) more final h.1,
)

-- the places of the cells before an access differ
distinct_met : (cells finals : List Cell) (a : Access) (more : List Access) → Outstanding cells finals (a ∷ more) → (met : Met cells finals a more) → Distinct (map cell_place (met.front ++ met_cell a ∷ met.back))
distinct_met cells finals a more due met = subst (λ (t : List (ℕ × ℕ)). Distinct t) (sym (sym (ap (map cell_place) met.is) ∙ due.places)) due.distinct

pub replays : (cells finals : List Cell) (accesses : List Access) → InTime accesses → Outstanding cells finals accesses → Replays (cell_at cells) accesses (cell_at finals)
replays cells finals [] time due = λ s p. ap (λ (t : List Cell). cell_at t s p) (all_met cells finals due)
replays cells finals (a ∷ more) time due =
    let met : Met cells finals a more = meet cells finals a more time due in
    let distinct = distinct_met cells finals a more due met in
    let rest : Replays (cell_at (met.front ++ left_cell a ∷ met.back)) more (cell_at finals) = replays (met.front ++ left_cell a ∷ met.back) finals more (later_in_time a more time) met.next in (
      ap (λ (t : List Cell). cell_at t a.space a.pointer) met.is ∙ cell_at_middle met.front (met_cell a) met.back distinct,
      replays_same (cell_at (met.front ++ left_cell a ∷ met.back)) (after_access a (cell_at cells))
          (λ s p. cell_at_after met.front a met.back distinct s p ∙ ap (λ (t : List Cell). after_access a (cell_at t) s p) (sym met.is)) more (cell_at finals) rest,
    )

-- each access is at a place of the final cells
pub inside : (cells finals : List Cell) (accesses : List Access) → InTime accesses → Outstanding cells finals accesses → AllByRecursion (λ a. Member (a.space, a.pointer) (map cell_place finals)) accesses
inside cells finals [] time due = tt
inside cells finals (a ∷ more) time due =
    let met : Met cells finals a more = meet cells finals a more time due in (
      subst (Member (a.space, a.pointer)) (sym (ap (map cell_place) met.is) ∙ due.places) (place_in_middle met.front (met_cell a) met.back),
      inside (met.front ++ left_cell a ∷ met.back) finals more (later_in_time a more time) met.next,
    )

-- accesses cut in two: the first part leads to the memory after it, and the second goes on from there
pub Replays-append : (m final : ℕ → ℕ → Option (List ℕ × ℕ)) (xs ys : List Access) → Replays m (xs ++ ys) final → Replays m xs (after_all xs m) × Replays (after_all xs m) ys final
Replays-append m final [] ys h = (λ s p. refl, h)
Replays-append m final (a ∷ xs) ys h =
    let rest = Replays-append (after_access a m) final xs ys h.1 in
    ((h.0, rest.0), rest.1)

-- where they all lead
pub Replays-ends : (m final : ℕ → ℕ → Option (List ℕ × ℕ)) (xs : List Access) → Replays m xs final → (s p : ℕ) → after_all xs m s p ≡ final s p
Replays-ends m final [] h = h
Replays-ends m final (a ∷ xs) h = Replays-ends (after_access a m) final xs h.1

-- what stands at the place of one of several cells at different places
pub cell_at_member : (cells : List Cell) (c : Cell) → Distinct (map cell_place cells) → Member c cells → cell_at cells c.space c.pointer ≡ Some (c.word, c.time)
cell_at_member [] c distinct h = elim h [ ]
cell_at_member (x ∷ cells) c distinct (inl e) =
    subst (λ (y : Cell). cell_at (x ∷ cells) y.space y.pointer ≡ Some (y.word, y.time)) e (cell_at_middle [] x cells distinct)
cell_at_member (x ∷ cells) c distinct (inr h) =
    let off : is_cell_at x.space x.pointer c.space c.pointer ≡ false =
    other_place x c.space c.pointer (all_at (λ q. cell_place x ≡ q → ⊥) (map cell_place cells) (cell_place c) (member_image cell_place c cells h) distinct.0) in
    rw off (cell_at_member cells c distinct.1 h)

-- a place that no access is at keeps what stands there
pub kept : (xs : List Access) (m : ℕ → ℕ → Option (List ℕ × ℕ)) (s p : ℕ) → AllByRecursion (λ a. cell_place (met_cell a) ≡ (s, p) → ⊥) xs → after_all xs m s p ≡ m s p
kept [] m s p away = refl
kept (a ∷ xs) m s p away =
    let off : is_cell_at a.space a.pointer s p ≡ false = other_place (met_cell a) s p away.0 in
    kept xs (after_access a m) s p away.1 ∙ rw off refl
