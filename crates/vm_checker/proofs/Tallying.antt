-- What is kept of rows, one after another.
use Rattle.std.proofs.Common.{◌≡◌, ℕ, ◌+◌, ◌<◌, ◌≤◌, Bool, true, false, cond, ◌||◌, nat_eq, List, [], ◌∷◌, ◌++◌, refl, sym, ap, subst, ◌∙◌, arith, append_assoc, append-nil, inl, inr}
use Rattle.std.specs.Prelude.{count_by}
use Rattle.std.proofs.lemmas.Grind.{flat_map-append}
use Rattle.std.proofs.lemmas.List.Sums.{sum_by-cons, sum_by-append}
use Rattle.air_core.specs.declared.event.Event.{Event}
use Rattle.air_core.specs.declared.hint.HintWord.{HintWord}
use Rattle.air_core.specs.Sink.{Handed, handed_none, handed_both}
use Rattle.acceptance.specs.Events.{is_valid}
use Rattle.acceptance.specs.Spelled.{AreHints}
use Rattle.vm_checker.specs.declared.tally.Tally.{Tally}
use Rattle.vm_checker.specs.Heard.{Heard, Hears, is_path, room_left}
use Rattle.vm_checker.specs.Kept.{Tallied, joined}

-- ---- hints

hints_both : (a b : List (List Event)) (f g : List HintWord) → AreHints a f → AreHints b g → AreHints (a ++ b) (f ++ g)
hints_both [] b f g h k = subst (λ (x : List HintWord). AreHints b (x ++ g)) (sym h) k
hints_both (events ∷ a) b f g (inl h) k = inl (h.0, hints_both a b f g h.1 k)
hints_both (events ∷ a) b f g (inr (hint, rest, is, parts, more)) k = inr (hint, rest ++ g, is, ap (λ (x : List HintWord). x ++ g) parts, hints_both a b rest g more k)

-- ---- rows

pub tallied_none : (AreRows : Type 0) (tally : Tally) → Tallied AreRows [] tally tally
tallied_none AreRows tally = record {
  heard = handed_none tally.said;
  valid = omega arith;
  found = [];
  kept = sym (append-nil tally.hints.items);
  hints = λ rows. refl;
}

pub tallied_both : {A B C : Type 0} {first second : List (List Event)} {old mid new : Tally} → (C → A) → (C → B) → Tallied A first old mid → Tallied B second mid new → Tallied C (first ++ second) old new
tallied_both {first = first} {second} {old} {mid} {new} f g a b = record {
  heard = subst (Handed Hears room_left old.said new.said) (sym (flat_map-append (λ (events : List Event). events) first second)) (handed_both a.heard b.heard);
  valid = omega (arith, a.valid, b.valid, sum_by-append (λ (events : List Event). cond (is_valid events) 1 0) first second);
  found = a.found ++ b.found;
  kept = b.kept ∙ ap (λ (x : List HintWord). x ++ b.found) a.kept ∙ append_assoc old.hints.items a.found b.found;
  hints = λ rows. hints_both first second a.found b.found (a.hints (f rows)) (b.hints (g rows));
}

-- ---- one row

-- some event is on the execution bus exactly where their number rises
-- an event is on the execution bus exactly where their number isn't 0
abbrev number_of : Bool → ℕ → Type 0
number_of true n = 0 < n
number_of false n = n ≡ 0

number_more : (here more : Bool) (n : ℕ) → number_of more n → number_of (here || more) (cond here 1 0 + n)
number_more true more n h = omega arith
number_more false more n h = subst (number_of more) (omega arith) h

path_is : (events : List Event) → number_of (is_valid events) (count_by is_path events)
path_is [] = refl
path_is (e ∷ es) = subst (number_of (is_valid (e ∷ es))) (sym (sum_by-cons (λ (x : Event). cond (is_path x) 1 0) e es)) (number_more (nat_eq e.bus 0) (is_valid es) (count_by is_path es) (path_is es))

valid_by : (b : Bool) (n : ℕ) → number_of b n → 0 < n → b ≡ true
valid_by true n h low = refl
valid_by false n h low = absurd (omega (arith, h, low))

silent_by : (b : Bool) (n : ℕ) → number_of b n → n ≡ 0 → b ≡ false
silent_by true n h low = absurd (omega (arith, h, low))
silent_by false n h low = refl

one_valid : (events : List Event) (before : ℕ) → 0 < count_by is_path events → before + 1 ≡ before + count_by is_valid (events ∷ [])
one_valid events before low = rw (valid_by (is_valid events) (count_by is_path events) (path_is events) low) refl

none_valid : (events : List Event) (before : ℕ) → count_by is_path events ≡ 0 → before ≡ before + count_by is_valid (events ∷ [])
none_valid events before none = rw (silent_by (is_valid events) (count_by is_path events) (path_is events) none) (omega arith)

path_more : (old new : Heard) (events : List Event) → (list : List Event) × Hears old list → Handed Hears room_left old new events → new.path ≡ old.path + count_by is_path events
path_more old new events h handed =
    let k = handed.lists h.0 h.1 in
    omega (arith, k.path, h.1.path, sum_by-append (λ (e : Event). cond (is_path e) 1 0) h.0 events)

-- the row's events were heard, and it was counted where it is valid
pub record Counted (events : List Event) (old : Tally) (said : Heard) (mid : Tally) : Type 0 where
  pub heard : mid.said ≡ said
  pub hints : mid.hints ≡ old.hints
  pub valid : mid.valid ≡ old.valid + count_by is_valid (events ∷ [])

module _ (events : List Event) (old : Tally) (said : Heard) (h : (list : List Event) × Hears old.said list) (handed : Handed Hears room_left old.said said events) {before after : ℕ} (first : before ≡ old.said.path) (second : after ≡ said.path) where
  pub counted_more : {mid : Tally} → before < after → mid ≡ record { said = said; hints = old.hints; valid = old.valid + 1 } → Counted events old said mid
  counted_more lt is = record {
    heard = ap (λ (t : Tally). t.said) is;
    hints = ap (λ (t : Tally). t.hints) is;
    valid = ap (λ (t : Tally). t.valid) is ∙ one_valid events old.valid (omega (arith, lt, first, second, path_more old.said said events h handed));
  }

  pub counted_same : {mid : Tally} → after ≤ before → mid ≡ record { said = said; hints = old.hints; valid = old.valid } → Counted events old said mid
  counted_same le is = record {
    heard = ap (λ (t : Tally). t.said) is;
    hints = ap (λ (t : Tally). t.hints) is;
    valid = ap (λ (t : Tally). t.valid) is ∙ none_valid events old.valid (omega (arith, le, first, second, path_more old.said said events h handed));
  }

-- what a row says, and its hint
pub tallied_one : {AreRows : Type 0} (events : List Event) (old new : Tally) (found : List HintWord) → Handed Hears room_left old.said new.said events → new.valid ≡ old.valid + count_by is_valid (events ∷ [])
    → new.hints.items ≡ old.hints.items ++ found → (AreRows → AreHints (events ∷ []) found) → Tallied AreRows (events ∷ []) old new
tallied_one events old new found handed valid kept hints = record {
  heard = subst (Handed Hears room_left old.said new.said) (sym (append-nil events)) handed;
  valid = valid;
  found = found;
  kept = kept;
  hints = hints;
}
