-- All that is heard of a segment, in the order of its file.
use Rattle.std.proofs.Common.{◌≡◌, ℕ, List, [], ◌∷◌, ◌++◌, map, refl, ap, subst, ◌∙◌}
use Rattle.std.specs.Prelude.{flat_map}
use Rattle.std.proofs.lemmas.Grind.{flat_map-append}
use Rattle.air_core.specs.declared.event.Event.{Event}
use Rattle.air_core.specs.Sheet.{Sheet, row_events}
use Rattle.air_core.specs.Sink.{Handed, handed_both}
use Rattle.air_core.specs.System.{System, Part, all_events}
use Rattle.acceptance.specs.Events.{said_by_rows}
use Rattle.vm_checker.specs.Heard.{Heard, Hears, room_left}
use Rattle.vm_checker.specs.Kept.{joined}

joined_rows : (sheet : Sheet) (rows : List (List ℕ)) → joined (map (row_events sheet) rows) ≡ flat_map (row_events sheet) rows
joined_rows sheet [] = refl
joined_rows sheet (row ∷ rows) = ap (λ (es : List Event). row_events sheet row ++ es) (joined_rows sheet rows)

pub joined_said : (ps : List Part) (ts : List (List (List ℕ))) → joined (said_by_rows ps ts) ≡ all_events ps ts
joined_said [] ts = refl
joined_said (p ∷ ps) [] = refl
joined_said (p ∷ ps) (rows ∷ ts) =
    flat_map-append (λ (es : List Event). es) (map (row_events p.sheet) rows) (said_by_rows ps ts)
    ∙ ap (λ (es : List Event). es ++ joined (said_by_rows ps ts)) (joined_rows p.sheet rows) ∙ ap (λ (es : List Event). flat_map (row_events p.sheet) rows ++ es) (joined_said ps ts)

pub heard_all : (x : System) (ts : List (List (List ℕ))) (first counts pages : List Event) {a b c d : Heard} → Hears a first → Handed Hears room_left a b (joined (said_by_rows x.parts ts)) → Handed Hears room_left b c counts → Handed Hears room_left c d pages
    → Hears d (first ++ (all_events x.parts ts ++ (counts ++ pages)))
heard_all x ts first counts pages {d = d} h one two three =
    subst (λ (es : List Event). Hears d (first ++ (es ++ (counts ++ pages)))) (joined_said x.parts ts) ((handed_both one (handed_both two three)).lists first h)
