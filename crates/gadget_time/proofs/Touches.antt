-- The accesses of a row that are handed over one behind the other.
use Rattle.std.proofs.Common.{◌≡◌, ℕ, ◌+◌, ◌*◌, ◌<◌, List, [], ◌∷◌, ◌++◌, length, take, drop, get_or, sym, ap, ◌∙◌, arith, length-append, append-nil, append_assoc, take-append-drop, refl}
use Rattle.std.proofs.lemmas.List.{take_more}
use Rattle.std.proofs.lemmas.Grind.{flat_map-append}
use Rattle.air_core.specs.declared.event.Event.{Event}
use Rattle.gadget_time.specs.declared.touch.Touch.{Touch}
use Rattle.gadget_time.specs.Told.{touch_lines, touches_lines}
use Rattle.air_core.specs.Ring.{field}

-- a list of accesses, up to a place and from it on
pub touches_split : (hi time : ℕ) (touches : List (Touch ℕ)) (i : ℕ) (touch : Touch ℕ) → i < length touches → touch ≡ get_or touches i touch
    → touches_lines field hi time touches ≡ touches_lines field hi time (take i touches) ++ (touch_lines field hi time touch ++ touches_lines field hi time (drop (i + 1) touches))
touches_split hi time touches i touch h is =
    ap (touches_lines field hi time) (sym (take-append-drop (i + 1) touches) ∙ ap (λ (t : List (Touch ℕ)). t ++ drop (i + 1) touches) (take_more touches i touch h))
    ∙ flat_map-append (touch_lines field hi time) (take i touches ++ (get_or touches i touch ∷ [])) (drop (i + 1) touches)
    ∙ ap (λ (t : List Event). t ++ touches_lines field hi time (drop (i + 1) touches)) (flat_map-append (touch_lines field hi time) (take i touches) (get_or touches i touch ∷ []))
    ∙ append_assoc (touches_lines field hi time (take i touches)) (touches_lines field hi time (get_or touches i touch ∷ [])) (touches_lines field hi time (drop (i + 1) touches))
    ∙ ap (λ (t : Touch ℕ). touches_lines field hi time (take i touches) ++ (touches_lines field hi time (t ∷ []) ++ touches_lines field hi time (drop (i + 1) touches))) (sym is)
    ∙ ap (λ (t : List Event). touches_lines field hi time (take i touches) ++ (t ++ touches_lines field hi time (drop (i + 1) touches))) (append-nil (touch_lines field hi time touch))

pub length-touches : (hi time : ℕ) (touches : List (Touch ℕ)) → length (touches_lines field hi time touches) ≡ 4 * length touches
unfolding touch_lines
length-touches hi time [] = refl
length-touches hi time (t ∷ ts) = omega (arith, length-append (touch_lines field hi time t) (touches_lines field hi time ts), length-touches hi time ts)
