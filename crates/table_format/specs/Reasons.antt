-- A reason in words and decimal numbers.
use Rattle.std.specs.Prelude.{ℕ, List, [], ◌∷◌, ◌++◌, codes, flat_map}
use Rattle.std.specs.Fmt.{decimal}
use Rattle.table_format.specs.declared.reason.Reason.{Reason}
use Rattle.table_format.specs.declared.reason.Reason.TheVariants as reason

abbrev pub behind_comma : ℕ → List ℕ
behind_comma n = codes "," ++ decimal n

-- numbers in round brackets, parted by commas
abbrev pub tuple_text : List ℕ → List ℕ
tuple_text [] = codes "()"
tuple_text (n ∷ ns) = codes "(" ++ decimal n ++ flat_map behind_comma ns ++ codes ")"

abbrev pub reason_text : Reason → List ℕ
reason_text (reason.Cut offset) = codes "cut " ++ decimal offset
reason_text reason.Magic = codes "magic"
reason_text (reason.Version version) = codes "version " ++ decimal version
reason_text (reason.Marker offset) = codes "marker " ++ decimal offset
reason_text reason.TooManySegments = codes "too-many-segments"
reason_text (reason.EarlyEnd segment) = codes "early-end " ++ decimal segment
reason_text (reason.NotCanonical offset) = codes "not-canonical " ++ decimal offset
reason_text (reason.Height segment table) = codes "height " ++ (decimal segment ++ (codes " " ++ decimal table))
reason_text (reason.SlotSum segment) = codes "slot-sum " ++ decimal segment
reason_text (reason.Row segment table row constraint) =
    codes "row " ++ (decimal segment ++ (codes " " ++ (decimal table ++ (codes " " ++ (decimal row ++ (codes " " ++ decimal constraint))))))
reason_text (reason.CountEntry offset) = codes "count-entry " ++ decimal offset
reason_text (reason.PageOrder segment page) = codes "page-order " ++ (decimal segment ++ (codes " " ++ decimal page))
reason_text (reason.PageSpace segment page) = codes "page-space " ++ (decimal segment ++ (codes " " ++ decimal page))
reason_text (reason.Unbalanced segment bus tuple sent received) =
    codes "unbalanced " ++ (decimal segment ++ (codes " " ++ (decimal bus ++ (codes " " ++ (tuple_text tuple ++ (codes " " ++ (decimal sent ++ (codes " " ++ decimal received))))))))
reason_text (reason.Siblings segment needed given) =
    codes "siblings " ++ (decimal segment ++ (codes " " ++ (decimal needed ++ (codes " " ++ decimal given))))
reason_text (reason.RootStart segment) = codes "root-start " ++ decimal segment
reason_text (reason.RootEnd segment) = codes "root-end " ++ decimal segment
reason_text (reason.PcChain segment) = codes "pc-chain " ++ decimal segment
reason_text (reason.NotTerminate segment) = codes "not-terminate " ++ decimal segment
reason_text reason.NoEnd = codes "no-end"
reason_text (reason.ExitCode stated found) = codes "exit-code " ++ (decimal stated ++ (codes " " ++ decimal found))
reason_text reason.Public = codes "public"
reason_text (reason.Trailing offset) = codes "trailing " ++ decimal offset
