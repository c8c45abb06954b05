-- The summary of a play: ten lines, each a word and a number (this project's profile).
use Rattle.std.specs.Prelude.{◌++◌, ℕ, List, codes}
use Rattle.std.specs.Fmt.{decimal}
use Rattle.course.specs.declared.tally.Tally.{Tally}

abbrev pub summary_line : List ℕ → ℕ → List ℕ
summary_line word number = word ++ (codes " " ++ (decimal number ++ codes "\n"))

abbrev pub summary_of : Tally → List ℕ
summary_of t = summary_line (codes "EVENTS") t.events
    ++ summary_line (codes "DONE") t.done
    ++ summary_line (codes "REFUSED") t.refused
    ++ summary_line (codes "STOPPED") t.stopped
    ++ summary_line (codes "NONE") t.none
    ++ summary_line (codes "TEXTS") t.texts
    ++ summary_line (codes "LIVE") t.live
    ++ summary_line (codes "HELD") t.held
    ++ summary_line (codes "CLOSING") t.closing
    ++ summary_line (codes "ENDED") t.ended
