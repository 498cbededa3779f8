-- `breaking::report::report_rows` meets its contract. Invariant: what is reported and what is left make the whole.
use Rattle.std.proofs.Common.{◌≡◌, length}
use Rattle.breaking.specs.Links.{breaks}
use Rattle.breaking.proofs.Broken.{Reporting}
use Rattle.breaking.proofs.report.report_rows.Given as goal

abbrev pub invariant-loop-i : goal.invariant-loop-i
invariant-loop-i l =
    (length l.output ≡ length l.initial.output)
    × Reporting (breaks l.link) l.table l.n l.initial.output l.i l.reported.lost l.output
