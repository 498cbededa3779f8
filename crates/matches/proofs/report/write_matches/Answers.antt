-- `matches::report::write_matches` meets its contract: it keeps the destinations that are matches.
use Rattle.std.proofs.Common.{rules}
use Rattle.std.specs.Bool.{then_some}
use Rattle.rules.specs.Errors.{matches}
use Rattle.element.specs.Entries.{lost_in}
use Rattle.matches.proofs.Listed.{kept_are}
use Rattle.matches.proofs.report.write_matches.Goals as goal

pub returns-clause-value : goal.returns-clause-value
returns-clause-value c =
    let is_match = matches c.args.table.now c.args.a.clock c.args.a.transmitter in
    rw (← kept_are is_match (lost_in c.args.part.now)) (c.write_kept.ensures.value (λ m. then_some (is_match m) m) (λ m o h. search rules))

pub returns-clause-output_after : goal.returns-clause-output_after
returns-clause-output_after c =
    let is_match = matches c.args.table.now c.args.a.clock c.args.a.transmitter in
    rw (← kept_are is_match (lost_in c.args.part.now)) (c.write_kept.ensures.out_after (λ m. then_some (is_match m) m) (λ m o h. search rules))
