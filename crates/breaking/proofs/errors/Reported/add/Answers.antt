-- `breaking::errors::Reported::add` meets its contract: it writes a start if one is begun, and then the entry.
use Rattle.breaking.proofs.Reported.{entry_added}
use Rattle.breaking.proofs.errors.Reported.add.Goals as goal

pub returns-clause-out_after : goal.returns-clause-out_after
returns-clause-out_after c = search entry_added
