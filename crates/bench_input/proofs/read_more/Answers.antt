-- `bench_input::read_more` meets its contract: the unread octets are moved, and more octets may come after them.
use Rattle.bench_input.proofs.Refilling.{more_read}
use Rattle.bench_input.proofs.read_more.Goals as goal

pub returns-clause-extends : goal.returns-clause-extends
returns-clause-extends g c = search more_read
