-- `originate::common::start_request` meets its contract: the fields are those of the point.
use Rattle.std.proofs.Common.{rules}
use Rattle.originate.proofs.Originated.{request_started}
use Rattle.originate.proofs.common.start_request.Goals as goal

pub returns : goal.returns
returns c = search (rules, request_started)
