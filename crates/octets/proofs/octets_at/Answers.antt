-- `octets::octets_at` meets its contract: the closure gives the octet at its index after the place.
use Rattle.std.proofs.Common.{of_calls}
use Rattle.octets.proofs.Filled.{filled}
use Rattle.octets.proofs.octets_at.Goals as goal

pub returns : goal.returns
returns g c = filled _ _ c.args.s.now c.args.at g.row.N (λ x r f' called. search of_calls parts 8) c.from_fn.result c.from_fn.ensures.items c.requires
