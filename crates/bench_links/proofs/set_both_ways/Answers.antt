-- `bench_links::set_both_ways` meets its contract: it sets the metric one way, and then the other way.
use Rattle.std.proofs.Common.{rules}
use Rattle.bench_links.specs.Links.{linked}
use Rattle.bench_links.proofs.set_both_ways.Goals as goal

pub returns : goal.returns
unfolding linked
returns c = search rules
