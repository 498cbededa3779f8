-- `bench_points::Bench::new` meets its contract: there are no links, and all else is 0.
use Rattle.std.proofs.Common.{ℕ, List, ap}
use Rattle.octets.specs.LittleEndian.{zeros}
use Rattle.octets.proofs.Laws.{octets_zero}
use Rattle.bench_points.specs.InCode.{Contents}
use Rattle.bench_points.proofs.Bench.new.Goals as goal

abbrev with_links : List (List ℕ) → Contents
with_links links = record { points = 0; frames = 0; clock = 0; tables = zeros 8704; slots = zeros 33792; links = links }

pub invariant_of-result-clause-table_octets : goal.invariant_of-result-clause-table_octets
invariant_of-result-clause-table_octets c = octets_zero 8704

pub invariant_of-result-clause-slot_octets : goal.invariant_of-result-clause-slot_octets
invariant_of-result-clause-slot_octets c = octets_zero 33792

pub returns : goal.returns
returns c = ap with_links c.none-links.ensures
