-- Defines the octet that stands for each command. PROTOCOL, 'Bench'.
use Rattle.std.specs.Prelude.{ℕ}
use Rattle.bench_commands.specs.declared.Command.{Command}
use Rattle.bench_commands.specs.declared.Command.TheVariants.{Point, Advance, Link, Ask, Announce, Deliver, Break, Walk}

abbrev pub octet_of : Command → ℕ
octet_of Point = 1
octet_of Advance = 2
octet_of Link = 3
octet_of Ask = 4
octet_of Announce = 5
octet_of Deliver = 6
octet_of Break = 7
octet_of Walk = 8
