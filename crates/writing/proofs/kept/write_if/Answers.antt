-- `writing::kept::write_if` meets its contract: it writes the entry, or nothing.
use Rattle.writing.proofs.Listing.{one_place, none_written}
use Rattle.writing.proofs.kept.write_if.Goals as goal

pub returns-in-Some-clause-value : goal.returns-in-Some-clause-value
returns-in-Some-clause-value g c = search (one_place g.E.Entry.entry_octets g.E.Entry.SIZE g.met.E.Entry.long)

pub returns-in-None-clause-out_after : goal.returns-in-None-clause-out_after
returns-in-None-clause-out_after g c = search none_written
