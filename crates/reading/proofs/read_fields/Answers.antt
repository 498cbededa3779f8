-- `reading::read_fields` meets its contract, type by type.
use Rattle.element.specs.Octets.{read_as}
use Rattle.reading.proofs.Cases.{rann_fields}
use Rattle.reading.proofs.read_fields.Goals as goal

pub returns-in-Rann : goal.returns-in-Rann
returns-in-Rann c = search rann_fields

pub returns-in-Rreq : goal.returns-in-Rreq
unfolding read_as
returns-in-Rreq c = cc

pub returns-in-Rrep : goal.returns-in-Rrep
unfolding read_as
returns-in-Rrep c = cc

pub returns-in-Rerr : goal.returns-in-Rerr
unfolding read_as
returns-in-Rerr c = cc
