-- `reading::read` meets its contract, refusal by refusal.
use Rattle.std.proofs.Common.{rules}
use Rattle.reading.specs.Reading.{reading}
use Rattle.reading.proofs.Cases.{two_octets, one_octet, fixed_part_there, read_7, read_8, read_all}
use Rattle.reading.proofs.read.Goals as goal

pub returns-then-has_wrong_length : goal.returns-then-has_wrong_length
unfolding reading
returns-then-has_wrong_length c = search rules

pub bounds-element-0 : goal.bounds-element-0
bounds-element-0 c = search one_octet

pub returns-in_default : goal.returns-in_default
returns-in_default c = search read_7

pub fits_kind-requires : goal.fits_kind-requires
fits_kind-requires c = search two_octets

pub returns-then-not-fits_kind : goal.returns-then-not-fits_kind
returns-then-not-fits_kind c = search read_8

pub read_fields-requires : goal.read_fields-requires
read_fields-requires c = search fixed_part_there

pub returns : goal.returns
returns c = search read_all
