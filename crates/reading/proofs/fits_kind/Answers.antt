-- `reading::fits_kind` meets its contract: both parts of its test are those of the definition.
use Rattle.element.specs.Layout.{fits}
use Rattle.reading.proofs.fits_kind.Goals as goal

pub returns : goal.returns
unfolding fits
returns c = cc
