-- `probe::probe_faults` meets its contract, for a refusal and for an element of any type.
use Rattle.std.proofs.Common.{refl}
use Rattle.probe.specs.Probes.{faults_in}
use Rattle.probe.proofs.probe_faults.Goals as goal

pub returns-in_default : goal.returns-in_default
unfolding faults_in
returns-in_default c = rw (← c.read.ensures, c.in_default.is) refl

pub returns : goal.returns
unfolding faults_in
returns c = rw (← c.read.ensures, c.in-Ok.is) (cc)
