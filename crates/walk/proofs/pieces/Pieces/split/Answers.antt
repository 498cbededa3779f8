-- `walk::pieces::Pieces::split` meets its contract: octets that pass refusal 1 are pieces as the ghost fields say.
use Rattle.walk.proofs.Tables.{divisible, split_few, split_whole, split_with_head, split_not_longer}
use Rattle.walk.proofs.pieces.Pieces.split.Goals as goal

pub nonzero_div-long : goal.nonzero_div-long
nonzero_div-long c = search divisible

pub invariant_of-result : goal.invariant_of-result
invariant_of-result c = search (divisible, split_few, split_whole, split_with_head, split_not_longer)
